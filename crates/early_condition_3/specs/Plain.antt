-- The receiver that keeps early messages never delivers less than the plain one.
use Rattle.std.specs.Prelude.{ℕ, ◌+◌, ◌≤◌, List, ◌++◌, ◌≡◌, true, length}
use Rattle.feed.specs.Session.{Datagram, Session, last_of, AllOfKind}
use Rattle.feed.specs.Machine.{after, delivered}
use Rattle.feed.specs.Faithful.{Opens}
use Rattle.receiver.specs.declared.receiver.Receiver.{Receiver}
use Rattle.receiver.specs.Receiver.{receiver_start_refusal, start_receiver}
use Rattle.receiver.specs.Condition3.{plain}
use Rattle.early_holding.specs.Holding.{slot_bytes, length_bytes, Lent, lent}
use Rattle.early_receiver.specs.Early.{start_early, early_refusal}
use Rattle.early_condition_3.specs.Condition3.{keeper}

-- over one list the receiver e delivers as many messages as the plain one r, and has ended if that has
pub record NoLess (e : Lent) (r : Receiver) (ds : List Datagram) : Type 0 where
  pub as_many : length (delivered plain r ds) ≤ length (delivered keeper e ds)
  pub ended_too : (after plain r ds).ended ≡ true → (after keeper e ds).receiver.base.ended ≡ true

-- for both started alike, over every list of condition 3's kind
unfoldable pub NeverLess : Type 0
NeverLess = (s : Session) (name : List ℕ) (start limit : ℕ) (lengths slots : List ℕ) (refused naming ds : List Datagram)
    → receiver_start_refusal start limit ≡ 0 → 1 ≤ start
    → start ≤ last_of s + 1
    → length lengths ≡ length_bytes
    → length slots ≡ slot_bytes
    → Opens s name (early_refusal (lent (start_early name start limit) lengths slots)) refused naming
    → AllOfKind s (naming ++ ds)
    → NoLess (lent (start_early name start limit) lengths slots) (start_receiver name start limit)
    (refused ++ (naming ++ ds))
