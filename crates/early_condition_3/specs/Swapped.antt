-- Order 13: two neighbours that swap places do no harm.
use Rattle.std.specs.Prelude.{ℕ, ◌+◌, ◌<◌, ◌≤◌, List, [], ◌∷◌, ◌++◌, ◌≡◌, true, false, length, get_or, take}
use Rattle.wire.specs.Bounds.{session_size}
use Rattle.moldudp64.specs.Header.{number_of, count_of}
use Rattle.moldudp64.specs.Downstream.{data_packet, kind_of, refusal_of, messages_of}
use Rattle.feed.specs.Session.{Datagram, Session, last_of, OfKind, AllOfKind}
use Rattle.feed.specs.Machine.{after, delivered}
use Rattle.feed.specs.Faithful.{Opens}
use Rattle.receiver.specs.Receiver.{receiver_start_refusal}
use Rattle.early_holding.specs.Holding.{slot_bytes, length_bytes, slot_count, slot_size, Lent, lent, next_of, is_held}
use Rattle.early_holding.specs.Holding.{held_message}
use Rattle.early_receiver.specs.Early.{start_early, early_refusal}
use Rattle.early_condition_3.specs.Condition3.{keeper}

-- a data datagram of the session's name and of condition 3's kind, whose numbers all lie from n to n + 64 and whose
-- messages have at most 1,024 bytes
pub record Near (s : Session) (n : ℕ) (d : Datagram) : Type 0 where
  pub is_well_formed : refusal_of d ≡ 0
  pub name : take session_size d ≡ s.name
  pub is_of_data : kind_of d ≡ data_packet
  pub of_kind : OfKind s d
  pub from_next : n ≤ number_of d
  pub to_reach : number_of d + count_of d ≤ n + slot_count + 1
  pub short : (i : ℕ) → i < length (messages_of d) → length (get_or (messages_of d) i []) ≤ slot_size

-- equal n, held numbers and held messages; slot bytes outside held messages may differ
pub record SameHeld (a b : Lent) : Type 0 where
  pub number : next_of a.receiver ≡ next_of b.receiver
  pub numbers : (j : ℕ) → is_held a.receiver j ≡ is_held b.receiver j
  pub messages : (j : ℕ) → is_held a.receiver j ≡ true → held_message a j ≡ held_message b j

-- given in either order, they leave the same, and deliver the same joined
pub record EitherOrder (r : Lent) (a b : Datagram) : Type 0 where
  pub leaves : SameHeld (after keeper r (a ∷ b ∷ [])) (after keeper r (b ∷ a ∷ []))
  pub delivers : delivered keeper r (a ∷ b ∷ []) ≡ delivered keeper r (b ∷ a ∷ [])

-- for a named receiver brought to n, not ended, by one of condition 3's lists
unfoldable pub SwappedNeighbours : Type 0
SwappedNeighbours = (s : Session) (name : List ℕ) (start limit : ℕ) (lengths slots : List ℕ)
    (refused naming ds : List Datagram) (r : Lent) (a b : Datagram)
    → receiver_start_refusal start limit ≡ 0 → 1 ≤ start
    → start ≤ last_of s + 1
    → length lengths ≡ length_bytes
    → length slots ≡ slot_bytes
    → Opens s name (early_refusal (lent (start_early name start limit) lengths slots)) refused naming
    → AllOfKind s (naming ++ ds)
    → r ≡ after keeper (lent (start_early name start limit) lengths slots) (refused ++ (naming ++ ds))
    → r.receiver.base.ended ≡ false
    → Near s (next_of r.receiver) a
    → Near s (next_of r.receiver) b
    → EitherOrder r a b
