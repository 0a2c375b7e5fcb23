-- Calls of `new` and `take` themselves, one after the other: each call is the very promise of the function, by its name.
use Rattle.std.specs.Prelude.{ℕ, ◌+◌, ◌≤◌, List, [], ◌∷◌, ◌++◌, true, ◌≡◌, length}
use Rattle.receiver.specs.declared.receiver.Receiver.{Receiver}
use Rattle.receiver.specs.declared.receiver.Started.{Started}
use Rattle.receiver.specs.declared.receiver.Taken.{Taken}
use Rattle.receiver.specs.Table.{answer_words}
use Rattle.receiver.specs.Receiver.{refusal_for, Starts, Takes}
use Rattle.receiver.specs.Delivery.{messages_delivered}
use Rattle.feed.specs.Session.{Message, Datagram, Session, OfKind, AllOfKind, last_of, messages_from}
use Rattle.feed.specs.Faithful.{Opens}

-- calls of `take`: the first takes the receiver r, each later one the receiver that the call before returned; the last returned x,
-- and ms are the messages that the answers deliver
pub data Calls : Receiver → List Datagram → Receiver → List Message → Type 0 where
  none : {r : Receiver} → Calls r [] r []
  call : {r x : Receiver} {d : Datagram} {ds : List Datagram} {ms : List Message} (t : Taken) → Takes t r d
      → Calls t.receiver ds x ms
      → Calls r (d ∷ ds) x (messages_delivered (answer_words t.answer) d ++ ms)

-- a call of `new` that returned the receiver r and no refusal, at a number from 1 to one past the session's last; it was
-- given the session's name, or a blank one, and then lists begin with what it refuses and the one that names it
pub record StartCall (s : Session) (start : ℕ) (r : Receiver) (refused naming : List Datagram) : Type 0 where
  pub name : List ℕ
  pub limit : ℕ
  pub returned : Started
  pub call : Starts returned name start limit
  pub not_refused : returned.refusal.number ≡ 0
  pub leaves : r ≡ returned.receiver
  pub opens : Opens s name (refusal_for r) refused naming
  pub from_one : 1 ≤ start
  pub to_past_last : start ≤ last_of s + 1

-- ms are exactly the true messages from the start number to just below the number of the receiver x
pub record AreTrue (s : Session) (start : ℕ) (x : Receiver) (ms : List Message) : Type 0 where
  pub from_start : start ≤ x.next.0
  pub to_last : x.next.0 ≤ last_of s + 1
  pub exactly : ms ≡ messages_from s start x.next.0

-- calls that returned y and delivered ns do no worse than calls that returned x and delivered ms: at least as many
-- messages, and y is ended if x is
pub record NoWorse (x y : Receiver) (ms ns : List Message) : Type 0 where
  pub as_many : length ms ≤ length ns
  pub ended_too : x.ended ≡ true → y.ended ≡ true

-- condition 3: the calls deliver exactly the true messages from the start number to just below the number of the
-- receiver that the last one returned; one more datagram at any place does no worse; behind the naming
-- one, where there is one
pub record CallsDeliverTrue : Type 0 where
  pub delivers_true : (s : Session) (start : ℕ) (r x : Receiver) (refused naming ds : List Datagram) (ms : List Message)
      → StartCall s start r refused naming
      → AllOfKind s (naming ++ ds)
      → Calls r (refused ++ (naming ++ ds)) x ms
      → AreTrue s start x ms
  pub one_more : (s : Session) (start : ℕ) (r x y : Receiver) (refused naming before rest : List Datagram) (d : Datagram)
      (ms ns : List Message)
      → StartCall s start r refused naming
      → AllOfKind s (naming ++ (before ++ rest))
      → OfKind s d
      → Calls r (refused ++ (naming ++ (before ++ rest))) x ms
      → Calls r (refused ++ (naming ++ (before ++ d ∷ rest))) y ns
      → NoWorse x y ms ns
