-- A host that hands datagrams to the exported receiver one by one, keeps the state's bytes between two calls, and walks
-- what each answer delivers. Each record of a call is the very promise of the function.
use Rattle.std.specs.Prelude.{ℕ, ◌+◌, ◌≤◌, List, [], ◌∷◌, ◌++◌, Bool, true, ◌≡◌, length, get_or, take, drop}
use Rattle.wire.specs.Bytes.{AreBytes}
use Rattle.receiver.specs.Delivery.{delivery_cursor}
use Rattle.feed.specs.Session.{Datagram, Message, Session, OfKind, AllOfKind, last_of, messages_from}
use Rattle.feed.specs.Machine.{after, delivered}
use Rattle.feed.specs.Faithful.{Opens}
use Rattle.receiver.specs.Receiver.{refusal_for}
use Rattle.receiver.specs.Condition3.{plain}
use Rattle.host_cursor.specs.Cursor.{cursor_size}
use Rattle.host_cursor.specs.Calls.{SetsCursor, NextMessage}
use Rattle.host_receiver.specs.Receiver.{receiver_size, receiver_in}
use Rattle.exports_receiver.specs.Calls.{StartsReceiver, TakesDatagram}

-- calls of `eiderwagon_mold_next` over the datagram d, the first lent the cursor's bytes l, each later one those that
-- the call before left, until none is there: ms are the parts of d at the offsets and lengths that they answer
pub data Walked (d : Datagram) : List ℕ → List Message → Type 0 where
  stop : {l m : List ℕ} (r : ℕ) (ws ws' : List ℕ) → 3 ≤ length ws → NextMessage r l m d ws ws' → get_or ws' 0 0 ≡ 0
      → Walked d l []
  next : {l m : List ℕ} {ms : List Message} (r : ℕ) (ws ws' : List ℕ) → 3 ≤ length ws → NextMessage r l m d ws ws'
      → get_or ws' 0 0 ≡ 1
      → Walked d m ms
      → Walked d l (take (get_or ws' 2 0) (drop (get_or ws' 1 0) d) ∷ ms)

-- what a host gets by a call of `eiderwagon_receiver_take` that returned r and laid ws: where the first word is 1,
-- deliver, it walks from where `eiderwagon_receiver_walk` sets its cursor
pub data Gets (d : Datagram) (r : ℕ) (ws : List ℕ) : List Message → Type 0 where
  by_refusal : (r ≡ 0 → ⊥) → Gets d r ws []
  by_another : r ≡ 0 → (get_or ws 0 0 ≡ 1 → ⊥) → Gets d r ws []
  by_deliver : {c m : List ℕ} {ms : List Message} (q : ℕ) → r ≡ 0 → get_or ws 0 0 ≡ 1 → cursor_size ≤ length c
      → SetsCursor q c m (delivery_cursor d (get_or ws 2 0) (get_or ws 3 0))
      → Walked d m ms
      → Gets d r ws ms

-- a call that is lent its four words: the state's bytes l become m, and the host gets the messages ms
pub record TakeCall (l : List ℕ) (d : Datagram) (m : List ℕ) (ms : List Message) : Type 0 where
  pub are_bytes : AreBytes d
  pub code : ℕ
  pub words : List ℕ
  pub laid : List ℕ
  pub room : 4 ≤ length words
  pub call : TakesDatagram code l m d words laid
  pub gets : Gets d code laid ms

-- a list of datagrams: the first call is lent the bytes l, each later one those that the call before left, and the
-- last leaves m; the host gets the messages ms
pub data Handed : List ℕ → List Datagram → List ℕ → List Message → Type 0 where
  none : {l : List ℕ} → Handed l [] l []
  one : {l m n : List ℕ} {d : Datagram} {ds : List Datagram} {ms ns : List Message} → TakeCall l d m ms
      → Handed m ds n ns
      → Handed l (d ∷ ds) n (ms ++ ns)

-- the receiver in the bytes that are left, and the messages that the host got, are those of the receiver of the table
pub record Hands (l m : List ℕ) (ds : List Datagram) (ms : List Message) : Type 0 where
  pub leaves : receiver_in m ≡ after plain (receiver_in l) ds
  pub gives : ms ≡ delivered plain (receiver_in l) ds

-- so it is over every list, whatever was refused
unfoldable pub HandsOn : Type 0
HandsOn = (l m : List ℕ) (ds : List Datagram) (ms : List Message) → receiver_size ≤ length l → Handed l ds m ms
    → Hands l m ds ms

-- ---- condition 3 of what a host gets

-- a start that isn't refused, at a number from 1 to one past the session's last: the state's bytes become m. It was given
-- the session's name, or a blank one, and then lists begin with what is refused and the one that names the receiver
pub record StartCall (s : Session) (start : ℕ) (m : List ℕ) (refused naming : List Datagram) : Type 0 where
  pub name : List ℕ
  pub limit : ℕ
  pub lent : List ℕ
  pub room : receiver_size ≤ length lent
  pub call : StartsReceiver 0 name start limit lent m
  pub opens : Opens s name (refusal_for (receiver_in m)) refused naming
  pub from_one : 1 ≤ start
  pub to_past_last : start ≤ last_of s + 1

-- the number and the end of the receiver in some bytes
abbrev pub number_in : List ℕ → ℕ
number_in n = (receiver_in n).next.0

abbrev pub ended_in : List ℕ → Bool
ended_in n = (receiver_in n).ended

-- the host gets exactly the true messages from the start number to just below the receiver's number
pub record GetsTrue (s : Session) (start : ℕ) (n : List ℕ) (ms : List Message) : Type 0 where
  pub from_start : start ≤ number_in n
  pub to_last : number_in n ≤ last_of s + 1
  pub exactly : ms ≡ messages_from s start (number_in n)

-- one run of calls gives at least as many as another, and leaves the receiver ended if that did
pub record NoWorse (n n' : List ℕ) (ms ms' : List Message) : Type 0 where
  pub as_many : length ms ≤ length ms'
  pub ended_too : ended_in n ≡ true → ended_in n' ≡ true

-- over every list of datagrams, of condition 3's kind from the naming one on; and one more of them does no worse, at any
-- place, behind the naming one where there is one
pub record HostGetsTrue : Type 0 where
  pub gets_true : (s : Session) (start : ℕ) (m n : List ℕ) (refused naming ds : List Datagram) (ms : List Message)
      → StartCall s start m refused naming → AllOfKind s (naming ++ ds) → Handed m (refused ++ (naming ++ ds)) n ms
      → GetsTrue s start n ms
  pub one_more : (s : Session) (start : ℕ) (m n n' : List ℕ) (refused naming before rest : List Datagram) (d : Datagram)
      (ms ms' : List Message)
      → StartCall s start m refused naming
      → AllOfKind s (naming ++ (before ++ rest))
      → OfKind s d
      → Handed m (refused ++ (naming ++ (before ++ rest))) n ms
      → Handed m (refused ++ (naming ++ (before ++ d ∷ rest))) n' ms'
      → NoWorse n n' ms ms'
