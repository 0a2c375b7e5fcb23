-- A host that hands datagrams to the exported receiver one by one, and keeps the state's bytes and the slots between two
-- calls. Before each datagram is taken it walks over what that will deliver. Each record of a call is the very promise
-- of the function.
use Rattle.std.specs.Prelude.{ℕ, ◌+◌, ◌≤◌, List, [], ◌∷◌, ◌++◌, Bool, true, ◌≡◌, length, get_or, take, drop, eqb, if◌then◌else◌}
use Rattle.wire.specs.Bytes.{AreBytes}
use Rattle.feed.specs.Session.{Datagram, Message, Session, OfKind, AllOfKind, last_of, messages_from}
use Rattle.feed.specs.Machine.{after, delivered}
use Rattle.feed.specs.Faithful.{Opens}
use Rattle.early_holding.specs.Holding.{slot_bytes, next_of}
use Rattle.early_receiver.specs.Early.{early_refusal}
use Rattle.early_condition_3.specs.Condition3.{keeper}
use Rattle.host_early.specs.Early.{early_size, lent_in}
use Rattle.host_early.specs.Walk.{walk_size}
use Rattle.exports_early_messages.specs.Calls.{SetsWalk, NextPart}
use Rattle.exports_early.specs.Calls.{StartsKeeper, TakesLent}

-- the part that words name: of the slots where the second is 1, else of the datagram
abbrev pub part_in : List ℕ → List ℕ → List ℕ → Message
part_in ss d ws = take (get_or ws 3 0) (drop (get_or ws 2 0) (if eqb (get_or ws 1 0) 1 then ss else d))

-- calls of `eiderwagon_early_next`, the state's bytes l and the slots ss lent to each, the first lent the walk's bytes w,
-- each later one those that the call before left, until none is there: ms are the parts that they answer
pub data Walked (l ss : List ℕ) (d : Datagram) : List ℕ → List Message → Type 0 where
  stop : {w w' : List ℕ} (r : ℕ) (ws ws' : List ℕ) → 4 ≤ length ws → NextPart r w w' l ss d ws ws' → get_or ws' 0 0 ≡ 0
      → Walked l ss d w []
  next : {w w' : List ℕ} {ms : List Message} (r : ℕ) (ws ws' : List ℕ) → 4 ≤ length ws → NextPart r w w' l ss d ws ws'
      → get_or ws' 0 0 ≡ 1
      → Walked l ss d w' ms
      → Walked l ss d w (part_in ss d ws' ∷ ms)

-- what a host gets before it takes d: it walks from where `eiderwagon_early_walk` sets its walk
pub record Gets (l ss : List ℕ) (d : Datagram) (ms : List Message) : Type 0 where
  pub code : ℕ
  pub before : List ℕ
  pub walk_set : List ℕ
  pub room : walk_size ≤ length before
  pub call : SetsWalk code l ss d before walk_set
  pub walked : Walked l ss d walk_set ms

-- a call that is lent its seven words: the state's bytes l become m, the slots ss become ss', and the host gets the
-- messages ms
pub record TakeCall (l ss : List ℕ) (d : Datagram) (m ss' : List ℕ) (ms : List Message) : Type 0 where
  pub gets : Gets l ss d ms
  pub code : ℕ
  pub words : List ℕ
  pub laid : List ℕ
  pub room : 7 ≤ length words
  pub call : TakesLent code l m ss ss' d words laid

-- a list of datagrams: each call is lent the bytes and the slots that the call before left
pub data Handed : List ℕ → List ℕ → List Datagram → List ℕ → List ℕ → List Message → Type 0 where
  none : {l ss : List ℕ} → Handed l ss [] l ss []
  one : {l ss m st n su : List ℕ} {d : Datagram} {ds : List Datagram} {ms ns : List Message} → TakeCall l ss d m st ms
      → Handed m st ds n su ns
      → Handed l ss (d ∷ ds) n su (ms ++ ns)

-- the receiver and the slots that are left, and the messages that the host got, are those of order 6's receiver
pub record Hands (l ss m st : List ℕ) (ds : List Datagram) (ms : List Message) : Type 0 where
  pub leaves : lent_in m st ≡ after keeper (lent_in l ss) ds
  pub gives : ms ≡ delivered keeper (lent_in l ss) ds

-- so it is over every list, whatever was refused
unfoldable pub HandsOn : Type 0
HandsOn = (l ss m st : List ℕ) (ds : List Datagram) (ms : List Message) → early_size ≤ length l
    → length ss ≡ slot_bytes
    → AreBytes l
    → Handed l ss ds m st ms
    → Hands l ss m st ds ms

-- ---- condition 3 of what a host gets

-- a start that isn't refused, at a number from 1 to one past the session's last, with slots of any bytes: the state's
-- bytes become m. It was given the session's name, or a blank one, and then lists begin with what is refused and the one
-- that names the receiver
pub record StartCall (s : Session) (start : ℕ) (m ss : List ℕ) (refused naming : List Datagram) : Type 0 where
  pub name : List ℕ
  pub limit : ℕ
  pub state : List ℕ
  pub room : early_size ≤ length state
  pub slots : length ss ≡ slot_bytes
  pub call : StartsKeeper 0 name start limit state m
  pub opens : Opens s name (early_refusal (lent_in m ss)) refused naming
  pub from_one : 1 ≤ start
  pub to_past_last : start ≤ last_of s + 1

-- the number and the end of the receiver in some bytes
abbrev pub number_in : List ℕ → List ℕ → ℕ
number_in n st = next_of (lent_in n st).receiver

abbrev pub ended_in : List ℕ → List ℕ → Bool
ended_in n st = (lent_in n st).receiver.base.ended

-- the host gets exactly the true messages from the start number to just below the receiver's number
pub record GetsTrue (s : Session) (start : ℕ) (n st : List ℕ) (ms : List Message) : Type 0 where
  pub from_start : start ≤ number_in n st
  pub to_last : number_in n st ≤ last_of s + 1
  pub exactly : ms ≡ messages_from s start (number_in n st)

-- one run of calls gives at least as many as another, and leaves the receiver ended if that did
pub record NoWorse (n st n' st' : List ℕ) (ms ms' : List Message) : Type 0 where
  pub as_many : length ms ≤ length ms'
  pub ended_too : ended_in n st ≡ true → ended_in n' st' ≡ true

-- over every list of datagrams, of condition 3's kind from the naming one on; and one more of them does no worse, at any
-- place, behind the naming one where there is one
pub record HostGetsTrue : Type 0 where
  pub gets_true : (s : Session) (start : ℕ) (m ss n st : List ℕ) (refused naming ds : List Datagram) (ms : List Message)
      → StartCall s start m ss refused naming → AllOfKind s (naming ++ ds)
      → Handed m ss (refused ++ (naming ++ ds)) n st ms
      → GetsTrue s start n st ms
  pub one_more : (s : Session) (start : ℕ) (m ss n st n' st' : List ℕ) (refused naming before rest : List Datagram)
      (d : Datagram) (ms ms' : List Message)
      → StartCall s start m ss refused naming
      → AllOfKind s (naming ++ (before ++ rest))
      → OfKind s d
      → Handed m ss (refused ++ (naming ++ (before ++ rest))) n st ms
      → Handed m ss (refused ++ (naming ++ (before ++ d ∷ rest))) n' st' ms'
      → NoWorse n st n' st' ms ms'
