-- A run of calls is the run of the receiver, and gives what it delivers.
use Prim.Native.Nat.{ℕ, ◌<◌, ◌≤◌}
use mathlib.Core.List.{List, [], ◌∷◌, ◌++◌}
use mathlib.Core.Bool.{Bool, true, false}
use mathlib.Core.Path.{◌≡◌, refl, ap, sym, ◌∙◌, subst}
use native.Mathlib.Omega.{arith}
use lib.ListN.{length, get_or}
use lib.Seq.{take_all}
use lib.Dec.{eqb}
use borrow.Author.Tests.{le-ltb, eqb-true}
use Rattle.std.specs.Prelude.{if◌then◌else◌}
use Rattle.wire.specs.Bounds.{session_size}
use Rattle.wire.specs.Refusals.{bad_setting}
use Rattle.wire.specs.Words.{says}
use Rattle.wire.specs.Parts.{first_bytes}
use Rattle.receiver.specs.declared.receiver.Receiver.{Receiver}
use Rattle.receiver.specs.Table.{deliver}
use Rattle.receiver.specs.Receiver.{refusal_for, receiver_start_refusal, start_receiver, answer_of, receiver_after}
use Rattle.receiver.specs.Delivery.{messages_delivered, delivery_cursor, DeliveryVisits}
use Rattle.feed.specs.Session.{Datagram, Message, Session, OfKind, AllOfKind, messages_from}
use Rattle.feed.specs.Machine.{number_after, after, delivered}
use Rattle.feed.specs.Faithful.{Opens, Faithful}
use Rattle.receiver.specs.Condition3.{plain, Condition3For}
use Rattle.receiver.proofs.DeliveryLaws.{delivery-visits}
use Rattle.receiver.proofs.ConditionLaws.{condition_3}
use Rattle.host_answers.specs.Answers.{short, unless_sized, words_of}
use Rattle.host_answers.proofs.AnswerLaws.{or-none}
use Rattle.host_answers.proofs.LadderLaws.{first-zero}
use Rattle.host_cursor.specs.Cursor.{cursor_size}
use Rattle.host_cursor.specs.Calls.{SetsCursor}
use Rattle.host_receiver.specs.Receiver.{receiver_size, receiver_in}
use Rattle.host_receiver.proofs.RefusalLaws.{said-refusal, whole-ladder}
use Rattle.host_receiver.proofs.SaidLaws.{Says, delivers, gives_none, said, nothing, length-words, word-laid, deliver-word}
use Rattle.host_receiver.proofs.TakenLaws.{kept-size, same_size, takes-on}
use Rattle.host_receiver.specs.Replies.{answer_number}
use Rattle.exports_receiver.specs.Calls.{StartsReceiver}
use Rattle.exports_receiver.specs.Run.{Walked, Gets, by_refusal, by_another, by_deliver, TakeCall, Handed, none, one, Hands, HandsOn, StartCall, number_in, ended_in, GetsTrue, NoWorse, HostGetsTrue}
use Rattle.exports_receiver.proofs.WalkLaws.{walked}

-- ---- one call

module _ {l : List ℕ} {d : Datagram} {m : List ℕ} {ms : List Message} (t : TakeCall l d m ms) (h : receiver_size ≤ length l) where
  code_is : t.code ≡ refusal_for (receiver_in l) d
  unfolding short
  code_is =
      t.call.answers.returns
      ∙ rw (
        length-words answer_number 4 (answer_of (receiver_in l) d).which (answer_of (receiver_in l) d).values,
        le-ltb (length t.words) 4 t.room,
        le-ltb (length l) receiver_size h,
        said-refusal (receiver_in l) d,
      )
      (sym (or-none _) ∙ sym (whole-ladder (receiver_in l) d))

  took : receiver_in m ≡ receiver_after (receiver_in l) d
  took = takes-on d l m t.code t.call.keeps h code_is

  laid : t.code ≡ 0 → (i : ℕ) → i < 4 → get_or t.laid i 0 ≡ get_or (words_of answer_number 4 (answer_of (receiver_in l) d)) i 0
  laid z i j = word-laid (answer_of (receiver_in l) d) t.code _ t.words t.laid i t.call.answers z j

  -- the words of a deliver answer
  word : (first count skipped i : ℕ) → t.code ≡ 0 → answer_of (receiver_in l) d ≡ says deliver (first ∷ count ∷ skipped ∷ []) → i < 4
      → get_or t.laid i 0 ≡ get_or (1 ∷ first ∷ count ∷ skipped ∷ []) i 0
  word first count skipped i z e j = deliver-word first count skipped i _ _ e (laid z i j)

  -- what the host gets, by what the answer says
  by-none : t.code ≡ 0 → (get_or t.laid 0 0 ≡ 1 → ⊥) → Says (answer_of (receiver_in l) d) d → [] ≡ messages_delivered (answer_of (receiver_in l) d) d
  by-none z n (delivers first count skipped e _ _) = absurd (n (word first count skipped 0 z e (omega arith)))
  by-none z n (gives_none o e) = sym e

  by-walk : {c k : List ℕ} {ns : List Message} (q : ℕ) → t.code ≡ 0 → get_or t.laid 0 0 ≡ 1 → cursor_size ≤ length c
      → SetsCursor q c k (delivery_cursor d (get_or t.laid 2 0) (get_or t.laid 3 0)) → Walked d k ns → Says (answer_of (receiver_in l) d) d
      → ns ≡ messages_delivered (answer_of (receiver_in l) d) d
  unfolding DeliveryVisits
  by-walk q z e room sets walk (delivers first count skipped f _ _) =
      walked d (delivery_cursor d count skipped) (messages_delivered (answer_of (receiver_in l) d) d) count
      (delivery-visits (receiver_in l) d first count skipped t.are_bytes f).visits
      room
      (rw (word first count skipped 2 z f (omega arith), word first count skipped 3 z f (omega arith)) at sets)
      walk
  by-walk q z e room sets walk (gives_none o f) = absurd (o (sym (laid z 0 (omega arith)) ∙ e))

  got : {ns : List Message} → Gets d t.code t.laid ns → ns ≡ messages_delivered (answer_of (receiver_in l) d) d
  got (by_refusal z) = sym (nothing (receiver_in l) d (λ e. z (code_is ∙ e)))
  got (by_another z n) = by-none z n (said (receiver_in l) d (sym code_is ∙ z))
  got (by_deliver q z e room sets walk) = by-walk q z e room sets walk (said (receiver_in l) d (sym code_is ∙ z))

  gives : ms ≡ messages_delivered (answer_of (receiver_in l) d) d
  gives = got t.gets

-- ---- all calls

run : {l m : List ℕ} {ds : List Datagram} {ms : List Message} → receiver_size ≤ length l → Handed l ds m ms → Hands l m ds ms
unfolding after delivered
run h none = record { leaves = refl; gives = refl }
run {l} {m} {ds} {ms} h (one {ds = es} t r) =
    let rest = run (omega (arith, same_size _ _ _ t.code t.call.keeps)) r in
    record {
      leaves = rest.leaves ∙ ap (λ (x : Receiver). after plain x es) (took t h);
      gives = rw (gives t h, rest.gives, took t h);
    }

pub hands_on : HandsOn
unfolding HandsOn
hands_on l m ds ms h r = run h r

-- ---- condition 3

-- a code of 0 says that the name is ten bytes, and that the start isn't refused
pub record Good (name : List ℕ) (start limit : ℕ) : Type 0 where
  pub ten : length name ≡ session_size
  pub taken : receiver_start_refusal start limit ≡ 0

good : (name : List ℕ) (start limit : ℕ) (l m : List ℕ) → StartsReceiver 0 name start limit l m → Good name start limit
unfolding unless_sized
good name start limit l m s = go (eqb (length name) session_size) refl (first-zero _ _ (sym s.returns))
  where
    go : (b : Bool) → eqb (length name) session_size ≡ b → (if b then receiver_start_refusal start limit else bad_setting) ≡ 0 → Good name start limit
    go true e f = record { ten = eqb-true _ _ e; taken = f }
    go false e f = absurd (omega arith)

own_name : (name : List ℕ) → length name ≡ session_size → first_bytes session_size name ≡ name
unfolding first_bytes
own_name name ten = rw (le-ltb (length name) session_size (omega arith)) (take_all session_size name (omega arith))

-- the receiver in a started state's bytes, and condition 3 of it
module _ {s : Session} {start : ℕ} {m : List ℕ} {refused naming : List Datagram} (c : StartCall s start m refused naming) where
  good_start : Good c.name start c.limit
  good_start = good c.name start c.limit c.lent m c.call

  fresh : receiver_in m ≡ start_receiver c.name start c.limit
  fresh = c.call.keeps.reads_back refl c.room ∙ rw (own_name c.name good_start.ten)

  enough : receiver_size ≤ length m
  enough = let size : length m ≡ length c.lent = kept-size c.call.keeps refl in let h = c.room in omega arith

  faithful : Faithful plain s start (receiver_in m) refused naming
  unfolding Condition3For
  faithful =
      rw fresh
      (condition_3 s c.name start c.limit refused naming good_start.taken c.from_one c.to_past_last
      (subst (λ (x : Receiver). Opens s c.name (refusal_for x) refused naming) fresh c.opens))

gets_true : (s : Session) (start : ℕ) (m n : List ℕ) (refused naming ds : List Datagram) (ms : List Message) → StartCall s start m refused naming → AllOfKind s (naming ++ ds)
    → Handed m (refused ++ (naming ++ ds)) n ms → GetsTrue s start n ms
gets_true s start m n refused naming ds ms c kind handed =
    let hands = run (enough c) handed in
    let true-ones = (faithful c).delivers_true ds kind in
    let number : number_in n ≡ number_after plain (receiver_in m) (refused ++ (naming ++ ds)) = ap (λ (r : Receiver). r.next.0) hands.leaves in
    record {
      from_start = rw number true-ones.from_start;
      to_last = rw number true-ones.to_last;
      exactly = hands.gives ∙ true-ones.exactly ∙ ap (messages_from s start) (sym number);
    }

one_more : (s : Session) (start : ℕ) (m n n' : List ℕ) (refused naming before rest : List Datagram) (d : Datagram) (ms ms' : List Message) → StartCall s start m refused naming
    → AllOfKind s (naming ++ (before ++ rest)) → OfKind s d → Handed m (refused ++ (naming ++ (before ++ rest))) n ms → Handed m (refused ++ (naming ++ (before ++ d ∷ rest))) n' ms'
    → NoWorse n n' ms ms'
one_more s start m n n' refused naming before rest d ms ms' c kind this shorter longer =
    let hands = run (enough c) shorter in
    let more = run (enough c) longer in
    let worse = (faithful c).one_more before rest d kind this in
    let was : ended_in n ≡ (after plain (receiver_in m) (refused ++ (naming ++ (before ++ rest)))).ended = ap (λ (r : Receiver). r.ended) hands.leaves in
    let is : ended_in n' ≡ (after plain (receiver_in m) (refused ++ (naming ++ (before ++ d ∷ rest)))).ended = ap (λ (r : Receiver). r.ended) more.leaves in
    record { as_many = rw (hands.gives, more.gives) worse.as_many; ended_too = λ e. is ∙ worse.ended_too (sym was ∙ e) }

pub host-gets-true : HostGetsTrue
host-gets-true = record { gets_true = gets_true; one_more = one_more }
