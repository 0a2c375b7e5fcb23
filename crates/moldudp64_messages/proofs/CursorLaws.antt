-- Laws of the cursor: what it stands at, how it moves, and that it walks the messages.
use mathlib.Core.Path.{◌≡◌, refl, ap, sym, ◌∙◌}
use mathlib.Core.List.{List, [], ◌∷◌, ◌++◌}
use mathlib.Core.Bool.{Bool, true, false}
use Prim.Native.Nat.{ℕ, zero, suc, ◌+◌, ◌-◌, ◌≤◌, ◌<◌}
use native.Mathlib.Omega.{arith}
use native.Mathlib.Nat.{add-zero}
use native.Mathlib.Numerals.{sub-one}
use lib.ListN.{length, get_or, take, drop, length-take, length-drop, length-append}
use lib.Seq.{drop-drop}
use lib.Dec.{ltb, eqb}
use mir.Val.{Fits}
use mir.Syntax.{w64}
use borrow.Author.Tests.{lt-ltb, le-ltb, ltb-true, ltb-false, ne_eqb, eqb-false}
use Rattle.std.specs.Prelude.{if◌then◌else◌, Result, Ok, Err}
use Rattle.wire.specs.Bytes.{bytes}
use Rattle.wire.proofs.Cases.{zero_or_not}
use Rattle.wire.proofs.Numbers.{part_to_end, length-bytes}
use Rattle.moldudp64.specs.Blocks.{block_length, block_size, fits, after_block, all_fit, messages, blocks_of}
use Rattle.wire.specs.Words.{says}
use Rattle.wire.specs.declared.refusal.Refusal.{Refusal}
use Rattle.wire.specs.declared.kinds.SequenceNumber.{SequenceNumber}
use Rattle.wire.specs.declared.kinds.MessageCount.{MessageCount}
use Rattle.moldudp64.specs.Header.{count_of}
use Rattle.moldudp64.specs.declared.downstream.Downstream.{Downstream}
use Rattle.moldudp64.specs.declared.downstream.Downstream.TheVariants.{Data, Heartbeat, EndOfSession}
use Rattle.moldudp64.specs.Downstream.{DownstreamKind, heartbeat, end_of_session, block_count_of, downstream_of, downstream_words, block_count, refusal_of, messages_of, message_of}
use Rattle.moldudp64_messages.specs.declared.cursor.Located.{Located}
use Rattle.moldudp64_messages.specs.declared.cursor.Cursor.{Cursor}
use Rattle.moldudp64_messages.specs.Cursor.{there, nowhere, part, locate_of, cursor, located_at, located, advanced, advanced_by, first_of, start_of, WalksTheMessages, PartIsMessage, CountIsMessages, whole_block}
use Rattle.moldudp64.proofs.BlockLaws.{fits-so, fits_not, so-fits, first_fits, rest-fit, sound-fit}
use Rattle.moldudp64.proofs.DownstreamLaws.{sound, messages-refused, messages-sound, count-sound, kind-read, refusal-read, data_read, no_blocks}

-- ---- the block in front of what is left, with n blocks left

pub whole-none : (l : List ℕ) (n : ℕ) → n ≡ 0 → 0 ≡ whole_block l n
unfolding whole_block
whole-none l n z = rw z

whole-not : (l : List ℕ) (n : ℕ) → length l < block_size l → 0 ≡ whole_block l n
unfolding whole_block
whole-not l n h = go (eqb n 0)
  where
    go : (b : Bool) → 0 ≡ if b then 0 else if fits l then block_size l else 0
    go true = refl
    go false = rw (fits_not l h)

pub whole-stub : (l : List ℕ) (n : ℕ) → length l < 2 → 0 ≡ whole_block l n
whole-stub l n h = whole-not l n (omega arith)

pub whole-over : (l : List ℕ) (n k : ℕ) → k ≡ block_size l → length l < k → 0 ≡ whole_block l n
whole-over l n k e h = whole-not l n (omega arith)

pub whole-there : (l : List ℕ) (n k : ℕ) → (n ≡ 0 → ⊥) → k ≡ block_size l → k ≤ length l → k ≡ whole_block l n
unfolding whole_block
whole-there l n k z e h = rw (ne_eqb _ _ z, fits-so l (omega arith)) e

-- a block that is there: some are left, and it ends within what is left
record Block (l : List ℕ) (n k : ℕ) : Type 0 where
  pub some : n ≡ 0 → ⊥
  pub size : k ≡ block_size l
  pub within : k ≤ length l

block : (l : List ℕ) (n k : ℕ) → k ≡ whole_block l n → (k ≡ 0 → ⊥) → Block l n k
unfolding whole_block
block l n k e z = go (eqb n 0) refl (fits l) refl e
  where
    go : (b : Bool) → eqb n 0 ≡ b → (d : Bool) → fits l ≡ d → k ≡ if b then 0 else if d then block_size l else 0 → Block l n k
    go true f d g h = absurd (z h)
    go false f false g h = absurd (z h)
    go false f true g h = let w = so-fits l g in record { some = eqb-false _ _ f; size = h; within = omega arith }

pub whole-within : (l : List ℕ) (n k : ℕ) → k ≡ whole_block l n → (k ≡ 0 → ⊥) → k ≤ length l
whole-within l n k e z = (block l n k e z).within

-- ---- what the cursor stands at, as code that has k as the size of the block there

at_there : (l : List ℕ) (at n : ℕ) → (n ≡ 0 → ⊥) → at + block_size (drop at l) ≤ length l → there (at + 2) (block_length (drop at l)) ≡ located_at l at n
unfolding located_at
at_there l at n z h = rw (ne_eqb _ _ z, fits-so (drop at l) (omega (arith, length-drop at l)))

-- nothing is there where no block is
at_none : (l : List ℕ) (at n : ℕ) → whole_block (drop at l) n ≡ 0 → nowhere ≡ located_at l at n
unfolding located_at whole_block
at_none l at n e = go (eqb n 0) (fits (drop at l)) e
  where
    go : (b d : Bool) → ◌≡◌ {A = ℕ} (if b then 0 else if d then block_size (drop at l) else 0) 0
        → nowhere ≡ if b then nowhere else if d then there (at + 2) (block_length (drop at l)) else nowhere
    go true d f = refl
    go false false f = refl
    go false true f = absurd (omega arith)

pub located-beyond : (l : List ℕ) (at n : ℕ) (r : Located) → r ≡ nowhere → length l < at → r ≡ located_at l at n
located-beyond l at n r e h = e ∙ at_none l at n (sym (whole-not (drop at l) n (omega (arith, length-drop at l))))

-- the bytes of the part from the place on
part_length : (l : List ℕ) (at : ℕ) → length (take (length l - at) (drop at l)) ≡ length l - at
part_length l at = ap length (part_to_end at l) ∙ length-drop at l

pub located-none : (l : List ℕ) (at n k : ℕ) (r : Located) → r ≡ nowhere → k ≡ whole_block (take (length l - at) (drop at l)) n → k ≡ 0
    → r ≡ located_at l at n
located-none l at n k r e f z = e ∙ at_none l at n (sym (rw (part_to_end at l) at f) ∙ z)

pub located-there : (l : List ℕ) (at n k : ℕ) → at ≤ length l → k ≡ whole_block (take (length l - at) (drop at l)) n → (k ≡ 0 → ⊥)
    → there (at + 2) (k - 2) ≡ located_at l at n
located-there l at n k h f z =
    let b = block (drop at l) n k (rw (part_to_end at l) at f) z in
    let m : k ≡ block_size (drop at l) = b.size in
    let g : k - 2 ≡ block_length (drop at l) = omega arith in
    let w : k ≤ length (drop at l) = b.within in
    rw g (at_there l at n b.some (omega (arith, length-drop at l)))

pub size-two : (l : List ℕ) (n k : ℕ) → k ≡ whole_block l n → (k ≡ 0 → ⊥) → 2 ≤ k
size-two l n k e z = let b = (block l n k e z).size in omega arith

pub offset-fits : (l : List ℕ) (at n k : ℕ) → Fits w64 (length l) → at ≤ length l → k ≡ whole_block (take (length l - at) (drop at l)) n → (k ≡ 0 → ⊥)
    → Fits w64 (at + 2)
offset-fits l at n k f h e z =
    let b = block (take (length l - at) (drop at l)) n k e z in
    let s = b.size in
    let w = b.within in
    record { fits = omega (arith, part_length l at) }

-- ---- what is found there

-- it ends within the datagram; where none is there, it is at 0, of no bytes
pub found_within : (l : List ℕ) (at n : ℕ) (p : Located) → p ≡ located_at l at n → p.offset.0 + p.length ≤ length l
unfolding located_at
found_within l at n p e = go (eqb n 0) (fits (drop at l)) refl e
  where
    go : (b d : Bool) → fits (drop at l) ≡ d → p ≡ if b then nowhere else if d then there (at + 2) (block_length (drop at l)) else nowhere
        → p.offset.0 + p.length ≤ length l
    go true d f g = rw g (omega arith)
    go false false f g = rw g (omega arith)
    go false true f g = let h = so-fits (drop at l) f in rw g (omega (arith, length-drop at l))

pub found-fits : (l : List ℕ) (at n : ℕ) (p : Located) → Fits w64 (length l) → p ≡ located_at l at n → Fits w64 (p.offset.0 + p.length)
found-fits l at n p f e = record { fits = let h = found_within l at n p e in omega arith }

pub found_part : (l : List ℕ) (at n : ℕ) (p : Located) → p ≡ located_at l at n
    → take (p.offset.0 + p.length - p.offset.0) (drop p.offset.0 l) ≡ part l (located_at l at n)
found_part l at n p e =
    let k : p.offset.0 + p.length - p.offset.0 ≡ p.length = omega arith in
    rw (k, e)

-- ---- a move

pub moved-stays : (l : List ℕ) (c : Cursor) (p : Located) → p ≡ located l c → p.exists ≡ false → c ≡ advanced l c
unfolding advanced
moved-stays l c p e h = rw (← e, h)

pub moved_on : (l : List ℕ) (c : Cursor) (p : Located) (n : MessageCount) → p ≡ located l c → p.exists ≡ true → n.0 ≡ c.left.0 - 1
    → record { at = record { 0 = p.offset.0 + p.length }; left = n } ≡ advanced l c
unfolding advanced
moved_on l c p n e h f = rw (← e, h, f)

step-there : (l : List ℕ) (at n : ℕ) → at + block_size (drop at l) ≤ length l → advanced l (cursor at (suc n)) ≡ cursor (at + block_size (drop at l)) n
unfolding advanced
step-there l at n h =
    let e : at + 2 + block_length (drop at l) ≡ at + block_size (drop at l) = omega arith in
    rw (← at_there l at (suc n) (omega arith) h, e, sub-one)

-- ---- the walk by what is left: n moves are left, and those lead to e

pub record Skipping (l : List ℕ) (e : Cursor) (rest : List ℕ) (left n : ℕ) : Type 0 where
  pub shorter : length rest ≤ length l
  pub place : rest ≡ drop (length l - length rest) l
  pub leads : advanced_by n l (cursor (length l - length rest) left) ≡ e

pub skip-start : (l : List ℕ) (at left n : ℕ) → at ≤ length l
    → Skipping l (advanced_by n l (cursor at left)) (take (length l - at) (drop at l)) left n
skip-start l at left n h =
    let p = part_length l at in
    let e : length l - (length l - at) ≡ at = omega arith in
    record { shorter = omega arith; place = rw (p, e) (part_to_end at l); leads = rw (p, e) }

-- the block in front, as one of the datagram's
in-front : {l : List ℕ} {e : Cursor} {rest : List ℕ} {left n : ℕ} → Skipping l e rest left n → (k : ℕ) → k ≡ whole_block rest left
    → k ≡ whole_block (drop (length l - length rest) l) left
in-front {l} {e} {rest} {left} {n} s k f = f ∙ ap (λ (x : List ℕ). whole_block x left) s.place

pub skip_step : (l : List ℕ) (e : Cursor) (rest : List ℕ) (left left' n n' k : ℕ) → Skipping l e rest left n → 0 < n → k ≡ whole_block rest left
    → (k ≡ 0 → ⊥) → left' ≡ left - 1 → n' ≡ n - 1 → Skipping l e (take (length rest - k) (drop k rest)) left' n'
unfolding advanced_by
skip_step l e rest left left' zero n' k s h f z i j = absurd (omega arith)
skip_step l e rest zero left' (suc n) n' k s h f z i j = absurd ((block rest zero k f z).some refl)
skip_step l e rest (suc left) left' (suc n) n' k s h f z i j =
    let b = block rest (suc left) k f z in
    let p = part_length rest k in
    let w : k ≤ length rest = b.within in
    let at = length l - length rest in
    let d : rest ≡ drop at l = s.place in
    let m : k ≡ block_size (drop at l) = b.size ∙ ap block_size d in
    let q = s.shorter in
    let a : length l - (length rest - k) ≡ at + k = omega arith in
    let v : left' ≡ left = omega arith in
    let u : n' ≡ n = omega arith in
    record {
      shorter = omega arith;
      place = rw (p, a, part_to_end k rest) (ap (drop k) d ∙ drop-drop k at l);
      leads = rw (p, a, v, u, m) (ap (advanced_by n l) (sym (step-there l at left (omega arith))) ∙ s.leads);
    }

-- a cursor with no message there is where it would be after any moves
stuck : (n : ℕ) (l : List ℕ) (at left : ℕ) → whole_block (drop at l) left ≡ 0 → advanced_by n l (cursor at left) ≡ cursor at left
unfolding advanced_by
stuck zero l at left z = refl
stuck (suc n) l at left z =
    let s = moved-stays l (cursor at left) nowhere (at_none l at left z) refl in
    ap (advanced_by n l) (sym s) ∙ stuck n l at left z

pub skip-within : {l : List ℕ} {e : Cursor} {rest : List ℕ} {left n : ℕ} → Skipping l e rest left n → length rest ≤ length l
skip-within s = s.shorter

pub skip-stuck : (l rest : List ℕ) (c : Cursor) (left n m p k : ℕ) (r : Cursor) → Skipping l (advanced_by m l (cursor c.at.0 c.left.0)) rest left n
    → k ≡ whole_block rest left → k ≡ 0 → r ≡ cursor (length l - length rest) left → m ≡ p → r ≡ advanced_by p l c
skip-stuck l rest c left n m p k r s f z e g =
    e ∙ sym (stuck n l (length l - length rest) left (sym (in-front s k f) ∙ z)) ∙ rw (← g) s.leads

pub skip-end : (l rest : List ℕ) (c : Cursor) (left n m p : ℕ) (r : Cursor) → Skipping l (advanced_by m l (cursor c.at.0 c.left.0)) rest left n
    → n ≤ 0 → r ≡ cursor (length l - length rest) left → m ≡ p → r ≡ advanced_by p l c
unfolding advanced_by
skip-end l rest c left zero m p r s h e g = e ∙ rw (← g) s.leads
skip-end l rest c left (suc n) m p r s h e g = absurd (omega arith)

pub skip-beyond : (l : List ℕ) (c : Cursor) (n : ℕ) → length l < c.at.0 → c ≡ advanced_by n l c
skip-beyond l c n h =
    sym (stuck n l c.at.0 c.left.0 (sym (whole-not (drop c.at.0 l) c.left.0 (omega (arith, length-drop c.at.0 l)))))

-- ---- the start

-- no blocks, no messages
start_none : (l : List ℕ) (c : Cursor) → length (messages_of l) ≡ 0 → c ≡ first_of 0 → c ≡ start_of l
start_none l c e f = f ∙ ap first_of (sym e)

pub start-refused : (l : List ℕ) (a : Result Downstream Refusal) (r : Refusal) (c : Cursor) → downstream_words a ≡ downstream_of l → a ≡ Err r → c ≡ first_of 0 → c ≡ start_of l
unfolding downstream_words
start-refused l a r c e f g =
    start_none l c (ap length (messages-refused l (refusal_of l) refl (refusal-read l r.number (sym (rw f at e))))) g

start-empty : (l : List ℕ) (k : DownstreamKind) (vs : List ℕ) (c : Cursor) → downstream_of l ≡ says k vs → block_count_of k (count_of l) ≡ 0 → c ≡ first_of 0 → c ≡ start_of l
start-empty l k vs c e f g =
    let s = kind-read l k vs e in
    start_none l c (count-sound l s.0 ∙ no_blocks l k s.1 f) g

pub start-heartbeat : (l : List ℕ) (a : Result Downstream Refusal) (d : Downstream) (n : SequenceNumber) (c : Cursor) → downstream_words a ≡ downstream_of l → a ≡ Ok d → d ≡ Heartbeat n → c ≡ first_of 0 → c ≡ start_of l
unfolding downstream_words
start-heartbeat l a d n c e f h g = start-empty l heartbeat (n.0 ∷ []) c (sym (rw (f, h) at e)) refl g

pub start-end : (l : List ℕ) (a : Result Downstream Refusal) (d : Downstream) (n : SequenceNumber) (c : Cursor) → downstream_words a ≡ downstream_of l → a ≡ Ok d → d ≡ EndOfSession n → c ≡ first_of 0 → c ≡ start_of l
unfolding downstream_words
start-end l a d n c e f h g = start-empty l end_of_session (n.0 ∷ []) c (sym (rw (f, h) at e)) refl g

pub start-data : (l : List ℕ) (a : Result Downstream Refusal) (d : Downstream) (n : SequenceNumber) (k : MessageCount) (c : Cursor) → downstream_words a ≡ downstream_of l → a ≡ Ok d → d ≡ Data n k
    → c ≡ first_of k.0 → c ≡ start_of l
unfolding downstream_words
start-data l a d n k c e f h g =
    let s = data_read l n.0 k.0 (sym (rw (f, h) at e)) in
    g ∙ ap first_of (sym (count-sound l s.well ∙ s.blocks))

-- the count of data is the count of its messages
pub count-is-messages : CountIsMessages
unfolding CountIsMessages
count-is-messages l n c e =
    let d = data_read l n c e in
    ap first_of (count-sound l d.well ∙ d.blocks)

-- ---- the walk over n blocks that fit, from any place of the datagram

-- a cursor with nothing left stays
stays : (k : ℕ) (l : List ℕ) (at : ℕ) → advanced_by k l (cursor at 0) ≡ cursor at 0
unfolding advanced_by advanced located_at
stays zero l at = refl
stays (suc k) l at = stays k l at

first-length : (l : List ℕ) → block_size l ≤ length l → length (take (block_length l) (drop 2 l)) ≡ block_length l
first-length l h = omega (arith, length-take (block_length l) (drop 2 l), length-drop 2 l)

-- the message k of those blocks, by its place
abbrev among : List (List ℕ) → ℕ → ℕ → Located
among ms at k = if ltb k (length ms) then there (at + length (blocks_of (take k ms)) + 2) (length (get_or ms k [])) else nowhere

-- message k of what follows a message is message k + 1 of both
next-among : (m : List ℕ) (ms : List (List ℕ)) (at size k : ℕ) → size ≡ length m + 2 → among ms (at + size) k ≡ among (m ∷ ms) at (suc k)
unfolding blocks_of
next-among m ms at size k e = go (ltb k (length ms)) refl
  where
    go : (b : Bool) → ltb k (length ms) ≡ b → among ms (at + size) k ≡ among (m ∷ ms) at (suc k)
    go true f =
        let h : suc k < suc (length ms) = omega (arith, ltb-true k (length ms) f) in
        let n : length (bytes 2 (length m) ++ m ++ blocks_of (take k ms)) ≡ size + length (blocks_of (take k ms)) =
        omega (arith, length-append (bytes 2 (length m) ++ m) (blocks_of (take k ms)), length-append (bytes 2 (length m)) m, length-bytes 2 (length m)) in
        let o : at + (size + length (blocks_of (take k ms))) ≡ at + size + length (blocks_of (take k ms)) = omega arith in
        rw (f, lt-ltb _ _ h, n, o)
    go false f =
        let h : suc (length ms) ≤ suc k = omega (arith, ltb-false k (length ms) f) in
        rw (f, le-ltb _ _ h)

walks : (n k : ℕ) (l : List ℕ) (at : ℕ) → at ≤ length l → all_fit n (drop at l) ≡ true
    → located l (advanced_by k l (cursor at n)) ≡ among (messages n (drop at l)) at k
unfolding advanced_by messages blocks_of
walks zero k l at h f = ap (located l) (stays k l at) ∙ sym (at_none l at 0 (sym (whole-none (drop at l) 0 refl))) ∙ rw (le-ltb k 0 (omega arith))
walks (suc n) zero l at h f =
    let g = first_fits n (drop at l) f in
    let b : at + block_size (drop at l) ≤ length l = omega (arith, length-drop at l) in
    let z : 0 < suc (length (messages n (after_block (drop at l)))) = omega arith in
    rw (lt-ltb _ _ z, first-length (drop at l) g, add-zero at) (sym (at_there l at (suc n) (omega arith) b))
walks (suc n) (suc k) l at h f =
    let d = drop at l in
    let g : block_size d ≤ length d = first_fits n d f in
    let b : at + block_size d ≤ length l = omega (arith, length-drop at l) in
    let e : after_block d ≡ drop (at + block_size d) l = drop-drop (block_size d) at l in
    let w = walks n k l (at + block_size d) b (rw e at (rest-fit n d f)) in
    ap (λ (c : Cursor). located l (advanced_by k l c)) (step-there l at n b) ∙ w
    ∙ rw (← e) (next-among (take (block_length d) (drop 2 d)) (messages n (after_block d)) at (block_size d) k (omega (arith, first-length d g)))

-- each message is the bytes at its place
parts : (n k : ℕ) (l : List ℕ) (at : ℕ) → at ≤ length l → all_fit n (drop at l) ≡ true
    → part l (among (messages n (drop at l)) at k) ≡ get_or (messages n (drop at l)) k []
unfolding messages blocks_of
parts zero k l at h f = rw (le-ltb k 0 (omega arith))
parts (suc n) zero l at h f =
    let g = first_fits n (drop at l) f in
    let z : 0 < suc (length (messages n (after_block (drop at l)))) = omega arith in
    rw (lt-ltb _ _ z, first-length (drop at l) g, add-zero at) (rw (drop-drop 2 at l))
parts (suc n) (suc k) l at h f =
    let d = drop at l in
    let g : block_size d ≤ length d = first_fits n d f in
    let b : at + block_size d ≤ length l = omega (arith, length-drop at l) in
    let e : after_block d ≡ drop (at + block_size d) l = drop-drop (block_size d) at l in
    let p = parts n k l (at + block_size d) b (rw e at (rest-fit n d f)) in
    ap (part l) (sym (next-among (take (block_length d) (drop 2 d)) (messages n (after_block d)) at (block_size d) k (omega (arith, first-length d g)))) ∙ rw (← e) at p

-- ---- every datagram and every place

pub walks-the-messages : WalksTheMessages
unfolding WalksTheMessages locate_of message_of
walks-the-messages l k = zero_or_not _ (refusal_of l) good bad
  where
    good : refusal_of l ≡ 0 → located l (advanced_by k l (start_of l)) ≡ among (messages_of l) 20 k
    good e =
        let s = sound l e in
        ap (λ (n : ℕ). located l (advanced_by k l (first_of n))) (count-sound l e)
        ∙ walks (block_count l) k l 20 s.long (sound-fit _ _ s.blocks-good)
        ∙ ap (λ (ms : List (List ℕ)). among ms 20 k) (sym (messages-sound l e))

    bad : (refusal_of l ≡ 0 → ⊥) → located l (advanced_by k l (start_of l)) ≡ among (messages_of l) 20 k
    bad z =
        let m = messages-refused l (refusal_of l) refl z in
        rw m (ap (located l) (stays k l 20) ∙ sym (at_none l 20 0 (sym (whole-none (drop 20 l) 0 refl))) ∙ rw (le-ltb k 0 (omega arith)))

pub part-is-message : PartIsMessage
unfolding PartIsMessage locate_of message_of
part-is-message l k = zero_or_not _ (refusal_of l) good bad
  where
    good : refusal_of l ≡ 0 → part l (among (messages_of l) 20 k) ≡ get_or (messages_of l) k []
    good e =
        let s = sound l e in
        rw (messages-sound l e) (parts (block_count l) k l 20 s.long (sound-fit _ _ s.blocks-good))

    bad : (refusal_of l ≡ 0 → ⊥) → part l (among (messages_of l) 20 k) ≡ get_or (messages_of l) k []
    bad z = rw (messages-refused l (refusal_of l) refl z) (rw (le-ltb k 0 (omega arith)))

-- ---- by its place, as the code has it: c after the start, d after the moves

pub place-cursor : (l : List ℕ) (k : ℕ) (c d : Cursor) → c ≡ start_of l → d ≡ advanced_by k l c → d ≡ advanced_by k l (start_of l)
place-cursor l k c d e f = f ∙ ap (advanced_by k l) e

pub place-located : (l : List ℕ) (k : ℕ) (d : Cursor) (p : Located) → d ≡ advanced_by k l (start_of l) → p ≡ located l d → p ≡ locate_of l k
unfolding WalksTheMessages
place-located l k d p f g = rw (g, f) (walks-the-messages l k)

pub place-message : (l m : List ℕ) (k : ℕ) (d : Cursor) → d ≡ advanced_by k l (start_of l) → m ≡ part l (located l d) → m ≡ message_of l k
unfolding WalksTheMessages PartIsMessage
place-message l m k d f g = rw (g, f) (ap (part l) (walks-the-messages l k) ∙ part-is-message l k)
