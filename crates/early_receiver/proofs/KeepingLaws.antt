-- Laws of a datagram's messages, one at a time: above the expected number they are kept or left, and below it they move it.
use mathlib.Core.Path.{◌≡◌, refl, sym, ap, ◌∙◌}
use mathlib.Core.List.{List, [], ◌∷◌}
use mathlib.Core.Bool.{Bool}
use Prim.Native.Nat.{ℕ, zero, suc, ◌+◌, ◌-◌, ◌≤◌, ◌<◌, min}
use native.Mathlib.Omega.{arith}
use lib.ListN.{length}
use lib.Dec.{ltb, eqb}
use mir.Val.{Fits}
use mir.Syntax.{w16, w64}
use borrow.Author.Tests.{lt-ltb, le-ltb, lt-leb, ne_eqb, eqb-false}
use Rattle.wire.proofs.Cases.{below_or_not}
use Rattle.wire.proofs.Outputs.{length-put}
use Rattle.moldudp64_messages.specs.declared.cursor.Cursor.{Cursor}
use Rattle.moldudp64_messages.specs.Cursor.{part, located, advanced, first_of}
use Rattle.receiver.specs.declared.receiver.Receiver.{Receiver}
use Rattle.receiver.specs.Table.{numbered}
use Rattle.early_word.specs.Word.{run, past}
use Rattle.early_word.specs.declared.Held.{Held}
use Rattle.early_holding.specs.declared.holding.EarlyReceiver.{EarlyReceiver}
use Rattle.early_holding.specs.declared.holding.Moved.{Moved}
use Rattle.early_holding.specs.Holding.{Lent, lent, early, next_of, at, number_past, advance, keeps, keep, keep_one, take_one, take_all, move_by, move_to}
use Rattle.early_holding.proofs.HoldingLaws.{either, move-skip, keeps_below}
use Rattle.early_receiver.specs.Read.{messages_from_cursor, messages_read}

-- ---- one message kept or left

pub one-base : (s : Lent) (j : ℕ) (m : List ℕ) → (keep_one s j m).receiver.base ≡ s.receiver.base
unfolding keep_one keep
one-base s j m = either (keeps s.receiver j (length m)) _ (λ q. rw q) (λ q. rw q)

pub one-next : (s : Lent) (j : ℕ) (m : List ℕ) → next_of (keep_one s j m).receiver ≡ next_of s.receiver
one-next s j m = ap (λ (r : Receiver). r.next.0) (one-base s j m)

pub one-slots : (s : Lent) (j : ℕ) (m : List ℕ) → length (keep_one s j m).slots ≡ length s.slots
unfolding keep_one keep
one-slots s j m = either (keeps s.receiver j (length m)) _ (λ q. rw q (length-put s.slots _ m)) (λ q. rw q)

pub one-lengths : (s : Lent) (j : ℕ) (m : List ℕ) → length (keep_one s j m).lengths ≡ length s.lengths
unfolding keep_one keep
one-lengths s j m = either (keeps s.receiver j (length m)) _ (λ q. rw q (length-put s.lengths _ _)) (λ q. rw q)

-- a number above the expected one isn't it
pub one-above : (s : Lent) (j : ℕ) (m : List ℕ) → next_of s.receiver < j → take_one s j m ≡ keep_one s j m
unfolding take_one
one-above s j m h = let z : j ≡ next_of s.receiver → ⊥ = λ e. omega arith in rw (ne_eqb _ _ z)

-- ---- messages above the expected number

pub step-above : (m : List ℕ) (ms : List (List ℕ)) (s : Lent) (f : ℕ) → next_of s.receiver < f → take_all s f (m ∷ ms) ≡ take_all (keep_one s f m) (f + 1) ms
unfolding take_all
step-above m ms s f h = ap (λ (x : Lent). take_all x (f + 1) ms) (one-above s f m h)

pub above-base : (ms : List (List ℕ)) (s : Lent) (f : ℕ) → next_of s.receiver < f → (take_all s f ms).receiver.base ≡ s.receiver.base
unfolding take_all
above-base [] s f h = refl
above-base (m ∷ ms) s f h =
    ap (λ (x : Lent). x.receiver.base) (step-above m ms s f h) ∙ above-base ms (keep_one s f m) (f + 1) (omega (arith, one-next s f m)) ∙ one-base s f m

-- too far to be kept
one-far : (s : Lent) (j : ℕ) (m : List ℕ) → next_of s.receiver + 64 < j → keep_one s j m ≡ s
unfolding keep_one keeps
one-far s j m h = let g : next_of s.receiver < j = omega arith in rw (lt-leb _ _ g, lt-ltb _ _ h)

all-far : (ms : List (List ℕ)) (s : Lent) (f : ℕ) → next_of s.receiver + 64 < f → take_all s f ms ≡ s
unfolding take_all
all-far [] s f h = refl
all-far (m ∷ ms) s f h =
    step-above m ms s f (omega arith) ∙ ap (λ (x : Lent). take_all x (f + 1) ms) (one-far s f m h) ∙ all-far ms s (f + 1) (omega arith)

-- ---- messages from the expected number on down

abbrev pub moved_by : Lent → Moved → Lent
moved_by s m = lent (early (at s.receiver.base m.next.0) m.held.0) s.lengths s.slots

one_below : (s : Lent) (j : ℕ) (m : List ℕ) → j ≤ next_of s.receiver → keep_one s j m ≡ s
unfolding keep_one
one_below s j m h = rw (← keeps_below s.receiver j (length m) h)

-- the number behind one that is delivered isn't below it, even at the end of the numbers
take_below : (ms : List (List ℕ)) (s : Lent) (f : ℕ) → f ≤ next_of s.receiver → f + length ms ≤ 18446744073709551615
    → take_all s f ms ≡ moved_by s (move_by (length ms) f (next_of s.receiver) s.receiver.held.0)
unfolding take_all move_by take_one advance number_past
take_below [] s f h g = refl
take_below (m ∷ ms) s f h g =
    either (eqb f (next_of s.receiver)) _
    (λ q. rw q (take_below ms (advance s) (f + 1) (omega arith) (omega arith)))
    (λ q.
    let z : f ≡ next_of s.receiver → ⊥ = eqb-false _ _ q in
    rw (q, one_below s f m h) (take_below ms s (f + 1) (omega arith) (omega arith)))

pub all-below : (s : Lent) (f : ℕ) (ms : List (List ℕ)) → f ≤ next_of s.receiver → f + length ms ≤ 18446744073709551615
    → take_all s f ms ≡ moved_by s (move_to (next_of s.receiver) s.receiver.held.0 (f + length ms))
unfolding move_to
all-below s f ms h g =
    take_below ms s f h g ∙ ap (moved_by s) (move-skip (length ms) f (next_of s.receiver) s.receiver.held.0 h)

-- the number never falls, but for one beyond the largest
pub move-rises : (c f n h : ℕ) → n ≤ 18446744073709551615 → n ≤ (move_by c f n h).next.0
unfolding move_by number_past
move-rises zero f n h e = omega arith
move-rises (suc c) f n h e =
    either (eqb f n) _
    (λ q. rw q (omega (arith, move-rises c (f + 1) (min 18446744073709551615 (n + (run h + 1))) (past h (run h + 1)) (omega arith))))
    (λ q. rw q (move-rises c (f + 1) n h e))

pub all_old : (ms : List (List ℕ)) (s : Lent) (f : ℕ) → f + length ms ≤ next_of s.receiver → take_all s f ms ≡ s
unfolding take_all take_one
all_old [] s f h = refl
all_old (m ∷ ms) s f h =
    let z : f ≡ next_of s.receiver → ⊥ = λ e. omega arith in
    rw (ne_eqb _ _ z, one_below s f m (omega arith)) (all_old ms s (f + 1) (omega arith))

-- ---- as the loop has them

pub length_from : (k : ℕ) (l : List ℕ) (c : Cursor) → length (messages_from_cursor l c k) ≡ k
unfolding messages_from_cursor
length_from zero l c = refl
length_from (suc k) l c = ap suc (length_from k l (advanced l c))

pub far-is : (n f g : ℕ) (t : Bool) → g ≡ min 65535 (f - n) → t ≡ ltb 64 g → t ≡ ltb 64 (f - n)
far-is n f g t d e =
    below_or_not _ 64 (f - n) (λ h. let i : 64 < g = omega arith in e ∙ lt-ltb _ _ i ∙ sym (lt-ltb _ _ h))
    (λ h. let i : g ≤ 64 = omega arith in e ∙ le-ltb _ _ i ∙ sym (le-ltb _ _ h))

pub keep-far : (r : EarlyReceiver) (ks ss : List ℕ) (f : ℕ) (ms : List (List ℕ)) → 64 < f - next_of r → lent r ks ss ≡ take_all (lent r ks ss) f ms
keep-far r ks ss f ms h = sym (all-far ms (lent r ks ss) f (omega arith))

-- what is left to take is the same at every turn; the lent bytes keep their size
pub record Keeping (whole : Lent) (l : List ℕ) (end ka sa : ℕ) (r : EarlyReceiver) (ks ss : List ℕ) (c : Cursor) (j : ℕ) : Type 0 where
  pub same : take_all (lent r ks ss) j (messages_from_cursor l c (end - j)) ≡ whole
  pub above : next_of r < j
  pub fits : end ≤ 18446744073709551615
  pub lengths-size : length ks ≡ ka
  pub slots-size : length ss ≡ sa

pub keeping_start : (l : List ℕ) (end g : ℕ) (r : EarlyReceiver) (ks ss : List ℕ) (c : Cursor) (j : ℕ) → next_of r < j → Fits w64 end → end - j ≤ 65535
    → c ≡ first_of g → g ≡ min 65535 (end - j) → Keeping (take_all (lent r ks ss) j (messages_read l (end - j))) l end (length ks) (length ss) r ks ss c j
keeping_start l end g r ks ss c j h f b o d =
    let e : g ≡ end - j = omega arith in
    record { same = rw (o, e); above = h; fits = omega arith; lengths-size = refl; slots-size = refl }

module _ (whole : Lent) (l : List ℕ) (end ka sa : ℕ) (r : EarlyReceiver) (ks ss : List ℕ) (c : Cursor) (j : ℕ) (i : Keeping whole l end ka sa r ks ss c j) where
  pub keeping-next : (q : EarlyReceiver) (kt st m : List ℕ) (d : Cursor) (k : ℕ) → j < end → m ≡ part l (located l c)
      → lent q kt st ≡ keep_one (lent r ks ss) j m → d ≡ advanced l c → k ≡ min 18446744073709551615 (j + 1) → Keeping whole l end ka sa q kt st d k
  unfolding take_all messages_from_cursor
  keeping-next q kt st m d k h e g n o =
      let t : take_all (lent q kt st) k (messages_from_cursor l d (end - k)) ≡ whole = go (end - j) refl i.same in
      record {
        same = t;
        above = omega (arith, ap (λ (x : Lent). next_of x.receiver) g, one-next (lent r ks ss) j m, i.above, i.fits);
        fits = i.fits;
        lengths-size = ap (λ (x : Lent). length x.lengths) g ∙ one-lengths (lent r ks ss) j m ∙ i.lengths-size;
        slots-size = ap (λ (x : Lent). length x.slots) g ∙ one-slots (lent r ks ss) j m ∙ i.slots-size;
      }
    where
      go : (x : ℕ) → end - j ≡ x → take_all (lent r ks ss) j (messages_from_cursor l c x) ≡ whole → take_all (lent q kt st) k (messages_from_cursor l d (end - k)) ≡ whole
      go zero a v = absurd (omega arith)
      go (suc x) a v =
          let b = i.fits in
          let u : end - k ≡ x = omega arith in
          let y : k ≡ j + 1 = omega arith in
          let w : lent q kt st ≡ keep_one (lent r ks ss) j (part l (located l c)) = rw e at g in
          rw (u, y, n)
          (ap (λ (z : Lent). take_all z (j + 1) (messages_from_cursor l (advanced l c) x)) w
          ∙ sym (step-above (part l (located l c)) (messages_from_cursor l (advanced l c) x) (lent r ks ss) j i.above) ∙ v)

  pub keeping-less : (k : ℕ) → j < end → k ≡ min 18446744073709551615 (j + 1) → end - k < end - j
  keeping-less k h o = omega (arith, i.fits)

  pub keeping-lengths : length ks ≡ ka
  keeping-lengths = i.lengths-size

  pub keeping-slots : length ss ≡ sa
  keeping-slots = i.slots-size

pub keeping-end : (r : EarlyReceiver) (lt st : List ℕ) (f : ℕ) (ms : List (List ℕ)) (l : List ℕ) (end ka sa : ℕ) (h : Held) (ks ss : List ℕ) (c : Cursor) (j : ℕ)
    → Keeping (take_all (lent (early r.base r.held.0) lt st) f ms) l end ka sa (early r.base h.0) ks ss c j → end ≤ j
    → lent (record { base = r.base; held = h }) ks ss ≡ take_all (lent r lt st) f ms
unfolding take_all messages_from_cursor
keeping-end r lt st f ms l end ka sa h ks ss c j i e = let z : end - j ≡ 0 = omega arith in rw z at i.same

-- ---- as `keep_all` has them: as many messages as can be numbered

pub keep-few : (f n end : ℕ) → end ≡ min 18446744073709551615 (f + n) → Fits w16 n → end - f ≤ 65535
keep-few f n end e g = let h : end ≤ f + n = omega arith in omega arith

pub keep-numbered : (r q : EarlyReceiver) (ks ss kt st l : List ℕ) (end f n : ℕ) → lent q kt st ≡ take_all (lent r ks ss) f (messages_read l (end - f))
    → end ≡ min 18446744073709551615 (f + n) → lent q kt st ≡ take_all (lent r ks ss) f (messages_read l (numbered f n))
keep-numbered r q ks ss kt st l end f n h e = let u : end - f ≡ numbered f n = omega arith in h ∙ rw u
