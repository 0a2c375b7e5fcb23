-- Turns over a buffer are pieces: what is kept stands at the buffer's front, and what came behind it.
use mathlib.Core.Path.{◌≡◌, refl, ap, sym, ◌∙◌}
use mathlib.Core.List.{List, [], ◌∷◌, ◌++◌, append_assoc, append-nil}
use mathlib.Core.Bool.{Bool, true, false}
use Prim.Native.Nat.{ℕ, zero, suc, ◌+◌, ◌-◌, ◌≤◌, ◌<◌}
use native.Mathlib.Omega.{arith}
use lib.ListN.{length, take, drop, length-take, length-drop, length-append}
use lib.Seq.{take_at}
use borrow.Author.Tests.{eq-eqb, ne_eqb, ltb-true}
use Rattle.std.specs.Prelude.{if◌then◌else◌}
use Rattle.wire.specs.Bytes.{joined, AreBytes}
use Rattle.wire.specs.Output.{put}
use Rattle.wire.proofs.Cases.{zero_or_not}
use Rattle.wire.proofs.Outputs.{put-room, length-put}
use Rattle.capture_settings.specs.Settings.{settings_of}
use Rattle.capture_settings.specs.Statements.{longest}
use Rattle.capture_records.specs.Records.{most_records, datagrams_of, rest_of}
use Rattle.capture_records.proofs.RecordLaws.{short-length, bytes_drop, bytes_take}
use Rattle.capture_records.proofs.FrontLaws.{is-part, left-short}
use Rattle.capture_events.specs.Events.{Event, At, settings, records, done, refused, is_over_at, Read, reads, read_to, read_records, read_settings, read_on, waits_at, read_piece, ends, end_at, and_then, read_last}
use Rattle.capture_events.specs.Turns.{there, left, turn_of, turn_with, by_turns, Fit, AnyTurns, most_kept, KeepsLittle, EndIsOver, TurnPromises}
use Rattle.capture_events.proofs.EventLaws.{Piece, piece-at, any_cutting, last_done, last-refused, settings-so, settings-bad, settings-left, behind}

-- ---- one turn

module _ (a : At) (m : List ℕ) (have got : ℕ) where
  pub turn_last : got ≡ 0 → turn_of a m have got ≡ record { at = (read_last a (there m have 0)).at; events = (read_last a (there m have 0)).events; buffer = m; have = 0 }
  unfolding turn_of
  turn_last e = rw (eq-eqb _ _ e)

  pub turn-reads : (got ≡ 0 → ⊥)
      → turn_of a m have got ≡ record { at = (read_piece a (there m have got)).at; events = (read_piece a (there m have got)).events; buffer = put m 0 (left a (there m have got)); have = length (left a (there m have got)) }
  unfolding turn_of
  turn-reads z = rw (ne_eqb _ _ z)

-- a piece laid behind what was kept stands there
there-so : (m : List ℕ) (have : ℕ) (p : List ℕ) → have + length p ≤ length m → there (put m have p) have (length p) ≡ take have m ++ p
there-so m have p h =
    let n : length (take have m ++ p) ≡ have + length p = omega (arith, length-append (take have m) p, length-take have m) in
    rw (put-room m have p h) (take_at (take have m ++ p) (drop (have + length p) m) (have + length p) n)

-- what was moved to the front stands there
kept-so : (m l : List ℕ) → length l ≤ length m → take (length l) (put m 0 l) ≡ l
kept-so m l h =
    let f : 0 + length l ≤ length m = omega arith in
    rw (put-room m 0 l f) (take_at l (drop (0 + length l) m) (length l) refl)

-- ---- all turns

over_last : (a : At) (l : List ℕ) → is_over_at a ≡ true → read_last a l ≡ ends a []
unfolding is_over_at
over_last settings l e = let z : ◌≡◌ {A = ℕ} 0 1 = cc in absurd (omega arith)
over_last (records k) l e = let z : ◌≡◌ {A = ℕ} 0 1 = cc in absurd (omega arith)
over_last done l e = last_done l
over_last refused l e = last-refused l

-- l was kept and p came, r is what the turn read of both, and q the pieces still to come
module _ (a : At) (m : List ℕ) (have : ℕ) (p : List ℕ) (h : 0 < length p) (f : have + length p ≤ length m) where
  abbrev seen : List ℕ
  seen = take have m ++ p

  not_none : length p ≡ 0 → ⊥
  not_none e = omega arith

  turn-so : turn_with a m have p ≡ record { at = (read_piece a seen).at; events = (read_piece a seen).events; buffer = put (put m have p) 0 (left a seen); have = length (left a seen) }
  turn-so = turn-reads a (put m have p) have (length p) not_none ∙ rw (there-so m have p f)

  seen-within : length (left a seen) ≤ length (put m have p)
  seen-within = omega (arith, length-put m have p, length-append (take have m) p, length-take have m, length-drop (read_piece a seen).used seen)

  front-so : take (turn_with a m have p).have (turn_with a m have p).buffer ≡ left a seen
  front-so = rw turn-so (kept-so (put m have p) (left a seen) seen-within)

  pub turns-on : (q : List ℕ) → and_then (turn_with a m have p).events (read_last (turn_with a m have p).at (take (turn_with a m have p).have (turn_with a m have p).buffer ++ q)) ≡ read_last a (take have m ++ (p ++ q))
  unfolding Piece
  turns-on q = rw (front-so, turn-so) (piece-at a seen q ∙ ap (read_last a) (append_assoc (take have m) p q))

turns-over : (a : At) (es : List Event) (l : List ℕ) → is_over_at a ≡ true → and_then es (read_last a l) ≡ ends a es
turns-over a es l e = rw (over_last a l e) (ap (ends a) (append-nil es))

pub all-turns : (a : At) (m : List ℕ) (have : ℕ) (ps : List (List ℕ)) → Fit a m have ps → by_turns a m have ps ≡ read_last a (take have m ++ joined ps)
unfolding by_turns Fit joined
all-turns a m have [] f = let n : have + 0 ≡ have = omega arith in rw (turn_last a m have 0 refl, n, append-nil (take have m))
all-turns a m have (p ∷ ps) f = go (is_over_at (turn_with a m have p).at) refl (all-turns (turn_with a m have p).at (turn_with a m have p).buffer (turn_with a m have p).have ps f.2)
  where
    go : (b : Bool) → is_over_at (turn_with a m have p).at ≡ b
        → by_turns (turn_with a m have p).at (turn_with a m have p).buffer (turn_with a m have p).have ps ≡ read_last (turn_with a m have p).at (take (turn_with a m have p).have (turn_with a m have p).buffer ++ joined ps)
        → (if is_over_at (turn_with a m have p).at then ends (turn_with a m have p).at (turn_with a m have p).events else and_then (turn_with a m have p).events (by_turns (turn_with a m have p).at (turn_with a m have p).buffer (turn_with a m have p).have ps)) ≡ read_last a (take have m ++ (p ++ joined ps))
    go true e i =
        rw e
        (sym (turns-over (turn_with a m have p).at (turn_with a m have p).events (take (turn_with a m have p).have (turn_with a m have p).buffer ++ joined ps) e) ∙ turns-on a m have p f.0 f.1 (joined ps))
    go false e i = rw e (ap (and_then (turn_with a m have p).events) i ∙ turns-on a m have p f.0 f.1 (joined ps))

any_turns : AnyTurns
unfolding AnyTurns
any_turns m ps f = all-turns settings m 0 ps f

-- ---- what is kept

-- what is left after the bytes that were used, of a list of bytes
Little : Read → List ℕ → Type 0
Little r l = AreBytes l → length (drop r.used l) ≤ most_kept

none_left : (l : List ℕ) → length (drop (length l) l) ≤ most_kept
none_left l = omega (arith, length-drop (length l) l)

-- n more records may be read, and rest is what the records before it left
little-to : (n : ℕ) (ds : List (List ℕ)) (rest l : List ℕ) → drop (length l - length rest) l ≡ rest → (0 < n → AreBytes rest → length rest ≤ most_kept) → Little (read_to n ds rest l) l
unfolding Little read_to
little-to zero ds rest l e h small = none_left l
little-to (suc n) ds rest l e h small = rw e (h (omega arith) (rw e at (bytes_drop (length l - length rest) l small)))

little-records : (k : ℕ) (l : List ℕ) → Little (read_records k l) l
unfolding read_records
little-records k l =
    little-to (k - length (datagrams_of k l)) (datagrams_of k l) (rest_of k l) l (is-part k l).part
    (λ h small. short-length (rest_of k l) small (left-short k l (omega arith)))

little-settings : (l : List ℕ) → Little (read_settings l) l
unfolding Little
little-settings l =
    zero_or_not _ (settings_of l).refusal.number
    (λ z small. rw (settings-left l z) (little-records most_records (behind l) (bytes_drop (settings_of l).size l small)))
    (λ z small. rw (settings-bad l z) (none_left l))

little-on : (a : At) (l : List ℕ) → Little (read_on a l) l
unfolding read_on Little
little-on settings l = little-settings l
little-on (records k) l = little-records k l
little-on done l = λ small. none_left l
little-on refused l = λ small. none_left l

-- while it waits, fewer bytes are there than settings may take
wait-short : (a : At) (n : ℕ) → waits_at a n ≡ true → n ≤ most_kept
unfolding waits_at
wait-short settings n e = let h : n < longest = ltb-true _ _ e in omega arith
wait-short (records k) n e = let z : ◌≡◌ {A = ℕ} 0 1 = cc in absurd (omega arith)
wait-short done n e = let z : ◌≡◌ {A = ℕ} 0 1 = cc in absurd (omega arith)
wait-short refused n e = let z : ◌≡◌ {A = ℕ} 0 1 = cc in absurd (omega arith)

pub little-piece : (a : At) (l : List ℕ) → AreBytes l → length (left a l) ≤ most_kept
unfolding read_piece Little
little-piece a l small = go (waits_at a (length l)) refl
  where
    go : (b : Bool) → waits_at a (length l) ≡ b → length (drop (if waits_at a (length l) then reads a [] 0 else read_on a l).used l) ≤ most_kept
    go true e = rw e (wait-short a (length l) e)
    go false e = rw e (little-on a l small)

keeps_little : KeepsLittle
unfolding KeepsLittle
keeps_little a m have got small =
    zero_or_not _ got (λ e. rw (turn_last a m have got e) (omega arith))
    (λ z. rw (turn-reads a m have got z) (little-piece a (there m have got) (bytes_take (have + got) m small)))

-- ---- the end

end-over : (a : At) (n : ℕ) → (a ≡ settings → ⊥) → is_over_at (end_at a n).at ≡ true
unfolding end_at is_over_at
end-over settings n z = absurd (z refl)
end-over (records k) n z = zero_or_not _ n (λ e. rw (eq-eqb _ _ e)) (λ e. rw (ne_eqb _ _ e))
end-over done n z = refl
end-over refused n z = refl

not-to : (n : ℕ) (ds : List (List ℕ)) (rest l : List ℕ) → (read_to n ds rest l).at ≡ settings → ⊥
unfolding read_to
not-to zero ds rest l e = let z : ◌≡◌ {A = ℕ} 0 1 = cc in omega arith
not-to (suc n) ds rest l e = let z : ◌≡◌ {A = ℕ} 0 1 = cc in omega arith

not-records : (k : ℕ) (l : List ℕ) → (read_records k l).at ≡ settings → ⊥
unfolding read_records
not-records k l e = not-to (k - length (datagrams_of k l)) (datagrams_of k l) (rest_of k l) l e

-- settings that were read are passed
not_on : (a : At) (l : List ℕ) → (read_on a l).at ≡ settings → ⊥
unfolding read_on
not_on settings l e =
    zero_or_not _ (settings_of l).refusal.number (λ z. not-records most_records (behind l) (rw (settings-so l z) at e))
    (λ z. let f : refused ≡ settings = rw (settings-bad l z) at e in let y : ◌≡◌ {A = ℕ} 0 1 = cc in omega arith)
not_on (records k) l e = not-records k l e
not_on done l e = let z : ◌≡◌ {A = ℕ} 0 1 = cc in omega arith
not_on refused l e = let z : ◌≡◌ {A = ℕ} 0 1 = cc in omega arith

pub last-over : (a : At) (l : List ℕ) → is_over_at (read_last a l).at ≡ true
unfolding read_last
last-over a l = end-over (read_on a l).at (length l - (read_on a l).used) (not_on a l)

end_is_over : EndIsOver
unfolding EndIsOver
end_is_over a m have = rw (turn_last a m have 0 refl) (last-over a (there m have 0))

pub turn-promises : TurnPromises
turn-promises =
    record { any_cutting = any_cutting; any_turns = any_turns; keeps_little = keeps_little; end_is_over = end_is_over }
