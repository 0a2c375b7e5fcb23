-- The whole text: its parts laid one after the other, what `write` makes of it, and that any text fits the room.
use mathlib.Core.Path.{◌≡◌, refl, ap, sym, ◌∙◌}
use mathlib.Core.Bool.{Bool, true, false}
use mathlib.Core.List.{List, ◌++◌}
use Prim.Native.Nat.{ℕ, ◌+◌, ◌*◌, ◌^◌, ◌≤◌, ◌<◌}
use native.Mathlib.Omega.{arith}
use lib.ListN.{length, take, length-append}
use lib.Seq.{length-take-le}
use mir.Val.{Fits}
use mir.Syntax.{w64}
use borrow.Author.Tests.{lt-ltb, le-ltb}
use Rattle.wire.specs.Output.{Writes}
use Rattle.wire.specs.Output.{Written}
use Rattle.std.specs.Prelude.{Ok, Err}
use Rattle.wire.proofs.Outputs.{writes-done, writes-ground}
use Rattle.capture_lines.specs.Lines.{number_line, session_line, refused_line, behind_of, LaysLine}
use Rattle.capture_lines.proofs.LineLaws.{number-length, session-length, wrote-laid, then-laid, then-wrote, laid-long, laid-within}
use Rattle.missing_ranges.specs.declared.ranges.Missing.{Missing}
use Rattle.missing_ranges.specs.Edges.{most_ranges, ranges_of, total_from}
use Rattle.missing_ranges.specs.Notes.{Lent, lent, is_usable, ranges_in, total_in}
use Rattle.missing_ranges.proofs.NoteLaws.{usable-so}
use Rattle.missing_text.specs.Text.{missing_key, ranges_key, list_text, too_many_text, missing_text, room, room_ground}
use Rattle.missing_text.proofs.RangeLaws.{edges_text, text-length}

-- ---- a state that is usable

module _ (s : Missing) (es : List ℕ) (u : is_usable (lent s es) ≡ true) where
  pub edges_few : s.closed ≤ most_ranges
  edges_few = (usable-so (lent s es) u).few

  pub edges-there : s.closed + s.closed + 1 ≤ length es
  edges-there = (usable-so (lent s es) u).there

  pub edges-double : Fits w64 (s.closed + s.closed)
  edges-double = record { fits = omega (arith, edges_few) }

  pub edges_fit : Fits w64 (s.closed + s.closed + 1)
  edges_fit = record { fits = omega (arith, edges_few) }

  -- they are the front of the words
  pub edges-size : s.closed + s.closed + 1 ≡ length (take (s.closed + s.closed + 1) es)
  edges-size = sym (length-take-le (s.closed + s.closed + 1) es edges-there)

  pub edges_room : length (take (s.closed + s.closed + 1) es) ≤ most_ranges + most_ranges + 1
  edges_room = omega (arith, edges-size, edges_few)

  usable-ranges : ranges_in (lent s es) ≡ ranges_of s.highest.0 (take (s.closed + s.closed + 1) es)
  unfolding ranges_in
  usable-ranges = rw u

-- ---- the parts of the list

module _ (name : List ℕ) (l m : List ℕ) (w : Written) (a : ℕ) (n : length name ≡ 10) (x : Writes w l m 0 0 (session_line name))
    (e : a ≡ behind_of 0 w) (h : room ≤ length l) (f : length l * 1 < 2 ^ 63) where
  name-laid : LaysLine a l m 0 (session_line name) 19
  name-laid = wrote-laid w 19 x e (omega (arith, session-length name n)) (omega arith) f

  pub ranges-room : (bs : List ℕ) → length bs ≤ most_ranges + most_ranges + 1 → a + 25 * length bs + 50 ≤ length m
  ranges-room bs k =
      let p = name-laid in
      omega (arith, p.place, p.within, laid-long p)

  pub named-laid : (top : ℕ) (bs o : List ℕ) (b : ℕ) → length bs ≤ most_ranges + most_ranges + 1 → LaysLine b m o a (edges_text top bs) (25 * length bs + 25)
      → LaysLine b l o 0 (session_line name ++ edges_text top bs) (19 + 50 * (most_ranges + 1))
  named-laid top bs o b k y = laid-within (19 + 50 * (most_ranges + 1)) (then-laid name-laid y (omega arith)) (omega arith)

pub list_written : (name : List ℕ) (s : Missing) (es l m o : List ℕ) (w : Written) (a b t : ℕ) → is_usable (lent s es) ≡ true
    → LaysLine a l m 0 (session_line name ++ edges_text s.highest.0 (take (s.closed + s.closed + 1) es)) (19 + 50 * (most_ranges + 1)) → t ≡ total_in (lent s es)
    → Writes w m o 0 a (number_line missing_key t) → b ≡ behind_of a w → room ≤ length l → length l * 1 < 2 ^ 63
    → Writes (Ok b) l o 0 0 (list_text name (ranges_in (lent s es)))
unfolding list_text
list_written name s es l m o w a b t u x e y g h f =
    let z = then-wrote w 29 x y g (number-length missing_key t) (omega arith) f in
    let r = usable-ranges s es u in
    let T = session_line name ++ edges_text s.highest.0 (take (s.closed + s.closed + 1) es) ++ number_line missing_key t in
    let n : b ≡ length T = omega (arith, z.place) in
    let d : Writes (Ok b) l o 0 0 T = rw n (writes-done l 0 T o (omega (arith, z.within)) z.bytes) in
    rw r (rw (e ∙ ap (total_from 0) r) at d)

-- ---- as the code of `write` has it

short-ground : (l : List ℕ) → length l < room → room_ground l ≡ 41
unfolding room_ground
short-ground l h = rw (lt-ltb _ _ h)

-- an output with room is refused on no ground
pub no_ground : (l : List ℕ) → room ≤ length l → room_ground l ≡ 0
unfolding room_ground
no_ground l h = rw (le-ltb _ _ h)

-- so what is written into it is the text
pub with_room : (r : Written) (l m bs : List ℕ) → room ≤ length l → Writes r l m (room_ground l) 0 bs → Writes r l m 0 0 bs
with_room r l m bs h w = rw (no_ground l h) at w

pub write-short : (l bs : List ℕ) → length l < room → Writes (Err (record { number = 41 })) l l (room_ground l) 0 bs
write-short l bs h = rw (short-ground l h) (writes-ground l 0 bs 41 (λ e. absurd (omega arith)))

module _ (name : List ℕ) (x : Lent) (r : Written) (l m : List ℕ) (b : Bool) (e : b ≡ is_usable x) (h : room ≤ length l) where
  pub write-many : b ≡ false → Writes r l m 0 0 (refused_line ranges_key) → Writes r l m (room_ground l) 0 (missing_text name x)
  unfolding missing_text too_many_text
  write-many f w = rw (no_ground l h, sym e ∙ f) w

  pub write-list : b ≡ true → Writes r l m 0 0 (list_text name (ranges_in x)) → Writes r l m (room_ground l) 0 (missing_text name x)
  unfolding missing_text
  write-list f w = rw (no_ground l h, sym e ∙ f) w

pub is-usable : (b : Bool) (x : Lent) → b ≡ is_usable x → b ≡ true → is_usable x ≡ true
is-usable b x e f = sym e ∙ f

-- ---- any text fits the room

list-fits : (name : List ℕ) (s : Missing) (es : List ℕ) → length name ≡ 10 → is_usable (lent s es) ≡ true
    → length (list_text name (ranges_in (lent s es))) ≤ room
unfolding list_text
list-fits name s es n u =
    let bs = take (s.closed + s.closed + 1) es in
    let t = total_from 0 (ranges_of s.highest.0 bs) in
    rw (usable-ranges s es u)
    (omega (
      arith,
      length-append (session_line name ++ edges_text s.highest.0 bs) (number_line missing_key t),
      length-append (session_line name) (edges_text s.highest.0 bs),
      session-length name n,
      text-length s.highest.0 bs,
      edges_room s es u,
      number-length missing_key t,
    ))

many-fits : length too_many_text ≤ room
unfolding too_many_text refused_line
many-fits = omega arith

pub missing-fits : (name : List ℕ) (x : Lent) → length name ≡ 10 → length (missing_text name x) ≤ room
unfolding missing_text
missing-fits name x n = go (is_usable x) refl
  where
    go : (b : Bool) → is_usable x ≡ b → length (missing_text name x) ≤ room
    go true e = rw e (list-fits name x.missing x.edges n e)
    go false e = rw e many-fits
