-- A turn, as its code has it.
use mathlib.Core.Path.{◌≡◌, ap, sym, ◌∙◌}
use mathlib.Core.List.{List}
use Prim.Native.Nat.{ℕ, ◌+◌, ◌≤◌, min}
use native.Mathlib.Omega.{arith}
use lib.ListN.{length, take, drop, length-take, length-drop}
use Rattle.wire.specs.Bytes.{AreBytes}
use Rattle.wire.specs.Output.{put}
use Rattle.wire.proofs.PartLaws.{drop-take, take-there}
use Rattle.capture_records.specs.Buffer.{kept_size, kept_of}
use Rattle.capture_records.proofs.RecordLaws.{bytes_take}
use Rattle.capture_records.proofs.BufferLaws.{size-all}
use Rattle.capture_events.specs.Events.{read_piece}
use Rattle.capture_events.specs.Next.{at_of}
use Rattle.capture_events.specs.Turns.{there, Turn, left, most_kept}
use Rattle.capture_events.proofs.EventLaws.{piece-used}
use Rattle.capture_events.proofs.TurnLaws.{turn_last, turn-reads, little-piece}
use Rattle.missing_capture.specs.declared.reading.Reading.{Reading}
use Rattle.missing_capture.specs.declared.reading.Fed.{Fed}
use Rattle.missing_capture.specs.declared.turning.Turning.{Turning}
use Rattle.missing_capture.specs.Reading.{start_reading, LentReading, lent_reading, LentFed, lent_fed, fed_reading, feed_of, finish_of}
use Rattle.missing_capture.specs.Turning.{turning, start_turning, lent_turning, turning_with, turned_of, buffer_of}

pub start-turning : (s : Reading) → s ≡ start_reading → turning s 0 ≡ start_turning
unfolding start_turning
start-turning s e = rw e

-- what is lent of the buffer
pub there-length : (m : List ℕ) (n k : ℕ) → n ≡ min (length m) k → n ≡ length (take n m)
there-length m n k e = omega (arith, length-take n m)

-- so many bytes came behind those that were kept, and n are there
module _ (s : Turning) (m : List ℕ) (got n : ℕ) (t : n ≡ min (length m) (s.have + got)) where
  there-so : take n m ≡ there m s.have got
  there-so = take-there m n (s.have + got) t

  pub turn-ends : (f : Reading) (es es₁ : List ℕ) → got ≡ 0 → lent_reading f es₁ ≡ finish_of (lent_reading s.reading es) (take n m)
      → lent_turning (turning f 0) es₁ ≡ turned_of (lent_turning s es) m got
  unfolding turned_of finish_of
  turn-ends f es es₁ e g =
      ap (λ (x : LentReading). turning_with x 0) g ∙ rw (turn_last (at_of s.reading.place) m s.have got e, there-so, e)

  pub turn-keeps-all : got ≡ 0 → m ≡ buffer_of s m got
  unfolding buffer_of
  turn-keeps-all e = sym (ap (λ (t : Turn). t.buffer) (turn_last (at_of s.reading.place) m s.have got e))

  -- f was fed what is there
  module _ (f : Fed) (es es₁ : List ℕ) (g : lent_fed f es₁ ≡ feed_of (lent_reading s.reading es) (take n m)) where
    used-so : f.used ≡ (read_piece (at_of s.reading.place) (there m s.have got)).used
    unfolding feed_of
    used-so = ap (λ (x : LentFed). x.fed.used) g ∙ rw there-so

    within : f.used ≤ n
    within =
        let u = piece-used (at_of s.reading.place) (there m s.have got) in
        let l = ap length there-so in
        omega (arith, used-so, length-take n m)

    kept-so : take (kept_size (length m) f.used n) (drop f.used m) ≡ left (at_of s.reading.place) (there m s.have got)
    kept-so =
        ap (λ (k : ℕ). take k (drop f.used m)) (sym (size-all (length m) f.used n within (omega arith)))
        ∙ sym (drop-take f.used n m)
        ∙ ap (drop f.used) there-so
        ∙ ap (λ (k : ℕ). drop k (there m s.have got)) used-so

    size-so : kept_size (length m) f.used n ≡ length (left (at_of s.reading.place) (there m s.have got))
    size-so =
        let k = sym (size-all (length m) f.used n within (omega arith)) in
        let a = ap length there-so in
        omega (arith, used-so, length-take n m, length-drop (read_piece (at_of s.reading.place) (there m s.have got)).used (there m s.have got))

    pub turn-goes : (k : ℕ) → (got ≡ 0 → ⊥) → k ≡ kept_size (length m) f.used n
        → lent_turning (turning f.reading k) es₁ ≡ turned_of (lent_turning s es) m got
    unfolding turned_of feed_of
    turn-goes k z h =
        rw (turn-reads (at_of s.reading.place) m s.have got z, h ∙ size-so)
        (ap (λ (x : LentFed). turning_with (fed_reading x) (length (left (at_of s.reading.place) (there m s.have got)))) g ∙ rw there-so)

    pub turn-keeps : (b : List ℕ) → (got ≡ 0 → ⊥) → b ≡ kept_of m f.used n → b ≡ buffer_of s m got
    unfolding buffer_of kept_of
    turn-keeps b z h = h ∙ ap (put m 0) kept-so ∙ sym (ap (λ (t : Turn). t.buffer) (turn-reads (at_of s.reading.place) m s.have got z))

    -- a buffer's elements are bytes
    pub turn-little : (k : ℕ) → k ≡ kept_size (length m) f.used n → AreBytes m → k ≤ most_kept
    turn-little k h small = rw (h ∙ size-so) (little-piece (at_of s.reading.place) (there m s.have got) (bytes_take (s.have + got) m small))
