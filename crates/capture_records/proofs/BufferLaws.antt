-- What `keep` leaves: d is the buffer at entry, whose bytes from one place up to another are moved.
use mathlib.Core.Path.{◌≡◌, sym, ◌∙◌}
use mathlib.Core.List.{List}
use mathlib.Core.Bool.{true, false}
use Prim.Native.Nat.{ℕ, ◌-◌, ◌≤◌, ◌<◌}
use native.Mathlib.Omega.{arith}
use lib.ListN.{length, take, drop, length-drop}
use lib.Seq.{length-take-le, paste}
use borrow.Author.Tests.{lt-ltb, le-ltb}
use Rattle.wire.specs.Output.{put}
use Rattle.wire.proofs.Outputs.{put-room, put-empty}
use Rattle.capture_records.specs.Buffer.{are_places, kept_size, kept_of}

-- ---- how many bytes are moved, and the buffer then

pub places-all : (n from to : ℕ) → from ≤ to → to ≤ n → true ≡ are_places n from to
unfolding are_places
places-all n from to h k = rw (le-ltb n to k, le-ltb to from h)

pub places-out : (n from to : ℕ) → n < to → false ≡ are_places n from to
unfolding are_places
places-out n from to h = rw (lt-ltb n to h)

pub places-back : (n from to : ℕ) → to ≤ n → to < from → false ≡ are_places n from to
unfolding are_places
places-back n from to h k = rw (le-ltb n to h, lt-ltb to from k)

pub size-all : (n from to : ℕ) → from ≤ to → to ≤ n → to - from ≡ kept_size n from to
unfolding kept_size
size-all n from to f g = simp (le-ltb _ _ f, le-ltb _ _ g)

pub size-out : (n from to : ℕ) → n < to → 0 ≡ kept_size n from to
unfolding kept_size
size-out n from to h = simp (lt-ltb _ _ h)

pub size_back : (n from to : ℕ) → to ≤ n → to < from → 0 ≡ kept_size n from to
unfolding kept_size
size_back n from to h g = simp (le-ltb _ _ h, lt-ltb _ _ g)

keep-none : (d : List ℕ) (from to : ℕ) → 0 ≡ kept_size (length d) from to → d ≡ kept_of d from to
unfolding kept_of
keep-none d from to e = rw (← e) (sym (put-empty d 0))

pub keep_out : (d : List ℕ) (from to : ℕ) → length d < to → d ≡ kept_of d from to
keep_out d from to h = keep-none d from to (size-out (length d) from to h)

pub keep-back : (d : List ℕ) (from to : ℕ) → to ≤ length d → to < from → d ≡ kept_of d from to
keep-back d from to h g = keep-none d from to (size_back (length d) from to h g)

-- so many bytes pasted at the front are a write there
paste-put : (d s : List ℕ) (n : ℕ) → n ≤ length s → n ≤ length d → paste d 0 s n ≡ put d 0 (take n s)
paste-put d s n h g =
    let e : length (take n s) ≡ n = length-take-le n s h in
    sym (put-room d 0 (take n s) (omega arith) ∙ rw e)

pub keep-end : (d out : List ℕ) (from to : ℕ) → out ≡ paste d 0 (drop from d) (to - from) → from ≤ to → to ≤ length d
    → out ≡ kept_of d from to
unfolding kept_of
keep-end d out from to e h f =
    e ∙ rw (← size-all (length d) from to h f)
    (paste-put d (drop from d) (to - from) (omega (arith, length-drop from d)) (omega arith))
