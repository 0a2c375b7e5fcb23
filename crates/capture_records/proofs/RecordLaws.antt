-- The record in front, as the code has it, and the bytes that the records make.
use mathlib.Core.Path.{◌≡◌, refl, ap, sym, ◌∙◌}
use mathlib.Core.List.Memᴰ
use mathlib.Core.List.{List, [], ◌∷◌, ◌++◌, append_assoc}
use mathlib.Core.Bool.{Bool, true, false, not}
use Prim.Native.Nat.{ℕ, zero, suc, ◌+◌, ◌-◌, ◌≤◌, ◌<◌}
use native.Mathlib.Omega.{arith}
use lib.ListN.{length, get_or, take, drop, length-append, length-take, length-drop, take-append-drop}
use lib.Seq.{get_or-take, get_or-drop, length-take-le, drop-drop, take_at, drop_at}
use lib.Dec.{ltb}
use borrow.Author.Tests.{lt-ltb, le-ltb, ltb-true, ltb-false}
use Rattle.std.specs.Prelude.{if◌then◌else◌}
use Rattle.wire.specs.Words.{Case, answer, refused, says, Injective}
use Rattle.wire.specs.Bytes.{number, bytes, AreBytes}
use Rattle.wire.proofs.Words.{which-of, values-of, read_back}
use Rattle.wire.proofs.Cases.{below_or_not}
use Rattle.wire.proofs.Numbers.{byte_past, bytes-number, number-bytes, length-bytes, small-number}
use Rattle.std.specs.Prelude.{Option, Some, None}
use Rattle.capture_records.specs.Records.{record_bytes, record_size, is_whole, datagram_of, RecordKind, whole, short, record_words, record_in_front, datagrams_of, rest_of, records_bytes, RecordsMakeTheBytes, largest_length, AllHeld, RecordPromises}

-- ---- as the code of `read` has it

module _ (l : List ℕ) where
  stub : length l < 2 → is_whole l ≡ false
  unfolding is_whole
  stub h = simp (lt-ltb _ _ h)

  cut : (k : ℕ) → 2 ≤ length l → k ≡ number l 0 2 → length l < k + 2 → is_whole l ≡ false
  unfolding is_whole record_size
  cut k h e f = let g : length l < number l 0 2 + 2 = omega arith in simp (le-ltb _ _ h, lt-ltb _ _ g)

  pub whole-there : (k : ℕ) → 2 ≤ length l → k ≡ number l 0 2 → k + 2 ≤ length l → is_whole l ≡ true
  unfolding is_whole record_size
  whole-there k h e f = let g : number l 0 2 + 2 ≤ length l = omega arith in simp (le-ltb _ _ h, le-ltb _ _ g)

  front-short : is_whole l ≡ false → record_words None ≡ record_in_front l
  unfolding record_words record_in_front
  front-short e = simp e

  pub read-stub : length l < 2 → record_words None ≡ record_in_front l
  read-stub h = front-short (stub h)

  pub read-cut : (k : ℕ) → 2 ≤ length l → k ≡ number l 0 2 → length l < k + 2 → record_words None ≡ record_in_front l
  read-cut k h e f = front-short (cut k h e f)

  pub read_whole : (k : ℕ) → 2 ≤ length l → k ≡ number l 0 2 → k + 2 ≤ length l → record_words (Some (k + 2)) ≡ record_in_front l
  unfolding record_words record_in_front record_size
  read_whole k h e f = simp (whole-there k h e f, ← e)

-- ---- as a caller has it

-- a whole record lies within the bytes
pub record Within (l : List ℕ) : Type 0 where
  pub least : 2 ≤ record_size l
  pub most : record_size l ≤ length l

pub whole-within : (l : List ℕ) → is_whole l ≡ true → Within l
unfolding is_whole record_size
whole-within l = go (ltb (length l) 2) (ltb (length l) (number l 0 2 + 2)) refl
  where
    go : (a b : Bool) → ltb (length l) (number l 0 2 + 2) ≡ b → if a then false else not b ≡ true → Within l
    go false false p e = record { least = omega arith; most = ltb-false _ _ p }
    go false true p e = let z : ◌≡◌ {A = ℕ} 0 1 = cc in absurd (omega arith)
    go true b p e = let z : ◌≡◌ {A = ℕ} 0 1 = cc in absurd (omega arith)

-- less than a whole record is at most all but its last byte
pub short-length : (l : List ℕ) → AreBytes l → is_whole l ≡ false → length l ≤ 65536
unfolding is_whole record_size
short-length l small = go (ltb (length l) 2) (ltb (length l) (number l 0 2 + 2)) refl refl
  where
    go : (a b : Bool) → ltb (length l) 2 ≡ a → ltb (length l) (number l 0 2 + 2) ≡ b → if a then false else not b ≡ false → length l ≤ 65536
    go true b p q e = let h : length l < 2 = ltb-true _ _ p in omega arith
    go false true p q e = let h : length l < number l 0 2 + 2 = ltb-true _ _ q in let n = small-number 2 l 0 small in omega arith
    go false false p q e = let z : ◌≡◌ {A = ℕ} 0 1 = cc in absurd (omega arith)

-- what the words say
pub said-short : (l : List ℕ) → record_words None ≡ record_in_front l → is_whole l ≡ false
unfolding record_words record_in_front
said-short l = go (is_whole l)
  where
    go : (b : Bool) → says short [] ≡ if b then says whole (record_size l ∷ []) else says short [] → b ≡ false
    go false e = refl
    go true e = let w = which-of e in let z : ◌≡◌ {A = ℕ} 0 1 = cc in absurd (omega arith)

pub record IsFront (l : List ℕ) (k : ℕ) : Type 0 where
  pub all : is_whole l ≡ true
  pub size : k ≡ record_size l

pub said-whole : (l : List ℕ) (k : ℕ) → record_words (Some k) ≡ record_in_front l → IsFront l k
unfolding record_words record_in_front
said-whole l k = go (is_whole l) refl
  where
    go : (b : Bool) → is_whole l ≡ b → says whole (k ∷ []) ≡ if b then says whole (record_size l ∷ []) else says short [] → IsFront l k
    go true p e = record { all = p; size = ap (λ (vs : List ℕ). get_or vs 0 0) (values-of e) }
    go false p e = let w = which-of e in let z : ◌≡◌ {A = ℕ} 0 1 = cc in absurd (omega arith)

-- ---- the bytes that the records make

pub bytes_drop : (k : ℕ) (l : List ℕ) → AreBytes l → AreBytes (drop k l)
bytes_drop k l small i = rw (get_or-drop k l i 0) (small (k + i))

pub bytes_take : (n : ℕ) (l : List ℕ) → AreBytes l → AreBytes (take n l)
bytes_take n l small i =
    below_or_not _ i n (λ h. rw (get_or-take n l i 0 h) (small i)) (λ h. rw (sym (byte_past (take n l) i (omega (arith, length-take n l)))) (omega arith))

one-record : (l : List ℕ) → AreBytes l → is_whole l ≡ true → record_bytes (datagram_of l) ++ drop (record_size l) l ≡ l
unfolding record_size
one-record l small w =
    let i = whole-within l w in
    let m : number l 0 2 + 2 ≤ length l = i.most in
    let s : number l 0 2 + 2 - 2 ≡ number l 0 2 = omega arith in
    let n : length (take (number l 0 2) (drop 2 l)) ≡ number l 0 2 = length-take-le (number l 0 2) (drop 2 l) (omega (arith, length-drop 2 l)) in
    let b : bytes 2 (number l 0 2) ≡ take 2 l = bytes-number 2 l small (omega arith) in
    let c : number l 0 2 + 2 ≡ 2 + number l 0 2 = omega arith in
    let d : drop (number l 0 2 + 2) l ≡ drop (number l 0 2) (drop 2 l) = ap (λ (k : ℕ). drop k l) c ∙ sym (drop-drop (number l 0 2) 2 l) in
    rw (s, n, b, d, append_assoc (take 2 l) (take (number l 0 2) (drop 2 l)) (drop (number l 0 2) (drop 2 l)), take-append-drop (number l 0 2) (drop 2 l))
    (take-append-drop 2 l)

make-bytes : (k : ℕ) (l : List ℕ) → AreBytes l → records_bytes (datagrams_of k l) ++ rest_of k l ≡ l
unfolding datagrams_of rest_of records_bytes
make-bytes zero l small = refl
make-bytes (suc k) l small = go (is_whole l) refl (make-bytes k (drop (record_size l) l) (bytes_drop (record_size l) l small))
  where
    go : (b : Bool) → is_whole l ≡ b → records_bytes (datagrams_of k (drop (record_size l) l)) ++ rest_of k (drop (record_size l) l) ≡ drop (record_size l) l
        → records_bytes (if b then datagram_of l ∷ datagrams_of k (drop (record_size l) l) else []) ++ (if b then rest_of k (drop (record_size l) l) else l) ≡ l
    go false p i = refl
    go true p i =
        append_assoc (record_bytes (datagram_of l)) (records_bytes (datagrams_of k (drop (record_size l) l))) (rest_of k (drop (record_size l) l))
        ∙ rw i (one-record l small p)

make_the_bytes : RecordsMakeTheBytes
unfolding RecordsMakeTheBytes
make_the_bytes = make-bytes

-- ---- the words tell all answers apart

fronted : Case RecordKind → List ℕ → Option ℕ
fronted (answer whole) vs = Some (get_or vs 0 0)
fronted (answer short) vs = None
fronted refused vs = None

tells_apart : Injective record_words
unfolding record_words fronted
tells_apart = read_back record_words (λ w. fronted w.which w.values) back
  where
    back : (a : Option ℕ) → fronted (record_words a).which (record_words a).values ≡ a
    back (Some k) = refl
    back None = refl

-- ---- records that were made are read

-- the length in front of a datagram, whatever follows
front-number : (d rest : List ℕ) → length d ≤ largest_length → number (record_bytes d ++ rest) 0 2 ≡ length d
front-number d rest h = rw (append_assoc (bytes 2 (length d)) d rest) (number-bytes 2 (length d) (omega arith) [] (d ++ rest))

-- so the record in front is that of the datagram
pub record Reads (d rest : List ℕ) : Type 0 where
  pub all : is_whole (record_bytes d ++ rest) ≡ true
  pub its-datagram : datagram_of (record_bytes d ++ rest) ≡ d
  pub after-it : drop (record_size (record_bytes d ++ rest)) (record_bytes d ++ rest) ≡ rest

reads-record : (d rest : List ℕ) → length d ≤ largest_length → Reads d rest
unfolding record_size
reads-record d rest h =
    let n = front-number d rest h in
    let b = length-bytes 2 (length d) in
    let r : length (record_bytes d) ≡ 2 + length d = length-append (bytes 2 (length d)) d ∙ ap (λ (k : ℕ). k + length d) b in
    let t = length-append (record_bytes d) rest in
    let s : length d + 2 ≡ length (record_bytes d) = omega arith in
    let m : length d + 2 - 2 ≡ length d = omega arith in
    let a : record_bytes d ++ rest ≡ bytes 2 (length d) ++ (d ++ rest) = append_assoc (bytes 2 (length d)) d rest in
    let e : drop 2 (record_bytes d ++ rest) ≡ d ++ rest = rw a (drop_at (bytes 2 (length d)) (d ++ rest) 2 b) in
    record {
      all = whole-there (record_bytes d ++ rest) (length d) (omega arith) (sym n) (omega arith);
      its-datagram = rw (n, m, e) (take_at d rest (length d) refl);
      after-it = rw (n, s) (drop_at (record_bytes d) rest (length (record_bytes d)) refl);
    }

module _ (rest : List ℕ) (w : is_whole rest ≡ false) where
  datagrams-none : (k : ℕ) → datagrams_of k rest ≡ []
  unfolding datagrams_of
  datagrams-none zero = refl
  datagrams-none (suc k) = simp w

  left-none : (k : ℕ) → rest_of k rest ≡ rest
  unfolding rest_of
  left-none zero = refl
  left-none (suc k) = simp w

  datagrams-made : (ds : List (List ℕ)) (k : ℕ) → AllHeld ds → length ds ≤ k → datagrams_of k (records_bytes ds ++ rest) ≡ ds
  unfolding datagrams_of records_bytes AllHeld
  datagrams-made [] k held h = datagrams-none k
  datagrams-made (d ∷ ds) zero held h = absurd (omega arith)
  datagrams-made (d ∷ ds) (suc k) held h =
      let r = reads-record d (records_bytes ds ++ rest) (held d (Memᴰ.head refl)) in
      let i = datagrams-made ds k (λ e m. held e (Memᴰ.tail m)) (omega arith) in
      rw (append_assoc (record_bytes d) (records_bytes ds) rest, r.all, r.its-datagram, r.after-it, i)

  left-made : (ds : List (List ℕ)) (k : ℕ) → AllHeld ds → length ds ≤ k → rest_of k (records_bytes ds ++ rest) ≡ rest
  unfolding rest_of records_bytes AllHeld
  left-made [] k held h = left-none k
  left-made (d ∷ ds) zero held h = absurd (omega arith)
  left-made (d ∷ ds) (suc k) held h =
      let r = reads-record d (records_bytes ds ++ rest) (held d (Memᴰ.head refl)) in
      let i = left-made ds k (λ e m. held e (Memᴰ.tail m)) (omega arith) in
      rw (append_assoc (record_bytes d) (records_bytes ds) rest, r.all, r.after-it, i)

pub record-promises : RecordPromises
record-promises =
    record {
      make_the_bytes = make_the_bytes;
      read_back =
          record {
            datagrams = λ ds rest k held w h. datagrams-made rest w ds k held h;
            left = λ ds rest k held w h. left-made rest w ds k held h;
          };
      tells_apart = tells_apart;
    }
