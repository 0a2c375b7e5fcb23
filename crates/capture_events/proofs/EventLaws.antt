-- The pieces that a capture comes in don't matter: the events of some bytes, and then of the rest, are those of all.
use mathlib.Core.Path.{◌≡◌, refl, ap, sym, ◌∙◌}
use mathlib.Core.List.{List, [], ◌∷◌, ◌++◌, append_assoc, append-nil}
use mathlib.Core.Bool.{Bool, true, false}
use Prim.Native.Nat.{ℕ, zero, suc, ◌+◌, ◌-◌, ◌≤◌, ◌<◌}
use native.Mathlib.Omega.{arith}
use lib.ListN.{length, drop, length-drop, length-append}
use lib.Seq.{drop-append-le, drop-drop}
use borrow.Author.Tests.{lt-ltb, le-ltb, eq-eqb, ne_eqb}
use Rattle.std.specs.Prelude.{if◌then◌else◌}
use Rattle.wire.specs.Bytes.{joined}
use Rattle.wire.proofs.Cases.{below_or_not, zero_or_not}
use Rattle.decimal.specs.Decimal.{digits}
use Rattle.capture_settings.specs.Settings.{session_key, next_key, limit_key, line_feed, settings_of}
use Rattle.capture_settings.specs.Statements.{line, settings_text, longest, Settled, SizeWithin}
use Rattle.capture_settings.proofs.TextLaws.{settings-promises}
use Rattle.capture_records.specs.Records.{most_records, record_size, is_whole, datagrams_of, rest_of}
use Rattle.capture_records.proofs.RecordLaws.{whole-within}
use Rattle.capture_records.proofs.FrontLaws.{by_front, is-part, joins, datagrams-zero, datagrams-none, rest_some}
use Rattle.capture_events.specs.Events.{Event, opened, bad_settings, datagram, fold, datagrams, At, settings, records, done, refused, is_over_at, reads, read_to, read_records, read_behind, read_settings, read_on, waits_at, read_piece, End, ends, end_at, and_then, read_last}
use Rattle.capture_events.specs.Turns.{by_pieces, AnyCutting}

pub fold-joins : {S : Type 0} (step : S → Event → S) (s : S) (a b : List Event) → fold step s (a ++ b) ≡ fold step (fold step s a) b
unfolding fold
fold-joins step s [] b = refl
fold-joins step s (e ∷ a) b = fold-joins step (step s e) a b

datagrams-join : (a b : List (List ℕ)) → datagrams (a ++ b) ≡ datagrams a ++ datagrams b
unfolding datagrams
datagrams-join [] b = refl
datagrams-join (d ∷ a) b = ap (λ (es : List Event). datagram d ∷ es) (datagrams-join a b)

pub and-then : (a b : List Event) (x : End) → and_then a (and_then b x) ≡ and_then (a ++ b) x
and-then a b x = ap (ends x.at) (sym (append_assoc a b x.events))

-- ---- records to the end of the input

-- k more may be read, and rest is left
unfoldable pub records_end : ℕ → List ℕ → End
records_end zero rest = ends done []
records_end (suc k) rest = end_at (records (suc k)) (length rest)

-- then it is done
pub rest-done : (k : ℕ) (rest : List ℕ) → (records_end k rest).at ≡ done
unfolding records_end end_at
rest-done zero rest = refl
rest-done (suc k) rest = zero_or_not _ (length rest) (λ e. rw (eq-eqb _ _ e)) (λ z. rw (ne_eqb _ _ z))

pub last_done : (l : List ℕ) → read_last done l ≡ ends done []
unfolding read_last read_on end_at
last_done l = refl

pub last-refused : (l : List ℕ) → read_last refused l ≡ ends refused []
unfolding read_last read_on end_at
last-refused l = refl

to_last : (k : ℕ) (ds : List (List ℕ)) (rest l : List ℕ) → length rest ≤ length l
    → and_then (read_to k ds rest l).events (end_at (read_to k ds rest l).at (length l - (read_to k ds rest l).used)) ≡ and_then (datagrams ds) (records_end k rest)
unfolding read_to records_end end_at
to_last zero ds rest l h = refl
to_last (suc k) ds rest l h =
    let e : length l - (length l - length rest) ≡ length rest = omega arith in
    rw e

-- the events of all records, and the end
abbrev pub all_records : ℕ → List ℕ → End
all_records k l = and_then (datagrams (datagrams_of k l)) (records_end (k - length (datagrams_of k l)) (rest_of k l))

last-records : (k : ℕ) (l : List ℕ) → read_last (records k) l ≡ all_records k l
unfolding read_last read_on read_records
last-records k l = to_last (k - length (datagrams_of k l)) (datagrams_of k l) (rest_of k l) l (is-part k l).within

-- the events of some bytes, and of what they left with the others behind it
fed-records : (k : ℕ) (l b : List ℕ) → and_then (datagrams (datagrams_of k l)) (all_records (k - length (datagrams_of k l)) (rest_of k l ++ b)) ≡ all_records k (l ++ b)
fed-records k l b =
    let j = joins k l b in
    let A = datagrams_of k l in
    let k' = k - length (datagrams_of k l) in
    let B = datagrams_of k' (rest_of k l ++ b) in
    let n : k - length (A ++ B) ≡ k' - length B = omega (arith, length-append A B) in
    rw (j.datagrams, j.rest, n, datagrams-join A B) (and-then (datagrams A) (datagrams B) (records_end (k' - length B) (rest_of k' (rest_of k l ++ b))))

-- what a piece of records leaves for the bytes b behind it: k' more may be read
to-piece : (k' : ℕ) (ds : List (List ℕ)) (rest l b : List ℕ) → drop (length l - length rest) l ≡ rest
    → read_last (read_to k' ds rest l).at (drop (read_to k' ds rest l).used l ++ b) ≡ all_records k' (rest ++ b)
unfolding read_to records_end datagrams
to-piece zero ds rest l b e = last_done (drop (length l) l ++ b) ∙ rw (datagrams-zero (rest ++ b))
to-piece (suc k) ds rest l b e = rw e (last-records (suc k) (rest ++ b))

to-events : (k : ℕ) (ds : List (List ℕ)) (rest l : List ℕ) → (read_to k ds rest l).events ≡ datagrams ds
unfolding read_to
to-events zero ds rest l = refl
to-events (suc k) ds rest l = refl

to-used : (k : ℕ) (ds : List (List ℕ)) (rest l : List ℕ) → (read_to k ds rest l).used ≤ length l
unfolding read_to
to-used zero ds rest l = omega arith
to-used (suc k) ds rest l = omega arith

records-events : (k : ℕ) (l : List ℕ) → (read_records k l).events ≡ datagrams (datagrams_of k l)
unfolding read_records
records-events k l = to-events (k - length (datagrams_of k l)) (datagrams_of k l) (rest_of k l) l

pub records-used : (k : ℕ) (l : List ℕ) → (read_records k l).used ≤ length l
unfolding read_records
records-used k l = to-used (k - length (datagrams_of k l)) (datagrams_of k l) (rest_of k l) l

records-then : (k : ℕ) (l b : List ℕ) → and_then (read_records k l).events (read_last (read_records k l).at (drop (read_records k l).used l ++ b)) ≡ all_records k (l ++ b)
unfolding read_records
records-then k l b =
    rw (to-events (k - length (datagrams_of k l)) (datagrams_of k l) (rest_of k l) l, to-piece (k - length (datagrams_of k l)) (datagrams_of k l) (rest_of k l) l b (is-part k l).part)
    (fed-records k l b)

-- ---- settings, by whether they are refused

pub size_within : (l : List ℕ) → (settings_of l).size ≤ length l
unfolding SizeWithin
size_within = settings-promises.size_within

settled : (a b : List ℕ) → longest ≤ length a → settings_of (a ++ b) ≡ settings_of a
unfolding Settled
settled = settings-promises.settled

-- the records after the settings
abbrev pub behind : List ℕ → List ℕ
behind l = drop (settings_of l).size l

module _ (l : List ℕ) (z : (settings_of l).refusal.number ≡ 0) where
  pub settings-so : read_settings l ≡ reads (read_behind l).at (opened (settings_of l).settings ∷ (read_behind l).events) ((settings_of l).size + (read_behind l).used)
  unfolding read_settings
  settings-so = rw (eq-eqb _ _ z)

  pub settings-left : drop (read_settings l).used l ≡ drop (read_behind l).used (behind l)
  settings-left = rw settings-so (sym (drop-drop (read_behind l).used (settings_of l).size l))

  pub last-settings : read_last settings l ≡ and_then (opened (settings_of l).settings ∷ []) (all_records most_records (behind l))
  unfolding read_last read_on
  last-settings =
      let h = size_within l in
      let n = length-drop (settings_of l).size l in
      let u = records-used most_records (behind l) in
      let e : length l - ((settings_of l).size + (read_records most_records (drop (settings_of l).size l)).used) ≡ length (drop (settings_of l).size l) - (read_records most_records (drop (settings_of l).size l)).used = omega arith in
      rw (settings-so, e) (ap (and_then (opened (settings_of l).settings ∷ [])) (last-records most_records (behind l)))

module _ (l : List ℕ) (z : (settings_of l).refusal.number ≡ 0 → ⊥) where
  pub settings-bad : read_settings l ≡ reads refused (bad_settings ∷ []) (length l)
  unfolding read_settings
  settings-bad = rw (ne_eqb _ _ z)

  pub last-bad : read_last settings l ≡ ends refused (bad_settings ∷ [])
  unfolding read_last read_on end_at
  last-bad = rw settings-bad

-- ---- no more is used than is there

settings-used : (l : List ℕ) → (read_settings l).used ≤ length l
settings-used l =
    zero_or_not _ (settings_of l).refusal.number
    (λ z. rw (settings-so l z) (omega (arith, size_within l, records-used most_records (behind l), length-drop (settings_of l).size l)))
    (λ z. rw (settings-bad l z) (omega arith))

pub on-used : (a : At) (l : List ℕ) → (read_on a l).used ≤ length l
unfolding read_on
on-used settings l = settings-used l
on-used (records k) l = records-used k l
on-used done l = omega arith
on-used refused l = omega arith

pub piece-used : (a : At) (l : List ℕ) → (read_piece a l).used ≤ length l
unfolding read_piece
piece-used a l = go (waits_at a (length l)) refl
  where
    go : (b : Bool) → waits_at a (length l) ≡ b → (if waits_at a (length l) then reads a [] 0 else read_on a l).used ≤ length l
    go true e = rw e (omega arith)
    go false e = rw e (on-used a l)

-- ---- where no byte is used and more may come, nothing was read

-- where nothing is passed there is no record
none_passed : (k : ℕ) (l : List ℕ) → length l ≤ length (rest_of k l) → datagrams_of k l ≡ []
none_passed zero l h = datagrams-zero l
none_passed (suc k) l h = by_front _ l some (datagrams-none k l)
  where
    some : is_whole l ≡ true → datagrams_of (suc k) l ≡ []
    some w =
        let i = whole-within l w in
        let r = (is-part k (drop (record_size l) l)).within in
        absurd (omega (arith, ap length (rest_some k l w), length-drop (record_size l) l))

to-stays : (n k : ℕ) (ds : List (List ℕ)) (rest l : List ℕ) → n ≡ k - length ds → (length l ≤ length rest → ds ≡ []) → length rest ≤ length l
    → (read_to n ds rest l).used ≡ 0 → is_over_at (read_to n ds rest l).at ≡ false → read_to n ds rest l ≡ reads (records k) [] 0
unfolding read_to is_over_at datagrams
to-stays zero k ds rest l e f h u o = let z : ◌≡◌ {A = ℕ} 0 1 = cc in absurd (omega arith)
to-stays (suc n) k ds rest l e f h u o =
    let d : ds ≡ [] = f (omega arith) in
    let m : suc n ≡ k = omega (arith, ap length d) in
    rw (d, m, u)

records-stay : (k : ℕ) (l : List ℕ) → (read_records k l).used ≡ 0 → is_over_at (read_records k l).at ≡ false → read_records k l ≡ reads (records k) [] 0
unfolding read_records
records-stay k l = to-stays (k - length (datagrams_of k l)) k (datagrams_of k l) (rest_of k l) l refl (none_passed k l) (is-part k l).within

text-some : (name : List ℕ) (n limit : ℕ) → 0 < length (settings_text name n limit)
unfolding settings_text
text-some name n limit =
    omega (
      arith,
      length-append (line session_key name ++ line next_key (digits n)) (line limit_key (digits limit)),
      length-append (limit_key ++ digits limit) (line_feed ∷ []),
    )

-- settings that were read have bytes
size-some : (l : List ℕ) → (settings_of l).refusal.number ≡ 0 → (settings_of l).size ≡ 0 → ⊥
size-some l e z =
    let t = (settings-promises.reads_exactly.only l e).is_text in
    let u : l ≡ settings_text (settings_of l).settings.session (settings_of l).settings.next.0 (settings_of l).settings.limit.0 ++ l = rw z at t in
    omega (
      arith,
      ap length u,
      length-append (settings_text (settings_of l).settings.session (settings_of l).settings.next.0 (settings_of l).settings.limit.0) l,
      text-some (settings_of l).settings.session (settings_of l).settings.next.0 (settings_of l).settings.limit.0,
    )

settings-move : (l : List ℕ) → (read_settings l).used ≡ 0 → is_over_at (read_settings l).at ≡ false → ⊥
unfolding is_over_at
settings-move l u o =
    zero_or_not _ (settings_of l).refusal.number
    (λ z. size-some l z (let v : (settings_of l).size + (read_behind l).used ≡ 0 = rw (settings-so l z) at u in omega arith))
    (λ z. let v : is_over_at refused ≡ false = rw (settings-bad l z) at o in let y : ◌≡◌ {A = ℕ} 0 1 = cc in omega arith)

on-stays : (a : At) (l : List ℕ) → (read_on a l).used ≡ 0 → is_over_at (read_on a l).at ≡ false → read_on a l ≡ reads a [] 0
unfolding read_on is_over_at
on-stays settings l u o = absurd (settings-move l u o)
on-stays (records k) l u o = records-stay k l u o
on-stays done l u o = let z : ◌≡◌ {A = ℕ} 0 1 = cc in absurd (omega arith)
on-stays refused l u o = let z : ◌≡◌ {A = ℕ} 0 1 = cc in absurd (omega arith)

pub piece-stays : (a : At) (l : List ℕ) → (read_piece a l).used ≡ 0 → is_over_at (read_piece a l).at ≡ false → read_piece a l ≡ reads a [] 0
unfolding read_piece
piece-stays a l u o = go (waits_at a (length l)) refl u o
  where
    go : (b : Bool) → waits_at a (length l) ≡ b → (if b then reads a [] 0 else read_on a l).used ≡ 0 → is_over_at (if b then reads a [] 0 else read_on a l).at ≡ false
        → (if b then reads a [] 0 else read_on a l) ≡ reads a [] 0
    go true e v w = refl
    go false e v w = on-stays a l v w

-- ---- one piece more

-- what a piece l does to the end, with the bytes b behind it
unfoldable pub Piece : At → List ℕ → List ℕ → Type 0
Piece a l b = and_then (read_piece a l).events (read_last (read_piece a l).at (drop (read_piece a l).used l ++ b)) ≡ read_last a (l ++ b)

piece-wait : (l b : List ℕ) → length l < longest → Piece settings l b
unfolding Piece read_piece waits_at
piece-wait l b h = rw (lt-ltb _ _ h)

piece-records : (k : ℕ) (l b : List ℕ) → Piece (records k) l b
unfolding Piece read_piece waits_at read_on
piece-records k l b = records-then k l b ∙ sym (last-records k (l ++ b))

module _ (l b : List ℕ) (h : longest ≤ length l) where
  same_read : settings_of (l ++ b) ≡ settings_of l
  same_read = settled l b h

  piece-good : (settings_of l).refusal.number ≡ 0 → Piece settings l b
  unfolding Piece read_piece waits_at read_on
  piece-good z =
      let g : (settings_of (l ++ b)).refusal.number ≡ 0 = rw same_read z in
      let d : drop (settings_of l).size (l ++ b) ≡ drop (settings_of l).size l ++ b = drop-append-le (settings_of l).size l b (size_within l) in
      rw (le-ltb _ _ h, settings-left l z, settings-so l z, last-settings (l ++ b) g, same_read, d)
      (ap (and_then (opened (settings_of l).settings ∷ [])) (records-then most_records (drop (settings_of l).size l) b))

  piece-bad : ((settings_of l).refusal.number ≡ 0 → ⊥) → Piece settings l b
  unfolding Piece read_piece waits_at read_on
  piece-bad z =
      let g : (settings_of (l ++ b)).refusal.number ≡ 0 → ⊥ = rw same_read z in
      rw (le-ltb _ _ h, settings-bad l z, last-bad (l ++ b) g, last-refused (drop (length l) l ++ b))

pub piece-at : (a : At) (l b : List ℕ) → Piece a l b
unfolding Piece read_piece waits_at read_on
piece-at settings l b =
    below_or_not _ (length l) longest (piece-wait l b) (λ h. zero_or_not _ (settings_of l).refusal.number (piece-good l b h) (piece-bad l b h))
piece-at (records k) l b = piece-records k l b
piece-at done l b = last_done (drop (length l) l ++ b) ∙ sym (last_done (l ++ b))
piece-at refused l b = last-refused (drop (length l) l ++ b) ∙ sym (last-refused (l ++ b))

-- ---- all pieces

pub all-pieces : (a : At) (l : List ℕ) (ps : List (List ℕ)) → by_pieces a l ps ≡ read_last a (l ++ joined ps)
unfolding by_pieces joined Piece
all-pieces a l [] = rw (append-nil l)
all-pieces a l (p ∷ ps) =
    ap (and_then (read_piece a (l ++ p)).events) (all-pieces (read_piece a (l ++ p)).at (drop (read_piece a (l ++ p)).used (l ++ p)) ps)
    ∙ piece-at a (l ++ p) (joined ps)
    ∙ ap (read_last a) (append_assoc l p (joined ps))

pub any_cutting : AnyCutting
unfolding AnyCutting
any_cutting ps = all-pieces settings [] ps
