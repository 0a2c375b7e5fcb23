-- A lent output, and what a writer answers and leaves in it.
use Rattle.std.specs.Prelude.{ℕ, ◌+◌, ◌^◌, ◌<◌, ◌≤◌, List, [], ◌∷◌, ◌++◌, ◌≡◌, length, take, drop, leb, eqb, if◌then◌else◌, Result, Ok, Err}
use Rattle.wire.specs.Refusals.{output_short}
use Rattle.wire.specs.Words.{Words, refused, says, refuses, refused_words, Injective}
use Rattle.wire.specs.Bytes.{number, bytes}
use Rattle.wire.specs.declared.refusal.Refusal.{Refusal}

-- what a writer answers: how many bytes it wrote, or why it wrote none
abbrev pub Written : Type 0
Written = Result ℕ Refusal

-- its one kind, but for a refusal
pub data WrittenKind : Type 0 where
  wrote : WrittenKind

-- a writer's answer: how many bytes it wrote, or its refusal
unfoldable pub written_words : Written → Words WrittenKind
written_words (Ok size) = says wrote (size ∷ [])
written_words (Err r) = refused_words r

-- the output with bs laid over it at a place, or as it was where bs does not fit
unfoldable pub put : List ℕ → ℕ → List ℕ → List ℕ
put l at bs = if leb (at + length bs) (length l) then take at l ++ bs ++ drop (at + length bs) l else l

-- ---- every writer: g is its own ground for refusing what it was given (0: none), at the place, bs its bytes

-- 41 comes after every other ground
unfoldable pub write_refusal : ℕ → List ℕ → ℕ → List ℕ → ℕ
write_refusal g l at bs = if eqb g 0 then (if leb (at + length bs) (length l) then 0 else output_short) else g

-- the answer: the refusal, or how many bytes were written
unfoldable pub write_answer : ℕ → List ℕ → ℕ → List ℕ → Words WrittenKind
write_answer g l at bs =
    if eqb (write_refusal g l at bs) 0 then says wrote (length bs ∷ [])
    else refuses (write_refusal g l at bs)

-- the output at exit: bs laid in it, or as it was where a ground applies or there is no room
abbrev pub write_output : ℕ → List ℕ → ℕ → List ℕ → List ℕ
write_output g l at bs = if eqb g 0 then put l at bs else l

-- the promise of a writer that answers r and turns the output l into m
pub record Writes (r : Written) (l m : List ℕ) (g at : ℕ) (bs : List ℕ) : Type 0 where
  pub answers : written_words r ≡ write_answer g l at bs
  pub leaves : m ≡ write_output g l at bs

-- ---- what is promised of every output, over the width

-- what is written reads back
unfoldable pub ReadsBack : Type 0
ReadsBack = (n v : ℕ) (l : List ℕ) (at : ℕ) → v < 256 ^ n → at + n ≤ length l → number (put l at (bytes n v)) at n ≡ v

-- two adjacent writes are one
unfoldable pub AdjacentAreOne : Type 0
AdjacentAreOne = (l : List ℕ) (at : ℕ) (a b : List ℕ) → at + length a + length b ≤ length l
    → put (put l at a) (at + length a) b ≡ put l at (a ++ b)

-- an output l and what became of it, m, are the same but for the bytes from one place to another
pub record Outside (l m : List ℕ) (from to : ℕ) : Type 0 where
  pub size : length m ≡ length l
  pub before : take from m ≡ take from l
  pub behind : drop to m ≡ drop to l

-- a writer that succeeds changes only the bytes it reports
unfoldable pub OnlyWhatItReports : Type 0
OnlyWhatItReports = (r : Written) (l m : List ℕ) (g at : ℕ) (bs : List ℕ) (size : ℕ) → Writes r l m g at bs
    → written_words r ≡ says wrote (size ∷ []) → Outside l m at (at + size)

-- what was written stands at its place in the output at exit
unfoldable pub StandsThere : Type 0
StandsThere = (r : Written) (l m : List ℕ) (g at : ℕ) (bs : List ℕ) (size : ℕ) → Writes r l m g at bs
    → written_words r ≡ says wrote (size ∷ []) → take size (drop at m) ≡ bs

-- a refusal writes nothing
unfoldable pub RefusalWritesNothing : Type 0
RefusalWritesNothing = (r : Written) (l m : List ℕ) (g at : ℕ) (bs : List ℕ) → Writes r l m g at bs
    → ((written_words r).which ≡ refused) → m ≡ l

-- the words of a writer's answer tell all answers apart
unfoldable pub TellsApart : Type 0
TellsApart = Injective written_words

-- all of these
pub record OutputLaws : Type 0 where
  pub reads_back : ReadsBack
  pub adjacent_are_one : AdjacentAreOne
  pub only_what_it_reports : OnlyWhatItReports
  pub stands_there : StandsThere
  pub refusal_writes_nothing : RefusalWritesNothing
  pub tells_apart : TellsApart
