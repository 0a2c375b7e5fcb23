-- A datagram taken, as the code has it.
use mathlib.Core.Path.{◌≡◌, refl, ap, sym, ◌∙◌}
use mathlib.Core.List.{List, [], ◌∷◌}
use mathlib.Core.Logic.{◌⊎◌, inl, inr}
use mathlib.Core.Bool.{Bool, true, false}
use Prim.Native.Nat.{ℕ, ◌+◌, ◌/◌, min}
use native.Mathlib.Omega.{arith}
use lib.ListN.{length, take}
use lib.Dec.{eqb}
use borrow.Author.Tests.{ne_eqb, eq-eqb}
use Rattle.std.specs.Prelude.{if◌then◌else◌, Result, Ok, Err, is_ok}
use Rattle.wire.specs.Bounds.{largest_number}
use Rattle.wire.specs.Bytes.{same_bytes}
use Rattle.wire.specs.Output.{put}
use Rattle.wire.proofs.Outputs.{length-put}
use Rattle.wire.specs.declared.refusal.Refusal.{Refusal}
use Rattle.wire.specs.declared.kinds.SequenceNumber.{SequenceNumber}
use Rattle.wire.specs.declared.kinds.MessageCount.{MessageCount}
use Rattle.moldudp64.specs.Header.{number_of}
use Rattle.moldudp64.specs.declared.downstream.Downstream.{Downstream}
use Rattle.moldudp64.specs.declared.downstream.Downstream.TheVariants.{Data, Heartbeat, EndOfSession}
use Rattle.moldudp64.specs.Downstream.{heartbeat, end_of_session, refusal_of, downstream_words, downstream_of}
use Rattle.moldudp64.proofs.DownstreamLaws.{sound, data_read, kind-read, refusal-read, number_read, no_blocks}
use Rattle.missing_ranges.specs.declared.ranges.Missing.{Missing}
use Rattle.missing_ranges.specs.Notes.{missing, Lent, lent, start_in, edges_after, top_after, is_kept, note_of}
use Rattle.missing_records.specs.declared.Notes.{Notes}
use Rattle.missing_records.specs.declared.Said.{Said}
use Rattle.missing_records.specs.Records.{accepted, next_in, LentNotes, lent_notes, lent_in, notes_with, start_notes, take_of, noted_if, IsSaid}

abbrev notes : List ℕ → Missing → Notes
notes name m = record { session = name; missing = m }

-- ---- the start, and a step where the datagram is ours or not

pub start-noted : (name l m : List ℕ) (s : Missing) (n : ℕ) → lent s m ≡ start_in l n → lent_notes (notes name s) m ≡ start_notes name l n
start-noted name l m s n e = ap (notes_with name) e

-- b is what `has_session` answers
module _ (x : Notes) (l : List ℕ) (ours b : Bool) (f e : ℕ) (p : b ≡ ours) where
  pub ours-noted : (m : List ℕ) (s : Missing) → b ≡ true → lent s m ≡ note_of (lent x.missing l) f e
      → lent_notes (notes x.session s) m ≡ noted_if ours (lent_notes x l) f e
  unfolding noted_if
  ours-noted m s q g = rw (← p, q) (ap (notes_with x.session) g)

  pub not_ours : b ≡ false → lent_notes x l ≡ noted_if ours (lent_notes x l) f e
  unfolding noted_if
  not_ours q = rw (← p, q)

-- ---- what a datagram says, by what was read

abbrev said : SequenceNumber → SequenceNumber → Said
said f e = record { first = f; next = e }

or-other : Said → Result Said Refusal → Said
or-other z (Ok s) = s
or-other z (Err r) = z

said-so : (d : List ℕ) (f e : SequenceNumber) → refusal_of d ≡ 0 → f.0 ≡ number_of d → e.0 ≡ next_in d → IsSaid (Ok (said f e)) d
unfolding or-other
said-so d f e z p q =
    record {
      well = sym (eq-eqb _ _ z);
      numbers = λ s t. let h = ap (or-other s) t in (ap (λ (x : Said). x.first.0) (sym h) ∙ p, ap (λ (x : Said). x.next.0) (sym h) ∙ q);
    }

module _ (d : List ℕ) (w : Result Downstream Refusal) (q : downstream_words w ≡ downstream_of d) where
  module _ (p : Downstream) (o : w ≡ Ok p) where
    pub said-data : (n : SequenceNumber) (c : MessageCount) (e : SequenceNumber) → p ≡ Data n c → e.0 ≡ min largest_number (n.0 + c.0)
        → IsSaid (Ok (said n e)) d
    unfolding downstream_words
    said-data n c e g h =
        let k = data_read d n.0 c.0 (sym (rw (o, g) at q)) in
        let s = (sound d k.well).numbers_fit in
        let i : e.0 ≡ next_in d = omega (arith, k.first, k.blocks) in
        said-so d n e k.well k.first i

    said-heartbeat : (n : SequenceNumber) → p ≡ Heartbeat n → IsSaid (Ok (said n n)) d
    unfolding downstream_words
    said-heartbeat n g =
        let h = sym (rw (o, g) at q) in
        let k = kind-read d heartbeat (n.0 ∷ []) h in
        let v = number_read d heartbeat n.0 [] h in
        let z = no_blocks d heartbeat k.1 refl in
        said-so d n n k.0 (sym v) (omega arith)

    said-end : (n : SequenceNumber) → p ≡ EndOfSession n → IsSaid (Ok (said n n)) d
    unfolding downstream_words
    said-end n g =
        let h = sym (rw (o, g) at q) in
        let k = kind-read d end_of_session (n.0 ∷ []) h in
        let v = number_read d end_of_session n.0 [] h in
        let z = no_blocks d end_of_session k.1 refl in
        said-so d n n k.0 (sym v) (omega arith)

    -- both state the next number alone
    pub said-alone : (n : SequenceNumber) → (p ≡ Heartbeat n) ⊎ (p ≡ EndOfSession n) → IsSaid (Ok (said n n)) d
    said-alone n (inl e) = said-heartbeat n e
    said-alone n (inr e) = said-end n e

  pub said-refused : (r t : Refusal) (s : Result Said Refusal) → w ≡ Err r → s ≡ Err t → IsSaid s d
  unfolding downstream_words
  said-refused r t s g e =
      let z = refusal-read d r.number (sym (rw g at q)) in
      rw e (record { well = sym (ne_eqb _ _ z); numbers = λ x h. let y : ◌≡◌ {A = ℕ} 0 1 = cc in absurd (omega arith) })

-- ---- a datagram

module _ (x : Notes) (l d : List ℕ) (s : Result Said Refusal) (i : IsSaid s d) where
  pub take-read : (z : Said) (y : Notes) (m : List ℕ) → s ≡ Ok z
      → lent_notes y m ≡ noted_if (same_bytes (take 10 d) x.session) (lent_notes x l) z.first.0 z.next.0
      → lent_notes y m ≡ take_of (lent_notes x l) d
  unfolding take_of accepted noted_if
  take-read z y m t g =
      let n = i.numbers z t in
      let w : eqb (refusal_of d) 0 ≡ true = sym i.well ∙ ap is_ok t in
      g ∙ rw (w, n.0, n.1)

  pub take-refused : (r : Refusal) → s ≡ Err r → lent_notes x l ≡ take_of (lent_notes x l) d
  unfolding take_of accepted
  take-refused r t = let w : eqb (refusal_of d) 0 ≡ false = sym i.well ∙ ap is_ok t in rw w

-- ---- lent words keep their length

note-long : (x : Lent) (f e : ℕ) → length (note_of x f e).edges ≡ length x.edges
unfolding note_of
note-long x f e = go (is_kept x f e)
  where
    go : (b : Bool) → length (if b then lent (missing false (length (edges_after x f e) / 2) (top_after x e)) (put x.edges 0 (edges_after x f e)) else lent (missing true x.missing.closed x.missing.highest.0) x.edges).edges ≡ length x.edges
    go true = length-put x.edges 0 (edges_after x f e)
    go false = refl

pub take_long : (x : LentNotes) (d : List ℕ) → length (take_of x d).edges ≡ length x.edges
unfolding take_of
take_long x d = go (accepted x.notes.session d)
  where
    go : (b : Bool) → length (if b then notes_with x.notes.session (note_of (lent_in x) (number_of d) (next_in d)) else x).edges ≡ length x.edges
    go true = note-long (lent_in x) (number_of d) (next_in d)
    go false = refl
