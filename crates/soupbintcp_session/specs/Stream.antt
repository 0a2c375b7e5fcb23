-- A session over a whole stream: step after step, each from where the one before took its packet.
use Rattle.std.specs.Prelude.{ℕ, zero, suc, List, [], ◌∷◌, ◌++◌, length, take, drop}
use Rattle.wire.specs.Words.{Words}
use Rattle.soupbintcp_session.specs.Answer.{SessionAnswerKind, StepOutcome}

-- a step that took a packet: its bytes, and its answer
pub record Taking : Type 0 where
  pub bytes : List ℕ
  pub reply : Words SessionAnswerKind

-- the packets taken, in order; the session then; what is left of the stream; and why it stopped there: the answer of
-- the step that took nothing
pub record Run (S : Type 0) : Type 0 where
  pub taken : List Taking
  pub after : S
  pub rest : List ℕ
  pub why : Words SessionAnswerKind

-- how a session steps
abbrev pub Stepping : Type 0 → Type 0
Stepping S = S → List ℕ → StepOutcome S

abbrev pub stopped : {S : Type 0} → S → List ℕ → Words SessionAnswerKind → Run S
stopped s l w = record { taken = []; after = s; rest = l; why = w }

abbrev pub then_run : {S : Type 0} → Taking → Run S → Run S
then_run x r = record { taken = x ∷ r.taken; after = r.after; rest = r.rest; why = r.why }

-- on with the rest after a packet of some size; need more and a refusal, which take nothing, stop
unfoldable pub run_at : {S : Type 0} → S → List ℕ → StepOutcome S → ℕ → (S → List ℕ → Run S) → Run S
run_at s l o zero on = stopped s l o.reply
run_at s l o (suc k) on = then_run (record { bytes = take (suc k) l; reply = o.reply }) (on o.after (drop (suc k) l))

-- at most f packets: a stream of f bytes has no more
unfoldable pub run_up_to : {S : Type 0} → Stepping S → ℕ → S → List ℕ → Run S
run_up_to step zero s l = stopped s l (step s l).reply
run_up_to step (suc f) s l = run_at s l (step s l) (step s l).size (λ s m. run_up_to step f s m)

unfoldable pub run : {S : Type 0} → Stepping S → S → List ℕ → Run S
run step s l = run_up_to step (length l) s l

-- a stream in two pieces: the rest of the first goes before the second
abbrev pub run_on : {S : Type 0} → Stepping S → Run S → List ℕ → Run S
run_on step r m =
    record {
      taken = r.taken ++ (run step r.after (r.rest ++ m)).taken;
      after = (run step r.after (r.rest ++ m)).after;
      rest = (run step r.after (r.rest ++ m)).rest;
      why = (run step r.after (r.rest ++ m)).why;
    }

-- a stream in pieces, from a run over what stands before them
unfoldable pub run_pieces : {S : Type 0} → Stepping S → Run S → List (List ℕ) → Run S
run_pieces step r [] = r
run_pieces step r (m ∷ ms) = run_pieces step (run_on step r m) ms

-- the bytes of the packets taken
unfoldable pub packets_of : List Taking → List (List ℕ)
packets_of [] = []
packets_of (x ∷ xs) = x.bytes ∷ packets_of xs
