-- A client's step by its cases: c is the client, l the stream, k the size of the packet in front.
use Prim.Native.Nat.{ℕ, ◌≤◌}
use mathlib.Core.List.{List, [], ◌∷◌}
use mathlib.Core.Path.{◌≡◌, refl}
use native.Mathlib.Omega.{arith}
use lib.ListN.{get_or}
use lib.Dec.{eqb}
use Rattle.wire.specs.Words.{Words, says, refuses}
use Rattle.wire.proofs.Words.{refusal-of}
use Rattle.soupbintcp.specs.declared.packet.Sender.TheVariants.{Server}
use Rattle.soupbintcp.specs.Front.{FrontKind, front_of, session_of}
use Rattle.soupbintcp.specs.Letters.{letter_for}
use Rattle.soupbintcp.proofs.LetterLaws.{choice}
use Rattle.soupbintcp_session.specs.Answer.{incoming, SessionAnswerKind, StepOutcome, stays, takes}
use Rattle.soupbintcp_client.specs.declared.client.ClientState.{ClientState}
use Rattle.soupbintcp_client.specs.declared.client.ClientState.TheVariants.{Asked, In, Ended, Closed}
use Rattle.soupbintcp_client.specs.declared.client.Client.{Client}
use Rattle.soupbintcp_client.specs.Client.{session_asked, number_asked, accepted_row, sequenced_row, asked_row, in_row, row_at, front_row_at, client_step}
use Rattle.host_answers.specs.Answers.{is_one_of}
use Rattle.host_session.proofs.StepLaws.{Steps, waits, needs-none, refuses-own, moves}
use Rattle.host_session.proofs.GroundLaws.{HasGrounds, ground-some, ground-most, ground-one-of}
use Rattle.host_session.proofs.FrontLaws.{FrontSays, says-more, says-fault, says-packet, front-says}

-- the refusals of a step, in the order of its ladder
abbrev pub step_grounds : List ℕ
step_grounds = 21 ∷ 22 ∷ 23 ∷ 24 ∷ 25 ∷ 41 ∷ 32 ∷ 31 ∷ 33 ∷ 34 ∷ []

has-grounds : HasGrounds step_grounds
unfolding is_one_of
has-grounds = record { has-21 = refl; has-22 = refl; has-23 = refl; has-24 = refl; has-25 = refl }

-- ---- the rows

module _ (c : Client) (g k : ℕ) (z : g ≡ 0) (n : k ≡ 0 → ⊥) where
  abbrev D : StepOutcome Client → Type 0
  D = Steps c g step_grounds

  not_taken : D (stays c (refuses 31))
  unfolding is_one_of
  not_taken = refuses-own 31 z (omega arith) refl refl

  is-closed : D (stays c (refuses 32))
  unfolding is_one_of
  is-closed = refuses-own 32 z (omega arith) refl refl

  not-asked : D (stays c (refuses 33))
  unfolding is_one_of
  not-asked = refuses-own 33 z (omega arith) refl refl

  used-up : D (stays c (refuses 34))
  unfolding is_one_of
  used-up = refuses-own 34 z (omega arith) refl refl

  takes-it : (kind : SessionAnswerKind) (vs : List ℕ) (t : Client) → D (takes k (says kind vs) t)
  takes-it kind vs t = moves k kind vs t z n refl

  accepted-steps : (given : List ℕ) (m : ℕ) → D (accepted_row c k given m)
  unfolding accepted_row
  accepted-steps given m =
      choice D (session_asked c.session given)
      (λ e. choice D (number_asked c.number.0 m) (λ f. takes-it _ _ _) (λ f. not-asked))
      (λ e. not-asked)

  asked-steps : (letter : ℕ) (vs given : List ℕ) → D (asked_row c (incoming k letter vs given))
  unfolding asked_row
  asked-steps letter vs given =
      choice D (eqb letter 65) (λ e. accepted-steps given (get_or vs 0 0)) (λ e.
      choice D (eqb letter 74) (λ f. takes-it _ _ _) (λ f.
      choice D (eqb letter 43) (λ h. takes-it _ _ _) (λ h. not_taken)))

  sequenced-steps : D (sequenced_row c k)
  unfolding sequenced_row
  sequenced-steps = choice D (eqb c.number.0 18446744073709551615) (λ e. used-up) (λ e. takes-it _ _ _)

  in-steps : (letter : ℕ) → D (in_row c k letter)
  unfolding in_row
  in-steps letter =
      choice D (eqb letter 83) (λ e. sequenced-steps) (λ e.
      choice D (eqb letter 72) (λ f. takes-it _ _ _) (λ f.
      choice D (eqb letter 43) (λ h. takes-it _ _ _) (λ h.
      choice D (eqb letter 90) (λ i. takes-it _ _ _) (λ i. not_taken))))

  row-steps : (t : ClientState) (letter : ℕ) (vs given : List ℕ) → D (row_at t c (incoming k letter vs given))
  unfolding row_at
  row-steps Asked letter vs given = asked-steps letter vs given
  row-steps In letter vs given = in-steps letter
  row-steps Ended letter vs given = is-closed
  row-steps Closed letter vs given = is-closed

-- ---- the step, by what stands in front

module _ (c : Client) (l : List ℕ) where
  front-row : (w : Words FrontKind) → front_of Server l ≡ w → client_step c l ≡ front_row_at c (session_of Server l) w w.which
  unfolding client_step
  front-row w e = rw e refl

  pub client-steps : Steps c (front_of Server l).refusal step_grounds (client_step c l)
  unfolding front_row_at
  client-steps = go (front-says Server l)
    where
      go : FrontSays Server l → Steps c (front_of Server l).refusal step_grounds (client_step c l)
      go (says-more e) = waits (refusal-of e) (front-row _ e)
      go (says-fault r g e) =
          rw e (needs-none (ground-some r g) (ground-one-of r step_grounds has-grounds g) (front-row _ e))
      go (says-packet p k vs e n) = rw (front-row _ e) (row-steps c _ k (refusal-of e) n c.state (letter_for p) vs (session_of Server l))

  pub client-ground : (front_of Server l).refusal ≤ 25
  client-ground = go (front-says Server l)
    where
      go : FrontSays Server l → (front_of Server l).refusal ≤ 25
      go (says-more e) = rw e (omega arith)
      go (says-fault r g e) = rw e (ground-most r g)
      go (says-packet p k vs e n) = rw e (omega arith)
