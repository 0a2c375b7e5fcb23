-- Which refusals each function gives.
use Prim.Native.Nat.{ℕ}
use mathlib.Core.List.{List, [], ◌∷◌}
use mathlib.Core.Bool.{Bool, false}
use mathlib.Core.Path.{◌≡◌, refl}
use lib.ListN.{length}
use lib.Dec.{ltb, eqb}
use Rattle.wire.specs.Refusals.{field_not_written}
use Rattle.wire.specs.Words.{Case, answer, refused}
use Rattle.wire.specs.Output.{written_words, Writes}
use Rattle.wire.specs.Output.{Written}
use Rattle.text_fields.specs.Session.{good_session}
use Rattle.soupbintcp.specs.declared.packet.Sender.{Sender}
use Rattle.soupbintcp.specs.declared.front.Front.{Front}
use Rattle.soupbintcp.specs.Letters.{most_payload}
use Rattle.soupbintcp.specs.Fields.{FieldsKind, good, bad_field, fields_of, good_reason}
use Rattle.soupbintcp.specs.Front.{front_words, front_packet, front_at, front_of}
use Rattle.soupbintcp.proofs.HeadLaws.{head-cases}
use Rattle.soupbintcp_writer.specs.Packets.{payload_ground, accepted_ground, reason_ground, good_login, login_ground}
use Rattle.host_answers.specs.Answers.{or_else, short, is_one_of, RefusesOnly, AnswersWith}
use Rattle.host_answers.proofs.OnlyLaws.{only_if, answers-only, reported-only}

-- ---- readers

abbrev front_list : List ℕ
front_list = 21 ∷ 22 ∷ 23 ∷ 24 ∷ 25 ∷ 41 ∷ []

packet-only : (k : ℕ) (c : Case FieldsKind) (vs : List ℕ) → RefusesOnly (front_packet k c vs).refusal front_list
unfolding front_packet is_one_of
packet-only k (answer (good t)) vs = refl
packet-only k (answer bad_field) vs = refl
packet-only k refused vs = refl

front-only : (s : Sender) (l : List ℕ) → RefusesOnly (front_of s l).refusal front_list
unfolding front_of front_at is_one_of
front-only s l =
    head-cases s l (λ h. RefusesOnly (front_at l h.which h.refusal h.values).refusal front_list) (λ a. refl) (λ a b. refl) (λ a b c. refl)
    (λ a b. refl) (λ a b c d. refl) (λ a b c d f. refl) (λ h f. refl)
    (λ h f. packet-only _ (fields_of l).which (fields_of l).values)

pub read_only : (l : List ℕ) (s : Sender) (x : Front) (r g : ℕ) (ws ws' vs : List ℕ) → AnswersWith r ws ws' g vs → g ≡ (front_words x).refusal → front_words x ≡ front_of s l
    → RefusesOnly r (21 ∷ 22 ∷ 23 ∷ 24 ∷ 25 ∷ 41 ∷ [])
unfolding is_one_of
read_only l s x r g ws ws' vs a e f = answers-only r g ws ws' vs front_list a (rw (e, f) (front-only s l)) refl

-- ---- writers

pub missized-only : RefusesOnly field_not_written (46 ∷ 41 ∷ [])
unfolding is_one_of
missized-only = refl

module _ (r : ℕ) (b : Bool) (w : Written) (ws ws' vs l m bs : List ℕ) (a : AnswersWith r ws ws' (or_else (written_words w).refusal (short b)) vs) where
  pub bare-only : Writes w l m 0 0 bs → RefusesOnly r (41 ∷ [])
  unfolding is_one_of
  bare-only x = reported-only r 0 b w ws ws' vs l m bs (41 ∷ []) a x refl refl

  pub payload-only : (p : List ℕ) → Writes w l m (payload_ground p) 0 bs → RefusesOnly r (22 ∷ 41 ∷ [])
  unfolding payload_ground is_one_of
  payload-only p x = reported-only r _ b w ws ws' vs l m bs (22 ∷ 41 ∷ []) a x (only_if (ltb most_payload (length p)) 22 0 (22 ∷ 41 ∷ []) refl refl) refl

  pub accepted-only : (s : List ℕ) (n : ℕ) → Writes w l m (accepted_ground s n) 0 bs → RefusesOnly r (46 ∷ 41 ∷ [])
  unfolding accepted_ground is_one_of
  accepted-only s n x =
      reported-only r _ b w ws ws' vs l m bs (46 ∷ 41 ∷ []) a x
      (only_if (good_session false s) _ 46 (46 ∷ 41 ∷ []) (only_if (eqb n 0) 46 0 (46 ∷ 41 ∷ []) refl refl) refl)
      refl

  pub reason-only : (c : ℕ) → Writes w l m (reason_ground c) 0 bs → RefusesOnly r (46 ∷ 41 ∷ [])
  unfolding reason_ground is_one_of
  reason-only c x = reported-only r _ b w ws ws' vs l m bs (46 ∷ 41 ∷ []) a x (only_if (good_reason c) 0 46 (46 ∷ 41 ∷ []) refl refl) refl

  pub login-only : (u p s : List ℕ) → Writes w l m (login_ground u p s) 0 bs → RefusesOnly r (46 ∷ 41 ∷ [])
  unfolding login_ground is_one_of
  login-only u p s x = reported-only r _ b w ws ws' vs l m bs (46 ∷ 41 ∷ []) a x (only_if (good_login u p s) 0 46 (46 ∷ 41 ∷ []) refl refl) refl
