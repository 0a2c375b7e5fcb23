-- A host that lends streams to the exported step of either end one by one, and keeps the state's bytes between two
-- calls. S is the session, read from its bytes; a call is the very promise of the function.
use Rattle.std.specs.Prelude.{ℕ, ◌≤◌, List, [], ◌∷◌, ◌++◌, ◌≡◌, length, get_or, take, drop}
use Rattle.wire.specs.Words.{Words, Case, answer, refused}
use Rattle.soupbintcp_session.specs.Answer.{SessionAnswerKind, wants_more, accepted, rejected, sequenced, unsequenced}
use Rattle.soupbintcp_session.specs.Answer.{heartbeat, debug, logged_out, end_of_session, answer_message_at}
use Rattle.soupbintcp_session.specs.Answer.{StepOutcome}
use Rattle.host_session.specs.Session.{session_state_size}

-- the messages that an answer with these values hands up of a stream: one, perhaps of no bytes, by sequenced and by
-- unsequenced, none by another
unfoldable pub messages_up_at : Case SessionAnswerKind → List ℕ → List ℕ → List (List ℕ)
messages_up_at (answer sequenced) vs d = answer_message_at (answer sequenced) vs d ∷ []
messages_up_at (answer unsequenced) vs d = answer_message_at (answer unsequenced) vs d ∷ []
messages_up_at (answer wants_more) vs d = []
messages_up_at (answer accepted) vs d = []
messages_up_at (answer rejected) vs d = []
messages_up_at (answer heartbeat) vs d = []
messages_up_at (answer debug) vs d = []
messages_up_at (answer logged_out) vs d = []
messages_up_at (answer end_of_session) vs d = []
messages_up_at refused vs d = []

abbrev pub messages_up : Words SessionAnswerKind → List ℕ → List (List ℕ)
messages_up w d = messages_up_at w.which w.values d

-- what a host gets of the stream d by a call that returned r and laid ws: where the first word is 3, sequenced, or 4,
-- unsequenced, the message at the place that the others say
pub data Gets (d : List ℕ) (r : ℕ) (ws : List ℕ) : List (List ℕ) → Type 0 where
  by_refusal : (r ≡ 0 → ⊥) → Gets d r ws []
  by_another : r ≡ 0 → (get_or ws 0 0 ≡ 3 → ⊥) → (get_or ws 0 0 ≡ 4 → ⊥) → Gets d r ws []
  by_sequenced : r ≡ 0 → get_or ws 0 0 ≡ 3 → Gets d r ws (take (get_or ws 4 0) (drop (get_or ws 3 0) d) ∷ [])
  by_unsequenced : r ≡ 0 → get_or ws 0 0 ≡ 4 → Gets d r ws (take (get_or ws 3 0) (drop (get_or ws 2 0) d) ∷ [])

module _ {S : Type 0} (reads : List ℕ → S) (step : S → List ℕ → StepOutcome S)
    (Call : ℕ → List ℕ → List ℕ → List ℕ → List ℕ → List ℕ → Type 0) where
  -- a call that is lent its five words: the state's bytes l become m, and the host gets the messages up of the stream d
  pub record StepCall (l d m : List ℕ) (up : List (List ℕ)) : Type 0 where
    pub code : ℕ
    pub words : List ℕ
    pub laid : List ℕ
    pub room : 5 ≤ length words
    pub call : Call code l m d words laid
    pub gets : Gets d code laid up

  -- a list of streams: each call is lent the bytes that the call before left
  pub data Handed : List ℕ → List (List ℕ) → List ℕ → List (List ℕ) → Type 0 where
    none : {l : List ℕ} → Handed l [] l []
    one : {l m n d : List ℕ} {ds up ups : List (List ℕ)} → StepCall l d m up → Handed m ds n ups
        → Handed l (d ∷ ds) n (up ++ ups)

  -- the session after these streams, and the messages that were handed up
  unfoldable pub session_after : S → List (List ℕ) → S
  session_after s [] = s
  session_after s (d ∷ ds) = session_after (step s d).after ds

  unfoldable pub handed_up_by : S → List (List ℕ) → List (List ℕ)
  handed_up_by s [] = []
  handed_up_by s (d ∷ ds) = messages_up (step s d).reply d ++ handed_up_by (step s d).after ds

  -- the session in the bytes that are left, and what the host got, are those of the steps
  pub record Hands (l m : List ℕ) (ds ups : List (List ℕ)) : Type 0 where
    pub leaves : reads m ≡ session_after (reads l) ds
    pub gives : ups ≡ handed_up_by (reads l) ds

  unfoldable pub HandsOn : Type 0
  HandsOn = (l m : List ℕ) (ds ups : List (List ℕ)) → session_state_size ≤ length l → Handed l ds m ups → Hands l m ds ups
