-- The receiver's table: what an accepted datagram with number f and count c is answered at the expected number n.
use Rattle.std.specs.Prelude.{ℕ, ◌+◌, ◌-◌, ◌<◌, ◌≤◌, min, [], ◌∷◌, Bool, true, false, ◌≡◌, ltb, if◌then◌else◌}
use Rattle.wire.specs.Bounds.{largest_number}
use Rattle.wire.specs.Words.{Words, says, refused_words}
use Rattle.moldudp64.specs.Downstream.{DownstreamKind, data_packet, heartbeat, end_of_session}
use Rattle.receiver.specs.declared.receiver.Answer.{Answer}
use Rattle.receiver.specs.declared.receiver.Answer.TheVariants.{Deliver, Old, Quiet, Ask, Ended, Refused}

-- the answers of the table
pub data AnswerKind : Type 0 where
  deliver old quiet ask ended : AnswerKind

-- the receiver's answer in document 01's words
unfoldable pub answer_words : Answer → Words AnswerKind
answer_words (Deliver first count skipped) = says deliver (first.0 ∷ count.0 ∷ skipped.0 ∷ [])
answer_words Old = says old []
answer_words Quiet = says quiet []
answer_words (Ask from count) = says ask (from.0 ∷ count.0 ∷ [])
answer_words Ended = says ended []
answer_words (Refused r) = refused_words r

-- how many are asked for: the smaller of f - n and the limit
abbrev pub ask_for : ℕ → ℕ → ℕ → ℕ
ask_for limit n f = min (f - n) limit

-- what a row gives: the answer, n after it, and whether the session ends
pub record Outcome : Type 0 where
  pub reply : Words AnswerKind
  pub next : ℕ
  pub ends : Bool

-- deliver messages n to f + c - 1, skipping the first n - f
abbrev pub deliver_outcome : ℕ → ℕ → ℕ → Outcome
deliver_outcome n f c = record { reply = says deliver (n ∷ (f + c - n) ∷ (n - f) ∷ []); next = f + c; ends = false }

-- document 01's "old"
abbrev pub old_outcome : ℕ → Outcome
old_outcome n = record { reply = says old []; next = n; ends = false }

-- document 01's "quiet"
abbrev pub quiet_outcome : ℕ → Outcome
quiet_outcome n = record { reply = says quiet []; next = n; ends = false }

-- ask from n
abbrev pub ask_outcome : ℕ → ℕ → ℕ → Outcome
ask_outcome limit n f = record { reply = says ask (n ∷ ask_for limit n f ∷ []); next = n; ends = false }

-- the session ends
abbrev pub ended_outcome : ℕ → Outcome
ended_outcome n = record { reply = says ended []; next = n; ends = true }

-- the table; an end of session below n is refused and does not reach it
unfoldable pub table : ℕ → ℕ → DownstreamKind → ℕ → ℕ → Outcome
table limit n data_packet f c =
    if ltb n f then ask_outcome limit n f
    else if ltb n (f + c) then deliver_outcome n f c
    else old_outcome n
table limit n heartbeat f c = if ltb n f then ask_outcome limit n f else if ltb f n then old_outcome n else quiet_outcome n
table limit n end_of_session f c = if ltb n f then ask_outcome limit n f else ended_outcome n

-- ---- the same, a row each, as document 01 prints it

pub data Row (limit n : ℕ) (kind : DownstreamKind) (f c : ℕ) (o : Outcome) : Type 0 where
  data_reaches : kind ≡ data_packet → f ≤ n → n < f + c → o ≡ deliver_outcome n f c → Row limit n kind f c o
  data_below : kind ≡ data_packet → f + c ≤ n → o ≡ old_outcome n → Row limit n kind f c o
  heartbeat_below : kind ≡ heartbeat → f < n → o ≡ old_outcome n → Row limit n kind f c o
  heartbeat_there : kind ≡ heartbeat → f ≡ n → o ≡ quiet_outcome n → Row limit n kind f c o
  any_above : n < f → o ≡ ask_outcome limit n f → Row limit n kind f c o
  end_there : kind ≡ end_of_session → f ≡ n → o ≡ ended_outcome n → Row limit n kind f c o

-- ---- data whose words were made up

-- how many of c messages from number f on can be numbered: all of them in every datagram that is read
abbrev pub numbered : ℕ → ℕ → ℕ
numbered f c = min c (largest_number - f)
