-- The messages that a client hands up over a stream, from its answers and from the packets alone.
use Rattle.std.specs.Prelude.{ℕ, ◌+◌, List, [], ◌∷◌, Bool, true, false, get_or, drop, eqb, if◌then◌else◌}
use Rattle.wire.specs.Words.{Case, answer, refused}
use Rattle.soupbintcp.specs.declared.packet.Sender.TheVariants.{Server}
use Rattle.soupbintcp.specs.Letters.{letter_accepted, letter_sequenced}
use Rattle.soupbintcp.specs.Head.{head_size, letter_of}
use Rattle.soupbintcp.specs.Front.{front_of}
use Rattle.soupbintcp_session.specs.Answer.{SessionAnswerKind, wants_more, accepted, rejected, sequenced, unsequenced}
use Rattle.soupbintcp_session.specs.Answer.{heartbeat, debug, logged_out, end_of_session, answer_message}
use Rattle.soupbintcp_session.specs.Stream.{Taking}

-- ---- what the answers hand up

-- a message under its number
pub record Numbered : Type 0 where
  pub number : ℕ
  pub message : List ℕ

unfoldable pub numbered_from : ℕ → List (List ℕ) → List Numbered
numbered_from n [] = []
numbered_from n (m ∷ ms) = record { number = n; message = m } ∷ numbered_from (n + 1) ms

-- whether an answer hands up a numbered message
unfoldable pub is_sequenced : Case SessionAnswerKind → Bool
is_sequenced (answer sequenced) = true
is_sequenced (answer wants_more) = false
is_sequenced (answer accepted) = false
is_sequenced (answer rejected) = false
is_sequenced (answer unsequenced) = false
is_sequenced (answer heartbeat) = false
is_sequenced (answer debug) = false
is_sequenced (answer logged_out) = false
is_sequenced (answer end_of_session) = false
is_sequenced refused = false

-- what the answers hand up: each message is had from the bytes that it came in
unfoldable pub handed_up : List Taking → List Numbered
handed_up [] = []
handed_up (x ∷ xs) =
    if is_sequenced x.reply.which
    then record { number = get_or x.reply.values 0 0; message = answer_message x.reply x.bytes } ∷ handed_up xs
    else handed_up xs

-- ---- the same from the packets alone

-- the payloads of the S packets, in order
unfoldable pub sequenced_in : List (List ℕ) → List (List ℕ)
sequenced_in [] = []
sequenced_in (p ∷ ps) = if eqb (letter_of p) letter_sequenced then drop head_size p ∷ sequenced_in ps else sequenced_in ps

-- the number that the first A carries, or n where there is none
unfoldable pub granted_in : ℕ → List (List ℕ) → ℕ
granted_in n [] = n
granted_in n (p ∷ ps) = if eqb (letter_of p) letter_accepted then get_or (front_of Server p).values 1 0 else granted_in n ps
