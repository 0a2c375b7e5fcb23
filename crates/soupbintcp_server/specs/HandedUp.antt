-- The messages that a server hands up over a stream, from its answers and from the packets alone.
use Rattle.std.specs.Prelude.{ℕ, List, [], ◌∷◌, Bool, true, false, drop, eqb, if◌then◌else◌}
use Rattle.wire.specs.Words.{Case, answer, refused}
use Rattle.soupbintcp.specs.Letters.{letter_unsequenced}
use Rattle.soupbintcp.specs.Head.{head_size, letter_of}
use Rattle.soupbintcp_session.specs.Answer.{SessionAnswerKind, wants_more, accepted, rejected, sequenced, unsequenced}
use Rattle.soupbintcp_session.specs.Answer.{heartbeat, debug, logged_out, end_of_session, answer_message}
use Rattle.soupbintcp_session.specs.Stream.{Taking}

-- ---- what the answers hand up

-- whether an answer hands up a message
unfoldable pub is_unsequenced : Case SessionAnswerKind → Bool
is_unsequenced (answer unsequenced) = true
is_unsequenced (answer wants_more) = false
is_unsequenced (answer accepted) = false
is_unsequenced (answer rejected) = false
is_unsequenced (answer sequenced) = false
is_unsequenced (answer heartbeat) = false
is_unsequenced (answer debug) = false
is_unsequenced (answer logged_out) = false
is_unsequenced (answer end_of_session) = false
is_unsequenced refused = false

-- each message is had from the bytes that it came in
unfoldable pub handed_up : List Taking → List (List ℕ)
handed_up [] = []
handed_up (x ∷ xs) =
    if is_unsequenced x.reply.which then answer_message x.reply x.bytes ∷ handed_up xs else handed_up xs

-- whether an answer lets someone in
unfoldable pub is_accepted : Case SessionAnswerKind → Bool
is_accepted (answer accepted) = true
is_accepted (answer wants_more) = false
is_accepted (answer rejected) = false
is_accepted (answer sequenced) = false
is_accepted (answer unsequenced) = false
is_accepted (answer heartbeat) = false
is_accepted (answer debug) = false
is_accepted (answer logged_out) = false
is_accepted (answer end_of_session) = false
is_accepted refused = false

-- the packets in front of the first login that was accepted
unfoldable pub before_login : List Taking → List Taking
before_login [] = []
before_login (x ∷ xs) = if is_accepted x.reply.which then [] else x ∷ before_login xs

-- ---- the same from the packets alone

-- the payloads of the U packets, in order
unfoldable pub unsequenced_in : List (List ℕ) → List (List ℕ)
unsequenced_in [] = []
unsequenced_in (p ∷ ps) =
    if eqb (letter_of p) letter_unsequenced then drop head_size p ∷ unsequenced_in ps else unsequenced_in ps
