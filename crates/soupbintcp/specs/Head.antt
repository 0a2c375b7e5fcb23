-- The front of a stream as far as its length and letter tell.
use Rattle.std.specs.Prelude.{ℕ, ◌+◌, ◌-◌, List, [], ◌∷◌, not, length, get_or, ltb, eqb, if◌then◌else◌}
use Rattle.wire.specs.Bounds.{length_size}
use Rattle.wire.specs.Refusals.{length_zero, payload_long, letter_not_sent, length_wrong}
use Rattle.wire.specs.Words.{Words, says, refuses, refused_words}
use Rattle.wire.specs.Bytes.{number}
use Rattle.soupbintcp.specs.declared.packet.Sender.{Sender}
use Rattle.soupbintcp.specs.declared.head.Head.{Head}
use Rattle.soupbintcp.specs.declared.head.Head.TheVariants.{Whole, NeedMore, Refused}
use Rattle.soupbintcp.specs.Letters.{most_payload, sends, allows}

-- the length and the letter
abbrev pub head_size : ℕ
head_size = length_size + 1

unfoldable pub packet_length : List ℕ → ℕ
packet_length l = number l 0 length_size

unfoldable pub letter_of : List ℕ → ℕ
letter_of l = get_or l length_size 0

-- what the head can be, but for a refusal
pub data HeadKind : Type 0 where
  whole need_more : HeadKind

unfoldable pub head_words : Head → Words HeadKind
head_words (Whole size) = says whole (size ∷ [])
head_words NeedMore = says need_more []
head_words (Refused r) = refused_words r

-- document 01's order, up to 24
unfoldable pub head_of : Sender → List ℕ → Words HeadKind
head_of s l =
    if ltb (length l) length_size then says need_more []
    else if eqb (packet_length l) 0 then refuses length_zero
    else if ltb most_payload (packet_length l - 1) then refuses payload_long
    else if ltb (length l) head_size then says need_more []
    else if not (sends s (letter_of l)) then refuses letter_not_sent
    else if not (allows (letter_of l) (packet_length l - 1)) then refuses length_wrong
    else if ltb (length l) (packet_length l + length_size) then says need_more []
    else says whole ((packet_length l + length_size) ∷ [])
