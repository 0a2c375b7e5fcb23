-- What the exported reader of SoupBinTCP packets answers.
use Rattle.std.specs.Prelude.{ℕ, ◌<◌, length}
use Rattle.wire.specs.Words.{Injective}
use Rattle.soupbintcp.specs.Letters.{letter_for}
use Rattle.soupbintcp.specs.declared.front.Front.{Front}
use Rattle.soupbintcp.specs.Front.{FrontKind, packet, wants_more, front_words}

-- the number of an answer is the packet's letter, and 0 where more bytes are needed; its size and its value follow
unfoldable pub front_number : FrontKind → ℕ
front_number (packet k) = letter_for k
front_number wants_more = 0

-- ---- what is promised: the numbers tell all packets, and that more is needed, apart, and there is a word for each
-- value

pub record FrontsApart : Type 0 where
  pub numbers : Injective front_number
  pub values_fit : (x : Front) → length (front_words x).values < 3
