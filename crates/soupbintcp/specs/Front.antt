-- The front of a stream, and the parts of the packet there.
use Rattle.std.specs.Prelude.{ℕ, ◌+◌, List, [], ◌∷◌, ◌++◌, ◌≡◌, get_or, take, drop, eqb, if◌then◌else◌}
use Rattle.wire.specs.Refusals.{field_bad}
use Rattle.wire.specs.Words.{Words, Case, answer, refused, says, refuses, refused_words, Injective}
use Rattle.soupbintcp.specs.declared.packet.Sender.{Sender}
use Rattle.soupbintcp.specs.declared.front.Front.{Front}
use Rattle.soupbintcp.specs.declared.front.Front.TheVariants.{Whole, NeedMore, Refused}
use Rattle.soupbintcp.specs.Letters.{PacketKind, packet_kind, packet_values, letter_login, letter_for}
use Rattle.soupbintcp.specs.Head.{head_size, HeadKind, whole, need_more, head_of, letter_of}
use Rattle.soupbintcp.specs.Fields.{FieldsKind, good, bad_field, fields_of, session_bytes}
use Rattle.text_fields.specs.Sound.{username_size, password_size}

-- what it can be, but for a refusal
pub data FrontKind : Type 0 where
  packet : PacketKind → FrontKind
  wants_more : FrontKind

-- a packet says its size, and then its values
unfoldable pub front_words : Front → Words FrontKind
front_words (Whole p size) = says (packet (packet_kind p)) (size ∷ packet_values p)
front_words NeedMore = says wants_more []
front_words (Refused r) = refused_words r

-- a whole packet of this size, by its fields
unfoldable pub front_packet : ℕ → Case FieldsKind → List ℕ → Words FrontKind
front_packet size (answer (good k)) vs = says (packet k) (size ∷ vs)
front_packet size (answer bad_field) vs = refuses field_bad
front_packet size refused vs = refuses field_bad

-- the head, and where it is whole the fields
unfoldable pub front_at : List ℕ → Case HeadKind → ℕ → List ℕ → Words FrontKind
front_at l (answer whole) r vs = front_packet (get_or vs 0 0) (fields_of l).which (fields_of l).values
front_at l (answer need_more) r vs = says wants_more []
front_at l refused r vs = refuses r

unfoldable pub front_of : Sender → List ℕ → Words FrontKind
front_of s l = front_at l (head_of s l).which (head_of s l).refusal (head_of s l).values

-- ---- parts

-- the bytes of the packet in front: none where there is no packet
unfoldable pub packet_at : Case FrontKind → List ℕ → List ℕ → List ℕ
packet_at (answer (packet k)) vs l = take (get_or vs 0 0) l
packet_at (answer wants_more) vs l = []
packet_at refused vs l = []

unfoldable pub packet_bytes : Sender → List ℕ → List ℕ
packet_bytes s l = packet_at (front_of s l).which (front_of s l).values l

-- its payload
unfoldable pub payload_of : Sender → List ℕ → List ℕ
payload_of s l = drop head_size (packet_bytes s l)

-- its session: none but in A and L
unfoldable pub session_of : Sender → List ℕ → List ℕ
session_of s l = session_bytes (letter_of (packet_bytes s l)) (packet_bytes s l)

-- a part of a login request: none of another packet
unfoldable pub login_part : List ℕ → ℕ → ℕ → List ℕ
login_part l at size = if eqb (letter_of l) letter_login then take size (drop at l) else []

unfoldable pub username_of : Sender → List ℕ → List ℕ
username_of s l = login_part (packet_bytes s l) head_size username_size

unfoldable pub password_of : Sender → List ℕ → List ℕ
password_of s l = login_part (packet_bytes s l) (head_size + username_size) password_size

-- ---- what is promised

-- bytes appended later never change a packet or a refusal already given
unfoldable pub Stable : Type 0
Stable = (s : Sender) (l m : List ℕ) → ((front_of s l).which ≡ answer wants_more → ⊥) → front_of s (l ++ m) ≡ front_of s l

-- nor its bytes, and so none of its parts
unfoldable pub StableBytes : Type 0
StableBytes = (s : Sender) (l m : List ℕ) → ((front_of s l).which ≡ answer wants_more → ⊥)
    → packet_bytes s (l ++ m) ≡ packet_bytes s l

-- a packet's kind is the one that its letter stands for
unfoldable pub KindOfLetter : Type 0
KindOfLetter = (s : Sender) (l : List ℕ) (k : PacketKind) (size : ℕ) (vs : List ℕ)
    → front_of s l ≡ says (packet k) (size ∷ vs) → letter_of l ≡ letter_for k

pub record FrontPromises : Type 0 where
  pub stable : Stable
  pub stable_bytes : StableBytes
  pub kind_of_letter : KindOfLetter
  pub tells_apart : Injective front_words

-- ---- for private helpers alone; no public promise uses it

-- a packet of this kind was read in front, so that its fields stand at their places
pub record IsInFront (s : Sender) (k : PacketKind) (l : List ℕ) : Type 0 where
  pub size : ℕ
  pub values : List ℕ
  pub said : front_of s l ≡ says (packet k) (size ∷ values)
