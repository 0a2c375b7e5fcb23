-- The scan: the front read again and again, until it gives no packet.
use Rattle.std.specs.Prelude.{ℕ, zero, suc, ◌+◌, ◌≤◌, List, [], ◌≡◌, length, get_or, drop, Option, Some, None}
use Rattle.wire.specs.Words.{Words, Case, answer, refused, says, refuses, refused_words, Injective}
use Rattle.soupbintcp.specs.declared.packet.Sender.{Sender}
use Rattle.wire.specs.declared.refusal.Refusal.{Refusal}
use Rattle.soupbintcp.specs.declared.scan.Scanned.{Scanned}
use Rattle.soupbintcp.specs.Front.{FrontKind, packet, wants_more, front_of}

-- what stopped it, but for a refusal of the packet there
pub data StopKind : Type 0 where
  stopped_short : StopKind

unfoldable pub stop_words : Option Refusal → Words StopKind
stop_words None = says stopped_short []
stop_words (Some r) = refused_words r

-- the words tell all stops apart
unfoldable pub StopsApart : Type 0
StopsApart = Injective stop_words

-- how many good packets, their bytes, and what stopped it
pub record Scan : Type 0 where
  pub packets : ℕ
  pub bytes : ℕ
  pub stop : Words StopKind

abbrev pub stops : Words StopKind → Scan
stops w = record { packets = 0; bytes = 0; stop = w }

-- a packet of so many bytes, and what is scanned after it
abbrev pub behind : ℕ → Scan → Scan
behind size x = record { packets = 1 + x.packets; bytes = size + x.bytes; stop = x.stop }

unfoldable pub scan_at : Case FrontKind → ℕ → ℕ → (ℕ → Scan) → Scan
scan_at (answer (packet k)) r size rest = behind size (rest size)
scan_at (answer wants_more) r size rest = stops (says stopped_short [])
scan_at refused r size rest = stops (refuses r)

-- at most f packets: a stream of f bytes has no more
unfoldable pub scan_up_to : Sender → ℕ → List ℕ → Scan
scan_up_to s zero l = stops (says stopped_short [])
scan_up_to s (suc f) l =
    scan_at (front_of s l).which (front_of s l).refusal (get_or (front_of s l).values 0 0)
    (λ size. scan_up_to s f (drop size l))

unfoldable pub scan_of : Sender → List ℕ → Scan
scan_of s l = scan_up_to s (length l) l

-- ---- what is promised

-- what stops a scan, by the front of the stream there: need more, or the same refusal
pub data StopsBy : Words FrontKind → Words StopKind → Type 0 where
  by_short : StopsBy (says wants_more []) (says stopped_short [])
  by_refusal : (r : ℕ) → StopsBy (refuses r) (refuses r)

-- a scan goes on to where the front of what is left gives no packet, and passes no more bytes than there are
pub record ScanPromises : Type 0 where
  pub stops : (s : Sender) (l : List ℕ) → StopsBy (front_of s (drop (scan_of s l).bytes l)) (scan_of s l).stop
  pub within : (s : Sender) (l : List ℕ) → (scan_of s l).bytes ≤ length l
  pub tells_apart : StopsApart

-- the promise of a scan that answers r
pub record Scans (r : Scanned) (s : Sender) (l : List ℕ) : Type 0 where
  pub packets : r.packets ≡ (scan_of s l).packets
  pub bytes : r.bytes ≡ (scan_of s l).bytes
  pub stop : stop_words r.stop ≡ (scan_of s l).stop
