-- A host that starts a run and asks for its packets one by one, keeping the state's bytes between two calls. Each
-- record of a call is the very promise of the function.
use Rattle.std.specs.Prelude.{ℕ, ◌<◌, List, [], ◌∷◌, ◌++◌, ◌≡◌, length, get_or, take}
use Rattle.wire.specs.Bounds.{session_size}
use Rattle.wire.specs.Parts.{first_bytes}
use Rattle.transmitter.specs.Transmitter.{transmit_ground, packet_at}
use Rattle.host_answers.specs.Answers.{named, AnswersWriting}
use Rattle.exports_transmitter.specs.Calls.{StartsTransmitter, NextPacket}

-- what a host gets by a call of `eiderwagon_transmitter_next` that returned r and left the output o and the words ws:
-- as many bytes of o as the first word says, and nothing by a refusal
pub data Gets (r : ℕ) (o ws : List ℕ) : List (List ℕ) → Type 0 where
  by_refusal : (r ≡ 0 → ⊥) → Gets r o ws []
  by_packet : r ≡ 0 → Gets r o ws (take (get_or ws 0 0) o ∷ [])

-- the lent run is the same at every call
module _ (name : List ℕ) (size n : ℕ) (ks d : List ℕ) where
  -- a start that isn't refused leaves the bytes m
  pub record StartCall (m : List ℕ) : Type 0 where
    pub lent : List ℕ
    pub call : StartsTransmitter 0 size n ks d lent m

  -- a call, with any output and any words: the state's bytes l become m, and the host gets the packets ps
  pub record NextCall (l m : List ℕ) (ps : List (List ℕ)) : Type 0 where
    pub code : ℕ
    pub output : List ℕ
    pub written : List ℕ
    pub words : List ℕ
    pub laid : List ℕ
    pub call : NextPacket code name size n ks d l m output written words laid
    pub gets : Gets code written laid ps

  -- a list of calls: the first is lent the bytes l, each later one those that the call before left, and the last
  -- leaves m; the host gets the packets ps
  pub data Handed : List ℕ → List ℕ → List (List ℕ) → Type 0 where
    none : {l : List ℕ} → Handed l l []
    one : {l m k : List ℕ} {ps qs : List (List ℕ)} → NextCall l m ps → Handed m k qs → Handed l k (ps ++ qs)

  pub record Hands (m : List ℕ) (ps : List (List ℕ)) : Type 0 where
    -- the packets that the host got are those by place, from place 0 on
    pub gives : (i : ℕ) → i < length ps → get_or ps i [] ≡ packet_at (first_bytes session_size name) size n ks d i
    -- and one more call answers as `eiderwagon_transmitter_packet` does at the next place
    pub goes_on : (r : ℕ) (l o o' ws ws' : List ℕ) → NextPacket r name size n ks d m l o o' ws ws'
        → AnswersWriting r ws ws' o o' (named name (transmit_ground size n ks d (length ps)))
        (packet_at (first_bytes session_size name) size n ks d (length ps))

-- so it is over every list of calls from a start, whatever was refused
unfoldable pub HandsOn : Type 0
HandsOn = (name : List ℕ) (size n : ℕ) (ks d m k : List ℕ) (ps : List (List ℕ)) → StartCall name size n ks d m
    → Handed name size n ks d m k ps
    → Hands name size n ks d k ps
