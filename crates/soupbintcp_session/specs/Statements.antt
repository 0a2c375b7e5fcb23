-- What is promised of a session at either end: S is the session, step how it steps, from who sends the stream.
use Rattle.std.specs.Prelude.{ℕ, ◌≤◌, List, [], ◌++◌, ◌≡◌, length, take, drop}
use Rattle.wire.specs.Words.{Case, answer, refused, says, refuses}
use Rattle.soupbintcp.specs.declared.packet.Sender.{Sender}
use Rattle.soupbintcp.specs.Head.{head_size}
use Rattle.soupbintcp.specs.Front.{packet_bytes, payload_of}
use Rattle.soupbintcp_session.specs.Answer.{SessionAnswerKind, wants_more, answer_message, StepOutcome, stays}
use Rattle.wire.specs.Bytes.{joined}
use Rattle.soupbintcp_session.specs.Stream.{Stepping, stopped, then_run, run, run_pieces, packets_of}

-- need more and a refusal: no other number, no bytes taken, and the session as it was
pub record ChangesNothing (S : Type 0) (step : Stepping S) : Type 0 where
  pub need_more : (s : S) (l : List ℕ) → (step s l).reply.which ≡ answer wants_more
      → step s l ≡ stays s (says wants_more [])
  pub refusal : (s : S) (l : List ℕ) → (step s l).reply.which ≡ refused
      → step s l ≡ stays s (refuses (step s l).reply.refusal)

-- over for good: no bytes taken, and the session as it was, whatever is answered
pub record StaysOver (S : Type 0) (s : S) (o : StepOutcome S) : Type 0 where
  pub takes_none : o.size ≡ 0
  pub unchanged : o.after ≡ s

-- an answer that takes nothing
pub data TakesNothing : Case SessionAnswerKind → Type 0 where
  needs_more : TakesNothing (answer wants_more)
  is_refused : TakesNothing refused

-- every other answer takes exactly the packet in front
pub record TakesPacket (S : Type 0) (step : Stepping S) (from : Sender) (s : S) (l : List ℕ) : Type 0 where
  pub its_bytes : take (step s l).size l ≡ packet_bytes from l
  pub its_size : (step s l).size ≡ length (packet_bytes from l)
  pub some : head_size ≤ (step s l).size

abbrev pub TakesPackets : (S : Type 0) → Stepping S → Sender → Type 0
TakesPackets S step from = (s : S) (l : List ℕ) → (TakesNothing (step s l).reply.which → ⊥)
    → TakesPacket S step from s l

-- a message that is handed up is the payload of the packet in front
abbrev pub HandsUpPayload : (S : Type 0) → Stepping S → Sender → SessionAnswerKind → Type 0
HandsUpPayload S step from kind = (s : S) (l : List ℕ) → (step s l).reply.which ≡ answer kind
    → answer_message (step s l).reply l ≡ payload_of from l

-- a step that isn't need more gives the same on a longer stream
abbrev pub StepStable : (S : Type 0) → Stepping S → Type 0
StepStable S step = (s : S) (l m : List ℕ) → ((step s l).reply.which ≡ answer wants_more → ⊥)
    → step s (l ++ m) ≡ step s l

-- a stream in pieces, however it is cut, gives what it gives whole, and stops for the same reason
abbrev pub AnyStreamCutting : (S : Type 0) → Stepping S → Type 0
AnyStreamCutting S step = (s : S) (ms : List (List ℕ)) → run_pieces step (run step s []) ms ≡ run step s (joined ms)

-- a run takes packets from the front of the stream, and stops only where a step takes nothing
pub record RunsOn (S : Type 0) (step : Stepping S) (s : S) (l : List ℕ) : Type 0 where
  pub all : joined (packets_of (run step s l).taken) ++ (run step s l).rest ≡ l
  pub stops : TakesNothing (step (run step s l).after (run step s l).rest).reply.which
  pub why : (run step s l).why ≡ (step (run step s l).after (run step s l).rest).reply

-- a run by its first step
pub record RunsByStep (S : Type 0) (step : Stepping S) (s : S) (l : List ℕ) : Type 0 where
  pub goes : (TakesNothing (step s l).reply.which → ⊥)
      → run step s l
      ≡ then_run (record { bytes = take (step s l).size l; reply = (step s l).reply })
      (run step (step s l).after (drop (step s l).size l))
  pub stops : TakesNothing (step s l).reply.which → run step s l ≡ stopped s l (step s l).reply
