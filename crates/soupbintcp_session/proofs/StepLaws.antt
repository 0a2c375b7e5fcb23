-- Laws of one step, for every session S: s is the session, l the stream, from who sends it, kind the answer that hands up a message.
use mathlib.Core.Path.{◌≡◌, refl, sym, ◌∙◌}
use mathlib.Core.List.{List, []}
use Prim.Native.Nat.{ℕ, ◌-◌, ◌≤◌}
use native.Mathlib.Omega.{arith}
use lib.ListN.{length, take, drop}
use lib.Seq.{length-take-le}
use Rattle.wire.specs.Words.{Words, answer, refused, says, refuses}
use Rattle.soupbintcp.specs.declared.packet.Sender.{Sender}
use Rattle.soupbintcp.specs.Front.{packet_bytes, payload_of}
use Rattle.soupbintcp.proofs.StableLaws.{said-bytes, said-payload}
use Rattle.soupbintcp_session.specs.Answer.{SessionAnswerKind, wants_more, answer_message, StepOutcome, stays, takes}
use Rattle.soupbintcp_session.specs.Stream.{Stepping}
use Rattle.soupbintcp_session.specs.Statements.{ChangesNothing, TakesNothing, needs_more, is_refused, TakesPackets, HandsUpPayload}
use Rattle.soupbintcp_session.proofs.FrontCases.{InFront}

-- an answer that takes nothing gives nothing else: need more, or a refusal's number
pub data Rests : Words SessionAnswerKind → Type 0 where
  waits : Rests (says wants_more [])
  refusing : (r : ℕ) → Rests (refuses r)

rests-nothing : (w : Words SessionAnswerKind) → Rests w → TakesNothing w.which
rests-nothing w waits = needs_more
rests-nothing w (refusing r) = is_refused

-- and it is none that takes a packet
pub never-rests : (w : Words SessionAnswerKind) → Rests w → (r : SessionAnswerKind) → (TakesNothing (answer r) → ⊥) → w.which ≡ answer r → ⊥
never-rests w n r f e = let b : TakesNothing w.which = rests-nothing w n in f (rw e at b)

-- a step rests, or it takes the packet in front and hands up no more than its payload
pub data Does {S : Type 0} (s : S) (l : List ℕ) (from : Sender) (kind : SessionAnswerKind) (o : StepOutcome S) : Type 0 where
  rests : (w : Words SessionAnswerKind) → Rests w → o ≡ stays s w → Does s l from kind o
  moves : (k : ℕ) (vs : List ℕ) (w : Words SessionAnswerKind) (t : S) → InFront from l k vs → (TakesNothing w.which → ⊥)
      → (w.which ≡ answer kind → answer_message w l ≡ take (k - 3) (drop 3 l)) → o ≡ takes k w t → Does s l from kind o

module _ {S : Type 0} {s : S} {l : List ℕ} {from : Sender} {kind : SessionAnswerKind} {o : StepOutcome S} where
  pub takes-what-is-there : Does s l from kind o → o.size ≤ length l
  takes-what-is-there (rests w n e) = rw e (omega arith)
  takes-what-is-there (moves k vs w t i n m e) = rw e i.within

  pub rests-by : Does s l from kind o → o.size ≡ 0 → TakesNothing o.reply.which
  rests-by (rests w n e) z = rw e (rests-nothing w n)
  rests-by (moves k vs w t i n m e) z = let a : k ≡ 0 = rw e at z in let b = i.some in absurd (omega arith)

  pub takes_none : Does s l from kind o → TakesNothing o.reply.which → o.size ≡ 0
  takes_none (rests w n e) z = rw e refl
  takes_none (moves k vs w t i n m e) z = absurd (n (rw e at z))

  waits-so : Does s l from kind o → o.reply.which ≡ answer wants_more → o ≡ stays s (says wants_more [])
  waits-so (rests w waits e) z = e
  waits-so (rests w (refusing r) e) z = let f : (refuses {K = SessionAnswerKind} r).which ≡ answer wants_more = rw e at z in let y : ◌≡◌ {A = ℕ} 0 1 = cc in absurd (omega arith)
  waits-so (moves k vs w t i n m e) z = let f : w.which ≡ answer wants_more = rw e at z in absurd (n (rw f needs_more))

  refuses-so : Does s l from kind o → o.reply.which ≡ refused → o ≡ stays s (refuses o.reply.refusal)
  refuses-so (rests w waits e) z = let f : (says wants_more []).which ≡ refused = rw e at z in let y : ◌≡◌ {A = ℕ} 0 1 = cc in absurd (omega arith)
  refuses-so (rests w (refusing r) e) z = rw e refl
  refuses-so (moves k vs w t i n m e) z = let f : w.which ≡ refused = rw e at z in absurd (n (rw f is_refused))

  -- its bytes are those of the packet in front
  bytes_of : Does s l from kind o → (TakesNothing o.reply.which → ⊥) → take o.size l ≡ packet_bytes from l
  bytes_of (rests w n e) z = absurd (z (rw e (rests-nothing w n)))
  bytes_of (moves k vs w t i n m e) z = rw e (sym (said-bytes from l i.kind k vs i.front))

  size_of : Does s l from kind o → (TakesNothing o.reply.which → ⊥) → o.size ≡ length (packet_bytes from l)
  size_of (rests w n e) z = absurd (z (rw e (rests-nothing w n)))
  size_of (moves k vs w t i n m e) z = rw (e, said-bytes from l i.kind k vs i.front) (sym (length-take-le k l i.within))

  some_of : Does s l from kind o → (TakesNothing o.reply.which → ⊥) → 3 ≤ o.size
  some_of (rests w n e) z = absurd (z (rw e (rests-nothing w n)))
  some_of (moves k vs w t i n m e) z = rw e i.some

  hands-payload : (TakesNothing (answer kind) → ⊥) → Does s l from kind o → o.reply.which ≡ answer kind → answer_message o.reply l ≡ payload_of from l
  hands-payload f (rests w n e) z =
      absurd (never-rests w n kind f (rw e at z))
  hands-payload f (moves k vs w t i n m e) z =
      rw e (m (rw e at z) ∙ sym (said-payload from l i.kind k vs i.front))

module _ {S : Type 0} (step : Stepping S) (from : Sender) (kind : SessionAnswerKind) (d : (s : S) (l : List ℕ) → Does s l from kind (step s l)) where
  pub changes_nothing : ChangesNothing S step
  changes_nothing = record { need_more = λ (s : S) (l : List ℕ). waits-so (d s l); refusal = λ (s : S) (l : List ℕ). refuses-so (d s l) }

  pub takes_packets : TakesPackets S step from
  takes_packets s l z = record { its_bytes = bytes_of (d s l) z; its_size = size_of (d s l) z; some = some_of (d s l) z }

  pub hands_up : (TakesNothing (answer kind) → ⊥) → HandsUpPayload S step from kind
  hands_up f s l e = hands-payload f (d s l) e
