-- What is promised of the session at the client.
use Rattle.std.specs.Prelude.{ℕ, ◌+◌, ◌-◌, ◌≤◌, ◌≡◌, length}
use mathlib.Core.List.{List, [], ◌∷◌, Memᴰ}
use Rattle.wire.specs.Bounds.{blank, largest_number}
use Rattle.wire.specs.Refusals.{packet_not_taken, state_closed, login_not_asked, numbers_used_up}
use Rattle.wire.specs.Bytes.{joined}
use Rattle.wire.specs.Words.{answer, says, refuses}
use Rattle.soupbintcp.specs.declared.packet.Sender.TheVariants.{Server}
use Rattle.soupbintcp.specs.Letters as Letters
use Rattle.soupbintcp.specs.Head.{head_size}
use Rattle.soupbintcp.specs.Front.{packet, front_of, session_of}
use Rattle.soupbintcp_session.specs.Answer.{wants_more, accepted, rejected, sequenced, heartbeat, debug, end_of_session}
use Rattle.soupbintcp_session.specs.Answer.{stays, takes}
use Rattle.soupbintcp_session.specs.Stream.{Run, run, packets_of}
use Rattle.soupbintcp_session.specs.Statements.{StaysOver, StepStable, RunsByStep}
use Rattle.soupbintcp_session.specs.Statements.{ChangesNothing, TakesPackets, HandsUpPayload, AnyStreamCutting, RunsOn}
use Rattle.soupbintcp_client.specs.declared.client.ClientState.TheVariants.{Asked, In, Ended, Closed}
use Rattle.soupbintcp_client.specs.declared.client.Client.{Client}
use Rattle.soupbintcp_client.specs.Client.{client, becomes, client_step}
use Rattle.soupbintcp_client.specs.HandedUp.{numbered_from, handed_up, sequenced_in, granted_in}
use Rattle.soupbintcp_client.specs.Examples.{ClientExample}

-- A in front
abbrev pub AcceptedInFront : List ℕ → ℕ → ℕ → Type 0
AcceptedInFront l size n = front_of Server l ≡ says (packet Letters.accepted) (size ∷ n ∷ [])

-- it carries the asked session unless that was blank, and the asked number unless that was 0
pub data SessionFits (c : Client) (l : List ℕ) : Type 0 where
  any_session : c.session ≡ blank → SessionFits c l
  this_session : session_of Server l ≡ c.session → SessionFits c l

pub data NumberFits (c : Client) (n : ℕ) : Type 0 where
  any_number : c.number.0 ≡ 0 → NumberFits c n
  this_number : n ≡ c.number.0 → NumberFits c n

pub record Fits (c : Client) (l : List ℕ) (n : ℕ) : Type 0 where
  pub session : SessionFits c l
  pub number : NumberFits c n

-- an A that an asked client accepts
pub record AcceptsA (c : Client) (l : List ℕ) : Type 0 where
  pub asked : c.state ≡ Asked
  pub size : ℕ
  pub number : ℕ
  pub front : AcceptedInFront l size number
  pub fits : Fits c l number

-- then session and number come from it, and only then; else 33, and the client is asked as before
pub record TakesFromA : Type 0 where
  pub when : (c : Client) (l : List ℕ) (size n : ℕ) → c.state ≡ Asked → AcceptedInFront l size n → Fits c l n
      → client_step c l ≡ takes size (says accepted (n ∷ [])) (client (session_of Server l) n In)
  pub else_33 : (c : Client) (l : List ℕ) (size n : ℕ) → c.state ≡ Asked → AcceptedInFront l size n → (Fits c l n → ⊥)
      → client_step c l ≡ stays c (refuses login_not_asked)
  pub only_when : (c : Client) (l : List ℕ) → (client_step c l).reply.which ≡ answer accepted → AcceptsA c l
  -- an A is 33 bytes
  pub its_size : (l : List ℕ) (size n : ℕ) → AcceptedInFront l size n → size ≡ 33

-- S in front
abbrev pub SequencedInFront : List ℕ → ℕ → Type 0
SequencedInFront l size = front_of Server l ≡ says (packet Letters.sequenced) (size ∷ [])

-- in takes every S: message n, then n + 1; 34 where n is 2^64 - 1
pub record TakesS : Type 0 where
  pub when : (c : Client) (l : List ℕ) (size : ℕ) → c.state ≡ In → SequencedInFront l size
      → (c.number.0 ≡ largest_number → ⊥)
      → client_step c l
      ≡ takes size (says sequenced (c.number.0 ∷ head_size ∷ (size - head_size) ∷ []))
      (client c.session (c.number.0 + 1) In)
  pub else_34 : (c : Client) (l : List ℕ) (size : ℕ) → c.state ≡ In → SequencedInFront l size
      → c.number.0 ≡ largest_number
      → client_step c l ≡ stays c (refuses numbers_used_up)

-- another packet in front, with no value but its size
abbrev pub PlainInFront : List ℕ → Letters.PacketKind → ℕ → Type 0
PlainInFront l kind size = front_of Server l ≡ says (packet kind) (size ∷ [])

-- the other rows: in takes H and +, and is ended by Z; asked takes +, and is closed by J
pub record TakesTheOthers : Type 0 where
  pub heartbeat_in : (c : Client) (l : List ℕ) (size : ℕ) → c.state ≡ In
      → PlainInFront l Letters.server_heartbeat size → client_step c l ≡ takes size (says heartbeat []) c
  pub debug_in : (c : Client) (l : List ℕ) (size : ℕ) → c.state ≡ In
      → PlainInFront l Letters.debug size → client_step c l ≡ takes size (says debug []) c
  pub end_in : (c : Client) (l : List ℕ) (size : ℕ) → c.state ≡ In
      → PlainInFront l Letters.end_of_session size
      → client_step c l ≡ takes size (says end_of_session []) (becomes c Ended)
  pub debug_asked : (c : Client) (l : List ℕ) (size : ℕ) → c.state ≡ Asked
      → PlainInFront l Letters.debug size → client_step c l ≡ takes size (says debug []) c
  pub rejected_asked : (c : Client) (l : List ℕ) (size reason : ℕ) → c.state ≡ Asked
      → front_of Server l ≡ says (packet Letters.rejected) (size ∷ reason ∷ [])
      → client_step c l ≡ takes size (says rejected (reason ∷ [])) (becomes c Closed)

-- and what no row takes: asked refuses S, H and Z by 31, in refuses A and J by 31, and ended and closed refuse every
-- packet by 32
pub record RefusesTheOthers : Type 0 where
  pub sequenced_asked : (c : Client) (l : List ℕ) (size : ℕ) → c.state ≡ Asked
      → SequencedInFront l size → client_step c l ≡ stays c (refuses packet_not_taken)
  pub heartbeat_asked : (c : Client) (l : List ℕ) (size : ℕ) → c.state ≡ Asked
      → PlainInFront l Letters.server_heartbeat size → client_step c l ≡ stays c (refuses packet_not_taken)
  pub end_asked : (c : Client) (l : List ℕ) (size : ℕ) → c.state ≡ Asked
      → PlainInFront l Letters.end_of_session size → client_step c l ≡ stays c (refuses packet_not_taken)
  pub accepted_in : (c : Client) (l : List ℕ) (size n : ℕ) → c.state ≡ In
      → AcceptedInFront l size n → client_step c l ≡ stays c (refuses packet_not_taken)
  pub rejected_in : (c : Client) (l : List ℕ) (size reason : ℕ) → c.state ≡ In
      → front_of Server l ≡ says (packet Letters.rejected) (size ∷ reason ∷ [])
      → client_step c l ≡ stays c (refuses packet_not_taken)
  pub any_ended : (c : Client) (l : List ℕ) (kind : Letters.PacketKind) (size : ℕ) (vs : List ℕ) → c.state ≡ Ended
      → front_of Server l ≡ says (packet kind) (size ∷ vs) → client_step c l ≡ stays c (refuses state_closed)
  pub any_closed : (c : Client) (l : List ℕ) (kind : Letters.PacketKind) (size : ℕ) (vs : List ℕ) → c.state ≡ Closed
      → front_of Server l ≡ says (packet kind) (size ∷ vs) → client_step c l ≡ stays c (refuses state_closed)

-- ended or closed, whatever comes
pub record ClientStaysOver : Type 0 where
  pub ended : (c : Client) (l : List ℕ) → c.state ≡ Ended → StaysOver Client c (client_step c l)
  pub closed : (c : Client) (l : List ℕ) → c.state ≡ Closed → StaysOver Client c (client_step c l)

-- over a stream: the payloads of S are handed up, each once and in order, under the numbers from the granted one on,
-- and the client's number is one past the last of them
pub record HandsUpInOrder (c : Client) (r : Run Client) : Type 0 where
  pub in_order : handed_up r.taken
      ≡ numbered_from (granted_in c.number.0 (packets_of r.taken)) (sequenced_in (packets_of r.taken))
  pub counted : r.after.number.0
      ≡ granted_in c.number.0 (packets_of r.taken) + length (sequenced_in (packets_of r.taken))

-- ---- whole streams

-- a whole packet of those that a client takes again and again: S, H or +
pub data Running (p : List ℕ) : Type 0 where
  is_S : front_of Server p ≡ says (packet Letters.sequenced) (length p ∷ []) → Running p
  is_H : front_of Server p ≡ says (packet Letters.server_heartbeat) (length p ∷ []) → Running p
  is_debug : front_of Server p ≡ says (packet Letters.debug) (length p ∷ []) → Running p

-- over such packets, while numbers last: all are taken, the payloads of S are handed up under their numbers, and
-- nothing is left
pub record TakesAll (c : Client) (ps : List (List ℕ)) (r : Run Client) : Type 0 where
  pub all : packets_of r.taken ≡ ps
  pub handed : handed_up r.taken ≡ numbered_from c.number.0 (sequenced_in ps)
  pub after : r.after ≡ client c.session (c.number.0 + length (sequenced_in ps)) In
  pub left : r.rest ≡ []
  pub why : r.why ≡ says wants_more []

pub record ClientPromises : Type 0 where
  pub takes_from_A : TakesFromA
  pub takes_S : TakesS
  pub takes_the_others : TakesTheOthers
  pub refuses_the_others : RefusesTheOthers
  pub stays_over : ClientStaysOver
  pub changes_nothing : ChangesNothing Client client_step
  pub takes_packets : TakesPackets Client client_step Server
  pub hands_up_payload : HandsUpPayload Client client_step Server sequenced
  pub step_stable : StepStable Client client_step
  pub runs_on : (c : Client) (l : List ℕ) → RunsOn Client client_step c l
  pub runs_by_step : (c : Client) (l : List ℕ) → RunsByStep Client client_step c l
  pub any_cutting : AnyStreamCutting Client client_step
  pub example : ClientExample
  pub hands_up_in_order : (c : Client) (l : List ℕ) → HandsUpInOrder c (run client_step c l)
  pub takes_all : (c : Client) (ps : List (List ℕ)) → c.state ≡ In
      → ((p : List ℕ) → Memᴰ p ps → Running p)
      → c.number.0 + length (sequenced_in ps) ≤ largest_number
      → TakesAll c ps (run client_step c (joined ps))
