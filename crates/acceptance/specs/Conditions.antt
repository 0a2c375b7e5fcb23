-- The tender's three conditions by name: the statements that carry them, wherever they stand.
use Rattle.std.specs.Prelude.{ℕ, ◌+◌, ◌≤◌, ◌≡◌, length}
use mathlib.Core.List.{List, Memᴰ}
use Rattle.wire.specs.Bounds.{largest_number}
use Rattle.wire.specs.Bytes.{joined}
use Rattle.wire.specs.Words.{Words, answer}
use Rattle.wire.specs.Output.{RefusalWritesNothing}
use Rattle.moldudp64_writer.specs.RoundTrips.{PacketRoundTrip, EndRoundTrip, RequestRoundTrip}
use Rattle.receiver.specs.declared.receiver.Receiver.{Receiver}
use Rattle.receiver.specs.Receiver.{refusal_for, answer_of, receiver_after}
use Rattle.receiver.specs.Statements.{Refuses, FollowsTheTable, RequestExactlyWhen, KeepsSettings}
use Rattle.receiver.specs.Condition3 as receiver
use Rattle.receiver.specs.Witnesses.{NotVacuous, NotWeak}
use Rattle.soupbintcp_writer.specs.RoundTrips.{EveryPacketWritesBack, PayloadRoundTrip, LetterRoundTrip}
use Rattle.soupbintcp_writer.specs.RoundTrips.{AcceptedRoundTrip, RejectedRoundTrip, LoginRoundTrip}
use Rattle.login.specs.declared.account.Account.{Account}
use Rattle.login.specs.Account.{Found, found_records, VerdictKind, verdict_on}
use Rattle.login.specs.Locks.{WrongLocks}
use Rattle.login.specs.Statements.{AcceptedExactlyWhen, NeverAccepted, OnlyByARecord}
use Rattle.soupbintcp_server.specs.declared.server.Server.{Server}
use Rattle.soupbintcp_client.specs.declared.client.Client.{Client}
use Rattle.soupbintcp_server.specs.declared.server.ServerState.TheVariants.{In, Closed}
use Rattle.soupbintcp_server.specs.Server.{last_refusal, with_last, entry_of, step_with, server_step}
use Rattle.soupbintcp_reply.specs.Statements.{RefusalUndoes}
use Rattle.soupbintcp_client.specs.Client.{client_step}
use Rattle.soupbintcp_session.specs.Answer.{accepted, sequenced, unsequenced}
use Rattle.soupbintcp_session.specs.Stream.{run}
use Rattle.soupbintcp_session.specs.Statements.{ChangesNothing, StaysOver, HandsUpPayload, StepStable, AnyStreamCutting}
use Rattle.soupbintcp_client.specs.declared.client.ClientState.TheVariants as client-state
use Rattle.soupbintcp_client.specs.HandedUp.{sequenced_in}
use Rattle.soupbintcp_client.specs.Statements as client
use Rattle.soupbintcp_client.specs.Statements.{TakesFromA, TakesS, TakesTheOthers, ClientStaysOver, HandsUpInOrder}
use Rattle.soupbintcp.specs.declared.packet.Sender.TheVariants as sender
use Rattle.soupbintcp.specs.Front.{FrontPromises}
use Rattle.soupbintcp.specs.Scan.{ScanPromises}
use Rattle.soupbintcp_server.specs.Statements.{Accepts, LoginExactlyWhen, WasIn}
use Rattle.soupbintcp_server.specs.Statements as server
use Rattle.host_answers.specs.Answers.{RefusalChangesNothing}
use Rattle.exports_reply.specs.Calls.{RefusedReplyChangesNothing}
use Rattle.acceptance.specs.Layouts.{EveryLayout}
use Rattle.acceptance.specs.States.{HostStates, OpenByCode}

-- Condition 1: a refusal changes neither state nor one lent byte. That every function ends and does nothing
-- undefined, on any bytes, is no statement: each function of each crate is proved, and no public one of a library has
-- a `requires` (docs/ACCEPTANCE.md).
pub record Condition1 : Type 0 where
  -- every writer: the output is as it was
  pub writers : RefusalWritesNothing
  -- the receiver gives its number and is as it was
  pub receiver : (r : Receiver) (l : List ℕ) → (refusal_for r l ≡ 0 → ⊥) → Refuses answer_of receiver_after r l
  -- the session is as it was, no bytes are taken, and no other number is given; so it is where more is needed
  pub server : (table : List Account) → ChangesNothing Server (server_step table)
  pub server_with : (verdict : List ℕ → Words VerdictKind) → ChangesNothing Server (λ s l. step_with s (verdict l) l)
  pub client : ChangesNothing Client client_step
  -- so it is where a reply is written too, and the output is as it was; and where the last number is refused
  pub reply : RefusalUndoes
  pub last : (s : Server) (n : ℕ) → (last_refusal s n ≡ 0 → ⊥) → with_last s n ≡ s
  -- a function for hosts in other languages: no word, no byte of an output and no byte of a state has changed
  pub host_answers : RefusalChangesNothing
  pub host_states : HostStates
  -- and a refused reply changes neither state nor output
  pub host_reply : RefusedReplyChangesNothing
  -- a state is open by its first byte alone: zeros and another kind's bytes never are
  pub open_by_code : OpenByCode

-- Condition 2. Each reader's and writer's answer equals its definition, by its own promise: `downstream_of`, `request_of`
-- (moldudp64) and `front_of` (soupbintcp); `encoded`, `encoded_end`, `header` (moldudp64) and `encoded`
-- (soupbintcp_writer). The fields say what those definitions are: the published layouts, each way back to itself.
pub record Condition2 : Type 0 where
  -- those layouts, a packet each in literal bytes
  pub layouts : EveryLayout
  -- what is written reads back as itself; what is accepted writes back to its own bytes, save the named exceptions
  pub datagrams : PacketRoundTrip
  pub ends_of_session : EndRoundTrip
  pub requests : RequestRoundTrip
  pub every_packet : EveryPacketWritesBack
  pub payloads : PayloadRoundTrip
  pub letters_alone : LetterRoundTrip
  pub logins_accepted : AcceptedRoundTrip
  pub logins_rejected : RejectedRoundTrip
  pub logins : LoginRoundTrip
  -- a login that isn't refused is accepted exactly when the account, session and number rules hold: as decided, and
  -- at the server
  pub decided_exactly_when : AcceptedExactlyWhen
  pub never_accepted : NeverAccepted
  pub accepted_exactly_when : LoginExactlyWhen
  -- nobody is in but by such a login, and messages are handed up only of one who is in
  pub only_in : (table : List Account) (s : Server) (l : List ℕ) → (server_step table s l).after.state ≡ In
      → WasIn table s l
  pub hands_up_only_in : (table : List Account) (s : Server) (l : List ℕ)
      → (server_step table s l).reply.which ≡ answer unsequenced → s.state ≡ In
  -- no record that a caller made up lets in more than a table of that one record would
  pub only_by_a_record : OnlyByARecord
  pub only_by_its_record : (f : Found) (s : Server) (l : List ℕ)
      → (step_with s (verdict_on f (entry_of l)) l).reply.which ≡ answer accepted → Accepts (found_records f) s l
  -- over a stream they are the payloads of U in order; the server's other rows; closed it takes no more; at either end
  -- a message is its packet's payload
  pub server_in_order : (table : List Account) (s : Server) (l : List ℕ)
      → server.HandsUpInOrder s (run (server_step table) s l)
  pub server_takes_the_others : server.TakesTheOthers
  pub server_refuses_the_others : server.RefusesTheOthers
  pub server_stays_over : (table : List Account) (s : Server) (l : List ℕ) → s.state ≡ Closed
      → StaysOver Server s (server_step table s l)
  pub server_hands_up : (table : List Account) → HandsUpPayload Server (server_step table) sender.Client unsequenced
  pub client_hands_up : HandsUpPayload Client client_step sender.Server sequenced
  -- bytes that come later change no packet and no refusal that was given; the scan passes what is good and says why
  -- it stopped
  pub fronts : FrontPromises
  pub scans : ScanPromises
  -- the client: session and number come from A; S is message n, then n + 1, handed up in order under their numbers;
  -- the other rows; and what is over stays over
  pub takes_from_A : TakesFromA
  pub takes_S : TakesS
  pub takes_the_others : TakesTheOthers
  pub client_refuses_the_others : client.RefusesTheOthers
  pub client_stays_over : ClientStaysOver
  pub in_order : (c : Client) (l : List ℕ) → HandsUpInOrder c (run client_step c l)
  -- a stream of S, H and + is taken whole while numbers last
  pub client_takes_all : (c : Client) (ps : List (List ℕ)) → c.state ≡ client-state.In
      → ((p : List ℕ) → Memᴰ p ps → client.Running p)
      → c.number.0 + length (sequenced_in ps) ≤ largest_number
      → client.TakesAll c ps (run client_step c (joined ps))
  -- an answer that isn't need more stands, whatever comes later, and a run gives the same however its stream is cut
  -- into pieces, the reason why it stopped too, at either end
  pub server_step_stable : (table : List Account) → StepStable Server (server_step table)
  pub client_step_stable : StepStable Client client_step
  pub server_any_cutting : (table : List Account) → AnyStreamCutting Server (server_step table)
  pub client_any_cutting : AnyStreamCutting Client client_step
  -- the receiver answers, and moves its number, exactly as the table says
  pub follows_the_table : FollowsTheTable answer_of receiver_after
  -- an accepted datagram draws a request exactly when its number lies above the expected one; of the receiver that
  -- keeps early messages `Orders.antt` says when
  pub request_exactly_when : RequestExactlyWhen answer_of
  -- its limit stays; its name changes once, from blank, by an accepted datagram
  pub keeps_settings : KeepsSettings receiver_after

-- what is shown of its rules of a login: the locks that document 01 names break them
pub record Condition2IsMeant : Type 0 where
  pub wrong_locks : WrongLocks

-- Condition 3, one claim about every list of datagrams, for a receiver that is started on the session's name and for one
-- that learns it
abbrev pub Condition3 : Type 0
Condition3 = receiver.Condition3

-- what is refused before the naming datagram, and every list that is refused, changes nothing and delivers nothing
abbrev pub RefusedChangeNothing : Type 0
RefusedChangeNothing = receiver.RefusedChangeNothing

-- what is shown of that claim: it speaks of something, and idle and wrong receivers break it or the table
pub record Condition3IsMeant : Type 0 where
  pub not_vacuous : NotVacuous
  pub not_weak : NotWeak
