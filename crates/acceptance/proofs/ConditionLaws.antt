-- The conditions, from the theorems of the crates that they stand in.
use Rattle.wire.proofs.Outputs.{output-laws}
use Rattle.moldudp64_writer.proofs.RoundTripLaws.{packet-round-trip, end-round-trip, request-round-trip}
use Rattle.receiver.proofs.Promises.{receiver-promises}
use Rattle.receiver.proofs.ConditionLaws as receiver
use Rattle.receiver.proofs.WitnessLaws.{not_vacuous, not_weak}
use Rattle.soupbintcp_writer.proofs.RoundTripLaws.{every_packet, payload-round-trip, letter-round-trip, accepted-round-trip, rejected-round-trip, login-round-trip}
use Rattle.login.proofs.ExampleLaws.{login-promises}
use Prim.Native.Nat.{ℕ}
use mathlib.Core.Path.{◌≡◌, refl}
use borrow.Author.Tests.{ne_eqb}
use Rattle.soupbintcp_server.specs.declared.server.Server.{Server}
use Rattle.soupbintcp_server.specs.Server.{last_refusal, with_last}
use Rattle.soupbintcp_server.proofs.StatementLaws.{server-promises}
use Rattle.soupbintcp_reply.proofs.StatementLaws.{reply-promises}
use Rattle.soupbintcp_client.proofs.StatementLaws.{client-promises}
use Rattle.soupbintcp.proofs.StableLaws.{front-promises}
use Rattle.soupbintcp.proofs.ScanLaws.{scan-promises}
use Rattle.host_answers.proofs.PromiseLaws.{host-promises}
use Rattle.acceptance.specs.Conditions.{Condition1, Condition2, Condition2IsMeant, Condition3, RefusedChangeNothing, Condition3IsMeant}
use Rattle.exports_reply.proofs.CallLaws.{refused-reply}
use Rattle.acceptance.proofs.LayoutLaws.{every-layout}
use Rattle.acceptance.proofs.StateLaws.{host_states, open_by_code}

last-kept : (s : Server) (n : ℕ) → (last_refusal s n ≡ 0 → ⊥) → with_last s n ≡ s
unfolding with_last
last-kept s n z = rw (ne_eqb _ _ z) refl

pub condition-1 : Condition1
condition-1 =
    record {
      writers = output-laws.refusal_writes_nothing;
      receiver = receiver-promises.follows_the_table.refused;
      server = server-promises.changes_nothing;
      server_with = server-promises.changes_nothing_with;
      client = client-promises.changes_nothing;
      reply = reply-promises.refusal_undoes;
      last = last-kept;
      host_answers = host-promises.refusal_changes_nothing;
      host_states = host_states;
      host_reply = refused-reply;
      open_by_code = open_by_code;
    }

pub condition-2 : Condition2
condition-2 =
    record {
      layouts = every-layout;
      datagrams = packet-round-trip;
      ends_of_session = end-round-trip;
      requests = request-round-trip;
      every_packet = every_packet;
      payloads = payload-round-trip;
      letters_alone = letter-round-trip;
      logins_accepted = accepted-round-trip;
      logins_rejected = rejected-round-trip;
      logins = login-round-trip;
      decided_exactly_when = login-promises.accepted_exactly_when;
      never_accepted = login-promises.never_accepted;
      accepted_exactly_when = server-promises.login_exactly_when;
      only_in = server-promises.only_in;
      hands_up_only_in = server-promises.hands_up_only_in;
      only_by_a_record = login-promises.only_by_a_record;
      only_by_its_record = server-promises.only_by_its_record;
      server_in_order = server-promises.hands_up_in_order;
      server_takes_the_others = server-promises.takes_the_others;
      server_refuses_the_others = server-promises.refuses_the_others;
      server_stays_over = server-promises.stays_over;
      server_hands_up = server-promises.hands_up_payload;
      client_hands_up = client-promises.hands_up_payload;
      fronts = front-promises;
      scans = scan-promises;
      takes_from_A = client-promises.takes_from_A;
      takes_S = client-promises.takes_S;
      takes_the_others = client-promises.takes_the_others;
      client_refuses_the_others = client-promises.refuses_the_others;
      client_stays_over = client-promises.stays_over;
      in_order = client-promises.hands_up_in_order;
      client_takes_all = client-promises.takes_all;
      server_step_stable = server-promises.step_stable;
      client_step_stable = client-promises.step_stable;
      server_any_cutting = server-promises.any_cutting;
      client_any_cutting = client-promises.any_cutting;
      follows_the_table = receiver-promises.follows_the_table;
      request_exactly_when = receiver-promises.request_exactly_when;
      keeps_settings = receiver-promises.keeps_settings;
    }

pub condition-2-is-meant : Condition2IsMeant
condition-2-is-meant = record { wrong_locks = login-promises.wrong_locks }

pub condition_3 : Condition3
condition_3 = receiver.condition_3

pub refused-change-nothing : RefusedChangeNothing
refused-change-nothing = receiver.refused-change-nothing

pub condition-3-is-meant : Condition3IsMeant
condition-3-is-meant = record { not_vacuous = not_vacuous; not_weak = not_weak }
