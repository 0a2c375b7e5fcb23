-- The laws that the functions' proofs need, for `search`: one set for each task.
use borrow.Author.Rules.{rules}
use Rattle.soupbintcp_writer.proofs.WriteLaws.{head-put, payload-refused, payload-short, payload-done, letter-done, accepted-no-session, accepted-no-number, accepted-short, accepted-done, reason-refused, reason-done, login-no-username, login-no-password, login_session, login-refused, login-short, names-put, login-done}
use Rattle.soupbintcp_writer.proofs.RoundTripLaws.{every_packet, payload-round-trip, letter-round-trip, rejected-round-trip, accepted-round-trip, login-round-trip}

pub ruleset packets = (head-put, payload-refused, payload-short, payload-done, letter-done, rules)

pub ruleset letters = (every_packet, payload-round-trip, letter-round-trip, rules)

pub ruleset accepts = (accepted-no-session, accepted-no-number, accepted-short, accepted-done, accepted-round-trip, rules)

pub ruleset rejects = (reason-refused, reason-done, rejected-round-trip, rules)

pub ruleset logins = (login-no-username, login-no-password, login_session, login-refused, login-short, names-put, login-done, login-round-trip, rules)
