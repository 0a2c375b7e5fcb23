-- The laws that the functions' proofs need, for `search`: one set for each task.
use borrow.Author.Rules.{rules}
use Rattle.soupbintcp.proofs.FrontLaws.{packet-size}
use Rattle.soupbintcp.proofs.InFrontLaws.{in-front}
use Rattle.soupbintcp_client.proofs.StatementLaws.{client-promises}
use Rattle.soupbintcp_client.proofs.ClientLaws.{client-start-19, client-refused, client-name-bad, number_small, number-large, client-start-0, client-fresh, asks-any-session, asks-session, asks-any-number, asks-number, asked-A, used-up, hands_up, step-more, step-refused, step-packet}

pub ruleset client_starts = (client-start-19, client-refused, client-name-bad, number_small, number-large, client-start-0, client-fresh, rules)

pub ruleset asks = (asks-any-session, asks-session, asks-any-number, asks-number, rules)

pub ruleset asked_rows = (asked-A, rules)

pub ruleset hand_ups = (used-up, hands_up, rules)

pub ruleset client_fronts = (step-more, step-refused, step-packet, packet-size, in-front, client-promises)
