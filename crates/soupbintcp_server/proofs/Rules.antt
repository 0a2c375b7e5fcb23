-- The laws that the functions' proofs need, for `search`: one set for each task.
use borrow.Author.Rules.{rules}
use Rattle.soupbintcp.proofs.FrontLaws.{packet-size}
use Rattle.soupbintcp.proofs.InFrontLaws.{in-front}
use Rattle.soupbintcp_server.proofs.ServerLaws.{server-start-19, server-refused, server-name-bad, last-small, last-large, server-start-0, server-fresh, last-falls, last-passes, last-good, last-19, last-stays, last-moved, entry_read, entry-there, is-login, found-login, found-other, waiting-L, table-refused, server-step-more, server-step-refused, server-step-packet, step-too-long, few-enough, step-more, step-refused, step-packet}
use Rattle.soupbintcp_server.proofs.StatementLaws.{by-a-record, only-by-the-rules, entry-is-its-fields, server-promises}

pub ruleset server_starts = (server-start-19, server-refused, server-name-bad, last-small, last-large, server-start-0, server-fresh, rules)

pub ruleset last_numbers = (last-falls, last-passes, last-good, last-19, last-stays, last-moved, rules)

pub ruleset entries = (entry_read, entry-there, is-login, found-login, found-other, entry-is-its-fields, rules)

pub ruleset waiting_rows = (waiting-L, is-login, rules)

pub ruleset server_fronts = (table-refused, server-step-more, server-step-refused, server-step-packet, packet-size, in-front)

pub ruleset tables = (step-too-long, few-enough, step-more, step-refused, step-packet, packet-size, in-front)

-- with what an accepted answer rests on
pub ruleset recorded = (by-a-record, server_fronts)

pub ruleset ruled = (only-by-the-rules, server-promises, tables)
