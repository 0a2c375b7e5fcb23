-- The laws that the functions' proofs need, for `search`: one set for each file of src/.
use borrow.Author.Rules.{rules}
use mathlib.Core.Path.{refl}
use Rattle.wire.proofs.TestLaws.{tests}
use Rattle.wire.proofs.Refusing.{refusals}
use Rattle.moldudp64.proofs.HeaderLaws.{sequence-read, count-read}
use Rattle.moldudp64.proofs.BlockLaws.{block_size-fits, walk_step, walk-short, walk-stub, walk-all, walk_more}
use Rattle.moldudp64.proofs.DownstreamLaws.{none-follow, all-follow, refusal-13, refusal-14, refusal-walk, read-11, read-12, read-by, read-heartbeat, read-end, read-data, tells_apart, read_well, read_long, session-refused, session-read, session-ten}
use Rattle.moldudp64.proofs.RequestLaws.{ground-13, ground-none, ground-end, ground-good, request-sized, request-by, request-wanted, request-tells-apart, request_long, request-no-session, session_of_request}

pub ruleset headers = (sequence-read, count-read, rules)

pub ruleset blocks = (block_size-fits, walk_step, walk-short, walk-stub, walk-all, walk_more, refl, tests, refusals, rules)

pub ruleset downstreams = (none-follow, all-follow, refusal-13, refusal-14, refusal-walk, read-11, read-12, read-by, read-heartbeat, read-end, read-data, tells_apart, read_well, read_long, session-refused, session-read, session-ten, tests, refusals, rules)

pub ruleset requests = (ground-13, ground-none, ground-end, ground-good, request-sized, request-by, request-wanted, request-tells-apart, request_long, request-no-session, session_of_request, tests, refusals, rules)
