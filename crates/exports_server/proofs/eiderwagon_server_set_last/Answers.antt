-- 19 above the largest, 41 for a short state, or the server with another last number.
use Rattle.exports_server.specs.Calls.{MovesLast}
use Rattle.exports_server.proofs.ServerLaws.{last-above, last-short, last-only}
use Rattle.exports_server.proofs.Rules.{servers}
use Rattle.exports_server.proofs.eiderwagon_server_set_last.Goals as goal

pub returns-then-last : goal.returns-then-last
returns-then-last c =
    let moves : MovesLast c.from.result c.args.last c.args.state.now c.args.state.now = rw c.from.ensures (last-above _ _ c.if-last.true) in
    record { moves_last = moves; refuses = last-only _ _ _ _ moves }

pub returns-then-state-lt-SIZE : goal.returns-then-state-lt-SIZE
returns-then-state-lt-SIZE c =
    let moves : MovesLast 41 c.args.last c.args.state.now c.args.state.now = last-short _ _ c.if-last.false c.if-state-lt-SIZE.true in
    record { moves_last = moves; refuses = last-only _ _ _ _ moves }

pub returns : goal.returns
returns c =
    let moves : MovesLast c.write.result c.args.last c.args.state.now c.write.new.state = search servers in
    record { moves_last = moves; refuses = last-only _ _ _ _ moves }
