-- What is ahead is kept where it is data, and the gap is asked for.
use borrow.Author.Rules.{rules}
use mathlib.Core.Path.{◌≡◌, refl}
use Rattle.std.specs.Prelude.{Ok}
use Rattle.moldudp64.specs.declared.downstream.Downstream.TheVariants.{Data, Heartbeat, EndOfSession}
use Rattle.early_receiver.proofs.StepLaws.{data-above, beat-above, end-above, ahead-kept, ahead-beat, ahead-end, kept-open, kept_above}
use Rattle.early_receiver.proofs.Rules.{aheads}
use Rattle.early_receiver.proofs.early.ahead.Goals as goal

pub keep_all-kept-requires : goal.keep_all-kept-requires
keep_all-kept-requires c =
    let k : c.args.packet ≡ Ok (Data c.in-Ok-Data.first c.in-Ok-Data.count) = search rules in
    data-above _ _ c.requires.next_bound _ k _ _ refl

pub ahead_of-requires-clause-ended_value : goal.ahead_of-requires-clause-ended_value
ahead_of-requires-clause-ended_value c =
    let k : c.args.packet ≡ Ok (Data c.in-Ok-Data.first c.in-Ok-Data.count) = search rules in
    kept-open _ _ _ _ _ _ _ _ c.keep_all-kept.ensures (data-above _ _ c.requires.next_bound _ k _ _ refl) c.requires.ended_value

pub ahead_of-requires-clause-next_lt_number : goal.ahead_of-requires-clause-next_lt_number
ahead_of-requires-clause-next_lt_number c =
    let k : c.args.packet ≡ Ok (Data c.in-Ok-Data.first c.in-Ok-Data.count) = search rules in
    kept_above _ _ _ _ _ _ _ _ c.keep_all-kept.ensures (data-above _ _ c.requires.next_bound _ k _ _ refl)

pub ahead_of-requires-in-Ok-Heartbeat-clause-next_lt_number : goal.ahead_of-requires-in-Ok-Heartbeat-clause-next_lt_number
ahead_of-requires-in-Ok-Heartbeat-clause-next_lt_number c =
    let k : c.args.packet ≡ Ok (Heartbeat c.in-Ok-Heartbeat.next) = search rules in
    beat-above _ _ c.requires.next_bound _ k _ refl

pub ahead_of-requires-in-Ok-EndOfSession-clause-next_lt_number : goal.ahead_of-requires-in-Ok-EndOfSession-clause-next_lt_number
ahead_of-requires-in-Ok-EndOfSession-clause-next_lt_number c =
    let k : c.args.packet ≡ Ok (EndOfSession c.in-Ok-EndOfSession.next) = search rules in
    end-above _ _ c.requires.next_bound _ k _ refl

pub returns-in-Ok-Data : goal.returns-in-Ok-Data
returns-in-Ok-Data c =
    let k : c.args.packet ≡ Ok (Data c.in-Ok-Data.first c.in-Ok-Data.count) = search rules in
    ahead-kept _ _ _ _ _ _ _ k _ _ _ _ _ refl c.keep_all-kept.ensures c.ahead_of.ensures

pub returns-in-Ok-Heartbeat : goal.returns-in-Ok-Heartbeat
returns-in-Ok-Heartbeat c =
    let k : c.args.packet ≡ Ok (Heartbeat c.in-Ok-Heartbeat.next) = search rules in
    ahead-beat _ _ _ _ _ _ _ k _ refl c.ahead_of-in-Ok-Heartbeat.ensures

pub returns-in-Ok-EndOfSession : goal.returns-in-Ok-EndOfSession
returns-in-Ok-EndOfSession c =
    let k : c.args.packet ≡ Ok (EndOfSession c.in-Ok-EndOfSession.next) = search rules in
    ahead-end _ _ _ _ _ _ _ k _ refl c.requires.next_bound c.ahead_of-in-Ok-EndOfSession.ensures

pub returns-in-Err : goal.returns-in-Err
returns-in-Err c = search aheads
