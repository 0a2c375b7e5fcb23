-- A refusal with 19 in its place, or the plain receiver's step with what is held.
use Rattle.early_receiver.proofs.ReadLaws.{take_open, take_row, take-moved, take_done}
use Rattle.early_receiver.proofs.Rules.{takes}
use Rattle.early_receiver.proofs.early.take_read.Goals as goal

pub returns-in-Err-clause-takes_early_read : goal.returns-in-Err-clause-takes_early_read
returns-in-Err-clause-takes_early_read c = search takes

pub accept-requires-clause-packet_value : goal.accept-requires-clause-packet_value
accept-requires-clause-packet_value c =
    take_open c.args.receiver c.args.lengths.now c.args.slots.now _ _ c.take_read-taken.result _ _ _ c.take_read-taken.ensures.takes_read.0 c.check_answer.ensures c.is_right_size-right.ensures c.with_slots.ensures _ c.in_default.is

pub accept-requires-clause-answer_value : goal.accept-requires-clause-answer_value
accept-requires-clause-answer_value c =
    take_row c.args.receiver c.args.lengths.now c.args.slots.now _ _ c.take_read-taken.result _ _ _ c.take_read-taken.ensures.takes_read.0 c.check_answer.ensures c.is_right_size-right.ensures c.with_slots.ensures _ c.in_default.is

pub accept-requires-clause-receiver_value : goal.accept-requires-clause-receiver_value
accept-requires-clause-receiver_value c =
    take-moved c.args.receiver c.args.lengths.now c.args.slots.now _ _ c.take_read-taken.result _ _ _ c.take_read-taken.ensures.takes_read.0 c.check_answer.ensures c.is_right_size-right.ensures c.with_slots.ensures _ c.in_default.is
    c.take_read-taken.ensures.takes_read.1

pub returns-clause-takes_early_read : goal.returns-clause-takes_early_read
returns-clause-takes_early_read c =
    take_done c.args.receiver c.args.lengths.now c.args.slots.now _ _ c.take_read-taken.result _ _ _ c.take_read-taken.ensures.takes_read.0 c.check_answer.ensures c.is_right_size-right.ensures c.with_slots.ensures _ c.in_default.is
    _ _ _ c.accept.ensures
