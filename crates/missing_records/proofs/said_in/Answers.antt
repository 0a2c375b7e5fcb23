-- By what the reader answered.
use Rattle.wire.proofs.Refusing.{handed_up}
use Rattle.missing_records.proofs.TakeLaws.{said-data, said-alone, said-refused}
use Rattle.missing_records.proofs.said_in.Goals as goal

pub returns-in_err-first : goal.returns-in_err-first
returns-in_err-first c =
    said-refused _ c.read.result c.read.ensures.result_value c.in_err-first.field-0.0 _ _ c.in_err-first.was
    (handed_up _ _ c.from_residual.ensures.1)

pub returns-in-Data : goal.returns-in-Data
returns-in-Data c =
    said-data _ c.read.result c.read.ensures.result_value c.in_ok-first.field-0 c.in_ok-first.was _ _ _ c.in-Data.is c.plus.ensures

pub returns-in-Heartbeat : goal.returns-in-Heartbeat
returns-in-Heartbeat c =
    said-alone _ c.read.result c.read.ensures.result_value c.in_ok-first.field-0 c.in_ok-first.was _ c.in-Heartbeat.is

pub returns-in-Heartbeat-2 : goal.returns-in-Heartbeat-2
returns-in-Heartbeat-2 c =
    said-alone _ c.read.result c.read.ensures.result_value c.in_ok-first.field-0 c.in_ok-first.was _ c.in-Heartbeat.is
