-- What a decision promises beside its answer.
use Rattle.login.specs.Statements.{AcceptedExactlyWhen, NeverAccepted, OnlyByARecord, DecisionsApart}
use Rattle.login.specs.Examples.{LoginExamples}
use Rattle.login.specs.Locks.{WrongLocks}

pub record LoginPromises : Type 0 where
  pub accepted_exactly_when : AcceptedExactlyWhen
  pub never_accepted : NeverAccepted
  pub only_by_a_record : OnlyByARecord
  pub tells_apart : DecisionsApart
  pub examples : LoginExamples
  pub wrong_locks : WrongLocks
