-- The text is reported; it is lent nothing where the words are too few.
use Rattle.exports_capture.proofs.Rules.{texts}
use Rattle.exports_capture.proofs.eiderwagon_capture_write.Goals as goal

pub returns-then-state-lt-SIZE-clause-answers_writing : goal.returns-then-state-lt-SIZE-clause-answers_writing
returns-then-state-lt-SIZE-clause-answers_writing c = search texts

pub returns-clause-answers_writing : goal.returns-clause-answers_writing
returns-clause-answers_writing c = search texts

pub returns-clause-refuses : goal.returns-clause-refuses
returns-clause-refuses c = search texts
