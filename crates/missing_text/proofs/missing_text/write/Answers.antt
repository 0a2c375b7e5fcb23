-- One law for each way: no room for any text, no usable state, and the list.
use Rattle.missing_text.proofs.Rules.{texts}
use Rattle.missing_text.proofs.missing_text.write.Goals as goal

pub returns-then-out-lt-ROOM : goal.returns-then-out-lt-ROOM
returns-then-out-lt-ROOM c = search texts

pub returns-then-not-is_usable : goal.returns-then-not-is_usable
returns-then-not-is_usable c = search texts

pub returns : goal.returns
returns c = search texts
