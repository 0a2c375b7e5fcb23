-- One law for each answer to the name; what stands behind it are the numbers.
use Rattle.capture_settings.proofs.Rules.{opening}
use Rattle.capture_settings.proofs.settings.read.Goals as goal

pub returns-then-is_name-clause-value : goal.returns-then-is_name-clause-value
returns-then-is_name-clause-value c = search opening

pub returns-clause-value : goal.returns-clause-value
returns-clause-value c = search opening
