-- The line with the name leaves room for any ranges, and they follow it.
use Rattle.missing_text.proofs.Rules.{texts}
use Rattle.missing_text.proofs.lines.put_named.Goals as goal

pub put_ranges-requires : goal.put_ranges-requires
put_ranges-requires c = search texts

pub returns : goal.returns
returns c = search texts
