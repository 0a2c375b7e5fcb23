-- A usable state has at most two edges for each range and one more, so there is room for all parts, and they follow each other.
use Rattle.missing_text.proofs.Rules.{texts}
use Rattle.missing_text.proofs.lines.put_list.Goals as goal

pub returns : goal.returns
returns c = search texts
