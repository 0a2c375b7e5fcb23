-- Its two lines have room and follow each other, so they are one text.
use Rattle.missing_text.proofs.Rules.{ranges}
use Rattle.missing_text.proofs.lines.put_range.Goals as goal

pub returns : goal.returns
returns c = search ranges
