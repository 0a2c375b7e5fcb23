use Rattle.exports_deliver.proofs.AnswerLaws.{behind-skipped, behind-laid}
use Rattle.exports_deliver.proofs.lay_behind.Goals as goal

pub behind_blocks-requires : goal.behind_blocks-requires
behind_blocks-requires c = (c.requires.0, behind-skipped c.args.datagram.now c.args.count c.args.skipped c.requires.1)

pub returns : goal.returns
returns c = behind-laid _ _ _ _ _ _ c.behind_blocks.ensures c.lay_places.ensures
