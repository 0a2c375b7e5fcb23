-- The values, or 19.
use Rattle.exports_early_messages.proofs.PartLaws.{sized-right, sized-wrong}
use Rattle.exports_early_messages.proofs.answer_sized.Goals as goal

pub returns-then-slots-ne-SLOT_BYTES : goal.returns-then-slots-ne-SLOT_BYTES
returns-then-slots-ne-SLOT_BYTES g c = sized-wrong _ _ _ _ _ _ c.if-slots-ne-SLOT_BYTES.true c.answer.ensures

pub returns : goal.returns
returns g c = sized-right _ _ _ _ _ _ c.if-slots-ne-SLOT_BYTES.false c.answer-2.ensures
