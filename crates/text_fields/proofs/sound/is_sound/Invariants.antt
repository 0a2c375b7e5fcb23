-- Of the bytes so far it is known how many letters or digits stand in front, and those that follow decide the rest.
use Rattle.text_fields.proofs.StepLaws.{Passed}
use Rattle.text_fields.proofs.sound.is_sound.Given as goal

abbrev pub invariant-loop-b : goal.invariant-loop-b
invariant-loop-b l = Passed l.field l.size l.in_word l.good l.b-index
