-- A number has at most 20 digits, so they are laid, behind as many spaces as are left of 20.
use mathlib.Core.Path.{refl}
use Rattle.text_fields.proofs.LayLaws.{never-refused, laid-small, laid-within, laid-part, justified}
use Rattle.text_fields.proofs.number.field.Goals as goal

pub overflow_sub-size : goal.overflow_sub-size
overflow_sub-size c = laid-small _ _ _ _ c.in-Ok.ensures.writes

pub slice_bounds-lay-end-in-Ok : goal.slice_bounds-lay-end-in-Ok
slice_bounds-lay-end-in-Ok c = laid-part _ _ _ _ c.in-Ok.ensures.writes

pub slice_bounds-text-end : goal.slice_bounds-text-end
slice_bounds-text-end c = laid-within _ _ _ _ c.in-Ok.ensures.writes

pub returns-in-Ok : goal.returns-in-Ok
returns-in-Ok c = justified _ _ _ _ c.in-Ok.ensures.writes _ _ _ refl refl c.lay.ensures.after

pub returns-in_default : goal.returns-in_default
returns-in_default c = never-refused _ _ _ _ c.in_default.ensures.writes
