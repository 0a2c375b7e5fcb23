-- Edges 2 i and 2 i + 1 bound range i.
use Rattle.std.proofs.Common.{ℕ, ◌-◌, ap, ◌∙◌, arith}
use Rattle.missing_ranges.proofs.ListingLaws.{no-range, range-closed, range-open}
use Rattle.missing_ranges.proofs.ranges.Missing.range.Goals as goal
use Rattle.missing_ranges.proofs.ranges.Missing.range.Goals.{then-place-self, else-place-self}

pub returns-then-count-place : goal.returns-then-count-place
returns-then-count-place c = no-range _ _ _ _ c.count.ensures c.if-count-place.true

pub returns : goal.returns
returns c =
    elim c.if-place-self.branch [
      | then-place-self w ↦ range-closed _ _ _ _ c.count.ensures (omega arith) w.if-place-self.true _
          (c.saturating_sub.ensures ∙ ap (λ (x : ℕ). x - 1) w.edge-is)
      | else-place-self w ↦ range-open _ _ _ _ c.count.ensures (omega arith) w.if-place-self.false _
          (c.saturating_sub.ensures ∙ ap (λ (x : ℕ). x - 1) w.edge-is)
    ]
