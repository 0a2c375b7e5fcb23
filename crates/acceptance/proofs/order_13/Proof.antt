-- What is promised is a theorem of `OrderLaws`.
use Rattle.acceptance.proofs.OrderLaws.{order-13}
use Rattle.acceptance.proofs.order_13.Statement.{statement}
use Rattle.acceptance.proofs.order_13.Tie as tie

pub order_13_spec : {M : Type 1} → statement M
order_13_spec =
    tie.close (tie.spec (λ c. order-13))
