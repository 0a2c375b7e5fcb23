-- What is promised is a theorem of `OrderLaws`.
use Rattle.acceptance.proofs.OrderLaws.{order-6}
use Rattle.acceptance.proofs.order_6.Statement.{statement}
use Rattle.acceptance.proofs.order_6.Tie as tie

pub order_6_spec : {M : Type 1} → statement M
order_6_spec =
    tie.close (tie.spec (λ c. order-6))
