-- What is promised is a theorem of `OrderLaws`.
use Rattle.acceptance.proofs.OrderLaws.{order-11}
use Rattle.acceptance.proofs.order_11.Statement.{statement}
use Rattle.acceptance.proofs.order_11.Tie as tie

pub order_11_spec : {M : Type 1} → statement M
order_11_spec =
    tie.close (tie.spec (λ c. order-11))
