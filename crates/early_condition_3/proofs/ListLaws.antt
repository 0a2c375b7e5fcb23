-- The receiver alone over a list of datagrams: computed without what is lent to it, whatever bytes that has.
use mathlib.Core.Path.{◌≡◌, refl, ap, ◌∙◌}
use mathlib.Core.List.{List, [], ◌∷◌}
use mathlib.Core.Bool.{true}
use Rattle.feed.specs.Session.{Datagram}
use Rattle.feed.specs.Machine.{after}
use Rattle.early_holding.specs.declared.holding.EarlyReceiver.{EarlyReceiver}
use Rattle.early_holding.specs.Holding.{Lent}
use Rattle.early_receiver.specs.Early.{right_size, lent_after}
use Rattle.early_receiver.proofs.AloneLaws.{after_alone, after-alone, size-stays}
use Rattle.early_condition_3.specs.Condition3.{GivesRule, machine_of}

unfoldable pub list_alone : EarlyReceiver → List Datagram → EarlyReceiver
list_alone r [] = r
list_alone r (d ∷ ds) = list_alone (after_alone r d) ds

module _ (gives : GivesRule) where
  pub list-alone : (ds : List Datagram) (s : Lent) → right_size s ≡ true → (after (machine_of lent_after gives) s ds).receiver ≡ list_alone s.receiver ds
  unfolding after list_alone
  list-alone [] s e = refl
  list-alone (d ∷ ds) s e =
      list-alone ds (lent_after s d) (size-stays s d e) ∙ ap (λ (r : EarlyReceiver). list_alone r ds) (after-alone s d e)

  pub list-size : (ds : List Datagram) (s : Lent) → right_size s ≡ true → right_size (after (machine_of lent_after gives) s ds) ≡ true
  unfolding after
  list-size [] s e = e
  list-size (d ∷ ds) s e = list-size ds (lent_after s d) (size-stays s d e)
