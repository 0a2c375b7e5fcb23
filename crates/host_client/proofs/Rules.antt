-- The laws that the functions' proofs need, for `search`.
use borrow.Author.Rules.{rules}
use mathlib.Core.Path.{refl}
use Rattle.host_client.proofs.ClientLaws.{client-in, client-asked, client-ended, client-closed, phase-asked, phase-in, phase-ended, phase-closed, open-asked, open_in, open-ended, open-closed, client-kept, client-short, client-read, client-promises}

pub ruleset clients = (client-in, client-asked, client-ended, client-closed, phase-asked, phase-in, phase-ended, phase-closed, open-asked, open_in, open-ended, open-closed, client-kept, client-short, client-read, client-promises, refl, rules)
