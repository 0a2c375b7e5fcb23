-- The laws that the functions' proofs need, for `search`.
use borrow.Author.Rules.{rules}
use mathlib.Core.Path.{refl}
use Rattle.host_server.proofs.ServerLaws.{server-closed, server-in, server-waiting, phase-waiting, phase-in, phase-closed, open-waiting, open_in, open-closed, server-kept, there-kept, server-short, server-read, server-promises}

pub ruleset servers = (server-closed, server-in, server-waiting, phase-waiting, phase-in, phase-closed, open-waiting, open_in, open-closed, server-kept, there-kept, server-short, server-read, server-promises, refl, rules)
