-- The laws that the functions' proofs need, for `search`: one set for each task.
use borrow.Author.Rules.{rules}
use mathlib.Core.Path.{refl}
use Rattle.host_answers.proofs.WritingLaws.{lent-within, writing-plain}
use Rattle.exports_soupbintcp.proofs.NameLaws.{missized, missized-behind, accepted-reported, login-reported}
use Rattle.exports_soupbintcp.proofs.RefusalLaws.{read_only, missized-only, bare-only, payload-only, accepted-only, reason-only, login-only}
use Rattle.exports_soupbintcp.proofs.PacketLaws.{packet-words, read-answers, fronts-apart}

pub ruleset packets = (packet-words, refl, rules)

pub ruleset answers = (fronts-apart, read-answers, read_only, rules)

pub ruleset writers = (lent-within, writing-plain, bare-only, payload-only, reason-only, rules)

pub ruleset names = (lent-within, missized, missized-behind, accepted-reported, login-reported, missized-only, accepted-only, login-only, rules)
