-- The laws that the proof of `message` needs, for `search`.
use borrow.Author.Rules.{rules}
use Rattle.soupbintcp_session.proofs.AnswerLaws.{message-sequenced, message-unsequenced, message-none}

pub ruleset messages = (message-sequenced, message-unsequenced, message-none, rules)
