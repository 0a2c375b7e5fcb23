-- A and J are written, and every other answer has no reply.
use Rattle.soupbintcp_reply.proofs.ReplyLaws.{reply-A, reply-J, reply-none}
use Rattle.soupbintcp_reply.proofs.StatementLaws.{reply-promises}
use Rattle.soupbintcp_reply.proofs.step.Goals as goal

pub returns-in-Accepted-clause-replies : goal.returns-in-Accepted-clause-replies
returns-in-Accepted-clause-replies c = reply-A _ _ _ c.step-stepped.ensures.server_steps _ _ _ _ _ c.in-Accepted.is c.write_accepted-written.ensures.writes c.with_reply.ensures

pub returns-in-Rejected-clause-replies : goal.returns-in-Rejected-clause-replies
returns-in-Rejected-clause-replies c = reply-J _ _ _ c.step-stepped.ensures.server_steps _ _ _ _ _ c.in-Rejected.is c.write_rejected.ensures.writes c.with_reply-in-Rejected.ensures

pub returns-in_default : goal.returns-in_default
returns-in_default c = record {
  replies =
      reply-none _ _ _ c.step-stepped.ensures.server_steps _ _ c.in_default.not-Accepted c.in_default.not-Rejected c.with_reply-in_default.ensures;
  promises = reply-promises;
}
