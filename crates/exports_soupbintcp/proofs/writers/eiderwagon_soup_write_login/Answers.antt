use Rattle.exports_soupbintcp.proofs.Rules.{names}
use Rattle.exports_soupbintcp.proofs.writers.eiderwagon_soup_write_login.Goals as goal

pub returns-then-username-ne-USERNAME_SIZE-clause-answers_writing : goal.returns-then-username-ne-USERNAME_SIZE-clause-answers_writing
returns-then-username-ne-USERNAME_SIZE-clause-answers_writing c = search names

pub returns-then-password-ne-PASSWORD_SIZE-clause-answers_writing : goal.returns-then-password-ne-PASSWORD_SIZE-clause-answers_writing
returns-then-password-ne-PASSWORD_SIZE-clause-answers_writing c = search names

pub returns-then-session-ne-SESSION_SIZE-clause-answers_writing : goal.returns-then-session-ne-SESSION_SIZE-clause-answers_writing
returns-then-session-ne-SESSION_SIZE-clause-answers_writing c = search names

pub returns-clause-answers_writing : goal.returns-clause-answers_writing
returns-clause-answers_writing c = search names

pub returns-clause-refuses : goal.returns-clause-refuses
returns-clause-refuses c = search names
