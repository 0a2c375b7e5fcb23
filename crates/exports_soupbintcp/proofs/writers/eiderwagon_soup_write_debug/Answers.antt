use Rattle.exports_soupbintcp.proofs.Rules.{writers}
use Rattle.exports_soupbintcp.proofs.writers.eiderwagon_soup_write_debug.Goals as goal

pub returns-clause-answers_writing : goal.returns-clause-answers_writing
returns-clause-answers_writing c = search writers

pub returns-clause-refuses : goal.returns-clause-refuses
returns-clause-refuses c = search writers
