-- A run begins with nothing, each turn is one move more, and where it ends it has come to its end.
use Rattle.std.proofs.Common.{rules}
use Rattle.respelling.proofs.Went.{ran_start, ran_more, ran_ends}
use Rattle.respell.proofs.run.Goals as goal

pub loop-init : goal.loop-init
loop-init g c = search (ran_start, rules)

pub loop-preserved : goal.loop-preserved
loop-preserved g c = (search (ran_more, rules), search rules, search rules)

pub returns-after-loop : goal.returns-after-loop
returns-after-loop g c = search (ran_ends, rules)

pub returns-then-not-goes : goal.returns-then-not-goes
returns-then-not-goes g c = search (ran_ends, rules)
