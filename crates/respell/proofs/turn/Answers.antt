-- What it does is one move.
use Rattle.std.proofs.Common.{rules}
use Rattle.respelling.proofs.Went.{went_write, few_held, went_read, went_answer}
use Rattle.respell.proofs.turn.Goals as goal

pub returns-then-s : goal.returns-then-s
returns-then-s g c = search (went_write, rules)

pub read_some-requires-clause-to_bound : goal.read_some-requires-clause-to_bound
read_some-requires-clause-to_bound g c = search (few_held, rules)

pub returns-then-s-2 : goal.returns-then-s-2
returns-then-s-2 g c = search (went_read, rules)

pub returns : goal.returns
returns g c = search (went_answer, rules)
