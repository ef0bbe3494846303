-- `scores::unchecked::fill` meets its contract.
use borrow.Author.Rules.{rules}
use Rattle.laws.specs.Put.{fills, fill_more}
use Rattle.scores.proofs.Laws.{decides, decide_step}
use Rattle.scores.proofs.unchecked.fill.Goals as goal

pub loop-i-preserved : goal.loop-i-preserved
loop-i-preserved c = fill_more c.loop-i.invariant (decide_step _ _ _ c.loop-i-test.true (search rules) c.decide.ensures)

pub returns : goal.returns
returns c = search (fills, decides, rules)
