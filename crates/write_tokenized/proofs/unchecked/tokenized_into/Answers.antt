-- `write_tokenized::unchecked::tokenized_into` meets its contract. The invariant: the tokens from the cursor on are left to write.
use native.Mathlib.Omega.{arith}
use Rattle.sheet.specs.Views.{held}
use Rattle.write_tokenized.proofs.Turns.{Comes, comes, token_start, gap_asks, token_asks, token_next, token_done}
use Rattle.write_tokenized.proofs.unchecked.tokenized_into.Goals as goal
use Rattle.write_tokenized.proofs.unchecked.tokenized_into.Goals.{After-from-e}

pub loop-t-init : goal.loop-t-init
loop-t-init c = token_start _ c.requires.0 c.requires.1

served : (c : After-from-e) → let s = c.args.sheet.now in Comes s.record (held s) c.loop-t.p c.from-b.result c.from-e.result
served c = search comes

pub gap_into-n-requires : goal.gap_into-n-requires
gap_into-n-requires c = gap_asks c.loop-t.invariant (served (goal.at.gap_into-n-requires c).After-from-e)

pub token_into-n-requires : goal.token_into-n-requires
token_into-n-requires c = token_asks c.loop-t.invariant (served (goal.at.token_into-n-requires c).After-from-e) c.gap_into-n.ensures

pub loop-t-smaller : goal.loop-t-smaller
loop-t-smaller c = omega (arith, served (goal.at.loop-t-smaller c).After-from-e)

pub loop-t-preserved : goal.loop-t-preserved
loop-t-preserved c = token_next c.loop-t.invariant (served (goal.at.loop-t-preserved c).After-from-e) c.gap_into-n.ensures c.token_into-n.ensures

pub returns : goal.returns
returns c = search token_done
