-- The law of the tables below 65536, and the scan above.
use Prim.Native.Nat.{◌/◌, ◌<◌}
use native.Mathlib.Omega.{arith}
use lib.ListN.{get_or}
use Rattle.types.proofs.Laws.{few, typed}
use Rattle.types.proofs.blocks.Tables.get_type.Goals as goal
use Rattle.types.proofs.blocks.Tables.get_type.Goals.{After-from-block}

block-few : (c : After-from-block) → get_or c.args.self.now.index (c.args.c / 256) 0 < 10
block-few c = few c.args.self.now.right c.args.c c.if-c-lt65536.true

pub overflow_mul-result : goal.overflow_mul-result
overflow_mul-result c = omega (arith, block-few (goal.at.overflow_mul-result c).After-from-block)

pub overflow_add-result : goal.overflow_add-result
overflow_add-result c = omega (arith, block-few (goal.at.overflow_add-result c).After-from-block)

pub bounds-self-block : goal.bounds-self-block
bounds-self-block c = omega (arith, block-few (goal.at.bounds-self-block c).After-from-block)

pub returns-then-c-lt65536 : goal.returns-then-c-lt65536
returns-then-c-lt65536 c = cc (typed c.args.self.now.right c.args.c c.if-c-lt65536.true)
