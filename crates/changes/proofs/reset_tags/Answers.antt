-- `changes::reset_tags` meets its contract.
use native.Mathlib.Omega.{arith}
use Rattle.sheet.proofs.Look.{found}
use Rattle.changes.proofs.Outcome.{lays_refused, lays_served}
use Rattle.changes.proofs.Resets.{reset_broken, reset_outside, product_few, reset_lacks, reset_served, reset_room}
use Rattle.changes.proofs.reset_tags.Goals as goal

pub returns-then-not-check : goal.returns-then-not-check
returns-then-not-check c = lays_refused _ _ _ _ (reset_broken _ _ _ _ c.check.ensures c.if-not-check.true)

pub returns-then-c-gt4096 : goal.returns-then-c-gt4096
returns-then-c-gt4096 k =
    let f = found _ _ _ k.check.ensures k.if-not-check.false in
    lays_refused _ _ _ _ (reset_outside f _ k.outside.ensures k.if-c-gt4096.true)

pub overflow_mul-cells : goal.overflow_mul-cells
overflow_mul-cells c = omega (arith, product_few (found _ _ _ c.check.ensures c.if-not-check.false) _ c.if-c-gt4096.false)

pub returns-then-cells-cell_starts : goal.returns-then-cells-cell_starts
returns-then-cells-cell_starts c =
    let f = found _ _ _ c.check.ensures c.if-not-check.false in
    lays_refused _ _ _ _ (reset_lacks f _ c.if-c-gt4096.false c.if-cells-cell_starts.true)

pub reset_tags-requires : goal.reset_tags-requires
reset_tags-requires c = reset_room (found _ _ _ c.check.ensures c.if-not-check.false) _ c.if-c-gt4096.false c.if-cells-cell_starts.false

pub returns : goal.returns
returns c =
    let f = found _ _ _ c.check.ensures c.if-not-check.false in
    lays_served _ _ _ _ _ (reset_served f _ c.if-c-gt4096.false c.if-cells-cell_starts.false) c.reset_tags.ensures
