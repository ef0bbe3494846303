-- `write_partial::unchecked::shown_into` meets its contract.
use native.Mathlib.Omega.{arith}
use Rattle.sheet.proofs.Look.{bounds}
use Rattle.write_partial.proofs.Whole.{whole_asks, whole_done, before_asks, end_covers, end_last, end_done, range_covers, range_rest, range_done}
use Rattle.write_partial.proofs.unchecked.shown_into.Goals as goal

pub overflow_sub-last : goal.overflow_sub-last
overflow_sub-last c = omega (arith, bounds c.requires.0)

pub rest_into-requires : goal.rest_into-requires
rest_into-requires c = whole_asks c.requires.0 _ _ _ c.requires.1 c.requires.2 c.args.out.now c.requires.3 c.if-start-end.true

pub returns-then-start-end : goal.returns-then-start-end
returns-then-start-end c = whole_done c.requires.0 _ _ _ c.requires.1 c.requires.2 c.args.out.now c.requires.3 c.if-start-end.true c.rest_into.ensures

pub before_into-n-requires : goal.before_into-n-requires
before_into-n-requires c = before_asks c.requires.0 _ _ _ c.requires.1 c.requires.2 c.args.out.now c.requires.3 c.if-start-end.false

pub covered_into-k-requires : goal.covered_into-k-requires
covered_into-k-requires c = end_covers c.requires.0 _ _ _ c.requires.1 c.requires.2 c.args.out.now c.requires.3 c.if-start-end.false c.if-end-r.true c.before_into-n.ensures

pub bare_into-requires : goal.bare_into-requires
bare_into-requires c = end_last c.requires.0 _ _ _ c.requires.1 c.requires.2 c.args.out.now c.requires.3 c.if-start-end.false c.if-end-r.true c.before_into-n.ensures c.covered_into-k.ensures

pub returns-then-end-r : goal.returns-then-end-r
returns-then-end-r c = end_done c.requires.0 _ _ _ c.requires.1 c.requires.2 c.args.out.now c.requires.3 c.if-start-end.false c.if-end-r.true c.before_into-n.ensures c.covered_into-k.ensures c.bare_into.ensures

pub covered_into-k-requires-2 : goal.covered_into-k-requires-2
covered_into-k-requires-2 c = range_covers c.requires.0 _ _ _ c.requires.1 c.requires.2 c.args.out.now c.requires.3 c.if-start-end.false c.if-end-r.false c.before_into-n.ensures

pub rest_into-requires-2 : goal.rest_into-requires-2
rest_into-requires-2 c = range_rest c.requires.0 _ _ _ c.requires.1 c.requires.2 c.args.out.now c.requires.3 c.if-start-end.false c.if-end-r.false c.before_into-n.ensures c.covered_into-k-2.ensures

pub returns : goal.returns
returns c = range_done c.requires.0 _ _ _ c.requires.1 c.requires.2 c.args.out.now c.requires.3 c.if-start-end.false c.if-end-r.false c.before_into-n.ensures c.covered_into-k-2.ensures c.rest_into-2.ensures
