-- `write_partial::unchecked::shown_len` meets its contract.
use native.Mathlib.Omega.{arith}
use Rattle.sheet.proofs.Look.{bounds}
use Rattle.write_partial.proofs.Whole.{whole_measures, whole_long, before_measures, range_text, end_sum, rest_measures, within_sum}
use Rattle.write_partial.proofs.unchecked.shown_len.Goals as goal

pub overflow_sub-last : goal.overflow_sub-last
overflow_sub-last c = omega (arith, bounds c.requires.0)

pub rest_len-requires : goal.rest_len-requires
rest_len-requires c = whole_measures c.requires.0 _ _ _ c.requires.1 c.if-start-end.true

pub returns-then-start-end : goal.returns-then-start-end
returns-then-start-end c = whole_long c.requires.0 _ _ _ c.requires.1 c.if-start-end.true c.rest_len.ensures

pub before_len-before-requires : goal.before_len-before-requires
before_len-before-requires c = before_measures c.requires.0 _ _ _ c.requires.1 c.if-start-end.false

pub text_len-bytes-requires : goal.text_len-bytes-requires
text_len-bytes-requires c = range_text c.requires.0 _ _ _ c.requires.1 c.if-start-end.false

pub overflow_add-result : goal.overflow_add-result
overflow_add-result c = let z = end_sum c.requires.0 _ _ _ c.requires.1 c.if-start-end.false c.if-end-r.true c.before_len-before.ensures c.text_len-bytes.ensures in omega (arith, z.1)

pub overflow_sub-result : goal.overflow_sub-result
overflow_sub-result c = omega (arith, c.requires.1.ordered, c.requires.1.inside, c.if-end-r.true, c.if-start-end.false)

pub overflow_add-result-then-end-r : goal.overflow_add-result-then-end-r
overflow_add-result-then-end-r c = let z = end_sum c.requires.0 _ _ _ c.requires.1 c.if-start-end.false c.if-end-r.true c.before_len-before.ensures c.text_len-bytes.ensures in omega (arith, z.1)

pub overflow_add-result-then-end-r-2 : goal.overflow_add-result-then-end-r-2
overflow_add-result-then-end-r-2 c = let z = end_sum c.requires.0 _ _ _ c.requires.1 c.if-start-end.false c.if-end-r.true c.before_len-before.ensures c.text_len-bytes.ensures in omega (arith, z.1)

pub returns-then-end-r : goal.returns-then-end-r
returns-then-end-r c = let z = end_sum c.requires.0 _ _ _ c.requires.1 c.if-start-end.false c.if-end-r.true c.before_len-before.ensures c.text_len-bytes.ensures in z.0

pub rest_len-rest-requires : goal.rest_len-rest-requires
rest_len-rest-requires c = rest_measures c.requires.0 _ _ _ c.requires.1 c.if-start-end.false c.if-end-r.false

pub overflow_add-result-2 : goal.overflow_add-result-2
overflow_add-result-2 c = let z = within_sum c.requires.0 _ _ _ c.requires.1 c.if-start-end.false c.if-end-r.false c.before_len-before.ensures c.text_len-bytes.ensures c.rest_len-rest.ensures in omega (arith, z.1)

pub overflow_sub-result-2 : goal.overflow_sub-result-2
overflow_sub-result-2 c = omega (arith, c.requires.1.ordered)

pub overflow_add-result-3 : goal.overflow_add-result-3
overflow_add-result-3 c = let z = within_sum c.requires.0 _ _ _ c.requires.1 c.if-start-end.false c.if-end-r.false c.before_len-before.ensures c.text_len-bytes.ensures c.rest_len-rest.ensures in omega (arith, z.1)

pub overflow_add-result-4 : goal.overflow_add-result-4
overflow_add-result-4 c = let z = within_sum c.requires.0 _ _ _ c.requires.1 c.if-start-end.false c.if-end-r.false c.before_len-before.ensures c.text_len-bytes.ensures c.rest_len-rest.ensures in omega (arith, z.1)

pub returns : goal.returns
returns c = let z = within_sum c.requires.0 _ _ _ c.requires.1 c.if-start-end.false c.if-end-r.false c.before_len-before.ensures c.text_len-bytes.ensures c.rest_len-rest.ensures in z.0
