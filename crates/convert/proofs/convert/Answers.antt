-- `convert::convert` meets its contract: 16 and 14 are tested, and the rest is the part behind the place.
use Rattle.std.specs.Prelude.{Err}
use Prim.Native.Nat.{◌+◌, ◌≤◌}
use native.Mathlib.Omega.{arith}
use mathlib.Core.Path.{◌≡◌}
use lib.ListN.{length}
use Rattle.convert.proofs.Placed.{unread, unwritten, Known, known, outside, in_range_lem, few, placed_line, placed_refusal}
use Rattle.convert.proofs.convert.Goals as goal
use Rattle.convert.proofs.convert.Goals.{In_ok-to, In_ok-n}

pub returns-in_err-from : goal.returns-in_err-from
returns-in_err-from c =
    let gone : c.from_residual.result ≡ Err c.in_err-from.field-0.0 = grind arith in
    unread _ _ _ _ _ c.try_from.ensures c.in_err-from.was gone

pub returns-in_err-to : goal.returns-in_err-to
returns-in_err-to c =
    let gone : c.from_residual-in_err-to.result ≡ Err c.in_err-to.field-0.0 = grind arith in
    unwritten _ _ _ _ _ c.to_write.ensures c.in_err-to.was gone

forms : (c : In_ok-to) → Known c.args.reader c.args.writer c.in_ok-from.from c.in_ok-to.to
forms c = known _ _ c.try_from.ensures c.in_ok-from.was c.to_write.ensures c.in_ok-to.was

pub returns-then-out_of_range : goal.returns-then-out_of_range
returns-then-out_of_range c =
    outside _ _ _ (forms (goal.at.returns-then-out_of_range c).In_ok-to) c.out_of_range.ensures c.outside.ensures c.if-out_of_range.true

pub slice_bounds-between-count : goal.slice_bounds-between-count
slice_bounds-between-count c = search in_range_lem

pub slice_bounds-between-start : goal.slice_bounds-between-start
slice_bounds-between-start c = search in_range_lem

pub between-requires : goal.between-requires
between-requires c = (forms (goal.at.between-requires c).In_ok-to).annotates

pub returns-in_err-n : goal.returns-in_err-n
returns-in_err-n c =
    let gone : c.from_residual-in_err-n.result ≡ Err c.in_err-n.field-0.0 = grind arith in
    rw gone (placed_refusal _ _ _ _ _ (forms (goal.at.returns-in_err-n c).In_ok-to) c.out_of_range.ensures c.if-out_of_range.false c.between.ensures c.in_err-n.was)

fits : (c : In_ok-n) → c.args.at + c.in_ok-n.n ≤ length c.args.out.now
fits c = few _ _ _ _ _ (known _ _ c.try_from.ensures c.in_ok-from.was c.to_write.ensures c.in_ok-to.was) c.out_of_range.ensures c.if-out_of_range.false c.between.ensures c.in_ok-n.was

pub overflow_add-result : goal.overflow_add-result
overflow_add-result c = omega (arith, fits (goal.at.overflow_add-result c).In_ok-n)

pub returns : goal.returns
returns c = placed_line _ _ _ _ _ (forms (goal.at.returns c).In_ok-to) c.out_of_range.ensures c.if-out_of_range.false c.between.ensures c.in_ok-n.was
