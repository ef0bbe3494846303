-- `respelling::unchecked::decimal::put_number` meets its contract: a number of 64 bits has at most 20 digits.
use native.Mathlib.Omega.{arith}
use Rattle.respelling.proofs.Digits.{decimal_short, put_end}
use Rattle.respelling.proofs.unchecked.decimal.put_number.Goals as goal

pub put_decimal-k-requires : goal.put_decimal-k-requires
put_decimal-k-requires c = omega (arith, decimal_short c.args.n c.ranges.n)

pub bounds-out-k : goal.bounds-out-k
bounds-out-k c = omega (arith, decimal_short c.args.n c.ranges.n)

pub overflow_add-result : goal.overflow_add-result
overflow_add-result c = omega (arith, decimal_short c.args.n c.ranges.n)

pub returns : goal.returns
returns c =
    let l = decimal_short c.args.n c.ranges.n in
    record { puts = put_end c.args.n c.args.b l c.requires c.put_decimal-k.ensures; upper_bound = omega (arith, l) }
