-- `convert_buffers::unchecked::between` meets its contract: a line is refused, or its cells are too many, or it is short, middle or long.
use Rattle.std.specs.Prelude.{Err}
use Prim.Native.Nat.{◌≤◌, ◌<◌}
use native.Mathlib.Omega.{arith}
use mathlib.Core.Path.{◌≡◌}
use lib.ListN.{length}
use Rattle.convert_buffers.proofs.Passed.{scanned_few, scanned_short, passed_full, passed_refused}
use Rattle.convert_buffers.proofs.unchecked.between.Goals as goal

pub returns-in_err-r : goal.returns-in_err-r
returns-in_err-r c =
    let gone : c.from_residual.result ≡ Err c.in_err-r.field-0.0 = grind arith in
    rw gone (passed_refused _ _ c.scan.ensures _ _ c.in_err-r.was)

pub returns-then-r-gt2048 : goal.returns-then-r-gt2048
returns-then-r-gt2048 c = passed_full _ _ c.scan.ensures _ _ c.in_ok-r.was c.if-r-gt2048.true

pub sized-requires-2 : goal.sized-requires-2
sized-requires-2 c =
    let l : length c.args.line.now ≤ 4096 = scanned_short _ _ c.scan.ensures c.in_ok-r.was in
    let n : length c.args.line.now < 4097 = omega arith in
    let a : 4097 ≤ 4097 = omega arith in
    let b : 2048 ≤ 2048 = omega arith in
    (c.requires, scanned_few _ _ c.scan.ensures c.in_ok-r.was c.if-r-gt2048.false, n, a, c.if-r-gt2048.false, b)
