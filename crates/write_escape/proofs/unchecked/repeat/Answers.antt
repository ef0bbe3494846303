-- `write_escape::unchecked::repeat` meets its contract.
use Prim.Native.Nat.{◌+◌, ◌-◌}
use mathlib.Core.Path.{◌≡◌, sym}
use native.Mathlib.Omega.{arith}
use lib.ListN.{length, take, drop, replicate, length-replicate, length-take, length-drop}
use Rattle.write_escape.proofs.Bytes.{wrote_part}
use Rattle.write_escape.proofs.unchecked.repeat.Goals as goal

pub returns : goal.returns
returns c =
    let k : length (take (c.args.at + c.args.count - c.args.at) (drop c.args.at c.args.out.now)) ≡ c.args.count = grind (arith, length-take, length-drop) in
    wrote_part (replicate c.args.count c.args.b) _ c.args.out.now c.args.at _ (rw k at (c.fill.ensures.after (λ y e. e))) (sym (length-replicate c.args.count c.args.b)) c.requires
