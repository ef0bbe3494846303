-- `exports::store` meets its contract.
use Rattle.exports.proofs.Told.{stored}
use Prim.Native.Nat.{◌<◌}
use native.Mathlib.Omega.{arith}
use lib.ListN.{length}
use borrow.Author.Rules.{rules}
use Rattle.exports.proofs.store.Goals as goal

pub bounds-numbers-1 : goal.bounds-numbers-1
bounds-numbers-1 c = let h : 1 < length c.args.numbers.now = omega (arith, c.requires) in search (rules, h)

pub bounds-numbers-2 : goal.bounds-numbers-2
bounds-numbers-2 c = let h : 2 < length c.args.numbers.now = omega (arith, c.requires) in search (rules, h)

pub bounds-numbers-3 : goal.bounds-numbers-3
bounds-numbers-3 c = let h : 3 < length c.args.numbers.now = omega (arith, c.requires) in search (rules, h)

pub returns : goal.returns
returns c = search stored
