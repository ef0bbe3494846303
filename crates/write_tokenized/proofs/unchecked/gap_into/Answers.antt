-- `write_tokenized::unchecked::gap_into` meets its contract.
use mathlib.Core.Path.{refl}
use native.Mathlib.Omega.{arith}
use Rattle.write_tokenized.specs.Gaps.{gap}
use Rattle.write_tokenized.proofs.unchecked.gap_into.Goals as goal

pub bounds-out-at : goal.bounds-out-at
unfolding gap
bounds-out-at c = let h = rw c.if-some.true at c.requires in omega arith

pub returns-then-some : goal.returns-then-some
unfolding gap
returns-then-some c = rw c.if-some.true (record { bytes = refl; end = refl })

pub returns : goal.returns
unfolding gap
returns c = rw c.if-some.false (record { bytes = refl; end = omega arith })
