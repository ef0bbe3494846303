-- What the ranges from the i-th on say of a code point is what all of them say.
use mathlib.Core.Path.{◌≡◌}
use mathlib.Core.List.{List}
use Prim.Native.Nat.{ℕ, ◌≤◌}
use lib.ListN.{length, drop}
use Rattle.types.specs.TypeOf.{find, type_of}
use Rattle.types.specs.declared.ranges.Row.{Row}
use Rattle.types.proofs.ranges.scan.Given as goal

-- the scan for c is at row i of rs
pub record Scanning (rs : List Row) (c i : ℕ) : Type 0 where
  pub in_rows : i ≤ 18
  pub long : length rs ≡ 18
  pub same : find (drop i rs) c ≡ type_of c

abbrev pub invariant-loop-first : goal.invariant-loop-first
invariant-loop-first l = Scanning l.first-items l.c l.first-index
