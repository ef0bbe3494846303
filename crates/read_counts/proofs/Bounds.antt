-- Counts grow by no more than the bytes that go by. Assumes nothing.
use Prim.Native.Nat.{ℕ, ◌+◌, ◌*◌, ◌≤◌, ◌<◌}
use native.Mathlib.Nat.{mul-le-mul_right}
use native.Mathlib.Omega.{arith}
use mathlib.Core.Bool.{Bool, true, false}
use Rattle.sentence.specs.Reading.{Act, skip, letter, opens, of_tag}
use Rattle.read_counts.specs.declared.Counts.{Counts}
use Rattle.read_counts.specs.Counts.{nothing, opened, letters, opening, grows, tally_by, Small}

pub nothing_small : Small nothing 0
unfolding nothing opened
nothing_small = record { n_small = omega arith; b_small = omega arith; columns_small = omega arith; tags_small = omega arith; g_small = omega arith; long_small = omega arith }

pub small_more : (m n : ℕ) (k : Counts) → m ≤ n → Small k m → Small k n
small_more m n k h s = record {
  n_small = omega (arith, s.n_small);
  b_small = omega (arith, s.b_small);
  columns_small = omega (arith, s.columns_small);
  tags_small = omega (arith, s.tags_small);
  g_small = omega (arith, s.g_small);
  long_small = s.long_small;
}

grows_small : (o : Bool) (w m : ℕ) (k : Counts) → k.tags + opened o ≤ m → Small k m → Small (grows o w k) (m + w)
unfolding grows opened
grows_small true w m k h s = record {
  n_small = omega (arith, s.n_small);
  b_small = omega (arith, s.b_small);
  columns_small = omega (arith, s.columns_small);
  tags_small = omega arith;
  g_small = omega (arith, s.g_small);
  long_small = omega (arith, s.long_small);
}
grows_small false w m k h s = small_more m (m + w) k (omega arith) s

-- an act of a character of w bytes
pub tally_small : (w m : ℕ) (a : Act) (k : Counts) → 1 ≤ w → Small k m → Small (tally_by w a k) (m + w)
unfolding tally_by letters opening opened
tally_small w m skip k h s = small_more m (m + w) k (omega arith) s
tally_small w m (letter l c) k h s = record {
  n_small = omega (arith, s.n_small);
  b_small = omega (arith, s.b_small);
  columns_small = omega (arith, s.columns_small);
  tags_small = omega arith;
  g_small = omega (arith, s.g_small);
  long_small = omega arith;
}
tally_small w m opens k h s = record {
  n_small = omega (arith, s.n_small);
  b_small = omega (arith, s.b_small);
  columns_small = omega (arith, s.columns_small, s.tags_small);
  tags_small = omega (arith, s.tags_small);
  g_small = omega (arith, s.g_small);
  long_small = omega arith;
}
tally_small w m (of_tag c) k h s = grows_small k.tag w m k s.tags_small s

-- the cells are as many as a number can be
pub cells_few : (k : Counts) → Small k 4096 → k.n * k.columns < 18446744073709551616
cells_few k s = omega (arith, s.columns_small, mul-le-mul_right {m = k.n} {n = 4096} k.columns s.n_small)
