-- What holds of a thing wherever it holds of all that is smaller holds of every thing. Assumes nothing.
use Prim.Native.Nat.{ℕ, zero, suc, ◌<◌}
use native.Mathlib.Omega.{arith}

module _ {A : Type 0} (size : A → ℕ) (P : A → Type 0) (step : (x : A) → ((y : A) → size y < size x → P y) → P x) where
  below : (k : ℕ) (x : A) → size x < k → P x
  below zero x h = absurd (omega arith)
  below (suc k) x h = step x (λ y l. below k y (omega arith))

  pub by_size : (x : A) → P x
  by_size x = below (suc (size x)) x (omega arith)
