-- `changes::unchecked::reset_tags` meets its contract.
use Prim.Native.Nat.{ℕ, ◌≤◌}
use native.Mathlib.Omega.{arith}
use mathlib.Core.Path.{◌≡◌}
use mathlib.Core.List.{List, ◌++◌}
use lib.ListN.{length, take, drop, replicate, length-take}
use Rattle.changes.proofs.Kept.{reset_lays}
use Rattle.changes.proofs.unchecked.reset_tags.Goals as goal

-- the first n cells are filled with 0
cleared : (n : ℕ) (cells front : List ℕ) → n ≤ length cells → front ≡ replicate (length (take n cells)) 0 → front ++ drop n cells ≡ replicate n 0 ++ drop n cells
cleared n cells front h e =
    let l : length (take n cells) ≡ n = omega (arith, length-take n cells) in
    rw (e, l)

pub returns : goal.returns
returns c =
    reset_lays c.requires.0 _ _ _
    (cleared _ _ _ c.requires.2 (c.fill.ensures.after (λ y e. e)))
    (cleared _ _ _ c.requires.3 (c.fill-2.ensures.after (λ y e. e)))
