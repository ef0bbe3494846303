-- The characters of a text, one at a time. Assumes nothing.
use Prim.Native.Nat.{ℕ, zero, suc, ◌≤◌}
use native.Mathlib.Omega.{arith}
use mathlib.Core.Path.{◌≡◌, refl, ap}
use mathlib.Core.List.{List, [], ◌∷◌}
use lib.ListN.{drop}
use Rattle.utf8.specs.declared.Decoded.{Decoded}
use Rattle.utf8.specs.declared.Decoded.TheVariants.{Char, Bad, End}
use Rattle.utf8.specs.Utf8.{char_at, walk, chars}

walk_skip : (k : ℕ) (s : List ℕ) → walk k s ≡ chars (drop k s)
unfolding walk
walk_skip zero s = refl
walk_skip (suc k) [] = refl
walk_skip (suc k) (b ∷ s) = walk_skip k s

pub walk_char : (s : List ℕ) (v n : ℕ) → char_at s ≡ Char v n → 1 ≤ n → chars s ≡ Char v n ∷ chars (drop n s)
unfolding walk
walk_char [] v n e h = cc
walk_char (b ∷ s) v zero e h = absurd (omega arith)
walk_char (b ∷ s) v (suc n) e h = rw (e, walk) (ap (λ (r : List Decoded). Char v (suc n) ∷ r) (walk_skip n s))

pub walk_bad : (s : List ℕ) → char_at s ≡ Bad → chars s ≡ Bad ∷ []
unfolding walk
walk_bad [] e = cc
walk_bad (b ∷ s) e = rw (e, walk)

pub walk_end : (s : List ℕ) → char_at s ≡ End → chars s ≡ []
unfolding walk
walk_end [] e = refl
walk_end (b ∷ s) e = rw (e, walk)
