-- Tests on numbers, read as the facts that they state: `simp reads` turns a test that is true into facts for `omega`,
-- in the goal or in what it assumes, one case for each `||` that is assumed. Assumes nothing.
use Prim.Native.Nat.{ℕ, ◌≤◌}
use mathlib.Core.Path.{◌≡◌, refl, sym}
use mathlib.Core.Logic.{◌↔◌, ◌⊎◌, inl, inr, ⊎_elim}
use mathlib.Core.Bool.{Bool, true, false, ◌&&◌, ◌||◌, false≢true, and-eq-true_iff}
use borrow.Author.Tests.{eq-eqb, eqb-true, le-leb, leb-true}
use lib.Dec.{leb, eqb}

pub leb_reads : (m n : ℕ) → (leb m n ≡ true) ↔ (m ≤ n)
leb_reads m n = (leb-true m n, le-leb m n)

pub eqb_reads : (m n : ℕ) → (eqb m n ≡ true) ↔ (m ≡ n)
eqb_reads m n = (eqb-true m n, eq-eqb m n)

-- what follows from either of two tests
pub or_reads : (p q : Bool) (G : Type 0) → ((p || q) ≡ true → G) ↔ ((p ≡ true → G) × (q ≡ true → G))
or_reads true q G = (λ f. (f, λ e. f refl), λ f. f.0)
or_reads false q G = (λ f. (λ e. absurd (false≢true e), f), λ f. f.1)

pub ruleset reads = (and-eq-true_iff, leb_reads, eqb_reads, or_reads)

-- one of two tests, as a goal: `simp or_is (inl ..)`, `simp or_is (inr ..)`
pub or_is : (p q : Bool) → ((p || q) ≡ true) ↔ ((p ≡ true) ⊎ (q ≡ true))
or_is true q = (inl, λ e. refl)
or_is false q = (inr, ⊎_elim (λ e. absurd (false≢true e)) (λ e. e))

-- a test that cannot be true is false
pub untrue : (b : Bool) → (b ≡ true → ⊥) → b ≡ false
untrue true h = absurd (h refl)
untrue false h = refl

-- two tests of which neither is true
pub neither : (p q : Bool) → (p || q) ≡ false → (p ≡ false) × (q ≡ false)
neither true q h = absurd (false≢true (sym h))
neither false q h = (refl, h)

-- two tests that are both true
pub both : (p q : Bool) → (p && q) ≡ true → (p ≡ true) × (q ≡ true)
both true q h = (refl, h)
both false q h = absurd (false≢true h)
