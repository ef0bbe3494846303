-- Cells that follow one another: how many tag bytes stand before each, and how many of a row's cells are listed. Assumes nothing.
use Prim.Native.Nat.{ℕ, zero, suc, ◌+◌, ◌-◌, ◌*◌, ◌≤◌, ◌<◌}
use mathlib.Core.Path.{◌≡◌, refl, sym, ◌∙◌}
use mathlib.Core.List.{List}
use mir.Val.{Fits}
use mir.Syntax.{w64}
use native.Mathlib.Nat.{add-zero}
use native.Mathlib.Numerals.{add-one}
use native.Mathlib.Omega.{arith}
use borrow.Author.Tests.{eq-eqb, ne_eqb, eqb-true}
use lib.Dec.{eqb}
use lib.ListN.{get_or}
use Rattle.laws.specs.If.{if_true, if_false, if_cases}
use Rattle.write_items.specs.Items.{used_at, count_at, bytes_to, Follow, Lie}

-- ---- fewer cells
pub fewer : {ss ls : List ℕ} {n : ℕ} (k : ℕ) → k ≤ n → Follow ss ls n → Follow ss ls k
fewer k l h = record {
  few = omega (arith, h.few);
  starts = omega (arith, h.starts);
  lengths = omega (arith, h.lengths);
  follows = λ j m. h.follows j (omega arith);
}

pub fewer_lie : {ss ls : List ℕ} {n top : ℕ} (k : ℕ) → k ≤ n → Lie ss ls n top → Lie ss ls k top
fewer_lie k l h = record { cells = fewer k l h.cells; within = λ j m. h.within j (omega arith) }

-- ---- the bytes before a cell
module _ (ss ls : List ℕ) where
  pub bytes_next : (k : ℕ) → bytes_to ss ls (k + 1) ≡ get_or ss k 0 + get_or ls k 0
  bytes_next k = rw add-one

  -- one cell more
  bytes_more : (k n : ℕ) → Follow ss ls (k + suc n) → bytes_to ss ls (k + suc n) ≡ bytes_to ss ls (k + n) + get_or ls (k + n) 0
  bytes_more k n h = let e : k + suc n ≡ suc (k + n) = omega arith in rw e (omega (arith, h.follows (k + n) (omega arith)))

  pub bytes_rise : (k n : ℕ) → Follow ss ls (k + n) → bytes_to ss ls k ≤ bytes_to ss ls (k + n)
  bytes_rise k zero h = rw add-zero (omega arith)
  bytes_rise k (suc n) h = omega (arith, bytes_more k n h, bytes_rise k n (fewer (k + n) (omega arith) h))

-- ---- how many of n cells from the k-th on are listed
module _ (ls : List ℕ) (k : ℕ) where
  pub used_few : (n : ℕ) → used_at ls k n ≤ n
  unfolding used_at
  used_few zero = omega arith
  used_few (suc n) = if_cases (λ (x : ℕ). x ≤ suc n) (eqb (get_or ls (k + n) 0) 0) (used_at ls k n) (suc n) (λ e. omega (arith, used_few n)) (λ e. omega arith)

  -- the last has no length, or it has one
  pub used_skip : (n : ℕ) → get_or ls (k + n) 0 ≡ 0 → used_at ls k (suc n) ≡ used_at ls k n
  unfolding used_at
  used_skip n e = if_true (eqb (get_or ls (k + n) 0) 0) (used_at ls k n) (suc n) (eq-eqb (get_or ls (k + n) 0) 0 e)

  pub used_stop : (n : ℕ) → (get_or ls (k + n) 0 ≡ 0 → ⊥) → used_at ls k (suc n) ≡ suc n
  unfolding used_at
  used_stop n e = if_false (eqb (get_or ls (k + n) 0) 0) (used_at ls k n) (suc n) (ne_eqb (get_or ls (k + n) 0) 0 e)

  module _ (ss : List ℕ) where
    -- behind them no bytes follow
    pub used_bytes : (n : ℕ) → Follow ss ls (k + n) → bytes_to ss ls (k + used_at ls k n) ≡ bytes_to ss ls (k + n)
    unfolding used_at
    used_bytes zero h = refl
    used_bytes (suc n) h = if_cases (λ (x : ℕ). bytes_to ss ls (k + x) ≡ bytes_to ss ls (k + suc n)) (eqb (get_or ls (k + n) 0) 0) (used_at ls k n) (suc n)
        (λ e. omega (arith, used_bytes n (fewer (k + n) (omega arith) h), bytes_more ss ls k n h, eqb-true (get_or ls (k + n) 0) 0 e))
        (λ e. refl)

    -- none is listed where they have no bytes
    pub used_none : (n : ℕ) → Follow ss ls (k + n) → bytes_to ss ls (k + n) ≤ bytes_to ss ls k → used_at ls k n ≡ 0
    unfolding used_at
    used_none zero h l = refl
    used_none (suc n) h l =
        let f = fewer (k + n) (omega arith) h in
        let z : get_or ls (k + n) 0 ≡ 0 = omega (arith, bytes_more ss ls k n h, bytes_rise ss ls k n f) in
        used_skip n z ∙ used_none n f (omega (arith, bytes_more ss ls k n h))

-- ---- a row of m cells
pub count_empty : (ls : List ℕ) (m i : ℕ) → m ≡ 0 → 0 ≡ count_at ls m i
count_empty ls m i z = omega (arith, used_few ls (i * m) m)

module _ {ss ls : List ℕ} (m i : ℕ) (h : Follow ss ls (i * m + m)) where
  pub count_end : {c : ℕ} → c ≡ count_at ls m i → Fits w64 (i * m + c)
  count_end e = omega (arith, h.few, used_few ls (i * m) m)

  -- its last cell starts where its first does, and has no length
  pub count_none : (m ≡ 0 → ⊥) → get_or ls (i * m + (m - 1)) 0 ≤ 0 → get_or ss (i * m) 0 ≡ get_or ss (i * m + (m - 1)) 0 → 0 ≡ count_at ls m i
  count_none z a e =
      let q : i * m + m ≡ suc (i * m + (m - 1)) = omega arith in
      let t : bytes_to ss ls (i * m + m) ≡ get_or ss (i * m + (m - 1)) 0 + get_or ls (i * m + (m - 1)) 0 = rw q in
      sym (used_none ls (i * m) ss m h (omega (arith, t, a, e, h.follows (i * m) (omega arith))))

-- ---- a loop that looks for the last listed cell: it is among the first n
pub record Looking (ls : List ℕ) (k m n : ℕ) : Type 0 where
  pub upto : n ≤ m
  pub same : used_at ls k n ≡ used_at ls k m

look_start : {ls : List ℕ} {k : ℕ} (m : ℕ) → Looking ls k m m
look_start m = record { upto = omega arith; same = refl }

module _ {ls : List ℕ} {k m n : ℕ} (t : Looking ls k m n) where
  one_less : 0 < n → suc (n - 1) ≡ n
  one_less l = omega arith

  pub look_found : 0 < n → 0 < get_or ls (k + (n - 1)) 0 → n ≡ used_at ls k m
  look_found l g = let e = one_less l in sym (rw e at (used_stop ls k (n - 1) (λ z. omega arith))) ∙ t.same

  pub look_next : 0 < n → get_or ls (k + (n - 1)) 0 ≤ 0 → Looking ls k m (n - 1)
  look_next l g = let e = one_less l in record { upto = omega (arith, t.upto); same = sym (rw e at (used_skip ls k (n - 1) (omega arith))) ∙ t.same }

  pub look_done : n ≤ 0 → 0 ≡ used_at ls k m
  unfolding used_at
  look_done l = let z : n ≡ 0 = omega arith in rw z at t.same

-- its last cell alone tells where it has a length, or is the first that is passed over
pub look_whole : (ls : List ℕ) (k m : ℕ) → (m ≡ 0 → ⊥) → 0 < get_or ls (k + (m - 1)) 0 → m ≡ used_at ls k m
look_whole ls k m z g = look_found (look_start {ls = ls} {k = k} m) (omega arith) g

pub look_first : (ls : List ℕ) (k m : ℕ) → (m ≡ 0 → ⊥) → get_or ls (k + (m - 1)) 0 ≤ 0 → Looking ls k m (m - 1)
look_first ls k m z g = look_next (look_start {ls = ls} {k = k} m) (omega arith) g

pub ruleset looking = (look_whole, look_first, look_found, look_next, look_done)
