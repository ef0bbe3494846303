-- The stores of a character's bytes and numbers, of a value for the character before, and of cells. Assumes nothing.
use Prim.Native.Nat.{ℕ, zero, suc, ◌+◌, ◌-◌, ◌*◌, ◌≤◌, ◌<◌}
use native.Mathlib.Nat.{add-zero, mul-le-mul_right}
use mathlib.Core.Path.{◌≡◌, refl, sym, ap, ◌∙◌}
use mathlib.Core.Bool.{Bool, true, false}
use mathlib.Core.List.{List, [], ◌∷◌, ◌++◌}
use native.Mathlib.Omega.{arith}
use lib.ListN.{length, get_or, set, replicate, length-append, length-set, length-replicate}
use Rattle.laws.specs.Put.{put, length_put}
use Rattle.read_counts.specs.declared.Counts.{Counts}
use Rattle.read_counts.specs.Counts.{Small, opened}
use Rattle.read_stores.specs.Stores.{later, spot, place, open_cell, absent_cells, row_cells, kept, Narrow}

next : (n : ℕ) → n + 1 + 1 ≡ n + 2
next n = omega arith

next2 : (n : ℕ) → n + 2 + 1 ≡ n + 3
next2 n = omega arith

-- ---- a character's bytes
module _ (d : List ℕ) (at : ℕ) where
  pub copied_one : (x : List ℕ) → length x ≡ 1 → set d at (get_or x 0 0) ≡ put d at x
  copied_one [] e = cc
  copied_one (v ∷ []) e = refl
  copied_one (v ∷ w ∷ x) e = cc

  pub copied_two : (x : List ℕ) → length x ≡ 2 → set (set d at (get_or x 0 0)) (at + 1) (get_or x 1 0) ≡ put d at x
  copied_two [] e = cc
  copied_two (v ∷ []) e = cc
  copied_two (v ∷ w ∷ []) e = refl
  copied_two (v ∷ w ∷ u ∷ x) e = cc

  pub copied_three : (x : List ℕ) → length x ≡ 3 → set (set (set d at (get_or x 0 0)) (at + 1) (get_or x 1 0)) (at + 2) (get_or x 2 0) ≡ put d at x
  copied_three [] e = cc
  copied_three (v ∷ []) e = cc
  copied_three (v ∷ w ∷ []) e = cc
  copied_three (v ∷ w ∷ u ∷ []) e = rw (next at)
  copied_three (v ∷ w ∷ u ∷ t ∷ x) e = cc

  pub copied_four : (x : List ℕ) → length x ≡ 4
      → set (set (set (set d at (get_or x 0 0)) (at + 1) (get_or x 1 0)) (at + 2) (get_or x 2 0)) (at + 3) (get_or x 3 0) ≡ put d at x
  copied_four [] e = cc
  copied_four (v ∷ []) e = cc
  copied_four (v ∷ w ∷ []) e = cc
  copied_four (v ∷ w ∷ u ∷ []) e = cc
  copied_four (v ∷ w ∷ u ∷ t ∷ []) e = rw (next at, next2 at)
  copied_four (v ∷ w ∷ u ∷ t ∷ s ∷ x) e = cc

-- ---- a character's number, and 0 at its other bytes
module _ (d : List ℕ) (n b len : ℕ) where
  pub numbered_one : len ≡ 1 → set d b n ≡ put d b (n ∷ replicate (len - 1) 0)
  numbered_one e = rw e

  pub numbered_two : len ≡ 2 → set (set d b n) (b + 1) 0 ≡ put d b (n ∷ replicate (len - 1) 0)
  numbered_two e = rw e

  pub numbered_three : len ≡ 3 → set (set (set d b n) (b + 1) 0) (b + 2) 0 ≡ put d b (n ∷ replicate (len - 1) 0)
  numbered_three e = rw (e, next b)

  pub numbered_four : 1 ≤ len → len ≤ 4 → (len ≡ 1 → ⊥) → (len ≡ 2 → ⊥) → (len ≡ 3 → ⊥)
      → set (set (set (set d b n) (b + 1) 0) (b + 2) 0) (b + 3) 0 ≡ put d b (n ∷ replicate (len - 1) 0)
  numbered_four k l e₁ e₂ e₃ =
      let e : len ≡ 4 = omega arith in
      rw (e, next b, next2 b)

-- ---- a value for the character before
pub later_none : (n v : ℕ) → n ≤ 0 → later n v ≡ []
unfolding later
later_none zero v h = refl
later_none (suc n) v h = absurd (omega arith)

pub later_some : (n v : ℕ) → 0 < n → later n v ≡ v ∷ []
unfolding later
later_some zero v h = absurd (omega arith)
later_some (suc n) v h = refl

-- ---- a value at each place from m up to n, those before i stored in d of what d₀ was
record Repeating (d₀ d : List ℕ) (m n v i : ℕ) : Type 0 where
  same : put d₀ m (replicate (n - m) v) ≡ put d i (replicate (n - i) v)

repeat_more : (d₀ d : List ℕ) (m n v i : ℕ) → i < n → Repeating d₀ d m n v i → Repeating d₀ (set d i v) m n v (i + 1)
repeat_more d₀ d m n v i h r =
    let e : n - i ≡ suc (n - (i + 1)) = omega arith in
    record { same = r.same ∙ ap (λ (j : ℕ). put d i (replicate j v)) e }

repeat_done : (d₀ d : List ℕ) (m n v i : ℕ) → n ≤ i → Repeating d₀ d m n v i → d ≡ put d₀ m (replicate (n - m) v)
repeat_done d₀ d m n v i h r =
    let e : n - i ≡ 0 = omega arith in
    sym (rw e at r.same)

-- absent cells from m up to n, those before i stored in both lists; g is where they start
pub record Absenting (b₀ l₀ b l : List ℕ) (g m n i : ℕ) : Type 0 where
  starts : Repeating b₀ b m n g i
  lengths : Repeating l₀ l m n 0 i
  pub starts_long : length b ≡ length b₀
  pub lengths_long : length l ≡ length l₀

pub absent_start : (b l : List ℕ) (g m n : ℕ) → Absenting b l b l g m n m
absent_start b l g m n = record { starts = record { same = refl }; lengths = record { same = refl }; starts_long = refl; lengths_long = refl }

module _ (b₀ l₀ b l : List ℕ) (g m n i : ℕ) (r : Absenting b₀ l₀ b l g m n i) where
  pub absent_more : i < n → Absenting b₀ l₀ (set b i g) (set l i 0) g m n (i + 1)
  absent_more h =
      record {
        starts = repeat_more b₀ b m n g i h r.starts;
        lengths = repeat_more l₀ l m n 0 i h r.lengths;
        starts_long = length-set b i g ∙ r.starts_long;
        lengths_long = length-set l i 0 ∙ r.lengths_long;
      }

  pub absent_starts : n ≤ i → b ≡ put b₀ m (replicate (n - m) g)
  absent_starts h = repeat_done b₀ b m n g i h r.starts

  pub absent_lengths : n ≤ i → l ≡ put l₀ m (replicate (n - m) 0)
  absent_lengths h = repeat_done l₀ l m n 0 i h r.lengths

-- ---- room for the stores; the premises are as their places have them
pub later_fits : (n i m v : ℕ) → 0 < n → i + length (later n v) ≤ m → i < m
later_fits n i m v h l = omega (arith, ap length (later_some n v h))

pub kept_fits : (t : Bool) (i m : ℕ) (x : List ℕ) → t ≡ true → i + length (kept t x) ≤ m → i + length x ≤ m
unfolding kept
kept_fits t i m x e l = rw e at l

-- ---- what the stores leave, as their definitions say it
pub later_stored : (d : List ℕ) (i n v r : ℕ) → 0 < n → r ≡ v → set d i r ≡ put d i (later n v)
later_stored d i n v r h e = rw (later_some n v h, e)

pub kept_some : (d e x : List ℕ) (t : Bool) (i : ℕ) → t ≡ true → e ≡ put d i x → e ≡ put d i (kept t x)
unfolding kept
kept_some d e x t i h k = rw h k

pub kept_none : (d x : List ℕ) (t : Bool) (i : ℕ) → t ≡ false → d ≡ put d i (kept t x)
unfolding kept
kept_none d x t i h = rw h

-- ---- cells
-- where n characters were read, the next cell goes behind those of all but the last
pub spot_none : (c n t : ℕ) → n ≡ 0 → 0 ≡ spot c n t
unfolding spot
spot_none c n t e = rw e

pub spot_some : (c n t : ℕ) → (n ≡ 0 → ⊥) → (n - 1) * c + t ≡ spot c n t
unfolding spot
spot_some c zero t h = absurd (h refl)
spot_some c (suc n) t h = let e : suc n - 1 ≡ n = omega arith in rw e

-- the cells of one more character
rows_next : (n c : ℕ) → (n ≡ 0 → ⊥) → n * c ≡ (n - 1) * c + c
rows_next zero c h = absurd (h refl)
rows_next (suc n) c h = let e : suc n - 1 ≡ n = omega arith in rw e (omega arith)

-- cells are as many as a number can be
module _ (c : ℕ) (k : Counts) (s : Small k 4096) (w : Narrow c k) where
  cells_few : (k.n - 1) * c ≤ 16777216
  cells_few = omega (arith, w.few, mul-le-mul_right {m = k.n - 1} {n = 4096} c (omega (arith, s.n_small)))

  pub rows_small : (k.n - 1) * c < 18446744073709551616
  rows_small = omega (arith, cells_few)

  pub all_small : (k.n ≡ 0 → ⊥) → k.n * c < 18446744073709551616
  all_small h = omega (arith, cells_few, rows_next k.n c h, w.few)

  pub spot_small : (k.n - 1) * c + k.tags < 18446744073709551616
  spot_small = omega (arith, cells_few, s.tags_small)

-- the open tag's cell is stored where there is one
pub cell_fits : (t : Bool) (i m : ℕ) → t ≡ true → i + opened t ≤ m → i < m
unfolding opened
cell_fits t i m e h = omega (arith, rw e at h)

pub cell_open : (d : List ℕ) (t : Bool) (i v r : ℕ) → t ≡ true → r ≡ v → set d i r ≡ put d i (kept t (v ∷ []))
unfolding kept
cell_open d t i v r e q = rw (e, q)

pub next_open : (t : Bool) (i : ℕ) → t ≡ true → i + 1 ≡ i + opened t
unfolding opened
next_open t i e = rw e

pub next_closed : (t : Bool) (i : ℕ) → t ≡ false → i ≡ i + opened t
unfolding opened
next_closed t i e = rw e (omega arith)

length_kept : (t : Bool) (v : ℕ) → length (kept t (v ∷ [])) ≡ opened t
unfolding kept opened
length_kept true v = refl
length_kept false v = refl

module _ (n : ℕ) (o : Bool) (v : ℕ) where
  open_kept : 0 < n → open_cell n o v ≡ kept o (v ∷ [])
  unfolding open_cell kept
  open_kept h = on n o h
    where
      on : (m : ℕ) (b : Bool) → 0 < m → open_cell m b v ≡ kept b (v ∷ [])
      on zero b h = absurd (omega arith)
      on (suc m) true h = refl
      on (suc m) false h = refl

  pub none_stored : (d : List ℕ) (i : ℕ) → n ≤ 0 → d ≡ put d i (open_cell n o v)
  unfolding open_cell
  none_stored d i e = let z : n ≡ 0 = omega arith in rw z

  pub open_fits : (i p m : ℕ) → p ≡ i → 0 < n → i + length (open_cell n o v) ≤ m → p + opened o ≤ m
  open_fits i p m q h l = omega (arith, ap length (open_kept h), length_kept o v)

  pub open_stored : (d e : List ℕ) (i p : ℕ) → p ≡ i → 0 < n → e ≡ put d p (kept o (v ∷ [])) → e ≡ put d i (open_cell n o v)
  open_stored d e i p q h w = rw (open_kept h, ← q) w

pub put_append : (xs ys d : List ℕ) (i : ℕ) → put d i (xs ++ ys) ≡ put (put d i xs) (i + length xs) ys
put_append [] ys d i = rw add-zero
put_append (x ∷ xs) ys d i = put_append xs ys (set d i x) (i + 1) ∙ rw same
  where
    same : i + 1 + length xs ≡ i + suc (length xs)
    same = omega arith

-- the rest of a row ends where the cells of all characters that were read end
module _ (c v z : ℕ) (k : Counts) (h : k.n ≡ 0 → ⊥) (w : Narrow c k) where
  row_end : k.n * c ≡ place c k + opened k.tag + (c - (k.tags + opened k.tag))
  row_end = omega (arith, spot_some c k.n k.tags h, rows_next k.n c h, w.fits)

  row_parts : row_cells c v z k ≡ kept k.tag (v ∷ []) ++ replicate (c - (k.tags + opened k.tag)) z
  unfolding row_cells absent_cells
  row_parts = on k.n h
    where
      on : (n : ℕ) → (n ≡ 0 → ⊥) → open_cell n k.tag v ++ absent_cells n (c - (k.tags + opened k.tag)) z ≡ kept k.tag (v ∷ []) ++ replicate (c - (k.tags + opened k.tag)) z
      on zero h = absurd (h refl)
      on (suc n) h = rw (open_kept (suc n) k.tag v (omega arith))

  row_long : length (row_cells c v z k) ≡ opened k.tag + (c - (k.tags + opened k.tag))
  row_long = ap length row_parts ∙ rw (length-append, length-replicate, length_kept)

  pub row_first : (p m : ℕ) → p ≡ place c k → place c k + length (row_cells c v z k) ≤ m → p + opened k.tag ≤ m
  row_first p m q l = omega (arith, row_long)

  pub row_rest : (p : ℕ) (d e : List ℕ) → e ≡ put d p (kept k.tag (v ∷ [])) → place c k + length (row_cells c v z k) ≤ length d → k.n * c ≤ length e
  row_rest p d e u l = omega (arith, row_long, row_end, ap length u, length_put (kept k.tag (v ∷ [])) d p)

  pub row_stored : (p r : ℕ) (d e f : List ℕ) → p ≡ place c k → r ≡ p + opened k.tag → e ≡ put d p (kept k.tag (v ∷ [])) → f ≡ put e r (replicate (k.n * c - r) z)
      → f ≡ put d (place c k) (row_cells c v z k)
  row_stored p r d e f q s u x = apart ∙ sym (put_append (kept k.tag (v ∷ [])) rest d (place c k)) ∙ ap (put d (place c k)) (sym row_parts)
    where
      rest : List ℕ
      rest = replicate (c - (k.tags + opened k.tag)) z

      left : k.n * c - r ≡ c - (k.tags + opened k.tag)
      left = omega (arith, row_end)

      apart : f ≡ put (put d (place c k) (kept k.tag (v ∷ []))) (place c k + length (kept k.tag (v ∷ []))) rest
      apart = rw (x, left, s, u, q, length_kept)

-- ---- a row that has no cells: there are no columns, or no character was read
module _ (c v z : ℕ) (k : Counts) (d : List ℕ) (i : ℕ) where
  pub bare_stored : c ≡ 0 → Narrow c k → d ≡ put d i (row_cells c v z k)
  unfolding row_cells open_cell absent_cells opened
  bare_stored e h = ap (put d i) (sym (on k.tag k.n (omega (arith, h.fits))))
    where
      on : (t : Bool) (n : ℕ) → opened t ≤ 0 → open_cell n t v ++ absent_cells n (c - (k.tags + opened t)) z ≡ []
      on t zero l = refl
      on true (suc n) l = absurd (omega arith)
      on false (suc n) l = let f : c - (k.tags + 0) ≡ 0 = omega arith in rw f

  pub first_stored : k.n ≡ 0 → d ≡ put d i (row_cells c v z k)
  unfolding row_cells open_cell absent_cells
  first_stored e = rw e

-- ---- what each function cites
pub ruleset copies = (copied_one, copied_two, copied_three, copied_four)

pub ruleset numbers = (numbered_one, numbered_two, numbered_three, numbered_four)

pub ruleset laters = (later_none, later_fits, later_stored)

pub ruleset places = (spot_none, spot_some, rows_small, spot_small)

pub ruleset cells = (cell_fits, cell_open, next_open, next_closed, kept_none)

pub ruleset ends = (none_stored, open_fits, open_stored)

pub ruleset rows = (bare_stored, first_stored, row_first, row_rest, row_stored, all_small)

pub ruleset keeps = (kept_fits, kept_none, kept_some)
