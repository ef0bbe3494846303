-- What the passes over the cells need of their tests: cells one after another, a row of them, and a row without tags. Assumes nothing.
use Prim.Native.Nat.{ℕ, zero, suc, ◌+◌, ◌-◌, ◌≤◌, ◌<◌}
use native.Mathlib.Omega.{arith}
use mathlib.Core.Path.{◌≡◌, refl, sym, ap, ◌∙◌}
use mathlib.Core.Logic.{◌⊎◌, inl, inr}
use mathlib.Core.Bool.{Bool, true, false, not, ◌&&◌, false≢true, and_assoc, and-true, and-false, and-eq-true_iff}
use mathlib.Core.List.{List, [], ◌∷◌}
use borrow.Author.Tests.{eq-eqb, eqb-true, ne_eqb, eqb-false, le-leb, lt-leb, not-true, not-false}
use lib.Dec.{eqb, eqb-suc-zero}
use lib.ListN.{length, take, drop, get_or, length-take, length-drop}
use lib.Seq.{take_all, drop-drop, get_or-drop}
use Rattle.laws.proofs.Facts.{reads, untrue}
use Rattle.utf8.specs.Utf8.{walk, wholes, values}
use Rattle.sheet_check.specs.Passes.{no_nul, is_plain, is_cell, cells_to, are_cells, are_absent, Row}
use Rattle.sheet_check.proofs.Steps.{Left, left_all}

-- ---- a cell, test by test; the premises are as `is_cell` has them
module _ (s : List ℕ) (g b l : ℕ) where
  pub cell_elsewhere : (b ≡ g → ⊥) → false ≡ is_cell s g b l
  unfolding is_cell
  cell_elsewhere h = rw (ne_eqb b g h)

  pub cell_none : b ≡ g → l ≡ 0 → g ≤ length s → true ≡ is_cell s g b l
  unfolding is_cell is_plain walk wholes values no_nul
  cell_none h e k = rw (eq-eqb b g h, e, le-leb (g + 0) (length s) (omega arith))

  pub cell_past : b ≡ g → length s < g + l → false ≡ is_cell s g b l
  unfolding is_cell
  cell_past h k = rw (eq-eqb b g h, lt-leb (g + l) (length s) k)

  pub cell_plain : (r : Bool) → b ≡ g → g + l ≤ length s → r ≡ is_plain (take (g + l - g) (drop g s)) → r ≡ is_cell s g b l
  unfolding is_cell
  cell_plain r h k p = let e : g + l - g ≡ l = omega arith in rw (eq-eqb b g h, le-leb (g + l) (length s) k) (rw e at p)

  pub cell_within : is_cell s g b l ≡ true → g + l ≤ length s
  unfolding is_cell
  cell_within = simp reads (omega arith)

-- ---- cells from byte g to byte e
module _ (s : List ℕ) (e : ℕ) where
  -- the first of these cells is one, and so are the others
  cells_first : (g b : ℕ) (bs : List ℕ) (l : ℕ) (ls : List ℕ) → cells_to s e g (b ∷ bs) (l ∷ ls) ≡ true
      → (is_cell s g b l ≡ true) × (cells_to s e (g + l) bs ls ≡ true)
  unfolding cells_to
  cells_first g b bs l ls h = (and-eq-true_iff (is_cell s g b l) (cells_to s e (g + l) bs ls)).0 h

  cells_forward : (g : ℕ) (bs ls : List ℕ) → cells_to s e g bs ls ≡ true → g ≤ e
  unfolding cells_to
  cells_forward g [] [] h = omega (arith, eqb-true g e h)
  cells_forward g [] (l ∷ ls) h = absurd (false≢true h)
  cells_forward g (b ∷ bs) [] h = absurd (false≢true h)
  cells_forward g (b ∷ bs) (l ∷ ls) h = omega (arith, cells_forward (g + l) bs ls (cells_first g b bs l ls h).1)

  cells_within : (g : ℕ) (bs ls : List ℕ) → g ≤ length s → cells_to s e g bs ls ≡ true → e ≤ length s
  unfolding cells_to
  cells_within g [] [] k h = omega (arith, eqb-true g e h)
  cells_within g [] (l ∷ ls) k h = absurd (false≢true h)
  cells_within g (b ∷ bs) [] k h = absurd (false≢true h)
  cells_within g (b ∷ bs) (l ∷ ls) k h =
      let f = cells_first g b bs l ls h in cells_within (g + l) bs ls (cell_within s g b l f.0) f.1

  cells_long : (g : ℕ) (bs ls : List ℕ) → cells_to s e g bs ls ≡ true → length bs ≡ length ls
  unfolding cells_to
  cells_long g [] [] h = refl
  cells_long g [] (l ∷ ls) h = absurd (false≢true h)
  cells_long g (b ∷ bs) [] h = absurd (false≢true h)
  cells_long g (b ∷ bs) (l ∷ ls) h = omega (arith, cells_long (g + l) bs ls (cells_first g b bs l ls h).1)

  -- the first of these cells starts at byte g
  cells_here : (g b : ℕ) (bs : List ℕ) (l : ℕ) (ls : List ℕ)
      → cells_to s e g (b ∷ bs) (l ∷ ls) ≡ (eqb g b && cells_to s e b (b ∷ bs) (l ∷ ls))
  unfolding cells_to is_cell
  cells_here g b bs l ls = on (eqb b g) refl
    where
      on : (t : Bool) → eqb b g ≡ t → cells_to s e g (b ∷ bs) (l ∷ ls) ≡ (eqb g b && cells_to s e b (b ∷ bs) (l ∷ ls))
      on true q = rw (eqb-true b g q, eq-eqb g g refl)
      on false q = rw (q, ne_eqb g b (λ z. eqb-false b g q (sym z)))

  -- cells are those up to the k-th, which end where it starts, and those from it on
  cells_split : (k g : ℕ) (bs ls : List ℕ) → length bs ≡ length ls → k < length bs
      → cells_to s e g bs ls
      ≡ (cells_to s (get_or bs k 0) g (take k bs) (take k ls) && cells_to s e (get_or bs k 0) (drop k bs) (drop k ls))
  unfolding cells_to
  cells_split k g [] ls n h = absurd (omega arith)
  cells_split k g (b ∷ bs) [] n h = absurd (omega arith)
  cells_split zero g (b ∷ bs) (l ∷ ls) n h = cells_here g b bs l ls
  cells_split (suc k) g (b ∷ bs) (l ∷ ls) n h = rw (cells_split k (g + l) bs ls (omega arith) (omega arith), and_assoc)

pub cells_uneven : (s bs ls : List ℕ) → (length bs ≡ length ls → ⊥) → false ≡ are_cells s 0 bs ls
unfolding are_cells
cells_uneven s bs ls h = sym (untrue (are_cells s 0 bs ls) (λ e. h (cells_long s (length s) 0 bs ls e)))

none_left : (xs : List ℕ) → length xs ≡ 0 → xs ≡ []
none_left [] h = refl
none_left (x ∷ xs) h = absurd (omega arith)

-- ---- cells one by one: what is left is to start at byte g, bs and ls are its starts and lengths
pub record Celled (s starts lengths : List ℕ) (from e g : ℕ) (bs ls : List ℕ) : Type 0 where
  pub is : cells_to s e from starts lengths ≡ cells_to s e g bs ls
  pub inside : g ≤ length s
  pub even : length bs ≡ length ls

module _ (s starts lengths : List ℕ) (from e : ℕ) where
  module _ (g : ℕ) (bs ls : List ℕ) (h : Celled s starts lengths from e g bs ls) where
    module _ (b : ℕ) (bs' : List ℕ) (l : ℕ) (ls' : List ℕ) (p : bs ≡ b ∷ bs') (q : ls ≡ l ∷ ls') (ok : Bool) (o : ok ≡ is_cell s g b l) where
      cells_step : cells_to s e from starts lengths ≡ (ok && cells_to s e (g + l) bs' ls')
      unfolding cells_to
      cells_step = h.is ∙ rw (p, q, o)

      pub cells_go : not ok ≡ false → Celled s starts lengths from e (g + l) bs' ls'
      cells_go t =
          let k = not-false ok t in
          record {
            is = cells_step ∙ rw k;
            inside = cell_within s g b l (sym o ∙ k);
            even = omega (arith, h.even, ap length p, ap length q);
          }

      pub cells_no : not ok ≡ true → false ≡ cells_to s e from starts lengths
      cells_no t = sym (cells_step ∙ rw (not-true ok t))

    pub cells_done : (bs ≡ []) ⊎ (ls ≡ []) → eqb g e ≡ cells_to s e from starts lengths
    unfolding cells_to
    cells_done (inl p) = let q : ls ≡ [] = none_left ls (omega (arith, h.even, ap length p)) in sym (h.is ∙ rw (p, q))
    cells_done (inr q) = let p : bs ≡ [] = none_left bs (omega (arith, h.even, ap length q)) in sym (h.is ∙ rw (p, q))

-- ---- absent cells: what is left of them
module _ (g : ℕ) (w ok : Bool) (bs ls : List ℕ) (h : Left w (ok && are_absent g bs ls)) where
  pub absent_go : (b : ℕ) (bs' : List ℕ) (l : ℕ) (ls' : List ℕ) → bs ≡ b ∷ bs' → ls ≡ l ∷ ls'
      → Left w ((ok && (eqb b g && eqb l 0)) && are_absent g bs' ls')
  unfolding are_absent
  absent_go b bs' l ls' p q = record { is = h.is ∙ rw (p, q) (simp and_assoc) }

  pub absent_done : (bs ≡ []) ⊎ (ls ≡ []) → ok ≡ w
  unfolding are_absent
  absent_done (inl p) = left_all w ok _ h (rw p)
  absent_done (inr q) = left_all w ok _ h (none bs ls q)
    where
      none : (bs ls : List ℕ) → ls ≡ [] → are_absent g bs ls ≡ true
      none [] ls q = refl
      none (b ∷ bs) [] q = refl
      none (b ∷ bs) (l ∷ ls) q = cc

-- cells that end where they start are absent
absent_cells : (s : List ℕ) (g : ℕ) (bs ls : List ℕ) → g ≤ length s → length bs ≡ length ls → cells_to s g g bs ls ≡ are_absent g bs ls
unfolding cells_to are_absent
absent_cells s g [] [] k n = eq-eqb g g refl
absent_cells s g [] (l ∷ ls) k n = absurd (omega arith)
absent_cells s g (b ∷ bs) [] k n = absurd (omega arith)
absent_cells s g (b ∷ bs) (zero ∷ ls) k n =
    let z : g + 0 ≡ g = omega arith in rw (z, and-true) (on (eqb b g) refl (absent_cells s g bs ls k (omega arith)))
  where
    on : (t : Bool) → eqb b g ≡ t → cells_to s g g bs ls ≡ are_absent g bs ls → (is_cell s g b 0 && cells_to s g g bs ls) ≡ (eqb b g && are_absent g bs ls)
    on true q r = rw (← (cell_none s g b 0 (eqb-true b g q) refl k), q) r
    on false q r = rw (← (cell_elsewhere s g b 0 (eqb-false b g q)), q)
absent_cells s g (b ∷ bs) (suc l ∷ ls) k n =
    let o = untrue (cells_to s g (g + suc l) bs ls) (λ z. omega (arith, cells_forward s g (g + suc l) bs ls z)) in
    rw (o, eqb-suc-zero l, and-false, and-false)

pub row_absent : (s bs ls : List ℕ) (g e : ℕ) (r : Bool) → Row g s bs ls → g ≡ e → r ≡ are_absent g bs ls → r ≡ cells_to s e g bs ls
row_absent s bs ls g e r p q a = rw (← q) (a ∙ sym (absent_cells s g bs ls p.inside p.even))

-- ---- cells by rows, of which i cells are passed, up to byte g
pub record Rows (s bs ls : List ℕ) (g i : ℕ) : Type 0 where
  pub is : are_cells s 0 bs ls ≡ cells_to s (length s) g (drop i bs) (drop i ls)
  pub inside : g ≤ length s
  pub counted : i ≤ length bs

module _ (s bs ls : List ℕ) (n : length bs ≡ length ls) where
  pub rows_start : Rows s bs ls 0 0
  unfolding are_cells
  rows_start = record { is = refl; inside = omega arith; counted = omega arith }

  module _ (g i : ℕ) (h : Rows s bs ls g i) where
    -- a row of w cells, and another after it
    module _ (w : ℕ) (m : w < length bs - i) where
      pub rows_row : Row g s (take (i + w - i) (drop i bs)) (take (i + w - i) (drop i ls))
      rows_row = record { inside = h.inside; even = simp (length-take, length-drop) (rw n) }

      module _ (r : Bool) (q : r ≡ cells_to s (get_or bs (i + w) 0) g (take (i + w - i) (drop i bs)) (take (i + w - i) (drop i ls))) where
        rows_step : are_cells s 0 bs ls ≡ (r && cells_to s (length s) (get_or bs (i + w) 0) (drop (i + w) bs) (drop (i + w) ls))
        rows_step =
            let k : i + w - i ≡ w = omega arith in
            let x = cells_split s (length s) w g (drop i bs) (drop i ls) (simp length-drop (rw n)) (simp length-drop m) in
            h.is ∙ rw (get_or-drop i bs w 0, drop-drop, drop-drop) at x ∙ rw (q, k)

        pub rows_go : not r ≡ false → Rows s bs ls (get_or bs (i + w) 0) (i + w)
        rows_go u =
            let o = not-false r u in
            record {
              is = rows_step ∙ rw o;
              inside = cells_within s (get_or bs (i + w) 0) g _ _ h.inside (sym q ∙ o);
              counted = omega arith;
            }

        pub rows_no : not r ≡ true → false ≡ are_cells s 0 bs ls
        rows_no u = sym (rows_step ∙ rw (not-true r u))

    -- all that is left
    pub rows_rest : Row g s (take (length bs - i) (drop i bs)) (take (length ls - i) (drop i ls))
    rows_rest = record { inside = h.inside; even = simp (length-take, length-drop) (rw n) }

    pub rows_done : (r : Bool) → r ≡ cells_to s (length s) g (take (length bs - i) (drop i bs)) (take (length ls - i) (drop i ls)) → r ≡ are_cells s 0 bs ls
    rows_done r q =
        let all-starts = take_all (length bs - i) (drop i bs) (simp length-drop (omega arith)) in
        let all-lengths = take_all (length ls - i) (drop i ls) (simp length-drop (omega arith)) in
        rw (all-starts, all-lengths) at q ∙ sym h.is
