-- The columns that have a present tag outside a range, and a loop that finds them. Assumes nothing.
use Prim.Native.Nat.{ℕ, zero, suc, ◌+◌, ◌*◌, ◌≤◌, ◌<◌, max}
use mathlib.Core.Path.{◌≡◌, ap, ◌∙◌}
use mathlib.Core.Bool.{false}
use mathlib.Core.List.{List, [], ◌∷◌}
use native.Mathlib.Omega.{arith}
use lib.ListN.{length, drop, get_or}
use Rattle.laws.specs.If.{when◌then◌else◌, if_false, if_map}
use Rattle.sentence.specs.Sentence.{Tag, Cells, final, cell, Sentence, rows_of, rows}
use Rattle.sentence.specs.Withheld.{in_range, hidden, widest}
use Rattle.sentence.proofs.Withheld.{widest_few, cells_hidden}
use Rattle.sheet.specs.declared.Record.{Record}
use Rattle.sheet.specs.Layout.{Buffers, Holds, spell, Sheet}
use Rattle.sheet.proofs.Held.{columns_held}
use Rattle.sheet.proofs.Look.{Bounds, bounds}
use Rattle.write_items.specs.Items.{count_at, Follow}
use Rattle.write_items.proofs.Held.{row_lies, count_is}
use Rattle.write_partial.specs.Line.{Asked}
use Rattle.write_partial.proofs.Shown.{row_in, row_at_shown, row_shown, rows_end}

-- the longest of rows
pub longest : List (List Tag) → ℕ
longest [] = 0
longest (r ∷ rs) = max (length r) (longest rs)

longest_cells : (u : Cells) → longest (rows_of u) ≡ widest u
unfolding longest rows_of widest
longest_cells (final c r) = omega arith
longest_cells (cell c r m u) = rw (longest_cells u)

-- a row that shows has no more tags than the longest
row_longest : (u : Cells) (i : ℕ) → length (get_or (rows_of u) i []) ≤ widest u
unfolding rows_of widest
row_longest (final c r) zero = omega arith
row_longest (final c r) (suc i) = omega arith
row_longest (cell c r m u) zero = omega arith
row_longest (cell c r m u) (suc i) = omega (arith, row_longest u i)

pub count_few : {r : Record} {d : Buffers} {s : Sentence} → Holds r d s → (b e i : ℕ) → i < r.n → in_range b e i ≡ false → count_at d.cell_lengths_buf r.columns i ≤ widest (hidden b e 0 s.cells)
count_few {r} {d} {s} h b e i l q =
    let x : get_or (rows_of (hidden b e 0 s.cells)) i [] ≡ get_or (rows s) i [] = row_at_shown h b e i l ∙ if_false (in_range b e i) [] (get_or (rows s) i []) q in
    omega (arith, count_is h i l, ap length x, row_longest (hidden b e 0 s.cells) i)

-- no more than there are
pub columns_few : {r : Record} {d : Buffers} (b e : ℕ) → Sheet r d → widest (hidden b e 0 (spell r d).cells) ≤ r.columns
columns_few {r} {d} b e h =
    let c = (spell r d).columns in
    omega (arith, columns_held h, widest_few c (hidden b e 0 (spell r d).cells) (cells_hidden b e 0 c (spell r d).cells h.formed.cells_are))

-- what is asked where nothing is hidden and all columns are written
pub whole_asked : {r : Record} {d : Buffers} → Sheet r d → Asked r d r.columns 0 0
whole_asked h = record { ordered = omega arith; inside = omega arith; enough = columns_few 0 0 h; narrow = omega arith }

-- ---- a loop over the rows: it is at the i-th, and w is the longest before it
pub record Seeking (r : Record) (d : Buffers) (b e w i : ℕ) : Type 0 where
  pub sheet : Sheet r d
  pub known : Bounds r d (spell r d)
  pub upto : i ≤ r.n
  pub same : max w (longest (drop i (rows_of (hidden b e 0 (spell r d).cells)))) ≡ widest (hidden b e 0 (spell r d).cells)

pub seek_start : {r : Record} {d : Buffers} (b e : ℕ) → Sheet r d → Seeking r d b e 0 0
seek_start {r} {d} b e h = record { sheet = h; known = bounds h; upto = omega arith; same = omega (arith, longest_cells (hidden b e 0 (spell r d).cells)) }

module _ {r : Record} {d : Buffers} {b e w i : ℕ} (t : Seeking r d b e w i) where
  pub seek_asks : i < r.n → Follow d.cell_starts_buf d.cell_lengths_buf (i * r.columns + r.columns)
  seek_asks l = (row_lies t.sheet i l).cells

  module _ (l : i < r.n) {k : ℕ} (c : k ≡ (when in_range b e i then 0 else count_at d.cell_lengths_buf r.columns i)) where
    counted : k ≡ length (row_in b e (spell r d) i)
    counted =
        c ∙ rw (count_is t.sheet i l, if_map length (in_range b e i) [] (get_or (rows (spell r d)) i []))

    step : max w (max k (longest (drop (i + 1) (rows_of (hidden b e 0 (spell r d).cells))))) ≡ widest (hidden b e 0 (spell r d).cells)
    unfolding longest
    step = rw counted (rw (row_shown t.sheet 0 b e i l) at t.same)

    pub seek_next : Seeking r d b e (max w k) (i + 1)
    seek_next = record { sheet = t.sheet; known = t.known; upto = omega arith; same = omega (arith, step) }

  pub seek_done : r.n ≤ i → w ≡ widest (hidden b e 0 (spell r d).cells)
  unfolding longest
  seek_done l = omega (arith, rw (rows_end t.sheet 0 b e i l) at t.same)

  -- there are no more columns than the record says
  pub seek_full : r.columns ≤ w → w ≡ widest (hidden b e 0 (spell r d).cells)
  seek_full l = omega (arith, t.same, columns_few b e t.sheet)
