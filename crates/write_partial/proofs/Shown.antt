-- The sentence that is written of a sheet, with a range of its characters hidden: its characters, boundaries and rows. Assumes nothing.
use Prim.Native.Nat.{ℕ, zero, suc, ◌+◌, ◌-◌, ◌≤◌, ◌<◌}
use Rattle.std.specs.Prelude.{Option}
use mathlib.Core.Path.{◌≡◌, refl, ap, ◌∙◌}
use mathlib.Core.Bool.{true, false}
use mathlib.Core.List.{List, [], ◌∷◌}
use native.Mathlib.Nat.{add-zero, zero-add}
use native.Mathlib.Omega.{arith}
use lib.ListN.{length, drop, get_or, drop_of_length-le}
use Rattle.laws.specs.If.{when◌then◌else◌, if_map, if_both}
use Rattle.laws.specs.Put.{over}
use Rattle.sentence.specs.Sentence.{Tag, none, unknown, Cells, final, cell, Sentence, marks_of, rows_of, text, marks, rows, cut, Row}
use Rattle.sentence.specs.declared.Form.TheVariants.{Partial as partial}
use Rattle.sentence.specs.Writing.{written}
use Rattle.sentence.specs.Withheld.{in_range, touches, hidden}
use Rattle.sentence.proofs.Withheld.{out_before, out_behind, in_range_lem, none_in, hidden_none, text_hidden, row_at}
use Rattle.sheet.specs.declared.Record.{Record}
use Rattle.sheet.specs.Layout.{Buffers, mark_of, Holds}
use Rattle.sheet.proofs.Held.{rows_held, columns_held}
use Rattle.sheet.proofs.Look.{left, all_at, bounds, boundary_is, mark_back, text_step}
use Rattle.write_escape.specs.Wrote.{Lined}
use Rattle.write_items.specs.Items.{short_of}
use Rattle.write_partial.specs.Line.{shown_of}

-- ---- the cells from the i-th character on, with the range hidden
marks_count : (b e i : ℕ) (u : Cells) → length (marks_of (hidden b e i u)) ≡ length (marks_of u)
unfolding hidden marks_of
marks_count b e i (final c r) = refl
marks_count b e i (cell c r m u) = rw (marks_count b e (i + 1) u)

rows_count : (b e i : ℕ) (u : Cells) → length (rows_of (hidden b e i u)) ≡ length (rows_of u)
unfolding hidden rows_of
rows_count b e i (final c r) = refl
rows_count b e i (cell c r m u) = rw (rows_count b e (i + 1) u)

mark_hidden : (b e i : ℕ) (u : Cells) (j : ℕ) → j < length (marks_of u) → get_or (marks_of (hidden b e i u)) j none ≡ (when touches b e (i + j) then unknown else get_or (marks_of u) j none)
unfolding hidden marks_of
mark_hidden b e i (final c r) j h = absurd (omega arith)
mark_hidden b e i (cell c r m u) zero h = rw add-zero
mark_hidden b e i (cell c r m u) (suc j) h = let k : i + suc j ≡ i + 1 + j = omega arith in rw k (mark_hidden b e (i + 1) u j (omega arith))

-- ---- which boundaries touch a range
module _ (b e i : ℕ) where
  pub free_before : i + 1 < b → touches b e i ≡ false
  unfolding touches
  free_before l = rw (out_before b e i (omega arith), out_before b e (i + 1) l)

  pub free_behind : e ≤ i → touches b e i ≡ false
  unfolding touches
  free_behind l = rw (out_behind b e i l, out_behind b e (i + 1) (omega arith))

  pub edge_touches : i + 1 ≡ b → b < e → touches b e i ≡ true
  unfolding touches
  edge_touches q l = rw (out_before b e i (omega arith), in_range_lem b e (i + 1) (omega arith) (omega arith))

  pub covered_touches : in_range b e i ≡ true → touches b e i ≡ true
  unfolding touches
  covered_touches q = rw q

-- an empty range
pub none_touch : (b e i : ℕ) → e ≤ b → touches b e i ≡ false
unfolding touches
none_touch b e i l = rw (none_in b e i l, none_in b e (i + 1) l)

-- ---- of a sheet
-- the i-th row as it is shown
abbrev pub row_in : ℕ → ℕ → Sentence → ℕ → List Tag
row_in b e s i = when in_range b e i then [] else get_or (rows s) i []

module _ {r : Record} {d : Buffers} {s : Sentence} (h : Holds r d s) where
  -- nothing hidden, and all columns: the sentence itself
  shown_whole : shown_of r.columns 0 0 s ≡ s
  shown_whole = ap (λ (u : Cells). record { cells = u; columns = r.columns }) (hidden_none 0 0 s.cells) ∙ ap (λ (n : ℕ). record { cells = s.cells; columns = n }) (columns_held h)

  -- so its line is the sentence's
  whole_line : written partial (shown_of r.columns 0 0 s) ≡ written partial s
  whole_line = ap (written partial) shown_whole

  pub whole_room : {room : ℕ} → length (written partial s) ≤ room → length (written partial (shown_of r.columns 0 0 s)) ≤ room
  whole_room l = omega (arith, ap length whole_line)

  pub whole_short : (room : ℕ) {k : Option ℕ} → k ≡ short_of room (length (written partial (shown_of r.columns 0 0 s))) → k ≡ short_of room (length (written partial s))
  whole_short room q = q ∙ ap (λ (l : List ℕ). short_of room (length l)) whole_line

  pub whole_lined : {o₀ o : List ℕ} {a : ℕ} → Lined (written partial (shown_of r.columns 0 0 s)) o₀ o a → Lined (written partial s) o₀ o a
  whole_lined {o₀} w = record { out_is = w.out_is ∙ ap (λ (l : List ℕ). over l o₀) whole_line; length_is = w.length_is ∙ ap length whole_line }

  pub row_at_shown : (b e i : ℕ) → i < r.n → get_or (rows_of (hidden b e 0 s.cells)) i [] ≡ row_in b e s i
  row_at_shown b e i k = row_at b e 0 i s.cells ∙ rw zero-add

  module _ (n b e : ℕ) where
    pub text_shown : (i : ℕ) → i < r.n → drop i (text (shown_of n b e s)) ≡ get_or (text s) i 0 ∷ drop (i + 1) (text (shown_of n b e s))
    text_shown i k = rw (text_hidden b e 0 s.cells) (text_step h i k)

    pub mark_shown : (i : ℕ) → i < r.n - 1 → {m : ℕ} → m ≡ (when touches b e i then 2 else get_or d.boundaries_buf i 0)
        → drop i (marks (shown_of n b e s)) ≡ mark_of m ∷ drop (i + 1) (marks (shown_of n b e s))
    unfolding mark_of
    mark_shown i k {m} q =
        let l : i < length (marks s) = omega (arith, bounds h) in
        let x : get_or (marks (shown_of n b e s)) i none ≡ mark_of m =
        rw zero-add at (mark_hidden b e 0 s.cells i l)
        ∙ rw (q, if_map mark_of (touches b e i) 2 (get_or d.boundaries_buf i 0), boundary_is h i k, mark_back (get_or (marks s) i none)) in
        left none (marks (shown_of n b e s)) i (omega (arith, marks_count b e 0 s.cells)) ∙ rw x

    pub marks_end : (i : ℕ) → r.n - 1 ≤ i → drop i (marks (shown_of n b e s)) ≡ []
    marks_end i k = drop_of_length-le (marks (shown_of n b e s)) {i = i} (omega (arith, bounds h, marks_count b e 0 s.cells))

    pub row_shown : (i : ℕ) → i < r.n → drop i (rows (shown_of n b e s)) ≡ row_in b e s i ∷ drop (i + 1) (rows (shown_of n b e s))
    row_shown i k =
        left [] (rows (shown_of n b e s)) i (omega (arith, bounds h, rows_count b e 0 s.cells)) ∙ rw (row_at_shown b e i k)

    pub rows_end : (i : ℕ) → r.n ≤ i → drop i (rows (shown_of n b e s)) ≡ []
    rows_end i k = drop_of_length-le (rows (shown_of n b e s)) {i = i} (omega (arith, bounds h, rows_count b e 0 s.cells))

    pub row_cut : (i : ℕ) → i < r.n → cut (row_in b e s i) ≡ row_in b e s i
    unfolding cut
    row_cut i k = if_both (λ (q : List Tag). cut q ≡ q) (in_range b e i) [] (get_or (rows s) i []) refl (all_at (Row s.columns) [] (rows s) i (rows_held h) (omega (arith, bounds h))).is_cut
