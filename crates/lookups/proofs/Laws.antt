-- What the look-ups' proofs need of a sheet. Assumes nothing.
use Rattle.std.specs.Prelude.{None, Ok, Err}
use Prim.Native.Nat.{ℕ, zero, suc, ◌+◌, ◌*◌, ◌≤◌, ◌<◌}
use native.Mathlib.Omega.{arith}
use mathlib.Core.Path.{◌≡◌, refl, sym, ap, ◌∙◌}
use mathlib.Core.Bool.{true, false, ◌||◌}
use mathlib.Core.List.{List, [], ◌∷◌}
use mathlib.Core.Logic.{inr}
use native.Mathlib.Nat.{mul-le-mul_right}
use borrow.Author.Tests.{eq-eqb, ne_eqb, le-ltb, leb-false, ltb-false}
use lib.Dec.{leb, ltb}
use lib.ListN.{length, get_or, take}
use Rattle.laws.specs.If.{when◌then◌else◌}
use Rattle.laws.proofs.Facts.{or_is, neither}
use Rattle.utf8.specs.Utf8.{size}
use Rattle.utf8.proofs.Codec.{no_bytes}
use Rattle.sentence.specs.Sentence.{Tag, Sentence, text, rows, char_positions, byte_positions}
use Rattle.sentence.specs.Refusals.{refusal, verdict}
use Rattle.sheet.specs.Answers.{slice_of}
use Rattle.sheet.specs.Layout.{Buffers, Holds}
use Rattle.sheet.specs.declared.Record.{Record}
use Rattle.sheet.proofs.Held.{length_starts, byte_pos_held}
use Rattle.sheet.proofs.Look.{prefix_at, start_is, bounds, char_pos_is, byte_pos_is, byte_pos_small, cell_start_is, cell_length_is, cell_fits, cell_in_row, cell_at}
use Rattle.lookups.specs.Answers.{start_at, found, str_to_char_pos_of, cell_start, tag_slice, cell}

-- ---- a cell that is in the table
pub in_table : (n row m column : ℕ) → (leb n row || leb m column) ≡ false → (row < n) × (column < m)
in_table n row m column h = let k = neither (leb n row) (leb m column) h in (leb-false n row k.0, leb-false m column k.1)

-- ---- a surface that is in the text
pub in_text : (n start end : ℕ) → (leb end start || ltb n end) ≡ false → (start ≤ n) × (end ≤ n)
in_text n start end h =
    let k = neither (leb end start) (ltb n end) h in
    (omega (arith, leb-false end start k.0, ltb-false n end k.1), ltb-false n end k.1)

-- ---- a number that stands in a list stands at an index
pub found_at : (l : List ℕ) (i p : ℕ) → i < length l → get_or l i 0 ≡ p → found p l ≡ true
unfolding found
found_at [] i p h e = absurd (omega arith)
found_at (q ∷ l) zero p h e = rw (eq-eqb p q (sym e))
found_at (q ∷ l) (suc i) p h e = simp or_is (inr (found_at l i p (omega arith) e))

found_none : (l : List ℕ) (p : ℕ) → ((i : ℕ) → i < length l → get_or l i 0 ≡ p → ⊥) → found p l ≡ false
unfolding found
found_none [] p h = refl
found_none (q ∷ l) p h = rw (ne_eqb p q (λ e. h 0 (omega arith) (sym e))) (found_none l p (λ i k e. h (suc i) (omega arith) e))

-- ---- a tag that takes no bytes is absent
tag_empty : (at : ℕ) (t : Tag) → t ≡ [] → Ok None ≡ tag_slice at t
unfolding tag_slice
tag_empty at t e = rw e

tag_some : (at : ℕ) (t : Tag) → (size t ≡ 0 → ⊥) → slice_of at (at + size t) ≡ tag_slice at t
unfolding tag_slice size
tag_some at [] h = absurd (h refl)
tag_some at (c ∷ t) h = refl

module _ {r : Record} {d : Buffers} {s : Sentence} (h : Holds r d s) where
  -- ---- positions
  pub start_sized : (i : ℕ) → i ≤ r.n → start_at s i ≡ size (take i (text s))
  start_sized i k = start_is 0 (text s) i (omega (arith, bounds h)) ∙ omega arith

  pub pos_at : (i : ℕ) → i ≤ r.n → get_or d.char_pos_buf i 0 ≡ start_at s i
  pos_at i k = char_pos_is h i k ∙ sym (start_sized i k)

  -- the number at a byte
  number_at : (p : ℕ) → p ≤ r.b → get_or d.byte_pos_buf p 0 ≡ get_or (byte_positions (text s)) p 0
  number_at p k = prefix_at (byte_pos_held h) p (omega arith)

  -- a byte position is a character's start where that character starts there
  pub pos_found : (p : ℕ) → p ≤ r.b → get_or d.char_pos_buf (get_or d.byte_pos_buf p 0) 0 ≡ p
      → Ok (get_or d.byte_pos_buf p 0) ≡ str_to_char_pos_of true s p
  unfolding str_to_char_pos_of verdict when◌then◌else◌
  pos_found p k e =
      let i = get_or d.byte_pos_buf p 0 in
      let l : i ≤ r.n = byte_pos_small h p k in
      rw (
        le-ltb (size (text s)) p (omega (arith, bounds h)),
        found_at (char_positions (text s)) i p (omega (arith, bounds h, length_starts 0 (text s))) (sym (pos_at i l) ∙ e),
        number_at p k,
      )

  pub pos_inside : (p : ℕ) → p ≤ r.b → (get_or d.char_pos_buf (get_or d.byte_pos_buf p 0) 0 ≡ p → ⊥)
      → Err (refusal 14 p) ≡ str_to_char_pos_of true s p
  unfolding str_to_char_pos_of verdict when◌then◌else◌
  pos_inside p k e =
      rw (le-ltb (size (text s)) p (omega (arith, bounds h)), found_none (char_positions (text s)) p none)
    where
      none : (i : ℕ) → i < length (char_positions (text s)) → get_or (char_positions (text s)) i 0 ≡ p → ⊥
      none i l f =
          let m : i ≤ r.n = omega (arith, bounds h, length_starts 0 (text s)) in
          let q : size (take i (text s)) ≡ p = sym (start_sized i m) ∙ f in
          let n : get_or d.byte_pos_buf p 0 ≡ i = rw q at (byte_pos_is h i m) in
          e (rw n (pos_at i m ∙ f))

  -- ---- cells
  module _ (row column : ℕ) (k : row < r.n) (l : column < r.columns) where
    pub cell_start_at : get_or d.cell_starts_buf (row * r.columns + column) 0 ≡ cell_start (rows s) row column
    unfolding cell_start
    cell_start_at = cell_start_is h (row * r.columns + column) (cell_fits h row column k l) ∙ cell_at h row column k (omega arith)

    pub cell_length_at : get_or d.cell_lengths_buf (row * r.columns + column) 0 ≡ size (cell s row column)
    cell_length_at = cell_length_is h (row * r.columns + column) (cell_fits h row column k l) ∙ ap size (cell_in_row h row column k l)

    -- the index of a cell is within both lists, and no larger than a number can be
    pub cell_index : (row * r.columns + column < length d.cell_starts_buf) × (row * r.columns + column < length d.cell_lengths_buf) × (row * r.columns + column ≤ 16777216)
    cell_index =
        let f = cell_fits h row column k l in
        let b = bounds h in
        let m : r.n * r.columns ≤ 16777216 = omega (arith, mul-le-mul_right {m = r.n} {n = 4096} r.columns (omega arith)) in
        (omega arith, omega arith, omega arith)

    pub tag_absent : get_or d.cell_lengths_buf (row * r.columns + column) 0 ≡ 0 → Ok None ≡ tag_slice (cell_start (rows s) row column) (cell s row column)
    tag_absent e = tag_empty _ _ (no_bytes (cell s row column) (sym cell_length_at ∙ e))

    pub tag_present : (get_or d.cell_lengths_buf (row * r.columns + column) 0 ≡ 0 → ⊥)
        → slice_of (get_or d.cell_starts_buf (row * r.columns + column) 0) (get_or d.cell_starts_buf (row * r.columns + column) 0 + get_or d.cell_lengths_buf (row * r.columns + column) 0)
        ≡ tag_slice (cell_start (rows s) row column) (cell s row column)
    tag_present e = rw (cell_start_at, cell_length_at) (tag_some _ (cell s row column) (λ z. e (cell_length_at ∙ z)))
