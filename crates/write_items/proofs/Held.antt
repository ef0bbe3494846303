-- The text and the rows of a sheet, told by positions, starts and lengths, are those of the sentence that it holds. Assumes nothing.
use Prim.Native.Nat.{ℕ, zero, suc, ◌+◌, ◌-◌, ◌*◌, ◌≤◌, ◌<◌}
use mathlib.Core.Path.{◌≡◌, refl, sym, ap, ◌∙◌}
use mathlib.Core.Bool.{Bool, true, false}
use mathlib.Core.List.{List, [], ◌∷◌, map}
use native.Mathlib.Nat.{add-zero, mul-le-mul_right}
use native.Mathlib.Omega.{arith}
use borrow.Author.Tests.{eqb-true, eqb-false}
use lib.Dec.{eqb}
use lib.ListN.{length, drop, get_or}
use Rattle.utf8.specs.Utf8.{encodes, size}
use Rattle.utf8.proofs.Codec.{encodes_append, width_small}
use Rattle.sentence.specs.Sentence.{Tag, Sentence, text, rows, onto, cut, pad, row_bytes, Row}
use Rattle.sentence.specs.declared.Form.{Form}
use Rattle.sentence.specs.declared.Form.TheVariants.{Tokenized as tokenized}
use Rattle.sentence.specs.Writing.{token, surface, write_tags, write_token}
use Rattle.sheet.specs.declared.Record.{Record}
use Rattle.sheet.specs.Layout.{Buffers, Holds}
use Rattle.sheet.proofs.Held.{columns_held, rows_held}
use Rattle.sheet.proofs.Look.{all_at, bounds, stretch_left, bytes_before, bytes_more, char_pos_is, text_stretch, cells, cell_start_is, cell_length_is, cell_stretch, cell_next, cell_inside, cell_fits, cell_in_row, row_fits}
use Rattle.write_escape.proofs.Encoded.{encodes_escape, encodes_tags, encodes_pad}
use Rattle.write_items.specs.Items.{cell_tag, cell_tags, used_at, row_at, count_at, bytes_to, row_line, Lie, RowLies, TextLies, text_at, token_line}
use Rattle.write_items.proofs.Cells.{used_skip, used_stop}

tags_are : (ss ls d : List ℕ) (k : ℕ) (row : List Tag) → ((c : ℕ) → c < length row → cell_tag ss ls d (k + c) ≡ encodes (get_or row c [])) → cell_tags ss ls d k (length row) ≡ map encodes row
unfolding cell_tags
tags_are ss ls d k [] f = refl
tags_are ss ls d k (t ∷ row) f =
    rw (rw add-zero at (f 0 (omega arith)), tags_are ss ls d (k + 1) row (λ c h. let e : k + suc c ≡ k + 1 + c = omega arith in rw e at (f (suc c) (omega arith))))

-- ---- the last tag of a row that is cut has bytes
cut_rest : (t : Tag) (us vs : List Tag) → onto t us ≡ t ∷ vs → 1 ≤ length vs → us ≡ vs
unfolding onto
cut_rest [] [] vs e l = absurd (omega (arith, ap length e))
cut_rest (c ∷ t) [] vs e l = absurd (omega (arith, ap length e))
cut_rest [] (u ∷ us) vs e l = ap (drop 1) e
cut_rest (c ∷ t) (u ∷ us) vs e l = ap (drop 1) e

cut_last : (c : ℕ) (row : List Tag) → cut row ≡ row → length row ≡ suc c → size (get_or row c []) ≡ 0 → ⊥
unfolding cut onto size
cut_last c [] e l z = omega arith
cut_last zero ([] ∷ []) e l z = omega (arith, ap length e)
cut_last zero ((x ∷ t) ∷ []) e l z = omega (arith, width_small x)
cut_last zero (t ∷ u ∷ row) e l z = omega arith
cut_last (suc c) (t ∷ []) e l z = omega arith
cut_last (suc c) (t ∷ u ∷ row) e l z = cut_last c (u ∷ row) (cut_rest t (cut (u ∷ row)) (u ∷ row) e (omega arith)) (omega arith) z

-- behind the last there is none
past_last : (row : List Tag) (c : ℕ) → length row ≤ c → size (get_or row c []) ≡ 0
unfolding size
past_last [] c l = refl
past_last (t ∷ row) zero l = absurd (omega arith)
past_last (t ∷ row) (suc c) l = past_last row c (omega arith)

-- so a row is as long as its cells that are listed
used_row : (ls : List ℕ) (k : ℕ) (row : List Tag) (n : ℕ) → cut row ≡ row → length row ≤ n → ((c : ℕ) → c < n → get_or ls (k + c) 0 ≡ size (get_or row c [])) → used_at ls k n ≡ length row
unfolding used_at
used_row ls k row zero e l f = omega arith
used_row ls k row (suc n) e l f = on (eqb (length row) (suc n)) refl (λ m. used_row ls k row n e m (λ c x. f c (omega arith)))
  where
    on : (b : Bool) → eqb (length row) (suc n) ≡ b → (length row ≤ n → used_at ls k n ≡ length row) → used_at ls k (suc n) ≡ length row
    on true q less =
        let m = eqb-true (length row) (suc n) q in
        used_stop ls k n (λ z. cut_last n row e m (sym (f n (omega arith)) ∙ z)) ∙ sym m
    on false q less =
        let m : length row ≤ n = omega (arith, eqb-false (length row) (suc n) q) in
        used_skip ls k n (f n (omega arith) ∙ past_last row n m) ∙ less m

module _ {r : Record} {d : Buffers} {s : Sentence} (h : Holds r d s) where
  -- ---- the text from b up to e
  pub text_lies : (b e : ℕ) → b ≤ e → e ≤ r.n → TextLies d.char_pos_buf d.text_buf b e
  text_lies b e k l = record {
    from = omega (arith, bounds h);
    upto = omega (arith, bounds h);
    rises = rw (char_pos_is h b (omega arith), char_pos_is h e l) (bytes_more (text s) b e k);
    within = omega (arith, bounds h, char_pos_is h e l, bytes_before (text s) e);
  }

  pub text_is : (b e : ℕ) → b ≤ e → e ≤ r.n → text_at d.char_pos_buf d.text_buf b e ≡ encodes (surface s b e)
  text_is b e k l = stretch_left d.text_buf (get_or d.char_pos_buf b 0) (get_or d.char_pos_buf e 0) ∙ rw (char_pos_is h b (omega arith), char_pos_is h e l) (text_stretch h b e k l)

  -- ---- the cells
  -- the i-th row stands among them
  pub rows_fit : (i : ℕ) → i ≤ r.n → i * r.columns ≤ r.cells
  rows_fit i l = omega (arith, (bounds h).cells_is, mul-le-mul_right {m = i} {n = r.n} r.columns l)

  cells_few : r.cells ≤ 16777216
  cells_few = let b = bounds h in omega (arith, mul-le-mul_right {m = r.n} {n = 4096} r.columns (omega arith))

  follows : (k : ℕ) → k < r.cells → get_or d.cell_starts_buf k 0 ≡ bytes_to d.cell_starts_buf d.cell_lengths_buf k
  unfolding row_bytes
  follows zero l = cell_start_is h 0 l
  follows (suc k) l =
      let e : suc k ≡ k + 1 = omega arith in
      omega (arith, cell_start_is h (suc k) l, rw (← e) at (cell_next h k (omega arith)), cell_start_is h k (omega arith), cell_length_is h k (omega arith))

  pub cells_lie : (n : ℕ) → n ≤ r.cells → Lie d.cell_starts_buf d.cell_lengths_buf n (length d.tag_bytes_buf)
  cells_lie n l = record {
    cells = record {
      few = omega (arith, cells_few);
      starts = omega (arith, bounds h);
      lengths = omega (arith, bounds h);
      follows = λ k m. follows k (omega arith);
    };
    within = λ k m. omega (arith, bounds h, cell_start_is h k (omega arith), cell_length_is h k (omega arith), cell_next h k (omega arith), cell_inside h (k + 1));
  }

  -- ---- the i-th row
  pub row_lies : (i : ℕ) → i < r.n → RowLies d.cell_starts_buf d.cell_lengths_buf d.tag_bytes_buf r.columns i
  row_lies i l = cells_lie (i * r.columns + r.columns) (omega (arith, rows_fit (i + 1) (omega arith)))

  -- it lists so many tags
  pub count_is : (i : ℕ) → i < r.n → count_at d.cell_lengths_buf r.columns i ≡ length (get_or (rows s) i [])
  count_is i l =
      used_row d.cell_lengths_buf (i * r.columns) (get_or (rows s) i []) r.columns
      (all_at (Row s.columns) [] (rows s) i (rows_held h) (omega (arith, bounds h))).is_cut
      (row_fits h i l)
      (λ c m. cell_length_is h (i * r.columns + c) (cell_fits h i c l m) ∙ ap size (cell_in_row h i c l m))

  tag_is : (j : ℕ) → j < r.cells → cell_tag d.cell_starts_buf d.cell_lengths_buf d.tag_bytes_buf j ≡ encodes (get_or (cells h) j [])
  unfolding cell_tag
  tag_is j l =
      let b = get_or d.cell_starts_buf j 0 in
      let k = get_or d.cell_lengths_buf j 0 in
      let n : b + k - b ≡ k = omega arith in
      stretch_left d.tag_bytes_buf b (b + k) ∙ rw (n, cell_start_is h j l, cell_length_is h j l) (cell_stretch h j l)

  pub row_is : (i : ℕ) → i < r.n → row_at d.cell_starts_buf d.cell_lengths_buf d.tag_bytes_buf r.columns i ≡ map encodes (get_or (rows s) i [])
  unfolding row_at
  row_is i l =
      let row = get_or (rows s) i [] in
      rw (count_is i l) (tags_are d.cell_starts_buf d.cell_lengths_buf d.tag_bytes_buf (i * r.columns) row (λ c m.
      let k : c < r.columns = omega (arith, row_fits h i l) in
      tag_is (i * r.columns + c) (cell_fits h i c l k) ∙ ap encodes (cell_in_row h i c l k)))

  -- what is written of it
  pub row_line_lem : (f : Form) (n i : ℕ) → i < r.n → row_line f n (row_at d.cell_starts_buf d.cell_lengths_buf d.tag_bytes_buf r.columns i) ≡ encodes (write_tags f (pad n (get_or (rows s) i [])))
  row_line_lem f n i l = rw (row_is i l, ← (encodes_pad n (get_or (rows s) i [])), encodes_tags)

  -- the token from b up to e
  pub token_line_lem : (b e : ℕ) → b ≤ e → e ≤ r.n → 1 ≤ e
      → token_line r.columns d.text_buf d.char_pos_buf d.cell_starts_buf d.cell_lengths_buf d.tag_bytes_buf b e ≡ encodes (write_token s (token b e))
  unfolding write_token
  token_line_lem b e k l m =
      rw (text_is b e k l, row_line_lem tokenized r.columns (e - 1) (omega arith), columns_held h, ← (encodes_escape tokenized (surface s b e)), encodes_append)
