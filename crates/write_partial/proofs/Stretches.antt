-- The partial line of a sheet with a range hidden is made of stretches: the characters before the range, those in it, those behind it. Assumes nothing.
use Prim.Native.Nat.{ℕ, zero, suc, ◌+◌, ◌-◌, ◌≤◌, ◌<◌}
use mathlib.Core.Path.{◌≡◌, refl, sym, ap, ◌∙◌}
use mathlib.Core.Bool.{true, false}
use mathlib.Core.List.{List, [], ◌∷◌, ◌++◌, append_assoc, append-nil}
use native.Mathlib.Nat.{add-zero}
use native.Mathlib.Omega.{arith}
use borrow.Author.Tests.{ne_eqb}
use lib.Dec.{eqb}
use lib.ListN.{length, drop, get_or, replicate}
use Rattle.laws.specs.If.{when◌then◌else◌, if_true, if_false}
use Rattle.utf8.specs.Utf8.{encode, encodes}
use Rattle.utf8.proofs.Codec.{encodes_append}
use Rattle.sentence.specs.Sentence.{Tag, Mark, none, word, unknown, Cells, final, cell, Sentence, text_of, marks_of, rows_of, text, marks, rows, cut, pad}
use Rattle.sentence.specs.declared.Form.TheVariants.{Partial as partial}
use Rattle.sentence.specs.Writing.{surface, write_tags, sign, shown, write_partial, line, written}
use Rattle.sentence.specs.Withheld.{in_range, touches}
use Rattle.sentence.proofs.Withheld.{out_before, out_behind, in_range_lem, none_in}
use Rattle.sheet.specs.declared.Record.{Record}
use Rattle.sheet.specs.Layout.{Buffers, mark_of, Holds}
use Rattle.sheet.proofs.Look.{bounds, text_step}
use Rattle.write_escape.proofs.Encoded.{encodes_tags, encodes_pad, tags_absent}
use Rattle.write_items.specs.Items.{text_at, char_line}
use Rattle.write_items.proofs.Held.{text_is, row_line_lem}
use Rattle.write_partial.specs.Line.{shown_of, stretch_of, covered_of, before_of, rest_of, bare_of}
use Rattle.write_partial.proofs.Shown.{free_before, free_behind, edge_touches, covered_touches, none_touch, text_shown, mark_shown, marks_end, row_in, row_shown, row_cut}

-- ---- the line of characters with the boundaries between them and their rows
partial_from : ℕ → List ℕ → List Mark → List (List Tag) → List ℕ
partial_from n [] ms rs = []
partial_from n (c ∷ cs) [] rs = c ∷ write_tags partial (pad n (get_or rs 0 []))
partial_from n (c ∷ cs) (m ∷ ms) rs = c ∷ (write_tags partial (shown n m (get_or rs 0 [])) ++ (sign m ∷ partial_from n cs ms (drop 1 rs)))

from_cells : (n : ℕ) (u : Cells) → partial_from n (text_of u) (marks_of u) (rows_of u) ≡ write_partial n u
unfolding partial_from text_of marks_of rows_of write_partial
from_cells n (final c r) = refl
from_cells n (cell c r m u) = rw (from_cells n u)

-- what is left of the line from the i-th character on
pub left_from : Sentence → ℕ → List ℕ
left_from s i = encodes (partial_from s.columns (drop i (text s)) (drop i (marks s)) (drop i (rows s)))

pub left_start : (s : Sentence) → left_from s 0 ≡ written partial s
unfolding left_from line
left_start s = ap encodes (from_cells s.columns s.cells)

-- ---- the tags before a boundary of number b, as a row with all columns or as it is
pub pad_none : (row : List Tag) → pad 0 row ≡ row
unfolding pad
pad_none row = let z : 0 - length row ≡ 0 = omega arith in rw (z, append-nil)

shown_pad : (n b : ℕ) (row : List Tag) → cut row ≡ row → shown n (mark_of b) row ≡ pad (when eqb b 1 then n else 0) row
unfolding shown mark_of when◌then◌else◌
shown_pad n zero row e = e ∙ sym (pad_none row)
shown_pad n (suc zero) row e = refl
shown_pad n (suc (suc b)) row e = rw (ne_eqb (suc (suc b)) 1 (λ z. omega arith)) (e ∙ sym (pad_none row))

encode_sign : (m : Mark) → encode (sign m) ≡ sign m ∷ []
unfolding encode sign when◌then◌else◌
encode_sign none = refl
encode_sign word = refl
encode_sign unknown = refl

-- a character, its tags and what is behind them, as bytes
encodes_cell : (c : ℕ) (w : List ℕ) (m : Mark) (x : List ℕ) → encodes (c ∷ (w ++ (sign m ∷ x))) ≡ (encodes (c ∷ []) ++ encodes w) ++ (sign m ∷ encodes x)
unfolding encodes
encodes_cell c w m x = rw (encodes_append w (sign m ∷ x), encode_sign m, append-nil, append_assoc)

encodes_last : (c : ℕ) (w : List ℕ) → encodes (c ∷ w) ≡ encodes (c ∷ []) ++ encodes w
unfolding encodes
encodes_last c w = rw append-nil

sign_unknown : sign (mark_of 2) ≡ 32
unfolding sign mark_of
sign_unknown = refl

-- a row of absent tags
absent_row : (n : ℕ) → encodes (write_tags partial (pad n [])) ≡ replicate n 47
unfolding pad
absent_row n = let z : n - 0 ≡ n = omega arith in encodes_tags partial (pad n []) ∙ rw (encodes_pad n [], z) (tags_absent partial n)

-- ---- the stretches of a sheet
module _ (d : Buffers) where
  abbrev pub text_in : ℕ → List ℕ
  text_in i = text_at d.char_pos_buf d.text_buf i (i + 1)

  abbrev pub covered_in : ℕ → ℕ → List ℕ
  covered_in i k = covered_of d.text_buf d.char_pos_buf i k

  abbrev pub bare_in : ℕ → ℕ → List ℕ
  bare_in n i = bare_of d.text_buf d.char_pos_buf n i

-- and those with rows of m cells each
module _ (d : Buffers) (m : ℕ) where
  abbrev pub char_in : ℕ → ℕ → List ℕ
  char_in n i = char_line n d.text_buf d.char_pos_buf d.cell_starts_buf d.cell_lengths_buf d.tag_bytes_buf m i

  abbrev pub stretch_in : ℕ → ℕ → ℕ → List ℕ
  stretch_in n i k = stretch_of d.text_buf d.boundaries_buf d.char_pos_buf d.cell_starts_buf d.cell_lengths_buf d.tag_bytes_buf m n i k

  abbrev pub before_in : ℕ → ℕ → List ℕ
  before_in n k = before_of d.text_buf d.boundaries_buf d.char_pos_buf d.cell_starts_buf d.cell_lengths_buf d.tag_bytes_buf m n k

  abbrev pub rest_in : ℕ → ℕ → ℕ → List ℕ
  rest_in n i last = rest_of d.text_buf d.boundaries_buf d.char_pos_buf d.cell_starts_buf d.cell_lengths_buf d.tag_bytes_buf m n i last

module _ {r : Record} {d : Buffers} {s : Sentence} (h : Holds r d s) (n b e : ℕ) where
  text_at_lem : (i : ℕ) → i < r.n → text_in d i ≡ encodes (get_or (text s) i 0 ∷ [])
  text_at_lem i l =
      let one : i + 1 - i ≡ 1 = omega arith in
      let t : surface s i (i + 1) ≡ get_or (text s) i 0 ∷ [] = rw (one, text_step h i l) in
      text_is h i (i + 1) (omega arith) (omega arith) ∙ ap encodes t

  -- a character with a boundary of number m behind it, which says how many columns are written
  left_step : (i : ℕ) → i + 1 < r.n → (m w : ℕ) → m ≡ (when touches b e i then 2 else get_or d.boundaries_buf i 0) → w ≡ (when eqb m 1 then n else 0)
      → left_from (shown_of n b e s) i
      ≡ (text_in d i ++ encodes (write_tags partial (pad w (row_in b e s i)))) ++ (sign (mark_of m) ∷ left_from (shown_of n b e s) (i + 1))
  unfolding left_from partial_from
  left_step i l m w p q =
      let k : i < r.n = omega arith in
      rw (
        text_at_lem i k,
        q,
        ← (shown_pad n m (row_in b e s i) (row_cut h n b e i k)),
        text_shown h n b e i k,
        mark_shown h n b e i (omega arith) p,
        row_shown h n b e i k,
      ) (encodes_cell _ _ _ _)

  left_end : (i : ℕ) → i ≡ r.n - 1 → left_from (shown_of n b e s) i ≡ text_in d i ++ encodes (write_tags partial (pad n (row_in b e s i)))
  unfolding left_from partial_from
  left_end i l =
      let k : i < r.n = omega (arith, bounds h) in
      rw (text_at_lem i k, text_shown h n b e i k, marks_end h n b e i (omega arith), row_shown h n b e i k) (encodes_last _ _)

  -- its row, shown or hidden
  row_open : (i w : ℕ) → i < r.n → in_range b e i ≡ false → text_in d i ++ encodes (write_tags partial (pad w (row_in b e s i))) ≡ char_in d r.columns w i
  row_open i w l q = rw (if_false (in_range b e i) [] (get_or (rows s) i []) q, row_line_lem h partial w i l)

  row_covered : (i w : ℕ) → in_range b e i ≡ true → text_in d i ++ encodes (write_tags partial (pad w (row_in b e s i))) ≡ bare_in d w i
  row_covered i w q = rw (if_true (in_range b e i) [] (get_or (rows s) i []) q, absent_row w)

  -- a character whose boundary does not touch the range
  left_open : (i : ℕ) → i + 1 < r.n → touches b e i ≡ false → in_range b e i ≡ false
      → left_from (shown_of n b e s) i
      ≡ char_in d r.columns (when eqb (get_or d.boundaries_buf i 0) 1 then n else 0) i ++ (sign (mark_of (get_or d.boundaries_buf i 0)) ∷ left_from (shown_of n b e s) (i + 1))
  left_open i l p q =
      let m = get_or d.boundaries_buf i 0 in
      let w = when eqb m 1 then n else 0 in
      left_step i l m w (sym (if_false (touches b e i) 2 m p)) refl ∙ rw (row_open i w (omega arith) q)

  -- one that is itself outside, and whose boundary touches the range
  left_touched : (i : ℕ) → i + 1 < r.n → touches b e i ≡ true → in_range b e i ≡ false → left_from (shown_of n b e s) i ≡ char_in d r.columns 0 i ++ (32 ∷ left_from (shown_of n b e s) (i + 1))
  left_touched i l p q =
      let m = get_or d.boundaries_buf i 0 in
      left_step i l 2 0 (sym (if_true (touches b e i) 2 m p)) (sym (if_false (eqb 2 1) n 0 refl)) ∙ rw (row_open i 0 (omega arith) q, sign_unknown)

  -- one of the range
  left_covered : (i : ℕ) → i + 1 < r.n → in_range b e i ≡ true → left_from (shown_of n b e s) i ≡ text_in d i ++ (32 ∷ left_from (shown_of n b e s) (i + 1))
  left_covered i l q =
      let m = get_or d.boundaries_buf i 0 in
      left_step i l 2 0 (sym (if_true (touches b e i) 2 m (covered_touches b e i q))) (sym (if_false (eqb 2 1) n 0 refl)) ∙ rw (row_covered i 0 q, append-nil, sign_unknown)

  -- k characters whose boundaries do not touch the range, and k characters of it
  left_stretch : (k i : ℕ) → i + k < r.n → ((j : ℕ) → i ≤ j → j < i + k → (touches b e j ≡ false) × (in_range b e j ≡ false))
      → left_from (shown_of n b e s) i ≡ stretch_in d r.columns n i k ++ left_from (shown_of n b e s) (i + k)
  unfolding stretch_of
  left_stretch zero i l f = rw add-zero
  left_stretch (suc k) i l f =
      let q : i + suc k ≡ i + 1 + k = omega arith in
      let o = f i (omega arith) (omega arith) in
      left_open i (omega arith) o.0 o.1
      ∙ rw (left_stretch k (i + 1) (omega arith) (λ j x y. f j (omega arith) (omega arith)), q)
      (sym (append_assoc (char_in d r.columns (when eqb (get_or d.boundaries_buf i 0) 1 then n else 0) i) (sign (mark_of (get_or d.boundaries_buf i 0)) ∷ stretch_in d r.columns n (i + 1) k) (left_from (shown_of n b e s) (i + 1 + k))))

  left_hides : (k i : ℕ) → i + k < r.n → ((j : ℕ) → i ≤ j → j < i + k → in_range b e j ≡ true)
      → left_from (shown_of n b e s) i ≡ covered_in d i k ++ left_from (shown_of n b e s) (i + k)
  unfolding covered_of
  left_hides zero i l f = rw add-zero
  left_hides (suc k) i l f =
      let q : i + suc k ≡ i + 1 + k = omega arith in
      left_covered i (omega arith) (f i (omega arith) (omega arith))
      ∙ rw (left_hides k (i + 1) (omega arith) (λ j x y. f j (omega arith) (omega arith)), q)
      (sym (append_assoc (text_in d i) (32 ∷ covered_in d (i + 1) k) (left_from (shown_of n b e s) (i + 1 + k))))

  -- from a character on, where none is in the range
  left_rest : (i : ℕ) → i < r.n → ((j : ℕ) → i ≤ j → (touches b e j ≡ false) × (in_range b e j ≡ false)) → left_from (shown_of n b e s) i ≡ rest_in d r.columns n i (r.n - 1)
  left_rest i l f =
      let last = r.n - 1 in
      let k : i + (last - i) ≡ last = omega arith in
      left_stretch (last - i) i (omega arith) (λ j x y. f j x)
      ∙ rw (k, left_end last refl, row_open last n (omega arith) (f last (omega arith)).1)

  -- up to the range
  left_before : (k : ℕ) → k ≡ b → b < e → e ≤ r.n → left_from (shown_of n b e s) 0 ≡ before_in d r.columns n k ++ left_from (shown_of n b e s) k
  unfolding before_of
  left_before zero q l o = refl
  left_before (suc p) q l o =
      let y : 0 + p ≡ p = omega arith in
      let z : suc p ≡ p + 1 = omega arith in
      left_stretch p 0 (omega arith) (λ j x y. (free_before b e j (omega arith), out_before b e j (omega arith)))
      ∙ rw (y, left_touched p (omega arith) (edge_touches b e p (omega arith) l) (out_before b e p (omega arith)), z)
      (ap (λ (x : List ℕ). stretch_in d r.columns n 0 p ++ x) (sym (append_assoc (char_in d r.columns 0 p) (32 ∷ []) (left_from (shown_of n b e s) (p + 1))))
      ∙ sym (append_assoc (stretch_in d r.columns n 0 p) (char_in d r.columns 0 p ++ (32 ∷ [])) (left_from (shown_of n b e s) (p + 1))))

  -- ---- the line
  abbrev pub line_in : List ℕ
  line_in = written partial (shown_of n b e s)

  pub line_whole : b ≡ e → line_in ≡ rest_in d r.columns n 0 (r.n - 1)
  line_whole q = sym (left_start (shown_of n b e s)) ∙ left_rest 0 (omega (arith, bounds h)) (λ j x. (none_touch b e j (omega arith), none_in b e j (omega arith)))

  module _ (l : b < e) where
    pub line_to_end : e ≡ r.n → line_in ≡ before_in d r.columns n b ++ (covered_in d b (r.n - 1 - b) ++ bare_in d n (r.n - 1))
    line_to_end q =
        let last = r.n - 1 in
        let k : b + (last - b) ≡ last = omega arith in
        sym (left_start (shown_of n b e s))
        ∙ left_before b refl l (omega arith)
        ∙ ap (λ (x : List ℕ). before_in d r.columns n b ++ x)
        (left_hides (last - b) b (omega arith) (λ j x y. in_range_lem b e j x (omega arith))
        ∙ rw (k, left_end last refl, row_covered last n (in_range_lem b e last (omega arith) (omega arith))))

    pub line_within : e < r.n → line_in ≡ before_in d r.columns n b ++ (covered_in d b (e - b) ++ rest_in d r.columns n e (r.n - 1))
    line_within q =
        let k : b + (e - b) ≡ e = omega arith in
        sym (left_start (shown_of n b e s))
        ∙ left_before b refl l (omega arith)
        ∙ ap (λ (x : List ℕ). before_in d r.columns n b ++ x)
        (left_hides (e - b) b (omega arith) (λ j x y. in_range_lem b e j x (omega arith))
        ∙ rw (k, left_rest e q (λ j x. (free_behind b e j x, out_behind b e j x))))
