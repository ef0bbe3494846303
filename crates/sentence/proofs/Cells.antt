-- How long the lists of a sentence are, and what its characters and rows are. Assumes nothing.
use Prim.Native.Nat.{ℕ, zero, suc, ◌+◌}
use mathlib.Core.Path.{◌≡◌, refl}
use mathlib.Core.List.{List, [], ◌∷◌, ◌++◌}
use native.Mathlib.Omega.{arith}
use lib.ListN.{length, get_or}
use Rattle.laws.specs.All.{All}
use Rattle.sentence.specs.Sentence.{Tag, Cells, final, cell, text_of, marks_of, rows_of, cut, tag_bytes, Char, Row, CellsOf}

pub length_marks : (s : Cells) → length (text_of s) ≡ length (marks_of s) + 1
unfolding text_of marks_of
length_marks (final c r) = refl
length_marks (cell c r m s) = omega (arith, length_marks s)

pub length_rows : (s : Cells) → length (rows_of s) ≡ length (text_of s)
unfolding text_of rows_of
length_rows (final c r) = refl
length_rows (cell c r m s) = omega (arith, length_rows s)

pub text_chars : (n : ℕ) (s : Cells) → CellsOf n s → All Char (text_of s)
unfolding text_of
text_chars n (final c r) h = (h.0, tt)
text_chars n (cell c r m s) h = (h.0, text_chars n s h.2)

pub rows_are : (n : ℕ) (s : Cells) → CellsOf n s → All (Row n) (rows_of s)
unfolding rows_of
rows_are n (final c r) h = (h.1, tt)
rows_are n (cell c r m s) h = (h.1, rows_are n s h.2)

-- a row, or none past the last
no_row : (n : ℕ) → Row n []
unfolding cut
no_row n = record { chars = tt; is_cut = refl; fits = omega arith }

pub row_at : (n i : ℕ) (rs : List (List Tag)) → All (Row n) rs → Row n (get_or rs i [])
row_at n i [] h = no_row n
row_at n zero (r ∷ rs) h = h.0
row_at n (suc i) (r ∷ rs) h = row_at n i rs h.1

-- the tags of rows one after another
pub tag_bytes_append : (rs qs : List (List Tag)) → tag_bytes (rs ++ qs) ≡ tag_bytes rs + tag_bytes qs
unfolding tag_bytes
tag_bytes_append [] qs = omega arith
tag_bytes_append (r ∷ rs) qs = omega (arith, tag_bytes_append rs qs)
