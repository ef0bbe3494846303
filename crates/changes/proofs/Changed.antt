-- What the changes of a sentence keep of it, and that they leave it well formed. Assumes nothing.
use Prim.Native.Nat.{ℕ, zero, suc, ◌≤◌}
use native.Mathlib.Omega.{arith}
use mathlib.Core.Path.{◌≡◌, refl}
use mathlib.Core.List.{List, [], ◌∷◌}
use lib.ListN.{length, replicate, set}
use Rattle.sentence.specs.Sentence.{Mark, Cells, final, cell, Sentence, text_of, marks_of, rows_of, cut, row_bytes, tag_bytes, Row, CellsOf, Formed}
use Rattle.sentence.specs.Writing.{bare, marked, reset_tags_of, set_mark, set_boundary_of}

-- ---- a boundary that is set
pub text_set : (i : ℕ) (m : Mark) (s : Cells) → text_of (set_mark i m s) ≡ text_of s
unfolding set_mark text_of
text_set i m (final c r) = refl
text_set zero m (cell c r k s) = refl
text_set (suc i) m (cell c r k s) = rw (text_set i m s)

pub rows_set : (i : ℕ) (m : Mark) (s : Cells) → rows_of (set_mark i m s) ≡ rows_of s
unfolding set_mark rows_of
rows_set i m (final c r) = refl
rows_set zero m (cell c r k s) = refl
rows_set (suc i) m (cell c r k s) = rw (rows_set i m s)

pub marks_set : (i : ℕ) (m : Mark) (s : Cells) → marks_of (set_mark i m s) ≡ set (marks_of s) i m
unfolding set_mark marks_of
marks_set i m (final c r) = refl
marks_set zero m (cell c r k s) = refl
marks_set (suc i) m (cell c r k s) = rw (marks_set i m s)

cells_set : (n i : ℕ) (m : Mark) (s : Cells) → CellsOf n s → CellsOf n (set_mark i m s)
unfolding set_mark
cells_set n i m (final c r) h = h
cells_set n zero m (cell c r k s) h = h
cells_set n (suc i) m (cell c r k s) h = (h.0, h.1, cells_set n i m s h.2)

-- ---- tags that are reset
pub text_bare : (s : Cells) → text_of (bare s) ≡ text_of s
unfolding bare text_of
text_bare (final c r) = refl
text_bare (cell c r m s) = rw (text_bare s)

pub marks_bare : (s : Cells) → marks_of (bare s) ≡ marks_of s
unfolding bare marks_of
marks_bare (final c r) = refl
marks_bare (cell c r m s) = rw (marks_bare s)

pub rows_bare : (s : Cells) → rows_of (bare s) ≡ replicate (length (text_of s)) []
unfolding bare rows_of text_of
rows_bare (final c r) = refl
rows_bare (cell c r m s) = rw (rows_bare s)

no_row : (n : ℕ) → Row n []
unfolding cut
no_row n = record { chars = tt; is_cut = refl; fits = omega arith }

cells_bare : (n k : ℕ) (s : Cells) → CellsOf n s → CellsOf k (bare s)
unfolding bare
cells_bare n k (final c r) h = (h.0, no_row k)
cells_bare n k (cell c r m s) h = (h.0, no_row k, cells_bare n k s h.2)

pub no_tag_bytes : (n : ℕ) → tag_bytes (replicate n []) ≡ 0
unfolding tag_bytes row_bytes
no_tag_bytes zero = refl
no_tag_bytes (suc n) = omega (arith, no_tag_bytes n)

-- ---- boundaries that are set one after the other
pub text_marked : (ms : List Mark) (s : Cells) → text_of (marked ms s) ≡ text_of s
unfolding marked text_of
text_marked [] s = refl
text_marked (m ∷ ms) (final c r) = refl
text_marked (m ∷ ms) (cell c r k s) = rw (text_marked ms s)

rows_marked : (ms : List Mark) (s : Cells) → rows_of (marked ms s) ≡ rows_of s
unfolding marked rows_of
rows_marked [] s = refl
rows_marked (m ∷ ms) (final c r) = refl
rows_marked (m ∷ ms) (cell c r k s) = rw (rows_marked ms s)

pub marks_marked : (ms : List Mark) (s : Cells) → length ms ≡ length (marks_of s) → marks_of (marked ms s) ≡ ms
unfolding marked marks_of
marks_marked [] (final c r) h = refl
marks_marked [] (cell c r k s) h = absurd (omega arith)
marks_marked (m ∷ ms) (final c r) h = absurd (omega arith)
marks_marked (m ∷ ms) (cell c r k s) h = rw (marks_marked ms s (omega arith))

cells_marked : (n : ℕ) (ms : List Mark) (s : Cells) → CellsOf n s → CellsOf n (marked ms s)
unfolding marked
cells_marked n [] s h = h
cells_marked n (m ∷ ms) (final c r) h = h
cells_marked n (m ∷ ms) (cell c r k s) h = (h.0, h.1, cells_marked n ms s h.2)

-- ---- each change leaves a well-formed sentence
pub set_formed : (i : ℕ) (m : Mark) (s : Sentence) → Formed s → Formed (set_boundary_of i m s)
unfolding set_boundary_of
set_formed i m s f = record {
  cells_are = cells_set s.columns i m s.cells f.cells_are;
  text_fits = rw (text_set i m s.cells) f.text_fits;
  columns_fit = f.columns_fit;
  bytes_fit = rw (rows_set i m s.cells) f.bytes_fit;
}

pub reset_formed : (c : ℕ) (s : Sentence) → c ≤ 4096 → Formed s → Formed (reset_tags_of c s)
unfolding reset_tags_of
reset_formed c s h f = record {
  cells_are = cells_bare s.columns c s.cells f.cells_are;
  text_fits = rw (text_bare s.cells) f.text_fits;
  columns_fit = h;
  bytes_fit = rw (rows_bare s.cells, no_tag_bytes) (omega arith);
}

pub marked_formed : (ms : List Mark) (s : Sentence) → Formed s → Formed (record { cells = marked ms s.cells; columns = s.columns })
marked_formed ms s f = record {
  cells_are = cells_marked s.columns ms s.cells f.cells_are;
  text_fits = rw (text_marked ms s.cells) f.text_fits;
  columns_fit = f.columns_fit;
  bytes_fit = rw (rows_marked ms s.cells) f.bytes_fit;
}
