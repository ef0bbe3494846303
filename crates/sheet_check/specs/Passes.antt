-- The tests of a sheet, each of lists that are the whole of what a record counts: the text with its types and positions, the boundaries, the cells.
use Rattle.std.specs.Prelude.{ℕ, ◌+◌, ◌-◌, ◌≤◌, ◌<◌, ◌≡◌, Bool, true, false, not, ◌&&◌, List, [], ◌∷◌, eqb, leb, length, take, drop, get_or}
use Rattle.utf8.specs.Utf8.{scalars, valid_prefix}
use Rattle.sentence.specs.Sentence.{types, char_positions, byte_positions}

-- two lists are the same
unfoldable pub same : List ℕ → List ℕ → Bool
same [] [] = true
same [] (y ∷ ys) = false
same (x ∷ xs) [] = false
same (x ∷ xs) (y ∷ ys) = eqb x y && same xs ys

-- nothing but 0
unfoldable pub zeros : List ℕ → Bool
zeros [] = true
zeros (x ∷ xs) = eqb x 0 && zeros xs

-- no character is NUL
unfoldable pub no_nul : List ℕ → Bool
no_nul [] = true
no_nul (c ∷ cs) = not (eqb c 0) && no_nul cs

-- the bytes are UTF-8 without NUL
unfoldable pub is_plain : List ℕ → Bool
is_plain s = eqb (valid_prefix s) (length s) && no_nul (scalars s)

-- the text is UTF-8 without NUL, the types and both lists of positions are those of its characters
unfoldable pub is_text : List ℕ → List ℕ → List ℕ → List ℕ → Bool
is_text s ys ps qs =
    is_plain s
    && same (types (scalars s)) ys
    && same (char_positions (scalars s)) ps
    && same (byte_positions (scalars s)) qs

-- a character v of type t, the i-th, in the n bytes from `at` on: it is not NUL, and its type, its start and its number are told
unfoldable pub is_char : ℕ → ℕ → ℕ → ℕ → ℕ → List ℕ → List ℕ → List ℕ → Bool
is_char v t i at n ys ps qs =
    not (eqb v 0)
    && eqb t (get_or ys i 0)
    && eqb at (get_or ps i 0)
    && eqb i (get_or qs at 0)
    && zeros (take (at + n - (at + 1)) (drop (at + 1) qs))

-- room for it
pub record CharFits (i at n : ℕ) (ys ps qs : List ℕ) : Type 0 where
  pub some : 1 ≤ n
  pub few : n ≤ 4
  pub types_fit : i < length ys
  pub starts_fit : i < length ps
  pub numbers_fit : at + n ≤ length qs

-- one position more than types, and than bytes
pub record Places (s ys ps qs : List ℕ) : Type 0 where
  pub starts_long : length ps ≡ length ys + 1
  pub numbers_long : length qs ≡ length s + 1

-- each boundary is 0, 1 or 2
unfoldable pub are_marks : List ℕ → Bool
are_marks [] = true
are_marks (m ∷ ms) = leb m 2 && are_marks ms

-- a cell of l bytes that is told to start at b, where g tag bytes come before it: it does, and its bytes are UTF-8 without NUL
unfoldable pub is_cell : List ℕ → ℕ → ℕ → ℕ → Bool
is_cell s g b l = eqb b g && leb (g + l) (length s) && is_plain (take l (drop g s))

-- the cells from byte g on have these starts and lengths, and the last ends at byte e
unfoldable pub cells_to : List ℕ → ℕ → ℕ → List ℕ → List ℕ → Bool
cells_to s e g [] [] = eqb g e
cells_to s e g [] (l ∷ ls) = false
cells_to s e g (b ∷ bs) [] = false
cells_to s e g (b ∷ bs) (l ∷ ls) = is_cell s g b l && cells_to s e (g + l) bs ls

-- the last of them ends with the bytes
unfoldable pub are_cells : List ℕ → ℕ → List ℕ → List ℕ → Bool
are_cells s g bs ls = cells_to s (length s) g bs ls

-- each of these cells is absent, behind g tag bytes
unfoldable pub are_absent : ℕ → List ℕ → List ℕ → Bool
are_absent g [] ls = true
are_absent g (b ∷ bs) [] = true
are_absent g (b ∷ bs) (l ∷ ls) = eqb b g && eqb l 0 && are_absent g bs ls

-- cells that are to start at byte g, as many starts as lengths
pub record Row (g : ℕ) (s bs ls : List ℕ) : Type 0 where
  pub inside : g ≤ length s
  pub even : length bs ≡ length ls
