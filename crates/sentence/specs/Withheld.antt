-- A sentence with columns cut back to those in use, and one with the labels of a range of characters withheld.
use Rattle.std.specs.Prelude.{ℕ, suc, ◌+◌, ◌≤◌, ◌<◌, max, ◌≡◌, Bool, true, false, ◌&&◌, ◌||◌, [], leb, ltb, length, get_or}
use Rattle.laws.specs.If.{when◌then◌else◌}
use Rattle.sentence.specs.Sentence.{Tag, none, unknown, Cells, final, cell, Sentence, text, marks, rows, count}

-- character i is one of those from b up to e
unfoldable pub in_range : ℕ → ℕ → ℕ → Bool
in_range b e i = leb b i && ltb i e

-- boundary i stands between the characters i and i + 1, and touches one of the range
unfoldable pub touches : ℕ → ℕ → ℕ → Bool
touches b e i = in_range b e i || in_range b e (i + 1)

-- the cells from the i-th character on: no tag in the range, no known boundary that touches it
unfoldable pub hidden : ℕ → ℕ → ℕ → Cells → Cells
hidden b e i (final c r) = final c (when in_range b e i then [] else r)
hidden b e i (cell c r m s) = cell c (when in_range b e i then [] else r) (when touches b e i then unknown else m) (hidden b e (i + 1) s)

-- the columns in use: a row ends at its last present tag, so the longest row ends at the last column that has one
unfoldable pub widest : Cells → ℕ
widest (final c r) = length r
widest (cell c r m s) = max (length r) (widest s)

-- as it is, with only those columns
unfoldable pub trimmed : Sentence → Sentence
trimmed s = record { cells = s.cells; columns = widest s.cells }

-- the withheld copy
unfoldable pub withheld : ℕ → ℕ → Sentence → Sentence
withheld b e s = trimmed (record { cells = hidden b e 0 s.cells; columns = s.columns })

-- the tag of a character in a column; one past the row is absent
abbrev pub tag_in : Sentence → ℕ → ℕ → Tag
tag_in s i j = get_or (get_or (rows s) i []) j []

-- text, boundaries and present tags with their columns agree
pub record SameNote (s t : Sentence) : Type 0 where
  pub texts : text s ≡ text t
  pub boundaries : marks s ≡ marks t
  pub tags : (i j : ℕ) → tag_in s i j ≡ tag_in t i j

-- the same text, the same boundaries that do not touch the range, the same present tags outside it
pub record Outside (b e : ℕ) (s t : Sentence) : Type 0 where
  pub texts : text s ≡ text t
  pub boundaries : (i : ℕ) → touches b e i ≡ false → get_or (marks s) i none ≡ get_or (marks t) i none
  pub tags : (i j : ℕ) → in_range b e i ≡ false → tag_in s i j ≡ tag_in t i j

-- t is the withheld copy of s
pub record Copy (b e : ℕ) (s t : Sentence) : Type 0 where
  -- they agree outside the range
  pub agrees : Outside b e s t
  -- every boundary that touches it is unknown
  pub unknowns : (i : ℕ) → i + 1 < count s → touches b e i ≡ true → get_or (marks t) i none ≡ unknown
  -- every tag in it is absent
  pub absents : (i j : ℕ) → in_range b e i ≡ true → tag_in t i j ≡ []
  -- columns are the last column with a present tag outside it: none is present past it, and one is where it ends
  pub none_past : (i j : ℕ) → in_range b e i ≡ false → t.columns ≤ j → tag_in s i j ≡ []
  pub one_last : (j : ℕ) → t.columns ≡ suc j → (i : ℕ) × (in_range b e i ≡ false) × (tag_in s i j ≡ [] → ⊥)
