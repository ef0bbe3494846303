-- The partial line of a sheet with a range of its characters hidden, and the stretches that it is made of.
use Rattle.std.specs.Prelude.{ℕ, zero, suc, ◌+◌, ◌-◌, ◌≤◌, ◌<◌, List, [], ◌∷◌, ◌++◌, eqb, get_or, replicate}
use Prim.Native.Char.{code as chr}
use Rattle.laws.specs.If.{when◌then◌else◌}
use Rattle.sentence.specs.Sentence.{Sentence}
use Rattle.sentence.specs.declared.Form.TheVariants.{Partial as partial}
use Rattle.sentence.specs.Writing.{sign, written}
use Rattle.sentence.specs.Withheld.{hidden, widest}
use Rattle.sheet.specs.declared.Record.{Record}
use Rattle.sheet.specs.declared.Sheet.{Sheet as Lent}
use Rattle.sheet.specs.Layout.{Buffers, mark_of, spell}
use Rattle.sheet.specs.Views.{spelled}
use Rattle.write_items.specs.Items.{count_at, TextLies, RowLies, text_at, char_line}

-- n columns, and no label that belongs to a character from b up to e
abbrev pub shown_of : ℕ → ℕ → ℕ → Sentence → Sentence
shown_of n b e s = record { cells = hidden b e 0 s.cells; columns = n }

-- what is asked for a line of n columns that hides the characters from b up to e: they are there, and no row that shows has more columns
pub record Asked (r : Record) (d : Buffers) (n b e : ℕ) : Type 0 where
  pub ordered : b ≤ e
  pub inside : e ≤ r.n
  pub enough : widest (hidden b e 0 (spell r d).cells) ≤ n
  pub narrow : n ≤ r.columns

-- the text of the first n characters lies in `text`
pub record Spread (ps text : List ℕ) (n : ℕ) : Type 0 where
  pub lies : (i : ℕ) → i < n → TextLies ps text i (i + 1)

-- the first n rows, of m cells each, lie in `ds`
pub record Rows (ss ls ds : List ℕ) (m n : ℕ) : Type 0 where
  pub lies : (i : ℕ) → i < n → RowLies ss ls ds m i

-- the rows from b up to e, of m cells each, list at most n tags
pub record Narrow (ls : List ℕ) (m n b e : ℕ) : Type 0 where
  pub few : (i : ℕ) → b ≤ i → i < e → count_at ls m i ≤ n

-- the k characters from the i-th on with their tags and boundaries, of rows that have m cells each; before a word boundary all n columns
unfoldable pub stretch_of : List ℕ → List ℕ → List ℕ → List ℕ → List ℕ → List ℕ → ℕ → ℕ → ℕ → ℕ → List ℕ
stretch_of text bs ps ss ls ds m n i zero = []
stretch_of text bs ps ss ls ds m n i (suc k) =
    char_line (when eqb (get_or bs i 0) 1 then n else 0) text ps ss ls ds m i ++ (sign (mark_of (get_or bs i 0)) ∷ stretch_of text bs ps ss ls ds m n (i + 1) k)

-- the k characters from the i-th on without a label
unfoldable pub covered_of : List ℕ → List ℕ → ℕ → ℕ → List ℕ
covered_of text ps i zero = []
covered_of text ps i (suc k) = text_at ps text i (i + 1) ++ (chr " " ∷ covered_of text ps (i + 1) k)

-- the first k characters, the last of them before an unknown boundary
unfoldable pub before_of : List ℕ → List ℕ → List ℕ → List ℕ → List ℕ → List ℕ → ℕ → ℕ → ℕ → List ℕ
before_of text bs ps ss ls ds m n zero = []
before_of text bs ps ss ls ds m n (suc p) = stretch_of text bs ps ss ls ds m n 0 p ++ (char_line 0 text ps ss ls ds m p ++ (chr " " ∷ []))

-- the characters from the i-th on to the last
abbrev pub rest_of : List ℕ → List ℕ → List ℕ → List ℕ → List ℕ → List ℕ → ℕ → ℕ → ℕ → ℕ → List ℕ
rest_of text bs ps ss ls ds m n i last = stretch_of text bs ps ss ls ds m n i (last - i) ++ char_line n text ps ss ls ds m last

-- the i-th character, its n columns absent
abbrev pub bare_of : List ℕ → List ℕ → ℕ → ℕ → List ℕ
bare_of text ps n i = text_at ps text i (i + 1) ++ replicate n (chr "/")

-- the slashes of the k characters from the i-th on
unfoldable pub slashes_of : List ℕ → List ℕ → ℕ → ℕ → ℕ → ℕ → ℕ
slashes_of bs ls m n i zero = 0
slashes_of bs ls m n i (suc k) = (when eqb (get_or bs i 0) 1 then n else count_at ls m i) + slashes_of bs ls m n (i + 1) k

-- ---- the same of a sheet's buffers, whose rows have as many cells as its record says
-- the text of its first n characters lies in its buffers, and their rows do too
abbrev pub SpreadIn : Lent → ℕ → Type 0
SpreadIn s n = Spread s.char_pos.now s.text.now n

abbrev pub LieIn : Lent → ℕ → Type 0
LieIn s n = SpreadIn s n × Rows s.cell_starts.now s.cell_lengths.now s.tag_bytes.now s.record.columns n

-- its rows from b up to e list at most n tags
abbrev pub NarrowIn : Lent → ℕ → ℕ → ℕ → Type 0
NarrowIn s n b e = Narrow s.cell_lengths.now s.record.columns n b e

-- its characters from b up to e with their tags and boundaries, before a word boundary with all n columns; their slashes; and their bare text
abbrev pub stretch_in : ℕ → Lent → ℕ → ℕ → List ℕ
stretch_in n s b e =
    stretch_of s.text.now s.boundaries.now s.char_pos.now s.cell_starts.now s.cell_lengths.now s.tag_bytes.now s.record.columns n b (e - b)

abbrev pub slashes_in : ℕ → Lent → ℕ → ℕ → ℕ
slashes_in n s b e = slashes_of s.boundaries.now s.cell_lengths.now s.record.columns n b (e - b)

abbrev pub covered_in : Lent → ℕ → ℕ → List ℕ
covered_in s b e = covered_of s.text.now s.char_pos.now b (e - b)

-- its first k characters, those from the i-th to the last, and the i-th with its n columns absent
abbrev pub before_in : ℕ → Lent → ℕ → List ℕ
before_in n s k =
    before_of s.text.now s.boundaries.now s.char_pos.now s.cell_starts.now s.cell_lengths.now s.tag_bytes.now s.record.columns n k

abbrev pub rest_in : ℕ → Lent → ℕ → ℕ → List ℕ
rest_in n s i last =
    rest_of s.text.now s.boundaries.now s.char_pos.now s.cell_starts.now s.cell_lengths.now s.tag_bytes.now s.record.columns n i last

abbrev pub bare_in : ℕ → Lent → ℕ → List ℕ
bare_in n s i = bare_of s.text.now s.char_pos.now n i

-- the line of n columns that hides its characters from b up to e
abbrev pub line_in : ℕ → Lent → ℕ → ℕ → List ℕ
line_in n s b e = written partial (shown_of n b e (spelled s))
