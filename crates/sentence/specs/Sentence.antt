-- A sentence as a value, apart from its memory: characters, boundaries, columns and rows of tags.
use Rattle.std.specs.Prelude.{ℕ, ◌+◌, ◌-◌, ◌≤◌, ◌≡◌, true, false, List, [], ◌∷◌, ◌++◌, map, eqb, length, replicate}
use Rattle.laws.specs.All.{All}
use Rattle.utf8.specs.Utf8.{scalar, width, size}
use Rattle.types.specs.TypeOf.{type_of}

-- a tag is its characters; an absent one has none
abbrev pub Tag : Type 0
Tag = List ℕ

-- a boundary between two characters
pub data Mark : Type 0 where
  none word unknown : Mark

-- the number of a boundary: 0 none, 1 word, 2 unknown
unfoldable pub code : Mark → ℕ
code none = 0
code word = 1
code unknown = 2

-- one character after another, each with its row of tags and, before the last, the boundary behind it
pub data Cells : Type 0 where
  final : ℕ → List Tag → Cells
  cell : ℕ → List Tag → Mark → Cells → Cells

pub record Sentence : Type 0 where
  pub cells : Cells
  pub columns : ℕ

-- the N characters
unfoldable pub text_of : Cells → List ℕ
text_of (final c r) = c ∷ []
text_of (cell c r m s) = c ∷ text_of s

-- the N-1 boundaries
unfoldable pub marks_of : Cells → List Mark
marks_of (final c r) = []
marks_of (cell c r m s) = m ∷ marks_of s

-- the N rows, each listing its character's tags up to the last present one
unfoldable pub rows_of : Cells → List (List Tag)
rows_of (final c r) = r ∷ []
rows_of (cell c r m s) = r ∷ rows_of s

abbrev pub text : Sentence → List ℕ
text s = text_of s.cells

abbrev pub marks : Sentence → List Mark
marks s = marks_of s.cells

abbrev pub rows : Sentence → List (List Tag)
rows s = rows_of s.cells

-- N
abbrev pub count : Sentence → ℕ
count s = length (text s)

-- the types, those of the text
abbrev pub types : List ℕ → List ℕ
types cs = map type_of cs

-- the byte start of each character of a text that starts at `at`, then its end
unfoldable pub starts : ℕ → List ℕ → List ℕ
starts at [] = at ∷ []
starts at (c ∷ cs) = at ∷ starts (at + width c) cs

-- for each byte the number of the character that starts there, from k on, and 0 inside one; at the end the number after the last
unfoldable pub numbers : ℕ → List ℕ → List ℕ
numbers k [] = k ∷ []
numbers k (c ∷ cs) = k ∷ (replicate (width c - 1) 0 ++ numbers (k + 1) cs)

abbrev pub char_positions : List ℕ → List ℕ
char_positions cs = starts 0 cs

abbrev pub byte_positions : List ℕ → List ℕ
byte_positions cs = numbers 0 cs

-- a row up to its last present tag
unfoldable pub onto : Tag → List Tag → List Tag
onto [] [] = []
onto (c ∷ t) [] = (c ∷ t) ∷ []
onto t (u ∷ us) = t ∷ u ∷ us

unfoldable pub cut : List Tag → List Tag
cut [] = []
cut (t ∷ ts) = onto t (cut ts)

-- a row with absent tags up to n columns: a row of Rust's padded table
unfoldable pub pad : ℕ → List Tag → List Tag
pad n r = r ++ replicate (n - length r) []

abbrev pub table : Sentence → List (List Tag)
table s = map (pad s.columns) (rows s)

-- how many tags are listed
unfoldable pub listed : List (List Tag) → ℕ
listed [] = 0
listed (r ∷ rs) = length r + listed rs

-- how many bytes the tags of a row take, and those of all rows
unfoldable pub row_bytes : List Tag → ℕ
row_bytes [] = 0
row_bytes (t ∷ ts) = size t + row_bytes ts

unfoldable pub tag_bytes : List (List Tag) → ℕ
tag_bytes [] = 0
tag_bytes (r ∷ rs) = row_bytes r + tag_bytes rs

-- ---- what makes a sentence well formed
-- a character of UTF-8 that is not NUL
pub record Char (c : ℕ) : Type 0 where
  pub is_scalar : scalar c ≡ true
  pub not_nul : eqb c 0 ≡ false

-- a row of at most n tags that ends in a present one
pub record Row (n : ℕ) (r : List Tag) : Type 0 where
  pub chars : All (All Char) r
  pub is_cut : cut r ≡ r
  pub fits : length r ≤ n

abbrev pub CellsOf : ℕ → Cells → Type 0
CellsOf n (final c r) = Char c × Row n r
CellsOf n (cell c r m s) = Char c × Row n r × CellsOf n s

-- within the limits: B and columns at most 4,096, G at most 65,535; N is at least 1 by its making
pub record Formed (s : Sentence) : Type 0 where
  pub cells_are : CellsOf s.columns s.cells
  pub text_fits : size (text s) ≤ 4096
  pub columns_fit : s.columns ≤ 4096
  pub bytes_fit : tag_bytes (rows s) ≤ 65535

-- text, boundaries, column count and padded tags agree
pub record Agree (s t : Sentence) : Type 0 where
  pub texts : text s ≡ text t
  pub boundaries : marks s ≡ marks t
  pub column_counts : s.columns ≡ t.columns
  pub padded_tags : table s ≡ table t

-- no boundary is unknown
abbrev pub NoUnknown : Sentence → Type 0
NoUnknown s = All (λ m. m ≡ unknown → ⊥) (marks s)

-- no present tag is inside a token: a character that is not its token's last bears none
abbrev pub NoneInside : Cells → Type 0
NoneInside (final c r) = Unit {0}
NoneInside (cell c r none s) = All (λ t. t ≡ []) r × NoneInside s
NoneInside (cell c r word s) = NoneInside s
NoneInside (cell c r unknown s) = All (λ t. t ≡ []) r × NoneInside s
