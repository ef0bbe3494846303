-- Two sentences joined by a boundary, and two lines joined by what stands for it between them.
use Rattle.std.specs.Prelude.{ℕ, max, ◌≡◌, Bool, true, false, List, [], ◌∷◌, ◌++◌}
use Prim.Native.Char.{code as chr}
use Rattle.utf8.specs.Utf8.{scalars}
use Rattle.sentence.specs.Sentence.{Mark, word, unknown, Cells, final, cell, Sentence, text, marks, rows}
use Rattle.sentence.specs.declared.Form.{Form}
use Rattle.sentence.specs.declared.Form.TheVariants.{Raw as raw, Tokenized as tokenized, Partial as partial}
use Rattle.sentence.specs.Reading.{start, State, at, escaped, Step, go, stop, advance, sentence, read}
use Rattle.sentence.specs.Writing.{sign}

-- the cells of both, with the boundary m between them
unfoldable pub join_cells : Mark → Cells → Cells → Cells
join_cells m (final c r) t = cell c r m t
join_cells m (cell c r k s) t = cell c r k (join_cells m s t)

-- and the larger number of columns
unfoldable pub join : Mark → Sentence → Sentence → Sentence
join m s t = record { cells = join_cells m s.cells t.cells; columns = max s.columns t.columns }

-- u is s and t joined by m: its characters, its boundaries, its rows of tags and its columns
pub record IsJoin (m : Mark) (s t u : Sentence) : Type 0 where
  pub texts : text u ≡ text s ++ text t
  pub boundaries : marks u ≡ marks s ++ (m ∷ marks t)
  pub tags : rows u ≡ rows s ++ rows t
  pub column_count : u.columns ≡ max s.columns t.columns

-- one sentence or more, with that boundary between each two
unfoldable pub join_all : Mark → Sentence → List Sentence → Sentence
join_all m s [] = s
join_all m s (t ∷ ts) = join m s (join_all m t ts)

-- ---- lines
-- lines of a form are joined by these boundaries: raw ones by an unknown one, tokenized ones by a word's, partial ones by any
abbrev pub JoinsBy : Form → Mark → Type 0
JoinsBy raw m = m ≡ unknown
JoinsBy tokenized m = m ≡ word
JoinsBy partial m = Unit {0}

-- what stands between them: nothing, a space, the boundary's sign
unfoldable pub glue : Form → Mark → List ℕ
glue raw m = []
glue tokenized m = chr " " ∷ []
glue partial m = sign m ∷ []

abbrev pub glued : Form → Mark → List ℕ → List ℕ → List ℕ
glued f m x y = x ++ (glue f m ++ y)

-- one line or more
unfoldable pub glued_all : Form → Mark → List ℕ → List (List ℕ) → List ℕ
glued_all f m x [] = x
glued_all f m x (y ∷ ys) = glued f m x (glued_all f m y ys)

-- ---- a lone backslash
-- a backslash stands before the next character
unfoldable pub awaits : State → Bool
awaits (at p) = false
awaits (escaped p) = true

-- where a step leads; one that is refused leads nowhere
unfoldable pub onward : Step → (State → Bool) → Bool
onward (go σ a) more = more σ
onward (stop e) more = false

-- these characters end behind a backslash that escapes nothing
unfoldable pub lone : Form → State → List ℕ → Bool
lone f σ [] = awaits σ
lone f σ (c ∷ x) = onward (advance f σ c) (λ σ'. lone f σ' x)

-- a line does
abbrev pub ends_lone : Form → List ℕ → Bool
ends_lone f x = lone f (at start) (scalars x)

-- lines that are read to these sentences, one by one, of which each but the last does not
abbrev pub Chain : Form → List ℕ → List (List ℕ) → Sentence → List Sentence → Type 0
Chain f x [] s [] = read f x ≡ sentence s
Chain f x [] s (t ∷ ts) = ⊥
Chain f x (y ∷ ys) s [] = ⊥
Chain f x (y ∷ ys) s (t ∷ ts) = (read f x ≡ sentence s) × (ends_lone f x ≡ false) × Chain f y ys t ts
