-- Joining lines over the public functions: what two lines with a boundary's sign between them read as, and what reading them leaves.
use Rattle.std.specs.Prelude.{ℕ, ◌+◌, ◌-◌, ◌*◌, ◌≤◌, ◌<◌, max, ◌≡◌, ◌↔◌, true, false, List, [], ◌∷◌, ◌++◌, length, get_or}
use Rattle.sentence.specs.Sentence.{Mark, word, unknown, Sentence}
use Rattle.sentence.specs.declared.Form.{Form}
use Rattle.sentence.specs.declared.Form.TheVariants.{Raw as raw, Tokenized as tokenized, Partial as partial}
use Rattle.sentence.specs.Reading.{Annotated, sentence, refused, read}
use Rattle.sentence.specs.Writing.{written}
use Rattle.sentence.specs.Joined.{join, IsJoin, join_all, JoinsBy, glued, glued_all, ends_lone, Chain}
use Rattle.sentence.specs.Withheld.{SameNote}
use Rattle.sheet.specs.declared.Record.{Record}
use Rattle.sheet.specs.Answers.{Answer}
use Rattle.sheet.specs.Layout.{Buffers, record_of, room_for, Holds, spell}
use Rattle.read_load.specs.Load.{ReadDoes}
use Rattle.demands.specs.Calls.{Laid}
use Rattle.demands.specs.Demand2.{Taken}
use Rattle.demands.specs.Demand3.{Spelt, Tokenwise}
use Rattle.demands.specs.Keys.{LineKey}

-- two lines are accepted, and with what stands for the boundary m between them they read as their sentences joined by it
pub record Joins (f : Form) (m : Mark) (x y : List ℕ) : Type 0 where
  pub left : Sentence
  pub right : Sentence
  pub left_is : read f x ≡ sentence left
  pub right_is : read f y ≡ sentence right
  pub both : read f (glued f m x y) ≡ sentence (join m left right)

-- what a form writes of the sentence, it reads back to it
abbrev pub Survives : Form → Sentence → Type 0
Survives raw s = ⊥
Survives tokenized s = Tokenwise s
Survives partial s = Unit {0}

-- the numbers of the joined sentence of two: sums, but for the columns, which are the larger
pub record Sums (s t u : Record) : Type 0 where
  pub characters : u.n ≡ s.n + t.n
  pub text_bytes : u.b ≡ s.b + t.b
  pub column_count : u.columns ≡ max s.columns t.columns
  pub cell_count : u.cells ≡ (s.n + t.n) * max s.columns t.columns
  pub tag_bytes : u.g ≡ s.g + t.g

pub record JoinedLines : Type 0 where
  -- two lines as a writer writes them, neither of them empty, joined within 4,096 bytes, read as the two sentences joined
  pub written_lines : (f : Form) → Annotated f → (m : Mark) → JoinsBy f m → (r q : Record) (d c : Buffers) (x y : List ℕ) → Spelt f r d x → Spelt f q c y
      → (x ≡ [] → ⊥) → (y ≡ [] → ⊥) → length (glued f m x y) ≤ 4096 → Joins f m x y
  -- so do any two lines that are accepted, of which the first does not end behind a lone backslash
  pub lines : (f : Form) (m : Mark) → JoinsBy f m → (x y : List ℕ) (s t : Sentence) → read f x ≡ sentence s → read f y ≡ sentence t
      → ends_lone f x ≡ false → length (glued f m x y) ≤ 4096 → read f (glued f m x y) ≡ sentence (join m s t)
  -- and of annotated ones no others: behind a lone backslash what stands between them is no boundary
  pub exactly : (f : Form) → Annotated f → (m : Mark) → JoinsBy f m → (x y : List ℕ) (s t : Sentence) → read f x ≡ sentence s → read f y ≡ sentence t
      → length (glued f m x y) ≤ 4096 → (read f (glued f m x y) ≡ sentence (join m s t)) ↔ (ends_lone f x ≡ false)
  -- no raw line ends so: two of them join with nothing between
  pub raw_lines : (x y : List ℕ) (s t : Sentence) → read raw x ≡ sentence s → read raw y ≡ sentence t → length x + length y ≤ 4096
      → read raw (x ++ y) ≡ sentence (join unknown s t)
  -- and any number of lines, with that boundary between each two
  pub many_lines : (f : Form) (m : Mark) → JoinsBy f m → (x : List ℕ) (xs : List (List ℕ)) (s : Sentence) (ss : List Sentence) → Chain f x xs s ss
      → length (glued_all f m x xs) ≤ 4096 → read f (glued_all f m x xs) ≡ sentence (join_all m s ss)
  -- past 4,096 bytes they are refused
  pub too_long : (f : Form) (m : Mark) (x y : List ℕ) → 4096 < length (glued f m x y) → read f (glued f m x y) ≡ refused 1 4096
  -- given room, reading the joined line leaves the join of what reading the two lines leaves
  pub leaves : (f : Form) (m : Mark) → JoinsBy f m → (x y : List ℕ) (r q : Record) (d c b e : Buffers) (a : Answer) → Laid f x r d → Laid f y q c
      → ends_lone f x ≡ false → length (glued f m x y) ≤ 4096 → room_for (record_of (join m (spell r d) (spell q c))) b ≡ true
      → ReadDoes (read f (glued f m x y)) b a e → Taken (join m (spell r d) (spell q c)) b a e
  -- of two sheets that were written in a form that can read them back, it leaves the join of the two
  pub sheets_leave : (f : Form) (m : Mark) → JoinsBy f m → (r q : Record) (d c b e : Buffers) (s t : Sentence) (x y : List ℕ) (a : Answer) → Holds r d s
      → Holds q c t → Survives f s → Survives f t → Spelt f r d x → Spelt f q c y → length (glued f m x y) ≤ 4096 → room_for (record_of (join m s t)) b ≡ true
      → ReadDoes (read f (glued f m x y)) b a e → Taken (join m s t) b a e
  -- there are such readings, by the room that the joined sentence takes
  pub readable : (f : Form) (m : Mark) → JoinsBy f m → (x y : List ℕ) (s t : Sentence) → read f x ≡ sentence s → read f y ≡ sentence t
      → ends_lone f x ≡ false → length (glued f m x y) ≤ 4096 → (c : Buffers) × Laid f (glued f m x y) (record_of (join m s t)) c
  pub room : (m : Mark) (s t : Sentence) → Sums (record_of s) (record_of t) (record_of (join m s t))
  -- no line that a writer writes ends behind a lone backslash, and none that does not end in a backslash
  pub written_ends : (f : Form) → Annotated f → (r : Record) (d : Buffers) (x : List ℕ) → Spelt f r d x → ends_lone f x ≡ false
  pub plain_ends : (f : Form) (x : List ℕ) (s : Sentence) → read f x ≡ sentence s → (get_or x (length x - 1) 0 ≡ 92 → ⊥) → ends_lone f x ≡ false
  -- one that does reads the same without it, and can then be joined
  pub lone_dropped : (f : Form) (x : List ℕ) (s : Sentence) → read f x ≡ sentence s → ends_lone f x ≡ true
      → (w : List ℕ) × (x ≡ w ++ (92 ∷ [])) × (read f w ≡ sentence s) × (ends_lone f w ≡ false)
  -- the joined sentence has the characters, the boundaries and the tags of both, m between them, and the larger number of columns; no other has
  pub is_join : (m : Mark) (s t : Sentence) → IsJoin m s t (join m s t)
  pub only_join : (m : Mark) (s t u : Sentence) → IsJoin m s t u → u ≡ join m s t
  -- joining is associative, of sentences and of lines
  pub associates : (m k : Mark) (s t u : Sentence) → join m (join k s t) u ≡ join k s (join m t u)
  pub lines_associate : (f : Form) (m k : Mark) (x y z : List ℕ) → glued f m (glued f k x y) z ≡ glued f k x (glued f m y z)
  -- the same notes, however they are spelled and in whatever forms, joined by one boundary have one key
  pub same_keys : (f g : Form) (m : Mark) → JoinsBy f m → JoinsBy g m → (x y u v k l : List ℕ) (s t p q : Sentence) → read f x ≡ sentence s
      → read f y ≡ sentence t → read g u ≡ sentence p → read g v ≡ sentence q → ends_lone f x ≡ false → ends_lone g u ≡ false
      → length (glued f m x y) ≤ 4096 → length (glued g m u v) ≤ 4096 → SameNote s p → SameNote t q
      → LineKey f (glued f m x y) k → LineKey g (glued g m u v) l → k ≡ l
  -- with as many columns on both sides, lines joined by a word boundary are written as their written lines joined
  pub written_joined : (f : Form) → Annotated f → (x y : List ℕ) (s t : Sentence) → read f x ≡ sentence s → read f y ≡ sentence t → s.columns ≡ t.columns
      → written f (join word s t) ≡ glued f word (written f s) (written f t)
