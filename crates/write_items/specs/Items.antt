-- Slices of a buffer that are told by where they start and how long they are: the tags of tag bytes, and the rows of tags.
use Rattle.std.specs.Prelude.{ℕ, zero, suc, ◌+◌, ◌-◌, ◌*◌, ◌≤◌, ◌<◌, ◌≡◌, List, [], ◌∷◌, ◌++◌, eqb, Option, Some, None, ltb, length, take, drop, get_or}
use Rattle.laws.specs.If.{when◌then◌else◌}
use Rattle.sentence.specs.Sentence.{Tag, pad}
use Rattle.sentence.specs.declared.Form.{Form}
use Rattle.sentence.specs.declared.Form.TheVariants.{Tokenized as tokenized, Partial as partial}
use Rattle.sentence.specs.Writing.{escape, write_tags}
use Rattle.sheet.specs.declared.Record.{Record}
use Rattle.sheet.specs.declared.Sheet.{Sheet as Lent}

-- the tag of the k-th cell, as bytes
unfoldable pub cell_tag : List ℕ → List ℕ → List ℕ → ℕ → Tag
cell_tag ss ls d k = drop (get_or ss k 0) (take (get_or ss k 0 + get_or ls k 0) d)

-- the tags of n cells, from the k-th on
unfoldable pub cell_tags : List ℕ → List ℕ → List ℕ → ℕ → ℕ → List Tag
cell_tags ss ls d k zero = []
cell_tags ss ls d k (suc n) = cell_tag ss ls d k ∷ cell_tags ss ls d (k + 1) n

-- how many of the n cells from the k-th on there are up to the last one that has a length
unfoldable pub used_at : List ℕ → ℕ → ℕ → ℕ
used_at ls k zero = 0
used_at ls k (suc n) = when eqb (get_or ls (k + n) 0) 0 then used_at ls k n else suc n

-- how many tags the i-th row lists, of rows that have m cells each
abbrev pub count_at : List ℕ → ℕ → ℕ → ℕ
count_at ls m i = used_at ls (i * m) m

-- the tags that the i-th row lists, as bytes
unfoldable pub row_at : List ℕ → List ℕ → List ℕ → ℕ → ℕ → List Tag
row_at ss ls d m i = cell_tags ss ls d (i * m) (count_at ls m i)

-- how many tag bytes stand before the k-th cell: it starts where the one before it ends
abbrev pub bytes_to : List ℕ → List ℕ → ℕ → ℕ
bytes_to ss ls zero = 0
bytes_to ss ls (suc k) = get_or ss k 0 + get_or ls k 0

-- what is written of a row: its tags, and absent ones up to n columns
abbrev pub row_line : Form → ℕ → List Tag → List ℕ
row_line f n r = write_tags f (pad n r)

-- the first n cells are no more than a sheet has, and each starts where the one before it ends
pub record Follow (ss ls : List ℕ) (n : ℕ) : Type 0 where
  pub few : n ≤ 16777216
  pub starts : n ≤ length ss
  pub lengths : n ≤ length ls
  pub follows : (k : ℕ) → k < n → get_or ss k 0 ≡ bytes_to ss ls k

-- and none ends past `top`
pub record Lie (ss ls : List ℕ) (n top : ℕ) : Type 0 where
  pub cells : Follow ss ls n
  pub within : (k : ℕ) → k < n → get_or ss k 0 + get_or ls k 0 ≤ top

-- the i-th row lies in d, and the rows before it
abbrev pub RowLies : List ℕ → List ℕ → List ℕ → ℕ → ℕ → Type 0
RowLies ss ls d m i = Lie ss ls (i * m + m) (length d)

-- the characters from b up to e lie in the text
pub record TextLies (ps text : List ℕ) (b e : ℕ) : Type 0 where
  pub from : b < length ps
  pub upto : e < length ps
  pub rises : get_or ps b 0 ≤ get_or ps e 0
  pub within : get_or ps e 0 ≤ length text

-- the bytes of the characters from b up to e
abbrev pub text_at : List ℕ → List ℕ → ℕ → ℕ → List ℕ
text_at ps text b e = drop (get_or ps b 0) (take (get_or ps e 0) text)

-- the i-th character as the partial form writes it, with the n columns asked for, of rows that have m cells each
abbrev pub char_line : ℕ → List ℕ → List ℕ → List ℕ → List ℕ → List ℕ → ℕ → ℕ → List ℕ
char_line n text ps ss ls d m i = text_at ps text i (i + 1) ++ row_line partial n (row_at ss ls d m i)

-- the characters from b up to e as a token of n columns
abbrev pub token_line : ℕ → List ℕ → List ℕ → List ℕ → List ℕ → List ℕ → ℕ → ℕ → List ℕ
token_line n text ps ss ls d b e = escape tokenized (text_at ps text b e) ++ row_line tokenized n (row_at ss ls d n (e - 1))

-- ---- the same of a sheet's buffers, whose rows have as many cells as its record says
-- its first n cells follow one another, and its i-th row lies in its tag bytes
abbrev pub FollowIn : Lent → ℕ → Type 0
FollowIn s n = Follow s.cell_starts.now s.cell_lengths.now n

abbrev pub RowIn : Lent → ℕ → Type 0
RowIn s i = RowLies s.cell_starts.now s.cell_lengths.now s.tag_bytes.now s.record.columns i

-- its characters from b up to e lie in its text
abbrev pub TextIn : Lent → ℕ → ℕ → Type 0
TextIn s b e = TextLies s.char_pos.now s.text.now b e

-- how many tags its i-th row lists
abbrev pub count_in : Lent → ℕ → ℕ
count_in s i = count_at s.cell_lengths.now s.record.columns i

-- how many tag bytes stand before its k-th cell
abbrev pub bytes_in : Lent → ℕ → ℕ
bytes_in s k = bytes_to s.cell_starts.now s.cell_lengths.now k

-- the tags of its cells from the k-th up to e, as they are written
abbrev pub tags_in : Form → Lent → ℕ → ℕ → List ℕ
tags_in f s k e = write_tags f (cell_tags s.cell_starts.now s.cell_lengths.now s.tag_bytes.now k (e - k))

-- its i-th row as it is written with n columns
abbrev pub row_in : Form → ℕ → Lent → ℕ → List ℕ
row_in f n s i = row_line f n (row_at s.cell_starts.now s.cell_lengths.now s.tag_bytes.now s.record.columns i)

-- the bytes of its characters from b up to e, its i-th character with n columns, and the token from b up to e
abbrev pub text_in : Lent → ℕ → ℕ → List ℕ
text_in s b e = text_at s.char_pos.now s.text.now b e

abbrev pub char_in : ℕ → Lent → ℕ → List ℕ
char_in n s i = char_line n s.text.now s.char_pos.now s.cell_starts.now s.cell_lengths.now s.tag_bytes.now s.record.columns i

abbrev pub token_in : Lent → ℕ → ℕ → List ℕ
token_in s b e = token_line s.record.columns s.text.now s.char_pos.now s.cell_starts.now s.cell_lengths.now s.tag_bytes.now b e

-- ---- room for a line
-- no line of a sheet is longer: every byte escaped, all columns of every character, and a sign or a space behind it
unfoldable pub most_of : Record → ℕ
most_of r = 2 * r.b + r.n * (r.columns + 1) + 2 * r.g

-- the limits of a record that the bound is reckoned within
pub record Limited (r : Record) : Type 0 where
  pub n_few : r.n ≤ 4096
  pub b_few : r.b ≤ 4096
  pub columns_few : r.columns ≤ 4096
  pub g_few : r.g ≤ 65535

-- the length needed, where there is less room
unfoldable pub short_of : ℕ → ℕ → Option ℕ
short_of room n = when ltb room n then Some n else None
