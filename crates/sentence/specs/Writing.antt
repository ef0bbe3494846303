-- Tokens, the written lines, the note key, and the changes of a sentence.
use Rattle.std.specs.Prelude.{ℕ, zero, suc, ◌+◌, ◌-◌, Bool, true, false, List, [], ◌∷◌, ◌++◌, map, leb, ℤ, pos, negsuc, length, take, drop, get_or}
use Prim.Native.Char.{code as chr}
use Rattle.laws.specs.If.{when◌then◌else◌}
use Rattle.utf8.specs.Utf8.{encodes}
use Rattle.sentence.specs.Sentence.{Tag, Mark, none, word, unknown, Cells, final, cell, Sentence, text, marks, rows, cut, pad}
use Rattle.sentence.specs.Withheld.{trimmed}
use Rattle.sentence.specs.declared.Form.{Form}
use Rattle.sentence.specs.declared.Form.TheVariants.{Raw as raw, Tokenized as tokenized, Partial as partial}
use Rattle.sentence.specs.Reading.{Kind, mark, slash, back, plain, kind}

-- ---- tokens
pub data Token : Type 0 where
  token : ℕ → ℕ → Token

-- The tokens between word boundaries, where one began at b and e characters are passed, before the boundaries given.
-- One that has an unknown boundary is no longer known, and is skipped.
unfoldable pub tokens : Bool → ℕ → ℕ → List Mark → List Token
tokens true b e [] = token b e ∷ []
tokens false b e [] = []
tokens k b e (none ∷ ms) = tokens k b (e + 1) ms
tokens k b e (unknown ∷ ms) = tokens false b (e + 1) ms
tokens true b e (word ∷ ms) = token b e ∷ tokens true e (e + 1) ms
tokens false b e (word ∷ ms) = tokens true e (e + 1) ms

-- the tokens from a character on, where one is taken to begin
abbrev pub tokens_from : List Mark → ℕ → List Token
tokens_from ms p = tokens true p (p + 1) (drop p ms)

-- a step of the cursor serves a token, whose end is the next cursor, or is done and says where
pub data Served : Type 0 where
  serves : Token → Served
  done : ℕ → Served

unfoldable pub first : ℕ → List Token → Served
first n [] = done n
first n (t ∷ ts) = serves t

unfoldable pub next_token_of : List Mark → ℕ → ℕ → Served
next_token_of ms n p = when leb n p then done p else first n (tokens_from ms p)

-- the characters from b up to e
abbrev pub surface : Sentence → ℕ → ℕ → List ℕ
surface s b e = take (e - b) (drop b (text s))

-- ---- lines, as characters
-- a backslash before what a form gives a meaning
unfoldable pub escape_as : Kind → ℕ → List ℕ
escape_as (mark m) c = chr "\\" ∷ c ∷ []
escape_as slash c = chr "\\" ∷ c ∷ []
escape_as back c = chr "\\" ∷ c ∷ []
escape_as plain c = c ∷ []

unfoldable pub escape : Form → List ℕ → List ℕ
escape f [] = []
escape f (c ∷ cs) = escape_as (kind f c) c ++ escape f cs

-- each tag behind a slash
unfoldable pub write_tags : Form → List Tag → List ℕ
write_tags f [] = []
write_tags f (t ∷ ts) = chr "/" ∷ (escape f t ++ write_tags f ts)

-- a token's surface and all columns of its last character
unfoldable pub write_token : Sentence → Token → List ℕ
write_token s (token b e) = escape tokenized (surface s b e) ++ write_tags tokenized (pad s.columns (get_or (rows s) (e - 1) []))

unfoldable pub joined : List (List ℕ) → List ℕ
joined [] = []
joined (w ∷ []) = w
joined (w ∷ v ∷ ws) = w ++ (chr " " ∷ joined (v ∷ ws))

-- the sign of a boundary
unfoldable pub sign : Mark → ℕ
sign none = chr "-"
sign word = chr "|"
sign unknown = chr " "

-- the tags written before a boundary: all columns before a word boundary, else through the last present one
unfoldable pub shown : ℕ → Mark → List Tag → List Tag
shown n none r = cut r
shown n word r = pad n r
shown n unknown r = cut r

-- each character, its tags, its mark; the last writes all columns
unfoldable pub write_partial : ℕ → Cells → List ℕ
write_partial n (final c r) = c ∷ write_tags partial (pad n r)
write_partial n (cell c r m s) = c ∷ (write_tags partial (shown n m r) ++ (sign m ∷ write_partial n s))

unfoldable pub line : Form → Sentence → List ℕ
line raw s = text s
line tokenized s = joined (map (write_token s) (tokens_from (marks s) 0))
line partial s = write_partial s.columns s.cells

-- the written line, as bytes
abbrev pub written : Form → Sentence → List ℕ
written f s = encodes (line f s)

-- the length that a written line needs
abbrev pub needed : Form → Sentence → ℕ
needed f s = length (written f s)

-- the note key, for finding duplicates: the partial line, with columns cut back to the last one that has a present tag anywhere, or to none
abbrev pub key : Sentence → List ℕ
key s = written partial (trimmed s)

-- ---- changes
-- all tags absent
unfoldable pub bare : Cells → Cells
bare (final c r) = final c []
bare (cell c r m s) = cell c [] m (bare s)

-- other boundaries, as far as they go
unfoldable pub marked : List Mark → Cells → Cells
marked [] s = s
marked (m ∷ ms) (final c r) = final c r
marked (m ∷ ms) (cell c r k s) = cell c r m (marked ms s)

unfoldable pub reset_tags_of : ℕ → Sentence → Sentence
reset_tags_of c s = record { cells = bare s.cells; columns = c }

unfoldable pub set_mark : ℕ → Mark → Cells → Cells
set_mark i m (final c r) = final c r
set_mark zero m (cell c r k s) = cell c r m s
set_mark (suc i) m (cell c r k s) = cell c r k (set_mark i m s)

unfoldable pub set_boundary_of : ℕ → Mark → Sentence → Sentence
set_boundary_of i m s = record { cells = set_mark i m s.cells; columns = s.columns }

-- a boundary is a word's if its score is above zero, else none
unfoldable pub decision : ℤ → Mark
decision (pos zero) = none
decision (pos (suc n)) = word
decision (negsuc n) = none

-- the boundaries by N-1 scores; tags and columns become none
unfoldable pub scored : List ℤ → Sentence → Sentence
scored zs s = reset_tags_of 0 (record { cells = marked (map decision zs) s.cells; columns = s.columns })

-- the one-blank sentence
unfoldable pub blank : Sentence
blank = record { cells = final (chr " ") []; columns = 0 }
