-- Reading a line: one reader, a small state that each character steps, for the raw, the tokenized and the partial form.
use Rattle.std.specs.Prelude.{ℕ, ◌-◌, max, List, [], ◌∷◌, eqb, ltb, length}
use Prim.Native.Char.{code as chr}
use Rattle.laws.specs.If.{when◌then◌else◌}
use Rattle.utf8.specs.Utf8.{scalars, valid_prefix, size}
use Rattle.sentence.specs.declared.Form.{Form}
use Rattle.sentence.specs.declared.Form.TheVariants.{Raw as raw, Tokenized as tokenized, Partial as partial}
use Rattle.sentence.specs.Sentence.{Tag, Mark, none, word, unknown, Cells, final, cell, Sentence, cut}

-- the two forms that have boundaries, tags and escapes
abbrev pub Annotated : Form → Type 0
Annotated raw = ⊥
Annotated tokenized = Unit {0}
Annotated partial = Unit {0}

-- what a character means where it is not escaped: a boundary, the slash, the backslash, or itself
pub data Kind : Type 0 where
  mark : Mark → Kind
  slash back plain : Kind

unfoldable pub kinds : Form → List (ℕ × Kind)
kinds raw = []
kinds tokenized = (chr " ", mark word) ∷ (chr "/", slash) ∷ (chr "\\", back) ∷ []
kinds partial = (chr " ", mark unknown) ∷ (chr "-", mark none) ∷ (chr "|", mark word) ∷ (chr "/", slash) ∷ (chr "\\", back) ∷ []

unfoldable pub look : List (ℕ × Kind) → ℕ → Kind
look [] c = plain
look (e ∷ es) c = when eqb c e.0 then e.1 else look es c

unfoldable pub kind : Form → ℕ → Kind
unfolding kinds look
kind f c = look (kinds f) c

-- where the reader stands: before any text, behind a character, in an open tag, behind a boundary
pub data Place : Type 0 where
  start behind in_tag : Place
  gap : Mark → Place

-- a backslash before it makes the next character ordinary
pub data State : Type 0 where
  at escaped : Place → State

-- what a character does: nothing; it is text, with the boundary before it (none before the first); it opens a tag; it is of the open tag
pub data Act : Type 0 where
  skip : Act
  letter : Mark → ℕ → Act
  opens : Act
  of_tag : ℕ → Act

-- a step goes on, or is refused with a number
pub data Step : Type 0 where
  go : State → Act → Step
  stop : ℕ → Step

-- an ordinary character: tag where a tag is open, else text; the partial form has none behind a character
unfoldable pub ordinary : Form → Place → ℕ → Step
ordinary f start c = go (at behind) (letter none c)
ordinary f (gap m) c = go (at behind) (letter m c)
ordinary f in_tag c = go (at in_tag) (of_tag c)
ordinary raw behind c = go (at behind) (letter unknown c)
ordinary tokenized behind c = go (at behind) (letter none c)
ordinary partial behind c = stop 9

-- behind a character or in its tags: a boundary ends them, a slash opens a tag
unfoldable pub inside : Form → Place → Kind → ℕ → Step
inside f p (mark m) c = go (at (gap m)) skip
inside f p slash c = go (at in_tag) opens
inside f p back c = go (escaped p) skip
inside f p plain c = ordinary f p c

-- where a token begins there is no boundary and no slash
unfoldable pub opening : ℕ → Place → Kind → ℕ → Step
opening e p (mark m) c = stop e
opening e p slash c = stop 7
opening e p back c = go (escaped p) skip
opening e p plain c = ordinary tokenized p c

-- one character; where the partial form awaits a character, it is taken literally
unfoldable pub step : Form → State → Kind → ℕ → Step
step f (escaped p) k c = ordinary f p c
step f (at behind) k c = inside f behind k c
step f (at in_tag) k c = inside f in_tag k c
step raw (at start) k c = ordinary raw start c
step raw (at (gap m)) k c = ordinary raw (gap m) c
step partial (at start) k c = ordinary partial start c
step partial (at (gap m)) k c = ordinary partial (gap m) c
step tokenized (at start) k c = opening 5 start k c
step tokenized (at (gap m)) k c = opening 6 (gap m) k c

-- NUL is refused wherever it stands
unfoldable pub advance : Form → State → ℕ → Step
advance f σ c = when eqb c 0 then stop 4 else step f σ (kind f c) c

-- the acts of a line's characters, or a refusal with its number and how many bytes were left
pub data Run : Type 0 where
  whole : List Act → Run
  stopped : ℕ → ℕ → Run

-- the number of a line that ends behind a boundary
unfoldable pub unfinished : Form → ℕ
unfinished raw = 3
unfinished tokenized = 8
unfinished partial = 10

-- at the line's end; a lone backslash is dropped
unfoldable pub ending : Form → Place → Run
ending f start = stopped 3 0
ending f behind = whole []
ending f in_tag = whole []
ending f (gap m) = stopped (unfinished f) 0

unfoldable pub finish : Form → State → Run
finish f (at p) = ending f p
finish f (escaped p) = ending f p

unfoldable pub push : Act → Run → Run
push a (whole l) = whole (a ∷ l)
push a (stopped e left) = stopped e left

unfoldable pub follow : Step → (State → Run) → ℕ → Run
follow (go σ a) next left = push a (next σ)
follow (stop e) next left = stopped e left

unfoldable pub run : Form → State → List ℕ → Run
run f σ [] = finish f σ
run f σ (c ∷ x) = follow (advance f σ c) (λ σ'. run f σ' x) (size (c ∷ x))

-- the characters that follow, with the boundary before the first of them
pub data Rest : Type 0 where
  over : Rest
  next : Mark → Cells → Rest

-- the rest of the open tag, the tags after it, the most tags of a character that follows, and what follows
pub data Parsed : Type 0 where
  parsed : Tag → List Tag → ℕ → Rest → Parsed

-- a character with its tags, before what follows
unfoldable pub before : ℕ → List Tag → Rest → Cells
before c ts over = final c (cut ts)
before c ts (next m s) = cell c (cut ts) m s

-- A tag belongs to the last character before it. An empty tag is absent; columns count it.
unfoldable pub add : Act → Parsed → Parsed
add skip p = p
add (of_tag c) (parsed t ts n r) = parsed (c ∷ t) ts n r
add opens (parsed t ts n r) = parsed [] (t ∷ ts) n r
add (letter m c) (parsed t ts n r) = parsed [] [] (max (length ts) n) (next m (before c ts r))

unfoldable pub gather : List Act → Parsed
gather [] = parsed [] [] 0 over
gather (a ∷ l) = add a (gather l)

-- what reading a line gives: a sentence, or a refusal with its number and its place
pub data Result : Type 0 where
  sentence : Sentence → Result
  refused : ℕ → ℕ → Result

unfoldable pub built : Parsed → Result
built (parsed t ts n (next m s)) = sentence (record { cells = s; columns = n })
built (parsed t ts n over) = refused 3 0

-- the place of a refusal is counted from the line's start
unfoldable pub placed : ℕ → Run → Result
placed n (whole l) = built (gather l)
placed n (stopped e left) = refused e (n - left)

-- 1, then 2, then the first of 3 to 10 in reading order
unfoldable pub read : Form → List ℕ → Result
read f x =
    when ltb 4096 (length x) then refused 1 4096
    else when ltb (valid_prefix x) (length x) then refused 2 (valid_prefix x)
    else placed (length x) (run f (at start) (scalars x))
