-- The program: its answer to a line, and to a whole input.
use Rattle.std.specs.Prelude.{ℕ, Bool, false, ◌||◌, List, [], ◌∷◌, ◌++◌, eqb}
use Prim.Native.Char.{code as chr}
use Rattle.laws.specs.If.{when◌then◌else◌}
use Rattle.sentence.specs.Forms.{letter}
use Rattle.sentence.specs.Refusals.{refusal, number}
use Rattle.convert_buffers.specs.Between.{Outcome, writes, refuses}
use Rattle.convert.specs.Convert.{conversion}
use Rattle.respelling.specs.Decimal.{decimal}

-- what is made of an input line: a reader's letter, a writer's letter, the sentence line; 8,192 bytes are the room for the written line
unfoldable pub outcome : List ℕ → Outcome
outcome [] = refuses (refusal 16 0)
outcome (a ∷ []) = refuses (refusal 16 0)
outcome (a ∷ b ∷ x) = conversion (letter a) (letter b) x 8192 0

-- how it is printed: `=` and the written line, or `!`, number, space and place; then LF
unfoldable pub printed : Outcome → List ℕ
printed (writes w) = chr "=" ∷ (w ++ (chr "\n" ∷ []))
printed (refuses r) = chr "!" ∷ (decimal (number r) ++ (chr " " ∷ (decimal r.place ++ (chr "\n" ∷ []))))

abbrev pub answer : List ℕ → List ℕ
answer l = printed (outcome l)

-- a byte before the first of the lines
unfoldable pub before : ℕ → List (List ℕ) → List (List ℕ)
before b [] = (b ∷ []) ∷ []
before b (l ∷ ls) = (b ∷ l) ∷ ls

-- the lines of an input, each ended by LF or by the end; a last LF starts no further line
unfoldable pub lines : List ℕ → List (List ℕ)
lines [] = []
lines (b ∷ s) = when eqb b (chr "\n") then [] ∷ lines s else before b (lines s)

unfoldable pub answers : List (List ℕ) → List ℕ
answers [] = []
answers (l ∷ ls) = answer l ++ answers ls

-- all that is printed for an input
unfoldable pub respell : List ℕ → List ℕ
respell s = answers (lines s)

-- an LF stands there
unfoldable pub fed : List ℕ → Bool
fed [] = false
fed (b ∷ s) = eqb b (chr "\n") || fed s

-- the lines of an input whose LF is there: the bytes up to the last LF
unfoldable pub whole : List ℕ → List ℕ
whole [] = []
whole (b ∷ s) = when fed (b ∷ s) then b ∷ whole s else []
