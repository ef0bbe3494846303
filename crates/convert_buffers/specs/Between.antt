-- A line passed from one form to another: what comes of it, what is answered, and the output after it.
use Rattle.std.specs.Prelude.{ℕ, ◌+◌, ◌*◌, ◌≡◌, Bool, List, ◌++◌, ltb, length, take, drop, Ok, Err}
use Rattle.laws.specs.Put.{over}
use Rattle.sentence.specs.declared.Refusal.{Refusal}
use Rattle.sentence.specs.Sentence.{Sentence, count}
use Rattle.sentence.specs.declared.Form.{Form}
use Rattle.sentence.specs.Reading.{read}
use Rattle.sentence.specs.Writing.{written}
use Rattle.sentence.specs.Refusals.{host_order}
use Rattle.sheet.specs.Answers.{Number}

-- what a conversion gives: the written line, or a refusal
pub data Outcome : Type 0 where
  writes : List ℕ → Outcome
  refuses : Refusal → Outcome

-- the conversion holds 2,048 cells
unfoldable pub overfull : Sentence → Bool
overfull s = ltb 2048 (count s * s.columns)

-- a line by two forms into so much room: 16, 14, what the reader refuses, 11, 12 at the written line's length
unfoldable pub between : Bool → Bool → Form → Form → ℕ → List ℕ → Outcome
between unknown outside f g room x =
    host_order refuses unknown outside overfull
    (λ (s : Sentence). ltb room (length (written g s)))
    (λ (s : Sentence). length (written g s))
    (λ (s : Sentence). writes (written g s))
    (read f x)

-- the answer: where the written line ends, or the refusal
unfoldable pub answer_of : ℕ → Outcome → Number
answer_of at (writes w) = Ok (at + length w)
answer_of at (refuses r) = Err r

-- the output after it: the written line stands behind the place, and every other byte is as it was
unfoldable pub output_of : ℕ → Outcome → List ℕ → List ℕ
output_of at (writes w) d = take at d ++ over w (drop at d)
output_of at (refuses r) d = d

-- the answer r, as told, and the output after it
pub record Converts {A : Type 0} (tell : Number → A) (o : Outcome) (at : ℕ) (out : List ℕ) (r : A) (out' : List ℕ) : Type 0 where
  pub answer : r ≡ tell (answer_of at o)
  pub output : out' ≡ output_of at o out
