-- What a reader answers, and what it leaves in the buffers.
use Rattle.std.specs.Prelude.{◌≡◌, Bool, not, Ok, Err}
use Rattle.sentence.specs.Sentence.{Sentence}
use Rattle.sentence.specs.Reading.{Result}
use Rattle.sentence.specs.Refusals.{reader_order}
use Rattle.sheet.specs.Layout.{Buffers, Same, record_of, room_for, laid}
use Rattle.sheet.specs.Answers.{Answer}

-- the buffers lack room for a sentence
unfoldable pub lacks : Buffers → Sentence → Bool
lacks d s = not (room_for (record_of s) d)

-- the answer a and the buffers b are what a call gives: r, and e after it
pub record Does (a : Answer) (b : Buffers) (r : Answer) (e : Buffers) : Type 0 where
  pub answer_is : r ≡ a
  pub buffers_are : Same b e

-- a reader's answer: the refusal of the line, or 11, or the record of the sentence; and the buffers, which a refusal leaves
unfoldable pub read_answer : Result → Buffers → Answer
read_answer x d = reader_order Err (lacks d) (λ s. Ok (record_of s)) x

unfoldable pub read_leaves : Result → Buffers → Buffers
read_leaves x d = reader_order (λ r. d) (lacks d) (λ s. laid s d) x

abbrev pub ReadDoes : Result → Buffers → Answer → Buffers → Type 0
ReadDoes x d r e = Does (read_answer x d) (read_leaves x d) r e
