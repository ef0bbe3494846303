-- What the updates answer, and what they leave in the buffers.
use Rattle.std.specs.Prelude.{Ok, Err}
use Rattle.laws.specs.If.{when◌then◌else◌}
use Rattle.sentence.specs.Reading.{Result}
use Rattle.sentence.specs.Writing.{blank}
use Rattle.sentence.specs.Refusals.{reader_order, update_order}
use Rattle.sheet.specs.Layout.{Buffers, record_of, laid}
use Rattle.sheet.specs.Answers.{Answer}
use Rattle.read_load.specs.Load.{lacks, Does}

-- an update's answer: 15 first; and the buffers, which 15 leaves, and in which any other refusal lays the one-blank sentence down
unfoldable pub update_answer : Result → Buffers → Answer
update_answer x d = update_order Err (lacks d blank) (lacks d) (λ s. Ok (record_of s)) x

unfoldable pub update_leaves : Result → Buffers → Buffers
update_leaves x d = when lacks d blank then d else reader_order (λ r. laid blank d) (lacks d) (λ s. laid s d) x

abbrev pub UpdateDoes : Result → Buffers → Answer → Buffers → Type 0
UpdateDoes x d r e = Does (update_answer x d) (update_leaves x d) r e
