-- What the boundary decision answers, and what it leaves.
use Rattle.std.specs.Prelude.{◌-◌, Bool, false, not, List, eqb, ℤ, length, Ok, Err}
use Rattle.sentence.specs.Sentence.{Sentence, count}
use Rattle.sentence.specs.Writing.{scored}
use Rattle.sentence.specs.Refusals.{verdict, sheet_order}
use Rattle.sheet.specs.declared.Record.{Record}
use Rattle.sheet.specs.Answers.{Answer}
use Rattle.sheet.specs.Layout.{Buffers, record_of, spell}
use Rattle.sheet.specs.Check.{is_sheet}
use Rattle.changes.specs.Changes.{Lays}

-- exactly N-1 scores; the place of 14 is how many there are
unfoldable pub score_answer : Bool → Sentence → List ℤ → Answer
score_answer good s zs =
    verdict Err (sheet_order (not good) (not (eqb (length zs) (count s - 1))) (length zs) false 0) (Ok (record_of (scored zs s)))

-- what `predict` answers, and the buffers e that it leaves of d
abbrev pub Predicted : Record → Buffers → List ℤ → Answer → Buffers → Type 0
Predicted r d zs a e = Lays (score_answer (is_sheet r d) (spell r d) zs) (scored zs (spell r d)) d a e
