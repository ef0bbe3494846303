-- A line laid into lent buffers that are long enough, and written from there.
use Rattle.std.specs.Prelude.{ℕ, ◌+◌, ◌≤◌, ◌≡◌, [], ◌∷◌, ltb, length, Ok}
use Rattle.sentence.specs.Sentence.{Sentence}
use Rattle.sentence.specs.declared.Form.{Form}
use Rattle.sentence.specs.Reading.{Result}
use Rattle.sentence.specs.Writing.{written}
use Rattle.sentence.specs.Refusals.{check, verdict}
use Rattle.sheet.specs.Eight.{Eight, eight}
use Rattle.sheet.specs.Layout.{Buffers, AtLeast}
use Rattle.sheet.specs.declared.Record.{Record}
use Rattle.read_scan.specs.Scan.{scanned}
use Rattle.convert_buffers.specs.Between.{Outcome, writes, refuses}

-- the record of the sentence that was read, whose cells the conversion holds
pub record Scanned (x : Result) (r : Record) : Type 0 where
  pub record_is : Ok r ≡ scanned x
  pub few : r.cells ≤ 2048

-- the most that a sentence of m cells takes that is read from a line of n bytes
abbrev pub most : ℕ → ℕ → Eight ℕ
most n m = eight n n n (n + 1) (n + 1) m m n

-- each buffer has that room
pub record Wide (n m : ℕ) (d : Buffers) : Type 0 where
  pub wide : AtLeast (most n m) d

-- a sentence written into so much room: the line, or 12 at its length
unfoldable pub writing : Form → ℕ → Sentence → Outcome
writing g room s = verdict refuses (check (ltb room (length (written g s))) 12 (length (written g s)) ∷ []) (writes (written g s))
