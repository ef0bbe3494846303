-- Calls on a sheet that write at the front of an output, by any contract, and the readers' calls that lay a sheet down.
use Rattle.std.specs.Prelude.{ℕ, ◌≡◌, List, length, take, Ok}
use Rattle.sentence.specs.declared.Form.{Form}
use Rattle.sentence.specs.Reading.{read}
use Rattle.sheet.specs.declared.Record.{Record}
use Rattle.sheet.specs.Answers.{Number}
use Rattle.sheet.specs.Layout.{Buffers, Sheet}
use Rattle.read_load.specs.Load.{ReadDoes}

-- what a contract ties together: record and buffers, the output before the call, the answer, and the output after it
abbrev pub Contract : Type 1
Contract = Record → Buffers → List ℕ → Number → List ℕ → Type 0

-- a call on the record r and the buffers d puts w at the front of an output
pub record Gives (Does : Contract) (r : Record) (d : Buffers) (w : List ℕ) : Type 0 where
  pub output_before : List ℕ
  pub output_after : List ℕ
  pub the_length : ℕ
  pub does : Does r d output_before (Ok the_length) output_after
  pub line_is : w ≡ take the_length output_after

-- two sheets, and a call on each
pub record TwoCalls (Does : Contract) (r q : Record) (d c : Buffers) : Type 0 where
  pub sheet_1 : Sheet r d
  pub sheet_2 : Sheet q c
  pub output_1 : List ℕ
  pub output_2 : List ℕ
  pub answer_1 : Number
  pub answer_2 : Number
  pub after_1 : List ℕ
  pub after_2 : List ℕ
  pub call_1 : Does r d output_1 answer_1 after_1
  pub call_2 : Does q c output_2 answer_2 after_2

-- the two calls can't be told apart
pub record Alike {Does : Contract} {r q : Record} {d c : Buffers} (t : TwoCalls Does r q d c) : Type 0 where
  -- with equal room they give the same answer, a refusal as well
  pub same_answer : length t.output_1 ≡ length t.output_2 → t.answer_1 ≡ t.answer_2
  -- with equal outputs they leave the same output
  pub same_output : t.output_1 ≡ t.output_2 → t.after_1 ≡ t.after_2

-- reading the line x in the form f answers the record q and leaves the buffers c, by the readers' contract
pub record Laid (f : Form) (x : List ℕ) (q : Record) (c : Buffers) : Type 0 where
  pub buffers_before : Buffers
  pub reads : ReadDoes (read f x) buffers_before (Ok q) c
