-- What the cursor and the list answer: the values of tokens and steps, and the boundaries that they are taken from.
use Rattle.std.specs.Prelude.{ℕ, ◌+◌, ◌-◌, ◌≤◌, ◌≡◌, false, not, List, map, ltb, length, take, Result, Ok, Err}
use Rattle.laws.specs.Put.{over}
use Rattle.sentence.specs.Sentence.{Mark, marks, count}
use Rattle.sentence.specs.Writing.{Token, token, tokens_from, Served, serves, done, next_token_of}
use Rattle.sentence.specs.declared.Refusal.{Refusal}
use Rattle.sentence.specs.Refusals.{Check, verdict, sheet_order}
use Rattle.sheet.specs.declared.Record.{Record}
use Rattle.sheet.specs.Answers.{Number}
use Rattle.sheet.specs.Layout.{Buffers, mark_of, spell}
use Rattle.sheet.specs.Check.{is_sheet}
use Rattle.tokens.specs.declared.Token.{Token as Span}
use Rattle.tokens.specs.declared.Step.{Step}
use Rattle.tokens.specs.declared.Step.TheVariants.{Serves, Done}

-- a token as its start and end
abbrev pub span_of : Token → Span
span_of (token b e) = record { start = b; end = e }

-- a step serves a token, or is done and says where
abbrev pub step_of : Served → Step
step_of (serves t) = Serves (span_of t)
step_of (done p) = Done p

-- ---- over a checked sheet
-- the boundaries of a sheet with n characters
unfoldable pub marks_in : ℕ → List ℕ → List Mark
marks_in n bs = map mark_of (take (n - 1) bs)

-- there is a character, within the limit, and room for the boundaries
pub record Bounded (n : ℕ) (bs : List ℕ) : Type 0 where
  pub some : 1 ≤ n
  pub few : n ≤ 4096
  pub long : n ≤ length bs + 1

-- ---- over any sheet
-- the tokens of the sentence that lies in a sheet
abbrev pub tokens_of : Record → Buffers → List Token
tokens_of r d = tokens_from (marks (spell r d)) 0

-- what a step on a sheet answers
abbrev pub Next : Type 0
Next = Result Step Refusal

-- a step is refused by 13 alone: no cursor is out of range
unfoldable pub next_of : Record → Buffers → ℕ → Next
next_of r d p = verdict Err (sheet_order (not (is_sheet r d)) false p false 0) (Ok (step_of (next_token_of (marks (spell r d)) (count (spell r d)) p)))

-- a list with room for so many records is refused by 13, then by 12 at the records needed
unfoldable pub list_order : Record → Buffers → ℕ → List Check
list_order r d room = sheet_order (not (is_sheet r d)) false 0 (ltb room (length (tokens_of r d))) (length (tokens_of r d))

-- how many tokens there are
unfoldable pub count_of : Record → Buffers → ℕ → Number
count_of r d room = verdict Err (list_order r d room) (Ok (length (tokens_of r d)))

-- all tokens in order over the front of the list, and then what it held; a refusal alters nothing
pub record Listed (r : Record) (d : Buffers) (l : List Span) (answer : Number) (l' : List Span) : Type 0 where
  pub answer_is : answer ≡ count_of r d (length l)
  pub list_is : l' ≡ verdict (λ e. l) (list_order r d (length l)) (over (map span_of (tokens_of r d)) l)
