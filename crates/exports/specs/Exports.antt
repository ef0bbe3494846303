-- What the host's calls answer as one number, and what they leave in lent memory.
use Rattle.std.specs.Prelude.{ℕ, ◌≡◌, false, List, [], ◌∷◌, ltb, length, Result, Ok, Err}
use Rattle.laws.specs.If.{when◌then◌else◌}
use Rattle.laws.specs.Put.{over}
use Rattle.sentence.specs.Sentence.{count}
use Rattle.sentence.specs.Forms.{no_reader, no_writer, form_of}
use Rattle.sentence.specs.Reading.{read}
use Rattle.sentence.specs.Refusals.{refusal_code, Near, Check, check, verdict}
use Rattle.sentence.specs.declared.Refusal.{Refusal}
use Rattle.sheet.specs.Layout.{Buffers, Same, spell}
use Rattle.sheet.specs.declared.Record.{Record}
use Rattle.sheet.specs.Answers.{Answer, Number}
use Rattle.read_load.specs.Load.{read_answer, read_leaves}
use Rattle.write.specs.Answers.{Puts, line_order, line_of, copy_of, no_range, key_of}
use Rattle.tokens.specs.Steps.{next_of}
use Rattle.tokens.specs.declared.Step.TheVariants.{Serves, Done}
use Rattle.tokens.specs.Steps.{Next}

-- where an answer is a refusal, its place is small
unfoldable pub NearIn : {A : Type 0} → Result A Refusal → Type 0
NearIn (Ok a) = Unit {0}
NearIn (Err q) = Near q

-- ---- conversion
-- the end place, or the refusal's number
unfoldable pub code_of : Number → ℕ
code_of (Ok e) = e
code_of (Err r) = refusal_code r

-- ---- reading
-- N, B, columns, cells and G
unfoldable pub numbers_of : Record → List ℕ
numbers_of r = r.n ∷ r.b ∷ r.columns ∷ r.cells ∷ r.g ∷ []

-- before the line is looked at: 16 for an unknown form, 14 for fewer numbers than five
unfoldable pub read_first : ℕ → ℕ → List Check
read_first f room = check (no_reader f) 16 0 ∷ check (ltb room 5) 14 0 ∷ []

-- 0 for a sentence
unfoldable pub read_code : Answer → ℕ
read_code (Ok r) = 0
read_code (Err q) = refusal_code q

-- the numbers of a sentence stand at the front; a refusal alters nothing
unfoldable pub read_numbers : Answer → List ℕ → List ℕ
read_numbers (Ok r) ns = over (numbers_of r) ns
read_numbers (Err q) ns = ns

-- an answer as the number a, and the numbers after it
pub record ReadTold (r : Answer) (ns : List ℕ) (a : ℕ) (ns' : List ℕ) : Type 0 where
  pub answer_is : a ≡ read_code r
  pub numbers_are : ns' ≡ read_numbers r ns

-- the answer for a line of a form, with room for so many numbers
unfoldable pub host_answer : ℕ → List ℕ → Buffers → ℕ → Answer
host_answer f x d room = verdict Err (read_first f room) (read_answer (read (form_of f) x) d)

-- the buffers after it, which a refusal leaves
unfoldable pub host_leaves : ℕ → List ℕ → Buffers → ℕ → Buffers
host_leaves f x d room = verdict (λ (q : Refusal). d) (read_first f room) (read_leaves (read (form_of f) x) d)

-- the number a, and the buffers and the numbers after it
pub record HostReads (f : ℕ) (x : List ℕ) (d : Buffers) (ns : List ℕ) (a : ℕ) (e : Buffers) (ns' : List ℕ) : Type 0 where
  pub answer_is : a ≡ read_code (host_answer f x d (length ns))
  pub buffers_are : Same (host_leaves f x d (length ns)) e
  pub numbers_are : ns' ≡ read_numbers (host_answer f x d (length ns)) ns

-- ---- writing
-- the record of five numbers
abbrev pub record_in : ℕ → ℕ → ℕ → ℕ → ℕ → Record
record_in n b columns cells g = record { n = n; b = b; columns = columns; cells = cells; g = g }

-- 16, then what the writer refuses
unfoldable pub host_write_order : ℕ → Record → Buffers → ℕ → List Check
host_write_order f r d room = check (no_writer f) 16 0 ∷ line_order r d false 0 (line_of (form_of f) r d) room

-- a writer's answer for that, and the output after it
abbrev pub LineWritten : ℕ → Record → Buffers → List ℕ → Number → List ℕ → Type 0
LineWritten f r d out a out' = Puts (λ (n : Number). n) (host_write_order f r d (length out)) (line_of (form_of f) r d) out a out'

-- a length as it is
unfoldable pub number_code : Number → ℕ
number_code (Ok n) = n
number_code (Err q) = refusal_code q

-- the answer's number, and the output after it
abbrev pub HostWrites : ℕ → Record → Buffers → List ℕ → ℕ → List ℕ → Type 0
HostWrites f r d out a out' = Puts number_code (host_write_order f r d (length out)) (line_of (form_of f) r d) out a out'

-- ---- the withheld copy
-- a place as the host's number holds it: 2^32 - 1 stands for every place from there on
unfoldable pub nearest : ℕ → ℕ
nearest p = when ltb p 4294967295 then p else 4294967295

-- an answer with its refusal at such a place
unfoldable pub nearest_in : Number → Number
nearest_in (Ok n) = Ok n
nearest_in (Err q) = Err (record { reason = q.reason; place = nearest q.place })

-- the answer's number, with the range's start as it is held, and the output after it
abbrev pub HostWithholds : Record → Buffers → ℕ → ℕ → List ℕ → ℕ → List ℕ → Type 0
HostWithholds r d b e out a out' =
    Puts number_code (line_order r d (no_range b e (count (spell r d))) (nearest b) (copy_of r d b e) (length out)) (copy_of r d b e) out a out'

-- ---- the note key
-- the answer's number, and the output after it
abbrev pub HostKeys : Record → Buffers → List ℕ → ℕ → List ℕ → Type 0
HostKeys r d out a out' = Puts number_code (line_order r d false 0 (key_of r d) (length out)) (key_of r d) out a out'

-- ---- a step of the token cursor
-- where the step itself is not refused: 14 for a span of fewer numbers than two
unfoldable pub spanned : ℕ → Next → Next
spanned room (Ok s) = verdict Err (check (ltb room 2) 14 0 ∷ []) (Ok s)
spanned room (Err q) = Err q

-- 1 for a token, 0 where the cursor is done
unfoldable pub step_code : Next → ℕ
step_code (Ok (Serves t)) = 1
step_code (Ok (Done p)) = 0
step_code (Err q) = refusal_code q

-- a token's start and end, or where the cursor stands, at the front of the span; a refusal alters nothing
unfoldable pub step_span : Next → List ℕ → List ℕ
step_span (Ok (Serves t)) d = over (t.start ∷ t.end ∷ []) d
step_span (Ok (Done p)) d = over (p ∷ []) d
step_span (Err q) d = d

-- a step's answer as the number a, and the span after it
pub record Tells (n : Next) (span : List ℕ) (a : ℕ) (span' : List ℕ) : Type 0 where
  pub answer_is : a ≡ step_code (spanned (length span) n)
  pub span_is : span' ≡ step_span (spanned (length span) n) span

-- the step at p on a sheet
abbrev pub HostSteps : Record → Buffers → ℕ → List ℕ → ℕ → List ℕ → Type 0
HostSteps r d p span a span' = Tells (next_of r d p) span a span'
