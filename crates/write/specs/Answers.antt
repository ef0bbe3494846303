-- What the writers answer, and what they leave in the output: 13 where there is no sheet, 14 where a range is none of its characters, then 12 where
-- the output is too short.
use Rattle.std.specs.Prelude.{ℕ, ◌≡◌, Bool, false, not, ◌||◌, List, ltb, length, Ok, Err}
use Rattle.laws.specs.Put.{over}
use Rattle.sentence.specs.Sentence.{count}
use Rattle.sentence.specs.declared.Form.{Form}
use Rattle.sentence.specs.declared.Form.TheVariants.{Partial as partial}
use Rattle.sentence.specs.Writing.{written, key}
use Rattle.sentence.specs.Withheld.{withheld}
use Rattle.sentence.specs.Refusals.{Check, verdict, sheet_order}
use Rattle.sheet.specs.declared.Record.{Record}
use Rattle.sheet.specs.Answers.{Number}
use Rattle.sheet.specs.Layout.{Buffers, spell}
use Rattle.sheet.specs.Check.{is_sheet}

-- the answer, as told, and the output after it: the line w over its front, or the first of these refusals, which alters nothing
pub record Puts {A B : Type 0} (tell : Number → A) (checks : List Check) (w out : List B) (answer : A) (out' : List B) : Type 0 where
  pub answer_is : answer ≡ tell (verdict Err checks (Ok (length w)))
  pub out_is : out' ≡ verdict (λ e. out) checks (over w out)

-- a line of a sheet, and room for so many bytes: 13, then 14 at the first number given where one is out of range, then 12 at the bytes needed
unfoldable pub line_order : Record → Buffers → Bool → ℕ → List ℕ → ℕ → List Check
line_order r d outside first w room = sheet_order (not (is_sheet r d)) outside first (ltb room (length w)) (length w)

-- the line w of a sheet stands over the front of the output, or is refused so
abbrev pub PutsLine : Record → Buffers → Bool → ℕ → List ℕ → List ℕ → Number → List ℕ → Type 0
PutsLine r d outside first w out answer out' = Puts (λ n. n) (line_order r d outside first w (length out)) w out answer out'

-- ---- the two writers
-- the line of the sentence that lies in a sheet
abbrev pub line_of : Form → Record → Buffers → List ℕ
line_of f r d = written f (spell r d)

-- that line is put, or refused by 13 or 12: there is no number that could be out of range
abbrev pub Written : Form → Record → Buffers → List ℕ → Number → List ℕ → Type 0
Written f r d out answer out' = PutsLine r d false 0 (line_of f r d) out answer out'

-- ---- the withheld copy
-- the line of the sentence that lies in a sheet, with the characters from b up to e withheld
abbrev pub copy_of : Record → Buffers → ℕ → ℕ → List ℕ
copy_of r d b e = written partial (withheld b e (spell r d))

-- a range is none of n characters where its start is past its end, or its end past them
abbrev pub no_range : ℕ → ℕ → ℕ → Bool
no_range b e n = ltb e b || ltb n e

-- that line is put, or refused by 13, by 14 at the start of a range that is none of the sentence's, or by 12
abbrev pub Withholds : Record → Buffers → ℕ → ℕ → List ℕ → Number → List ℕ → Type 0
Withholds r d b e out answer out' = PutsLine r d (no_range b e (count (spell r d))) b (copy_of r d b e) out answer out'

-- ---- the note key
-- the key of the sentence that lies in a sheet
abbrev pub key_of : Record → Buffers → List ℕ
key_of r d = key (spell r d)

-- that key is put, or refused by 13 or 12
abbrev pub Keyed : Record → Buffers → List ℕ → Number → List ℕ → Type 0
Keyed r d out answer out' = PutsLine r d false 0 (key_of r d) out answer out'
