-- What the calls that change a sentence in its buffers answer, and what they leave.
use Rattle.std.specs.Prelude.{ℕ, ◌-◌, ◌*◌, ◌≡◌, Bool, false, not, ◌||◌, [], ◌∷◌, leb, ltb, length, Ok, Err}
use Rattle.sentence.specs.Sentence.{Sentence, count}
use Rattle.sentence.specs.Writing.{set_boundary_of, reset_tags_of, blank}
use Rattle.sentence.specs.Refusals.{check, verdict, sheet_order}
use Rattle.sheet.specs.Layout.{Buffers, Same, record_of, laid, room_for, mark_of, spell}
use Rattle.sheet.specs.Check.{is_sheet}
use Rattle.sheet.specs.declared.Record.{Record}
use Rattle.sheet.specs.Answers.{Answer}

-- the buffers after an answer: what a sentence leaves, or what they held
abbrev pub after : Answer → Buffers → Buffers → Buffers
after (Ok r) new old = new
after (Err x) new old = old

-- the answer r and the buffers e after a call on the buffers d that answers a, and lays s down where that is a sentence
pub record Lays (a : Answer) (s : Sentence) (d : Buffers) (r : Answer) (e : Buffers) : Type 0 where
  pub answer_is : r ≡ a
  pub leaves : Same (after r (laid s d) d) e

-- the same of a call that always lays s down
abbrev pub Laid : Sentence → Buffers → Answer → Buffers → Type 0
Laid s d r e = Lays (Ok (record_of s)) s d r e

-- the one-blank sentence, or 15 where a buffer is below its room
unfoldable pub default_answer : Buffers → Answer
default_answer d = verdict Err (check (not (room_for (record_of blank) d)) 15 0 ∷ []) (Ok (record_of blank))

-- what `set_default` answers, and the buffers e that it leaves of d
abbrev pub DefaultSet : Buffers → Answer → Buffers → Type 0
DefaultSet d r e = Lays (default_answer d) blank d r e

-- a boundary index is below N-1, a value is 0 to 2
unfoldable pub boundary_answer : Bool → Sentence → ℕ → ℕ → Answer
boundary_answer good s i v =
    verdict Err (sheet_order (not good) (leb (count s - 1) i || ltb 2 v) i false 0) (Ok (record_of (set_boundary_of i (mark_of v) s)))

-- what `set_boundary` answers, and the buffers e that it leaves of d
abbrev pub BoundarySet : Record → Buffers → ℕ → ℕ → Answer → Buffers → Type 0
BoundarySet r d i v a e = Lays (boundary_answer (is_sheet r d) (spell r d) i v) (set_boundary_of i (mark_of v) (spell r d)) d a e

-- the buffers lack room for n cells
unfoldable pub lack_cells : Buffers → ℕ → Bool
lack_cells d n = ltb (length d.cell_starts_buf) n || ltb (length d.cell_lengths_buf) n

-- c is at most 4,096, and there is room for N times c cells: 13, 14, 11
unfoldable pub reset_answer : Bool → Sentence → ℕ → Buffers → Answer
reset_answer good s c d =
    verdict Err (check (not good) 13 0 ∷ check (ltb 4096 c) 14 c ∷ check (lack_cells d (count s * c)) 11 0 ∷ [])
    (Ok (record_of (reset_tags_of c s)))

-- what `reset_tags` answers, and the buffers e that it leaves of d
abbrev pub TagsReset : Record → Buffers → ℕ → Answer → Buffers → Type 0
TagsReset r d c a e = Lays (reset_answer (is_sheet r d) (spell r d) c d) (reset_tags_of c (spell r d)) d a e
