-- The padded table over the public functions: where the cells stand, that each answer is the one of listed rows, and who holds how many cells.
use Rattle.std.specs.Prelude.{ℕ, ◌+◌, ◌-◌, ◌*◌, ◌≤◌, ◌<◌, ◌≡◌, ◌↔◌, ◌⊎◌, true, false, List, [], ◌∷◌, ◌++◌, map, ltb, length, take, drop, get_or, Ok, Err}
use Rattle.laws.specs.Put.{over}
use Rattle.utf8.specs.Utf8.{size}
use Rattle.sentence.specs.Sentence.{Sentence, marks, rows, count, table, listed, row_bytes, Formed}
use Rattle.sentence.specs.declared.Form.{Form}
use Rattle.sentence.specs.declared.Form.TheVariants.{Partial as partial}
use Rattle.sentence.specs.Forms.{form_of}
use Rattle.sentence.specs.Reading.{sentence, read}
use Rattle.sentence.specs.Writing.{tokens_from, next_token_of, written, key}
use Rattle.sentence.specs.Withheld.{withheld}
use Rattle.sentence.specs.Refusals.{refusal, check}
use Rattle.sheet.specs.declared.Record.{Record}
use Rattle.sheet.specs.Answers.{Answer}
use Rattle.sheet.specs.Answers.{Number}
use Rattle.sheet.specs.Answers.{Slice}
use Rattle.sheet.specs.Layout.{Buffers, record_of, tags_of, cells_of, bytes_of, laid, room_for, Holds, spell}
use Rattle.sheet.specs.Check.{is_sheet}
use Rattle.sheet.specs.Listed.{row_ends_of, tag_ends_of, Lists, spell_listed}
use Rattle.lookups.specs.Answers.{char_to_str_pos_of, str_to_char_pos_of, boundary_at, tag_at, surface_at}
use Rattle.changes.specs.Changes.{TagsReset}
use Rattle.read_load.specs.Load.{ReadDoes}
use Rattle.tokens.specs.declared.Token.{Token}
use Rattle.tokens.specs.Steps.{Next}
use Rattle.tokens.specs.Steps.{span_of, step_of, next_of, Listed}
use Rattle.write.specs.Answers.{Puts, Written, no_range, Withholds, Keyed}
use Rattle.sheet.specs.Answers.{Number}
use Rattle.convert_buffers.specs.Between.{Converts}
use Rattle.convert.specs.Convert.{unknown_forms, out_of_range, conversion}

-- what a call does that has w to put at the front of a list: 12 at its length where there is less room, else all of it
abbrev pub Fills : {A : Type 0} → List A → List A → Number → List A → Type 0
Fills w l a l' = Puts (λ n. n) (check (ltb (length l) (length w)) 12 (length w) ∷ []) w l a l'

-- each answer of a look-up, a token call or a writer on the record r and the buffers d is told of the sentence t
pub record ToldOf (r : Record) (d : Buffers) (t : Sentence) : Type 0 where
  pub char_to_str_pos : (i : ℕ) (a : Number) → a ≡ char_to_str_pos_of (is_sheet r d) (spell r d) i → a ≡ char_to_str_pos_of true t i
  pub str_to_char_pos : (p : ℕ) (a : Number) → a ≡ str_to_char_pos_of (is_sheet r d) (spell r d) p → a ≡ str_to_char_pos_of true t p
  pub boundary : (i : ℕ) (a : Number) → a ≡ boundary_at (is_sheet r d) (spell r d) i → a ≡ boundary_at true t i
  pub tag : (row column : ℕ) (a : Slice) → a ≡ tag_at (is_sheet r d) (spell r d) row column → a ≡ tag_at true t row column
  pub surface : (b e : ℕ) (a : Slice) → a ≡ surface_at (is_sheet r d) (spell r d) b e → a ≡ surface_at true t b e
  pub next_token : (p : ℕ) (a : Next) → a ≡ next_of r d p → a ≡ Ok (step_of (next_token_of (marks t) (count t) p))
  pub token_list : (l l' : List Token) (a : Number) → Listed r d l a l' → Fills (map span_of (tokens_from (marks t) 0)) l a l'
  pub line : (f : Form) (out out' : List ℕ) (a : Number) → Written f r d out a out' → Fills (written f t) out a out'
  pub copy : (b e : ℕ) (out out' : List ℕ) (a : Number) → no_range b e (count t) ≡ false → Withholds r d b e out a out'
      → Fills (written partial (withheld b e t)) out a out'
  pub note_key : (out out' : List ℕ) (a : Number) → Keyed r d out a out' → Fills (key t) out a out'

-- the sentence that listed rows spell beside the text and the boundaries of a sheet
abbrev pub listed_of : Record → Buffers → Sentence → List ℕ → List ℕ → List ℕ → Sentence
listed_of r d s w e g = spell_listed r d (listed (rows s)) w e g

pub record PaddedTable : Type 0 where
  -- a cell stands by its row and column at a constant stride: its start is the bytes of all cells before it, its length the bytes of its tag
  pub starts : (r : Record) (d : Buffers) (s : Sentence) (row column : ℕ) → Holds r d s → row < count s → column < s.columns
      → get_or d.cell_starts_buf (row * s.columns + column) 0 ≡ row_bytes (take (row * s.columns + column) (cells_of s.columns (rows s)))
  pub lengths : (r : Record) (d : Buffers) (s : Sentence) (row column : ℕ) → Holds r d s → row < count s → column < s.columns
      → get_or d.cell_lengths_buf (row * s.columns + column) 0 ≡ size (get_or (get_or (table s) row []) column [])
  -- which is 0 exactly where the tag is absent
  pub absent : (r : Record) (d : Buffers) (s : Sentence) (row column : ℕ) → Holds r d s → row < count s → column < s.columns
      → (get_or d.cell_lengths_buf (row * s.columns + column) 0 ≡ 0) ↔ (get_or (get_or (table s) row []) column [] ≡ [])
  -- the tag bytes are those of listed rows
  pub bytes : (r : Record) (d : Buffers) (s : Sentence) → Holds r d s → take r.g d.tag_bytes_buf ≡ bytes_of (tags_of (rows s))
  -- N times columns cells are counted; with any other number there is no sheet, and with room for them there is one, however many they are
  pub counted : (r : Record) (d : Buffers) (s : Sentence) → Holds r d s → r.cells ≡ count s * s.columns
  pub no_other : (r : Record) (d : Buffers) → (r.cells ≡ r.n * r.columns → ⊥) → is_sheet r d ≡ false
  pub any_many : (s : Sentence) (d : Buffers) → Formed s → room_for (record_of s) d ≡ true → Holds (record_of s) (laid s d) s
  -- characters and columns of a line are together no more than its bytes, so its cells are at most a quarter of their square
  pub of_line : (f : Form) (x : List ℕ) (s : Sentence) → read f x ≡ sentence s → count s + s.columns ≤ length x
  -- where a sheet and listed rows hold one sentence, each answer is told of what the listed rows spell
  pub same_answers : (r : Record) (d : Buffers) (s : Sentence) (w e g : List ℕ) → Holds r d s → Lists s w e g → ToldOf r d (listed_of r d s w e g)
  -- and a reader, given room, lays down the sentence that listed rows hold of the line
  pub same_sentence : (f : Form) (x : List ℕ) (s : Sentence) (d c : Buffers) (a : Answer) (w e g : List ℕ) → read f x ≡ sentence s
      → room_for (record_of s) d ≡ true → ReadDoes (read f x) d a c → Lists s w e g
      → (a ≡ Ok (record_of s)) × (spell (record_of s) c ≡ listed_of (record_of s) c s w e g)
  -- every sentence has listed rows
  pub rows_listed : (s : Sentence) → Lists s (row_ends_of 0 (rows s)) (tag_ends_of 0 (tags_of (rows s))) (bytes_of (tags_of (rows s)))
  -- `reset_tags` refuses by 14 before 11, and by 11 where one of the lists of cells is too short
  pub reset_columns : (r : Record) (d e : Buffers) (s : Sentence) (c : ℕ) (a : Answer) → Holds r d s → TagsReset r d c a e → 4096 < c
      → a ≡ Err (refusal 14 c)
  pub reset_lacks : (r : Record) (d e : Buffers) (s : Sentence) (c : ℕ) (a : Answer) → Holds r d s → TagsReset r d c a e → c ≤ 4096
      → (length d.cell_starts_buf < count s * c) ⊎ (length d.cell_lengths_buf < count s * c) → a ≡ Err (refusal 11 0)
  -- the conversion holds 2,048 cells: a line that has more is refused by 11, whatever the room for its line, and one that has not is served
  pub overfull : (reader writer : ℕ) (x out out' : List ℕ) (at : ℕ) (a : Number) (s : Sentence)
      → unknown_forms reader writer ≡ false → out_of_range (length out) at ≡ false
      → Converts (λ (c : Number). c) (conversion reader writer x (length out) at) at out a out'
      → read (form_of reader) x ≡ sentence s → 2048 < count s * s.columns → (a ≡ Err (refusal 11 0)) × (out' ≡ out)
  pub fitting : (reader writer : ℕ) (x out out' : List ℕ) (at : ℕ) (a : Number) (s : Sentence)
      → unknown_forms reader writer ≡ false → out_of_range (length out) at ≡ false
      → Converts (λ (c : Number). c) (conversion reader writer x (length out) at) at out a out'
      → read (form_of reader) x ≡ sentence s → count s * s.columns ≤ 2048 → length (written (form_of writer) s) ≤ length out - at
      → (a ≡ Ok (at + length (written (form_of writer) s))) × (out' ≡ take at out ++ over (written (form_of writer) s) (drop at out))
  -- a line of at most 4,096 bytes that it wrote in the line's own form, or in the partial form, it reads back, and writes to itself
  pub reads_back : (reader writer : ℕ) (x u out out' buf buf' : List ℕ) (at end p : ℕ) (a : Number) (s : Sentence)
      → (form_of reader ≡ form_of writer) ⊎ (form_of writer ≡ partial) → read (form_of reader) x ≡ sentence s → u ≡ written (form_of writer) s
      → Converts (λ (c : Number). c) (conversion reader writer x (length out) at) at out (Ok end) out'
      → length u ≤ 4096 → out_of_range (length buf) p ≡ false → length u ≤ length buf - p
      → Converts (λ (c : Number). c) (conversion writer writer u (length buf) p) p buf a buf'
      → (a ≡ Ok (p + length u)) × (buf' ≡ take p buf ++ over u (drop p buf))
