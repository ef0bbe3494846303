-- Demand 2: on a UTF-8 line of at most 4,096 bytes, given room, what the public functions answer and leave is what document 01's definitions say.
-- The same calls are compared with the Rust by the runs of docs/DIFFERENCES.md ('What was run against the Rust').
use Rattle.std.specs.Prelude.{ℕ, ◌+◌, ◌-◌, ◌*◌, ◌/◌, ◌%◌, ◌≤◌, ◌<◌, ◌≡◌, true, List, [], ◌∷◌, map, T, length, take, drop, get_or, Some, None, Ok, Err}
use Rattle.laws.specs.All.{All}
use Rattle.laws.specs.Put.{over}
use Rattle.utf8.specs.Utf8.{scalar, scalars, encodes, size, valid_prefix}
use Rattle.types.specs.TypeOf.{find, ranges, type_of, ascending}
use Rattle.types.specs.Blocks.{Right}
use Rattle.sentence.specs.Sentence.{Tag, none, code, Sentence, text, marks, rows, count, table, char_positions, byte_positions}
use Rattle.sentence.specs.declared.Form.{Form}
use Rattle.sentence.specs.Reading.{Annotated, sentence, refused, read}
use Rattle.sentence.specs.Writing.{tokens_from, next_token_of, surface, written, needed, blank}
use Rattle.sentence.specs.declared.Refusal.{Refusal}
use Rattle.sentence.specs.Refusals.{refusal, number}
use Rattle.sentence.specs.Worked.{Case, worked, given}
use Rattle.sheet.specs.declared.Record.{Record}
use Rattle.sheet.specs.Answers.{Answer}
use Rattle.sheet.specs.Answers.{Number}
use Rattle.sheet.specs.Answers.{Slice}
use Rattle.sheet.specs.Layout.{Buffers, record_of, room_for, tags_of, cells_of, cell_starts, bytes_of, Holds, spell}
use Rattle.sheet.specs.Check.{is_sheet}
use Rattle.lookups.specs.Answers.{char_to_str_pos_of, str_to_char_pos_of, boundary_at, tag_at, surface_at}
use Rattle.read_load.specs.Load.{ReadDoes}
use Rattle.read.specs.Read.{UpdateDoes}
use Rattle.tokens.specs.declared.Token.{Token}
use Rattle.tokens.specs.Steps.{Next}
use Rattle.tokens.specs.Steps.{span_of, step_of, next_of, Listed}
use Rattle.write.specs.Answers.{Written}

-- each buffer holds its list of the sentence at its front, and behind it what it held
pub record Lies (s : Sentence) (d e : Buffers) : Type 0 where
  pub text_is : e.text_buf ≡ over (encodes (text s)) d.text_buf
  pub types_are : e.types_buf ≡ over (map type_of (text s)) d.types_buf
  pub boundaries_are : e.boundaries_buf ≡ over (map code (marks s)) d.boundaries_buf
  pub char_positions_are : e.char_pos_buf ≡ over (char_positions (text s)) d.char_pos_buf
  pub byte_positions_are : e.byte_pos_buf ≡ over (byte_positions (text s)) d.byte_pos_buf
  pub cell_starts_are : e.cell_starts_buf ≡ over (cell_starts 0 (cells_of s.columns (rows s))) d.cell_starts_buf
  pub cell_lengths_are : e.cell_lengths_buf ≡ over (map size (cells_of s.columns (rows s))) d.cell_lengths_buf
  pub tag_bytes_are : e.tag_bytes_buf ≡ over (bytes_of (tags_of (rows s))) d.tag_bytes_buf

-- the record and the buffers of a sentence that was read: they are its own, and hold it
pub record Taken (s : Sentence) (d : Buffers) (a : Answer) (e : Buffers) : Type 0 where
  pub answer_is : a ≡ Ok (record_of s)
  pub lies : Lies s d e
  pub holds : Holds (record_of s) e s

-- what a writer does with any record, buffers and output: 13 where no sentence is held, 12 where its line is longer than the output, else its line
pub data Writes (f : Form) (r : Record) (d : Buffers) (out : List ℕ) (a : Number) (out' : List ℕ) : Type 0 where
  no_sheet : ((s : Sentence) → Holds r d s → ⊥) → a ≡ Err (refusal 13 0) → out' ≡ out → Writes f r d out a out'
  too_short : (s : Sentence) → Holds r d s → length out < needed f s → a ≡ Err (refusal 12 (needed f s)) → out' ≡ out → Writes f r d out a out'
  its_line : (s : Sentence) → Holds r d s → needed f s ≤ length out → a ≡ Ok (needed f s) → out' ≡ over (written f s) out → Writes f r d out a out'

-- a slice of a buffer, within it, that is the encoding of these characters
abbrev pub Spells : List ℕ → List ℕ → Slice → Type 0
Spells cs bytes (Ok (Some p)) = (p.start ≤ p.end) × (p.end ≤ length bytes) × (take (p.end - p.start) (drop p.start bytes) ≡ encodes cs)
Spells cs bytes (Ok None) = ⊥
Spells cs bytes (Err x) = ⊥

-- a tag's slice: absent exactly where the tag is empty
abbrev pub Tells : Tag → List ℕ → Slice → Type 0
Tells [] bytes a = a ≡ Ok None
Tells (c ∷ t) bytes a = Spells (c ∷ t) bytes a

pub record Demand2 : Type 0 where
  -- a line that the grammar of its form reads to a sentence leaves that sentence
  pub reads : (f : Form) (x : List ℕ) (s : Sentence) (d e : Buffers) (a : Answer) → read f x ≡ sentence s → room_for (record_of s) d ≡ true
      → ReadDoes (read f x) d a e → Taken s d a e
  -- and so in an update
  pub updates : (f : Form) (x : List ℕ) (s : Sentence) (d e : Buffers) (a : Answer) → read f x ≡ sentence s → room_for (record_of s) d ≡ true
      → room_for (record_of blank) d ≡ true → UpdateDoes (read f x) d a e → Taken s d a e
  -- a refused update leaves the one-blank sentence
  pub update_blanks : (f : Form) (x : List ℕ) (d e : Buffers) (y : Refusal) → room_for (record_of blank) d ≡ true
      → UpdateDoes (read f x) d (Err y) e → Lies blank d e × Holds (record_of blank) e blank
  -- a line that the grammar refuses is refused by that number at that place, and the refusal has that number
  pub refuses : (f : Form) (x : List ℕ) (n p : ℕ) (d e : Buffers) (a : Answer) → read f x ≡ refused n p
      → ReadDoes (read f x) d a e → (a ≡ Err (refusal n p)) × (number (refusal n p) ≡ n)
  -- no sheet holds two sentences
  pub holds_one : (r : Record) (d : Buffers) (s t : Sentence) → Holds r d s → Holds r d t → s ≡ t
  -- a writer puts the written line of the sentence that a sheet holds
  pub writes : (f : Form) (r : Record) (d : Buffers) (s : Sentence) (out out' : List ℕ) (a : Number) → Holds r d s → needed f s ≤ length out
      → Written f r d out a out' → (a ≡ Ok (needed f s)) × (out' ≡ over (written f s) out)
  -- and so, or refuses, with any record, buffers and output
  pub writes_any : (f : Form) → Annotated f → (r : Record) (d : Buffers) (out out' : List ℕ) (a : Number) → Written f r d out a out' → Writes f r d out a out'
  -- a step of the cursor, and all tokens
  pub steps : (r : Record) (d : Buffers) (s : Sentence) (p : ℕ) (a : Next) → Holds r d s → a ≡ next_of r d p
      → a ≡ Ok (step_of (next_token_of (marks s) (count s) p))
  pub lists : (r : Record) (d : Buffers) (s : Sentence) (l l' : List Token) (a : Number) → Holds r d s → length (tokens_from (marks s) 0) ≤ length l
      → Listed r d l a l' → (a ≡ Ok (length (tokens_from (marks s) 0))) × (l' ≡ over (map span_of (tokens_from (marks s) 0)) l)
  -- the position maps: a character's byte position, and back to the character
  pub char_to_byte : (r : Record) (d : Buffers) (s : Sentence) (i : ℕ) (a : Number) → Holds r d s → i ≤ count s
      → a ≡ char_to_str_pos_of (is_sheet r d) (spell r d) i → a ≡ Ok (get_or (char_positions (text s)) i 0)
  pub byte_to_char : (r : Record) (d : Buffers) (s : Sentence) (i : ℕ) (a : Number) → Holds r d s → i ≤ count s
      → a ≡ str_to_char_pos_of (is_sheet r d) (spell r d) (get_or (char_positions (text s)) i 0) → a ≡ Ok i
  -- a boundary, by its number
  pub boundaries : (r : Record) (d : Buffers) (s : Sentence) (i : ℕ) (a : Number) → Holds r d s → i < count s - 1
      → a ≡ boundary_at (is_sheet r d) (spell r d) i → a ≡ Ok (code (get_or (marks s) i none))
  -- the tag of a cell of the Rust's padded table, and the surface of the characters from b up to e
  pub tags : (r : Record) (d : Buffers) (s : Sentence) (row column : ℕ) (a : Slice) → Holds r d s → row < count s → column < s.columns
      → a ≡ tag_at (is_sheet r d) (spell r d) row column → Tells (get_or (get_or (table s) row []) column []) d.tag_bytes_buf a
  pub surfaces : (r : Record) (d : Buffers) (s : Sentence) (b e : ℕ) (a : Slice) → Holds r d s → b < e → e ≤ count s
      → a ≡ surface_at (is_sheet r d) (spell r d) b e → Spells (surface s b e) d.text_buf a
  -- the type of every number by the 18 ranges, which are sorted, and the tables of those below 65,536
  pub get_type : (c a : ℕ) → a ≡ type_of c → a ≡ find ranges c
  pub tables : (index blocks : List ℕ) → Right index blocks → (c : ℕ) → c < 0x10000
      → get_or blocks (get_or index (c / 256) 0 * 256 + c % 256) 0 ≡ find ranges c
  pub sorted : T (ascending 0 ranges)
  -- UTF-8: encoding and decoding undo each other
  pub decodes : (cs : List ℕ) → All (λ (c : ℕ). scalar c ≡ true) cs → scalars (encodes cs) ≡ cs
  pub encodes_back : (x : List ℕ) → valid_prefix x ≡ length x → encodes (scalars x) ≡ x
  -- the worked lines of document 01, and more
  pub worked_lines : map given worked ≡ map (λ (c : Case). c.wanted) worked
