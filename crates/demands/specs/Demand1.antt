-- Demand 1: every public entry takes any bytes and numbers, ends, and serves or refuses by a number at a place; a refused call alters nothing
-- lent to it. That a call ends belongs to every contract; each row says the rest of one entry, of every outcome that meets its contract.
use Rattle.std.specs.Prelude.{ℕ, ◌+◌, ◌≤◌, ◌<◌, ◌≡◌, ◌↔◌, ◌⊎◌, Bool, true, false, ◌&&◌, ◌||◌, List, [], ◌∷◌, ◌++◌, eqb, ltb, ℤ, length, get_or, Ok, Err}
use Rattle.std.specs.Prelude as prelude
use Prim.Native.Char.{code as chr}
use Rattle.laws.specs.If.{when◌then◌else◌}
use Rattle.utf8.specs.declared.Decoded.{Decoded}
use Rattle.utf8.specs.declared.Decoded.TheVariants as decoded
use Rattle.utf8.specs.Utf8.{scalar, decode_at, valid_prefix}
use Rattle.types.specs.TypeOf.{type_of}
use Rattle.sentence.specs.declared.Refusal.{Refusal}
use Rattle.sentence.specs.declared.Form.{Form}
use Rattle.sentence.specs.declared.Form.TheVariants.{Raw as raw, Tokenized as tokenized, Partial as partial}
use Rattle.sentence.specs.Forms.{form_of}
use Rattle.sentence.specs.Reading.{Result, sentence, refused, read}
use Rattle.sentence.specs.Refusals.{number}
use Rattle.sentence.specs.Writing.{needed, blank}
use Rattle.sheet.specs.declared.Record.{Record}
use Rattle.sheet.specs.Answers.{Answer, Number, Slice, slice_of}
use Rattle.sheet.specs.Layout.{Buffers, laid, spell, Sheet}
use Rattle.sheet.specs.Check.{is_sheet}
use Rattle.lookups.specs.Answers.{char_to_str_pos_of, str_to_char_pos_of, boundary_at, tag_at, surface_at}
use Rattle.changes.specs.Changes.{DefaultSet, BoundarySet, TagsReset}
use Rattle.scores.specs.Scores.{Predicted}
use Rattle.read_load.specs.Load.{lacks, ReadDoes}
use Rattle.read.specs.Read.{UpdateDoes}
use Rattle.tokens.specs.declared.Token.{Token}
use Rattle.tokens.specs.Steps.{Next, tokens_of, next_of, Listed}
use Rattle.write.specs.Answers.{line_of, Written, copy_of, Withholds, key_of, Keyed}
use Rattle.convert_buffers.specs.Between.{overfull, Converts}
use Rattle.convert.specs.Convert.{conversion}
use Rattle.exports.specs.Exports.{code_of, read_code, HostReads, number_code, HostWrites, nearest, HostWithholds, HostKeys, step_code, HostSteps}
use Rattle.respelling.specs.Respell.{respell, whole}
use Rattle.respelling.specs.Run.{State, Run, goes}

-- what an answer says: it serves, or it refuses
pub data Said : Type 0 where
  serves : Said
  refuses : Refusal → Said

unfoldable pub said : {A : Type 0} → prelude.Result A Refusal → Said
said (Ok a) = serves
said (Err x) = refuses x

-- what is allowed: a number at one place, at any byte of a line, or at one that is the byte b
pub data Allowed : Type 0 where
  exactly : ℕ → ℕ → Allowed
  inside : ℕ → List ℕ → Allowed
  at_byte : ℕ → ℕ → List ℕ → Allowed

unfoldable pub allows : Allowed → Refusal → Bool
allows (exactly n p) y = eqb (number y) n && eqb y.place p
allows (inside n x) y = eqb (number y) n && ltb y.place (length x)
allows (at_byte n b x) y = eqb (number y) n && (ltb y.place (length x) && eqb (get_or x y.place 0) b)

-- a refusal is one of these
unfoldable pub one_of : List Allowed → Refusal → Bool
one_of [] x = false
one_of (q ∷ qs) x = allows q x || one_of qs x

-- it serves, or refuses by one of these
abbrev pub Answers : List Allowed → Said → Type 0
Answers qs serves = Unit {0}
Answers qs (refuses x) = one_of qs x ≡ true

-- and where it refuses, the lent memory is after the call what it was before
abbrev pub Settled : {M : Type 0} → List Allowed → Said → M → M → Type 0
Settled qs serves d e = Unit {0}
Settled qs (refuses x) d e = (one_of qs x ≡ true) × (e ≡ d)

-- the exception: where an update refuses, the one-blank sentence is laid down, given room for it
abbrev pub Blanked : List Allowed → Said → Buffers → Buffers → Type 0
Blanked qs serves d e = Unit {0}
Blanked qs (refuses x) d e = (one_of qs x ≡ true) × (e ≡ (when lacks d blank then d else laid blank d))

-- a line that is UTF-8 and not too long is refused in each form by these: at its end, at a NUL, at a space, at a slash, or at one of its bytes
unfoldable pub form_refusals : Form → List ℕ → List Allowed
form_refusals raw x = exactly 3 (length x) ∷ at_byte 4 0 x ∷ []
form_refusals tokenized x =
    exactly 3 (length x) ∷ at_byte 4 0 x ∷ at_byte 5 (chr " ") x ∷ at_byte 6 (chr " ") x ∷ at_byte 7 (chr "/") x ∷ exactly 8 (length x) ∷ []
form_refusals partial x = exactly 3 (length x) ∷ at_byte 4 0 x ∷ inside 9 x ∷ exactly 10 (length x) ∷ []

-- a line over 4,096 bytes is refused by 1 at 4096; one that is not UTF-8 by 2 at the end of its longest valid prefix; any other by its form
unfoldable pub line_refusals : Form → List ℕ → List Allowed
line_refusals f x =
    when ltb 4096 (length x) then exactly 1 4096 ∷ []
    else when ltb (valid_prefix x) (length x) then exactly 2 (valid_prefix x) ∷ []
    else form_refusals f x

-- a reader refuses by 11, or by what the line is refused by; an update by 15 too
abbrev pub read_refusals : Form → List ℕ → List Allowed
read_refusals f x = exactly 11 0 ∷ line_refusals f x

abbrev pub update_refusals : Form → List ℕ → List Allowed
update_refusals f x = exactly 15 0 ∷ read_refusals f x

-- a call on a sheet refuses by 13, or by 14 at the first number given
abbrev pub ask_refusals : ℕ → List Allowed
ask_refusals first = exactly 13 0 ∷ exactly 14 first ∷ []

-- a call that fills a list or an output refuses by 13, or by 12 at the length needed
abbrev pub fill_refusals : ℕ → List Allowed
fill_refusals need = exactly 13 0 ∷ exactly 12 need ∷ []

-- a call that writes a copy of a range refuses by 13, by 14 at the range's start, or by 12 at the length needed
abbrev pub copy_refusals : ℕ → ℕ → List Allowed
copy_refusals first need = exactly 13 0 ∷ exactly 14 first ∷ exactly 12 need ∷ []

-- a call that changes the columns refuses by 13, by 14 at the number given, or by 11
abbrev pub reset_refusals : ℕ → List Allowed
reset_refusals first = exactly 13 0 ∷ exactly 14 first ∷ exactly 11 0 ∷ []

-- a line that is refused, or has more cells than are held, which 11 refuses, or is written in a form, which 12 refuses at the length needed
unfoldable pub pass_refusals : Form → Form → List ℕ → Result → List Allowed
pass_refusals f g x (sentence s) = when overfull s then exactly 11 0 ∷ [] else exactly 12 (needed g s) ∷ []
pass_refusals f g x (refused n p) = line_refusals f x

-- the conversion refuses by 16, by 14 at 0, or by that
abbrev pub convert_refusals : Form → Form → List ℕ → List Allowed
convert_refusals f g x = exactly 16 0 ∷ exactly 14 0 ∷ pass_refusals f g x (read f x)

-- a decoded character is a scalar value of bytes that are there
abbrev pub Stands : List ℕ → ℕ → Decoded → Type 0
Stands s at (decoded.Char v n) = (scalar v ≡ true) × (at + n ≤ length s)
Stands s at decoded.Bad = Unit {0}
Stands s at decoded.End = Unit {0}

pub record Demand1 : Type 0 where
  -- the readers; `load` is given the form
  pub load : (f : Form) (line : List ℕ) (d e : Buffers) (a : Answer) → ReadDoes (read f line) d a e → Settled (read_refusals f line) (said a) d e
  pub from_raw : (line : List ℕ) (d e : Buffers) (a : Answer) → ReadDoes (read raw line) d a e → Settled (read_refusals raw line) (said a) d e
  pub from_tokenized : (line : List ℕ) (d e : Buffers) (a : Answer) → ReadDoes (read tokenized line) d a e
      → Settled (read_refusals tokenized line) (said a) d e
  pub from_partial_annotation : (line : List ℕ) (d e : Buffers) (a : Answer) → ReadDoes (read partial line) d a e
      → Settled (read_refusals partial line) (said a) d e
  -- their updates
  pub update_raw : (line : List ℕ) (d e : Buffers) (a : Answer) → UpdateDoes (read raw line) d a e
      → Blanked (update_refusals raw line) (said a) d e
  pub update_tokenized : (line : List ℕ) (d e : Buffers) (a : Answer) → UpdateDoes (read tokenized line) d a e
      → Blanked (update_refusals tokenized line) (said a) d e
  pub update_partial_annotation : (line : List ℕ) (d e : Buffers) (a : Answer) → UpdateDoes (read partial line) d a e
      → Blanked (update_refusals partial line) (said a) d e
  -- the writers and the note key
  pub write_tokenized_text : (r : Record) (d : Buffers) (out out' : List ℕ) (a : Number) → Written tokenized r d out a out'
      → Settled (fill_refusals (length (line_of tokenized r d))) (said a) out out'
  pub write_partial_annotation_text : (r : Record) (d : Buffers) (out out' : List ℕ) (a : Number) → Written partial r d out a out'
      → Settled (fill_refusals (length (line_of partial r d))) (said a) out out'
  pub note_key : (r : Record) (d : Buffers) (out out' : List ℕ) (a : Number) → Keyed r d out a out'
      → Settled (fill_refusals (length (key_of r d))) (said a) out out'
  -- the withheld copy
  pub write_withheld_text : (r : Record) (d : Buffers) (b e : ℕ) (out out' : List ℕ) (a : Number) → Withholds r d b e out a out'
      → Settled (copy_refusals b (length (copy_of r d b e))) (said a) out out'
  -- the token cursor and the token list
  pub next_token : (r : Record) (d : Buffers) (p : ℕ) (a : Next) → a ≡ next_of r d p → Answers (exactly 13 0 ∷ []) (said a)
  pub token_list : (r : Record) (d : Buffers) (l l' : List Token) (a : Number) → Listed r d l a l'
      → Settled (fill_refusals (length (tokens_of r d))) (said a) l l'
  -- the look-ups, which alter nothing
  pub char_to_str_pos : (r : Record) (d : Buffers) (i : ℕ) (a : Number) → a ≡ char_to_str_pos_of (is_sheet r d) (spell r d) i
      → Answers (ask_refusals i) (said a)
  pub str_to_char_pos : (r : Record) (d : Buffers) (p : ℕ) (a : Number) → a ≡ str_to_char_pos_of (is_sheet r d) (spell r d) p
      → Answers (ask_refusals p) (said a)
  pub boundary : (r : Record) (d : Buffers) (i : ℕ) (a : Number) → a ≡ boundary_at (is_sheet r d) (spell r d) i
      → Answers (ask_refusals i) (said a)
  pub tag : (r : Record) (d : Buffers) (row column : ℕ) (a : Slice) → a ≡ tag_at (is_sheet r d) (spell r d) row column
      → Answers (ask_refusals row) (said a)
  pub surface : (r : Record) (d : Buffers) (b e : ℕ) (a : Slice) → a ≡ surface_at (is_sheet r d) (spell r d) b e
      → Answers (ask_refusals b) (said a)
  -- an answered slice lies within the buffer that it is of
  pub tag_within : (r : Record) (d : Buffers) (row column : ℕ) (a : Slice) (b e : ℕ) → a ≡ tag_at (is_sheet r d) (spell r d) row column
      → a ≡ slice_of b e → (b ≤ e) × (e ≤ length d.tag_bytes_buf)
  pub surface_within : (r : Record) (d : Buffers) (i j : ℕ) (a : Slice) (b e : ℕ) → a ≡ surface_at (is_sheet r d) (spell r d) i j
      → a ≡ slice_of b e → (b ≤ e) × (e ≤ length d.text_buf)
  -- the changes and the boundary decision
  pub set_default : (d e : Buffers) (a : Answer) → DefaultSet d a e → Settled (exactly 15 0 ∷ []) (said a) d e
  pub set_boundary : (r : Record) (d e : Buffers) (i v : ℕ) (a : Answer) → BoundarySet r d i v a e → Settled (ask_refusals i) (said a) d e
  pub reset_tags : (r : Record) (d e : Buffers) (c : ℕ) (a : Answer) → TagsReset r d c a e → Settled (reset_refusals c) (said a) d e
  pub predict : (r : Record) (d e : Buffers) (zs : List ℤ) (a : Answer) → Predicted r d zs a e → Settled (ask_refusals (length zs)) (said a) d e
  -- the check: yes or no, and yes exactly where the buffers are a sheet
  pub check : (r : Record) (d : Buffers) (a : Bool) → a ≡ is_sheet r d → (a ≡ true) ↔ Sheet r d
  -- the conversion, and the same for the host, whose number is that of an answer
  pub convert : (reader writer : ℕ) (line out out' : List ℕ) (at : ℕ) (a : Number)
      → Converts (λ (c : Number). c) (conversion reader writer line (length out) at) at out a out'
      → Settled (convert_refusals (form_of reader) (form_of writer) line) (said a) out out'
  pub ighdelmur_convert : (reader writer : ℕ) (line out out' : List ℕ) (at a : ℕ)
      → Converts code_of (conversion reader writer line (length out) at) at out a out'
      → (c : Number) × (a ≡ code_of c) × Settled (convert_refusals (form_of reader) (form_of writer) line) (said c) out out'
  -- the host's other calls, whose number is that of an answer
  pub ighdelmur_read : (form : ℕ) (line : List ℕ) (d e : Buffers) (ns ns' : List ℕ) (a : ℕ) → HostReads form line d ns a e ns'
      → (c : Answer) × (a ≡ read_code c)
      × Settled {M = Buffers × List ℕ} (exactly 16 0 ∷ exactly 14 0 ∷ read_refusals (form_of form) line) (said c) (d, ns) (e, ns')
  pub ighdelmur_write : (form : ℕ) (r : Record) (d : Buffers) (out out' : List ℕ) (a : ℕ) → HostWrites form r d out a out'
      → (c : Number) × (a ≡ number_code c) × Settled (exactly 16 0 ∷ fill_refusals (length (line_of (form_of form) r d))) (said c) out out'
  pub ighdelmur_withhold : (r : Record) (d : Buffers) (b e : ℕ) (out out' : List ℕ) (a : ℕ) → HostWithholds r d b e out a out'
      → (c : Number) × (a ≡ number_code c) × Settled (copy_refusals (nearest b) (length (copy_of r d b e))) (said c) out out'
  pub ighdelmur_key : (r : Record) (d : Buffers) (out out' : List ℕ) (a : ℕ) → HostKeys r d out a out'
      → (c : Number) × (a ≡ number_code c) × Settled (fill_refusals (length (key_of r d))) (said c) out out'
  pub ighdelmur_next_token : (r : Record) (d : Buffers) (p : ℕ) (span span' : List ℕ) (a : ℕ) → HostSteps r d p span a span'
      → (c : Next) × (a ≡ step_code c) × Settled (exactly 13 0 ∷ exactly 14 0 ∷ []) (said c) span span'
  -- the program: a run that is over without a failed call has written the answers to all that it has read; while the end of the input was not
  -- seen, what it has written begins the answers to the lines whose LF was read
  pub program_ends : (room : ℕ) (x w : List ℕ) (a : State) → 8194 ≤ room → Run room x w a → goes a ≡ false → a.failed ≡ false → w ≡ respell x
  pub program_waits : (room : ℕ) (x w : List ℕ) (a : State) → 8194 ≤ room → Run room x w a → a.ended ≡ false
      → (rest : List ℕ) × (respell (whole x) ≡ w ++ rest)
  -- UTF-8 and types, which never refuse: what they answer is in its range
  pub decode : (s : List ℕ) (at : ℕ) (a : Decoded) → a ≡ decode_at s at → Stands s at a
  pub valid_up_to : (s : List ℕ) (a : ℕ) → a ≡ valid_prefix s → a ≤ length s
  pub is_scalar : (v : ℕ) (a : Bool) → a ≡ scalar v → (a ≡ true) ↔ ((v < 0xD800) ⊎ ((0xE000 ≤ v) × (v ≤ 0x10FFFF)))
  pub get_type : (c a : ℕ) → a ≡ type_of c → (1 ≤ a) × (a ≤ 6)
