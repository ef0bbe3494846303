-- Demand 2 holds of the public functions: from their contracts and the laws of the definitions. Assumes nothing.
use Rattle.std.specs.Prelude.{Ok, Err}
use Prim.Native.Nat.{ℕ, ◌+◌, ◌-◌, ◌*◌, ◌/◌, ◌%◌, ◌≤◌, ◌<◌}
use mathlib.Core.Path.{◌≡◌, refl, sym, subst, ◌∙◌}
use mathlib.Core.Bool.{Bool, true, false}
use mathlib.Core.List.{List, [], ◌∷◌, map}
use native.Mathlib.Omega.{arith}
use borrow.Author.Tests.{le-ltb, lt-leb, ltb-true, ltb-false}
use lib.Dec.{ltb}
use lib.ListN.{length, take, drop, get_or}
use Rattle.laws.specs.If.{when◌then◌else◌}
use Rattle.laws.specs.Put.{over}
use Rattle.utf8.specs.Utf8.{encodes, size}
use Rattle.utf8.proofs.Codec.{scalars_encodes, encodes_scalars}
use Rattle.types.specs.TypeOf.{find, ranges, type_of, sorted}
use Rattle.types.specs.Blocks.{Right}
use Rattle.types.proofs.Laws.{typed}
use Rattle.sentence.specs.Sentence.{Tag, none, code, Sentence, marks, rows, table, count}
use Rattle.sentence.specs.declared.Form.{Form}
use Rattle.sentence.specs.Reading.{Annotated, Result, sentence, refused, read}
use Rattle.sentence.specs.Writing.{tokens_from, next_token_of, surface, written, needed, blank}
use Rattle.sentence.specs.declared.Refusal.{Refusal}
use Rattle.demands.proofs.Numbers.{read_number}
use Rattle.sentence.specs.Refusals.{refusal, verdict, reader_order, update_order}
use Rattle.sentence.specs.Worked as examples
use Rattle.sentence.proofs.Shape.{read_formed}
use Rattle.sheet.specs.declared.Record.{Record}
use Rattle.sheet.specs.Answers.{Answer}
use Rattle.sheet.specs.Answers.{Number}
use Rattle.sheet.specs.Answers.{Slice}
use Rattle.sheet.specs.Layout.{Buffers, record_of, room_for, lay, laid, Holds, spell}
use Rattle.sheet.specs.Check.{is_sheet}
use Rattle.sheet.proofs.Held.{laid_holds, spelled, holds_once}
use Rattle.sheet.proofs.Exact.{is_sheet_lem, holds_is, no_sheet}
use Rattle.sheet.proofs.Look.{bounds}
use Rattle.lookups.specs.Answers.{start_at, char_to_str_pos_of, str_to_char_pos_of, boundary_at, cell, cell_start, tag_slice, tag_at, surface_slice, surface_at}
use Rattle.lookups.proofs.Slices.{cell_of_table, positions_back, surface_bytes, surface_fits, cell_here}
use Rattle.changes.specs.Changes.{DefaultSet, default_answer}
use Rattle.changes.proofs.After.{default_holds}
use Rattle.read_load.specs.Load.{lacks, read_answer, read_leaves, ReadDoes}
use Rattle.read.specs.Read.{update_answer, update_leaves, UpdateDoes}
use Rattle.sheet.proofs.Eights.{same_self, same_is}
use Rattle.tokens.specs.declared.Token.{Token}
use Rattle.tokens.specs.Steps.{Next}
use Rattle.tokens.specs.Steps.{span_of, step_of, next_of, list_order, count_of, Listed}
use Rattle.write.specs.Answers.{line_order, Written}
use Rattle.write.proofs.Laws as write
use Rattle.demands.specs.Demand2.{Lies, Taken, Writes, Spells, Tells, Demand2}
use Rattle.demands.specs.Demand2 as says

-- what is laid down, buffer by buffer
lies : (s : Sentence) (d : Buffers) → Lies s d (laid s d)
unfolding laid lay
lies s d = record { text_is = refl; types_are = refl; boundaries_are = refl; char_positions_are = refl; byte_positions_are = refl; cell_starts_are = refl; cell_lengths_are = refl; tag_bytes_are = refl }

taken : (f : Form) (x : List ℕ) (s : Sentence) (d e : Buffers) (a : Answer) → read f x ≡ sentence s → room_for (record_of s) d ≡ true
    → a ≡ Ok (record_of s) → e ≡ laid s d → Taken s d a e
taken f x s d e a i h p q = rw (p, q) (record { answer_is = refl; lies = lies s d; holds = laid_holds s d (read_formed f x s i).0 h })

reads : (f : Form) (x : List ℕ) (s : Sentence) (d e : Buffers) (a : Answer) → read f x ≡ sentence s → room_for (record_of s) d ≡ true → ReadDoes (read f x) d a e → Taken s d a e
unfolding read_answer read_leaves reader_order verdict lacks when◌then◌else◌
reads f x s d e a i h w = taken f x s d e a i h (w.answer_is ∙ rw (i, h)) (same_is w.buffers_are ∙ rw (i, h))

updates : (f : Form) (x : List ℕ) (s : Sentence) (d e : Buffers) (a : Answer) → read f x ≡ sentence s → room_for (record_of s) d ≡ true
    → room_for (record_of blank) d ≡ true → UpdateDoes (read f x) d a e → Taken s d a e
unfolding update_answer update_leaves update_order reader_order verdict lacks when◌then◌else◌
updates f x s d e a i h k w = taken f x s d e a i h (w.answer_is ∙ rw (i, h, k)) (same_is w.buffers_are ∙ rw (i, h, k))

serves : (d : Buffers) → room_for (record_of blank) d ≡ true → Ok (record_of blank) ≡ default_answer d
unfolding default_answer verdict when◌then◌else◌
serves d h = rw h

-- the one-blank sentence, laid down where there is room for it
blank_laid : (d : Buffers) → room_for (record_of blank) d ≡ true → Holds (record_of blank) (laid blank d) blank
blank_laid d h = default_holds d (Ok (record_of blank)) (laid blank d) (record_of blank) (set h) refl
  where
    set : room_for (record_of blank) d ≡ true → DefaultSet d (Ok (record_of blank)) (laid blank d)
    set k = record { answer_is = serves d k; leaves = same_self (laid blank d) }

blanks : (x : Result) (d e : Buffers) (y : Refusal) → room_for (record_of blank) d ≡ true → UpdateDoes x d (Err y) e → Lies blank d e × Holds (record_of blank) e blank
unfolding update_answer update_leaves update_order reader_order verdict lacks when◌then◌else◌
blanks x d e y h w = subst (λ (b : Buffers). Lies blank d b × Holds (record_of blank) b blank) (sym (same_is w.buffers_are ∙ on x w.answer_is)) (lies blank d, blank_laid d h)
  where
    served : (s : Sentence) (b : Bool) → Err y ≡ (when b then Err (refusal 11 0) else Ok (record_of s)) → (when b then laid blank d else laid s d) ≡ laid blank d
    served s true a = refl
    served s false a = absurd (let z : ◌≡◌ {A = ℕ} 0 1 = cc in omega arith)

    on : (x : Result) → Err y ≡ update_answer x d → update_leaves x d ≡ laid blank d
    on (refused n p) a = rw h
    on (sentence s) a = rw h (served s (lacks d s) (rw h at a))

refused_by : (f : Form) (x : List ℕ) (n p : ℕ) (d e : Buffers) (a : Answer) → read f x ≡ refused n p → ReadDoes (read f x) d a e → a ≡ Err (refusal n p)
unfolding read_answer reader_order
refused_by f x n p d e a i w = w.answer_is ∙ rw i

writes : (f : Form) (r : Record) (d : Buffers) (s : Sentence) (out out' : List ℕ) (a : Number) → Holds r d s → needed f s ≤ length out
    → Written f r d out a out' → (a ≡ Ok (needed f s)) × (out' ≡ over (written f s) out)
writes f r d s out out' a h k w = let z = spelled r d s h in rw (← z) (write.puts_once w (write.serves r d false 0 (rw z h) refl (rw z k)))

writes_any : (f : Form) → Annotated f → (r : Record) (d : Buffers) (out out' : List ℕ) (a : Number) → Written f r d out a out' → Writes f r d out a out'
unfolding line_order verdict when◌then◌else◌
writes_any f an r d out out' a w = on (is_sheet r d) refl
  where
    on : (b : Bool) → is_sheet r d ≡ b → Writes f r d out a out'
    on false e = says.no_sheet (no_sheet r d e) (w.answer_is ∙ rw e) (w.out_is ∙ rw e)
    on true e = long (ltb (length out) (needed f (spell r d))) refl
      where
        long : (c : Bool) → ltb (length out) (needed f (spell r d)) ≡ c → Writes f r d out a out'
        long true l = says.too_short (spell r d) (is_sheet_lem r d e) (ltb-true _ _ l) (w.answer_is ∙ rw (e, l)) (w.out_is ∙ rw (e, l))
        long false l = says.its_line (spell r d) (is_sheet_lem r d e) (ltb-false _ _ l) (w.answer_is ∙ rw (e, l)) (w.out_is ∙ rw (e, l))

steps : (r : Record) (d : Buffers) (s : Sentence) (p : ℕ) (a : Next) → Holds r d s → a ≡ next_of r d p → a ≡ Ok (step_of (next_token_of (marks s) (count s) p))
unfolding next_of verdict when◌then◌else◌
steps r d s p a h e = e ∙ rw (holds_is r d s h, spelled r d s h)

lists : (r : Record) (d : Buffers) (s : Sentence) (l l' : List Token) (a : Number) → Holds r d s → length (tokens_from (marks s) 0) ≤ length l
    → Listed r d l a l' → (a ≡ Ok (length (tokens_from (marks s) 0))) × (l' ≡ over (map span_of (tokens_from (marks s) 0)) l)
unfolding count_of list_order verdict when◌then◌else◌
lists r d s l l' a h k w =
    let g = holds_is r d s h in
    let z = spelled r d s h in
    let n = le-ltb (length l) (length (tokens_from (marks s) 0)) k in
    (w.answer_is ∙ rw (g, z, n), w.list_is ∙ rw (g, z, n))

char_to_byte : (r : Record) (d : Buffers) (s : Sentence) (i : ℕ) (a : Number) → Holds r d s → i ≤ count s
    → a ≡ char_to_str_pos_of (is_sheet r d) (spell r d) i → a ≡ Ok (start_at s i)
unfolding char_to_str_pos_of verdict when◌then◌else◌
char_to_byte r d s i a h k e = e ∙ rw (holds_is r d s h, spelled r d s h, le-ltb (count s) i k)

byte_to_char : (r : Record) (d : Buffers) (s : Sentence) (i : ℕ) (a : Number) → Holds r d s → i ≤ count s
    → a ≡ str_to_char_pos_of (is_sheet r d) (spell r d) (start_at s i) → a ≡ Ok i
byte_to_char r d s i a h k e = e ∙ rw (holds_is r d s h, spelled r d s h) (positions_back s i k)

boundaries : (r : Record) (d : Buffers) (s : Sentence) (i : ℕ) (a : Number) → Holds r d s → i < count s - 1
    → a ≡ boundary_at (is_sheet r d) (spell r d) i → a ≡ Ok (code (get_or (marks s) i none))
unfolding boundary_at verdict when◌then◌else◌
boundaries r d s i a h k e = e ∙ rw (holds_is r d s h, spelled r d s h, lt-leb (count s - 1) i k)

-- what a tag's slice tells, by where its bytes lie
tells : (t : Tag) (at : ℕ) (bytes : List ℕ) → (at + size t ≤ length bytes) × (take (size t) (drop at bytes) ≡ encodes t) → Tells t bytes (tag_slice at t)
unfolding tag_slice
tells [] at bytes h = refl
tells (c ∷ t) at bytes h =
    let n : at + size (c ∷ t) - at ≡ size (c ∷ t) = omega arith in
    (omega arith, h.0, rw n h.1)

tags : (r : Record) (d : Buffers) (s : Sentence) (row column : ℕ) (a : Slice) → Holds r d s → row < count s → column < s.columns
    → a ≡ tag_at (is_sheet r d) (spell r d) row column → Tells (get_or (get_or (table s) row []) column []) d.tag_bytes_buf a
unfolding tag_at verdict when◌then◌else◌
tags r d s row column a h k l e =
    let n : row < r.n = omega (arith, bounds h) in
    let f : a ≡ tag_slice (cell_start (rows s) row column) (cell s row column) =
    e ∙ rw (holds_is r d s h, spelled r d s h, lt-leb (count s) row k, lt-leb s.columns column l) in
    rw (f, cell_of_table s row column (omega (arith, bounds h)))
    (tells (cell s row column) (cell_start (rows s) row column) d.tag_bytes_buf (cell_here h row column n (omega (arith, bounds h))))

surfaces : (r : Record) (d : Buffers) (s : Sentence) (b e : ℕ) (a : Slice) → Holds r d s → b < e → e ≤ count s
    → a ≡ surface_at (is_sheet r d) (spell r d) b e → Spells (surface s b e) d.text_buf a
unfolding surface_at verdict when◌then◌else◌
surfaces r d s b e a h k l i =
    let n : e ≤ r.n = omega (arith, bounds h) in
    let f : a ≡ surface_slice s b e = i ∙ rw (holds_is r d s h, spelled r d s h, lt-leb e b k, le-ltb (count s) e l) in
    let g = surface_fits h b e (omega arith) n in
    rw f (g.0, g.1, surface_bytes h b e (omega arith) n)

by_ranges : (c a : ℕ) → a ≡ type_of c → a ≡ find ranges c
unfolding type_of
by_ranges c a e = e

tables : (index blocks : List ℕ) → Right index blocks → (c : ℕ) → c < 0x10000 → get_or blocks (get_or index (c / 256) 0 * 256 + c % 256) 0 ≡ find ranges c
tables index blocks t c h = by_ranges c _ (typed t c h)

pub demand_2 : Demand2
demand_2 = record {
  reads = reads;
  updates = updates;
  update_blanks = λ f x d e y h w. blanks (read f x) d e y h w;
  refuses = λ f x n p d e a r w. (refused_by f x n p d e a r w, read_number f x n p r);
  holds_one = λ r d s t h k. holds_once h k;
  writes = writes;
  writes_any = writes_any;
  steps = steps;
  lists = lists;
  char_to_byte = char_to_byte;
  byte_to_char = byte_to_char;
  boundaries = boundaries;
  tags = tags;
  surfaces = surfaces;
  get_type = by_ranges;
  tables = tables;
  sorted = sorted;
  decodes = scalars_encodes;
  encodes_back = encodes_scalars;
  worked_lines = examples.worked_lines;
}
