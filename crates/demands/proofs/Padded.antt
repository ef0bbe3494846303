-- The padded table over the public functions, from the laws of the layout and of the contracts. Assumes nothing.
use Rattle.std.specs.Prelude.{Ok, Err}
use Prim.Native.Nat.{ℕ, ◌+◌, ◌-◌, ◌*◌, ◌≤◌, ◌<◌}
use native.Mathlib.Omega.{arith}
use mathlib.Core.Path.{◌≡◌, refl, sym, ap, ◌∙◌}
use mathlib.Core.Logic.{◌↔◌, ◌⊎◌, inl, inr}
use mathlib.Core.Bool.{Bool, true, false, ◌&&◌, ◌||◌, false≢true}
use mathlib.Core.List.{List, [], ◌++◌}
use borrow.Author.Tests.{ne_eqb, lt-ltb, le-ltb, ltb-false}
use lib.Dec.{eqb, leb, ltb}
use lib.ListN.{length, take, drop, get_or, length-map}
use lib.Seq.{take-length}
use Rattle.laws.specs.If.{when◌then◌else◌}
use Rattle.laws.specs.Put.{over}
use Rattle.laws.proofs.Facts.{neither}
use Rattle.utf8.specs.Utf8.{size}
use Rattle.utf8.proofs.Codec.{no_bytes}
use Rattle.sentence.specs.Sentence.{Tag, Sentence, marks, rows, count, table, row_bytes}
use Rattle.sentence.specs.declared.Form.{Form}
use Rattle.sentence.specs.declared.Form.TheVariants.{Partial as partial}
use Rattle.sentence.specs.Forms.{form_of, no_reader, no_writer}
use Rattle.sentence.specs.Reading.{sentence, read}
use Rattle.sentence.specs.Writing.{tokens_from, written}
use Rattle.sentence.specs.Refusals.{refusal, verdict, host_order}
use Rattle.sentence.proofs.Shape.{read_narrow}
use Rattle.sentence.specs.Reading.{Annotated}
use Rattle.sentence.proofs.Forms.{annotated, writer_reads}
use Rattle.sheet.specs.declared.Record.{Record}
use Rattle.sheet.specs.Answers.{Answer}
use Rattle.sheet.specs.Layout.{Buffers, record_of, tags_of, cells_of, bytes_of, room_for, Holds, spell}
use Rattle.sheet.specs.Check.{in_limits, is_laid, is_sheet}
use Rattle.sheet.specs.Listed.{row_ends_of, tag_ends_of, Lists}
use Rattle.sheet.proofs.Held.{laid_holds, spelled, tag_bytes_held}
use Rattle.sheet.proofs.Exact.{holds_is}
use Rattle.sheet.proofs.Look.{bounds, cell_start_is, cell_fits}
use Rattle.sheet.proofs.Listed.{same_spelled}
use Rattle.lookups.specs.Answers.{cell}
use Rattle.lookups.proofs.Laws.{cell_length_at}
use Rattle.lookups.proofs.Slices.{cell_of_table}
use Rattle.changes.specs.Changes.{lack_cells, reset_answer, TagsReset}
use Rattle.read_load.specs.Load.{ReadDoes}
use Rattle.tokens.specs.Steps.{span_of, next_of, list_order, count_of}
use Rattle.write.specs.Answers.{line_order}
use Rattle.sheet.specs.Answers.{Number}
use Rattle.convert_buffers.specs.Between.{writes, refuses, overfull, between, answer_of, output_of, Converts}
use Rattle.convert.specs.Convert.{unknown_forms, out_of_range, conversion}
use Rattle.demands.specs.Padded.{ToldOf, listed_of, PaddedTable}
use Rattle.demands.proofs.Demand2.{demand_2}
use Rattle.demands.proofs.Demand3.{own_back}

-- ---- the cells
none_sized : (t : Tag) → t ≡ [] → size t ≡ 0
unfolding size
none_sized t e = rw e

module _ (r : Record) (d : Buffers) (s : Sentence) (row column : ℕ) (h : Holds r d s) (k : row < count s) (l : column < s.columns) where
  start_at : get_or d.cell_starts_buf (row * s.columns + column) 0 ≡ row_bytes (take (row * s.columns + column) (cells_of s.columns (rows s)))
  start_at =
      let b = bounds h in
      let f : row * s.columns + column < r.cells = rw (← b.columns_is) (cell_fits h row column (omega arith) (omega arith)) in
      cell_start_is h (row * s.columns + column) f

  length_at : get_or d.cell_lengths_buf (row * s.columns + column) 0 ≡ size (get_or (get_or (table s) row []) column [])
  length_at =
      let b = bounds h in
      let e : get_or d.cell_lengths_buf (row * s.columns + column) 0 ≡ size (cell s row column) = rw (← b.columns_is) (cell_length_at h row column (omega arith) (omega arith)) in
      e ∙ ap size (sym (cell_of_table s row column (omega arith)))

  absent_at : (get_or d.cell_lengths_buf (row * s.columns + column) 0 ≡ 0) ↔ (get_or (get_or (table s) row []) column [] ≡ [])
  absent_at = (λ e. no_bytes _ (sym length_at ∙ e), λ e. length_at ∙ none_sized _ e)

bytes_at : (r : Record) (d : Buffers) (s : Sentence) → Holds r d s → take r.g d.tag_bytes_buf ≡ bytes_of (tags_of (rows s))
bytes_at r d s h = (tag_bytes_held h).is

counted : (r : Record) (d : Buffers) (s : Sentence) → Holds r d s → r.cells ≡ count s * s.columns
counted r d s h = let b = bounds h in b.cells_is ∙ rw (b.n_is, b.columns_is)

all_false : (a b : Bool) → a ≡ false → (a && b) ≡ false
all_false a b e = rw e

last_false : (a b : Bool) → b ≡ false → (a && b) ≡ false
last_false true b e = e
last_false false b e = refl

no_other : (r : Record) (d : Buffers) → (r.cells ≡ r.n * r.columns → ⊥) → is_sheet r d ≡ false
unfolding is_sheet in_limits
no_other r d n =
    all_false (in_limits r && room_for r d) (is_laid r d)
    (all_false (in_limits r) (room_for r d)
    (last_false (leb 1 r.n && leb r.n r.b && leb r.b 4096 && leb r.columns 4096 && leb r.g 65535) (eqb r.cells (r.n * r.columns))
    (ne_eqb r.cells (r.n * r.columns) n)))

-- ---- the answers
told : (r : Record) (d : Buffers) (t : Sentence) → is_sheet r d ≡ true → spell r d ≡ t → ToldOf r d t
unfolding next_of count_of list_order line_order verdict when◌then◌else◌
told r d t g z = record {
  char_to_str_pos = λ i a e. e ∙ rw (g, z);
  str_to_char_pos = λ p a e. e ∙ rw (g, z);
  boundary = λ i a e. e ∙ rw (g, z);
  tag = λ row column a e. e ∙ rw (g, z);
  surface = λ b c a e. e ∙ rw (g, z);
  next_token = λ p a e. e ∙ rw (g, z);
  token_list = λ l l' a w.
      let e = length-map (tokens_from (marks t) 0) span_of in
      record { answer_is = w.answer_is ∙ rw (g, z, e); out_is = w.list_is ∙ rw (g, z, e) };
  line = λ f out out' a w. record { answer_is = w.answer_is ∙ rw (g, z); out_is = w.out_is ∙ rw (g, z) };
  copy = λ b c out out' a n w. record { answer_is = w.answer_is ∙ rw (g, z, n); out_is = w.out_is ∙ rw (g, z, n) };
  note_key = λ out out' a w. record { answer_is = w.answer_is ∙ rw (g, z); out_is = w.out_is ∙ rw (g, z) };
}

same_answers : (r : Record) (d : Buffers) (s : Sentence) (w e g : List ℕ) → Holds r d s → Lists s w e g → ToldOf r d (listed_of r d s w e g)
same_answers r d s w e g h l = told r d (listed_of r d s w e g) (holds_is r d s h) (sym (same_spelled r d s w e g h l))

same_sentence : (f : Form) (x : List ℕ) (s : Sentence) (d c : Buffers) (a : Answer) (w e g : List ℕ) → read f x ≡ sentence s
    → room_for (record_of s) d ≡ true → ReadDoes (read f x) d a c → Lists s w e g
    → (a ≡ Ok (record_of s)) × (spell (record_of s) c ≡ listed_of (record_of s) c s w e g)
same_sentence f x s d c a w e g i n does l =
    let t = demand_2.reads f x s d c a i n does in
    (t.answer_is, sym (same_spelled (record_of s) c s w e g t.holds l))

rows_listed : (s : Sentence) → Lists s (row_ends_of 0 (rows s)) (tag_ends_of 0 (tags_of (rows s))) (bytes_of (tags_of (rows s)))
rows_listed s = record { row_ends_at = take-length _; tag_ends_at = take-length _; tag_bytes_at = take-length _ }

-- ---- `reset_tags`
either : (a b : Bool) → (a ≡ true) ⊎ (b ≡ true) → (a || b) ≡ true
either true b h = refl
either false b (inl e) = absurd (false≢true e)
either false b (inr e) = e

module _ (r : Record) (d e : Buffers) (s : Sentence) (c : ℕ) (a : Answer) (h : Holds r d s) (w : TagsReset r d c a e) where
  reset_columns : 4096 < c → a ≡ Err (refusal 14 c)
  unfolding reset_answer verdict when◌then◌else◌
  reset_columns k = w.answer_is ∙ rw (holds_is r d s h, lt-ltb 4096 c k)

  reset_lacks : c ≤ 4096 → (length d.cell_starts_buf < count s * c) ⊎ (length d.cell_lengths_buf < count s * c) → a ≡ Err (refusal 11 0)
  unfolding reset_answer lack_cells verdict when◌then◌else◌
  reset_lacks k l =
      w.answer_is
      ∙ rw (holds_is r d s h, spelled r d s h, le-ltb 4096 c k, either (ltb (length d.cell_starts_buf) (count s * c)) (ltb (length d.cell_lengths_buf) (count s * c)) (short l))
    where
      short : (length d.cell_starts_buf < count s * c) ⊎ (length d.cell_lengths_buf < count s * c)
          → (ltb (length d.cell_starts_buf) (count s * c) ≡ true) ⊎ (ltb (length d.cell_lengths_buf) (count s * c) ≡ true)
      short (inl p) = inl (lt-ltb _ _ p)
      short (inr p) = inr (lt-ltb _ _ p)

-- ---- the conversion
module _ (reader writer : ℕ) (x out : List ℕ) (at : ℕ) (s : Sentence) (i : read (form_of reader) x ≡ sentence s) where
  -- what comes of a line that is read, by the three tests in front and how many cells it has
  comes_full : unknown_forms reader writer ≡ false → out_of_range (length out) at ≡ false → 2048 < count s * s.columns
      → conversion reader writer x (length out) at ≡ refuses (refusal 11 0)
  unfolding conversion between overfull host_order verdict when◌then◌else◌
  comes_full u o k = rw (u, o, i, lt-ltb 2048 (count s * s.columns) k)

  comes_line : unknown_forms reader writer ≡ false → out_of_range (length out) at ≡ false → count s * s.columns ≤ 2048
      → length (written (form_of writer) s) ≤ length out - at → conversion reader writer x (length out) at ≡ writes (written (form_of writer) s)
  unfolding conversion between overfull host_order verdict when◌then◌else◌
  comes_line u o k l = rw (u, o, i, le-ltb 2048 (count s * s.columns) k, le-ltb (length out - at) (length (written (form_of writer) s)) l)

  overfull_refused : (out' : List ℕ) (a : Number) → unknown_forms reader writer ≡ false → out_of_range (length out) at ≡ false
      → Converts (λ (c : Number). c) (conversion reader writer x (length out) at) at out a out' → 2048 < count s * s.columns
      → (a ≡ Err (refusal 11 0)) × (out' ≡ out)
  unfolding answer_of output_of
  overfull_refused out' a u o w k = let z = comes_full u o k in (w.answer ∙ rw z, w.output ∙ rw z)

  fitting_served : (out' : List ℕ) (a : Number) → unknown_forms reader writer ≡ false → out_of_range (length out) at ≡ false
      → Converts (λ (c : Number). c) (conversion reader writer x (length out) at) at out a out' → count s * s.columns ≤ 2048
      → length (written (form_of writer) s) ≤ length out - at
      → (a ≡ Ok (at + length (written (form_of writer) s))) × (out' ≡ take at out ++ over (written (form_of writer) s) (drop at out))
  unfolding answer_of output_of
  fitting_served out' a u o w k l = let z = comes_line u o k l in (w.answer ∙ rw z, w.output ∙ rw z)

  -- a line that was written has known forms and few cells
  few : (out' : List ℕ) (end : ℕ) → Converts (λ (c : Number). c) (conversion reader writer x (length out) at) at out (Ok end) out'
      → (unknown_forms reader writer ≡ false) × (count s * s.columns ≤ 2048)
  unfolding conversion between overfull host_order verdict when◌then◌else◌ answer_of
  few out' end w = on (unknown_forms reader writer) (out_of_range (length out) at) (ltb 2048 (count s * s.columns)) refl refl (w.answer ∙ rw i)
    where
      on : (u o k : Bool) → unknown_forms reader writer ≡ u → ltb 2048 (count s * s.columns) ≡ k
          → Ok end ≡ answer_of at (when u then refuses (refusal 16 0) else (when o then refuses (refusal 14 0) else (when k then refuses (refusal 11 0) else
          (when ltb (length out - at) (length (written (form_of writer) s)) then refuses (refusal 12 (length (written (form_of writer) s))) else writes (written (form_of writer) s)))))
          → (unknown_forms reader writer ≡ false) × (count s * s.columns ≤ 2048)
      on true o k p q e = absurd (let z : ◌≡◌ {A = ℕ} 0 1 = cc in omega arith)
      on false true k p q e = absurd (let z : ◌≡◌ {A = ℕ} 0 1 = cc in omega arith)
      on false false true p q e = absurd (let z : ◌≡◌ {A = ℕ} 0 1 = cc in omega arith)
      on false false false p q e = (p, ltb-false 2048 (count s * s.columns) q)

to_annotated : (reader writer : ℕ) → unknown_forms reader writer ≡ false → Annotated (form_of writer)
unfolding unknown_forms
to_annotated reader writer h = annotated writer (neither (no_reader reader) (no_writer writer) h).1 refl

-- a form that may be written may be read
known_again : (reader writer : ℕ) → unknown_forms reader writer ≡ false → unknown_forms writer writer ≡ false
unfolding unknown_forms
known_again reader writer h = let k = (neither (no_reader reader) (no_writer writer) h).1 in rw (writer_reads writer k, k)

back : (reader writer : ℕ) (x u out out' buf buf' : List ℕ) (at end p : ℕ) (a : Number) (s : Sentence)
    → (form_of reader ≡ form_of writer) ⊎ (form_of writer ≡ partial) → read (form_of reader) x ≡ sentence s → u ≡ written (form_of writer) s
    → Converts (λ (c : Number). c) (conversion reader writer x (length out) at) at out (Ok end) out'
    → length u ≤ 4096 → out_of_range (length buf) p ≡ false → length u ≤ length buf - p
    → Converts (λ (c : Number). c) (conversion writer writer u (length buf) p) p buf a buf'
    → (a ≡ Ok (p + length u)) × (buf' ≡ take p buf ++ over u (drop p buf))
back reader writer x u out out' buf buf' at end p a s f i e w l o m v =
    let k = few reader writer x out at s i out' end w in
    let y = own_back (form_of reader) (form_of writer) (to_annotated reader writer k.0) x u s f i e l in
    let z = fitting_served writer writer u buf p s y buf' a (known_again reader writer k.0) o v k.1 (rw e at m) in
    rw e z

pub padded_table : PaddedTable
padded_table = record {
  starts = start_at;
  lengths = length_at;
  absent = absent_at;
  bytes = bytes_at;
  counted = counted;
  no_other = no_other;
  any_many = λ s d f h. laid_holds s d f h;
  of_line = read_narrow;
  same_answers = same_answers;
  same_sentence = same_sentence;
  rows_listed = rows_listed;
  reset_columns = λ r d e s c a h w k. reset_columns r d e s c a h w k;
  reset_lacks = λ r d e s c a h w k l. reset_lacks r d e s c a h w k l;
  overfull = λ reader writer x out out' at a s u o w i k. overfull_refused reader writer x out at s i out' a u o w k;
  fitting = λ reader writer x out out' at a s u o w i k l. fitting_served reader writer x out at s i out' a u o w k l;
  reads_back = back;
}
