-- The places of refusals are small, so that the host's numbers fit 64 bits. Assumes nothing.
use Rattle.std.specs.Prelude.{Result, Ok, Err, OnOk}
use Prim.Native.Nat.{ℕ, min, ◌^◌, ◌<◌, ◌≤◌}
use native.Mathlib.Omega.{arith}
use mathlib.Core.Path.{◌≡◌, refl, sym, ap}
use mathlib.Core.Bool.{false, not, false≢true}
use mathlib.Core.List.{List, []}
use borrow.Author.Tests.{lt-ltb, ltb-true, ltb-false, not-false}
use lib.Dec.{ltb}
use lib.ListN.{length}
use Rattle.laws.specs.If.{when◌then◌else◌, if_true, if_cases}
use Rattle.sentence.specs.declared.Refusal.{Refusal}
use Rattle.sentence.specs.Sentence.{Sentence}
use Rattle.sentence.specs.declared.Form.{Form}
use Rattle.sentence.specs.declared.Form.TheVariants.{Partial as partial}
use Rattle.sentence.specs.Forms.{form_of, no_reader, no_writer}
use Rattle.sentence.specs.Reading.{sentence, refused, read}
use Rattle.sentence.specs.Reading as reading
use Rattle.sentence.specs.Withheld.{trimmed, withheld}
use Rattle.sentence.specs.Refusals.{refusal, verdict, reader_order, host_order, Near}
use Rattle.sentence.proofs.Withheld.{formed_trimmed}
use Rattle.sheet.specs.Layout.{Buffers, record_of, spell, Sheet}
use Rattle.sheet.specs.Check.{is_sheet}
use Rattle.sheet.proofs.Exact.{is_sheet_lem}
use Rattle.sheet.specs.declared.Record.{Record}
use Rattle.sheet.specs.Answers.{Answer}
use Rattle.sheet.specs.Answers.{Number}
use Rattle.read_load.specs.Load.{lacks, read_answer, Does}
use Rattle.write_partial.proofs.Count.{line_few}
use Rattle.write_partial.proofs.Widest.{columns_few}
use Rattle.write.specs.Answers.{line_order, PutsLine, line_of, Written, copy_of, key_of, Keyed}
use Rattle.tokens.specs.Steps.{next_of}
use Rattle.tokens.specs.Steps.{Next}
use Rattle.convert_buffers.specs.Between.{Outcome, refuses, between, answer_of, output_of}
use Rattle.convert.specs.Convert.{unknown_forms, out_of_range, conversion}
use Rattle.exports.proofs.Lengths.{written_small}
use Rattle.exports.proofs.Codes.{small_place}
use Rattle.exports.specs.Exports.{NearIn, read_first, host_answer, host_write_order, LineWritten, nearest, nearest_in}

-- ---- a refusal at 0
pub near_start : {q : Refusal} → q ≡ refusal 14 0 → Near q
near_start e = rw e (omega arith)

-- ---- a reader's: a conversion of the line is refused at the same place
read_place : (f : ℕ) (x : List ℕ) (n p : ℕ) → no_reader f ≡ false → read (form_of f) x ≡ refused n p → p < 2 ^ 32
unfolding no_reader no_writer unknown_forms out_of_range conversion between host_order verdict answer_of output_of when◌then◌else◌
read_place f x n p h e =
    let o : conversion f 1 x 0 0 ≡ refuses (refusal n p) = rw (h, e) in
    small_place f 1 x 0 0 {out = []} {end = []} {q = refusal n p} (record { answer = ap (answer_of 0) (sym o); output = ap (λ (y : Outcome). output_of 0 y []) (sym o) }) refl

near_read : (f : ℕ) (x : List ℕ) (d : Buffers) → no_reader f ≡ false → NearIn (read_answer (read (form_of f) x) d)
unfolding read_answer reader_order verdict NearIn
near_read f x d h = on (read (form_of f) x) refl
  where
    on : (r : reading.Result) → read (form_of f) x ≡ r → NearIn (reader_order Err (lacks d) (λ (s : Sentence). Ok (record_of s)) r)
    on (refused n p) e = read_place f x n p h e
    on (sentence s) e = if_cases NearIn (lacks d s) _ _ (λ _. omega arith) (λ _. tt)

-- with room for so many numbers
near_host : (f : ℕ) (x : List ℕ) (d : Buffers) (room : ℕ) → NearIn (host_answer f x d room)
unfolding host_answer read_first verdict NearIn
near_host f x d room =
    if_cases NearIn (no_reader f) _ _ (λ _. omega arith)
    (λ h. if_cases NearIn (ltb room 5) _ _ (λ _. omega arith) (λ _. near_read f x d h))

room_host : (f : ℕ) (x : List ℕ) (d : Buffers) (room : ℕ) → OnOk (host_answer f x d room) (5 ≤ room)
unfolding host_answer read_first verdict
room_host f x d room =
    if_cases (λ (a : Answer). OnOk a (5 ≤ room)) (no_reader f) _ _ (λ _. tt)
    (λ _. if_cases (λ (a : Answer). OnOk a (5 ≤ room)) (ltb room 5) _ _ (λ _. tt) (λ e. let l = ltb-false room 5 e in on (read_answer (read (form_of f) x) d) l))
  where
    on : (a : Answer) → 5 ≤ room → OnOk a (5 ≤ room)
    on (Ok r) l = l
    on (Err q) l = tt

pub reads_asks : (f : ℕ) (x : List ℕ) (d : Buffers) (room : ℕ) {b e : Buffers} {a : Answer} → Does (host_answer f x d room) b a e → OnOk a (5 ≤ room) × NearIn a
reads_asks f x d room w = (rw w.answer_is (room_host f x d room), rw w.answer_is (near_host f x d room))

-- the place of a refusal that is told
pub near_err : {A : Type 0} {a : Result A Refusal} {q : Refusal} → NearIn a → a ≡ Err q → q.place < 2 ^ 32
unfolding NearIn
near_err h e = rw e at h

-- ---- a writer's, where a line is short
put_at : (r : Record) (d : Buffers) (w out : List ℕ) → (Sheet r d → length w < 2 ^ 32) → NearIn (verdict Err (line_order r d false 0 w (length out)) (Ok (length w)))
unfolding line_order verdict NearIn
put_at r d w out h =
    (if_cases NearIn (not (is_sheet r d)) _ _ (λ _. omega arith)
    (λ e. if_cases NearIn false _ _ (λ _. omega arith) (λ _. if_cases NearIn (ltb (length out) (length w)) _ _ (λ _. h (is_sheet_lem r d (not-false _ e))) (λ _. tt))))

near_put : (r : Record) (d : Buffers) (w : List ℕ) {out out' : List ℕ} {a : Number} → (Sheet r d → length w < 2 ^ 32) → PutsLine r d false 0 w out a out' → NearIn a
near_put r d w {out} h p = rw p.answer_is (put_at r d w out h)

pub near_form : (f : Form) (r : Record) (d : Buffers) {out out' : List ℕ} {a : Number} → Written f r d out a out' → NearIn a
near_form f r d w = near_put r d (line_of f r d) (λ h. written_small (spell r d) h.formed f) w

pub near_written : (f : ℕ) (r : Record) (d : Buffers) {out out' : List ℕ} {a : Number} → LineWritten f r d out a out' → NearIn a
unfolding host_write_order verdict NearIn
near_written f r d {out} w =
    let g = form_of f in
    rw w.answer_is
    (if_cases NearIn (no_writer f) _ _ (λ _. omega arith)
    (λ _. put_at r d (line_of g r d) out (λ h. written_small (spell r d) h.formed g)))

pub near_keyed : (r : Record) (d : Buffers) {out out' : List ℕ} {a : Number} → Keyed r d out a out' → NearIn a
near_keyed r d w = near_put r d (key_of r d) (λ h. written_small (trimmed (spell r d)) (formed_trimmed (spell r d) h.formed) partial) w

-- ---- a copy's
nearest_near : (p : ℕ) → nearest p < 2 ^ 32
unfolding nearest
nearest_near p = if_cases (λ (n : ℕ). n < 2 ^ 32) (ltb p 4294967295) p 4294967295 (λ h. omega (arith, ltb-true p 4294967295 h)) (λ _. omega arith)

pub nearest_min : (p : ℕ) → min p 4294967295 ≡ nearest p
unfolding nearest
nearest_min p =
    if_cases (λ (n : ℕ). min p 4294967295 ≡ n) (ltb p 4294967295) p 4294967295
    (λ h. omega (arith, ltb-true p 4294967295 h)) (λ h. omega (arith, ltb-false p 4294967295 h))

nearest_small : (a : Number) → NearIn (nearest_in a)
unfolding NearIn nearest_in
nearest_small (Ok n) = tt
nearest_small (Err q) = nearest_near q.place

pub near_brought : (a : Number) {b : Number} → b ≡ nearest_in a → NearIn b
near_brought a e = rw e (nearest_small a)

-- a length is held as it is
pub nearest_length : {r : Record} {d : Buffers} (b e : ℕ) → Sheet r d → nearest (length (copy_of r d b e)) ≡ length (copy_of r d b e)
unfolding withheld trimmed nearest
nearest_length {r} {d} b e h =
    let l = length (copy_of r d b e) in
    if_true (ltb l 4294967295) l 4294967295 (lt-ltb l 4294967295 (omega (arith, line_few h _ b e (columns_few b e h))))

-- ---- a step's
pub near_next : (r : Record) (d : Buffers) (p : ℕ) {a : Next} → a ≡ next_of r d p → NearIn a
unfolding next_of verdict NearIn
near_next r d p e =
    rw e
    (if_cases NearIn (not (is_sheet r d)) _ _ (λ _. omega arith)
    (λ _. if_cases NearIn false _ _ (λ h. absurd (false≢true h)) (λ _. if_cases NearIn false _ _ (λ _. omega arith) (λ _. tt))))
