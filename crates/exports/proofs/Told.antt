-- What each way through the host's calls answers and leaves. Assumes nothing.
use Rattle.std.specs.Prelude.{Result, Ok, Err}
use Prim.Native.Nat.{ℕ, ◌≤◌, ◌<◌}
use native.Mathlib.Omega.{arith}
use mathlib.Core.Path.{◌≡◌, refl, sym, ap, ◌∙◌}
use mathlib.Core.Bool.{Bool, true, false, not}
use mathlib.Core.List.{List, [], ◌∷◌}
use borrow.Author.Tests.{lt-ltb, le-ltb, not-false}
use lib.Dec.{ltb}
use lib.ListN.{length, set}
use Rattle.laws.specs.If.{when◌then◌else◌}
use Rattle.laws.specs.Put.{over, put_front}
use Rattle.sentence.specs.declared.Refusal.{Refusal}
use Rattle.sentence.specs.Sentence.{count}
use Rattle.sentence.specs.declared.Form.{Form}
use Rattle.sentence.specs.declared.Form.TheVariants.{Raw as raw}
use Rattle.sentence.proofs.Forms.{read_form, not_read, write_form, not_written, annotated}
use Rattle.sentence.specs.Reading.{read}
use Rattle.sentence.specs.Refusals.{refusal, reader_of, writer_of, verdict, sheet_order, refusal_code}
use Rattle.sheet.specs.Layout.{Buffers, spell}
use Rattle.sheet.specs.Check.{is_sheet}
use Rattle.sheet.proofs.Exact.{is_sheet_lem}
use Rattle.sheet.specs.declared.Record.{Record}
use Rattle.sheet.specs.Answers.{Answer}
use Rattle.sheet.specs.Answers.{Number}
use Rattle.read_load.specs.Load.{Does, ReadDoes}
use Rattle.sheet.proofs.Eights.{same_self}
use Rattle.write.specs.Answers.{Written, copy_of, no_range, Withholds, Keyed, line_order}
use Rattle.tokens.specs.Steps.{next_of}
use Rattle.tokens.specs.declared.Token.{Token as Span}
use Rattle.tokens.specs.declared.Step.{Step}
use Rattle.tokens.specs.declared.Step.TheVariants.{Serves, Done}
use Rattle.tokens.specs.Steps.{Next}
use Rattle.exports.proofs.Places.{nearest_length}
use Rattle.exports.specs.Exports.{numbers_of, read_first, read_code, read_numbers, ReadTold, host_answer, host_leaves, HostReads, host_write_order, LineWritten, number_code, HostWrites, nearest, nearest_in, HostWithholds, HostKeys, spanned, step_code, step_span, Tells, HostSteps}

-- ---- reading
pub stored : (r : Record) (ns : List ℕ) → 5 ≤ length ns → set (set (set (set (set ns 0 r.n) 1 r.b) 2 r.columns) 3 r.cells) 4 r.g ≡ over (numbers_of r) ns
unfolding numbers_of
stored r ns h = put_front (numbers_of r) ns h

pub told_refused : {a : Answer} {ns : List ℕ} {q : Refusal} {c : ℕ} → a ≡ Err q → c ≡ refusal_code q → ReadTold a ns c ns
unfolding read_code read_numbers
told_refused e i = rw e (record { answer_is = i; numbers_are = refl })

pub told_sentence : {a : Answer} {ns ns' : List ℕ} {r : Record} → a ≡ Ok r → ns' ≡ over (numbers_of r) ns → ReadTold a ns 0 ns'
unfolding read_code read_numbers
told_sentence e i = rw e (record { answer_is = refl; numbers_are = i })

module _ (f : ℕ) (x : List ℕ) (d : Buffers) (room : ℕ) {a : Result Form Refusal} (i : a ≡ reader_of f) where
  pub reads_16 : {b : Answer} {q : Refusal} → a ≡ Err q → b ≡ Err q → Does (host_answer f x d room) (host_leaves f x d room) b d
  unfolding read_first host_answer host_leaves verdict when◌then◌else◌
  reads_16 h e = let k = not_read f (sym h ∙ i) in rw (e, k.1) (record { answer_is = rw k.0; buffers_are = rw k.0 (same_self d) })

  pub reads_14 : {g : Form} {z : Refusal} → a ≡ Ok g → room < 5 → z ≡ refusal 14 0 → Does (host_answer f x d room) (host_leaves f x d room) (Err z) d
  unfolding read_first host_answer host_leaves verdict when◌then◌else◌
  reads_14 h l j =
      let k = read_form f (sym h ∙ i) in
      let t = lt-ltb room 5 l in
      rw j (record { answer_is = rw (k.0, t); buffers_are = rw (k.0, t) (same_self d) })

  pub reads_on : {g : Form} {b : Answer} {e : Buffers} → a ≡ Ok g → 5 ≤ room → ReadDoes (read g x) d b e → Does (host_answer f x d room) (host_leaves f x d room) b e
  unfolding read_first host_answer host_leaves verdict when◌then◌else◌
  reads_on h l w =
      let k = read_form f (sym h ∙ i) in
      let t = le-ltb room 5 l in
      record { answer_is = rw (k.0, t, ← k.1) w.answer_is; buffers_are = rw (k.0, t, ← k.1) w.buffers_are }

pub reads_told : (f : ℕ) (x : List ℕ) (d : Buffers) (ns : List ℕ) {a : Answer} {e b : Buffers} {c : ℕ} {ns' : List ℕ}
    → b ≡ e → Does (host_answer f x d (length ns)) (host_leaves f x d (length ns)) a e → ReadTold a ns c ns' → HostReads f x d ns c b ns'
reads_told f x d ns i w p = record { answer_is = rw (← w.answer_is) p.answer_is; buffers_are = rw i w.buffers_are; numbers_are = rw (← w.answer_is) p.numbers_are }

-- ---- writing
pub told_length : {a : Number} {n : ℕ} → a ≡ Ok n → n ≡ number_code a
unfolding number_code
told_length e = rw e

pub told_number : {a : Number} {q : Refusal} {c : ℕ} → a ≡ Err q → c ≡ refusal_code q → c ≡ number_code a
unfolding number_code
told_number e i = rw e i

module _ (f : ℕ) (r : Record) (d : Buffers) (out : List ℕ) {a : Result Form Refusal} (i : a ≡ writer_of f) where
  pub writes_16 : {b : Number} {q : Refusal} → a ≡ Err q → b ≡ Err q → LineWritten f r d out b out
  unfolding host_write_order verdict when◌then◌else◌
  writes_16 h e = let k = not_written f (sym h ∙ i) in rw (e, k.1) (record { answer_is = rw k.0; out_is = rw k.0 })

  pub writes_raw : {g : Form} {b : Number} {out' : List ℕ} → a ≡ Ok g → g ≡ raw → LineWritten f r d out b out'
  writes_raw h e = let k = write_form f (sym h ∙ i) in absurd (rw e at (annotated f k.0 k.1))

  pub writes_on : {g h : Form} {b : Number} {out' : List ℕ} → a ≡ Ok g → g ≡ h → Written h r d out b out' → LineWritten f r d out b out'
  unfolding host_write_order verdict when◌then◌else◌
  writes_on e j w =
      let k = write_form f (sym e ∙ i) in
      record { answer_is = rw (k.0, ← k.1, j) w.answer_is; out_is = rw (k.0, ← k.1, j) w.out_is }

pub writes_told : (f : ℕ) (r : Record) (d : Buffers) (out : List ℕ) {a : Number} {c : ℕ} {out' : List ℕ} → LineWritten f r d out a out' → c ≡ number_code a → HostWrites f r d out c out'
writes_told f r d out w q = record { answer_is = q ∙ ap number_code w.answer_is; out_is = w.out_is }

-- ---- the withheld copy
pub brought_length : {a : Number} {n : ℕ} → a ≡ Ok n → Ok n ≡ nearest_in a
unfolding nearest_in
brought_length e = rw e

pub brought_refusal : {a : Number} {q : Refusal} {p : ℕ} → a ≡ Err q → p ≡ nearest q.place → Err (record { reason = q.reason; place = p }) ≡ nearest_in a
unfolding nearest_in
brought_refusal e i = rw (e, i)

-- an answer of the copy, brought near
brought : (s t u : Bool) (b n : ℕ) → (s ≡ false → nearest n ≡ n)
    → nearest_in (verdict Err (sheet_order s t b u n) (Ok n)) ≡ verdict Err (sheet_order s t (nearest b) u n) (Ok n)
unfolding verdict nearest nearest_in when◌then◌else◌
brought true t u b n h = refl
brought false true u b n h = refl
brought false false true b n h = rw (h refl)
brought false false false b n h = refl

pub withholds : (r : Record) (d : Buffers) (b e : ℕ) (out : List ℕ) (a : Number) {n : Number} {c : ℕ} {out' : List ℕ}
    → Withholds r d b e out a out' → n ≡ nearest_in a → c ≡ number_code n → HostWithholds r d b e out c out'
unfolding line_order verdict
withholds r d b e out a w i q =
    let n = length (copy_of r d b e) in
    let near = brought (not (is_sheet r d)) (no_range b e (count (spell r d))) (ltb (length out) n) b n (λ z. nearest_length b e (is_sheet_lem r d (not-false _ z))) in
    record { answer_is = q ∙ ap number_code (i ∙ ap nearest_in w.answer_is ∙ near); out_is = w.out_is }

-- ---- the note key
pub keys : (r : Record) (d : Buffers) {out out' : List ℕ} {a : Number} {c : ℕ} → Keyed r d out a out' → c ≡ number_code a → HostKeys r d out c out'
keys r d w q = record { answer_is = q ∙ ap number_code w.answer_is; out_is = w.out_is }

-- ---- a step
module _ (s : Step) (d : List ℕ) where
  pub steps_14 : {z : Refusal} {c : ℕ} → length d < 2 → z ≡ refusal 14 0 → c ≡ refusal_code z → Tells (Ok s) d c d
  unfolding spanned step_code step_span verdict when◌then◌else◌
  steps_14 l j q = let t = lt-ltb (length d) 2 l in record { answer_is = rw t (q ∙ ap refusal_code j); span_is = rw t }

  pub steps_served : {t : Span} → 2 ≤ length d → s ≡ Serves t → Tells (Ok s) d 1 (set (set d 0 t.start) 1 t.end)
  unfolding spanned step_code step_span verdict when◌then◌else◌
  steps_served {t} l e =
      let u = le-ltb (length d) 2 l in
      record { answer_is = rw (u, e); span_is = rw (u, e) (put_front (t.start ∷ t.end ∷ []) d l) }

  pub steps_done : {p : ℕ} → 2 ≤ length d → s ≡ Done p → Tells (Ok s) d 0 (set d 0 p)
  unfolding spanned step_code step_span verdict when◌then◌else◌
  steps_done {p} l e =
      let u = le-ltb (length d) 2 l in
      record { answer_is = rw (u, e); span_is = rw (u, e) (put_front (p ∷ []) d (omega arith)) }

pub tells_step : {n : Next} {s : Step} {d d' : List ℕ} {c : ℕ} → n ≡ Ok s → Tells (Ok s) d c d' → Tells n d c d'
tells_step e t = rw e t

pub tells_refused : {n : Next} {q : Refusal} {d : List ℕ} {c : ℕ} → n ≡ Err q → c ≡ refusal_code q → Tells n d c d
unfolding spanned step_code step_span
tells_refused e i = rw e (record { answer_is = i; span_is = refl })

pub steps : (r : Record) (d : Buffers) (p : ℕ) {n : Next} {s s' : List ℕ} {c : ℕ} → n ≡ next_of r d p → Tells n s c s' → HostSteps r d p s c s'
steps r d p e t = rw (← e) t
