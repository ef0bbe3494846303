-- The checks of a conversion, and the part of the output behind the place. Assumes nothing.
use Rattle.std.specs.Prelude.{Result, Ok, Err}
use Prim.Native.Nat.{ℕ, ◌+◌, ◌-◌, ◌≤◌}
use native.Mathlib.Omega.{arith}
use native.Mathlib.Nat.{zero-add}
use mathlib.Core.Path.{◌≡◌, refl, sym, ap, ◌∙◌}
use mathlib.Core.Bool.{Bool, true, false}
use mathlib.Core.List.{List, ◌++◌}
use borrow.Author.Tests.{ltb-false}
use lib.Dec.{ltb}
use lib.ListN.{length, take, drop, length-drop, take-append-drop}
use Rattle.laws.specs.If.{when◌then◌else◌}
use Rattle.laws.specs.Put.{over}
use Rattle.laws.proofs.Tail.{lent, back}
use Rattle.laws.proofs.Facts.{neither}
use Rattle.sentence.specs.declared.Refusal.{Refusal}
use Rattle.sentence.specs.Sentence.{Sentence}
use Rattle.sentence.specs.declared.Form.{Form}
use Rattle.sentence.specs.Forms.{no_reader, form_of}
use Rattle.sentence.specs.Reading.{Annotated, sentence, refused, read}
use Rattle.sentence.specs.Reading as reading
use Rattle.sentence.specs.Writing.{written}
use Rattle.sentence.specs.Refusals.{refusal, verdict, host_order, reader_of, writer_of}
use Rattle.sentence.proofs.Forms.{annotated, read_form, not_read, write_form, not_written, either}
use Rattle.convert_buffers.specs.Between.{Outcome, writes, refuses, overfull, between, answer_of, output_of, Converts}
use Rattle.convert.specs.Convert.{unknown_forms, out_of_range, conversion}
use Rattle.sheet.specs.Answers.{Number}
use Rattle.convert_buffers.proofs.Outcomes.{between_fits, was_written, was_refused}

-- the answer as it is
abbrev Plain : Outcome → ℕ → List ℕ → Number → List ℕ → Type 0
Plain o at out r end = Converts (λ (c : Number). c) o at out r end

-- a call that is refused alters nothing
refuses_plain : {o : Outcome} (q : Refusal) (at : ℕ) (out : List ℕ) → o ≡ refuses q → Plain o at out (Err q) out
unfolding answer_of output_of
refuses_plain q at out e = rw e (record { answer = refl; output = refl })

-- ---- the checks, in their order
between_unknown : (o : Bool) (f g : Form) (room : ℕ) (x : List ℕ) → between true o f g room x ≡ refuses (refusal 16 0)
unfolding between host_order verdict when◌then◌else◌
between_unknown o f g room x = on (read f x)
  where
    on : (y : reading.Result) → host_order refuses true o overfull (λ (s : Sentence). ltb room (length (written g s))) (λ (s : Sentence). length (written g s)) (λ (s : Sentence). writes (written g s)) y ≡ refuses (refusal 16 0)
    on (sentence s) = refl
    on (refused n p) = refl

between_outside : (f g : Form) (room : ℕ) (x : List ℕ) → between false true f g room x ≡ refuses (refusal 14 0)
unfolding between host_order verdict when◌then◌else◌
between_outside f g room x = on (read f x)
  where
    on : (y : reading.Result) → host_order refuses false true overfull (λ (s : Sentence). ltb room (length (written g s))) (λ (s : Sentence). length (written g s)) (λ (s : Sentence). writes (written g s)) y ≡ refuses (refusal 14 0)
    on (sentence s) = refl
    on (refused n p) = refl

module _ (reader writer : ℕ) (x out : List ℕ) (at : ℕ) where
  -- 16: a form is none to read, or none to write
  unknown : {q : Refusal} → q ≡ refusal 16 0 → unknown_forms reader writer ≡ true → Plain (conversion reader writer x (length out) at) at out (Err q) out
  unfolding conversion
  unknown e t =
      rw e (refuses_plain (refusal 16 0) at out (rw t (between_unknown (out_of_range (length out) at) (form_of reader) (form_of writer) (length out - at) x)))

  pub unread : {a : Result Form Refusal} {b : Number} {q : Refusal} → a ≡ reader_of reader → a ≡ Err q → b ≡ Err q → Plain (conversion reader writer x (length out) at) at out b out
  unfolding unknown_forms
  unread e h i = let k = not_read reader (sym h ∙ e) in rw i (unknown k.1 (rw k.0))

  pub unwritten : {b : Result Form Refusal} {c : Number} {q : Refusal} → b ≡ writer_of writer → b ≡ Err q → c ≡ Err q
      → Plain (conversion reader writer x (length out) at) at out c out
  unfolding unknown_forms
  unwritten e h i = let k = not_written writer (sym h ∙ e) in rw i (unknown k.1 (rw k.0 (either (no_reader reader))))

-- both are served
pub record Known (reader writer : ℕ) (v w : Form) : Type 0 where
  pub are : unknown_forms reader writer ≡ false
  pub from : v ≡ form_of reader
  pub to : w ≡ form_of writer
  pub annotates : Annotated w

pub known : (reader writer : ℕ) {a b : Result Form Refusal} {v w : Form} → a ≡ reader_of reader → a ≡ Ok v → b ≡ writer_of writer → b ≡ Ok w → Known reader writer v w
unfolding unknown_forms
known reader writer e h f i =
    let k = read_form reader (sym h ∙ e) in
    let l = write_form writer (sym i ∙ f) in
    record { are = rw (k.0, l.0); from = k.1; to = l.1; annotates = annotated writer l.0 l.1 }

-- 14
pub outside : {reader writer : ℕ} {v w : Form} (x out : List ℕ) (at : ℕ) {d : Bool} {q : Refusal} → Known reader writer v w → d ≡ out_of_range (length out) at
    → q ≡ refusal 14 0 → d ≡ true → Plain (conversion reader writer x (length out) at) at out (Err q) out
unfolding conversion
outside {reader} {writer} x out at k f i u =
    rw i (refuses_plain (refusal 14 0) at out (rw (k.are, sym f ∙ u) (between_outside (form_of reader) (form_of writer) (length out - at) x)))

pub in_range_lem : (size at : ℕ) {d : Bool} → d ≡ out_of_range size at → d ≡ false → at ≤ size
unfolding out_of_range
in_range_lem size at f u = ltb-false _ _ (neither (ltb 1048576 size) (ltb size at) (sym f ∙ u)).1

-- ---- the part behind the place
module _ (reader writer : ℕ) (x out : List ℕ) (at : ℕ) {v w : Form} (k : Known reader writer v w) {d : Bool} (f : d ≡ out_of_range (length out) at) (u : d ≡ false)
    {r : Number} {end : List ℕ}
    (p : Plain (between false false v w (length (take (length out - at) (drop at out))) x) 0 (take (length out - at) (drop at out)) r end) where
  passed : conversion reader writer x (length out) at ≡ between false false (form_of reader) (form_of writer) (length out - at) x
  unfolding conversion
  passed = rw (k.are, sym f ∙ u)

  into : Outcome
  into = between false false (form_of reader) (form_of writer) (length out - at) x

  tail : Plain into 0 (drop at out) r end
  unfolding into
  tail = rw (k.from, k.to, lent out at (in_range_lem (length out) at f u), length-drop at out) at p

  -- the whole output, with what the callee left in the part
  whole : List ℕ
  whole = take at out ++ (end ++ drop (length out - at) (drop at out))

  rejoined : whole ≡ take at out ++ end
  unfolding whole
  rejoined = back out at (in_range_lem (length out) at f u) end

  pub few : {n : ℕ} → r ≡ Ok n → at + n ≤ length out
  unfolding into
  few q =
      let w = was_written into 0 (sym q ∙ tail.answer) in
      omega (arith, w.2, in_range_lem (length out) at f u, rw w.1 at (between_fits (length out - at) false false (form_of reader) (form_of writer) x))

  pub placed_line : {n : ℕ} → r ≡ Ok n → Plain (conversion reader writer x (length out) at) at out (Ok (at + n)) (take at out ++ (end ++ drop (length out - at) (drop at out)))
  unfolding into whole answer_of output_of
  placed_line {n} q =
      let w = was_written into 0 (sym q ∙ tail.answer) in
      let l : n ≡ length w.0 = w.2 ∙ zero-add _ in
      let g : end ≡ over w.0 (drop at out) = rw w.1 at tail.output in
      rw (passed, w.1) (record { answer = ap (λ k. Ok (at + k)) l; output = rejoined ∙ ap (λ y. take at out ++ y) g })

  pub placed_refusal : {q : Refusal} → r ≡ Err q → Plain (conversion reader writer x (length out) at) at out (Err q) (take at out ++ (end ++ drop (length out - at) (drop at out)))
  unfolding into whole answer_of output_of
  placed_refusal {q} h =
      let w = was_refused into 0 (sym h ∙ tail.answer) in
      let g : end ≡ drop at out = rw w at tail.output in
      rw (passed, w) (record { answer = refl; output = rejoined ∙ rw (g, take-append-drop) })

-- ---- a written line fits the room behind the place
pub written_fits : (reader writer : ℕ) (x : List ℕ) (size at : ℕ) {w : List ℕ} → conversion reader writer x size at ≡ writes w → length w ≤ size - at
unfolding conversion
written_fits reader writer x size at e = rw e at (between_fits (size - at) (unknown_forms reader writer) (out_of_range size at) (form_of reader) (form_of writer) x)
