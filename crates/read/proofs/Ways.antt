-- The ways through an update: what each has found, and what it answers and leaves. Assumes nothing.
use Rattle.std.specs.Prelude.{Ok, Err}
use Rattle.std.specs.Result.{is_err}
use mathlib.Core.Path.{◌≡◌, refl, sym, subst, ◌∙◌}
use mathlib.Core.Bool.{Bool, true, false, not}
use Rattle.laws.specs.If.{when◌then◌else◌}
use Rattle.utf8.specs.Utf8.{width, size}
use Rattle.sentence.specs.Sentence.{Sentence, text_of, rows_of, listed, tag_bytes, row_bytes}
use Rattle.sentence.specs.Reading.{Result}
use Rattle.sentence.specs.Writing.{blank}
use Rattle.sentence.specs.Refusals.{refusal, verdict, reader_order, update_order}
use Rattle.sentence.specs.declared.Refusal.{Refusal}
use Rattle.sheet.proofs.Eights.{same_self, same_is}
use Rattle.sheet.specs.Layout.{Buffers, Same, record_of, room_for, laid}
use Rattle.sheet.specs.Answers.{Answer}
use Rattle.sheet.specs.declared.Record.{Record}
use Rattle.changes.specs.Changes.{default_answer, DefaultSet}
use Rattle.read_load.specs.Load.{lacks, read_answer, read_leaves, ReadDoes}
use Rattle.read_load.proofs.Ways.{lacking, order_sentence, order_refused}
use Rattle.read.specs.Read.{update_answer, update_leaves, UpdateDoes}

-- ---- an update
abbrev one_blank : Record
one_blank = record { n = 1; b = 1; columns = 0; cells = 0; g = 0 }

blank_record : one_blank ≡ record_of blank
unfolding blank record_of text_of rows_of size width listed tag_bytes row_bytes when◌then◌else◌
blank_record = refl

-- where the buffers lack the one-blank sentence's room, and where they have it
no_blank : (d : Buffers) (ok : Bool) → ok ≡ room_for one_blank d → (t : Bool) → ok ≡ t → lacks d blank ≡ not t
no_blank d ok h t e = lacking blank d ok _ blank_record h t e

module _ (x : Result) (d : Buffers) (ok : Bool) (h : ok ≡ room_for one_blank d) where
  pub update_lacks : ok ≡ false → UpdateDoes x d (Err (refusal 15 0)) d
  unfolding update_answer update_leaves update_order verdict when◌then◌else◌
  update_lacks t =
      let l = no_blank d ok h false t in
      record { answer_is = rw l; buffers_are = rw l (same_self d) }

  module _ (t : ok ≡ true) where
    -- where 15 is not given, the answer is the reader's
    update_answer_lem : update_answer x d ≡ read_answer x d
    unfolding update_answer read_answer update_order verdict when◌then◌else◌
    update_answer_lem = rw (no_blank d ok h true t)

    update_leaves_lem : update_leaves x d ≡ reader_order (λ (r : Refusal). laid blank d) (lacks d) (λ (s : Sentence). laid s d) x
    unfolding update_leaves when◌then◌else◌
    update_leaves_lem = rw (no_blank d ok h true t)

    module _ {a : Answer} {e : Buffers} (w : ReadDoes x d a e) where
      served : (r : Record) → a ≡ Ok r → UpdateDoes x d a e
      served r i =
          let j : read_answer x d ≡ Ok r = sym w.answer_is ∙ i in
          record {
            answer_is = w.answer_is ∙ sym update_answer_lem;
            buffers_are = rw (update_leaves_lem, order_sentence x d r (laid blank d) j) w.buffers_are;
          }

      -- the one-blank sentence where the buffers have its room
      default_same : {b : Answer} {f : Buffers} → DefaultSet d b f → Same (laid blank d) f
      unfolding default_answer verdict lacks when◌then◌else◌
      default_same {b} v =
          let i : b ≡ Ok (record_of blank) = v.answer_is ∙ rw (no_blank d ok h true t) in
          rw i at v.leaves

      blanked : {b : Answer} {f : Buffers} (q : Refusal) → a ≡ Err q → DefaultSet e b f → UpdateDoes x d a f
      unfolding read_leaves
      blanked {b} {f} q i v =
          let j : read_answer x d ≡ Err q = sym w.answer_is ∙ i in
          let z : e ≡ d = same_is w.buffers_are ∙ order_refused x d q d j in
          record {
            answer_is = w.answer_is ∙ sym update_answer_lem;
            buffers_are = rw (update_leaves_lem, order_refused x d q (laid blank d) j) (default_same (subst (λ (c : Buffers). DefaultSet c b f) z v));
          }

      -- what the load answered decides
      pub update_done : is_err a ≡ false → UpdateDoes x d a e
      update_done i = on a refl i
        where
          on : (z : Answer) → a ≡ z → is_err z ≡ false → UpdateDoes x d a e
          on (Ok r) j k = served r j
          on (Err q) j k = cc

      pub update_refused : {b : Answer} {f : Buffers} → is_err a ≡ true → DefaultSet e b f → UpdateDoes x d a f
      update_refused {b} {f} i v = on a refl i
        where
          on : (z : Answer) → a ≡ z → is_err z ≡ true → UpdateDoes x d a f
          on (Ok r) j k = cc
          on (Err q) j k = blanked q j v
