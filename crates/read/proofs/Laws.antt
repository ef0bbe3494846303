-- What the contract of an update comes to. Assumes nothing.
use Rattle.std.specs.Prelude.{Ok, Err}
use Prim.Native.Nat.{ℕ}
use mathlib.Core.Path.{◌≡◌, refl, sym, ◌∙◌}
use mathlib.Core.Bool.{true, false}
use mathlib.Core.List.{List}
use Rattle.laws.specs.If.{when◌then◌else◌}
use Rattle.sentence.specs.Sentence.{Sentence}
use Rattle.sentence.specs.declared.Form.{Form}
use Rattle.sentence.specs.Reading.{Result, read}
use Rattle.sentence.specs.Writing.{blank}
use Rattle.sentence.specs.Refusals.{refusal, verdict, reader_order, update_order}
use Rattle.sentence.specs.declared.Refusal.{Refusal}
use Rattle.sheet.proofs.Eights.{same_self, same_is}
use Rattle.sheet.specs.Layout.{Buffers, record_of, laid, Holds}
use Rattle.sheet.specs.Answers.{Answer}
use Rattle.sheet.specs.declared.Record.{Record}
use Rattle.changes.specs.Changes.{default_answer}
use Rattle.changes.proofs.After.{default_holds}
use Rattle.read_load.specs.Load.{lacks, read_answer}
use Rattle.read_load.proofs.Ways.{order_sentence, order_refused}
use Rattle.read_load.proofs.Laws.{Holding, holding}
use Rattle.read.specs.Read.{update_answer, update_leaves, UpdateDoes}

-- ---- an update of buffers that have the one-blank sentence's room
module _ (f : Form) (x : List ℕ) (d e : Buffers) (a : Answer) (h : lacks d blank ≡ false) (w : UpdateDoes (read f x) d a e) where
  answers : a ≡ read_answer (read f x) d
  unfolding update_answer read_answer update_order verdict when◌then◌else◌
  answers = w.answer_is ∙ rw h

  leaves : e ≡ reader_order (λ (r : Refusal). laid blank d) (lacks d) (λ (s : Sentence). laid s d) (read f x)
  unfolding update_leaves when◌then◌else◌
  leaves = same_is w.buffers_are ∙ rw h

  -- what it leaves where it answers a sentence
  pub update_holds : (r : Record) → a ≡ Ok r → Holding (read f x) r e
  update_holds r i = let j = sym answers ∙ i in holding f x d e r j (leaves ∙ order_sentence (read f x) d r (laid blank d) j)

  -- and where it refuses: the one-blank sentence
  pub update_blank : (q : Refusal) → a ≡ Err q → Holds (record_of blank) e blank
  unfolding default_answer verdict lacks when◌then◌else◌
  update_blank q i =
      let z : e ≡ laid blank d = leaves ∙ order_refused (read f x) d q (laid blank d) (sym answers ∙ i) in
      default_holds d (Ok (record_of blank)) e (record_of blank)
      (record { answer_is = rw h; leaves = rw z (same_self (laid blank d)) })
      refl

-- 15 leaves the buffers as they were
pub update_kept : (x : Result) (d e : Buffers) (a : Answer) → lacks d blank ≡ true → UpdateDoes x d a e → (a ≡ Err (refusal 15 0)) × (e ≡ d)
unfolding update_answer update_leaves update_order verdict when◌then◌else◌
update_kept x d e a h w = (w.answer_is ∙ rw h, same_is w.buffers_are ∙ rw h)
