-- What the outcome of a conversion tells. Assumes nothing.
use Rattle.std.specs.Prelude.{Ok, Err}
use Prim.Native.Nat.{ℕ, ◌+◌, ◌≤◌}
use native.Mathlib.Omega.{arith}
use mathlib.Core.Path.{◌≡◌, refl, sym, ◌∙◌}
use mathlib.Core.Bool.{Bool, true}
use mathlib.Core.List.{List}
use borrow.Author.Tests.{ltb-false}
use lib.Dec.{ltb}
use lib.ListN.{length}
use Rattle.laws.specs.If.{if_cases}
use Rattle.sentence.specs.declared.Refusal.{Refusal}
use Rattle.sentence.specs.Sentence.{Sentence}
use Rattle.sentence.specs.declared.Form.{Form}
use Rattle.sentence.specs.Reading.{Result, sentence, refused, read}
use Rattle.sentence.specs.Writing.{written}
use Rattle.sentence.specs.Refusals.{verdict, host_order}
use Rattle.convert_buffers.specs.Between.{Outcome, writes, refuses, overfull, between, answer_of, Converts}
use Rattle.sheet.specs.Answers.{Number}

-- two outcomes of one call are equal
pub converts_once : {A : Type 0} {tell : Number → A} {o : Outcome} {at : ℕ} {out : List ℕ} {r r' : A} {e e' : List ℕ}
    → Converts tell o at out r e → Converts tell o at out r' e' → (r ≡ r') × (e ≡ e')
converts_once p q = (p.answer ∙ sym q.answer, p.output ∙ sym q.output)

-- a written line fits the room
module _ (room : ℕ) where
  abbrev pub Fits : Outcome → Type 0
  Fits (writes w) = length w ≤ room
  Fits (refuses r) = Unit {0}

  pub between_fits : (unknown outside : Bool) (f g : Form) (x : List ℕ) → Fits (between unknown outside f g room x)
  unfolding between host_order verdict
  between_fits unknown outside f g x = on (read f x)
    where
      on : (r : Result) → Fits (host_order refuses unknown outside overfull (λ (s : Sentence). ltb room (length (written g s))) (λ (s : Sentence). length (written g s)) (λ (s : Sentence). writes (written g s)) r)
      on (refused n p) = if_cases Fits unknown _ _ (λ _. tt) (λ _. if_cases Fits outside _ _ (λ _. tt) (λ _. if_cases Fits true _ _ (λ _. tt) (λ _. tt)))
      on (sentence s) =
          if_cases Fits unknown _ _ (λ _. tt)
          (λ _. if_cases Fits outside _ _ (λ _. tt)
          (λ _. if_cases Fits (overfull s) _ _ (λ _. tt)
          (λ _. if_cases Fits (ltb room (length (written g s))) _ _ (λ _. tt) (λ e. ltb-false _ _ e))))

-- what an answer says of the outcome
pub was_written : (o : Outcome) (at : ℕ) {e : ℕ} → Ok e ≡ answer_of at o → (w : List ℕ) × (o ≡ writes w) × (e ≡ at + length w)
unfolding answer_of
was_written (writes w) at h = (w, refl, cc)
was_written (refuses r) at h = let z : ◌≡◌ {A = ℕ} 0 1 = cc in absurd (omega arith)

pub was_refused : (o : Outcome) (at : ℕ) {r : Refusal} → Err r ≡ answer_of at o → o ≡ refuses r
unfolding answer_of
was_refused (writes w) at h = let z : ◌≡◌ {A = ℕ} 0 1 = cc in absurd (omega arith)
was_refused (refuses q) at h = cc
