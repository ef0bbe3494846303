-- The host's number fits 64 bits, and tells two answers apart. Assumes nothing.
use Rattle.std.specs.Prelude.{Ok, Err}
use Prim.Native.Nat.{ℕ, ◌-◌, ◌^◌, ◌≤◌, ◌<◌}
use native.Mathlib.Omega.{arith}
use mathlib.Core.Path.{◌≡◌, refl, sym, ap, ◌∙◌}
use mathlib.Core.Bool.{Bool, true}
use mathlib.Core.List.{List}
use borrow.Author.Tests.{ltb-false}
use lib.Dec.{ltb}
use lib.ListN.{length}
use Rattle.laws.specs.If.{if_cases}
use Rattle.utf8.specs.Utf8.{scalars, valid_prefix}
use Rattle.utf8.proofs.Codec.{valid_within}
use Rattle.sentence.specs.declared.Refusal.{Refusal}
use Rattle.sentence.specs.Sentence.{Sentence}
use Rattle.sentence.specs.declared.Form.{Form}
use Rattle.sentence.specs.Forms.{form_of}
use Rattle.sentence.specs.Reading.{at, start, Run, whole, stopped, run, over, next, Parsed, parsed, gather, Result, sentence, refused, built, placed, read}
use Rattle.sentence.specs.Writing.{written}
use Rattle.sentence.proofs.Reasons.{reason_apart}
use Rattle.sentence.specs.Refusals.{number, refusal_code, verdict, host_order}
use Rattle.sentence.proofs.Shape.{read_formed}
use Rattle.convert_buffers.specs.Between.{Outcome, writes, refuses, overfull, between, Converts}
use Rattle.convert.specs.Convert.{unknown_forms, out_of_range, conversion}
use Rattle.exports.specs.Exports.{code_of}
use Rattle.sheet.specs.Answers.{Number}
use Rattle.convert_buffers.proofs.Outcomes.{was_refused}
use Rattle.exports.proofs.Lengths.{written_small}

-- ---- places are small
-- a reader's
abbrev Near : Result → Type 0
Near (sentence s) = Unit {0}
Near (refused n p) = p ≤ 4096

built_near : (p : Parsed) → Near (built p)
unfolding built
built_near (parsed t ts n over) = omega arith
built_near (parsed t ts n (next m s)) = tt

placed_near : (n : ℕ) (r : Run) → n ≤ 4096 → Near (placed n r)
unfolding placed
placed_near n (whole l) h = built_near (gather l)
placed_near n (stopped e left) h = omega arith

read_near : (f : Form) (x : List ℕ) → Near (read f x)
unfolding read
read_near f x =
    if_cases Near (ltb 4096 (length x)) _ _ (λ _. omega arith)
    (λ e. if_cases Near (ltb (valid_prefix x) (length x)) _ _
    (λ _. omega (arith, valid_within x, ltb-false 4096 (length x) e))
    (λ _. placed_near (length x) (run f (at start) (scalars x)) (ltb-false 4096 (length x) e)))

-- a conversion's
abbrev Small : Outcome → Type 0
Small (writes w) = Unit {0}
Small (refuses r) = r.place < 2 ^ 32

between_small : (unknown outside : Bool) (f g : Form) (room : ℕ) (x : List ℕ) → Small (between unknown outside f g room x)
unfolding between host_order verdict
between_small unknown outside f g room x = on (read f x) refl (read_near f x)
  where
    on : (r : Result) → read f x ≡ r → Near r
        → Small (host_order refuses unknown outside overfull (λ (s : Sentence). ltb room (length (written g s))) (λ (s : Sentence). length (written g s)) (λ (s : Sentence). writes (written g s)) r)
    on (refused n p) e k =
        if_cases Small unknown _ _ (λ _. omega arith)
        (λ _. if_cases Small outside _ _ (λ _. omega arith) (λ _. if_cases Small true _ _ (λ _. omega arith) (λ _. omega arith)))
    on (sentence s) e k =
        if_cases Small unknown _ _ (λ _. omega arith)
        (λ _. if_cases Small outside _ _ (λ _. omega arith)
        (λ _. if_cases Small (overfull s) _ _ (λ _. omega arith)
        (λ _. if_cases Small (ltb room (length (written g s))) _ _ (λ _. written_small s (read_formed f x s e).0 g) (λ _. tt))))

pub small_place : (reader writer : ℕ) (x : List ℕ) (size place : ℕ) {out end : List ℕ} {r : Number} {q : Refusal}
    → Converts (λ (c : Number). c) (conversion reader writer x size place) place out r end → r ≡ Err q → q.place < 2 ^ 32
unfolding conversion
small_place reader writer x size place p e =
    let o = was_refused (conversion reader writer x size place) place (sym e ∙ p.answer) in
    rw o at (between_small (unknown_forms reader writer) (out_of_range size place) (form_of reader) (form_of writer) (size - place) x)

-- ---- the code
module _ (reader writer : ℕ) (x : List ℕ) (size place : ℕ) {out end : List ℕ} {r : Number}
    (p : Converts (λ (c : Number). c) (conversion reader writer x size place) place out r end) where
  pub code_wrote : {e : ℕ} → r ≡ Ok e → Converts code_of (conversion reader writer x size place) place out e end
  unfolding code_of
  code_wrote q = record { answer = ap code_of (sym q ∙ p.answer); output = p.output }

  pub code_refused : {q : Refusal} {c : ℕ} → r ≡ Err q → c ≡ refusal_code q → Converts code_of (conversion reader writer x size place) place out c end
  unfolding code_of
  code_refused {q} e i = record { answer = i ∙ ap code_of (sym e ∙ p.answer); output = p.output }

-- end places and refusal numbers as they occur
abbrev pub Ordinary : Number → Type 0
Ordinary (Ok e) = e < 2 ^ 63
Ordinary (Err r) = number r < 256

-- no two of them have one code
pub codes_apart : (a b : Number) → Ordinary a → Ordinary b → code_of a ≡ code_of b → a ≡ b
unfolding code_of refusal_code
codes_apart (Ok d) (Ok e) h k q = ap Ok q
codes_apart (Ok d) (Err r) h k q = absurd (omega arith)
codes_apart (Err r) (Ok e) h k q = absurd (omega arith)
codes_apart (Err r) (Err s) h k q =
    let n : number r ≡ number s = omega arith in
    let p : r.place ≡ s.place = omega arith in
    let m : r.reason ≡ s.reason = reason_apart _ _ n in
    λ i. Err (record { reason = m i; place = p i })
