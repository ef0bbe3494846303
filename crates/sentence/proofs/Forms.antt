-- The form of a number, by what the number is not. Assumes nothing.
use Prim.Native.Nat.{ℕ, zero, suc}
use mathlib.Core.Path.{◌≡◌, refl, sym, ap, ◌∙◌}
use mathlib.Core.Bool.{Bool, true, false, ◌||◌, false≢true}
use native.Mathlib.Omega.{arith}
use borrow.Author.Tests.{eq-eqb, ne_eqb, lt-ltb}
use lib.Dec.{eqb}
use Rattle.laws.proofs.Facts.{neither}
use Rattle.sentence.specs.declared.Form.{Form}
use Rattle.sentence.specs.declared.Refusal.{Refusal}
use Rattle.std.specs.Prelude.{Ok, Err}
use Rattle.std.specs.Prelude as prelude
use Rattle.laws.specs.If.{when◌then◌else◌}
use Rattle.sentence.specs.declared.Form.TheVariants.{Raw as raw, Tokenized as tokenized, Partial as partial}
use Rattle.sentence.specs.Forms.{no_reader, no_writer, form_of}
use Rattle.sentence.specs.Refusals.{refusal, reader_of, writer_of}
use Rattle.sentence.specs.Reading.{Annotated}

pub is_partial : (n : ℕ) → (n ≡ 0 → ⊥) → (n ≡ 1 → ⊥) → partial ≡ form_of n
unfolding form_of
is_partial zero a b = absurd (a refl)
is_partial (suc zero) a b = absurd (b refl)
is_partial (suc (suc n)) a b = refl

-- the form that a number reads in
pub read_0 : {n : ℕ} → n ≡ 0 → Ok raw ≡ reader_of n
unfolding reader_of no_reader form_of when◌then◌else◌
read_0 e = rw e refl

pub read_1 : {n : ℕ} → n ≡ 1 → Ok tokenized ≡ reader_of n
unfolding reader_of no_reader form_of when◌then◌else◌
read_1 e = rw e refl

pub read_2 : {n : ℕ} → n ≡ 2 → Ok partial ≡ reader_of n
unfolding reader_of no_reader form_of when◌then◌else◌
read_2 e = rw e refl

pub read_none : (n : ℕ) → (n ≡ 0 → ⊥) → (n ≡ 1 → ⊥) → (n ≡ 2 → ⊥) → Err (refusal 16 0) ≡ reader_of n
unfolding reader_of no_reader when◌then◌else◌
read_none zero a b c = absurd (a refl)
read_none (suc zero) a b c = absurd (b refl)
read_none (suc (suc zero)) a b c = absurd (c refl)
read_none (suc (suc (suc n))) a b c = rw (lt-ltb 2 (suc (suc (suc n))) (omega arith)) refl

-- what a test gives that tells a refused answer and a served one apart
module _ {A : Type 0} {b c : Bool} (q : Refusal) (x : A) (e : c ≡ b) where
  pub tests_refused : c ≡ true → Err q ≡ (when b then Err q else Ok x)
  unfolding when◌then◌else◌
  tests_refused h = rw (sym e ∙ h) refl

  pub tests_served : {y : A} → c ≡ false → y ≡ x → Ok y ≡ (when b then Err q else Ok x)
  unfolding when◌then◌else◌
  tests_served h i = rw (sym e ∙ h, i) refl

-- what a served and a refused answer say of the test that told them apart
module _ {A : Type 0} (b : Bool) (q : Refusal) (x : A) where
  tested_ok : {a : A} → Ok a ≡ (when b then Err q else Ok x) → (b ≡ false) × (a ≡ x)
  unfolding when◌then◌else◌
  tested_ok {a} e = on b refl
    where
      on : (c : Bool) → b ≡ c → (b ≡ false) × (a ≡ x)
      on true h = let z : ◌≡◌ {A = prelude.Result A Refusal} (Ok a) (Err q) = rw h at e in let y : ◌≡◌ {A = ℕ} 0 1 = cc in absurd (omega arith)
      on false h = let z : ◌≡◌ {A = prelude.Result A Refusal} (Ok a) (Ok x) = rw h at e in (h, cc)

  tested_err : {p : Refusal} → Err p ≡ (when b then Err q else Ok x) → (b ≡ true) × (p ≡ q)
  unfolding when◌then◌else◌
  tested_err {p} e = on b refl
    where
      on : (c : Bool) → b ≡ c → (b ≡ true) × (p ≡ q)
      on true h = let z : ◌≡◌ {A = prelude.Result A Refusal} (Err p) (Err q) = rw h at e in (h, cc)
      on false h = let z : ◌≡◌ {A = prelude.Result A Refusal} (Err p) (Ok x) = rw h at e in let y : ◌≡◌ {A = ℕ} 0 1 = cc in absurd (omega arith)

-- the form that a number reads in, and the one that it is written in
pub read_form : (n : ℕ) {f : Form} → Ok f ≡ reader_of n → (no_reader n ≡ false) × (f ≡ form_of n)
unfolding reader_of
read_form n e = tested_ok (no_reader n) (refusal 16 0) (form_of n) e

pub not_read : (n : ℕ) {q : Refusal} → Err q ≡ reader_of n → (no_reader n ≡ true) × (q ≡ refusal 16 0)
unfolding reader_of
not_read n e = tested_err (no_reader n) (refusal 16 0) (form_of n) e

pub write_form : (n : ℕ) {f : Form} → Ok f ≡ writer_of n → (no_writer n ≡ false) × (f ≡ form_of n)
unfolding writer_of
write_form n e = tested_ok (no_writer n) (refusal 16 0) (form_of n) e

pub not_written : (n : ℕ) {q : Refusal} → Err q ≡ writer_of n → (no_writer n ≡ true) × (q ≡ refusal 16 0)
unfolding writer_of
not_written n e = tested_err (no_writer n) (refusal 16 0) (form_of n) e

pub either : (b : Bool) → b || true ≡ true
either true = refl
either false = refl

-- what a number is written in, by what it is read in
pub no_reader_written : (n : ℕ) {a b : prelude.Result Form Refusal} {q : Refusal} → a ≡ reader_of n → a ≡ Err q → b ≡ Err q → b ≡ writer_of n
unfolding writer_of no_writer when◌then◌else◌
no_reader_written n e h i =
    let k = not_read n (sym h ∙ e) in
    rw (i, k.1, k.0, either (eqb n 0))

pub raw_written : (n : ℕ) {a : prelude.Result Form Refusal} {f : Form} → a ≡ reader_of n → a ≡ Ok f → f ≡ raw → Err (refusal 16 0) ≡ writer_of n
unfolding writer_of no_writer form_of when◌then◌else◌
raw_written zero e h i = refl
raw_written (suc zero) e h i = let k : tokenized ≡ raw = sym (read_form 1 (sym h ∙ e)).1 ∙ i in let y : ◌≡◌ {A = ℕ} 0 1 = cc in absurd (omega arith)
raw_written (suc (suc n)) e h i =
    let k : partial ≡ raw = sym (read_form (suc (suc n)) (sym h ∙ e)).1 ∙ i in let y : ◌≡◌ {A = ℕ} 0 1 = cc in absurd (omega arith)

pub form_written : (n : ℕ) {a : prelude.Result Form Refusal} {f : Form} → a ≡ reader_of n → a ≡ Ok f → (f ≡ raw → ⊥) → Ok f ≡ writer_of n
unfolding writer_of no_writer no_reader form_of when◌then◌else◌
form_written zero e h i = absurd (i (read_form 0 (sym h ∙ e)).1)
form_written (suc zero) e h i = ap Ok (read_form 1 (sym h ∙ e)).1
form_written (suc (suc n)) e h i = let k = read_form (suc (suc n)) (sym h ∙ e) in rw (ne_eqb (suc (suc n)) 0 (omega arith), k.0, k.1)

is_annotated : (n : ℕ) → eqb n 0 ≡ false → Annotated (form_of n)
unfolding form_of
is_annotated zero e = false≢true (sym e ∙ eq-eqb 0 0 refl)
is_annotated (suc zero) e = tt
is_annotated (suc (suc n)) e = tt

-- a form to write is annotated, and is a form
pub annotated : (n : ℕ) {f : Form} → no_writer n ≡ false → f ≡ form_of n → Annotated f
unfolding no_writer
annotated n h i = rw i (is_annotated n (neither (eqb n 0) (no_reader n) h).0)

pub writer_reads : (n : ℕ) → no_writer n ≡ false → no_reader n ≡ false
unfolding no_writer
writer_reads n h = (neither (eqb n 0) (no_reader n) h).1
