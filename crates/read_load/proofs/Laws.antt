-- What the contract of a reader comes to. Assumes nothing.
use Rattle.std.specs.Prelude.{Ok, Err}
use Prim.Native.Nat.{ℕ}
use mathlib.Core.Path.{◌≡◌, refl, sym, ◌∙◌}
use mathlib.Core.Bool.{Bool, true, false}
use mathlib.Core.List.{List}
use native.Mathlib.Omega.{arith}
use borrow.Author.Tests.{not-false}
use Rattle.laws.specs.If.{when◌then◌else◌}
use Rattle.sentence.specs.Sentence.{Sentence}
use Rattle.sentence.specs.declared.Form.{Form}
use Rattle.sentence.specs.Reading.{Result, sentence, refused, read}
use Rattle.sentence.specs.Refusals.{refusal, verdict, reader_order}
use Rattle.sentence.specs.declared.Refusal.{Refusal}
use Rattle.sentence.proofs.Shape.{read_formed}
use Rattle.sheet.proofs.Eights.{same_is}
use Rattle.sheet.specs.Layout.{Buffers, record_of, laid, Holds}
use Rattle.sheet.specs.Check.{is_sheet}
use Rattle.sheet.proofs.Held.{laid_holds}
use Rattle.sheet.proofs.Exact.{holds_is}
use Rattle.sheet.specs.Answers.{Answer}
use Rattle.sheet.specs.declared.Record.{Record}
use Rattle.read_load.specs.Load.{lacks, Does, read_answer, read_leaves, ReadDoes}
use Rattle.read_load.proofs.Ways.{order_refused}

-- two outcomes of one call coincide
pub read_once : {a : Answer} {b : Buffers} {r r' : Answer} {e e' : Buffers} → Does a b r e → Does a b r' e' → (r ≡ r') × (e ≡ e')
read_once p q = (p.answer_is ∙ sym q.answer_is, same_is p.buffers_are ∙ sym (same_is q.buffers_are))

-- the line reads to a sentence, which the record and the buffers hold; so they are a sheet
pub record Holding (x : Result) (r : Record) (e : Buffers) : Type 0 where
  pub s : Sentence
  pub reads : x ≡ sentence s
  pub holds : Holds r e s
  pub is_sheet_lem : is_sheet r e ≡ true

pub holding : (f : Form) (x : List ℕ) (d e : Buffers) (r : Record) → read_answer (read f x) d ≡ Ok r → e ≡ read_leaves (read f x) d → Holding (read f x) r e
unfolding read_answer read_leaves reader_order verdict lacks when◌then◌else◌
holding f x d e r = on (read f x) refl
  where
    laid_down : (s : Sentence) (t : Bool) → read f x ≡ sentence s → lacks d s ≡ t
        → (when t then Err (refusal 11 0) else Ok (record_of s)) ≡ Ok r → e ≡ (when t then d else laid s d) → Holding (sentence s) r e
    laid_down s true i l a b = let z : ◌≡◌ {A = ℕ} 0 1 = cc in absurd (omega arith)
    laid_down s false i l a b =
        let q : record_of s ≡ r = cc in
        let h : Holds r e s = rw (b, ← q) (laid_holds s d (read_formed f x s i).0 (not-false _ l)) in
        record { s = s; reads = refl; holds = h; is_sheet_lem = holds_is r e s h }

    on : (q : Result) → read f x ≡ q → read_answer q d ≡ Ok r → e ≡ read_leaves q d → Holding q r e
    on (sentence s) i a b = laid_down s (lacks d s) i refl a b
    on (refused n p) i a b = let z : ◌≡◌ {A = ℕ} 0 1 = cc in absurd (omega arith)

-- what a reader leaves where it answers a sentence
pub read_holds : (f : Form) (x : List ℕ) (d e : Buffers) (a : Answer) (r : Record) → ReadDoes (read f x) d a e → a ≡ Ok r → Holding (read f x) r e
read_holds f x d e a r w i = holding f x d e r (sym w.answer_is ∙ i) (same_is w.buffers_are)

-- a reader that refuses leaves the buffers as they were
pub read_kept : (x : Result) (d e : Buffers) (a : Answer) (q : Refusal) → ReadDoes x d a e → a ≡ Err q → e ≡ d
unfolding read_leaves
read_kept x d e a q w i = same_is w.buffers_are ∙ order_refused x d q d (sym w.answer_is ∙ i)
