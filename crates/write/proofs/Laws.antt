-- The answers of a call that puts a line of a sheet, by what the check and the lengths say; and what its contract gives. Assumes nothing.
use Rattle.std.specs.Prelude.{Option, Some, None, Ok, Err}
use Prim.Native.Nat.{ℕ, ◌≤◌}
use mathlib.Core.Path.{◌≡◌, refl, sym, ap, ◌∙◌}
use mathlib.Core.Bool.{Bool, true, false}
use mathlib.Core.List.{List}
use native.Mathlib.Omega.{arith}
use borrow.Author.Tests.{lt-ltb, le-ltb, ltb-false, not-false}
use lib.ListN.{length, take}
use lib.Seq.{take_at}
use Rattle.laws.specs.If.{when◌then◌else◌}
use Rattle.laws.specs.Put.{over}
use Rattle.sentence.specs.Refusals.{refusal, Check, verdict}
use Rattle.sentence.specs.declared.Refusal.{Refusal}
use Rattle.sheet.specs.declared.Record.{Record}
use Rattle.sheet.specs.Answers.{Number}
use Rattle.sheet.specs.Layout.{Buffers, spell, Sheet}
use Rattle.sheet.specs.Check.{is_sheet}
use Rattle.sheet.proofs.Exact.{holds_is, is_sheet_lem}
use Rattle.sheet.proofs.Look.{passed}
use Rattle.write_escape.specs.Wrote.{Lined}
use Rattle.write_items.specs.Items.{short_of}
use Rattle.write_items.proofs.Room.{short_none, short_some}
use Rattle.write.specs.Answers.{Puts, line_order, PutsLine}

-- ---- the answers: g is what the check answered
pub sound : {r : Record} {d : Buffers} {g : Bool} → g ≡ is_sheet r d → g ≡ true → Sheet r d
sound {r} {d} e h = is_sheet_lem r d (sym e ∙ h)

module _ (r : Record) (d : Buffers) (outside : Bool) (first : ℕ) (w out : List ℕ) {g : Bool} (e : g ≡ is_sheet r d) where
  pub put_13 : g ≡ false → PutsLine r d outside first w out (Err (refusal 13 0)) out
  unfolding line_order verdict when◌then◌else◌
  put_13 h = record { answer_is = rw (← e, h); out_is = rw (← e, h) }

  module _ (h : g ≡ true) where
    pub put_14 : {q : Refusal} → outside ≡ true → q ≡ refusal 14 first → PutsLine r d outside first w out (Err q) out
    unfolding line_order verdict when◌then◌else◌
    put_14 o q = record { answer_is = rw (← e, h, o) (ap Err q); out_is = rw (← e, h, o) }

    -- n is the length that is lacking, if one is
    module _ (o : outside ≡ false) {n : Option ℕ} (m : n ≡ short_of (length out) (length w)) where
      pub put_12 : {k : ℕ} {q : Refusal} → n ≡ Some k → q ≡ refusal 12 k → PutsLine r d outside first w out (Err q) out
      unfolding line_order verdict when◌then◌else◌
      put_12 l q =
          let k = short_some (length out) (length w) m l in
          let t = lt-ltb (length out) (length w) k.1 in
          record { answer_is = rw (← e, h, o, t, ← k.0) (ap Err q); out_is = rw (← e, h, o, t) }

      pub put_line : {a : ℕ} {out' : List ℕ} → n ≡ None → Lined w out out' a → PutsLine r d outside first w out (Ok a) out'
      unfolding line_order verdict when◌then◌else◌
      put_line l v =
          let t = le-ltb (length out) (length w) (short_none (length out) (length w) m l) in
          record { answer_is = rw (← e, h, o, t) (ap Ok v.length_is); out_is = rw (← e, h, o, t) v.out_is }

-- ---- two outcomes of one call are equal
pub puts_once : {A B : Type 0} {tell : Number → A} {checks : List Check} {w out : List B} {a a' : A} {o o' : List B}
    → Puts tell checks w out a o → Puts tell checks w out a' o' → (a ≡ a') × (o ≡ o')
puts_once p q = (cc, cc)

-- ---- what a caller has where a length is answered
pub record Took (r : Record) (d : Buffers) (w out : List ℕ) (n : ℕ) (out' : List ℕ) : Type 0 where
  pub sheet : Sheet r d
  pub length_is : n ≡ length w
  pub room : n ≤ length out
  pub out_is : out' ≡ over w out

module _ (r : Record) (d : Buffers) (outside : Bool) (first : ℕ) {w out : List ℕ} where
  pub took : {out' : List ℕ} {a : Number} {n : ℕ} → PutsLine r d outside first w out a out' → a ≡ Ok n → Took r d w out n out'
  unfolding line_order verdict when◌then◌else◌
  took {n = n} p e =
      let k = passed Err (Ok n) (λ x z. apart x z) (line_order r d outside first w (length out)) (Ok (length w)) (sym p.answer_is ∙ e) in
      let l : length w ≡ n = cc k.1 in
      record {
        sheet = is_sheet_lem r d (not-false _ k.0.0);
        length_is = sym l;
        room = omega (arith, ltb-false (length out) (length w) k.0.1.1.0);
        out_is = p.out_is ∙ rw (k.0.0, k.0.1.0, k.0.1.1.0);
      }
    where
      apart : (x : Refusal) → Err x ≡ Ok n → ⊥
      apart x z = let q : ◌≡◌ {A = ℕ} 0 1 = cc in omega arith

  -- the line stands at the front of the output
  pub front : {out' : List ℕ} {a : Number} {n : ℕ} → PutsLine r d outside first w out a out' → a ≡ Ok n → take n out' ≡ w
  front p e = let t = took p e in rw (t.out_is, t.length_is) (take_at w _ (length w) refl)

  -- given room, a line of a sheet is put
  pub serves : Sheet r d → outside ≡ false → length w ≤ length out → PutsLine r d outside first w out (Ok (length w)) (over w out)
  unfolding line_order verdict when◌then◌else◌
  serves h o l =
      let i = holds_is r d (spell r d) h in
      let z = le-ltb (length out) (length w) l in
      record { answer_is = rw (i, o, z); out_is = rw (i, o, z) }

-- where no number is out of range the first does not show
pub first_unseen : (r : Record) (d : Buffers) (b c : ℕ) {w out out' : List ℕ} {a : Number} → PutsLine r d false b w out a out' → PutsLine r d false c w out a out'
unfolding line_order verdict when◌then◌else◌
first_unseen r d b c p = record { answer_is = p.answer_is; out_is = p.out_is }

-- ---- two sheets of which the same line is put, by numbers that are both out of range or both not
module _ {r r₁ : Record} {d d₁ : Buffers} {outside outside₁ : Bool} {w w₁ out out₁ o o₁ : List ℕ} {a a₁ : Number}
    (first : ℕ) (h : Sheet r d) (h₁ : Sheet r₁ d₁) (i : outside ≡ outside₁) (l : w ≡ w₁)
    (p : PutsLine r d outside first w out a o) (p₁ : PutsLine r₁ d₁ outside₁ first w₁ out₁ a₁ o₁) where
  sheets : is_sheet r d ≡ is_sheet r₁ d₁
  sheets = holds_is r d (spell r d) h ∙ sym (holds_is r₁ d₁ (spell r₁ d₁) h₁)

  -- one answer where the outputs are as long
  pub answers_same : length out ≡ length out₁ → a ≡ a₁
  unfolding line_order
  answers_same long = p.answer_is ∙ rw (sheets, i, l, long) (sym p₁.answer_is)

  -- and one output where they are the same
  pub outputs_same : out ≡ out₁ → o ≡ o₁
  unfolding line_order
  outputs_same equal = p.out_is ∙ rw (sheets, i, l, equal) (sym p₁.out_is)
