-- The answers of the withheld copy, by what the check, the range and the lengths say. Assumes nothing.
use Rattle.std.specs.Prelude.{Option, Some, None, Ok, Err}
use Prim.Native.Nat.{ℕ, ◌≤◌}
use mathlib.Core.Path.{◌≡◌, refl, sym, ap, subst, ◌∙◌}
use mathlib.Core.Bool.{Bool, true, false, ◌||◌, false≢true}
use mathlib.Core.List.{List}
use native.Mathlib.Omega.{arith}
use borrow.Author.Tests.{le-ltb, ltb-false}
use lib.Dec.{ltb}
use lib.ListN.{length}
use Rattle.sentence.specs.Sentence.{count}
use Rattle.sentence.specs.declared.Form.TheVariants.{Partial as partial}
use Rattle.sentence.specs.Writing.{written}
use Rattle.sentence.specs.Withheld.{hidden, widest, trimmed, withheld}
use Rattle.sentence.specs.Refusals.{refusal}
use Rattle.sentence.specs.declared.Refusal.{Refusal}
use Rattle.sheet.specs.declared.Record.{Record}
use Rattle.sheet.specs.Answers.{Number}
use Rattle.sheet.specs.Layout.{Buffers, spell, Sheet}
use Rattle.sheet.specs.Check.{is_sheet}
use Rattle.sheet.proofs.Look.{bounds}
use Rattle.write_escape.specs.Wrote.{Lined}
use Rattle.write_items.specs.Items.{short_of}
use Rattle.write_items.proofs.Room.{short_none}
use Rattle.write_partial.specs.Line.{shown_of, Asked}
use Rattle.write_partial.proofs.Widest.{columns_few}
use Rattle.write.specs.Answers.{copy_of, no_range, PutsLine, Withholds}
use Rattle.write.proofs.Laws.{sound, put_14, put_12, put_line}

-- a range that is one of n characters
inside : (b e n : ℕ) → no_range b e n ≡ false → (b ≤ e) × (e ≤ n)
inside b e n q = on (ltb e b) refl q
  where
    on : (t : Bool) → ltb e b ≡ t → (t || ltb n e) ≡ false → (b ≤ e) × (e ≤ n)
    on true p q = absurd (false≢true (sym q))
    on false p q = (ltb-false e b p, ltb-false n e q)

-- and one that starts up to its end, which is up to n, is one
pub is_range : {b e n : ℕ} → b ≤ e → e ≤ n → no_range b e n ≡ false
is_range {b} {e} {n} h l = rw (le-ltb e b h) (le-ltb n e l)

-- ---- the answers: g is what the check answered, t what was told of the range
module _ (r : Record) (d : Buffers) (b e : ℕ) (out : List ℕ) {g : Bool} (p : g ≡ is_sheet r d) (h : g ≡ true) {t : Bool} (o : t ≡ no_range b e r.n) where
  abbrev outside : Bool
  outside = no_range b e (count (spell r d))

  valid : Sheet r d
  valid = sound p h

  told : {v : Bool} → t ≡ v → outside ≡ v
  told z = ap (no_range b e) (sym (bounds valid).n_is) ∙ sym o ∙ z

  pub withhold_14 : {q : Refusal} → t ≡ true → q ≡ refusal 14 b → Withholds r d b e out (Err q) out
  withhold_14 z q = put_14 r d outside b (copy_of r d b e) out p h (told z) q

  -- c is the columns that are left
  module _ (z : t ≡ false) {c : ℕ} (w : c ≡ widest (hidden b e 0 (spell r d).cells)) where
    ranged : (b ≤ e) × (e ≤ r.n)
    ranged = inside b e r.n (sym o ∙ z)

    pub withhold_asks : Sheet r d × Asked r d c b e
    withhold_asks = (valid, record { ordered = ranged.0; inside = ranged.1; enough = omega (arith, w); narrow = omega (arith, w, columns_few b e valid) })

    abbrev shown : List ℕ
    shown = written partial (shown_of c b e (spell r d))

    -- the line that is shown is the copy
    copied : {a : Number} {out' : List ℕ} → PutsLine r d outside b shown out a out' → Withholds r d b e out a out'
    unfolding withheld trimmed
    copied {a} {out'} v = subst (λ (n : ℕ). PutsLine r d outside b (written partial (shown_of n b e (spell r d))) out a out') w v

    -- n is the length that is lacking, if one is
    module _ {n : Option ℕ} (m : n ≡ short_of (length out) (length shown)) where
      pub withhold_12 : {k : ℕ} {q : Refusal} → n ≡ Some k → q ≡ refusal 12 k → Withholds r d b e out (Err q) out
      withhold_12 l q = copied (put_12 r d outside b shown out p h (told z) m l q)

      pub withhold_room : n ≡ None → Sheet r d × (b ≤ e) × (e ≤ r.n) × (length shown ≤ length out)
      withhold_room l = (valid, ranged.0, ranged.1, short_none (length out) (length shown) m l)

      pub withhold_line : {a : ℕ} {out' : List ℕ} → n ≡ None → Lined shown out out' a → Withholds r d b e out (Ok a) out'
      withhold_line l v = copied (put_line r d outside b shown out p h (told z) m l v)
