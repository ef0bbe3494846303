-- What the loops over a stretch of characters go by: one that writes it, one that writes it without labels, one that counts its slashes. Assumes nothing.
use Prim.Native.Nat.{ℕ, suc, ◌+◌, ◌-◌, ◌^◌, ◌≤◌, ◌<◌}
use mathlib.Core.Path.{◌≡◌, refl, sym, ◌∙◌}
use mathlib.Core.Bool.{true, false}
use mathlib.Core.List.{List, [], ◌∷◌, ◌++◌}
use native.Mathlib.Omega.{arith}
use borrow.Author.Tests.{eq-eqb, ne_eqb}
use mir.Val.{Fits}
use mir.Syntax.{w64}
use lib.Dec.{eqb}
use lib.ListN.{length, get_or, set}
use Rattle.laws.specs.If.{when◌then◌else◌, if_true, if_false}
use Rattle.sentence.specs.Writing.{sign}
use Rattle.sheet.specs.Layout.{mark_of}
use Rattle.write_escape.specs.Wrote.{Wrote, Writing, write_byte, write_item, write_fits, write_done}
use Rattle.write_items.specs.Items.{count_at, RowLies, TextLies, text_at, char_line}
use Rattle.write_partial.specs.Line.{Spread, Rows, stretch_of, covered_of, slashes_of}

-- ---- a stretch with its labels: the loop is at the i-th character, and at `at` in the output
pub record Stretching (text bs ps ss ls ds : List ℕ) (m n upto : ℕ) (out₀ : List ℕ) (at₀ : ℕ) (all out : List ℕ) (at i : ℕ) : Type 0 where
  pub spread : Spread ps text upto
  pub rows : Rows ss ls ds m upto
  pub long : upto ≤ length bs
  pub here : i ≤ upto
  pub writing : Writing out₀ at₀ all out at (stretch_of text bs ps ss ls ds m n i (upto - i))

module _ {text bs ps ss ls ds : List ℕ} {m : ℕ} {n upto : ℕ} {out₀ : List ℕ} {at₀ : ℕ} {all out : List ℕ} {at i : ℕ} (t : Stretching text bs ps ss ls ds m n upto out₀ at₀ all out at i) where
  module _ (l : i < upto) {w : ℕ} (q : w ≡ (when eqb (get_or bs i 0) 1 then n else 0)) where
    stretch_left : stretch_of text bs ps ss ls ds m n i (upto - i)
        ≡ char_line w text ps ss ls ds m i ++ (sign (mark_of (get_or bs i 0)) ∷ stretch_of text bs ps ss ls ds m n (i + 1) (upto - (i + 1)))
    unfolding stretch_of
    stretch_left = let k : upto - i ≡ suc (upto - (i + 1)) = omega arith in rw (k, q)

    pub stretch_asks : TextLies ps text i (i + 1) × RowLies ss ls ds m i × (at + length (char_line w text ps ss ls ds m i) ≤ length out)
    stretch_asks = (t.spread.lies i l, t.rows.lies i l, write_fits t.writing (char_line w text ps ss ls ds m i) _ stretch_left)

    module _ {out' : List ℕ} {at' : ℕ} (c : Wrote out at (char_line w text ps ss ls ds m i) out' at') where
      behind : Writing out₀ at₀ all out' at' (sign (mark_of (get_or bs i 0)) ∷ stretch_of text bs ps ss ls ds m n (i + 1) (upto - (i + 1)))
      behind = write_item t.writing stretch_left c

      pub stretch_byte : at' < length out'
      stretch_byte = omega (arith, write_fits behind (sign (mark_of (get_or bs i 0)) ∷ []) _ refl)

      pub stretch_inside : at' < length out₀
      stretch_inside = omega (arith, stretch_byte, behind.long)

      pub stretch_next : {z : ℕ} → z ≡ sign (mark_of (get_or bs i 0)) → Stretching text bs ps ss ls ds m n upto out₀ at₀ all (set out' at' z) (at' + 1) (i + 1)
      stretch_next o = record { spread = t.spread; rows = t.rows; long = t.long; here = omega arith; writing = rw o (write_byte behind refl) }

  pub stretch_done : upto ≤ i → Wrote out₀ at₀ all out at
  unfolding stretch_of
  stretch_done l = let k : upto - i ≡ 0 = omega arith in write_done t.writing (rw k)

-- ---- a stretch without its labels
pub record Covering (text ps : List ℕ) (upto : ℕ) (out₀ : List ℕ) (at₀ : ℕ) (all out : List ℕ) (at i : ℕ) : Type 0 where
  pub spread : Spread ps text upto
  pub here : i ≤ upto
  pub writing : Writing out₀ at₀ all out at (covered_of text ps i (upto - i))

module _ {text ps : List ℕ} {upto : ℕ} {out₀ : List ℕ} {at₀ : ℕ} {all out : List ℕ} {at i : ℕ} (t : Covering text ps upto out₀ at₀ all out at i) where
  module _ (l : i < upto) where
    cover_left : covered_of text ps i (upto - i) ≡ text_at ps text i (i + 1) ++ (32 ∷ covered_of text ps (i + 1) (upto - (i + 1)))
    unfolding covered_of
    cover_left = let k : upto - i ≡ suc (upto - (i + 1)) = omega arith in rw k

    pub cover_asks : TextLies ps text i (i + 1) × (at + length (text_at ps text i (i + 1)) ≤ length out)
    cover_asks = (t.spread.lies i l, write_fits t.writing (text_at ps text i (i + 1)) _ cover_left)

    module _ {out' : List ℕ} {at' : ℕ} (c : Wrote out at (text_at ps text i (i + 1)) out' at') where
      cover_behind : Writing out₀ at₀ all out' at' (32 ∷ covered_of text ps (i + 1) (upto - (i + 1)))
      cover_behind = write_item t.writing cover_left c

      pub cover_byte : at' < length out'
      cover_byte = omega (arith, write_fits cover_behind (32 ∷ []) _ refl)

      pub cover_next : Covering text ps upto out₀ at₀ all (set out' at' 32) (at' + 1) (i + 1)
      cover_next = record { spread = t.spread; here = omega arith; writing = write_byte cover_behind refl }

  pub cover_done : upto ≤ i → Wrote out₀ at₀ all out at
  unfolding covered_of
  cover_done l = let k : upto - i ≡ 0 = omega arith in write_done t.writing (rw k)

-- ---- the slashes of a stretch: those from the i-th character on are left to count
pub record Slashing (bs ss ls ds : List ℕ) (m n upto all sum i : ℕ) : Type 0 where
  pub rows : Rows ss ls ds m upto
  pub long : upto ≤ length bs
  pub here : i ≤ upto
  pub few : all < 2 ^ 32
  pub same : sum + slashes_of bs ls m n i (upto - i) ≡ all

module _ {bs ss ls ds : List ℕ} {m : ℕ} {n upto all sum i : ℕ} (t : Slashing bs ss ls ds m n upto all sum i) where
  module _ (l : i < upto) where
    left : slashes_of bs ls m n i (upto - i) ≡ (when eqb (get_or bs i 0) 1 then n else count_at ls m i) + slashes_of bs ls m n (i + 1) (upto - (i + 1))
    unfolding slashes_of
    left = let k : upto - i ≡ suc (upto - (i + 1)) = omega arith in rw k

    module _ (q : get_or bs i 0 ≡ 1) where
      word : n + slashes_of bs ls m n (i + 1) (upto - (i + 1)) ≡ slashes_of bs ls m n i (upto - i)
      word = let z : eqb (get_or bs i 0) 1 ≡ true = eq-eqb (get_or bs i 0) 1 q in sym (left ∙ rw (if_true (eqb (get_or bs i 0) 1) n (count_at ls m i) z))

      pub slash_word_fits : Fits w64 (sum + n)
      slash_word_fits = omega (arith, word, t.same, t.few)

      pub slash_word : Slashing bs ss ls ds m n upto all (sum + n) (i + 1)
      slash_word = record { rows = t.rows; long = t.long; here = omega arith; few = t.few; same = omega (arith, word, t.same) }

    module _ (q : get_or bs i 0 ≡ 1 → ⊥) {k : ℕ} (c : k ≡ count_at ls m i) where
      other : k + slashes_of bs ls m n (i + 1) (upto - (i + 1)) ≡ slashes_of bs ls m n i (upto - i)
      other = let z : eqb (get_or bs i 0) 1 ≡ false = ne_eqb (get_or bs i 0) 1 q in sym (left ∙ rw (if_false (eqb (get_or bs i 0) 1) n (count_at ls m i) z, ← c))

      pub slash_other_fits : Fits w64 (sum + k)
      slash_other_fits = omega (arith, other, t.same, t.few)

      pub slash_other : Slashing bs ss ls ds m n upto all (sum + k) (i + 1)
      slash_other = record { rows = t.rows; long = t.long; here = omega arith; few = t.few; same = omega (arith, other, t.same) }

  pub slash_done : upto ≤ i → sum ≡ all
  unfolding slashes_of
  slash_done l = let k : upto - i ≡ 0 = omega arith in omega (arith, rw k at t.same)
