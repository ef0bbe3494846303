-- What the check needs of its passes' answers. Assumes nothing.
use Prim.Native.Nat.{ℕ, ◌+◌, ◌-◌, ◌*◌, ◌≤◌, ◌<◌}
use native.Mathlib.Nat.{mul-le-mul_right}
use native.Mathlib.Omega.{arith}
use native.Mathlib.Numerals.{add-one}
use mathlib.Core.Path.{◌≡◌, refl, sym, ◌∙◌}
use mathlib.Core.Bool.{Bool, true, false, not, ◌&&◌, and-eq-true_iff}
use mathlib.Core.List.{List}
use borrow.Author.Tests.{le-leb, lt-leb, leb-true, leb-false, not-true, not-false}
use lib.Dec.{eqb, leb, ltb}
use Rattle.laws.proofs.Facts.{reads}
use lib.ListN.{length, take}
use lib.Seq.{length-take-le}
use Rattle.sheet_check.specs.Passes.{is_text, are_marks, are_cells}
use Rattle.sheet.specs.declared.Record.{Record}
use Rattle.sheet.specs.Eight.{all}
use Rattle.sheet.specs.Layout.{Buffers, enough, room_for}
use Rattle.sheet.specs.Check.{in_limits, is_laid, Room, is_sheet}
use Rattle.sheet.proofs.Exact.{room_is}

pub prefix_long : (n : ℕ) (d : List ℕ) → n ≤ length d → n ≡ length (take n d)
prefix_long n d h = sym (length-take-le n d h)

leb_less : (n m : ℕ) → leb n (m + 1) ≡ leb (n - 1) m
leb_less n m = on (leb (n - 1) m) refl
  where
    on : (t : Bool) → leb (n - 1) m ≡ t → leb n (m + 1) ≡ leb (n - 1) m
    on true e = le-leb n (m + 1) (omega (arith, leb-true (n - 1) m e)) ∙ sym e
    on false e = lt-leb n (m + 1) (omega (arith, leb-false (n - 1) m e)) ∙ sym e

-- the limits but for the number of cells, and the product that is that number
module _ (r : Record) where
  abbrev within : Bool
  within = leb 1 r.n && leb r.n r.b && leb r.b 4096 && leb r.columns 4096 && leb r.g 65535

  pub past_limits : not within ≡ true → false ≡ in_limits r
  unfolding in_limits
  past_limits e = rw (not-true within e)

  small : within ≡ true → (r.n ≤ 4096) × (r.columns ≤ 4096)
  small = simp reads (omega arith)

  pub product_small : not within ≡ false → r.n * r.columns < 18446744073709551616
  product_small e = let k = small (not-false within e) in omega (arith, mul-le-mul_right {m = r.n} {n = 4096} r.columns k.0)

  pub limits_are_met : not within ≡ false → eqb r.cells (r.n * r.columns) ≡ in_limits r
  unfolding in_limits
  limits_are_met e = rw (not-false within e)

module _ (r : Record) (d : Buffers) where
  pub fits_same : (ok : Bool) → ok ≡ in_limits r → (ok && (
      leb r.b (length d.text_buf)
      && leb r.n (length d.types_buf)
      && leb r.n (length d.boundaries_buf + 1)
      && ltb r.n (length d.char_pos_buf)
      && ltb r.b (length d.byte_pos_buf)
      && leb r.cells (length d.cell_starts_buf)
      && leb r.cells (length d.cell_lengths_buf)
      && leb r.g (length d.tag_bytes_buf))) ≡ (in_limits r && room_for r d)
  unfolding room_for enough all
  fits_same ok e = rw (e, leb_less r.n (length d.boundaries_buf), add-one r.n, add-one r.b)

  -- the answers of the passes, in their order
  module _ (text-ok : Bool) (t : text-ok ≡ is_text (take r.b d.text_buf) (take r.n d.types_buf) (take (r.n + 1) d.char_pos_buf) (take (r.b + 1) d.byte_pos_buf)) where
    pub no_text : not text-ok ≡ true → false ≡ is_laid r d
    unfolding is_laid
    no_text e = rw (← t, not-true text-ok e)

    module _ (marks-ok : Bool) (t-ok : not text-ok ≡ false) (m : marks-ok ≡ are_marks (take (r.n - 1) d.boundaries_buf)) where
      pub no_marks : not marks-ok ≡ true → false ≡ is_laid r d
      unfolding is_laid
      no_marks e = rw (← t, not-false text-ok t-ok, ← m, not-true marks-ok e)

      pub laid_is : (cells-ok : Bool) → not marks-ok ≡ false → cells-ok ≡ are_cells (take r.g d.tag_bytes_buf) 0 (take r.cells d.cell_starts_buf) (take r.cells d.cell_lengths_buf) → cells-ok ≡ is_laid r d
      unfolding is_laid
      laid_is cells-ok m-ok e = rw (← t, not-false text-ok t-ok, ← m, not-false marks-ok m-ok) e

  module _ (ok : Bool) (e : ok ≡ (in_limits r && room_for r d)) where
    pub no_fit : ok ≡ false → ok ≡ is_sheet r d
    unfolding is_sheet
    no_fit t = t ∙ (rw (← e, t))

    pub room_met : ok ≡ true → Room r d
    room_met t = let k = (and-eq-true_iff (in_limits r) (room_for r d)).0 (sym e ∙ t) in room_is r d k.0 k.1

    pub sheet_is : (laid : Bool) → ok ≡ true → laid ≡ is_laid r d → laid ≡ is_sheet r d
    unfolding is_sheet
    sheet_is laid t q = rw (← e, t) q
