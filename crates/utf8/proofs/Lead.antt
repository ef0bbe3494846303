-- Where a character stands, its lead byte says how long it is. Assumes nothing.
use Prim.Native.Nat.{ℕ, ◌+◌, ◌*◌, ◌%◌, ◌≤◌, ◌<◌}
use mathlib.Core.Path.{◌≡◌, refl, ◌∙◌}
use mathlib.Core.Bool.{Bool, true, false}
use mathlib.Core.List.{List}
use native.Mathlib.Omega.{arith}
use native.Mathlib.Decide.{dec_le}
use borrow.Author.Tests.{le-leb, lt-leb}
use lib.ListN.{length, get_or}
use Rattle.laws.specs.If.{when◌then◌else◌}
use Rattle.laws.proofs.Facts.{reads, untrue}
use Rattle.utf8.specs.declared.Decoded.TheVariants.{Char, Bad}
use Rattle.utf8.specs.Utf8.{utf8_2, utf8_3, utf8_4, char_of, decode_at, is_char}
use Rattle.utf8.proofs.Laws.{decode_in, decode_out, char_within}

-- the lead bytes of each length
two_lead : (a b : ℕ) → utf8_2 a b ≡ true → (0x80 ≤ a) × (a ≤ 0xDF)
unfolding utf8_2
two_lead a b = simp reads (omega arith)

three_lead : (a b c : ℕ) → utf8_3 a b c ≡ true → (0xE0 ≤ a) × (a ≤ 0xEF)
unfolding utf8_3
three_lead a b c = simp reads (omega arith)

four_lead : (a b c d : ℕ) → utf8_4 a b c d ≡ true → 0xF0 ≤ a
unfolding utf8_4
four_lead a b c d = simp reads (omega arith)

-- a test that leaves nothing else
only : (t : Bool) (v n : ℕ) → is_char (when t then Char v n else Bad) ≡ true → (when t then Char v n else Bad) ≡ Char v n
unfolding is_char when◌then◌else◌
only true v n e = refl
only false v n e = cc

module _ (a b c d : ℕ) (h : is_char (char_of a b c d) ≡ true) where
  one : a ≤ 0x7F → char_of a b c d ≡ Char a 1
  unfolding char_of when◌then◌else◌
  one l = rw (le-leb a 0x7F l)

  two : 0x7F < a → a ≤ 0xDF → char_of a b c d ≡ Char (a % 32 * 64 + b % 64) 2
  unfolding char_of is_char when◌then◌else◌
  two k l =
      let f = untrue (utf8_3 a b c) (λ e. omega (arith, three_lead a b c e)) in
      let g = untrue (utf8_4 a b c d) (λ e. omega (arith, four_lead a b c d e)) in
      rw (lt-leb a 0x7F k, f, g) (only (utf8_2 a b) _ _ (rw (lt-leb a 0x7F k, f, g) at h))

  three : 0xDF < a → a ≤ 0xEF → char_of a b c d ≡ Char ((a % 16 * 64 + b % 64) * 64 + c % 64) 3
  unfolding char_of is_char when◌then◌else◌
  three k l =
      let e = lt-leb a 0x7F (omega arith) in
      let f = untrue (utf8_2 a b) (λ e. omega (arith, two_lead a b e)) in
      let g = untrue (utf8_4 a b c d) (λ e. omega (arith, four_lead a b c d e)) in
      rw (e, f, g) (only (utf8_3 a b c) _ _ (rw (e, f, g) at h))

  four : 0xEF < a → char_of a b c d ≡ Char (((a % 8 * 64 + b % 64) * 64 + c % 64) * 64 + d % 64) 4
  unfolding char_of is_char when◌then◌else◌
  four k =
      let e = lt-leb a 0x7F (omega arith) in
      let f = untrue (utf8_2 a b) (λ e. omega (arith, two_lead a b e)) in
      let g = untrue (utf8_3 a b c) (λ e. omega (arith, three_lead a b c e)) in
      rw (e, f, g) (only (utf8_4 a b c d) _ _ (rw (e, f, g) at h))

-- a character of n bytes, and the places that it takes
pub record Spans (s : List ℕ) (at v n : ℕ) : Type 0 where
  pub is : decode_at s at ≡ Char v n
  pub fits : at + n ≤ length s

-- ---- the same of a place; the bytes are what `s` has there
module _ (s : List ℕ) (at : ℕ) (h : is_char (decode_at s at) ≡ true) where
  pub lead_within : at < length s
  unfolding is_char
  lead_within = elim (dec_le (length s) at) [ yes l ↦ (let k = decode_out s at l in let z : ◌≡◌ {A = ℕ} 0 1 = cc in absurd (omega arith)) | no l ↦ omega arith ]

  is_char_lem : is_char (char_of (get_or s at 0) (get_or s (at + 1) 0) (get_or s (at + 2) 0) (get_or s (at + 3) 0)) ≡ true
  is_char_lem = rw (decode_in s at lead_within) at h

  spans : (v n : ℕ) → char_of (get_or s at 0) (get_or s (at + 1) 0) (get_or s (at + 2) 0) (get_or s (at + 3) 0) ≡ Char v n → Spans s at v n
  spans v n e =
      let i : decode_at s at ≡ Char v n = decode_in s at lead_within ∙ e in
      record { is = i; fits = char_within s at v n (omega (arith, lead_within)) i }

  pub lead_one : get_or s at 0 ≤ 0x7F → Spans s at (get_or s at 0) 1
  lead_one l = spans _ _ (one _ _ _ _ is_char_lem l)

  pub lead_two : 0x7F < get_or s at 0 → get_or s at 0 ≤ 0xDF → Spans s at (get_or s at 0 % 32 * 64 + get_or s (at + 1) 0 % 64) 2
  lead_two k l = spans _ _ (two _ _ _ _ is_char_lem k l)

  pub lead_three : 0xDF < get_or s at 0 → get_or s at 0 ≤ 0xEF → Spans s at ((get_or s at 0 % 16 * 64 + get_or s (at + 1) 0 % 64) * 64 + get_or s (at + 2) 0 % 64) 3
  lead_three k l = spans _ _ (three _ _ _ _ is_char_lem k l)

  pub lead_four : 0xEF < get_or s at 0 → Spans s at (((get_or s at 0 % 8 * 64 + get_or s (at + 1) 0 % 64) * 64 + get_or s (at + 2) 0 % 64) * 64 + get_or s (at + 3) 0 % 64) 4
  lead_four k = spans _ _ (four _ _ _ _ is_char_lem k)
