-- Worked examples. Each computes.
use Rattle.std.specs.Prelude.{◌≡◌, refl, false, [], ◌∷◌}
use Rattle.laws.specs.If.{when◌then◌else◌}
use Rattle.utf8.specs.declared.Decoded.TheVariants.{Char, Bad}
use Rattle.utf8.specs.Utf8.{utf8_2, utf8_3, utf8_4, char_of, char_at, walk, wholes, valid_prefix, scalar, encode, filled}

euro : char_at (0xE2 ∷ 0x82 ∷ 0xAC ∷ []) ≡ Char 0x20AC 3
unfolding char_of when◌then◌else◌ utf8_2 utf8_3 utf8_4
euro = refl

surrogate : char_at (0xED ∷ 0xA0 ∷ 0x80 ∷ []) ≡ Bad
unfolding char_of when◌then◌else◌ utf8_2 utf8_3 utf8_4
surrogate = refl

last : char_at (0xF4 ∷ 0x8F ∷ 0xBF ∷ 0xBF ∷ []) ≡ Char 0x10FFFF 4
unfolding char_of when◌then◌else◌ utf8_2 utf8_3 utf8_4
last = refl

prefix : valid_prefix (0x41 ∷ 0xC3 ∷ 0xA9 ∷ 0xC0 ∷ 0x41 ∷ []) ≡ 3
unfolding char_of when◌then◌else◌ utf8_2 utf8_3 utf8_4 walk wholes
prefix = refl

euro_encoded : filled (encode 0x20AC) ≡ record { bytes = 0xE2 ∷ 0x82 ∷ 0xAC ∷ 0 ∷ []; len = 3 }
unfolding filled encode when◌then◌else◌
euro_encoded = refl

surrogate_not_scalar : scalar 0xD800 ≡ false
unfolding scalar
surrogate_not_scalar = refl
