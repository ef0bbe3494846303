-- UTF-8, from the grammar of RFC 3629, section 4, over a list of bytes.
use Rattle.std.specs.Prelude.{ℕ, zero, suc, pred, ◌+◌, ◌*◌, ◌/◌, ◌%◌, List, [], ◌∷◌, ◌++◌}
use Rattle.std.specs.Prelude.{Bool, true, false, ◌&&◌, ◌||◌, length, get_or, take, drop, leb, ltb, eqb}
use Rattle.laws.specs.If.{when◌then◌else◌}
use Rattle.utf8.specs.declared.Decoded.{Decoded}
use Rattle.utf8.specs.declared.Decoded.TheVariants.{Char, Bad, End}
use Rattle.utf8.specs.declared.unchecked.Encoded.{Encoded}

-- %xLO-HI
abbrev pub within : ℕ → ℕ → ℕ → Bool
within lo hi b = leb lo b && leb b hi

-- UTF8-tail = %x80-BF
abbrev pub tail : ℕ → Bool
tail b = within 0x80 0xBF b

-- UTF8-1 = %x00-7F
abbrev pub utf8_1 : ℕ → Bool
utf8_1 a = leb a 0x7F

-- UTF8-2 = %xC2-DF UTF8-tail
unfoldable pub utf8_2 : ℕ → ℕ → Bool
utf8_2 a b = within 0xC2 0xDF a && tail b

-- UTF8-3 = %xE0 %xA0-BF UTF8-tail / %xE1-EC 2( UTF8-tail ) / %xED %x80-9F UTF8-tail / %xEE-EF 2( UTF8-tail )
unfoldable pub utf8_3 : ℕ → ℕ → ℕ → Bool
utf8_3 a b c =
    eqb a 0xE0 && within 0xA0 0xBF b && tail c
    || within 0xE1 0xEC a && tail b && tail c
    || eqb a 0xED && within 0x80 0x9F b && tail c
    || within 0xEE 0xEF a && tail b && tail c

-- UTF8-4 = %xF0 %x90-BF 2( UTF8-tail ) / %xF1-F3 3( UTF8-tail ) / %xF4 %x80-8F 2( UTF8-tail )
unfoldable pub utf8_4 : ℕ → ℕ → ℕ → ℕ → Bool
utf8_4 a b c d =
    eqb a 0xF0 && within 0x90 0xBF b && tail c && tail d
    || within 0xF1 0xF3 a && tail b && tail c && tail d
    || eqb a 0xF4 && within 0x80 0x8F b && tail c && tail d

-- what four bytes begin with; a byte past the end counts as 0, which is no UTF8-tail
unfoldable pub char_of : ℕ → ℕ → ℕ → ℕ → Decoded
char_of a b c d =
    when utf8_1 a then Char a 1
    else when utf8_2 a b then Char (a % 32 * 64 + b % 64) 2
    else when utf8_3 a b c then Char ((a % 16 * 64 + b % 64) * 64 + c % 64) 3
    else when utf8_4 a b c d then Char (((a % 8 * 64 + b % 64) * 64 + c % 64) * 64 + d % 64) 4
    else Bad

-- the character that the bytes start with
abbrev pub char_at : List ℕ → Decoded
char_at [] = End
char_at (a ∷ s) = char_of a (get_or s 0 0) (get_or s 1 0) (get_or s 2 0)

unfoldable pub decode_at : List ℕ → ℕ → Decoded
decode_at s at = char_at (drop at s)

-- a character stands there
unfoldable pub is_char : Decoded → Bool
is_char (Char v n) = true
is_char Bad = false
is_char End = false

-- the characters of a text, up to its end or to what is no character; k bytes belong to the character before
unfoldable pub walk : ℕ → List ℕ → List Decoded
walk k [] = []
walk (suc k) (b ∷ s) = walk k s
walk zero (b ∷ s) = elim (char_at (b ∷ s)) [ Char v n ↦ Char v n ∷ walk (pred n) s | Bad ↦ Bad ∷ [] | End ↦ [] ]

abbrev pub chars : List ℕ → List Decoded
chars s = walk 0 s

-- how many bytes the characters take that stand before anything that is none
unfoldable pub wholes : List Decoded → ℕ
wholes [] = 0
wholes (Char v n ∷ r) = n + wholes r
wholes (Bad ∷ r) = 0
wholes (End ∷ r) = 0

-- the end of the longest prefix that is made of whole characters
abbrev pub valid_prefix : List ℕ → ℕ
valid_prefix s = wholes (chars s)

-- the values of the characters that stand before anything that is none
unfoldable pub values : List Decoded → List ℕ
values [] = []
values (Char v n ∷ r) = v ∷ values r
values (Bad ∷ r) = []
values (End ∷ r) = []

-- the scalar values of a text
abbrev pub scalars : List ℕ → List ℕ
scalars s = values (chars s)

-- a Unicode scalar value: no surrogate, nothing above 10FFFF
unfoldable pub scalar : ℕ → Bool
scalar v = ltb v 0xD800 || within 0xE000 0x10FFFF v

-- how many bytes a scalar value takes (the table of section 3)
unfoldable pub width : ℕ → ℕ
width v = when leb v 0x7F then 1 else when leb v 0x7FF then 2 else when leb v 0xFFFF then 3 else 4

-- the bytes of a scalar value (the table of section 3)
unfoldable pub encode : ℕ → List ℕ
encode v =
    when leb v 0x7F then v ∷ []
    else when leb v 0x7FF then (0xC0 + v / 64) ∷ (0x80 + v % 64) ∷ []
    else when leb v 0xFFFF then (0xE0 + v / 4096) ∷ (0x80 + v / 64 % 64) ∷ (0x80 + v % 64) ∷ []
    else (0xF0 + v / 262144) ∷ (0x80 + v / 4096 % 64) ∷ (0x80 + v / 64 % 64) ∷ (0x80 + v % 64) ∷ []

-- the bytes of a text
unfoldable pub encodes : List ℕ → List ℕ
encodes [] = []
encodes (v ∷ vs) = encode v ++ encodes vs

-- how many bytes a text takes
unfoldable pub size : List ℕ → ℕ
size [] = 0
size (v ∷ vs) = width v + size vs

-- at most four bytes, and zeros up to four
unfoldable pub filled : List ℕ → Encoded
filled bs = record { bytes = take 4 (bs ++ 0 ∷ 0 ∷ 0 ∷ 0 ∷ []); len = length bs }
