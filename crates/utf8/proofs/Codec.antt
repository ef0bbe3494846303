-- Encoding and decoding undo each other, for one scalar value and for a text; the valid prefix is the longest one. Assumes nothing.
use Prim.Native.Nat.{ℕ, suc, min, ◌+◌, ◌-◌, ◌*◌, ◌/◌, ◌%◌, ◌≤◌, ◌<◌}
use native.Mathlib.Omega.{arith}
use native.Mathlib.Decide.{dec_le}
use mathlib.Core.Path.{◌≡◌, refl, sym, ap, subst, ◌∙◌}
use mathlib.Core.Logic.{inl, inr}
use mathlib.Core.Bool.{true}
use mathlib.Core.List.{List, [], ◌∷◌, ◌++◌, append-nil, append_assoc}
use borrow.Author.Tests.{le-leb, lt-leb, leb-true, leb-false}
use lib.Dec.{leb}
use lib.ListN.{length, get_or, take, drop, length-append, length-take, length-drop, get_or-eq_default, take-append-drop}
use lib.Seq.{take-suc, take-add, take_all, take_at, take-take, drop_at, length-take-le}
use Rattle.laws.specs.If.{when◌then◌else◌, if_both, if_cases, if_map}
use Rattle.laws.specs.All.{All}
use Rattle.laws.proofs.Facts.{reads, or_is, untrue}
use Rattle.laws.proofs.Sized.{by_size}
use Rattle.utf8.specs.declared.Decoded.{Decoded}
use Rattle.utf8.specs.declared.Decoded.TheVariants.{Char, Bad, End}
use Rattle.utf8.specs.declared.unchecked.Encoded.{Encoded}
use Rattle.utf8.specs.Utf8.{utf8_1, utf8_2, utf8_3, utf8_4, char_of, char_at, walk, chars, wholes, valid_prefix, values, scalars, scalar, width, encode, encodes, size, filled}
use Rattle.utf8.proofs.Walk.{walk_char, walk_bad, walk_end}

pub length_encode : (v : ℕ) → length (encode v) ≡ width v
unfolding encode width
length_encode v = simp (if_map (length {A = ℕ}))

pub width_small : (v : ℕ) → (1 ≤ width v) × (width v ≤ 4)
unfolding width
width_small v = if_both few _ _ _ (omega arith) (if_both few _ _ _ (omega arith) (if_both few _ _ _ (omega arith) (omega arith)))
  where
    few : ℕ → Type 0
    few n = (1 ≤ n) × (n ≤ 4)

-- a text has at least as many bytes as characters, and one without bytes is empty
pub size_long : (cs : List ℕ) → length cs ≤ size cs
unfolding size
size_long [] = omega arith
size_long (c ∷ cs) = omega (arith, size_long cs, width_small c)

pub no_bytes : (cs : List ℕ) → size cs ≡ 0 → cs ≡ []
unfolding size
no_bytes [] h = refl
no_bytes (c ∷ cs) h = absurd (omega (arith, width_small c))

-- ---- a scalar value, as one equation that `omega` reads
abbrev gap : ℕ → ℕ
gap v = (v - 0x10FFFF) + min (v - 0xD7FF) (0xE000 - v)

of_gap : (v : ℕ) → gap v ≡ 0 → scalar v ≡ true
unfolding scalar
of_gap v h = elim (dec_le v 0xD7FF) [ yes k ↦ simp or_is (inl (simp reads (omega arith))) | no k ↦ simp or_is (inr (simp reads (omega arith))) ]

no_gap : (v : ℕ) → scalar v ≡ true → gap v ≡ 0
unfolding scalar
no_gap v = simp reads (omega arith)

pub scalar_small : (v : ℕ) → scalar v ≡ true → v ≤ 0x10FFFF
scalar_small v h = omega (arith, no_gap)

-- ---- the rows of section 3's table: the bytes of v, and its range
record Two (a b v : ℕ) : Type 0 where
  from : 0x80 ≤ v
  to : v ≤ 0x7FF
  lead : a ≡ 0xC0 + v / 64
  last : b ≡ 0x80 + v % 64

record Three (a b c v : ℕ) : Type 0 where
  from : 0x800 ≤ v
  to : v ≤ 0xFFFF
  lead : a ≡ 0xE0 + v / 4096
  next : b ≡ 0x80 + v / 64 % 64
  last : c ≡ 0x80 + v % 64
  sound : scalar v ≡ true

record Four (a b c d v : ℕ) : Type 0 where
  from : 0x10000 ≤ v
  to : v ≤ 0x10FFFF
  lead : a ≡ 0xF0 + v / 262144
  next : b ≡ 0x80 + v / 4096 % 64
  third : c ≡ 0x80 + v / 64 % 64
  last : d ≡ 0x80 + v % 64

-- ---- the grammar of section 4 gives such a row
two_in : (a b v : ℕ) → v ≡ a % 32 * 64 + b % 64 → utf8_2 a b ≡ true → Two a b v
unfolding utf8_2
two_in a b v e = simp reads (omega arith)

three_in : (a b c v : ℕ) → v ≡ (a % 16 * 64 + b % 64) * 64 + c % 64 → utf8_3 a b c ≡ true → Three a b c v
unfolding utf8_3
three_in a b c v e = simp reads (omega (arith, of_gap))

four_in : (a b c d v : ℕ) → v ≡ ((a % 8 * 64 + b % 64) * 64 + c % 64) * 64 + d % 64 → utf8_4 a b c d ≡ true → Four a b c d v
unfolding utf8_4
four_in a b c d v e = simp reads (omega arith)

-- ---- and such a row is in the grammar
two_out : (a b v : ℕ) → Two a b v → utf8_2 a b ≡ true
unfolding utf8_2
two_out a b v t = simp reads (omega arith)

three_out : (a b c v : ℕ) → Three a b c v → utf8_3 a b c ≡ true
unfolding utf8_3
three_out a b c v t =
    elim (dec_le v 0xD7FF) [
      | yes h ↦ simp or_is (inl (elim (dec_le v 0xCFFF) [
        | yes k ↦ simp or_is (inl (elim (dec_le v 0xFFF) [
          | yes l ↦ simp or_is (inl (simp reads (omega arith)))
          | no l ↦ simp or_is (inr (simp reads (omega arith)))
        ]))
        | no k ↦ simp or_is (inr (simp reads (omega arith)))
      ]))
      | no h ↦ let k : 0xE000 ≤ v = omega (arith, no_gap) in simp or_is (inr (simp reads (omega arith)))
    ]

four_out : (a b c d v : ℕ) → Four a b c d v → utf8_4 a b c d ≡ true
unfolding utf8_4
four_out a b c d v t =
    elim (dec_le v 0xFFFFF) [
      | yes h ↦ simp or_is (inl (elim (dec_le v 0x3FFFF) [
        | yes k ↦ simp or_is (inl (simp reads (omega arith)))
        | no k ↦ simp or_is (inr (simp reads (omega arith)))
      ]))
      | no h ↦ simp or_is (inr (simp reads (omega arith)))
    ]

-- ---- encode, then decode
-- a byte adds six bits
bits : (x t v : ℕ) → x ≡ v / 64 → t ≡ 0x80 + v % 64 → x * 64 + t % 64 ≡ v
bits x t v e f = omega arith

pub one_decoded : (a b c d : ℕ) → utf8_1 a ≡ true → char_of a b c d ≡ Char a 1
unfolding char_of when◌then◌else◌
one_decoded a b c d e = rw e

two_decoded : (a b c d v : ℕ) → Two a b v → char_of a b c d ≡ Char v 2
unfolding char_of when◌then◌else◌
two_decoded a b c d v t = rw (lt-leb a 0x7F (omega arith), two_out a b v t, bits (a % 32) b v (omega arith) t.last)

three_decoded : (a b c d v : ℕ) → Three a b c v → char_of a b c d ≡ Char v 3
unfolding char_of when◌then◌else◌
three_decoded a b c d v t =
    rw (
      lt-leb a 0x7F (omega arith),
      untrue (utf8_2 a b) (λ e. omega (arith, two_in a b _ refl e)),
      three_out a b c v t,
      bits (a % 16) b (v / 64) (omega arith) t.next,
      bits (v / 64) c v refl t.last,
    )

-- what the grammar takes for three bytes, decoded
pub three_told : (a b c d : ℕ) → utf8_3 a b c ≡ true → char_of a b c d ≡ Char ((a % 16 * 64 + b % 64) * 64 + c % 64) 3
three_told a b c d h = three_decoded a b c d _ (three_in a b c _ refl h)

four_decoded : (a b c d v : ℕ) → Four a b c d v → char_of a b c d ≡ Char v 4
unfolding char_of when◌then◌else◌
four_decoded a b c d v t =
    rw (
      lt-leb a 0x7F (omega arith),
      untrue (utf8_2 a b) (λ e. omega (arith, two_in a b _ refl e)),
      untrue (utf8_3 a b c) (λ e. omega (arith, three_in a b c _ refl e)),
      four_out a b c d v t,
      bits (a % 8) b (v / 4096) (omega arith) t.next,
      bits (v / 4096) c (v / 64) (omega arith) t.third,
      bits (v / 64) d v refl t.last,
    )

abbrev Back : ℕ → List ℕ → List ℕ → Type 0
Back v s bs = char_at (bs ++ s) ≡ Char v (length bs)

back : (v : ℕ) (s : List ℕ) → scalar v ≡ true → Back v s (encode v)
unfolding encode
back v s h =
    if_cases (Back v s) (leb v 0x7F) _ _ (one_decoded v _ _ _)
    (λ e. if_cases (Back v s) (leb v 0x7FF) _ _ (λ f. two_decoded _ _ _ _ v (omega (arith, leb-false, leb-true)))
    (λ f. if_cases (Back v s) (leb v 0xFFFF) _ _ (λ g. three_decoded _ _ _ _ v (omega (arith, leb-false, leb-true, of_gap, no_gap)))
    (λ g. four_decoded _ _ _ _ v (omega (arith, leb-false, no_gap)))))

-- decoding what was encoded gives the scalar value back
pub decode_encode : (v : ℕ) (s : List ℕ) → scalar v ≡ true → char_at (encode v ++ s) ≡ Char v (width v)
decode_encode v s h = rw length_encode at (back v s h)

-- ---- decode, then encode
pub record Coded (s : List ℕ) (v n : ℕ) : Type 0 where
  pub bytes : take n s ≡ encode v
  pub wide : n ≡ width v
  pub is_scalar : scalar v ≡ true

coded : (s bs : List ℕ) (v : ℕ) → take (length bs) s ≡ bs → encode v ≡ bs → scalar v ≡ true → Coded s v (length bs)
coded s bs v e f g = record { bytes = e ∙ sym f; wide = sym (ap length f) ∙ length_encode v; is_scalar = g }

pub one_encoded : (v : ℕ) → leb v 0x7F ≡ true → encode v ≡ v ∷ []
unfolding encode when◌then◌else◌
one_encoded v e = rw e

two_encoded : (a b v : ℕ) → Two a b v → encode v ≡ a ∷ b ∷ []
unfolding encode when◌then◌else◌
two_encoded a b v t = rw (lt-leb v 0x7F (omega arith), le-leb v 0x7FF t.to, t.lead, t.last)

three_encoded : (a b c v : ℕ) → Three a b c v → encode v ≡ a ∷ b ∷ c ∷ []
unfolding encode when◌then◌else◌
three_encoded a b c v t =
    rw (lt-leb v 0x7F (omega arith), lt-leb v 0x7FF t.from, le-leb v 0xFFFF t.to, t.lead, t.next, t.last)

four_encoded : (a b c d v : ℕ) → Four a b c d v → encode v ≡ a ∷ b ∷ c ∷ d ∷ []
unfolding encode when◌then◌else◌
four_encoded a b c d v t =
    rw (lt-leb v 0x7F (omega arith), lt-leb v 0x7FF (omega arith), lt-leb v 0xFFFF t.from, t.lead, t.next, t.third, t.last)

-- a byte that is not 0 stands in the text
taken : (n : ℕ) (s : List ℕ) → 0 < get_or s n 0 → take (suc n) s ≡ take n s ++ (get_or s n 0 ∷ [])
taken n s h =
    elim (dec_le (length s) n) [
      | yes k ↦ absurd (omega (arith, get_or-eq_default s 0 {n = n} k))
      | no k ↦ take-suc s n 0 (omega arith)
    ]

abbrev Read : List ℕ → Decoded → Type 0
Read s (Char v n) = Coded s v n
Read s Bad = Unit {0}
Read s End = Unit {0}

read : (s : List ℕ) → Read s (char_at s)
unfolding char_of
read [] = tt
read (a ∷ s) =
    let b = get_or s 0 0 in
    let c = get_or s 1 0 in
    let d = get_or s 2 0 in
    if_cases (Read (a ∷ s)) (utf8_1 a) _ _ (λ h. coded (a ∷ s) (a ∷ []) a refl (one_encoded a h) (omega (arith, of_gap, leb-true)))
    (λ _. if_cases (Read (a ∷ s)) (utf8_2 a b) _ _
    (λ h. let t = two_in a b _ refl h in coded (a ∷ s) (a ∷ b ∷ []) _ (rw (taken 0 s (omega arith))) (two_encoded a b _ t) (omega (arith, of_gap)))
    (λ _. if_cases (Read (a ∷ s)) (utf8_3 a b c) _ _
    (λ h. let t = three_in a b c _ refl h in coded (a ∷ s) (a ∷ b ∷ c ∷ []) _ (rw (taken 1 s (omega arith), taken 0 s (omega arith))) (three_encoded a b c _ t) t.sound)
    (λ _. if_cases (Read (a ∷ s)) (utf8_4 a b c d) _ _
    (λ h. let t = four_in a b c d _ refl h in coded (a ∷ s) (a ∷ b ∷ c ∷ d ∷ []) _ (rw (taken 2 s (omega arith), taken 1 s (omega arith), taken 0 s (omega arith))) (four_encoded a b c d _ t) (omega (arith, of_gap)))
    (λ _. tt))))

-- encoding what was decoded gives the bytes back
pub encode_decode : (s : List ℕ) (v n : ℕ) → char_at s ≡ Char v n → Coded s v n
encode_decode s v n e = subst (Read s) e (read s)

-- what `encode` answers holds the encoding
pub record Spelt (v : ℕ) (r : Encoded) : Type 0 where
  pub len_is : r.len ≡ width v
  pub bytes_are : take (width v) r.bytes ≡ encode v

pub spelt : (v : ℕ) → Spelt v (filled (encode v))
unfolding filled
spelt v = record {
  len_is = length_encode v;
  bytes_are = take-take (width v) 4 _ (width_small v).1 ∙ take_at (encode v) _ (width v) (length_encode v);
}

-- ---- texts
pub length_encodes : (vs : List ℕ) → length (encodes vs) ≡ size vs
unfolding encodes size
length_encodes [] = refl
length_encodes (v ∷ vs) = rw (length-append, length_encode, length_encodes vs)

pub encodes_append : (us vs : List ℕ) → encodes (us ++ vs) ≡ encodes us ++ encodes vs
unfolding encodes
encodes_append [] vs = refl
encodes_append (u ∷ us) vs = rw (encodes_append us vs, append_assoc)

pub size_append : (us vs : List ℕ) → size (us ++ vs) ≡ size us + size vs
unfolding size
size_append [] vs = omega arith
size_append (u ∷ us) vs = omega (arith, size_append us vs)

-- the characters of a text that starts with an encoded scalar value
chars_encode : (v : ℕ) (s : List ℕ) → scalar v ≡ true → chars (encode v ++ s) ≡ Char v (width v) ∷ chars s
chars_encode v s h =
    walk_char (encode v ++ s) v (width v) (decode_encode v s h) (width_small v).0
    ∙ rw (drop_at (encode v) s (width v) (length_encode v))

pub scalars_after : (vs s : List ℕ) → All (λ v. scalar v ≡ true) vs → scalars (encodes vs ++ s) ≡ vs ++ scalars s
unfolding encodes values
scalars_after [] s h = refl
scalars_after (v ∷ vs) s h = rw (append_assoc, chars_encode v (encodes vs ++ s) h.0) (ap (λ (r : List ℕ). v ∷ r) (scalars_after vs s h.1))

pub valid_after : (vs s : List ℕ) → All (λ v. scalar v ≡ true) vs → valid_prefix (encodes vs ++ s) ≡ length (encodes vs) + valid_prefix s
unfolding encodes wholes
valid_after [] s h = omega arith
valid_after (v ∷ vs) s h =
    rw (append_assoc, chars_encode v (encodes vs ++ s) h.0, length-append, length_encode) (omega (arith, valid_after vs s h.1))

pub scalars_encodes : (vs : List ℕ) → All (λ v. scalar v ≡ true) vs → scalars (encodes vs) ≡ vs
unfolding walk values
scalars_encodes vs h = simp append-nil at (scalars_after vs [] h)

pub valid_encodes : (vs : List ℕ) → All (λ v. scalar v ≡ true) vs → valid_prefix (encodes vs) ≡ length (encodes vs)
unfolding walk wholes
valid_encodes vs h = omega (arith, rw append-nil at (valid_after vs [] h))

-- ---- the valid prefix: the bytes of the characters cs that stand first in s
record Prefix (s : List ℕ) (cs : List Decoded) : Type 0 where
  inside : wholes cs ≤ length s
  bytes : encodes (values cs) ≡ take (wholes cs) s
  sound : All (λ v. scalar v ≡ true) (values cs)

prefix_more : (s : List ℕ) (v n : ℕ) → Coded s v n → (cs : List Decoded) → Prefix (drop n s) cs → n ≤ length s → Prefix s (Char v n ∷ cs)
unfolding wholes values encodes
prefix_more s v n c cs p l =
    record {
      inside = omega (arith, p.inside, length-drop n s);
      bytes = rw (take-add n (wholes cs) s, c.bytes, p.bytes);
      sound = (c.is_scalar, p.sound);
    }

prefix_none : (s : List ℕ) (cs : List Decoded) → values cs ≡ [] → wholes cs ≡ 0 → Prefix s cs
unfolding encodes
prefix_none s cs e f = record { inside = omega arith; bytes = rw (e, f); sound = rw e tt }

prefix : (s : List ℕ) → Prefix s (chars s)
unfolding wholes values
prefix = by_size length (λ s. Prefix s (chars s)) (λ s smaller. on s smaller (char_at s) refl)
  where
    on : (s : List ℕ) → ((t : List ℕ) → length t < length s → Prefix t (chars t)) → (d : Decoded) → char_at s ≡ d → Prefix s (chars s)
    on s smaller (Char v n) e =
        let c = encode_decode s v n e in
        let w = width_small v in
        let l : n ≤ length s = omega (arith, ap length c.bytes, length-take n s, length_encode v, c.wide) in
        rw (walk_char s v n e (omega (arith, c.wide)))
        (prefix_more s v n c _ (smaller (drop n s) (omega (arith, length-drop n s, c.wide))) l)
    on s smaller Bad e = prefix_none s _ (rw (walk_bad s e)) (rw (walk_bad s e))
    on s smaller End e = prefix_none s _ (rw (walk_end s e)) (rw (walk_end s e))

pub valid_within : (s : List ℕ) → valid_prefix s ≤ length s
valid_within s = (prefix s).inside

pub all_scalar : (s : List ℕ) → All (λ v. scalar v ≡ true) (scalars s)
all_scalar s = (prefix s).sound

-- the scalar values of a text, encoded, are its valid prefix
pub encodes_prefix : (s : List ℕ) → encodes (scalars s) ≡ take (valid_prefix s) s
encodes_prefix s = (prefix s).bytes

pub encodes_scalars : (s : List ℕ) → valid_prefix s ≡ length s → encodes (scalars s) ≡ s
encodes_scalars s e = encodes_prefix s ∙ take_all (valid_prefix s) s (omega arith)

-- the valid prefix is valid
pub prefix_valid : (s : List ℕ) → valid_prefix (take (valid_prefix s) s) ≡ valid_prefix s
prefix_valid s =
    rw (← (encodes_prefix s), valid_encodes (scalars s) (all_scalar s), encodes_prefix s)
    (length-take-le (valid_prefix s) s (valid_within s))

-- and no valid prefix is longer
pub prefix_longest : (s : List ℕ) (k : ℕ) → k ≤ length s → valid_prefix (take k s) ≡ k → k ≤ valid_prefix s
prefix_longest s k h e =
    let l = length-take-le k s h in
    let same = encodes_scalars (take k s) (e ∙ sym l) in
    omega (arith, rw (same, take-append-drop k s, l) at (valid_after (scalars (take k s)) (drop k s) (all_scalar (take k s))))
