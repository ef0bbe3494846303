-- What the loops over `decode` need of the specification. Assumes nothing.
use Prim.Native.Nat.{ℕ, suc, ◌+◌, ◌*◌, ◌%◌, ◌≤◌, ◌<◌}
use native.Mathlib.Omega.{arith}
use native.Mathlib.Decide.{dec_le}
use mathlib.Core.Path.{◌≡◌, sym, ap, ◌∙◌}
use mathlib.Core.Logic.{◌⊎◌, inl, inr}
use mathlib.Core.Bool.{Bool, true, ◌&&◌, and-eq-true_iff}
use mathlib.Core.List.{List, [], ◌∷◌}
use borrow.Author.Tests.{le-leb, ltb-true}
use lib.Dec.{ltb}
use lib.ListN.{length, get_or, drop, length-take, length-drop, drop_of_length-le}
use lib.Seq.{drop-cons, get_or-drop, drop-drop}
use Rattle.laws.specs.If.{if_both}
use Rattle.laws.proofs.Facts.{reads, or_is}
use Rattle.utf8.specs.declared.Decoded.{Decoded}
use Rattle.utf8.specs.declared.Decoded.TheVariants.{Char, Bad, End}
use Rattle.utf8.specs.Utf8.{within, tail, utf8_3, char_of, char_at, decode_at, chars, wholes, valid_prefix, values, scalars, width}
use Rattle.utf8.proofs.Codec.{one_decoded, three_told, encode_decode, width_small, length_encode}
use Rattle.utf8.proofs.Walk.{walk_char, walk_bad, walk_end}

-- ---- what stands at a place, by its bytes
nth : (s : List ℕ) (at k n : ℕ) → suc at + k ≡ n → get_or (drop (suc at) s) k 0 ≡ get_or s n 0
nth s at k n e = get_or-drop (suc at) s k 0 ∙ ap (λ (i : ℕ). get_or s i 0) e

pub decode_in : (s : List ℕ) (at : ℕ) → at < length s → decode_at s at ≡ char_of (get_or s at 0) (get_or s (at + 1) 0) (get_or s (at + 2) 0) (get_or s (at + 3) 0)
unfolding decode_at
decode_in s at h = rw (drop-cons s at 0 h, nth s at 0 (at + 1) (omega arith), nth s at 1 (at + 2) (omega arith), nth s at 2 (at + 3) (omega arith))

pub decode_out : (s : List ℕ) (at : ℕ) → length s ≤ at → decode_at s at ≡ End
unfolding decode_at
decode_out s at h = ap char_at (drop_of_length-le s h)

-- ---- the commonest characters, by the tests that tell them
pub ascii_at : (s : List ℕ) (at : ℕ) → at < length s → get_or s at 0 ≤ 0x7F → Char (get_or s at 0) 1 ≡ decode_at s at
ascii_at s at h l = sym (decode_in s at h ∙ one_decoded _ _ _ _ (le-leb _ _ l))

-- a byte that was tested
bounds : (lo hi b : ℕ) (r : Bool) → r ≡ within lo hi b → r ≡ true → (lo ≤ b) × (b ≤ hi)
bounds lo hi b r e h = simp reads at (sym e ∙ h)

-- a lead byte of three, and the last of them inside
pub record Ahead (a last n : ℕ) : Type 0 where
  pub lead : (0xE1 ≤ a) × (a ≤ 0xEC)
  pub inside : last < n

pub ahead : (r : Bool) (a last n : ℕ) → r ≡ within 0xE1 0xEC a → (r && ltb last n) ≡ true → Ahead a last n
ahead r a last n e h = let k = (and-eq-true_iff r (ltb last n)).0 h in record { lead = bounds _ _ a r e k.0; inside = ltb-true _ _ k.1 }

-- two bytes that go on with a character
pub record Tails (b c : ℕ) : Type 0 where
  pub next : (0x80 ≤ b) × (b ≤ 0xBF)
  pub last : (0x80 ≤ c) × (c ≤ 0xBF)

pub tails : (p q : Bool) (b c : ℕ) → p ≡ tail b → q ≡ tail c → (p && q) ≡ true → Tails b c
tails p q b c d e h = let k = (and-eq-true_iff p q).0 h in record { next = bounds _ _ b p d k.0; last = bounds _ _ c q e k.1 }

three_by : (a b c last n : ℕ) → Ahead a last n → Tails b c → utf8_3 a b c ≡ true
unfolding utf8_3
three_by a b c last n h t = simp or_is (inl (simp or_is (inl (simp or_is (inr (simp reads (omega arith)))))))

pub three_at : (s : List ℕ) (at : ℕ) → Ahead (get_or s at 0) (at + 2) (length s) → Tails (get_or s (at + 1) 0) (get_or s (at + 2) 0)
    → Char ((get_or s at 0 % 16 * 64 + get_or s (at + 1) 0 % 64) * 64 + get_or s (at + 2) 0 % 64) 3 ≡ decode_at s at
three_at s at h t = sym (decode_in s at (omega (arith, h.inside)) ∙ three_told _ _ _ _ (three_by _ _ _ _ _ h t))

-- where a place stands, by what is found there
char_some : (a b c d : ℕ) → char_of a b c d ≡ End → ⊥
unfolding char_of
char_some a b c d =
    if_both Some _ _ _ never
    (if_both Some _ _ _ never
    (if_both Some _ _ _ never
    (if_both Some _ _ _ never
    (λ e. let z : ◌≡◌ {A = ℕ} 0 1 = cc in omega arith))))
  where
    Some : Decoded → Type 0
    Some r = r ≡ End → ⊥

    never : {v n : ℕ} → Char v n ≡ End → ⊥
    never e = let z : ◌≡◌ {A = ℕ} 0 1 = cc in omega arith

pub end_past : (s : List ℕ) (at : ℕ) → decode_at s at ≡ End → length s ≤ at
end_past s at e = elim (dec_le (length s) at) [ yes h ↦ h | no h ↦ absurd (char_some _ _ _ _ (sym (decode_in s at (omega arith)) ∙ e)) ]

pub bad_inside : (s : List ℕ) (at : ℕ) → decode_at s at ≡ Bad → at < length s
bad_inside s at e = elim (dec_le (length s) at) [ yes h ↦ (let k = decode_out s at h in let z : ◌≡◌ {A = ℕ} 0 1 = cc in absurd (omega arith)) | no h ↦ omega arith ]

-- ---- a character's length
pub len_ok : (s : List ℕ) (at v n : ℕ) → decode_at s at ≡ Char v n → (1 ≤ n) × (n ≤ 4)
unfolding decode_at
len_ok s at v n e = omega (arith, (encode_decode (drop at s) v n e).wide, width_small v)

-- the same, with the premises as a caller of `decode` has them
pub record Sized (n : ℕ) : Type 0 where
  pub some : 1 ≤ n
  pub few : n ≤ 4

pub len_met : (s : List ℕ) (at v n : ℕ) (d : Decoded) → d ≡ decode_at s at → d ≡ Char v n → Sized n
len_met s at v n d p q = let h = len_ok s at v n (sym p ∙ q) in record { some = h.0; few = h.1 }

-- ---- the characters of a text, one at a time
pub chars_char : (s : List ℕ) (at v n : ℕ) → decode_at s at ≡ Char v n → chars (drop at s) ≡ Char v n ∷ chars (drop (at + n) s)
unfolding decode_at
chars_char s at v n e = walk_char (drop at s) v n e (len_ok s at v n e).0 ∙ rw drop-drop

pub left_char : (s : List ℕ) (at v n : ℕ) → decode_at s at ≡ Char v n → scalars (drop at s) ≡ v ∷ scalars (drop (at + n) s)
unfolding values
left_char s at v n e = ap values (chars_char s at v n e)

-- its value and its bytes
pub width_at : (s : List ℕ) (at v n : ℕ) → decode_at s at ≡ Char v n → n ≡ width v
unfolding decode_at
width_at s at v n e = (encode_decode (drop at s) v n e).wide

-- it ends within the text
pub char_within : (s : List ℕ) (at v n : ℕ) → at ≤ length s → decode_at s at ≡ Char v n → at + n ≤ length s
unfolding decode_at
char_within s at v n l e =
    let c = encode_decode (drop at s) v n e in
    omega (arith, ap length c.bytes, length-take n (drop at s), length-drop at s, length_encode v, c.wide)

pub chars_bad : (s : List ℕ) (at : ℕ) → decode_at s at ≡ Bad → chars (drop at s) ≡ Bad ∷ []
unfolding decode_at
chars_bad s at e = walk_bad (drop at s) e

pub chars_end : (s : List ℕ) (at : ℕ) → decode_at s at ≡ End → chars (drop at s) ≡ []
unfolding decode_at
chars_end s at e = walk_end (drop at s) e

-- ---- `at` bytes are passed, and with what is whole after them it is the whole prefix
pub record Passed (s : List ℕ) (at : ℕ) : Type 0 where
  pub same : at + wholes (chars (drop at s)) ≡ valid_prefix s

pub passed_char : (s : List ℕ) (at v n : ℕ) (d : Decoded) → d ≡ decode_at s at → d ≡ Char v n → Passed s at → Passed s (at + n)
unfolding wholes
passed_char s at v n d p q h = record { same = omega (arith, rw (chars_char s at v n (sym p ∙ q)) at h.same) }

pub passed_bad : (s : List ℕ) (at : ℕ) (d : Decoded) → d ≡ decode_at s at → d ≡ Bad → Passed s at → at ≡ valid_prefix s
unfolding wholes
passed_bad s at d p q h = omega (arith, rw (chars_bad s at (sym p ∙ q)) at h.same)

pub passed_end : (s : List ℕ) (at : ℕ) → decode_at s at ≡ End → Passed s at → at ≡ valid_prefix s
unfolding wholes
passed_end s at e h = omega (arith, rw (chars_end s at e) at h.same)

pub passed_stop : (s : List ℕ) (at : ℕ) (d : Decoded) → d ≡ decode_at s at → (d ≡ Bad) ⊎ (d ≡ End) → Passed s at → at ≡ valid_prefix s
passed_stop s at d p (inl q) h = passed_bad s at d p q h
passed_stop s at d p (inr q) h = passed_end s at (sym p ∙ q) h
