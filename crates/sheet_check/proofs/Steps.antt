-- What the loops of the check need of the tests: a test of what is left is a test of the next thing and of what is left then. Assumes nothing.
use Prim.Native.Nat.{ℕ, zero, suc, ◌+◌, ◌-◌, ◌≤◌, ◌<◌}
use native.Mathlib.Omega.{arith}
use mathlib.Core.Path.{◌≡◌, refl, sym, ap, ◌∙◌}
use mathlib.Core.Logic.{◌⊎◌, inl, inr}
use mathlib.Core.Bool.{Bool, true, false, false≢true, and-eq-true_iff, not, ◌&&◌, and_assoc, and-true, and-false}
use mathlib.Core.List.{List, [], ◌∷◌, ◌++◌}
use borrow.Author.Tests.{eq-eqb, eqb-true, ne_eqb, eqb-false, not-true, not-false}
use lib.Dec.{eqb, leb, eqb-zero-suc, eqb-suc-zero}
use lib.ListN.{length, take, drop, get_or, length-take, length-drop, replicate}
use lib.Seq.{drop-drop}
use Rattle.std.specs.Prelude.{IsTrue, All, ◌↔◌}
use Rattle.laws.proofs.Facts.{untrue}
use Rattle.laws.specs.If.{when◌then◌else◌}
use Rattle.laws.specs.Put.{drop_step, drop_none}
use Rattle.utf8.specs.declared.Decoded.{Decoded}
use Rattle.utf8.specs.declared.Decoded.TheVariants.{Char, Bad, End}
use Rattle.utf8.specs.Utf8.{encode, decode_at, walk, wholes, values, scalars, valid_prefix, width}
use Rattle.utf8.proofs.Codec.{one_decoded, encode_decode, width_small, length_encode}
use Rattle.utf8.proofs.Laws.{decode_in, chars_char, chars_bad, chars_end}
use Rattle.types.specs.TypeOf.{type_of}
use Rattle.sentence.specs.Sentence.{types, starts, numbers}
use Rattle.sheet_check.specs.Passes.{same, zeros, no_nul, is_plain, is_char, CharFits, is_text, Places, are_marks}

-- ---- a test of the whole that is one of what is left
pub record Left (whole rest : Bool) : Type 0 where
  pub is : whole ≡ rest

-- tests that are gathered, and what is left
pub left_and : (w o x a y : Bool) → Left w (o && x) → x ≡ (a && y) → Left w ((o && a) && y)
left_and w o x a y l e = record { is = l.is ∙ rw (e, and_assoc) }

pub left_all : (w o x : Bool) → Left w (o && x) → x ≡ true → o ≡ w
left_all w o x l e = sym (l.is ∙ rw (e, and-true))

-- ---- lists
zeros_take : (m : ℕ) (d : List ℕ) (i : ℕ) → i < length d → zeros (take (suc m) (drop i d)) ≡ (eqb (get_or d i 0) 0 && zeros (take m (drop (i + 1) d)))
unfolding zeros
zeros_take m d i h = rw (drop_step i d h)

-- nothing but 0, as a test and as a fact of each
zeros_each : (d : List ℕ) → zeros d ≡ true → All (λ x. x ≡ 0) d
unfolding zeros
zeros_each [] e k d l = absurd (omega arith)
zeros_each (x ∷ xs) e zero d l = eqb-true x 0 ((and-eq-true_iff (eqb x 0) (zeros xs)).0 e).0
zeros_each (x ∷ xs) e (suc k) d l = zeros_each xs ((and-eq-true_iff (eqb x 0) (zeros xs)).0 e).1 k d (omega arith)

each_zero : (d : List ℕ) → All (λ x. x ≡ 0) d → zeros d ≡ true
unfolding zeros
each_zero [] a = refl
each_zero (x ∷ xs) a = rw (eq-eqb x 0 (a 0 0 (omega arith))) (each_zero xs (λ k d l. a (suc k) d (omega arith)))

told_zeros : (d : List ℕ) (r : Bool) → (IsTrue r ↔ All (λ x. x ≡ 0) d) → r ≡ zeros d
told_zeros d true h = sym (each_zero d (h.0 refl))
told_zeros d false h = sym (untrue (zeros d) (λ e. false≢true (h.1 (zeros_each d e))))

pub marks_step : (d : List ℕ) (i : ℕ) → i < length d → are_marks (drop i d) ≡ (leb (get_or d i 0) 2 && are_marks (drop (i + 1) d))
unfolding are_marks
marks_step d i h = rw (drop_step i d h)

pub marks_done : (d : List ℕ) (i : ℕ) → length d ≤ i → are_marks (drop i d) ≡ true
unfolding are_marks
marks_done d i h = rw (drop_none i d h)

-- ---- characters
and_swap : (a b c : Bool) → (a && (b && c)) ≡ (b && (a && c))
and_swap true b c = refl
and_swap false true c = refl
and_swap false false c = refl

-- two tests of equality that are true together
eqb_iff : (a b c d : ℕ) → (a ≡ b → c ≡ d) → (c ≡ d → a ≡ b) → eqb a b ≡ eqb c d
eqb_iff a b c d f g = on (eqb c d) refl
  where
    on : (t : Bool) → eqb c d ≡ t → eqb a b ≡ eqb c d
    on true e = eq-eqb a b (g (eqb-true c d e)) ∙ sym e
    on false e = ne_eqb a b (λ z. eqb-false c d e (f z)) ∙ sym e

eqb_add : (n a b : ℕ) → eqb (n + a) (n + b) ≡ eqb a b
eqb_add n a b = eqb_iff (n + a) (n + b) a b (λ z. omega arith) (λ z. omega arith)

-- how far a character reaches
pub record Reach (s : List ℕ) (at v n : ℕ) : Type 0 where
  pub some : 1 ≤ n
  pub within : at + n ≤ length s
  pub wide : n ≡ width v

pub reach : (s : List ℕ) (at v n : ℕ) (d : Decoded) → d ≡ decode_at s at → d ≡ Char v n → Reach s at v n
unfolding decode_at
reach s at v n d p q =
    let c = encode_decode (drop at s) v n (sym p ∙ q) in
    let w = width_small v in
    let l : n ≤ length (drop at s) = omega (arith, ap length c.bytes, length-take n (drop at s), length_encode v, c.wide) in
    record { some = omega (arith, c.wide); within = omega (arith, c.wide, length-drop at s); wide = c.wide }

module _ (s : List ℕ) (at : ℕ) where
  plain_char : (v n : ℕ) (d : Decoded) → d ≡ decode_at s at → d ≡ Char v n → is_plain (drop at s) ≡ (not (eqb v 0) && is_plain (drop (at + n) s))
  unfolding is_plain no_nul wholes values
  plain_char v n d p q =
      let r = reach s at v n d p q in
      let l : length (drop at s) ≡ n + length (drop (at + n) s) = omega (arith, length-drop at s, length-drop (at + n) s, r.within) in
      rw (chars_char s at v n (sym p ∙ q), l, eqb_add)
      (and_swap (eqb (valid_prefix (drop (at + n) s)) (length (drop (at + n) s))) (not (eqb v 0)) (no_nul (scalars (drop (at + n) s))))

  -- a byte 0 is NUL, and NUL a byte 0
  plain_nul : at < length s → get_or s at 0 ≡ 0 → is_plain (drop at s) ≡ false
  plain_nul h e =
      let q : decode_at s at ≡ Char 0 1 = decode_in s at h ∙ rw e (one_decoded 0 _ _ _ refl) in
      plain_char 0 1 (decode_at s at) refl q

  nul_byte : (v n : ℕ) → at < length s → decode_at s at ≡ Char v n → v ≡ 0 → get_or s at 0 ≡ 0
  unfolding decode_at encode width when◌then◌else◌
  nul_byte v n h q z =
      let c = encode_decode (drop at s) v n q in
      let w : n ≡ 1 = c.wide ∙ rw z in
      let b : take 1 (drop at s) ≡ 0 ∷ [] = rw (w, z) at c.bytes in
      let l : get_or s at 0 ∷ [] ≡ 0 ∷ [] = rw (drop_step at s h) at b in
      cc

  -- bytes that start with no character
  not_plain : at < length s → valid_prefix (drop at s) ≡ 0 → is_plain (drop at s) ≡ false
  unfolding is_plain
  not_plain h e = rw (ne_eqb (valid_prefix (drop at s)) (length (drop at s)) (omega (arith, length-drop at s)))

  plain_stop : (d : Decoded) → at < length s → d ≡ decode_at s at → (d ≡ Bad) ⊎ (d ≡ End) → is_plain (drop at s) ≡ false
  unfolding wholes
  plain_stop d h p (inl q) = not_plain h (rw (chars_bad s at (sym p ∙ q)))
  plain_stop d h p (inr q) = not_plain h (rw (chars_end s at (sym p ∙ q)))

  plain_none : length s ≤ at → is_plain (drop at s) ≡ true
  unfolding is_plain walk wholes values no_nul
  plain_none h = rw (drop_none at s h)

-- a text of which `at` bytes are passed
pub record Plainly (s : List ℕ) (at : ℕ) : Type 0 where
  pub is : is_plain s ≡ is_plain (drop at s)

module _ (s : List ℕ) (at : ℕ) (h : Plainly s at) where
  pub plainly_go : (v n : ℕ) (d : Decoded) → at < length s → (get_or s at 0 ≡ 0 → ⊥) → d ≡ decode_at s at → d ≡ Char v n → Plainly s (at + n)
  plainly_go v n d l o p q = record { is = h.is ∙ plain_char s at v n d p q ∙ rw (ne_eqb v 0 (λ z. o (nul_byte s at v n l (sym p ∙ q) z))) }

  pub plainly_nul : at < length s → get_or s at 0 ≡ 0 → false ≡ is_plain s
  plainly_nul l o = sym (h.is ∙ plain_nul s at l o)

  pub plainly_stop : (d : Decoded) → at < length s → d ≡ decode_at s at → (d ≡ Bad) ⊎ (d ≡ End) → false ≡ is_plain s
  plainly_stop d l p q = sym (h.is ∙ plain_stop s at d l p q)

  pub plainly_done : length s ≤ at → true ≡ is_plain s
  plainly_done l = sym (h.is ∙ plain_none s at l)

-- ---- a character, test by test; the premises are as `is_char` has them
module _ (v t i at n : ℕ) (ys ps qs : List ℕ) where
  pub char_nul : v ≡ 0 → false ≡ is_char v t i at n ys ps qs
  unfolding is_char
  char_nul a = rw (eq-eqb v 0 a)

  module _ (a : v ≡ 0 → ⊥) where
    pub char_type : (t ≡ get_or ys i 0 → ⊥) → false ≡ is_char v t i at n ys ps qs
    unfolding is_char
    char_type b = rw (ne_eqb v 0 a, ne_eqb t (get_or ys i 0) b)

    module _ (b : t ≡ get_or ys i 0) where
      pub char_start : (at ≡ get_or ps i 0 → ⊥) → false ≡ is_char v t i at n ys ps qs
      unfolding is_char
      char_start c = rw (ne_eqb v 0 a, eq-eqb t (get_or ys i 0) b, ne_eqb at (get_or ps i 0) c)

      module _ (c : at ≡ get_or ps i 0) where
        pub char_number : (i ≡ get_or qs at 0 → ⊥) → false ≡ is_char v t i at n ys ps qs
        unfolding is_char
        char_number d = rw (ne_eqb v 0 a, eq-eqb t (get_or ys i 0) b, eq-eqb at (get_or ps i 0) c, ne_eqb i (get_or qs at 0) d)

        pub char_inner : (r : Bool) → i ≡ get_or qs at 0 → (IsTrue r ↔ All (λ x. x ≡ 0) (take (at + n - (at + 1)) (drop (at + 1) qs)))
            → r ≡ is_char v t i at n ys ps qs
        unfolding is_char
        char_inner r d e = rw (ne_eqb v 0 a, eq-eqb t (get_or ys i 0) b, eq-eqb at (get_or ps i 0) c, eq-eqb i (get_or qs at 0) d) (told_zeros _ r e)

-- ---- the text with its types and positions
same_zeros : (k : ℕ) (xs ys : List ℕ) → k ≤ length ys → same (replicate k 0 ++ xs) ys ≡ (zeros (take k ys) && same xs (drop k ys))
unfolding same zeros
same_zeros zero xs ys h = refl
same_zeros (suc k) xs [] h = absurd (omega arith)
same_zeros (suc k) xs (zero ∷ ys) h = same_zeros k xs ys (omega arith)
same_zeros (suc k) xs (suc y ∷ ys) h = rw (eqb-zero-suc y, eqb-suc-zero y)

same_next : (x : ℕ) (xs l : List ℕ) (i : ℕ) → i < length l → same (x ∷ xs) (drop i l) ≡ (eqb x (get_or l i 0) && same xs (drop (i + 1) l))
unfolding same
same_next x xs l i h = rw (drop_step i l h)

same_end : (l : List ℕ) (i : ℕ) → i ≤ length l → same [] (drop i l) ≡ eqb i (length l)
unfolding same
same_end l i h = on (eqb i (length l)) refl
  where
    on : (t : Bool) → eqb i (length l) ≡ t → same [] (drop i l) ≡ eqb i (length l)
    on true e = rw (drop_none i l (omega (arith, eqb-true i (length l) e))) (sym e)
    on false e = let o = eqb-false i (length l) e in rw (drop_step i l (omega arith)) (sym e)

same_last : (x : ℕ) (l : List ℕ) (i : ℕ) → i + 1 ≡ length l → same (x ∷ []) (drop i l) ≡ eqb x (get_or l i 0)
unfolding same
same_last x l i h = same_next x [] l i (omega arith) ∙ rw (drop_none (i + 1) l (omega arith), and-true)

-- what is left from character i on, which starts at byte `at`
text_from : List ℕ → List ℕ → List ℕ → List ℕ → ℕ → ℕ → Bool
text_from s ys ps qs at i =
    is_plain (drop at s)
    && same (types (scalars (drop at s))) (drop i ys)
    && same (starts at (scalars (drop at s))) (drop i ps)
    && same (numbers i (scalars (drop at s))) (drop at qs)

pub record Reading (s ys ps qs : List ℕ) (at i : ℕ) : Type 0 where
  is : is_text s ys ps qs ≡ text_from s ys ps qs at i
  pub inside : at ≤ length s
  pub counted : i ≤ length ys

pub read_start : (s ys ps qs : List ℕ) → Reading s ys ps qs 0 0
unfolding is_text text_from
read_start s ys ps qs = record { is = refl; inside = omega arith; counted = omega arith }

scalars_char : (s : List ℕ) (at v n : ℕ) (d : Decoded) → d ≡ decode_at s at → d ≡ Char v n → scalars (drop at s) ≡ v ∷ scalars (drop (at + n) s)
unfolding values
scalars_char s at v n d p q = rw (chars_char s at v n (sym p ∙ q))

module _ (s ys ps qs : List ℕ) (at i : ℕ) (f : Places s ys ps qs) (h : Reading s ys ps qs at i) where
  module _ (v n : ℕ) (d : Decoded) (p : d ≡ decode_at s at) (q : d ≡ Char v n) where
    pub read_few : length ys ≤ i → false ≡ is_text s ys ps qs
    unfolding text_from same
    read_few l = sym (h.is ∙ rw (scalars_char s at v n d p q, drop_none i ys l, and-false))

    pub read_fits : i < length ys → CharFits i at n ys ps qs
    read_fits l =
        let r = reach s at v n d p q in
        record { some = r.some; few = omega (arith, r.wide, width_small v); types_fit = l; starts_fit = omega (arith, f.starts_long); numbers_fit = omega (arith, f.numbers_long, r.within) }

    read_char : i < length ys → is_text s ys ps qs ≡ (is_char v (type_of v) i at n ys ps qs && text_from s ys ps qs (at + n) (i + 1))
    unfolding text_from starts numbers is_char
    read_char l =
        let r = reach s at v n d p q in
        let k : at + n - (at + 1) ≡ n - 1 = omega (arith, r.some) in
        let m : at + 1 + (n - 1) ≡ at + n = omega (arith, r.some) in
        h.is ∙ rw (
          plain_char s at v n d p q,
          scalars_char s at v n d p q,
          k,
          same_next (type_of v) _ ys i l,
          same_next at _ ps i (omega (arith, f.starts_long)),
          same_next i _ qs at (omega (arith, f.numbers_long, r.within)),
          ← r.wide,
          same_zeros (n - 1) _ (drop (at + 1) qs) (omega (arith, length-drop (at + 1) qs, f.numbers_long, r.within)),
          drop-drop,
          m,
        ) (simp (and_assoc, and_swap))

    module _ (t : ℕ) (ok : Bool) (l : i < length ys) (e : t ≡ type_of v) (o : ok ≡ is_char v t i at n ys ps qs) where
      tested : is_text s ys ps qs ≡ (ok && text_from s ys ps qs (at + n) (i + 1))
      tested = read_char l ∙ rw (o, e)

      pub read_no : not ok ≡ true → false ≡ is_text s ys ps qs
      read_no u = sym (tested ∙ rw (not-true ok u))

      pub read_go : not ok ≡ false → Reading s ys ps qs (at + n) (i + 1)
      read_go u = record { is = tested ∙ rw (not-false ok u); inside = (reach s at v n d p q).within; counted = omega arith }

  pub read_stop : (d : Decoded) → at < length s → d ≡ decode_at s at → (d ≡ Bad) ⊎ (d ≡ End) → false ≡ is_text s ys ps qs
  unfolding text_from
  read_stop d l p q = sym (h.is ∙ rw (plain_stop s at d l p q))

  last : (t : Bool) → eqb i (length ys) ≡ t → length s ≤ at → (t && same (at ∷ []) (drop i ps) && same (i ∷ []) (drop at qs)) ≡ (t && eqb at (get_or ps i 0) && eqb i (get_or qs at 0))
  last true e l =
      let m = eqb-true i (length ys) e in
      rw (same_last at ps i (omega (arith, f.starts_long)), same_last i qs at (omega (arith, f.numbers_long, h.inside)))
  last false e l = refl

  pub read_done : length s ≤ at → (eqb i (length ys) && eqb at (get_or ps i 0) && eqb i (get_or qs at 0)) ≡ is_text s ys ps qs
  unfolding text_from starts numbers walk values
  read_done l = sym (h.is ∙ rw (plain_none s at l, drop_none at s l, same_end ys i h.counted) (last (eqb i (length ys)) refl l))
