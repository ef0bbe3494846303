-- What the tests say of lists. Assumes nothing.
use Prim.Native.Nat.{ℕ, ◌+◌}
use native.Mathlib.Omega.{arith}
use mathlib.Core.Path.{◌≡◌, refl, sym, ap}
use mathlib.Core.Bool.{true, false, not, false≢true, and-eq-true_iff}
use mathlib.Core.List.{List, [], ◌∷◌}
use borrow.Author.Tests.{eq-eqb, eqb-true, not-true}
use lib.Dec.{eqb}
use lib.ListN.{length, length-append, length-map, length-replicate}
use Rattle.laws.proofs.Facts.{untrue}
use Rattle.laws.specs.All.{All, All-imp}
use Rattle.utf8.specs.Utf8.{scalars, valid_prefix, scalar, width, encodes, size}
use Rattle.utf8.proofs.Codec.{width_small, length_encodes, scalars_encodes, encodes_scalars, valid_encodes, all_scalar}
use Rattle.types.specs.TypeOf.{type_of}
use Rattle.sentence.specs.Sentence.{types, starts, numbers, char_positions, byte_positions, Char}
use Rattle.sheet_check.specs.Passes.{same, no_nul, is_plain, is_text, Places}

-- ---- lists of which a test says that they are the same
pub same_is : (xs ys : List ℕ) → same xs ys ≡ true → xs ≡ ys
unfolding same
same_is [] [] e = refl
same_is [] (y ∷ ys) e = absurd (false≢true e)
same_is (x ∷ xs) [] e = absurd (false≢true e)
same_is (x ∷ xs) (y ∷ ys) e =
    let k = (and-eq-true_iff (eqb x y) (same xs ys)).0 e in rw (eqb-true x y k.0, same_is xs ys k.1)

pub same_self : (xs : List ℕ) → same xs xs ≡ true
unfolding same
same_self [] = refl
same_self (x ∷ xs) = rw (eq-eqb x x refl) (same_self xs)

-- ---- bytes that are UTF-8 without NUL
pub record Plain (s : List ℕ) : Type 0 where
  pub bytes : encodes (scalars s) ≡ s
  pub chars : All Char (scalars s)

no_nul_lem : (cs : List ℕ) → All (λ c. scalar c ≡ true) cs → no_nul cs ≡ true → All Char cs
unfolding no_nul
no_nul_lem [] a e = tt
no_nul_lem (c ∷ cs) a e =
    let k = (and-eq-true_iff (not (eqb c 0)) (no_nul cs)).0 e in
    (record { is_scalar = a.0; not_nul = not-true (eqb c 0) k.0 }, no_nul_lem cs a.1 k.1)

nul_free : (cs : List ℕ) → All Char cs → no_nul cs ≡ true
unfolding no_nul
nul_free [] a = refl
nul_free (c ∷ cs) a = rw a.0.not_nul (nul_free cs a.1)

pub plain_is : (s : List ℕ) → is_plain s ≡ true → Plain s
unfolding is_plain
plain_is s e =
    let k = (and-eq-true_iff (eqb (valid_prefix s) (length s)) (no_nul (scalars s))).0 e in
    record { bytes = encodes_scalars s (eqb-true _ _ k.0); chars = no_nul_lem (scalars s) (all_scalar s) k.1 }

pub is_plain_lem : (cs : List ℕ) → All Char cs → is_plain (encodes cs) ≡ true
unfolding is_plain
is_plain_lem cs a =
    let h = All-imp Char _ (λ c p. p.is_scalar) cs a in
    rw (valid_encodes cs h, eq-eqb (length (encodes cs)) (length (encodes cs)) refl, scalars_encodes cs h) (nul_free cs a)

pub record TextIs (s ys ps qs cs : List ℕ) : Type 0 where
  pub bytes : encodes cs ≡ s
  pub chars : All Char cs
  pub types_are : types cs ≡ ys
  pub starts_are : char_positions cs ≡ ps
  pub numbers_are : byte_positions cs ≡ qs

pub text_is : (s ys ps qs : List ℕ) → is_text s ys ps qs ≡ true → TextIs s ys ps qs (scalars s)
unfolding is_text
text_is s ys ps qs e =
    let (((p, y), t), q) = simp and-eq-true_iff at e in
    let k = plain_is s p in
    record {
      bytes = k.bytes;
      chars = k.chars;
      types_are = same_is _ _ y;
      starts_are = same_is _ _ t;
      numbers_are = same_is _ _ q;
    }

-- ---- how many positions there are
pub length_starts : (at : ℕ) (cs : List ℕ) → length (starts at cs) ≡ length cs + 1
unfolding starts
length_starts at [] = refl
length_starts at (c ∷ cs) = omega (arith, length_starts (at + width c) cs)

pub length_numbers : (k : ℕ) (cs : List ℕ) → length (numbers k cs) ≡ size cs + 1
unfolding numbers size
length_numbers k [] = refl
length_numbers k (c ∷ cs) = rw (length-append, length-replicate) (omega (arith, width_small c, length_numbers (k + 1) cs))

-- the text is told by its tests to have one position more than types, and than bytes
pub text_placed : (s ys ps qs : List ℕ) → is_text s ys ps qs ≡ true → Places s ys ps qs
text_placed s ys ps qs e =
    let t = text_is s ys ps qs e in
    let cs = scalars s in
    record {
      starts_long = omega (arith, length_starts 0 cs, ap length t.starts_are, length-map cs type_of, ap length t.types_are);
      numbers_long = omega (arith, length_numbers 0 cs, ap length t.numbers_are, length_encodes cs, ap length t.bytes);
    }

pub few_starts : (s ys ps qs : List ℕ) → (length ps ≡ length ys + 1 → ⊥) → false ≡ is_text s ys ps qs
few_starts s ys ps qs h = sym (untrue (is_text s ys ps qs) (λ e. h (text_placed s ys ps qs e).starts_long))

pub few_numbers : (s ys ps qs : List ℕ) → (length qs ≡ length s + 1 → ⊥) → false ≡ is_text s ys ps qs
few_numbers s ys ps qs h = sym (untrue (is_text s ys ps qs) (λ e. h (text_placed s ys ps qs e).numbers_long))
