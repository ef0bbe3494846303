-- Right tables hold the type of every code point below 65536, and no other tables are right.
use mathlib.Core.Path.{◌≡◌, ◌∙◌, refl, sym, ap}
use mathlib.Core.Bool.{Bool, true, false, ◌&&◌, ◌||◌, and-false}
use mathlib.Core.List.{List, [], ◌∷◌}
use Prim.Native.Nat.{ℕ, zero, suc, ◌+◌, ◌-◌, ◌*◌, ◌/◌, ◌%◌, ◌≤◌, ◌<◌}
use native.Mathlib.Nat.{add-zero, zero-add, add-suc, suc-add, le_of_suc-le-suc, not-suc-le-zero}
use native.Mathlib.Omega.{arith}
use lib.Dec.{T, leb, ltb, eqb, eqb→eq, leb→le, ltb→lt}
use lib.ListN.{length, get_or}
use lib.Seq.{ext_get_or}
use borrow.Author.Tests.{le-leb, lt-leb, lt-ltb, le-ltb, ltb-true, ltb-false, eqb-true}
use Rattle.laws.specs.If.{when◌then◌else◌, if_true, if_false}
use Rattle.types.specs.declared.CharacterType.{CharacterType}
use Rattle.types.specs.declared.CharacterType.TheVariants.{Digit, Roman, Hiragana, Katakana, Kanji, Other}
use Rattle.types.specs.declared.ranges.Row.{Row}
use Rattle.types.specs.TypeOf.{code_of, find, ranges, type_of}
use Rattle.types.specs.Blocks.{mixed, place, uniform, block_is, entry, entry_is, every, tested, Right}

-- ---- tests that passed
both : (a b : Bool) → T (a && b) → T a × T b
both true b t = (tt, t)
both false b t = absurd t

either : {C : Type 0} (x a b : Bool) → T (when x then a else b) → (x ≡ true → T a → C) → (x ≡ false → T b → C) → C
unfolding when◌then◌else◌
either true a b t f g = f refl t
either false a b t f g = g refl t

-- a test of every entry, at one of them
from : (f : ℕ → ℕ → Bool) (xs : List ℕ) (i : ℕ) → T (every f i xs) → (k : ℕ) → k < length xs → T (f (i + k) (get_or xs k 0))
unfolding every
from f [] i t k h = absurd (not-suc-le-zero h)
from f (x ∷ xs) i t zero h = rw add-zero (both (f i x) (every f (suc i) xs) t).0
from f (x ∷ xs) i t (suc k) h =
    rw (add-suc, ← suc-add) (from f xs (suc i) (both (f i x) (every f (suc i) xs) t).1 k (le_of_suc-le-suc h))

at : (f : ℕ → ℕ → Bool) (xs : List ℕ) → T (every f 0 xs) → (k : ℕ) → k < length xs → T (f k (get_or xs k 0))
at f xs t k h = rw zero-add at (from f xs 0 t k h)

-- ---- a code point and the first range
module _ (r : Row) (rs : List Row) (c : ℕ) where
  below : c < r.0 → find (r ∷ rs) c ≡ find rs c
  unfolding find
  below h = if_false _ _ _ (rw (lt-leb r.0 c h))

  above : r.1 < c → find (r ∷ rs) c ≡ find rs c
  unfolding find
  above h = if_false _ _ _ (rw (lt-leb c r.1 h, and-false))

  within : r.0 ≤ c → c ≤ r.1 → find (r ∷ rs) c ≡ code_of r.2
  unfolding find
  within g h = if_true _ _ _ (rw (le-leb r.0 c g, le-leb c r.1 h))

  -- the range lies past or before a run that holds c
  beside : (lo hi : ℕ) → ltb hi r.0 || ltb r.1 lo ≡ true → lo ≤ c → c ≤ hi → find (r ∷ rs) c ≡ find rs c
  beside lo hi e g h = on (ltb hi r.0) refl
    where
      on : (b : Bool) → ltb hi r.0 ≡ b → find (r ∷ rs) c ≡ find rs c
      on true p = below (omega (arith, ltb-true))
      on false p = let q : ltb r.1 lo ≡ true = rw p at e in above (omega (arith, ltb-true))

-- the first range that holds a code point has a type, and Other is one too
coded : (t : CharacterType) → (1 ≤ code_of t) × (code_of t ≤ 6)
coded Digit = (omega arith, omega arith)
coded Roman = (omega arith, omega arith)
coded Hiragana = (omega arith, omega arith)
coded Katakana = (omega arith, omega arith)
coded Kanji = (omega arith, omega arith)
coded Other = (omega arith, omega arith)

found : (rs : List Row) (c : ℕ) → (1 ≤ find rs c) × (find rs c ≤ 6)
unfolding find when◌then◌else◌
found [] c = (omega arith, omega arith)
found (r ∷ rs) c = one_of (leb r.0 c && leb c r.1) (coded r.2) (found rs c)
  where
    one_of : (b : Bool) {x y : ℕ} → (1 ≤ x) × (x ≤ 6) → (1 ≤ y) × (y ≤ 6) → (1 ≤ (when b then x else y)) × ((when b then x else y) ≤ 6)
    one_of true p q = p
    one_of false p q = q

pub has_code : (c : ℕ) → (1 ≤ type_of c) × (type_of c ≤ 6)
unfolding type_of
has_code c = found ranges c

-- a run of one type
uniformly : (rs : List Row) (lo hi t c : ℕ) → T (uniform rs lo hi t) → lo ≤ c → c ≤ hi → find rs c ≡ t
unfolding find uniform
uniformly [] lo hi t c u g h = sym (eqb→eq t 6 u)
uniformly (r ∷ rs) lo hi t c u g h =
    either (ltb hi r.0 || ltb r.1 lo) _ _ u
    (λ e v. beside r rs c lo hi e g h ∙ uniformly rs lo hi t c v g h)
    (λ _ v.
    let w = both (leb r.0 lo && leb hi r.1) (eqb (code_of r.2) t) v in
    let ends = both (leb r.0 lo) (leb hi r.1) w.0 in
    let a : r.0 ≤ lo = leb→le _ _ ends.0 in
    let b : hi ≤ r.1 = leb→le _ _ ends.1 in
    within r rs c (omega arith) (omega arith) ∙ eqb→eq (code_of r.2) t w.1)

-- numbers that are no characters have type 6
pub surrogates : (c : ℕ) → 0xD800 ≤ c → c ≤ 0xDFFF → type_of c ≡ 6
unfolding type_of ranges uniform when◌then◌else◌
surrogates c g h = uniformly ranges 0xD800 0xDFFF 6 c tt g h

pub past_all : (c : ℕ) → 0x110000 ≤ c → c ≤ 0xFFFFFFFF → type_of c ≡ 6
unfolding type_of ranges uniform when◌then◌else◌
past_all c g h = uniformly ranges 0x110000 0xFFFFFFFF 6 c tt g h

-- ---- what passes the test
placed : (x : ℕ) (ys : List ℕ) → place x ys < length ys → get_or ys (place x ys) 0 ≡ x
unfolding place when◌then◌else◌
placed x [] h = absurd (not-suc-le-zero h)
placed x (y ∷ ys) h = on (eqb x y) refl h (placed x ys)
  where
    on : (b : Bool) → eqb x y ≡ b → (when b then 0 else suc (place x ys)) < suc (length ys)
        → (place x ys < length ys → get_or ys (place x ys) 0 ≡ x) → get_or (y ∷ ys) (when b then 0 else suc (place x ys)) 0 ≡ x
    on true e g more = sym (eqb-true x y e)
    on false e g more = more (le_of_suc-le-suc g)

-- what the test says of each row
record Passed (index blocks : List ℕ) : Type 0 where
  index_length : length index ≡ 256
  blocks_length : length blocks ≡ 2560
  index_right : T (every block_is 0 index)
  blocks_right : T (every entry_is 0 blocks)

passed : {index blocks : List ℕ} → Right index blocks → Passed index blocks
unfolding tested
passed {index} {blocks} t =
    let a : Bool = eqb (length index) 256 in
    let b : Bool = eqb (length blocks) 2560 in
    let d = both (a && b && every block_is 0 index) (every entry_is 0 blocks) t.test in
    let e = both (a && b) (every block_is 0 index) d.0 in
    let f = both a b e.0 in
    record { index_length = eqb→eq _ _ f.0; blocks_length = eqb→eq _ _ f.1; index_right = e.1; blocks_right = d.1 }

-- the block of a high byte: a mixed one, or one of its only type
data Block (h b : ℕ) : Type 0 where
  mixed_block : place h mixed < 4 → b ≡ 6 + place h mixed → Block h b
  uniform_block : 4 ≤ place h mixed → b < 6 → ((c : ℕ) → c / 256 ≡ h → type_of c ≡ b + 1) → Block h b

block_of : (h b : ℕ) → T (block_is h b) → Block h b
unfolding block_is type_of
block_of h b t =
    either (ltb (place h mixed) 4) _ _ t
    (λ e u. mixed_block (ltb-true _ _ e) (eqb→eq b (6 + place h mixed) u))
    (λ e u.
    let v = both (ltb b 6) (uniform ranges (h * 256) (h * 256 + 255) (b + 1)) u in
    uniform_block (ltb-false _ _ e) (ltb→lt b 6 v.0) (λ c e. uniformly ranges (h * 256) (h * 256 + 255) (b + 1) c v.1 (omega arith) (omega arith)))

module _ {index blocks : List ℕ} (t : Right index blocks) where
  -- the test at one entry of the index, and of the blocks
  index_at : (h : ℕ) → h < 256 → Block h (get_or index h 0)
  index_at h g = let p = passed t in block_of h (get_or index h 0) (at block_is index p.index_right h (omega arith))

  blocks_at : (k : ℕ) → k < 2560 → get_or blocks k 0 ≡ entry k
  blocks_at k g = let p = passed t in eqb→eq _ _ (at entry_is blocks p.blocks_right k (omega arith))

  -- the type of c in the block b
  in_block : (c b : ℕ) → Block (c / 256) b → (b < 10) × (get_or blocks (b * 256 + c % 256) 0 ≡ type_of c)
  unfolding entry mixed
  in_block c b (mixed_block p e) =
      let k : ℕ = b * 256 + c % 256 in
      let i : k / 256 - 6 ≡ place (c / 256) mixed = omega arith in
      let h : get_or mixed (k / 256 - 6) 0 ≡ c / 256 = rw i (placed (c / 256) mixed p) in
      (omega arith, blocks_at k (omega arith) ∙ if_false _ _ _ (le-ltb k 1536 (omega arith)) ∙ ap type_of (omega arith))
  in_block c b (uniform_block _ l u) =
      let k : ℕ = b * 256 + c % 256 in
      let d : k / 256 ≡ b = omega arith in
      (omega arith, blocks_at k (omega arith) ∙ if_true _ _ _ (lt-ltb k 1536 (omega arith)) ∙ sym (u c refl ∙ omega arith))

  -- there are ten blocks
  pub few : (c : ℕ) → c < 65536 → get_or index (c / 256) 0 < 10
  few c h = (in_block c (get_or index (c / 256) 0) (index_at (c / 256) (omega arith))).0

  -- the two tables hold the type of each code point below 65536
  pub typed : (c : ℕ) → c < 65536 → get_or blocks (get_or index (c / 256) 0 * 256 + c % 256) 0 ≡ type_of c
  typed c h = (in_block c (get_or index (c / 256) 0) (index_at (c / 256) (omega arith))).1

-- no other tables pass the test
one_block : (h b d : ℕ) → Block h b → Block h d → b ≡ d
one_block h b d (mixed_block p e) (mixed_block q f) = omega arith
one_block h b d (mixed_block p e) (uniform_block q m f) = omega arith
one_block h b d (uniform_block p l e) (mixed_block q f) = omega arith
one_block h b d (uniform_block p l e) (uniform_block q m f) = omega (arith, e (h * 256) (omega arith), f (h * 256) (omega arith))

pub once : {i j b d : List ℕ} → Right i b → Right j d → (i ≡ j) × (b ≡ d)
once {i} {j} {b} {d} s t =
    let p = passed s in
    let q = passed t in (
      ext_get_or 0 i j (cc) (λ h g. one_block h (get_or i h 0) (get_or j h 0) (index_at s h (omega arith)) (index_at t h (omega arith))),
      ext_get_or 0 b d (cc) (λ k g. blocks_at s k (omega arith) ∙ sym (blocks_at t k (omega arith))),
    )
