-- The digits of a number, from the last to the first. Assumes nothing.
use mir.Syntax.{w64}
use mir.Val.{Fits}
use Prim.Native.Nat.{ℕ, zero, suc, ◌+◌, ◌/◌, ◌%◌, ◌^◌, ◌≤◌, ◌<◌}
use native.Mathlib.Omega.{arith}
use mathlib.Core.Path.{◌≡◌, refl, sym, ap, ◌∙◌}
use mathlib.Core.Bool.{Bool, true, false}
use mathlib.Core.List.{List, [], ◌∷◌, ◌++◌}
use borrow.Author.Tests.{lt-ltb, le-ltb, ltb-true, ltb-false}
use lib.Dec.{ltb}
use lib.ListN.{length, set, length-append}
use Rattle.respelling.specs.Puts.{Puts}
use Rattle.respelling.specs.Decimal.{digits, decimal}
use Rattle.respelling.proofs.Puts.{puts_byte, puts_then, puts_long}

digits_small : (k n : ℕ) → n < 10 → digits (suc k) n ≡ (48 + n) ∷ []
unfolding digits
digits_small k n h = rw (lt-ltb n 10 h, digits)

digits_more : (k n : ℕ) → 10 ≤ n → digits (suc k) n ≡ digits k (n / 10) ++ ((48 + n % 10) ∷ [])
unfolding digits
digits_more k n h = rw (le-ltb n 10 h, digits)

digits_enough : (k j n : ℕ) → n < k → n < j → digits k n ≡ digits j n
digits_enough zero j n h i = absurd (omega arith)
digits_enough (suc k) zero n h i = absurd (omega arith)
digits_enough (suc k) (suc j) n h i = on (ltb n 10) refl (λ e. digits_enough k j (n / 10) (omega arith) (omega arith))
  where
    on : (b : Bool) → ltb n 10 ≡ b → (10 ≤ n → digits k (n / 10) ≡ digits j (n / 10)) → digits (suc k) n ≡ digits (suc j) n
    on true e f = let l : n < 10 = ltb-true n 10 e in digits_small k n l ∙ sym (digits_small j n l)
    on false e f = let l : 10 ≤ n = ltb-false n 10 e in digits_more k n l ∙ ap (λ d. d ++ ((48 + n % 10) ∷ [])) (f l) ∙ sym (digits_more j n l)

pub decimal_small : (n : ℕ) → n < 10 → decimal n ≡ (48 + n) ∷ []
unfolding decimal
decimal_small n h = digits_small n n h

pub decimal_more : (n : ℕ) → 10 ≤ n → decimal n ≡ decimal (n / 10) ++ ((48 + n % 10) ∷ [])
unfolding decimal
decimal_more n h = digits_more n n h ∙ ap (λ d. d ++ ((48 + n % 10) ∷ [])) (digits_enough n (suc (n / 10)) (n / 10) (omega arith) (omega arith))

-- how many they are
pub more_digits : (n : ℕ) → 10 ≤ n → length (decimal n) ≡ length (decimal (n / 10)) + 1
more_digits n h = simp length-append at (ap length (decimal_more n h))

pub some_digits : (n : ℕ) → 0 < length (decimal n)
some_digits n = on (ltb n 10) refl
  where
    on : (b : Bool) → ltb n 10 ≡ b → 0 < length (decimal n)
    on true e = omega (arith, ap length (decimal_small n (ltb-true n 10 e)))
    on false e = omega (arith, more_digits n (ltb-false n 10 e))

-- a number below 10^k has at most k digits
short : (k n : ℕ) → n < 10 ^ suc k → length (decimal n) ≤ suc k
short zero n h = omega (arith, ap length (decimal_small n h))
short (suc k) n h = on (ltb n 10) refl (short k (n / 10) (omega arith))
  where
    on : (b : Bool) → ltb n 10 ≡ b → length (decimal (n / 10)) ≤ suc k → length (decimal n) ≤ suc (suc k)
    on true e f = omega (arith, ap length (decimal_small n (ltb-true n 10 e)))
    on false e f = omega (arith, more_digits n (ltb-false n 10 e))

-- a number of 64 bits has at most 20 digits
pub decimal_short : (n : ℕ) → Fits w64 n → length (decimal n) ≤ 20
decimal_short n h = short 19 n (omega (arith, h.fits))

-- ---- digits put into a slice
pub put_one : {n : ℕ} {out : List ℕ} {at : ℕ} → n < 10 → at + length (decimal n) ≤ length out → Puts (decimal n) out at (at + 1) (set out at (48 + n))
put_one {n} {out} {at} h l = rw (decimal_small n h) (puts_byte out at (48 + n) (omega (arith, some_digits n)))

pub put_more : {n k : ℕ} {out mid : List ℕ} {at : ℕ} → 10 ≤ n → at + length (decimal n) ≤ length out → Puts (decimal (n / 10)) out at k mid
    → Puts (decimal n) out at (k + 1) (set mid k (48 + n % 10))
put_more {n} {k} {out} {mid} {at} h l p =
    let d = more_digits n h in
    let e : length mid ≡ length out = puts_long p (omega arith) (omega arith) in
    rw (decimal_more n h) (puts_then p (omega arith) (puts_byte mid k (48 + n % 10) (omega (arith, p.end))))

-- a byte behind them
pub put_end : (n b : ℕ) {k : ℕ} {out mid : List ℕ} {at : ℕ} → length (decimal n) ≤ 20 → at + 21 ≤ length out → Puts (decimal n) out at k mid
    → Puts (decimal n ++ (b ∷ [])) out at (k + 1) (set mid k b)
put_end n b {k} {out} {mid} {at} l h p =
    let e : length mid ≡ length out = puts_long p (omega arith) (omega arith) in
    puts_then p (omega arith) (puts_byte mid k b (omega (arith, p.end)))
