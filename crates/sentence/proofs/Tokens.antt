-- The laws of the token definitions: a served token lies in order, stepping from 0 serves the tokens one after another and is then done,
-- and no character is in two tokens. Assumes nothing.
use Prim.Native.Nat.{ℕ, zero, suc, ◌+◌, ◌-◌, ◌≤◌, ◌<◌, max}
use mathlib.Core.Path.{◌≡◌, refl, sym, ap, ◌∙◌}
use mathlib.Core.Bool.{Bool, true, false, ◌&&◌}
use mathlib.Core.List.{List, [], ◌∷◌, ◌++◌, map}
use native.Mathlib.Omega.{arith}
use lib.Dec.{leb, ltb}
use borrow.Author.Tests.{leb-true, leb-false, le-leb, lt-leb, ltb-true}
use lib.ListN.{length, drop, length-drop}
use lib.Seq.{drop-drop}
use Rattle.laws.specs.If.{when◌then◌else◌, if_true, if_false}
use Rattle.laws.proofs.Sized.{by_size}
use Rattle.sentence.specs.Sentence.{Mark, none, word, unknown}
use Rattle.sentence.specs.Writing.{Token, token, tokens, tokens_from, Served, serves, done, first, next_token_of}

-- ---- the first of the tokens before some boundaries
-- a token, where one began at b and e characters were passed before the boundaries l, and the tokens after it
record Head (b e : ℕ) (l : List Mark) (b' e' : ℕ) (ts : List Token) : Type 0 where
  from : b ≤ b'
  some : b' < e'
  past : e ≤ e'
  within : e' ≤ e + length l
  more : e' < e + length l → ts ≡ tokens true e' (e' + 1) (drop (suc (e' - e)) l)
  over : e' ≡ e + length l → ts ≡ []

abbrev Heads : ℕ → ℕ → List Mark → List Token → Type 0
Heads b e l [] = Unit {0}
Heads b e l (token b' e' ∷ ts) = Head b e l b' e' ts

-- the same from a boundary earlier on
earlier : (b b₁ e : ℕ) (m : Mark) (l : List Mark) (ts : List Token) → b ≤ b₁ → Heads b₁ (e + 1) l ts → Heads b e (m ∷ l) ts
earlier b b₁ e m l [] h k = tt
earlier b b₁ e m l (token b' e' ∷ ts) h k = record {
  from = omega (arith, k.from);
  some = k.some;
  past = omega (arith, k.past);
  within = omega (arith, k.within);
  more = λ x.
      let n : e' - e ≡ suc (e' - (e + 1)) = omega (arith, k.past) in
      rw n (k.more (omega arith));
  over = λ x. k.over (omega arith);
}

heads : (k : Bool) (b e : ℕ) (l : List Mark) → b < e → Heads b e l (tokens k b e l)
unfolding tokens
heads true b e [] h = record { from = omega arith; some = h; past = omega arith; within = omega arith; more = λ x. absurd (omega arith); over = λ x. refl }
heads false b e [] h = tt
heads k b e (none ∷ l) h = earlier b b e none l (tokens k b (e + 1) l) (omega arith) (heads k b (e + 1) l (omega arith))
heads k b e (unknown ∷ l) h = earlier b b e unknown l (tokens false b (e + 1) l) (omega arith) (heads false b (e + 1) l (omega arith))
heads true b e (word ∷ l) h =
    let n : e - e ≡ 0 = omega arith in
    record { from = omega arith; some = h; past = omega arith; within = omega arith; more = λ x. rw n refl; over = λ x. absurd (omega arith) }
heads false b e (word ∷ l) h = earlier b e e word l (tokens true e (e + 1) l) (omega arith) (heads true e (e + 1) l (omega arith))

-- ---- one step of the cursor
-- the tokens from a cursor on: none where no character is left
unfoldable pub onward : List Mark → ℕ → List Token
onward ms p = when leb (length ms + 1) p then [] else tokens_from ms p

-- a token that lies in order, at or after a cursor and within the text
pub record InOrder (ms : List Mark) (p b e : ℕ) : Type 0 where
  pub from : p ≤ b
  pub some : b < e
  pub within : e ≤ length ms + 1

-- what a step serves is the first of the tokens onward; it is done where there are none, at the text's end or past it at the cursor
abbrev Next : List Mark → ℕ → List Token → Served → Type 0
Next ms p ts (serves (token b e)) = InOrder ms p b e × (ts ≡ token b e ∷ onward ms e)
Next ms p ts (done q) = (ts ≡ []) × (q ≡ max (length ms + 1) p)

-- what the steps from a cursor answer, through the first that is done, but k of them at most
unfoldable pub answers_of : Served → (ℕ → List Served) → List Served
answers_of (serves (token b e)) go = serves (token b e) ∷ go e
answers_of (done p) go = done p ∷ []

unfoldable pub answers : ℕ → List Mark → ℕ → List Served
answers zero ms p = []
answers (suc k) ms p = answers_of (next_token_of ms (length ms + 1) p) (λ e. answers k ms e)

-- tokens one after another from p on, up to n
abbrev pub Ordered : ℕ → ℕ → List Token → Type 0
Ordered p n [] = p ≤ n
Ordered p n (token b e ∷ ts) = (p ≤ b) × (b < e) × Ordered e n ts

-- how many of the tokens a character is in
unfoldable pub holding : ℕ → List Token → ℕ
holding c [] = 0
holding c (token b e ∷ ts) = (when leb b c && ltb c e then 1 else 0) + holding c ts

-- none, where the character stands before the tokens, and one at most
record Single (c p : ℕ) (ts : List Token) : Type 0 where
  none_before : c < p → holding c ts ≡ 0
  one : holding c ts ≤ 1

module _ (ms : List Mark) where
  abbrev n : ℕ
  n = length ms + 1

  pub onward_past : (p : ℕ) → n ≤ p → onward ms p ≡ []
  unfolding onward
  onward_past p h = if_true (leb n p) [] (tokens_from ms p) (le-leb n p h)

  pub onward_at : (p : ℕ) → p < n → onward ms p ≡ tokens_from ms p
  unfolding onward
  onward_at p h = if_false (leb n p) [] (tokens_from ms p) (lt-leb n p h)

  -- the tokens of a sentence are those onward from 0
  pub onward_start : onward ms 0 ≡ tokens_from ms 0
  onward_start = onward_at 0 (omega arith)

  first_next : (p : ℕ) (ts : List Token) → p < n → Heads p (p + 1) (drop p ms) ts → Next ms p ts (first n ts)
  unfolding first
  first_next p [] h k = (refl, omega arith)
  first_next p (token b e ∷ ts) h k =
      (record { from = k.from; some = k.some; within = omega (arith, k.within, length-drop p ms) }, ap (λ l. token b e ∷ l) (on (leb n e) refl))
    where
      all : p + 1 + length (drop p ms) ≡ n
      all = omega (arith, length-drop p ms)

      on : (t : Bool) → leb n e ≡ t → ts ≡ onward ms e
      on true z = k.over (omega (arith, all, k.within, leb-true n e z)) ∙ sym (onward_past e (leb-true n e z))
      on false z =
          let j : p + suc (e - (p + 1)) ≡ e = omega (arith, k.past) in
          rw (drop-drop, j) at (k.more (omega (arith, all, leb-false n e z))) ∙ sym (onward_at e (leb-false n e z))

  next_is : (p : ℕ) → Next ms p (onward ms p) (next_token_of ms n p)
  unfolding next_token_of onward when◌then◌else◌
  next_is p = on (leb n p) refl
    where
      on : (t : Bool) → leb n p ≡ t → Next ms p (when t then [] else tokens_from ms p) (when t then done p else first n (tokens_from ms p))
      on true z = (refl, omega (arith, leb-true n p z))
      on false z = first_next p (tokens_from ms p) (leb-false n p z) (heads true p (p + 1) (drop p ms) (omega arith))

  -- a served token lies in order
  pub served_in_order : (p : ℕ) {b e : ℕ} → next_token_of ms n p ≡ serves (token b e) → InOrder ms p b e
  served_in_order p s = (rw s at (next_is p)).0

  -- it is the first of the tokens onward, and those after it are onward from its end
  pub served_onward : (p : ℕ) {b e : ℕ} → next_token_of ms n p ≡ serves (token b e) → onward ms p ≡ token b e ∷ onward ms e
  served_onward p s = (rw s at (next_is p)).1

  pub served_from : (p : ℕ) {b e : ℕ} → next_token_of ms n p ≡ serves (token b e) → tokens_from ms p ≡ token b e ∷ onward ms e
  served_from p s = let i = served_in_order p s in sym (onward_at p (omega arith)) ∙ served_onward p s

  -- a step that is done has no token onward
  pub done_onward : (p : ℕ) {q : ℕ} → next_token_of ms n p ≡ done q → onward ms p ≡ []
  done_onward p s = (rw s at (next_is p)).0

  pub done_from : (p : ℕ) {q : ℕ} → next_token_of ms n p ≡ done q → p < n → tokens_from ms p ≡ []
  done_from p s h = sym (onward_at p h) ∙ done_onward p s

  -- it is done at the text's end; past it, at the cursor
  pub done_at : (p : ℕ) {q : ℕ} → next_token_of ms n p ≡ done q → q ≡ max n p
  done_at p s = (rw s at (next_is p)).1

  -- ---- all the steps
  -- what holds where a step is done, and before a served token where it holds after it, holds of the tokens onward
  module _ (P : ℕ → List Token → Type 0) (ends : (p : ℕ) → p ≤ n → next_token_of ms n p ≡ done n → P p [])
      (goes : (p b e : ℕ) (ts : List Token) → next_token_of ms n p ≡ serves (token b e) → InOrder ms p b e → P e ts → P p (token b e ∷ ts)) where
    pub by_steps : (p : ℕ) → p ≤ n → P p (onward ms p)
    by_steps = by_size (λ p. n - p) (λ p. p ≤ n → P p (onward ms p)) (λ p below h. on p below h (next_token_of ms n p) refl)
      where
        on : (p : ℕ) → ((y : ℕ) → n - y < n - p → y ≤ n → P y (onward ms y)) → p ≤ n → (s : Served) → next_token_of ms n p ≡ s → P p (onward ms p)
        on p below h (serves (token b e)) s =
            let i = served_in_order p s in
            rw (served_onward p s) (goes p b e (onward ms e) s i (below e (omega arith) i.within))
        on p below h (done q) s =
            let z : q ≡ n = omega (arith, done_at p s) in
            rw (done_onward p s) (ends p h (rw z at s))

  -- the tokens stand in order
  pub onward_ordered : (p : ℕ) → p ≤ n → Ordered p n (onward ms p)
  onward_ordered = by_steps (λ p ts. Ordered p n ts) (λ p h s. h) (λ p b e ts s i k. (i.from, i.some, k))

  -- they are at most as many as the characters left
  pub onward_few : (p : ℕ) → p ≤ n → p + length (onward ms p) ≤ n
  onward_few = by_steps (λ p ts. p + length ts ≤ n) (λ p h s. omega arith) (λ p b e ts s i k. omega arith)

  -- a character is in at most one of them
  onward_single : (c p : ℕ) → p ≤ n → Single c p (onward ms p)
  unfolding holding when◌then◌else◌
  onward_single c = by_steps (λ p ts. Single c p ts) (λ p h s. record { none_before = λ l. refl; one = omega arith }) more
    where
      more : (p b e : ℕ) (ts : List Token) → next_token_of ms n p ≡ serves (token b e) → InOrder ms p b e → Single c e ts → Single c p (token b e ∷ ts)
      more p b e ts s i k = on (leb b c) (ltb c e) refl refl
        where
          on : (t u : Bool) → leb b c ≡ t → ltb c e ≡ u → Single c p (token b e ∷ ts)
          on true true x y = record {
            none_before = λ l. absurd (omega (arith, leb-true b c x));
            one = rw (x, y) (omega (arith, k.none_before (ltb-true c e y)));
          }
          on true false x y = record {
            none_before = λ l. absurd (omega (arith, leb-true b c x));
            one = rw (x, y) (omega (arith, k.one));
          }
          on false u x y = record {
            none_before = λ l. rw x (omega (arith, k.none_before (omega arith)));
            one = rw x (omega (arith, k.one));
          }

  -- stepping from p serves the tokens onward, each once and in order, and is then done at the text's end
  pub answers_onward : (p : ℕ) → p ≤ n → (k : ℕ) → n - p < k → answers k ms p ≡ map serves (onward ms p) ++ (done n ∷ [])
  unfolding answers answers_of
  answers_onward = by_steps (λ p ts. (k : ℕ) → n - p < k → answers k ms p ≡ map serves ts ++ (done n ∷ [])) ended more
    where
      ended : (p : ℕ) → p ≤ n → next_token_of ms n p ≡ done n → (k : ℕ) → n - p < k → answers k ms p ≡ done n ∷ []
      ended p h s zero l = absurd (omega arith)
      ended p h s (suc k) l = rw s

      more : (p b e : ℕ) (ts : List Token) → next_token_of ms n p ≡ serves (token b e) → InOrder ms p b e → ((k : ℕ) → n - e < k → answers k ms e ≡ map serves ts ++ (done n ∷ []))
          → (k : ℕ) → n - p < k → answers k ms p ≡ serves (token b e) ∷ (map serves ts ++ (done n ∷ []))
      more p b e ts s i f zero l = absurd (omega arith)
      more p b e ts s i f (suc k) l = rw (s, f k (omega arith))

  -- ---- the tokens of a sentence
  -- stepping from 0 serves exactly them, and is then done at the text's end; they are at most as many as the characters
  pub stepping : (k : ℕ) → n < k → answers k ms 0 ≡ map serves (tokens_from ms 0) ++ (done n ∷ [])
  stepping k h = rw onward_start at (answers_onward 0 (omega arith) k (omega arith))

  pub tokens_few : length (tokens_from ms 0) ≤ n
  tokens_few = omega (arith, ap length onward_start, onward_few 0 (omega arith))

  pub tokens_ordered : Ordered 0 n (tokens_from ms 0)
  tokens_ordered = rw onward_start at (onward_ordered 0 (omega arith))

  -- each character is in at most one token
  pub tokens_single : (c : ℕ) → holding c (tokens_from ms 0) ≤ 1
  tokens_single c = rw onward_start at (onward_single c 0 (omega arith)).one
