-- A scan of the boundaries for the next token, one boundary after another. Assumes nothing.
use Prim.Native.Nat.{ℕ, zero, suc, ◌+◌, ◌-◌, ◌≤◌, ◌<◌}
use mathlib.Core.Path.{◌≡◌, refl, sym, ap, ◌∙◌}
use mathlib.Core.Bool.{Bool, true, false, ◌&&◌, and-eq-true_iff}
use mathlib.Core.List.{List, [], ◌∷◌}
use native.Mathlib.Omega.{arith}
use lib.Dec.{eqb, leb}
use borrow.Author.Tests.{le-leb, lt-leb, eqb-true}
use lib.ListN.{length, take, drop, get_or, length-map, length-take, get_or-map, drop_of_length-le}
use lib.Seq.{drop-cons, get_or-take}
use Rattle.laws.specs.If.{if_true, if_false}
use Rattle.sentence.specs.Sentence.{Mark, none, word, unknown}
use Rattle.sentence.specs.Writing.{token, tokens, tokens_from, Served, serves, done, first, next_token_of}
use Rattle.sentence.proofs.Tokens.{onward, onward_start, served_in_order, served_onward, done_onward}
use Rattle.sheet.specs.Layout.{mark_of}
use Rattle.tokens.specs.declared.Token.{Token as Span}
use Rattle.tokens.specs.declared.Step.{Step}
use Rattle.tokens.specs.declared.Step.TheVariants.{Serves, Done}
use Rattle.tokens.specs.Steps.{span_of, step_of, marks_in, Bounded}

pub marks_long : (n : ℕ) (bs : List ℕ) → Bounded n bs → length (marks_in n bs) + 1 ≡ n
unfolding marks_in
marks_long n bs h = simp (length-map, length-take) (omega arith)

-- the boundary behind e characters, and those after it
mark_next : (n : ℕ) (bs : List ℕ) (e : ℕ) → Bounded n bs → 1 ≤ e → e < n
    → drop (e - 1) (marks_in n bs) ≡ mark_of (get_or bs (e - 1) 0) ∷ drop (e + 1 - 1) (marks_in n bs)
unfolding marks_in mark_of
mark_next n bs e h k l =
    let j : suc (e - 1) ≡ e + 1 - 1 = omega arith in
    drop-cons (marks_in n bs) (e - 1) none (omega (arith, marks_long n bs h))
    ∙ rw (j, get_or-map mark_of (take (n - 1) bs) (e - 1) 0, get_or-take (n - 1) bs (e - 1) 0 (omega arith))

-- a scan from p that is past e characters, where the token in hand began at b and is known or not
pub record Scanning (n : ℕ) (bs : List ℕ) (p : ℕ) (k : Bool) (b e : ℕ) : Type 0 where
  pub order : b < e
  pub within : e ≤ n
  pub same : next_token_of (marks_in n bs) n p ≡ first n (tokens k b e (drop (e - 1) (marks_in n bs)))

pub scan_past : (n : ℕ) (bs : List ℕ) (p : ℕ) → n ≤ p → Done p ≡ step_of (next_token_of (marks_in n bs) n p)
unfolding next_token_of
scan_past n bs p h = ap step_of (sym (if_true (leb n p) (done p) _ (le-leb n p h)))

pub scan_start : (n : ℕ) (bs : List ℕ) (p : ℕ) → p < n → Scanning n bs p true p (p + 1)
unfolding next_token_of
scan_start n bs p h =
    let j : p + 1 - 1 ≡ p = omega arith in
    record { order = omega arith; within = omega arith; same = rw j (if_false (leb n p) (done p) _ (lt-leb n p h)) }

mark_unknown : (v : ℕ) → (v ≡ 1 → ⊥) → (v ≡ 0 → ⊥) → mark_of v ≡ unknown
unfolding mark_of
mark_unknown zero f g = absurd (g refl)
mark_unknown (suc zero) f g = absurd (f refl)
mark_unknown (suc (suc v)) f g = refl

-- how the scan goes on, by the boundary behind e characters
module _ {n : ℕ} {bs : List ℕ} {p : ℕ} {k : Bool} {b e : ℕ} (s : Scanning n bs p k b e) (h : Bounded n bs) where
  passed : (m : Mark) → e < n → mark_of (get_or bs (e - 1) 0) ≡ m → next_token_of (marks_in n bs) n p ≡ first n (tokens k b e (m ∷ drop (e + 1 - 1) (marks_in n bs)))
  passed m l z = rw (mark_next n bs e h (omega (arith, s.order)) l, z) at s.same

  pub scan_served : {r : Step} → e < n → (eqb (get_or bs (e - 1) 0) 1 && k) ≡ true → r ≡ step_of (serves (token b e)) → r ≡ step_of (next_token_of (marks_in n bs) n p)
  unfolding tokens first mark_of
  scan_served l z q =
      let t : (eqb (get_or bs (e - 1) 0) 1 ≡ true) × (k ≡ true) = (and-eq-true_iff (eqb (get_or bs (e - 1) 0) 1) k).0 z in
      let v : get_or bs (e - 1) 0 ≡ 1 = eqb-true (get_or bs (e - 1) 0) 1 t.0 in
      q ∙ ap step_of (sym (rw t.1 at (passed word l (ap mark_of v))))

  pub scan_word : e < n → get_or bs (e - 1) 0 ≡ 1 → (eqb (get_or bs (e - 1) 0) 1 && k) ≡ false → Scanning n bs p true e (e + 1)
  unfolding tokens mark_of
  scan_word l z q =
      let t : k ≡ false = rw z at q in
      record { order = omega arith; within = omega arith; same = rw t at (passed word l (ap mark_of z)) }

  pub scan_none : e < n → get_or bs (e - 1) 0 ≡ 0 → Scanning n bs p k b (e + 1)
  unfolding tokens mark_of
  scan_none l z = record { order = omega (arith, s.order); within = omega arith; same = passed none l (ap mark_of z) }

  pub scan_unknown : e < n → (get_or bs (e - 1) 0 ≡ 1 → ⊥) → (get_or bs (e - 1) 0 ≡ 0 → ⊥) → Scanning n bs p false b (e + 1)
  unfolding tokens
  scan_unknown l f g = record { order = omega (arith, s.order); within = omega arith; same = passed unknown l (mark_unknown _ f g) }

  -- no boundary is left
  over : n ≤ e → next_token_of (marks_in n bs) n p ≡ first n (tokens k b e [])
  over l =
      let z : drop (e - 1) (marks_in n bs) ≡ [] = drop_of_length-le (marks_in n bs) {i = e - 1} (omega (arith, marks_long n bs h)) in
      rw z at s.same

  pub scan_last : {r : Step} → n ≤ e → k ≡ true → r ≡ step_of (serves (token b n)) → r ≡ step_of (next_token_of (marks_in n bs) n p)
  unfolding tokens first
  scan_last l z q =
      let x : e ≡ n = omega (arith, s.within) in
      q ∙ ap step_of (sym (rw (z, x) at (over l)))

  pub scan_done : n ≤ e → k ≡ false → Done n ≡ step_of (next_token_of (marks_in n bs) n p)
  unfolding tokens first
  scan_done l z = ap step_of (sym (rw z at (over l)))

pub ruleset scans = (scan_past, scan_start, scan_served, scan_word, scan_none, scan_unknown, scan_last, scan_done)

-- ---- stepping through a sentence
-- a step's answer, read as what it serves
pub of_serves : (x : Served) (t : Span) → Serves t ≡ step_of x → x ≡ serves (token t.start t.end)
of_serves (serves (token b e)) t q = let z : t ≡ span_of (token b e) = cc in rw z
of_serves (done p) t q = let z : ◌≡◌ {A = ℕ} 0 1 = cc in absurd (omega arith)

pub of_done : (x : Served) (p : ℕ) → Done p ≡ step_of x → x ≡ done p
of_done (serves t) p q = let z : ◌≡◌ {A = ℕ} 0 1 = cc in absurd (omega arith)
of_done (done r) p q = cc

-- a token that was served from p, and the tokens onward from it
pub record Following (n : ℕ) (bs : List ℕ) (p : ℕ) (t : Span) : Type 0 where
  pub from : p ≤ t.start
  pub some : t.start < t.end
  pub within : t.end ≤ n
  pub rest : onward (marks_in n bs) p ≡ token t.start t.end ∷ onward (marks_in n bs) t.end

pub following : {n : ℕ} {bs : List ℕ} (p : ℕ) {r : Step} {t : Span} → Bounded n bs → r ≡ step_of (next_token_of (marks_in n bs) n p) → r ≡ Serves t → Following n bs p t
following {n} {bs} p {r} {t} h a q =
    let e : length (marks_in n bs) + 1 ≡ n = marks_long n bs h in
    let s : next_token_of (marks_in n bs) (length (marks_in n bs) + 1) p ≡ serves (token t.start t.end) = rw e (of_serves _ t (sym q ∙ a)) in
    let i = served_in_order (marks_in n bs) p s in
    record { from = i.from; some = i.some; within = omega arith; rest = served_onward (marks_in n bs) p s }

-- a cursor at p with so many tokens passed, of all of them
pub record Counted (n : ℕ) (bs : List ℕ) (count p : ℕ) : Type 0 where
  pub few : count ≤ p
  pub within : p ≤ n
  pub sum : count + length (onward (marks_in n bs) p) ≡ length (tokens_from (marks_in n bs) 0)

pub counted_start : (n : ℕ) (bs : List ℕ) → Counted n bs 0 0
counted_start n bs = record { few = omega arith; within = omega arith; sum = omega (arith, ap length (onward_start (marks_in n bs))) }

pub counted_next : {n : ℕ} {bs : List ℕ} {count p : ℕ} {t : Span} → Counted n bs count p → Following n bs p t → Counted n bs (count + 1) t.end
counted_next c f = record { few = omega arith; within = f.within; sum = omega (arith, ap length f.rest) }

pub counted_done : {n : ℕ} {bs : List ℕ} {count p at : ℕ} {r : Step} → Counted n bs count p → Bounded n bs → r ≡ step_of (next_token_of (marks_in n bs) n p) → r ≡ Done at
    → count ≡ length (tokens_from (marks_in n bs) 0)
counted_done {n} {bs} {p} {at} c h a q =
    let e : length (marks_in n bs) + 1 ≡ n = marks_long n bs h in
    let s : next_token_of (marks_in n bs) (length (marks_in n bs) + 1) p ≡ done at = rw e (of_done _ at (sym q ∙ a)) in
    omega (arith, ap length (done_onward (marks_in n bs) p s))

pub ruleset counts = (following, counted_start, counted_next, counted_done)
