-- What the loop over a line keeps: the run from its state and counts over what is left comes to what the line comes to. Assumes nothing.
use Rattle.std.specs.Prelude.{Ok, Err}
use Prim.Native.Nat.{ℕ, ◌+◌, ◌-◌, ◌≤◌, ◌<◌}
use mathlib.Core.Path.{◌≡◌, refl, sym, ap, subst, ◌∙◌}
use mathlib.Core.Bool.{Bool, true, false}
use mathlib.Core.List.{List, [], ◌∷◌}
use native.Mathlib.Omega.{arith}
use borrow.Author.Tests.{lt-ltb, le-ltb, ltb-false}
use lib.Dec.{ltb}
use lib.ListN.{length, drop}
use Rattle.laws.specs.If.{when◌then◌else◌, if_true, if_false, if_map}
use Rattle.utf8.specs.Utf8.{size, decode_at, valid_prefix, values, scalars}
use Rattle.utf8.specs.declared.Decoded.{Decoded}
use Rattle.utf8.specs.declared.Decoded.TheVariants.{Char, Bad, End}
use Rattle.utf8.proofs.Laws.{Passed, len_ok, width_at, chars_end, passed_char, passed_bad, passed_end, end_past, bad_inside, char_within, left_char}
use Rattle.sentence.specs.Sentence.{Sentence}
use Rattle.sentence.specs.Reading as reading
use Rattle.sentence.specs.declared.Form.{Form}
use Rattle.sentence.specs.Reading.{Place, at, escaped, start, behind, in_tag, gap, Act, go, stop, advance, Run, whole, stopped, ending, finish, push, follow, run, over, next, Parsed, parsed, gather, sentence, built, placed, read}
use Rattle.sentence.specs.Refusals.{reason_of, refusal}
use Rattle.sentence.proofs.Shape.{ActOf, StepOf}
use Rattle.sheet.specs.Layout.{record_of}
use Rattle.sheet.specs.Answers.{Answer}
use Rattle.sheet.specs.declared.Record.{Record}
use Rattle.read_state.specs.declared.State.{State}
use Rattle.std.specs.Prelude.{Result}
use Rattle.sentence.specs.declared.Reason.{Reason}
use Rattle.sentence.specs.declared.Refusal.{Refusal}
use Rattle.read_state.specs.declared.Act as acts
use Rattle.read_state.specs.declared.Stepped.{Stepped}
use Rattle.read_state.specs.States.{state_of, state_in, act_of, stepped, ended}
use Rattle.read_state.proofs.Enums.{state_back}
use Rattle.read_state.proofs.Steps.{advance_of, advanced, refused}
use Rattle.read_counts.specs.declared.Counts.{Counts}
use Rattle.read_counts.specs.Counts.{Small, nothing, tally_by, tally, tallies, counted}
use Rattle.read_counts.proofs.Bounds.{nothing_small, small_more, tally_small}
use Rattle.read_counts.proofs.Rests.{Fresh, run_fresh}
use Rattle.read_counts.proofs.Totals.{counted_is}
use Rattle.read_counts.proofs.Spans.{Span, span, tally_width}
use Rattle.read_scan.specs.Scan.{because, scanned, told, or_invalid}
use Rattle.read_scan.proofs.Prefixes.{left_size}

-- ---- one act
told_push : (n : ℕ) (k : Counts) (a : Act) (r : Run) → told n k (push a r) ≡ told n (tally a k) r
unfolding told push tallies
told_push n k a (whole l) = refl
told_push n k a (stopped e left) = refl

-- ---- what is told from the start is what is read
told_built : (p : Parsed) (r : Record) → Fresh p → ((s : Sentence) → built p ≡ sentence s → r ≡ record_of s) → Ok r ≡ scanned (built p)
unfolding built scanned
told_built (parsed t ts n over) r f h = absurd f
told_built (parsed t ts n (next m s)) r f h = ap Ok (h _ refl)

told_placed : (f : Form) (x : List ℕ) (n : ℕ) → told n nothing (run f (at start) x) ≡ scanned (placed n (run f (at start) x))
unfolding told placed scanned
told_placed f x n = on (run f (at start) x) refl
  where
    on : (r : Run) → run f (at start) x ≡ r → told n nothing r ≡ scanned (placed n r)
    on (whole l) e = told_built (gather l) _ (run_fresh f x l e) (λ s b. counted_is f x l s e b)
    on (stopped e left) _ = refl

-- a line that is not too long
read_told : (f : Form) (x : List ℕ) → length x ≤ 4096 → scanned (read f x) ≡ or_invalid x (told (length x) nothing (run f (at start) (scalars x)))
unfolding read or_invalid scanned
read_told f x h =
    ap scanned (if_false _ _ _ (le-ltb 4096 (length x) h))
    ∙ if_map scanned (ltb (valid_prefix x) (length x)) _ _
    ∙ rw (told_placed f (scalars x) (length x))

-- what is equal where the line is UTF-8
or_same : (x : List ℕ) (a b : Answer) → (length x ≤ valid_prefix x → a ≡ b) → or_invalid x a ≡ or_invalid x b
unfolding or_invalid when◌then◌else◌
or_same x a b h = on (ltb (valid_prefix x) (length x)) refl
  where
    on : (t : Bool) → ltb (valid_prefix x) (length x) ≡ t → (when t then Err (refusal 2 (valid_prefix x)) else a) ≡ (when t then Err (refusal 2 (valid_prefix x)) else b)
    on true e = refl
    on false e = h (ltb-false _ _ e)

-- ---- the invariant
pub record Scanning (f : Form) (x : List ℕ) (s : State) (k : Counts) (p : ℕ) : Type 0 where
  pub short : length x ≤ 4096
  pub within : p ≤ length x
  pub small : Small k p
  pub passed : Passed x p
  pub same : told (length x) k (run f (state_of s) (scalars (drop p x))) ≡ told (length x) nothing (run f (at start) (scalars x))

pub scan_small : {f : Form} {x : List ℕ} {s : State} {k : Counts} {p : ℕ} → Scanning f x s k p → Small k 4096
scan_small {k} {p} h = small_more p 4096 k (omega (arith, h.short, h.within)) h.small

pub scan_start : (f : Form) (x : List ℕ) (s : State) (k : Counts) → length x ≤ 4096 → s ≡ state_in (at start) → k ≡ nothing → Scanning f x s k 0
scan_start f x s k h e g = record {
  short = h;
  within = omega arith;
  small = rw g nothing_small;
  passed = record { same = omega arith };
  same = rw (e, g, state_back (at start));
}

module _ {f : Form} {x : List ℕ} {s : State} {k : Counts} {p : ℕ} (h : Scanning f x s k p) where
  -- the premises are as the loop has them
  pub stands : {d : Decoded} {v n : ℕ} → d ≡ decode_at x p → d ≡ Char v n → Span x p n
  stands {d} {v} {n} d₁ d₂ = span x p v n h.within h.short (sym d₁ ∙ d₂)

  module _ {d : Decoded} {v n : ℕ} (d₁ : d ≡ decode_at x p) (d₂ : d ≡ Char v n) (r : Stepped)
      (w : r ≡ stepped (advance f (state_of s) v)) where
    at_char : decode_at x p ≡ Char v n
    at_char = sym d₁ ∙ d₂

    -- a character that steps the reader
    pub scan_go : {a : acts.Act} {k' : Counts} → r.act ≡ Ok a → ((m : ℕ) → k' ≡ tally_by n (act_of m a) k) → Scanning f x r.state k' (p + n)
    unfolding run follow
    scan_go {a} {k'} i e =
        let g : advance f (state_of s) v ≡ go (state_of r.state) (act_of v a) = advanced v s r f a w i in
        let o : ActOf v (act_of v a) = subst (StepOf v) g (advance_of f (state_of s) v) in
        let j : k' ≡ tally (act_of v a) k = e v ∙ rw (width_at x p v n at_char) (tally_width (act_of v a) v k o) in
        record {
          short = h.short;
          within = char_within x p v n h.within at_char;
          small = rw (e v) (tally_small n p (act_of v a) k (omega (arith, len_ok x p v n at_char)) h.small);
          passed = passed_char x p v n d d₁ d₂ h.passed;
          same = rw j (sym (told_push (length x) k (act_of v a) (run f (state_of r.state) (scalars (drop (p + n) x)))) ∙ rw (left_char x p v n at_char, g) at h.same);
        }

    -- a character that is refused
    pub scan_stop : {q : Reason} {u : Refusal} → r.act ≡ Err q → Err u ≡ or_invalid x (Err (because q p)) → Err u ≡ scanned (read f x)
    unfolding run follow told
    scan_stop {q} {u} i e =
        let z = refused v s r f q w i in
        e
        ∙ or_same x _ _ (λ l.
        let place : p ≡ length x - size (v ∷ scalars (drop (p + n) x)) =
        omega (arith, ap size (left_char x p v n at_char), left_size x p h.passed.same h.within l, h.within) in
        ap (λ (o : Reason). Err (because o p)) z.reason ∙ ap (λ (m : ℕ). Err (refusal z.number m)) place ∙ rw (left_char x p v n at_char, z.is) at h.same)
        ∙ sym (read_told f x h.short)

  -- what is no character
  pub scan_bad : {d : Decoded} {r : Answer} → d ≡ decode_at x p → d ≡ Bad → r ≡ Err (refusal 2 p) → r ≡ scanned (read f x)
  unfolding or_invalid
  scan_bad {d} d₁ d₂ i =
      let e = passed_bad x p d d₁ d₂ h.passed in
      let l = bad_inside x p (sym d₁ ∙ d₂) in
      i ∙ ap (λ (i : ℕ). Err (refusal 2 i)) e ∙ sym (if_true _ _ _ (lt-ltb (valid_prefix x) (length x) (omega arith))) ∙ sym (read_told f x h.short)

  -- the line's end
  pub scan_end : {d : Decoded} {r : Answer} → d ≡ decode_at x p → d ≡ End → r ≡ told p k (finish f (state_of s)) → r ≡ scanned (read f x)
  unfolding or_invalid run values
  scan_end {d} d₁ d₂ i =
      let q : decode_at x p ≡ End = sym d₁ ∙ d₂ in
      let z : p ≡ length x = omega (arith, end_past x p q, h.within) in
      let e = passed_end x p q h.passed in
      i
      ∙ ap (λ (n : ℕ). told n k (finish f (state_of s))) z
      ∙ rw (ap values (chars_end x p q)) at h.same
      ∙ sym (if_false _ _ _ (le-ltb (valid_prefix x) (length x) (omega arith)))
      ∙ sym (read_told f x h.short)

-- a line that is too long
pub scan_long : (f : Form) (x : List ℕ) (r : Answer) → 4096 < length x → r ≡ Err (refusal 1 4096) → r ≡ scanned (read f x)
unfolding read scanned
scan_long f x r l i = i ∙ sym (ap scanned (if_true _ _ _ (lt-ltb 4096 (length x) l)))

-- ---- what the line's end comes to
-- all acts are made, or what is left is nothing
data Over : Run → Type 0 where
  all_made : Over (whole [])
  none_left : {e : ℕ} → Over (stopped e 0)

ending_over : (f : Form) (p : Place) → Over (ending f p)
unfolding ending
ending_over f start = none_left
ending_over f behind = all_made
ending_over f in_tag = all_made
ending_over f (gap m) = none_left

finish_over : (f : Form) (σ : reading.State) → Over (finish f σ)
unfolding finish
finish_over f (at p) = ending_over f p
finish_over f (escaped p) = ending_over f p

over_whole : {r : Run} (n : ℕ) (k : Counts) → Over r → ended r ≡ Ok tt → Ok (counted k) ≡ told n k r
unfolding told tallies
over_whole n k all_made e = refl
over_whole n k none_left e = cc

over_stop : {r : Run} {q : Reason} (n : ℕ) (k : Counts) → Over r → ended r ≡ Err q → Err (because q n) ≡ told n k r
unfolding told
over_stop n k all_made e = cc
over_stop {q} n k (none_left {e}) i =
    let z : n ≡ n - 0 = omega arith in
    let j : q ≡ reason_of e = cc in
    rw (← z, j)

-- the premises are as `finished` has them
module _ (f : Form) (s : State) (n : ℕ) (k : Counts) {t : Result (Unit {0}) Reason} (i : t ≡ ended (finish f (state_of s))) where
  pub told_whole : {r : Record} → t ≡ Ok tt → r ≡ counted k → Ok r ≡ told n k (finish f (state_of s))
  told_whole e g = rw g (over_whole n k (finish_over f (state_of s)) (sym i ∙ e))

  pub told_stop : {q : Reason} → t ≡ Err q → Err (because q n) ≡ told n k (finish f (state_of s))
  told_stop e = over_stop n k (finish_over f (state_of s)) (sym i ∙ e)
