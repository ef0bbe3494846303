-- A line that is UTF-8 up to a place, and what comes of a refusal there. Assumes nothing.
use Rattle.std.specs.Prelude.{Err}
use Prim.Native.Nat.{ℕ, ◌+◌, ◌-◌, ◌≤◌, ◌<◌}
use mathlib.Core.Path.{◌≡◌, sym, ap, ◌∙◌}
use mathlib.Core.List.{List}
use native.Mathlib.Omega.{arith}
use borrow.Author.Tests.{lt-ltb, le-ltb}
use lib.ListN.{length, take, drop, length-drop}
use Rattle.laws.specs.If.{if_true, if_false}
use Rattle.laws.proofs.Tail.{lent}
use Rattle.utf8.specs.Utf8.{valid_prefix, scalars, size}
use Rattle.utf8.proofs.Codec.{valid_within, encodes_scalars, length_encodes}
use Rattle.sentence.specs.Refusals.{refusal}
use Rattle.sentence.specs.declared.Reason.{Reason}
use Rattle.sentence.specs.declared.Refusal.{Refusal}
use Rattle.read_scan.specs.Scan.{because, or_invalid}

module _ (x : List ℕ) (at : ℕ) (p : at + valid_prefix (drop at x) ≡ valid_prefix x) (h : at ≤ length x) where
  pub valid_fits : at + valid_prefix (drop at x) ≤ length x
  valid_fits = omega (arith, valid_within x)

  -- what is UTF-8 of the part from the place on, by a result that says so
  pub part_fits : (v : ℕ) → v ≡ valid_prefix (take (length x - at) (drop at x)) → at + v ≤ length x
  part_fits v e = let f : v ≡ valid_prefix (drop at x) = e ∙ ap valid_prefix (lent x at h) in omega (arith, valid_fits)

  rest_is : (v : ℕ) → v ≡ valid_prefix (take (length x - at) (drop at x)) → at + v ≡ valid_prefix x
  rest_is v e = let f : v ≡ valid_prefix (drop at x) = e ∙ ap valid_prefix (lent x at h) in omega arith

  pub stopped_invalid : (v : ℕ) (q : Reason) (r : Refusal) → v ≡ valid_prefix (take (length x - at) (drop at x)) → at + v < length x
      → r ≡ refusal 2 (at + v) → Err r ≡ or_invalid x (Err (because q at))
  unfolding or_invalid
  stopped_invalid v q r e l i =
      ap Err i ∙ ap (λ (n : ℕ). Err (refusal 2 n)) (rest_is v e)
      ∙ sym (if_true _ _ _ (lt-ltb (valid_prefix x) (length x) (omega (arith, rest_is v e))))

  pub stopped_valid : (v : ℕ) (q : Reason) (r : Refusal) → v ≡ valid_prefix (take (length x - at) (drop at x)) → length x ≤ at + v
      → r ≡ because q at → Err r ≡ or_invalid x (Err (because q at))
  unfolding or_invalid
  stopped_valid v q r e l i = ap Err i ∙ sym (if_false _ _ _ (le-ltb (valid_prefix x) (length x) (omega (arith, rest_is v e))))

  -- where the whole line is UTF-8, what is left of it has the characters' size
  pub left_size : length x ≤ valid_prefix x → size (scalars (drop at x)) ≡ length x - at
  left_size l =
      let v : valid_prefix (drop at x) ≡ length (drop at x) = omega (arith, valid_within (drop at x), length-drop at x) in
      sym (length_encodes (scalars (drop at x))) ∙ ap length (encodes_scalars (drop at x) v) ∙ length-drop at x
