-- Bytes put into a slice, some behind others. Assumes nothing.
use Prim.Native.Nat.{ℕ, ◌+◌, ◌≤◌, ◌<◌}
use native.Mathlib.Omega.{arith}
use native.Mathlib.Numerals.{add-one}
use mathlib.Core.Path.{◌≡◌, refl, sym, ap, ◌∙◌}
use mathlib.Core.List.{List, [], ◌∷◌, ◌++◌, append_assoc}
use lib.ListN.{length, take, drop, set, length-append, length-drop, take-append-drop}
use lib.Seq.{take-append_seam, drop-append_seam, length-take-le, drop-drop, drop-append-le, set_split, take-set-le, drop-set-lt}
use Rattle.laws.specs.Put.{over}
use Rattle.respelling.specs.Puts.{Puts}

pub puts_none : (d : List ℕ) (at : ℕ) → Puts [] d at at d
puts_none d at = record { end = omega arith; output = rw take-append-drop }

pub puts_byte : (d : List ℕ) (at b : ℕ) → at < length d → Puts (b ∷ []) d at (at + 1) (set d at b)
puts_byte d at b h = record { end = refl; output = set_split d at b h ∙ rw (drop-drop, add-one) }

-- bytes that a callee put at the front of a slice of k bytes that it was lent
pub puts_lent : (v d : List ℕ) (s k : ℕ) {e : List ℕ} → e ≡ over v (take k (drop s d)) → length v ≤ k → s + k ≤ length d
    → Puts v d s (s + length v) (take s d ++ (e ++ drop k (drop s d)))
puts_lent v d s k {e} q l h =
    let a : List ℕ = drop s d in
    let f : length v ≤ length (take k a) = omega (arith, length-take-le k a (omega (arith, length-drop s d))) in
    let g : drop (length v) a ≡ drop (length v) (take k a) ++ drop k a = rw take-append-drop at (drop-append-le (length v) (take k a) (drop k a) f) in
    record { end = refl; output = rw (q, append_assoc, g) }

-- what was stored at the place before is not seen
pub puts_again : {w d : List ℕ} {at r : ℕ} {e : List ℕ} (b : ℕ) → 0 < length w → Puts w (set d at b) at r e → Puts w d at r e
puts_again {w} {d} {at} b h p = record {
  end = p.end;
  output = p.output ∙ rw (drop-drop, take-set-le at d at b (omega arith), drop-set-lt (at + length w) d at b (omega arith), drop-drop);
}

module _ {w d : List ℕ} {at r : ℕ} {m : List ℕ} (p : Puts w d at r m) (h : at ≤ length d) where
  front : length (take at d ++ w) ≡ r
  front = omega (arith, length-append (take at d) w, length-take-le at d h, p.end)

  joint : m ≡ (take at d ++ w) ++ drop (length w) (drop at d)
  joint = p.output ∙ sym (append_assoc (take at d) w (drop (length w) (drop at d)))

  -- bytes behind bytes
  pub puts_then : {v e : List ℕ} {k : ℕ} → Puts v m r k e → Puts (w ++ v) d at k e
  puts_then {v} q = record {
    end = omega (arith, p.end, q.end, length-append w v);
    output = q.output ∙ rw (joint, ← front, take-append_seam, drop-append_seam, length-append w v, drop-drop, append_assoc, append_assoc);
  }

  -- nothing is longer than it was
  pub puts_long : at + length w ≤ length d → length m ≡ length d
  puts_long l =
      omega (arith, simp length-append at (ap length p.output), length-take-le at d h, length-drop (length w) (drop at d), length-drop at d)
