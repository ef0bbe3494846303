-- No tokenized line is longer than the bound: each token takes its text and the tags of its last character, and no two share any. Assumes nothing.
use Prim.Native.Nat.{ℕ, zero, suc, ◌+◌, ◌-◌, ◌*◌, ◌≤◌, ◌<◌}
use mathlib.Core.Path.{◌≡◌, refl, sym, ap}
use mathlib.Core.Bool.{Bool, true, false}
use mathlib.Core.List.{List, [], ◌∷◌, ◌++◌, map, append-nil}
use native.Mathlib.Nat.{mul-le-mul_right}
use native.Mathlib.Omega.{arith}
use lib.ListN.{length, take, get_or, length-append}
use lib.Seq.{take-add}
use Rattle.utf8.specs.Utf8.{encode, encodes, size}
use Rattle.utf8.proofs.Codec.{encodes_append, length_encodes, size_append}
use Rattle.laws.specs.If.{when◌then◌else◌}
use Rattle.sentence.specs.Sentence.{Tag, Sentence, text, marks, rows, pad, row_bytes, tag_bytes, Row}
use Rattle.sentence.specs.declared.Form.TheVariants.{Tokenized as tokenized}
use Rattle.sentence.specs.Writing.{Token, token, surface, escape, write_tags, write_token, joined, line, written, serves, next_token_of}
use Rattle.sentence.proofs.Tokens.{InOrder, onward, onward_start, by_steps}
use Rattle.sheet.specs.declared.Record.{Record}
use Rattle.sheet.specs.Layout.{Buffers, bytes_of, Holds}
use Rattle.sheet.proofs.Held.{length_bytes_of, columns_held, rows_held}
use Rattle.sheet.proofs.Look.{bounds, bytes_before, bytes_more, all_at}
use Rattle.write_escape.proofs.Bytes.{escape_long}
use Rattle.write_escape.proofs.Encoded.{encodes_escape}
use Rattle.write_items.specs.Items.{most_of}
use Rattle.write_items.proofs.Room.{padded_long}
use Rattle.write_tokenized.specs.Gaps.{gap, spaced}

-- ---- tokens behind spaces are tokens joined by them
joined_spaced : (w : List ℕ) (ws : List (List ℕ)) → joined (w ∷ ws) ≡ w ++ spaced true ws
unfolding joined spaced gap
joined_spaced w [] = sym (append-nil w)
joined_spaced w (v ∷ ws) = rw (joined_spaced v ws)

spaced_joined : (ws : List (List ℕ)) → spaced false ws ≡ joined ws
unfolding spaced gap joined
spaced_joined [] = refl
spaced_joined (w ∷ ws) = sym (joined_spaced w ws)

pub encodes_gap : (b : Bool) → encodes (gap b) ≡ gap b
unfolding encodes encode gap when◌then◌else◌
encodes_gap true = refl
encodes_gap false = refl

-- the length of a gap
pub gap_small : (some : Bool) → length (gap some) ≤ 1
unfolding gap
gap_small true = omega arith
gap_small false = omega arith

pub line_spaced : (s : Sentence) → encodes (spaced false (map (write_token s) (onward (marks s) 0))) ≡ written tokenized s
unfolding line
line_spaced s = rw (onward_start (marks s), spaced_joined)

-- ---- the tag bytes of the first rows
row_next : (rs : List (List Tag)) (i : ℕ) → i < length rs → tag_bytes (take (suc i) rs) ≡ tag_bytes (take i rs) + row_bytes (get_or rs i [])
unfolding tag_bytes
row_next [] i h = absurd (omega arith)
row_next (r ∷ rs) zero h = omega arith
row_next (r ∷ rs) (suc i) h = omega (arith, row_next rs i (omega arith))

rows_more : (rs : List (List Tag)) (p q : ℕ) → p ≤ q → tag_bytes (take p rs) ≤ tag_bytes (take q rs)
unfolding tag_bytes
rows_more rs zero q h = omega arith
rows_more [] (suc p) q h = omega arith
rows_more (r ∷ rs) (suc p) zero h = absurd (omega arith)
rows_more (r ∷ rs) (suc p) (suc q) h = omega (arith, rows_more rs p q (omega arith))

rows_within : (rs : List (List Tag)) (p : ℕ) → tag_bytes (take p rs) ≤ tag_bytes rs
unfolding tag_bytes
rows_within rs zero = omega arith
rows_within [] (suc p) = omega arith
rows_within (r ∷ rs) (suc p) = omega (arith, rows_within rs p)

-- the sums of a token and of what is left behind it
one_more : (g t x c a b z₀ z₁ z₂ z y₀ y₁ y₂ y : ℕ) → g ≤ 1 → t ≤ 2 * (z₂ - z₁) + c + 2 * (y₂ - y₁) → x ≤ 2 * (z - z₂) + b + 2 * (y - y₂) → b + (c + 1) ≤ a
    → z₀ ≤ z₁ → z₁ ≤ z₂ → z₂ ≤ z → y₀ ≤ y₁ → y₁ ≤ y₂ → y₂ ≤ y → g + (t + x) ≤ 2 * (z - z₀) + a + 2 * (y - y₀)
one_more g t x c a b z₀ z₁ z₂ z y₀ y₁ y₂ y h₁ h₂ h₃ h₄ h₅ h₆ h₇ h₈ h₉ h₁₀ = omega arith

module _ {r : Record} {d : Buffers} {s : Sentence} (h : Holds r d s) where
  -- what the characters from p on can take
  abbrev room : ℕ → ℕ
  room p = 2 * (size (text s) - size (take p (text s))) + (r.n - p) * (r.columns + 1) + 2 * (tag_bytes (rows s) - tag_bytes (take p (rows s)))

  token_most : (b e : ℕ) → b < e → e ≤ r.n
      → length (encodes (write_token s (token b e))) ≤ 2 * (size (take e (text s)) - size (take b (text s))) + r.columns + 2 * (tag_bytes (take e (rows s)) - tag_bytes (take (e - 1) (rows s)))
  unfolding write_token
  token_most b e k l =
      let x = escape tokenized (surface s b e) in
      let row = get_or (rows s) (e - 1) [] in
      let y = write_tags tokenized (pad s.columns row) in
      let n : b + (e - b) ≡ e = omega arith in
      let i : suc (e - 1) ≡ e = omega arith in
      let t : size (surface s b e) ≡ size (take e (text s)) - size (take b (text s)) = omega (arith, ap size (rw n at (take-add b (e - b) (text s))), size_append (take b (text s)) (surface s b e)) in
      let g : row_bytes row ≡ tag_bytes (take e (rows s)) - tag_bytes (take (e - 1) (rows s)) = omega (arith, rw i at (row_next (rows s) (e - 1) (omega (arith, bounds h)))) in
      let fits = (all_at (Row s.columns) [] (rows s) (e - 1) (rows_held h) (omega (arith, bounds h))).fits in
      rw (encodes_append x y, length-append (encodes x) (encodes y), encodes_escape tokenized (surface s b e), padded_long tokenized s.columns row fits)
      (omega (arith, columns_held h, escape_long tokenized (encodes (surface s b e)), length_encodes (surface s b e), escape_long tokenized (bytes_of row), length_bytes_of row))

  left_most : (p : ℕ) → p ≤ length (marks s) + 1 → (some : Bool) → length (encodes (spaced some (map (write_token s) (onward (marks s) p)))) ≤ room p
  unfolding spaced encodes
  left_most = by_steps (marks s) (λ p ts. (some : Bool) → length (encodes (spaced some (map (write_token s) ts))) ≤ room p) (λ p k e some. omega arith) more
    where
      more : (p b e : ℕ) (ts : List Token) → next_token_of (marks s) (length (marks s) + 1) p ≡ serves (token b e) → InOrder (marks s) p b e
          → ((some : Bool) → length (encodes (spaced some (map (write_token s) ts))) ≤ room e)
          → (some : Bool) → length (encodes (spaced some (map (write_token s) (token b e ∷ ts)))) ≤ room p
      more p b e ts _ i f some =
          let w = write_token s (token b e) in
          let x = spaced true (map (write_token s) ts) in
          let l : e ≤ r.n = omega (arith, bounds h) in
          let m : suc (r.n - e) * (r.columns + 1) ≤ (r.n - p) * (r.columns + 1) = mul-le-mul_right (r.columns + 1) (omega arith) in
          rw (encodes_append (gap some) (w ++ x), encodes_append w x, length-append (encodes (gap some)), length-append (encodes w), encodes_gap some)
          (one_more _ _ _ r.columns _ ((r.n - e) * (r.columns + 1)) _ _ _ _ _ _ _ _ (gap_small some) (token_most b e i.some l) (f true) (omega arith)
          (bytes_more (text s) p b i.from) (bytes_more (text s) b e (omega arith)) (bytes_before (text s) e)
          (rows_more (rows s) p (e - 1) (omega arith)) (rows_more (rows s) (e - 1) e (omega arith)) (rows_within (rows s) e))

  pub line_most : length (written tokenized s) ≤ most_of r
  unfolding most_of
  line_most =
      let z : r.n - 0 ≡ r.n = omega arith in
      omega (arith, bounds h, ap length (line_spaced s), rw z at (left_most 0 (omega arith) false))
