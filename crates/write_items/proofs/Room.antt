-- The bound of a line, how long tags are as they are written, and what is said of too little room. Assumes nothing.
use Prim.Native.Nat.{ℕ, zero, suc, ◌+◌, ◌-◌, ◌*◌, ◌≤◌, ◌<◌}
use Rattle.std.specs.Prelude.{Option, Some, None}
use mathlib.Core.Path.{◌≡◌, refl, sym, ap, ◌∙◌}
use mathlib.Core.Bool.{Bool, true, false}
use mathlib.Core.List.{List, [], ◌∷◌, ◌++◌, map}
use native.Mathlib.Nat.{mul-le-mul}
use native.Mathlib.Omega.{arith}
use borrow.Author.Tests.{lt-ltb, le-ltb, ltb-true, ltb-false}
use lib.Dec.{ltb}
use lib.ListN.{length, replicate, length-append, length-replicate}
use Rattle.laws.specs.If.{when◌then◌else◌}
use Rattle.utf8.specs.Utf8.{encodes}
use Rattle.sentence.specs.Sentence.{Tag, Sentence, pad, row_bytes}
use Rattle.sentence.specs.declared.Form.{Form}
use Rattle.sentence.specs.Writing.{escape, write_tags}
use Rattle.sentence.proofs.Trips.{escape_append, pad_length}
use Rattle.sheet.specs.declared.Record.{Record}
use Rattle.sheet.specs.Layout.{Buffers, bytes_of, Holds}
use Rattle.sheet.proofs.Held.{length_bytes_of}
use Rattle.sheet.proofs.Look.{bounds}
use Rattle.write_escape.proofs.Bytes.{escape_long}
use Rattle.write_escape.proofs.Encoded.{encodes_tags}
use Rattle.write_items.specs.Items.{most_of, Limited, short_of}

-- ---- the bound is small
pub limited : {r : Record} {d : Buffers} {s : Sentence} → Holds r d s → Limited r
limited h = let b = bounds h in record { n_few = omega arith; b_few = omega arith; columns_few = omega arith; g_few = omega arith }

pub product_few : {r : Record} → Limited r → r.n * (r.columns + 1) ≤ 4096 * 4097
product_few {r} l = mul-le-mul {m₂ = 4097} l.n_few (omega arith)

pub most_few : {r : Record} → Limited r → most_of r ≤ 20000000
unfolding most_of
most_few l = omega (arith, product_few l)

-- ---- tags as they are written
pub tags_long : (f : Form) (ts : List Tag) → length (encodes (write_tags f ts)) ≡ length ts + length (escape f (bytes_of ts))
unfolding write_tags bytes_of escape
tags_long f ts = ap length (encodes_tags f ts) ∙ on ts
  where
    on : (ts : List Tag) → length (write_tags f (map encodes ts)) ≡ length ts + length (escape f (bytes_of ts))
    on [] = refl
    on (t ∷ ts) = rw (escape_append f (encodes t) (bytes_of ts), length-append, length-append) (omega (arith, on ts))

bytes_absent : (r : List Tag) (k : ℕ) → bytes_of (r ++ replicate k []) ≡ bytes_of r
unfolding bytes_of encodes
bytes_absent [] zero = refl
bytes_absent [] (suc k) = bytes_absent [] k
bytes_absent (t ∷ r) k = rw (bytes_absent r k)

pub padded_long : (f : Form) (n : ℕ) (r : List Tag) → length r ≤ n → length (encodes (write_tags f (pad n r))) ≡ n + length (escape f (bytes_of r))
unfolding pad
padded_long f n r h = tags_long f (pad n r) ∙ rw (bytes_absent r (n - length r)) (omega (arith, pad_length n r h))

-- and no longer than with c columns and every byte escaped
pub row_most : (f : Form) (n c : ℕ) (r : List Tag) → n ≤ c → length r ≤ c → length (encodes (write_tags f (pad n r))) ≤ c + 2 * row_bytes r
unfolding pad
row_most f n c r h l =
    omega (arith, tags_long f (pad n r), ap (λ (bs : List ℕ). length (escape f bs)) (bytes_absent r (n - length r)), escape_long f (bytes_of r), length_bytes_of r, length-append r (replicate (n - length r) []), length-replicate {A = Tag} (n - length r) [])

-- ---- too little room: there is enough by the bound, or by the length, or there is not
module _ (room n : ℕ) where
  pub short_most : (m : ℕ) → n ≤ m → m ≤ room → None ≡ short_of room n
  unfolding short_of when◌then◌else◌
  short_most m h k = rw (le-ltb room n (omega arith))

  pub short_enough : {k : ℕ} → k ≡ n → k ≤ room → None ≡ short_of room n
  short_enough {k} e h = short_most n (omega arith) (omega arith)

  pub short_needed : {k : ℕ} → k ≡ n → room < k → Some k ≡ short_of room n
  unfolding short_of when◌then◌else◌
  short_needed e h = rw (lt-ltb room n (omega arith), e)

  -- and what a caller has of the answer
  pub short_none : {k : Option ℕ} → k ≡ short_of room n → k ≡ None → n ≤ room
  unfolding short_of when◌then◌else◌
  short_none {k} e h = on (ltb room n) refl
    where
      on : (t : Bool) → ltb room n ≡ t → n ≤ room
      on true q = let z : Some n ≡ None = sym (rw q at e) ∙ h in cc
      on false q = ltb-false room n q

  pub short_some : {k : Option ℕ} {l : ℕ} → k ≡ short_of room n → k ≡ Some l → (l ≡ n) × (room < n)
  unfolding short_of when◌then◌else◌
  short_some {k} {l} e h = on (ltb room n) refl
    where
      on : (t : Bool) → ltb room n ≡ t → (l ≡ n) × (room < n)
      on true q = let z : Some n ≡ Some l = sym (rw q at e) ∙ h in (cc, ltb-true room n q)
      on false q = let z : None ≡ Some l = sym (rw q at e) ∙ h in cc
