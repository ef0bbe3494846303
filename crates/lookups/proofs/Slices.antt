-- What the answered slices are: a surface's bytes, and those of a cell of Rust's padded table; each lies within its buffer; positions lead back. Assumes nothing.
use Rattle.std.specs.Prelude.{Ok, Err}
use Prim.Native.Nat.{ℕ, zero, suc, ◌+◌, ◌-◌, ◌*◌, ◌≤◌, ◌<◌}
use native.Mathlib.Omega.{arith}
use mathlib.Core.Path.{◌≡◌, refl, sym, ap, ◌∙◌}
use mathlib.Core.Bool.{true, false, not, ◌||◌}
use mathlib.Core.List.{List, [], ◌∷◌, map}
use borrow.Author.Tests.{le-ltb, leb-false, ltb-false, not-false}
use lib.Dec.{leb, ltb}
use lib.ListN.{length, take, drop, get_or}
use Rattle.laws.specs.If.{when◌then◌else◌}
use Rattle.laws.proofs.Facts.{neither}
use Rattle.utf8.specs.Utf8.{encodes, size}
use Rattle.sentence.specs.declared.Refusal.{Refusal}
use Rattle.sentence.specs.Sentence.{Tag, Sentence, text, rows, count, char_positions, byte_positions, pad, table}
use Rattle.sentence.specs.Writing.{surface}
use Rattle.sentence.specs.Refusals.{verdict, sheet_order}
use Rattle.sheet.specs.declared.Record.{Record}
use Rattle.sheet.specs.declared.Span.{Span}
use Rattle.sheet.specs.Answers.{Slice, slice_of}
use Rattle.sheet.specs.Layout.{Buffers, Holds, spell}
use Rattle.sheet.specs.Check.{is_sheet}
use Rattle.sheet.proofs.Held.{length_starts}
use Rattle.sheet.proofs.Exact.{is_sheet_lem}
use Rattle.sheet.proofs.Look.{start_is, number_is, bounds, bytes_before, bytes_more, text_stretch, pad_at, cell_stretch, cell_inside, cell_next, cell_fits, cell_in_row, cell_at, passed}
use Rattle.lookups.specs.Answers.{start_at, str_to_char_pos_of, surface_slice, surface_at, cell, cell_start, tag_slice, tag_at}
use Rattle.lookups.proofs.Laws.{found_at, start_sized}

-- a cell is one of the padded table
pub cell_of_table : (s : Sentence) (row column : ℕ) → row < length (rows s) → get_or (get_or (table s) row []) column [] ≡ cell s row column
cell_of_table s row column h =
    let e : get_or (table s) row [] ≡ pad s.columns (get_or (rows s) row []) = mapped (rows s) row h in
    rw e (pad_at s.columns (get_or (rows s) row []) column)
  where
    mapped : (rs : List (List Tag)) (i : ℕ) → i < length rs → get_or (map (pad s.columns) rs) i [] ≡ pad s.columns (get_or rs i [])
    mapped [] i k = absurd (omega arith)
    mapped (r ∷ rs) zero k = refl
    mapped (r ∷ rs) (suc i) k = mapped rs i (omega arith)

-- a character's byte position leads back to it
pub positions_back : (s : Sentence) (i : ℕ) → i ≤ length (text s) → str_to_char_pos_of true s (start_at s i) ≡ Ok i
unfolding str_to_char_pos_of verdict when◌then◌else◌
positions_back s i h =
    let p : start_at s i ≡ size (take i (text s)) = start_is 0 (text s) i h ∙ omega arith in
    let n : get_or (byte_positions (text s)) (size (take i (text s))) 0 ≡ i = number_is 0 (text s) i h ∙ omega arith in
    rw (
      le-ltb (size (text s)) (start_at s i) (omega (arith, bytes_before (text s) i)),
      found_at (char_positions (text s)) i (start_at s i) (omega (arith, length_starts 0 (text s))) refl,
      p,
      n,
    )

module _ {r : Record} {d : Buffers} {s : Sentence} (h : Holds r d s) where
  -- the bytes of a surface
  pub surface_bytes : (b e : ℕ) → b ≤ e → e ≤ r.n → take (start_at s e - start_at s b) (drop (start_at s b) d.text_buf) ≡ encodes (surface s b e)
  surface_bytes b e k l = rw (start_sized h b (omega arith), start_sized h e l) (text_stretch h b e k l)

  -- it starts before it ends, within the text
  pub surface_fits : (b e : ℕ) → b ≤ e → e ≤ r.n → (start_at s b ≤ start_at s e) × (start_at s e ≤ length d.text_buf)
  surface_fits b e k l =
      let x = start_sized h b (omega arith) in
      let y = start_sized h e l in
      (omega (arith, bytes_more (text s) b e k), omega (arith, bounds h, bytes_before (text s) e))

  -- the bytes of a cell's tag, within the tag bytes
  pub cell_here : (row column : ℕ) → row < r.n → column < r.columns
      → (cell_start (rows s) row column + size (cell s row column) ≤ length d.tag_bytes_buf)
      × (take (size (cell s row column)) (drop (cell_start (rows s) row column) d.tag_bytes_buf) ≡ encodes (cell s row column))
  unfolding cell_start
  cell_here row column k l =
      let j = row * r.columns + column in
      let i = cell_fits h row column k l in
      let t = cell_in_row h row column k l in
      let b = cell_at h row column k (omega arith) in
      let n = cell_next h j i in
      let m = cell_inside h (j + 1) in
      (rw (← b, ← t) (omega (arith, bounds h)), rw (← b, ← t) (cell_stretch h j i))

-- ---- an answered slice lies within its buffer
-- slices that are equal start at one byte, and end at one
same_parts : {b e p q : ℕ} → slice_of b e ≡ slice_of p q → (b ≡ p) × (e ≡ q)
same_parts {b} {e} {p} {q} h =
    let s : ◌≡◌ {A = Span} (record { start = b; end = e }) (record { start = p; end = q }) = cc in
    (ap (λ (x : Span). x.start) s, ap (λ (x : Span). x.end) s)

apart : (p q : ℕ) (x : Refusal) → Err x ≡ slice_of p q → ⊥
apart p q x e = let z : ◌≡◌ {A = ℕ} 0 1 = cc in omega arith

pub tag_bounds : (at : ℕ) (t : Tag) (p q : ℕ) → tag_slice at t ≡ slice_of p q → (p ≡ at) × (q ≡ at + size t) × (t ≡ [] → ⊥)
unfolding tag_slice
tag_bounds at [] p q e = absurd (let z : ◌≡◌ {A = ℕ} 0 1 = cc in omega arith)
tag_bounds at (c ∷ t) p q e =
    let k = same_parts e in
    (sym k.0, sym k.1, λ z. let y : ◌≡◌ {A = ℕ} 0 1 = cc in omega arith)

pub surface_within : (r : Record) (d : Buffers) (b e : ℕ) (a : Slice) (p q : ℕ) → a ≡ surface_at (is_sheet r d) (spell r d) b e → a ≡ slice_of p q
    → (p ≤ q) × (q ≤ length d.text_buf)
unfolding surface_at
surface_within r d b e a p q f g =
    let s = spell r d in
    let k = passed Err (slice_of p q) (apart p q) (sheet_order (not (is_sheet r d)) (leb e b || ltb (count s) e) b false 0) (surface_slice s b e) (sym f ∙ g) in
    let h = is_sheet_lem r d (not-false _ k.0.0) in
    let o = neither (leb e b) (ltb (count s) e) k.0.1.0 in
    let n = same_parts k.1 in
    rw (← n.0, ← n.1) (surface_fits h b e (omega (arith, leb-false e b o.0)) (omega (arith, ltb-false (count s) e o.1, bounds h)))

pub tag_within : (r : Record) (d : Buffers) (row column : ℕ) (a : Slice) (p q : ℕ) → a ≡ tag_at (is_sheet r d) (spell r d) row column → a ≡ slice_of p q
    → (p ≤ q) × (q ≤ length d.tag_bytes_buf)
unfolding tag_at
tag_within r d row column a p q f g =
    let s = spell r d in
    let t = tag_slice (cell_start (rows s) row column) (cell s row column) in
    let k = passed Err (slice_of p q) (apart p q) (sheet_order (not (is_sheet r d)) (leb (count s) row || leb s.columns column) row false 0) t (sym f ∙ g) in
    let h = is_sheet_lem r d (not-false _ k.0.0) in
    let o = neither (leb (count s) row) (leb s.columns column) k.0.1.0 in
    let z = tag_bounds (cell_start (rows s) row column) (cell s row column) p q k.1 in
    let i = (cell_here h row column (omega (arith, leb-false (count s) row o.0, bounds h)) (omega (arith, leb-false s.columns column o.1, bounds h))).0 in
    (omega (arith, z.0, z.1), omega (arith, z.1))
