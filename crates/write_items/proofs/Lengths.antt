-- How long tags, characters and tokens are as they are written. Assumes nothing.
use Prim.Native.Nat.{ℕ, zero, suc, ◌+◌, ◌-◌, ◌*◌, ◌^◌, ◌≤◌, ◌<◌}
use mathlib.Core.Path.{◌≡◌, refl, ap, ◌∙◌}
use mathlib.Core.List.{List, ◌++◌}
use mir.Val.{Fits}
use mir.Syntax.{w64}
use native.Mathlib.Nat.{add-zero}
use native.Mathlib.Omega.{arith}
use lib.ListN.{length, take, drop, get_or, replicate, length-append, length-drop, length-replicate}
use lib.Seq.{take-add, drop_at, drop-append-le, length-take-le, slice_empty}
use Rattle.sentence.specs.declared.Form.{Form}
use Rattle.sentence.specs.declared.Form.TheVariants.{Tokenized as tokenized, Partial as partial}
use Rattle.sentence.specs.Writing.{escape, write_tags}
use Rattle.sentence.proofs.Trips.{escape_append}
use Rattle.sheet.proofs.Look.{stretch_left}
use Rattle.write_items.specs.Items.{cell_tag, cell_tags, row_at, count_at, bytes_to, row_line, Lie, RowLies, TextLies, text_at, char_line}
use Rattle.write_items.proofs.Cells.{fewer_lie, bytes_next, bytes_rise, used_few, used_bytes}
use Rattle.write_items.proofs.Tags.{row_split}

-- a slice from a up to c is one up to b and one from there
pub join : (d : List ℕ) (a b c : ℕ) → a ≤ b → b ≤ c → c ≤ length d → drop a (take b d) ++ drop b (take c d) ≡ drop a (take c d)
join d a b c h k l =
    let n : b + (c - b) ≡ c = omega arith in
    let long = length-take-le b d (omega arith) in
    let whole : take c d ≡ take b d ++ take (c - b) (drop b d) = rw n at (take-add b (c - b) d) in
    rw (whole, drop_at (take b d) (take (c - b) (drop b d)) b long, drop-append-le a (take b d) (take (c - b) (drop b d)) (omega arith))

-- a character's text
pub text_long : (ps text : List ℕ) (i : ℕ) → TextLies ps text i (i + 1) → length (text_at ps text i (i + 1)) ≡ get_or ps (i + 1) 0 - get_or ps i 0
text_long ps text i t =
    let x = get_or ps i 0 in
    let y = get_or ps (i + 1) 0 in
    ap length (stretch_left text x y) ∙ length-take-le (y - x) (drop x text) (omega (arith, length-drop x text, t.within))

-- the tags of n cells from the k-th on take a slash each, and their bytes as one slice
record Flat (f : Form) (ss ls d : List ℕ) (k n : ℕ) : Type 0 where
  within : bytes_to ss ls (k + n) ≤ length d
  bytes : length (write_tags f (cell_tags ss ls d k n)) ≡ n + length (escape f (drop (bytes_to ss ls k) (take (bytes_to ss ls (k + n)) d)))

first : (ss ls d : List ℕ) (k e : ℕ) → k ≤ e → Lie ss ls e (length d) → bytes_to ss ls k ≤ length d
first ss ls d zero e u l = omega arith
first ss ls d (suc k) e u l = l.within k u

tags_flat : (f : Form) (ss ls d : List ℕ) (k n : ℕ) → Lie ss ls (k + n) (length d) → Flat f ss ls d k n
unfolding cell_tags write_tags cell_tag escape
tags_flat f ss ls d k zero h = record { within = first ss ls d (k + 0) (k + 0) (omega arith) h; bytes = rw (add-zero, slice_empty (bytes_to ss ls k) d) }
tags_flat f ss ls d k (suc n) h =
    let e : k + 1 + n ≡ k + suc n = omega arith in
    let m = bytes_next ss ls k in
    let s = h.cells.follows k (omega arith) in
    let i = tags_flat f ss ls d (k + 1) n (rw e h) in
    let up : bytes_to ss ls k ≤ bytes_to ss ls (k + 1) = omega arith in
    let r = rw e at (bytes_rise ss ls (k + 1) n (rw e h.cells)) in
    let w = rw e at i.within in
    let x = escape f (drop (bytes_to ss ls k) (take (bytes_to ss ls (k + 1)) d)) in
    record {
      within = w;
      bytes = rw (← m, s, ← (join d (bytes_to ss ls k) (bytes_to ss ls (k + 1)) (bytes_to ss ls (k + suc n)) up r w), escape_append f _ _, length-append x _, length-append x _)
          (omega (arith, rw e at i.bytes));
    }

-- ---- a row of m cells, whose bytes are those from x up to y
module _ (ss ls d : List ℕ) (m i : ℕ) {x y : ℕ} (p : x ≡ bytes_to ss ls (i * m)) (q : y ≡ bytes_to ss ls (i * m + m)) (h : RowLies ss ls d m i) where
  pub row_bytes_lem : (x ≤ y) × (y ≤ length d)
  row_bytes_lem = (omega (arith, bytes_rise ss ls (i * m) m h.cells), omega (arith, first ss ls d (i * m + m) (i * m + m) (omega arith) h))

  -- it takes a slash for each tag, those bytes, and a slash for each column behind the last tag
  pub row_sum : (f : Form) (n : ℕ) → length (row_line f n (row_at ss ls d m i)) ≡ count_at ls m i + (n - count_at ls m i) + length (escape f (drop x (take y d)))
  row_sum f n =
      let c = count_at ls m i in
      let e : i * m + c - i * m ≡ c = omega arith in
      let g = tags_flat f ss ls d (i * m) c (fewer_lie (i * m + c) (omega (arith, used_few ls (i * m) m)) h) in
      let v = write_tags f (cell_tags ss ls d (i * m) c) in
      let z = replicate {A = ℕ} (n - c) 47 in
      rw (rw e at (row_split f n ss ls d m i refl), length-append v z, length-replicate {A = ℕ} (n - c) 47, p, q)
      (omega (arith, rw (used_bytes ls (i * m) ss m h.cells) at g.bytes))

-- so, where all its cells are written, a slash for each, and those bytes
module _ (ss ls d : List ℕ) (m i : ℕ) {x y t : ℕ} (p : x ≡ bytes_to ss ls (i * m)) (q : y ≡ bytes_to ss ls (i * m + m)) (h : RowLies ss ls d m i)
    (u : t ≡ length (escape tokenized (drop x (take y d)))) where
  pub row_long : m + t ≡ length (row_line tokenized m (row_at ss ls d m i))
  row_long = omega (arith, row_sum ss ls d m i p q h tokenized m, u, used_few ls (i * m) m)

  pub row_room : length (row_line tokenized m (row_at ss ls d m i)) < 2 ^ 32 → Fits w64 (m + t)
  row_room l = omega (arith, row_long)

-- a character takes its text, and its row
pub char_sum : (n : ℕ) (text ps ss ls d : List ℕ) (m i : ℕ) → TextLies ps text i (i + 1) → RowLies ss ls d m i
    → length (char_line n text ps ss ls d m i)
    ≡ get_or ps (i + 1) 0 - get_or ps i 0 + (count_at ls m i + (n - count_at ls m i)) + length (escape partial (drop (bytes_to ss ls (i * m)) (take (bytes_to ss ls ((i + 1) * m)) d)))
char_sum n text ps ss ls d m i t h =
    let e : (i + 1) * m ≡ i * m + m = omega arith in
    let s = row_sum ss ls d m i refl refl h partial n in
    rw e (omega (arith, s, text_long ps text i t, length-append (text_at ps text i (i + 1)) (row_line partial n (row_at ss ls d m i))))
