-- What the calls that write or measure a stretch of the line ask, and what they give. Assumes nothing.
use Prim.Native.Nat.{ℕ, zero, suc, ◌+◌, ◌-◌, ◌*◌, ◌≤◌, ◌<◌}
use mathlib.Core.Path.{◌≡◌, refl, sym}
use mathlib.Core.List.{List, [], ◌∷◌, ◌++◌}
use native.Mathlib.Omega.{arith}
use lib.ListN.{length, take, drop, get_or, set}
use Rattle.sentence.specs.declared.Form.TheVariants.{Partial as partial}
use Rattle.sentence.specs.Writing.{escape}
use Rattle.write_escape.specs.Wrote.{Wrote, Writing, write_start, write_byte, write_item, write_keep, write_fits, write_done}
use Rattle.write_items.specs.Items.{count_at, bytes_to, Follow, TextLies, RowLies, char_line}
use Rattle.write_items.proofs.Cells.{fewer}
use Rattle.sheet.specs.declared.Sheet.{Sheet as Lent}
use Rattle.write_partial.specs.Line.{LieIn, Narrow, stretch_of, before_of, rest_of, slashes_of}
use Rattle.write_partial.proofs.Count.{bytes_first, grown, before_sum, rest_sum}

less : (s : Lent) {n : ℕ} (k : ℕ) → k ≤ n → LieIn s n → LieIn s k
less s k l t = (record { lies = λ i x. t.0.lies i (omega arith) }, record { lies = λ i x. t.1.lies i (omega arith) })

module _ (s : Lent) (n : ℕ) where
  abbrev text : List ℕ
  text = s.text.now

  abbrev bs : List ℕ
  bs = s.boundaries.now

  abbrev ps : List ℕ
  ps = s.char_pos.now

  abbrev ss : List ℕ
  ss = s.cell_starts.now

  abbrev ls : List ℕ
  ls = s.cell_lengths.now

  abbrev ds : List ℕ
  ds = s.tag_bytes.now

  abbrev m : ℕ
  m = s.record.columns

  abbrev stretch : ℕ → ℕ → List ℕ
  stretch i k = stretch_of text bs ps ss ls ds m n i k

  -- what a stretch up to `upto` asks
  abbrev pub Stretch : List ℕ → ℕ → ℕ → ℕ → Type 0
  Stretch out at i upto = LieIn s upto × (i ≤ upto) × (upto ≤ length bs) × (at + length (stretch i (upto - i)) ≤ length out)

  -- ---- the characters before `start`
  pub before_none : (start : ℕ) → start ≡ 0 → [] ≡ before_of text bs ps ss ls ds m n start
  unfolding before_of
  before_none start q = rw q

  pub before_empty : (start : ℕ) (out : List ℕ) → start ≡ 0 → Wrote out 0 (before_of text bs ps ss ls ds m n start) out 0
  before_empty start out q = rw (← (before_none start q)) (record { bytes = refl; end = refl })

  before_suc : (p : ℕ) → before_of text bs ps ss ls ds m n (suc p) ≡ stretch 0 (suc p - 1 - 0) ++ (char_line 0 text ps ss ls ds m (suc p - 1) ++ (32 ∷ []))
  unfolding before_of
  before_suc p = let z : suc p - 1 ≡ p = omega arith in let y : p - 0 ≡ p = omega arith in rw (z, y)

  module _ (start : ℕ) (q : start ≡ 0 → ⊥) where
    before_is : before_of text bs ps ss ls ds m n start ≡ stretch 0 (start - 1 - 0) ++ (char_line 0 text ps ss ls ds m (start - 1) ++ (32 ∷ []))
    before_is = on start q
      where
        on : (k : ℕ) → (k ≡ 0 → ⊥) → before_of text bs ps ss ls ds m n k ≡ stretch 0 (k - 1 - 0) ++ (char_line 0 text ps ss ls ds m (k - 1) ++ (32 ∷ []))
        on zero z = absurd (z refl)
        on (suc p) z = before_suc p

    module _ (out : List ℕ) (t : LieIn s start) (long : start ≤ length bs + 1) (room : length (before_of text bs ps ss ls ds m n start) ≤ length out) where
      begun : Writing out 0 (before_of text bs ps ss ls ds m n start) out 0 (stretch 0 (start - 1 - 0) ++ (char_line 0 text ps ss ls ds m (start - 1) ++ (32 ∷ [])))
      begun = write_keep (write_start out 0 (before_of text bs ps ss ls ds m n start) (omega arith)) before_is

      pub before_first : Stretch out 0 0 (start - 1)
      before_first = (less s (start - 1) (omega arith) t, omega arith, omega arith, write_fits begun (stretch 0 (start - 1 - 0)) _ refl)

      module _ {out₁ : List ℕ} {at₁ : ℕ} (c : Wrote out 0 (stretch 0 (start - 1 - 0)) out₁ at₁) where
        halfway : Writing out 0 (before_of text bs ps ss ls ds m n start) out₁ at₁ (char_line 0 text ps ss ls ds m (start - 1) ++ (32 ∷ []))
        halfway = write_item begun refl c

        pub before_then : TextLies ps text (start - 1) (start - 1 + 1) × RowLies ss ls ds m (start - 1) × (at₁ + length (char_line 0 text ps ss ls ds m (start - 1)) ≤ length out₁)
        before_then = (t.0.lies (start - 1) (omega arith), t.1.lies (start - 1) (omega arith), write_fits halfway (char_line 0 text ps ss ls ds m (start - 1)) _ refl)

        module _ {out₂ : List ℕ} {at₂ : ℕ} (o : Wrote out₁ at₁ (char_line 0 text ps ss ls ds m (start - 1)) out₂ at₂) where
          nearly : Writing out 0 (before_of text bs ps ss ls ds m n start) out₂ at₂ (32 ∷ [])
          nearly = write_item halfway refl o

          pub before_byte : at₂ < length out₂
          before_byte = omega (arith, write_fits nearly (32 ∷ []) [] refl)

          pub before_inside : at₂ < length out
          before_inside = omega (arith, before_byte, nearly.long)

          pub before_done : Wrote out 0 (before_of text bs ps ss ls ds m n start) (set out₂ at₂ 32) (at₂ + 1)
          before_done = write_done (write_byte nearly refl) refl

  -- ---- how long these are
  pub record BeforeSum (start : ℕ) : Type 0 where
    pub first_in : 0 < length ps
    pub start_in : start < length ps
    pub climbs : get_or ps 0 0 ≤ get_or ps start 0
    pub less_lie : LieIn s (start - 1)
    pub last_in : start - 1 ≤ length bs
    pub row : Follow ss ls ((start - 1) * m + m)
    pub cells : Follow ss ls (start * m)
    pub bytes_in : bytes_to ss ls (start * m) ≤ length ds
    pub sum : get_or ps start 0 - get_or ps 0 0 + start + slashes_of bs ls m n 0 (start - 1 - 0) + count_at ls m (start - 1) + length (escape partial (drop 0 (take (bytes_to ss ls (start * m)) ds)))
        ≡ length (before_of text bs ps ss ls ds m n start)

  pub before_facts : (start : ℕ) → (start ≡ 0 → ⊥) → LieIn s start → Narrow ls m n 0 start → start ≤ length bs + 1 → BeforeSum start
  before_facts zero q t f long = absurd (q refl)
  before_facts (suc p) q t f long =
      let z : suc p ≡ p + 1 = omega arith in
      let y : p + 1 - 1 ≡ p = omega arith in
      let x : p - 0 ≡ p = omega arith in
      let v = t.1.lies p (omega arith) in
      let o : (p + 1) * m ≡ p * m + m = omega arith in
      let g = grown text ps ss ls ds m (suc p) t.0 t.1 0 (p + 1) (omega arith) (omega arith) in
      rw z
      (record {
        first_in = omega (arith, (t.0.lies p (omega arith)).from);
        start_in = (t.0.lies p (omega arith)).upto;
        climbs = g.climbs;
        less_lie = rw y (less s p (omega arith) t);
        last_in = omega arith;
        row = rw y v.cells;
        cells = rw o v.cells;
        bytes_in = g.bytes.within;
        sum = rw (y, x) (sym (rw (z, bytes_first ss ls ds m) at (before_sum n text bs ps ss ls ds m p (rw z at t.0) (rw z at t.1) (rw z at f))));
      })

  pub record RestSum (i last : ℕ) : Type 0 where
    pub first_in : i < length ps
    pub last_in : last + 1 < length ps
    pub climbs : get_or ps i 0 ≤ get_or ps (last + 1) 0
    pub less_lie : LieIn s last
    pub first : Follow ss ls (i * m)
    pub cells : Follow ss ls ((last + 1) * m)
    pub rises : bytes_to ss ls (i * m) ≤ bytes_to ss ls ((last + 1) * m)
    pub bytes_in : bytes_to ss ls ((last + 1) * m) ≤ length ds
    pub sum : get_or ps (last + 1) 0 - get_or ps i 0 + (last - i) + slashes_of bs ls m n i (last - i) + n + length (escape partial (drop (bytes_to ss ls (i * m)) (take (bytes_to ss ls ((last + 1) * m)) ds)))
        ≡ length (rest_of text bs ps ss ls ds m n i last)

  pub rest_facts : (i last : ℕ) → LieIn s (last + 1) → Narrow ls m n i (last + 1) → i ≤ last → RestSum i last
  rest_facts i last t f l =
      let v = t.1.lies last (omega arith) in
      let u = t.1.lies i (omega arith) in
      let o : (last + 1) * m ≡ last * m + m = omega arith in
      let g = grown text ps ss ls ds m (last + 1) t.0 t.1 i (last + 1) (omega arith) (omega arith) in
      record {
        first_in = (t.0.lies i (omega arith)).from;
        last_in = (t.0.lies last (omega arith)).upto;
        climbs = g.climbs;
        less_lie = less s last (omega arith) t;
        first = fewer (i * m) (omega arith) u.cells;
        cells = rw o v.cells;
        rises = g.bytes.rises;
        bytes_in = g.bytes.within;
        sum = sym (rest_sum n text bs ps ss ls ds m i last l t.0 t.1 f);
      }

  -- the tag bytes of these characters lie in the buffer
  pub slice_within : {i last x y : ℕ} → RestSum i last → x ≡ bytes_to ss ls (i * m) → y ≡ bytes_to ss ls ((last + 1) * m) → (x ≤ y) × (y ≤ length ds)
  slice_within f p q = (omega (arith, f.rises), omega (arith, f.bytes_in))
