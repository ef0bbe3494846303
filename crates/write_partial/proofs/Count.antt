-- How long the partial line of a sheet is, with a range hidden: a bound, the length of each stretch, and a loop that counts slashes. Assumes nothing.
use Prim.Native.Nat.{ℕ, zero, suc, ◌+◌, ◌-◌, ◌*◌, ◌≤◌, ◌<◌}
use mathlib.Core.Path.{◌≡◌, refl}
use mathlib.Core.Bool.{Bool, true, false}
use mathlib.Core.List.{List, [], ◌∷◌}
use native.Mathlib.Nat.{add-zero}
use native.Mathlib.Omega.{arith}
use borrow.Author.Tests.{ltb-true, ltb-false}
use lib.Dec.{eqb, ltb}
use lib.ListN.{length, take, drop, get_or, length-append}
use lib.Seq.{slice_empty}
use Rattle.laws.specs.If.{when◌then◌else◌, if_true, if_false}
use Rattle.utf8.specs.Utf8.{width, encodes, size}
use Rattle.utf8.proofs.Codec.{length_encode, encodes_append}
use Rattle.sentence.specs.Sentence.{Tag, Mark, none, word, unknown, Cells, final, cell, text_of, rows_of, row_bytes, tag_bytes, Row, CellsOf}
use Rattle.sentence.specs.declared.Form.TheVariants.{Partial as partial}
use Rattle.sentence.specs.Writing.{escape, write_tags, sign, shown, write_partial, line, written}
use Rattle.sentence.specs.Withheld.{hidden}
use Rattle.sentence.proofs.Trips.{escape_append}
use Rattle.sentence.proofs.Withheld.{text_hidden, bytes_hidden, cells_hidden}
use Rattle.sheet.specs.declared.Record.{Record}
use Rattle.sheet.specs.Layout.{Buffers, spell, Sheet}
use Rattle.sheet.proofs.Held.{columns_held}
use Rattle.sheet.proofs.Look.{bounds}
use Rattle.write_items.specs.Items.{count_at, bytes_to, RowLies, text_at, char_line, most_of}
use Rattle.write_items.proofs.Lengths.{join, text_long, row_bytes_lem, char_sum}
use Rattle.write_items.proofs.Room.{limited, most_few, row_most}
use Rattle.write_partial.specs.Line.{shown_of, Spread, Rows, Narrow, stretch_of, covered_of, before_of, rest_of, slashes_of}
use Rattle.write_partial.proofs.Stretches.{pad_none}

-- ---- the bound: every byte escaped, and c columns for each character
shown_most : (n c : ℕ) (m : Mark) (r : List Tag) → n ≤ c → Row c r → length (encodes (write_tags partial (shown n m r))) ≤ c + 2 * row_bytes r
unfolding shown
shown_most n c none r l h = rw h.is_cut (rw (pad_none r) at (row_most partial 0 c r (omega arith) h.fits))
shown_most n c word r l h = row_most partial n c r l h.fits
shown_most n c unknown r l h = rw h.is_cut (rw (pad_none r) at (row_most partial 0 c r (omega arith) h.fits))

sign_wide : (m : Mark) → width (sign m) ≡ 1
unfolding width sign when◌then◌else◌
sign_wide none = refl
sign_wide word = refl
sign_wide unknown = refl

cells_most : (n c : ℕ) (u : Cells) → n ≤ c → CellsOf c u → length (encodes (write_partial n u)) ≤ size (text_of u) + length (text_of u) * (c + 1) + 2 * tag_bytes (rows_of u)
unfolding write_partial text_of rows_of size encodes tag_bytes
cells_most n c (final x r) l h = rw (length-append, length_encode) (omega (arith, row_most partial n c r l h.1.fits))
cells_most n c (cell x r m u) l h =
    let w = encodes (write_tags partial (shown n m r)) in
    rw (length-append, length_encode, encodes_append (write_tags partial (shown n m r)) (sign m ∷ write_partial n u), length-append w _, length-append, length_encode, sign_wide m)
    (omega (arith, shown_most n c m r l h.1, cells_most n c u l h.2))

module _ {r : Record} {d : Buffers} (h : Sheet r d) (n b e : ℕ) (l : n ≤ r.columns) where
  pub line_most : length (written partial (shown_of n b e (spell r d))) ≤ most_of r
  unfolding most_of line
  line_most =
      let u = (spell r d).cells in
      let k = rw (text_hidden b e 0 u, ← (bounds h).n_is, ← (bounds h).b_is, ← (columns_held h)) at (cells_most n (spell r d).columns (hidden b e 0 u) (omega (arith, columns_held h)) (cells_hidden b e 0 (spell r d).columns u h.formed.cells_are)) in
      omega (arith, k, bounds h, bytes_hidden b e 0 u)

  pub line_few : length (written partial (shown_of n b e (spell r d))) ≤ 20000000
  line_few = omega (arith, line_most, most_few (limited h))

-- ---- what the first n characters of a sheet rise by
module _ (ss ls ds : List ℕ) (m : ℕ) where
  -- the tag bytes of the rows from b up to e, and how long they are where they are escaped
  abbrev pub escaped_in : ℕ → ℕ → ℕ
  escaped_in b e = length (escape partial (drop (bytes_to ss ls (b * m)) (take (bytes_to ss ls (e * m)) ds)))

  -- none before the first row
  pub bytes_first : bytes_to ss ls (0 * m) ≡ 0
  bytes_first = let z : 0 * m ≡ 0 = omega arith in rw z

  pub record Bytes (b e : ℕ) : Type 0 where
    pub rises : bytes_to ss ls (b * m) ≤ bytes_to ss ls (e * m)
    pub within : bytes_to ss ls (e * m) ≤ length ds

  bytes_one : (i : ℕ) → RowLies ss ls ds m i → Bytes i (i + 1)
  bytes_one i h =
      let e : (i + 1) * m ≡ i * m + m = omega arith in
      let p = row_bytes_lem ss ls ds m i refl refl h in
      record { rises = rw e p.0; within = rw e p.1 }

  -- of one stretch and another behind it
  escaped_both : (b c e : ℕ) → Bytes b c → Bytes c e → escaped_in b c + escaped_in c e ≡ escaped_in b e
  escaped_both b c e p q =
      let x = bytes_to ss ls (b * m) in
      let y = bytes_to ss ls (c * m) in
      let z = bytes_to ss ls (e * m) in
      let u = escape partial (drop x (take y ds)) in
      rw (← (join ds x y z p.rises q.rises q.within), escape_append partial _ _, length-append u _)

module _ (text ps ss ls ds : List ℕ) (m : ℕ) where
  pub record Grown (b e : ℕ) : Type 0 where
    pub climbs : get_or ps b 0 ≤ get_or ps e 0
    pub bytes : Bytes ss ls ds m b e

  module _ (n : ℕ) (t : Spread ps text n) (w : Rows ss ls ds m n) where
    grown_from : (k i : ℕ) → i + k < n → Grown i (i + k + 1)
    grown_from zero i l = rw add-zero (record { climbs = (t.lies i (omega arith)).rises; bytes = bytes_one ss ls ds m i (w.lies i (omega arith)) })
    grown_from (suc k) i l =
        let g = grown_from k (i + 1) (omega arith) in
        let q : i + 1 + k + 1 ≡ i + suc k + 1 = omega arith in
        let o = rw q at g in
        let b = bytes_one ss ls ds m i (w.lies i (omega arith)) in
        record {
          climbs = omega (arith, (t.lies i (omega arith)).rises, o.climbs);
          bytes = record { rises = omega (arith, b.rises, o.bytes.rises); within = o.bytes.within };
        }

    pub grown : (b e : ℕ) → b < e → e ≤ n → Grown b e
    grown b e l f = let q : b + (e - b - 1) + 1 ≡ e = omega arith in rw q at (grown_from (e - b - 1) b (omega arith))

    -- with no step too
    span : (b e : ℕ) → b ≤ e → 1 ≤ e → e ≤ n → Grown b e
    span b e l o f = on (ltb b e) refl
      where
        on : (v : Bool) → ltb b e ≡ v → Grown b e
        on true q = grown b e (ltb-true b e q) f
        on false q =
            let z : b ≡ e = omega (arith, ltb-false b e q) in
            rw z (record { climbs = omega arith; bytes = record { rises = omega arith; within = (grown (e - 1) e (omega arith) f).bytes.within } })

-- ---- the length of each stretch
module _ (n : ℕ) (text bs ps ss ls ds : List ℕ) (m : ℕ) where
  slashed : (i : ℕ) → count_at ls m i ≤ n → count_at ls m i + ((when eqb (get_or bs i 0) 1 then n else 0) - count_at ls m i) ≡ (when eqb (get_or bs i 0) 1 then n else count_at ls m i)
  slashed i l = on (eqb (get_or bs i 0) 1) refl
    where
      on : (v : Bool) → eqb (get_or bs i 0) 1 ≡ v → count_at ls m i + ((when v then n else 0) - count_at ls m i) ≡ (when v then n else count_at ls m i)
      on true q = rw (if_true true n 0 refl, if_true true n (count_at ls m i) refl) (omega arith)
      on false q = rw (if_false false n 0 refl, if_false false n (count_at ls m i) refl) (omega arith)

  pub stretch_sum : (k i : ℕ) → Spread ps text (i + k) → Rows ss ls ds m (i + k) → Narrow ls m n i (i + k)
      → length (stretch_of text bs ps ss ls ds m n i k) ≡ get_or ps (i + k) 0 - get_or ps i 0 + k + slashes_of bs ls m n i k + escaped_in ss ls ds m i (i + k)
  unfolding stretch_of slashes_of escape
  stretch_sum zero i t w f = let z : i + 0 ≡ i = omega arith in rw (z, slice_empty (bytes_to ss ls (i * m)) ds) (omega arith)
  stretch_sum (suc k) i t w f =
      let q : i + suc k ≡ i + 1 + k = omega arith in
      let h = stretch_sum k (i + 1) (rw q at t) (rw q at w) (record { few = λ j x y. f.few j (omega arith) (omega arith) }) in
      let x = when eqb (get_or bs i 0) 1 then n else 0 in
      let c = char_sum x text ps ss ls ds m i (t.lies i (omega arith)) (w.lies i (omega arith)) in
      let g = span text ps ss ls ds m (i + suc k) t w i (i + 1) (omega arith) (omega arith) (omega arith) in
      let o = span text ps ss ls ds m (i + suc k) t w (i + 1) (i + 1 + k) (omega arith) (omega arith) (omega arith) in
      rw (length-append (char_line x text ps ss ls ds m i) _, q)
      (omega (arith, h, c, slashed i (f.few i (omega arith) (omega arith)), g.climbs, o.climbs, escaped_both ss ls ds m i (i + 1) (i + 1 + k) g.bytes o.bytes))

  pub before_sum : (p : ℕ) → Spread ps text (p + 1) → Rows ss ls ds m (p + 1) → Narrow ls m n 0 (p + 1)
      → length (before_of text bs ps ss ls ds m n (suc p)) ≡ get_or ps (p + 1) 0 - get_or ps 0 0 + (p + 1) + slashes_of bs ls m n 0 p + count_at ls m p + escaped_in ss ls ds m 0 (p + 1)
  unfolding before_of
  before_sum p t w f =
      let y : 0 + p ≡ p = omega arith in
      let h = rw y at (stretch_sum p 0 (record { lies = λ i x. t.lies i (omega arith) }) (record { lies = λ i x. w.lies i (omega arith) }) (record { few = λ j x y. f.few j (omega arith) (omega arith) })) in
      let c = char_sum 0 text ps ss ls ds m p (t.lies p (omega arith)) (w.lies p (omega arith)) in
      let g = span text ps ss ls ds m (p + 1) t w p (p + 1) (omega arith) (omega arith) (omega arith) in
      let o = first_span p t w in
      rw (length-append (stretch_of text bs ps ss ls ds m n 0 p) _, length-append (char_line 0 text ps ss ls ds m p) (32 ∷ []))
      (omega (arith, h, c, g.climbs, o.climbs, escaped_both ss ls ds m 0 p (p + 1) o.bytes g.bytes))
    where
      first_span : (p : ℕ) → Spread ps text (p + 1) → Rows ss ls ds m (p + 1) → Grown text ps ss ls ds m 0 p
      first_span zero t w = record { climbs = omega arith; bytes = record { rises = omega arith; within = omega (arith, bytes_first ss ls ds m) } }
      first_span (suc p) t w = span text ps ss ls ds m (suc p + 1) t w 0 (suc p) (omega arith) (omega arith) (omega arith)

  pub rest_sum : (i last : ℕ) → i ≤ last → Spread ps text (last + 1) → Rows ss ls ds m (last + 1) → Narrow ls m n i (last + 1)
      → length (rest_of text bs ps ss ls ds m n i last) ≡ get_or ps (last + 1) 0 - get_or ps i 0 + (last - i) + slashes_of bs ls m n i (last - i) + n + escaped_in ss ls ds m i (last + 1)
  rest_sum i last l t w f =
      let q : i + (last - i) ≡ last = omega arith in
      let h = rw q at (stretch_sum (last - i) i (record { lies = λ j x. t.lies j (omega arith) }) (record { lies = λ j x. w.lies j (omega arith) }) (record { few = λ j x y. f.few j (omega arith) (omega arith) })) in
      let c = char_sum n text ps ss ls ds m last (t.lies last (omega arith)) (w.lies last (omega arith)) in
      let g = span text ps ss ls ds m (last + 1) t w last (last + 1) (omega arith) (omega arith) (omega arith) in
      let o = whole_span i last l t w in
      rw (length-append (stretch_of text bs ps ss ls ds m n i (last - i)) (char_line n text ps ss ls ds m last))
      (omega (arith, h, c, f.few last (omega arith) (omega arith), g.climbs, o.climbs, escaped_both ss ls ds m i last (last + 1) o.bytes g.bytes))
    where
      whole_span : (i last : ℕ) → i ≤ last → Spread ps text (last + 1) → Rows ss ls ds m (last + 1) → Grown text ps ss ls ds m i last
      whole_span zero zero l t w = record { climbs = omega arith; bytes = record { rises = omega arith; within = omega (arith, bytes_first ss ls ds m) } }
      whole_span (suc i) zero l t w = absurd (omega arith)
      whole_span i (suc last) l t w = span text ps ss ls ds m (suc last + 1) t w i (suc last) (omega arith) (omega arith) (omega arith)

  pub climbs : (k i : ℕ) → Spread ps text (i + k) → get_or ps i 0 ≤ get_or ps (i + k) 0
  climbs zero i t = let z : i + 0 ≡ i = omega arith in rw z (omega arith)
  climbs (suc k) i t = let q : i + suc k ≡ i + 1 + k = omega arith in rw q (omega (arith, (t.lies i (omega arith)).rises, climbs k (i + 1) (rw q at t)))

  pub covered_sum : (k i : ℕ) → Spread ps text (i + k) → length (covered_of text ps i k) ≡ get_or ps (i + k) 0 - get_or ps i 0 + k
  unfolding covered_of
  covered_sum zero i t = let z : i + 0 ≡ i = omega arith in rw z (omega arith)
  covered_sum (suc k) i t =
      let q : i + suc k ≡ i + 1 + k = omega arith in
      rw (length-append (text_at ps text i (i + 1)) _, q)
      (omega (arith, covered_sum k (i + 1) (rw q at t), text_long ps text i (t.lies i (omega arith)), (t.lies i (omega arith)).rises, climbs k (i + 1) (rw q at t)))
