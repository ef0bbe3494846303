-- The line of a sheet put together from its stretches, and measured one by one. Assumes nothing.
use Prim.Native.Nat.{ℕ, ◌+◌, ◌-◌, ◌^◌, ◌≤◌, ◌<◌}
use mathlib.Core.Path.{◌≡◌, refl, sym, ap, ◌∙◌}
use mathlib.Core.Bool.{Bool, true, false}
use mathlib.Core.List.{List, [], ◌++◌, append-nil}
use native.Mathlib.Omega.{arith}
use borrow.Author.Tests.{eqb-true, eqb-false}
use lib.Dec.{eqb}
use lib.ListN.{length, get_or, replicate, length-append, length-replicate}
use Rattle.sentence.specs.declared.Form.TheVariants.{Partial as partial}
use Rattle.sentence.specs.Writing.{written}
use Rattle.sentence.proofs.Withheld.{out_before, out_behind, none_in}
use Rattle.sheet.specs.declared.Record.{Record}
use Rattle.sheet.specs.Layout.{Buffers, spell, Sheet}
use Rattle.sheet.proofs.Look.{bounds}
use Rattle.write_escape.specs.Wrote.{Wrote, Lined, lined, Writing, write_start, write_item, write_keep, write_fits, write_done}
use Rattle.write_items.proofs.Lengths.{text_long}
use Rattle.write_items.proofs.Held.{text_lies, row_lies}
use Rattle.write_partial.specs.Line.{shown_of, Asked, Spread, Rows, Narrow}
use Rattle.write_partial.proofs.Stretches.{covered_in, before_in, rest_in, bare_in, text_in, line_whole, line_to_end, line_within}
use Rattle.write_partial.proofs.Count.{line_few, climbs, covered_sum}
use Rattle.write_partial.proofs.Widest.{count_few}

sums : (x y z k n f : ℕ) → x ≤ y → y ≤ z → f + ((y - x + k) + (z - y + n)) ≡ f + (z - x) + k + n
sums x y z k n f p q = omega arith

module _ {r : Record} {d : Buffers} (h : Sheet r d) where
  spread : (k : ℕ) → k ≤ r.n → Spread d.char_pos_buf d.text_buf k
  spread k l = record { lies = λ i x. text_lies h i (i + 1) (omega arith) (omega arith) }

  rows : (k : ℕ) → k ≤ r.n → Rows d.cell_starts_buf d.cell_lengths_buf d.tag_bytes_buf r.columns k
  rows k l = record { lies = λ i x. row_lies h i (omega arith) }

  -- the first k characters lie in the buffers
  abbrev pub Lies : ℕ → Type 0
  Lies k = Spread d.char_pos_buf d.text_buf k × Rows d.cell_starts_buf d.cell_lengths_buf d.tag_bytes_buf r.columns k

  lies : (k : ℕ) → k ≤ r.n → Lies k
  lies k l = (spread k l, rows k l)

  -- what the characters from the i-th on ask, and those before the b-th
  abbrev pub RestAsked : ℕ → ℕ → Type 0
  RestAsked i last =
      Lies (last + 1) × (i ≤ last) × (last ≤ length d.boundaries_buf)

  rest_asked : (i : ℕ) → i < r.n → RestAsked i (r.n - 1)
  rest_asked i l = (lies (r.n - 1 + 1) (omega arith), omega arith, omega (arith, bounds h))

  -- ---- the line is written
  module _ (n b e : ℕ) (l : b ≤ e) (m : e ≤ r.n) (out : List ℕ) (room : length (written partial (shown_of n b e (spell r d))) ≤ length out) where
    abbrev all : List ℕ
    all = written partial (shown_of n b e (spell r d))

    start : Writing out 0 all out 0 all
    start = write_start out 0 all (omega arith)

    done : {out' : List ℕ} {at : ℕ} → Writing out 0 all out' at [] → Lined all out out' at
    done w = lined room (write_done w refl)

    -- an empty range
    module _ (q : b ≡ e) where
      whole : Writing out 0 all out 0 (rest_in d r.columns n 0 (r.n - 1))
      whole = write_keep start (line_whole h n b e q)

      pub whole_asks : Lies (r.n - 1 + 1) × (0 ≤ r.n - 1)
          × (r.n - 1 ≤ length d.boundaries_buf) × (0 + length (rest_in d r.columns n 0 (r.n - 1)) ≤ length out)
      whole_asks =
          let a = rest_asked 0 (omega (arith, bounds h)) in
          (a.0, a.1, a.2, omega (arith, whole.ends, room))

      pub whole_done : {out' : List ℕ} {at : ℕ} → Wrote out 0 (rest_in d r.columns n 0 (r.n - 1)) out' at → Lined all out out' at
      whole_done c = done (write_item whole (sym (append-nil _)) c)

    -- another: first what is before it
    module _ (q : b ≡ e → ⊥) where
      abbrev behind : List ℕ → Type 0
      behind x = all ≡ before_in d r.columns n b ++ x

      first_fits : (x : List ℕ) → behind x → length (before_in d r.columns n b) ≤ length out
      first_fits x p = omega (arith, write_fits start (before_in d r.columns n b) x p)

      -- up to the end
      module _ (z : e ≡ r.n) where
        to_end : all ≡ before_in d r.columns n b ++ (covered_in d b (r.n - 1 - b) ++ bare_in d n (r.n - 1))
        to_end = line_to_end h n b e (omega arith) z

        module _ {out₁ : List ℕ} {at₁ : ℕ} (c : Wrote out 0 (before_in d r.columns n b) out₁ at₁) where
          before_end : Writing out 0 all out₁ at₁ (covered_in d b (r.n - 1 - b) ++ bare_in d n (r.n - 1))
          before_end = write_item start to_end c

          pub end_covers : Spread d.char_pos_buf d.text_buf (r.n - 1) × (b ≤ r.n - 1) × (at₁ + length (covered_in d b (r.n - 1 - b)) ≤ length out₁)
          end_covers = (spread (r.n - 1) (omega arith), omega arith, write_fits before_end (covered_in d b (r.n - 1 - b)) _ refl)

          module _ {out₂ : List ℕ} {at₂ : ℕ} (o : Wrote out₁ at₁ (covered_in d b (r.n - 1 - b)) out₂ at₂) where
            last_left : Writing out 0 all out₂ at₂ (bare_in d n (r.n - 1))
            last_left = write_item before_end refl o

            pub end_last : Spread d.char_pos_buf d.text_buf (r.n - 1 + 1) × (at₂ + length (bare_in d n (r.n - 1)) ≤ length out₂)
            end_last = (spread (r.n - 1 + 1) (omega arith), write_fits last_left (bare_in d n (r.n - 1)) [] (sym (append-nil _)))

            pub end_done : {out₃ : List ℕ} {at₃ : ℕ} → Wrote out₂ at₂ (bare_in d n (r.n - 1)) out₃ at₃ → Lined all out out₃ at₃
            end_done u = done (write_item last_left (sym (append-nil _)) u)

      -- within
      module _ (z : e ≡ r.n → ⊥) where
        within : all ≡ before_in d r.columns n b ++ (covered_in d b (e - b) ++ rest_in d r.columns n e (r.n - 1))
        within = line_within h n b e (omega arith) (omega arith)

        module _ {out₁ : List ℕ} {at₁ : ℕ} (c : Wrote out 0 (before_in d r.columns n b) out₁ at₁) where
          before_range : Writing out 0 all out₁ at₁ (covered_in d b (e - b) ++ rest_in d r.columns n e (r.n - 1))
          before_range = write_item start within c

          pub range_covers : Spread d.char_pos_buf d.text_buf e × (b ≤ e) × (at₁ + length (covered_in d b (e - b)) ≤ length out₁)
          range_covers = (spread e m, l, write_fits before_range (covered_in d b (e - b)) _ refl)

          module _ {out₂ : List ℕ} {at₂ : ℕ} (o : Wrote out₁ at₁ (covered_in d b (e - b)) out₂ at₂) where
            rest_left : Writing out 0 all out₂ at₂ (rest_in d r.columns n e (r.n - 1))
            rest_left = write_item before_range refl o

            pub range_rest : Lies (r.n - 1 + 1) × (e ≤ r.n - 1)
                × (r.n - 1 ≤ length d.boundaries_buf) × (at₂ + length (rest_in d r.columns n e (r.n - 1)) ≤ length out₂)
            range_rest =
                let a = rest_asked e (omega arith) in
                (a.0, a.1, a.2, write_fits rest_left (rest_in d r.columns n e (r.n - 1)) [] (sym (append-nil _)))

            pub range_done : {out₃ : List ℕ} {at₃ : ℕ} → Wrote out₂ at₂ (rest_in d r.columns n e (r.n - 1)) out₃ at₃ → Lined all out out₃ at₃
            range_done u = done (write_item rest_left (sym (append-nil _)) u)

      pub before_asks : Lies b × (b ≤ length d.boundaries_buf + 1)
          × (length (before_in d r.columns n b) ≤ length out)
      before_asks = (lies b (omega arith), omega (arith, bounds h), on (eqb e r.n) refl)
        where
          on : (t : Bool) → eqb e r.n ≡ t → length (before_in d r.columns n b) ≤ length out
          on true p = first_fits _ (to_end (eqb-true e r.n p))
          on false p = first_fits _ (within (eqb-false e r.n p))

  -- ---- the line is measured
  module _ (n b e : ℕ) (a : Asked r d n b e) where
    long : ℕ
    long = length (written partial (shown_of n b e (spell r d)))

    few : long ≤ 20000000
    unfolding long
    few = line_few h n b e a.narrow

    narrow_before : Narrow d.cell_lengths_buf r.columns n 0 b
    narrow_before = record { few = λ i x y. omega (arith, a.inside, a.ordered, a.enough, count_few h b e i (omega (arith, a.inside, a.ordered)) (out_before b e i y)) }

    narrow_behind : (last : ℕ) → last < r.n → Narrow d.cell_lengths_buf r.columns n e (last + 1)
    narrow_behind last l = record { few = λ i x y. omega (arith, a.enough, count_few h b e i (omega arith) (out_behind b e i x)) }

    module _ (q : b ≡ e) where
      whole_is : long ≡ length (rest_in d r.columns n 0 (r.n - 1))
      unfolding long
      whole_is = ap length (line_whole h n b e q)

      pub whole_measures : Lies (r.n - 1 + 1)
          × Narrow d.cell_lengths_buf r.columns n 0 (r.n - 1 + 1) × (0 ≤ r.n - 1) × (r.n - 1 ≤ length d.boundaries_buf) × (length (rest_in d r.columns n 0 (r.n - 1)) < 2 ^ 32)
      whole_measures =
          let s = rest_asked 0 (omega (arith, bounds h)) in
          let f : Narrow d.cell_lengths_buf r.columns n 0 (r.n - 1 + 1) = record { few = λ i x y. omega (arith, a.enough, count_few h b e i (omega (arith, bounds h)) (none_in b e i (omega arith))) } in
          (s.0, f, s.1, s.2, omega (arith, whole_is, few))

      pub whole_long : {k : ℕ} → k ≡ length (rest_in d r.columns n 0 (r.n - 1)) → k ≡ length (written partial (shown_of n b e (spell r d)))
      unfolding long
      whole_long p = p ∙ sym whole_is

    module _ (q : b ≡ e → ⊥) where
      -- the text of the range, and what is written of it
      pub range_text : (b < length d.char_pos_buf) × (e < length d.char_pos_buf) × (get_or d.char_pos_buf b 0 ≤ get_or d.char_pos_buf e 0)
      range_text =
          let k : b + (e - b) ≡ e = omega (arith, a.ordered) in
          (omega (arith, bounds h, a.ordered, a.inside), omega (arith, bounds h, a.inside), rw k at (climbs n d.text_buf d.boundaries_buf d.char_pos_buf d.cell_starts_buf d.cell_lengths_buf d.tag_bytes_buf r.columns (e - b) b (rw k (spread e a.inside))))

      module _ (z : e ≡ r.n) where
        end_is : long ≡ length (before_in d r.columns n b) + (get_or d.char_pos_buf e 0 - get_or d.char_pos_buf b 0) + (r.n - 1 - b) + n
        unfolding long
        end_is =
            let last = r.n - 1 in
            let k : b + (last - b) ≡ last = omega (arith, a.ordered) in
            let y : last + 1 ≡ e = omega (arith, bounds h) in
            let c = rw k at (covered_sum n d.text_buf d.boundaries_buf d.char_pos_buf d.cell_starts_buf d.cell_lengths_buf d.tag_bytes_buf r.columns (last - b) b (rw k (spread last (omega arith)))) in
            let f = rw k at (climbs n d.text_buf d.boundaries_buf d.char_pos_buf d.cell_starts_buf d.cell_lengths_buf d.tag_bytes_buf r.columns (last - b) b (rw k (spread last (omega arith)))) in
            let t = text_lies h last (last + 1) (omega arith) (omega arith) in
            let o = text_long d.char_pos_buf d.text_buf last t in
            let g = sums (get_or d.char_pos_buf b 0) (get_or d.char_pos_buf last 0) (get_or d.char_pos_buf (last + 1) 0) (last - b) n (length (before_in d r.columns n b)) f t.rises in
            ap length (line_to_end h n b e (omega (arith, a.ordered)) z)
            ∙ length-append (before_in d r.columns n b) (covered_in d b (last - b) ++ bare_in d n last)
            ∙ rw (length-append (covered_in d b (last - b)) (bare_in d n last), c, length-append (text_in d last) (replicate n 47), length-replicate {A = ℕ} n 47, o) g
            ∙ ap (λ (x : ℕ). length (before_in d r.columns n b) + (get_or d.char_pos_buf x 0 - get_or d.char_pos_buf b 0) + (last - b) + n) y

        pub end_sum : {k t : ℕ} → k ≡ length (before_in d r.columns n b) → t ≡ get_or d.char_pos_buf e 0 - get_or d.char_pos_buf b 0
            → (k + t + (r.n - 1 - b) + n ≡ length (written partial (shown_of n b e (spell r d)))) × (k + t + (r.n - 1 - b) + n ≤ 20000000)
        unfolding long
        end_sum p o = (omega (arith, end_is, p, o), omega (arith, end_is, few, p, o))

      module _ (z : e ≡ r.n → ⊥) where
        within_is : long ≡ length (before_in d r.columns n b) + (get_or d.char_pos_buf e 0 - get_or d.char_pos_buf b 0) + (e - b) + length (rest_in d r.columns n e (r.n - 1))
        unfolding long
        within_is =
            let k : b + (e - b) ≡ e = omega (arith, a.ordered) in
            let c = rw k at (covered_sum n d.text_buf d.boundaries_buf d.char_pos_buf d.cell_starts_buf d.cell_lengths_buf d.tag_bytes_buf r.columns (e - b) b (rw k (spread e a.inside))) in
            let v = length-append (before_in d r.columns n b) (covered_in d b (e - b) ++ rest_in d r.columns n e (r.n - 1)) in
            let w = length-append (covered_in d b (e - b)) (rest_in d r.columns n e (r.n - 1)) in
            omega (arith, ap length (line_within h n b e (omega (arith, a.ordered)) (omega (arith, a.inside))), v, w, c)

        pub rest_measures : Lies (r.n - 1 + 1)
            × Narrow d.cell_lengths_buf r.columns n e (r.n - 1 + 1) × (e ≤ r.n - 1) × (r.n - 1 ≤ length d.boundaries_buf) × (length (rest_in d r.columns n e (r.n - 1)) < 2 ^ 32)
        rest_measures =
            let s = rest_asked e (omega (arith, a.inside)) in
            (s.0, narrow_behind (r.n - 1) (omega (arith, bounds h)), s.1, s.2, omega (arith, within_is, few))

        pub within_sum : {k t u : ℕ} → k ≡ length (before_in d r.columns n b) → t ≡ get_or d.char_pos_buf e 0 - get_or d.char_pos_buf b 0 → u ≡ length (rest_in d r.columns n e (r.n - 1))
            → (k + t + (e - b) + u ≡ length (written partial (shown_of n b e (spell r d)))) × (k + t + (e - b) + u ≤ 20000000)
        unfolding long
        within_sum p o u = (omega (arith, within_is, p, o, u), omega (arith, within_is, few, p, o, u))

      pub before_measures : Lies b × Narrow d.cell_lengths_buf r.columns n 0 b
          × (b ≤ length d.boundaries_buf + 1) × (length (before_in d r.columns n b) < 2 ^ 32)
      before_measures = (lies b (omega (arith, a.ordered, a.inside)), narrow_before, omega (arith, bounds h, a.ordered, a.inside), on (eqb e r.n) refl)
        where
          on : (t : Bool) → eqb e r.n ≡ t → length (before_in d r.columns n b) < 2 ^ 32
          on true p = omega (arith, end_is (eqb-true e r.n p), few)
          on false p = omega (arith, within_is (eqb-false e r.n p), few)
