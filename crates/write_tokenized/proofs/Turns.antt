-- The tokenized line of a sheet, token by token, and the loops that measure and write it. Assumes nothing.
use Prim.Native.Nat.{ℕ, ◌+◌, ◌-◌, ◌^◌, ◌≤◌, ◌<◌}
use mir.Val.{bool_byte}
use mathlib.Core.Path.{◌≡◌, refl, sym, ap, ◌∙◌}
use mathlib.Core.Bool.{Bool, true, false}
use mathlib.Core.List.{List, [], ◌∷◌, ◌++◌, map}
use native.Mathlib.Omega.{arith}
use lib.ListN.{length, length-append}
use Rattle.utf8.specs.Utf8.{encodes}
use Rattle.utf8.proofs.Codec.{encodes_append}
use Rattle.sentence.specs.Sentence.{Sentence, marks}
use Rattle.sentence.specs.declared.Form.TheVariants.{Tokenized as tokenized}
use Rattle.sentence.specs.Writing.{token, write_token, written, next_token_of, done}
use Rattle.sentence.proofs.Tokens.{onward, done_onward}
use Rattle.sheet.specs.declared.Record.{Record}
use Rattle.sheet.specs.Layout.{Buffers, spell, Sheet}
use Rattle.tokens.specs.declared.Token.{Token as Span}
use Rattle.tokens.specs.declared.Step.{Step}
use Rattle.tokens.specs.declared.Step.TheVariants.{Serves, Done}
use Rattle.tokens.specs.Steps.{step_of, marks_in, Bounded}
use Rattle.tokens.proofs.Cursor.{following, of_done, marks_long}
use Rattle.tokens.proofs.Held.{marks_held, bounded_held}
use Rattle.write_escape.specs.Wrote.{Wrote, Lined, lined, Writing, write_start, write_item, write_fits, write_done}
use Rattle.write_items.specs.Items.{RowLies, TextLies, token_line}
use Rattle.write_items.proofs.Held.{text_lies, row_lies, token_line_lem}
use Rattle.write_items.proofs.Room.{limited, most_few}
use Rattle.write_tokenized.specs.Gaps.{gap, spaced}
use Rattle.write_tokenized.proofs.Most.{encodes_gap, line_spaced, line_most}

-- what is left of the line from the cursor p on, where some tokens were written or none was
pub left_from : Sentence → Bool → ℕ → List ℕ
left_from s some p = encodes (spaced some (map (write_token s) (onward (marks s) p)))

left_start : (s : Sentence) → left_from s false 0 ≡ written tokenized s
unfolding left_from
left_start s = line_spaced s

-- a token of a sheet as it is written
abbrev pub token_in : Record → Buffers → ℕ → ℕ → List ℕ
token_in r d b e = token_line r.columns d.text_buf d.char_pos_buf d.cell_starts_buf d.cell_lengths_buf d.tag_bytes_buf b e

-- the step at p serves the token from b up to e
pub record Comes (r : Record) (d : Buffers) (p b e : ℕ) : Type 0 where
  pub from : p ≤ b
  pub some : b < e
  pub within : e ≤ r.n
  pub rest : onward (marks (spell r d)) p ≡ token b e ∷ onward (marks (spell r d)) e

pub comes : {r : Record} {d : Buffers} (p : ℕ) {a : Step} {t : Span} {b e : ℕ} → Sheet r d
    → a ≡ step_of (next_token_of (marks_in r.n d.boundaries_buf) r.n p) → a ≡ Serves t → b ≡ t.start → e ≡ t.end → Comes r d p b e
comes p h x y i j =
    let f = following p (bounded_held h) x y in
    record { from = omega arith; some = omega arith; within = omega arith; rest = rw (i, j) (rw (marks_held h) at f.rest) }

module _ {r : Record} {d : Buffers} (h : Sheet r d) (some : Bool) (p : ℕ) where
  -- that token is next, behind its space
  left_next : {b e : ℕ} → Comes r d p b e → left_from (spell r d) some p ≡ gap some ++ (token_in r d b e ++ left_from (spell r d) true e)
  unfolding left_from spaced
  left_next {b} {e} f =
      rw (token_line_lem h b e (omega arith) f.within (omega arith), f.rest, encodes_append (gap some), encodes_gap some, encodes_append (write_token (spell r d) (token b e)))

  -- none is left where the step is done
  left_none : {a : Step} {q : ℕ} → a ≡ step_of (next_token_of (marks_in r.n d.boundaries_buf) r.n p) → a ≡ Done q → left_from (spell r d) some p ≡ []
  unfolding left_from spaced encodes
  left_none {a} {q} x y =
      let e : length (marks_in r.n d.boundaries_buf) + 1 ≡ r.n = marks_long r.n d.boundaries_buf (bounded_held h) in
      let z : next_token_of (marks_in r.n d.boundaries_buf) (length (marks_in r.n d.boundaries_buf) + 1) p ≡ done q = rw e (of_done _ q (sym y ∙ x)) in
      rw (rw (marks_held h) at (done_onward (marks_in r.n d.boundaries_buf) p z))

-- ---- a loop that writes the line: the cursor is at p, and the output at n
pub record Tokening (r : Record) (d : Buffers) (out₀ out : List ℕ) (n p : ℕ) (some : Bool) : Type 0 where
  pub sheet : Sheet r d
  pub bounded : Bounded r.n d.boundaries_buf
  pub writing : Writing out₀ 0 (written tokenized (spell r d)) out n (left_from (spell r d) some p)

pub token_start : {r : Record} {d : Buffers} (out : List ℕ) → Sheet r d → length (written tokenized (spell r d)) ≤ length out → Tokening r d out out 0 0 false
token_start {r} {d} out h l = record { sheet = h; bounded = bounded_held h; writing = rw (left_start (spell r d)) (write_start out 0 (written tokenized (spell r d)) (omega arith)) }

module _ {r : Record} {d : Buffers} {out₀ out : List ℕ} {n p : ℕ} {some : Bool} (t : Tokening r d out₀ out n p some) where
  module _ {b e : ℕ} (f : Comes r d p b e) where
    pub gap_asks : n + length (gap some) ≤ length out
    gap_asks = write_fits t.writing (gap some) _ (left_next t.sheet some p f)

    module _ {o₁ : List ℕ} {n₁ : ℕ} (v : Wrote out n (gap some) o₁ n₁) where
      behind : Writing out₀ 0 (written tokenized (spell r d)) o₁ n₁ (token_in r d b e ++ left_from (spell r d) true e)
      behind = write_item t.writing (left_next t.sheet some p f) v

      pub token_asks : (1 ≤ e) × TextLies d.char_pos_buf d.text_buf b e × RowLies d.cell_starts_buf d.cell_lengths_buf d.tag_bytes_buf r.columns (e - 1) × (n₁ + length (token_in r d b e) ≤ length o₁)
      token_asks = (omega arith, text_lies t.sheet b e (omega arith) f.within, row_lies t.sheet (e - 1) (omega arith), write_fits behind (token_in r d b e) _ refl)

      pub token_next : {o₂ : List ℕ} {n₂ : ℕ} → Wrote o₁ n₁ (token_in r d b e) o₂ n₂ → Tokening r d out₀ o₂ n₂ e true
      token_next w = record { sheet = t.sheet; bounded = t.bounded; writing = write_item behind refl w }

  pub token_done : {a : Step} {q : ℕ} → a ≡ step_of (next_token_of (marks_in r.n d.boundaries_buf) r.n p) → a ≡ Done q → Lined (written tokenized (spell r d)) out₀ out n
  token_done x y = lined (omega (arith, t.writing.room)) (write_done t.writing (left_none t.sheet some p x y))

-- ---- a loop that measures the line
gap_long : (some : Bool) → length (gap some) ≡ bool_byte some
unfolding gap
gap_long true = refl
gap_long false = refl

pub record Summing (r : Record) (d : Buffers) (sum p : ℕ) (some : Bool) : Type 0 where
  pub sheet : Sheet r d
  pub bounded : Bounded r.n d.boundaries_buf
  pub few : length (written tokenized (spell r d)) ≤ 20000000
  pub same : sum + length (left_from (spell r d) some p) ≡ length (written tokenized (spell r d))

pub sum_start : {r : Record} {d : Buffers} → Sheet r d → Summing r d 0 0 false
sum_start {r} {d} h = record {
  sheet = h;
  bounded = bounded_held h;
  few = omega (arith, line_most h, most_few (limited h));
  same = rw (left_start (spell r d)) (omega arith);
}

module _ {r : Record} {d : Buffers} {sum p : ℕ} {some : Bool} (t : Summing r d sum p some) where
  module _ {b e : ℕ} (f : Comes r d p b e) where
    parts : sum + (length (gap some) + (length (token_in r d b e) + length (left_from (spell r d) true e))) ≡ length (written tokenized (spell r d))
    parts = omega (arith, t.same, ap length (left_next t.sheet some p f), length-append (gap some) (token_in r d b e ++ left_from (spell r d) true e), length-append (token_in r d b e) (left_from (spell r d) true e))

    pub sum_asks : (1 ≤ e) × TextLies d.char_pos_buf d.text_buf b e × RowLies d.cell_starts_buf d.cell_lengths_buf d.tag_bytes_buf r.columns (e - 1)
        × (length (token_in r d b e) < 2 ^ 32)
    sum_asks = (omega arith, text_lies t.sheet b e (omega arith) f.within, row_lies t.sheet (e - 1) (omega arith), omega (arith, parts, t.few))

    -- the sums are small
    module _ {g u : ℕ} (x : g ≡ bool_byte some) (y : u ≡ length (token_in r d b e)) where
      pub sum_part : g + u ≤ 20000000
      sum_part = omega (arith, gap_long some, parts, t.few)

      pub sum_few : sum + (g + u) ≤ 20000000
      sum_few = omega (arith, gap_long some, parts, t.few)

      pub sum_next : Summing r d (sum + (g + u)) e true
      sum_next = record { sheet = t.sheet; bounded = t.bounded; few = t.few; same = omega (arith, gap_long some, parts) }

  pub sum_done : {a : Step} {q : ℕ} → a ≡ step_of (next_token_of (marks_in r.n d.boundaries_buf) r.n p) → a ≡ Done q → sum ≡ length (written tokenized (spell r d))
  sum_done x y = omega (arith, t.same, ap length (left_none t.sheet some p x y))
