-- The tags of cells, one after another, and a loop that writes them. Assumes nothing.
use Prim.Native.Nat.{ℕ, zero, suc, ◌+◌, ◌-◌, ◌*◌, ◌≤◌, ◌<◌}
use mathlib.Core.Path.{◌≡◌, refl, ap}
use mathlib.Core.List.{List, [], ◌∷◌, ◌++◌, append-nil}
use native.Mathlib.Omega.{arith}
use lib.ListN.{length, take, drop, get_or, set, replicate, length-append, length-set, length-replicate}
use Rattle.sentence.specs.Sentence.{pad}
use Rattle.sentence.specs.declared.Form.{Form}
use Rattle.sentence.specs.Writing.{escape, write_tags}
use Rattle.sheet.proofs.Look.{stretch_left}
use Rattle.write_escape.specs.Wrote.{Wrote, wrote_both, wrote_long, Writing, write_start, write_byte, write_item, write_fits, write_done}
use Rattle.write_escape.proofs.Encoded.{tags_append, tags_absent}
use Rattle.write_items.specs.Items.{cell_tag, cell_tags, row_at, count_at, row_line, Lie, RowLies}
use Rattle.write_items.proofs.Cells.{used_few, fewer_lie}

-- ---- the tags from the j-th cell up to e
pub tags_step : (ss ls d : List ℕ) (j e : ℕ) → j < e → cell_tags ss ls d j (e - j) ≡ cell_tag ss ls d j ∷ cell_tags ss ls d (j + 1) (e - (j + 1))
unfolding cell_tags
tags_step ss ls d j e h = let k : e - j ≡ suc (e - (j + 1)) = omega arith in rw k

pub tags_none : (ss ls d : List ℕ) (j e : ℕ) → e ≤ j → cell_tags ss ls d j (e - j) ≡ []
unfolding cell_tags
tags_none ss ls d j e h = let k : e - j ≡ 0 = omega arith in rw k

pub tags_count : (ss ls d : List ℕ) (k n : ℕ) → length (cell_tags ss ls d k n) ≡ n
unfolding cell_tags
tags_count ss ls d k zero = refl
tags_count ss ls d k (suc n) = ap suc (tags_count ss ls d (k + 1) n)

-- ---- a loop that writes the tags up to e: it is at the j-th cell
pub record Tagging (f : Form) (ss ls d : List ℕ) (e : ℕ) (out₀ : List ℕ) (at : ℕ) (all out : List ℕ) (j n : ℕ) : Type 0 where
  pub upto : j ≤ e
  pub lies : Lie ss ls e (length d)
  pub writing : Writing out₀ at all out n (write_tags f (cell_tags ss ls d j (e - j)))

pub tags_start : (f : Form) (ss ls d : List ℕ) (k e : ℕ) (out : List ℕ) (at : ℕ) → k ≤ e → Lie ss ls e (length d)
    → at + length (write_tags f (cell_tags ss ls d k (e - k))) ≤ length out
    → Tagging f ss ls d e out at (write_tags f (cell_tags ss ls d k (e - k))) out k at
tags_start f ss ls d k e out at h p r = record { upto = h; lies = p; writing = write_start out at _ r }

module _ {f : Form} {ss ls d : List ℕ} {e : ℕ} {out₀ : List ℕ} {at : ℕ} {all out : List ℕ} {j n : ℕ} (t : Tagging f ss ls d e out₀ at all out j n) where
  -- the next tag, whose bytes are those from `from` up to `to`
  module _ {from to : ℕ} (h : j < e) (p : from ≡ get_or ss j 0) (q : to ≡ get_or ss j 0 + get_or ls j 0) where
    abbrev part : List ℕ
    part = escape f (take (to - from) (drop from d))

    tag_left : write_tags f (cell_tags ss ls d j (e - j)) ≡ 47 ∷ (part ++ write_tags f (cell_tags ss ls d (j + 1) (e - (j + 1))))
    unfolding write_tags cell_tag
    tag_left = rw (← (stretch_left d from to), tags_step ss ls d j e h, p, q)

    pub tag_byte : n < length out
    tag_byte = omega (arith, write_fits t.writing (47 ∷ []) _ tag_left)

    pub tag_within : to ≤ length d
    tag_within = omega (arith, t.lies.within j h)

    pub tag_part : n + 1 + length part ≤ length (set out n 47)
    tag_part = omega (arith, length-set out n 47, write_fits t.writing (47 ∷ part) _ tag_left)

    pub tag_turn : {out' : List ℕ} {n' : ℕ} → Wrote (set out n 47) (n + 1) part out' n' → Tagging f ss ls d e out₀ at all out' (j + 1) n'
    tag_turn w = record {
      upto = omega arith;
      lies = t.lies;
      writing = write_item (write_byte t.writing tag_left) refl w;
    }

  pub tags_done : e ≤ j → Wrote out₀ at all out n
  unfolding write_tags
  tags_done h = write_done t.writing (rw (tags_none ss ls d j e h))

pub ruleset tagging = (tags_start, tag_byte, tag_within, tag_part, tag_turn, tags_done)

-- ---- a row: the c tags that it lists, then absent ones up to n columns
module _ (f : Form) (n : ℕ) (ss ls d : List ℕ) (m i : ℕ) {c : ℕ} (a : c ≡ count_at ls m i) where
  abbrev listed_tags : List ℕ
  listed_tags = write_tags f (cell_tags ss ls d (i * m) (i * m + c - i * m))

  pub row_split : row_line f n (row_at ss ls d m i) ≡ listed_tags ++ replicate (n - c) 47
  unfolding row_at pad
  row_split = let e : i * m + c - i * m ≡ c = omega arith in rw (e, ← a, tags_count ss ls d (i * m) c, tags_append, tags_absent)

  module _ (out : List ℕ) (at : ℕ) (r : at + length (row_line f n (row_at ss ls d m i)) ≤ length out) where
    fits : at + length listed_tags + (n - c) ≤ length out
    fits = omega (arith, ap length row_split, length-append listed_tags (replicate (n - c) 47), length-replicate {A = ℕ} (n - c) 47)

    pub row_tags : RowLies ss ls d m i → (i * m ≤ i * m + c) × Lie ss ls (i * m + c) (length d) × (at + length listed_tags ≤ length out)
    row_tags h = (omega arith, fewer_lie (i * m + c) (omega (arith, used_few ls (i * m) m)) h, omega (arith, fits))

    pub row_rest : {out' : List ℕ} {k : ℕ} → Wrote out at listed_tags out' k → k + (n - c) ≤ length out'
    row_rest w = omega (arith, fits, w.end, wrote_long w)

  module _ {o₀ o₁ : List ℕ} {i₀ i₁ : ℕ} (v : Wrote o₀ i₀ listed_tags o₁ i₁) where
    pub row_padded : {o₂ : List ℕ} {i₂ : ℕ} → Wrote o₁ i₁ (replicate (n - c) 47) o₂ i₂ → Wrote o₀ i₀ (row_line f n (row_at ss ls d m i)) o₂ i₂
    row_padded w = rw row_split (wrote_both v w)

    pub row_full : n ≤ c → Wrote o₀ i₀ (row_line f n (row_at ss ls d m i)) o₁ i₁
    row_full h = let z : n - c ≡ 0 = omega arith in rw (row_split, z, append-nil) v
