-- What the decision's proofs need. Assumes nothing.
use Rattle.std.specs.Prelude.{Ok}
use Prim.Native.Nat.{ℕ, ◌*◌, zero, suc, ◌+◌, ◌-◌, ◌^◌, ◌≤◌, ◌<◌}
use native.Mathlib.Omega.{arith}
use mathlib.Core.Path.{◌≡◌, refl, sym, ◌∙◌}
use mathlib.Core.List.{List, [], ◌∷◌, ◌++◌, map}
use lib.IntN.{ℤ, pos, negsuc}
use borrow.Author.Tests.{lt-ltb}
use lib.ListN.{length, get_or, drop, replicate, length-map, drop_of_length-le}
use lib.Signed.{mag, lt_z}
use mir.Syntax.{w32}
use mir.Val.{SFits, bool_byte, hbits, of_z, to_z}
use mir.ValLaws.{to_z-of_z}
use Rattle.sheet.proofs.Look.{left, bounds}
use Rattle.sheet.specs.declared.Record.{Record}
use Rattle.sheet.specs.Eight.{the_text, the_types, the_char_pos, the_byte_pos}
use Rattle.sheet.proofs.Eights.{in_order}
use Rattle.sheet.specs.Layout.{Buffers, with_boundaries, record_of, lay, laid, Holds}
use Rattle.sentence.specs.Sentence.{code, Sentence, text, marks, rows}
use Rattle.sentence.specs.Writing.{marked, reset_tags_of, decision, scored}
use Rattle.changes.specs.Changes.{Laid}
use Rattle.changes.proofs.Changed.{text_bare, marks_bare, rows_bare, no_tag_bytes, text_marked, marks_marked}
use Rattle.changes.proofs.Kept.{stays, cell_starts_reset, cell_lengths_reset, tag_bytes_reset}

-- whether a score is above zero, as a number
pub above : (z : ℤ) → SFits w32 z → bool_byte (lt_z (pos 0) (to_z w32 (of_z w32 z))) ≡ code (decision z)
unfolding code decision
above z f = rw (to_z-of_z w32 z f) (on z)
  where
    on : (y : ℤ) → bool_byte (lt_z (pos 0) y) ≡ code (decision y)
    on (pos zero) = refl
    on (pos (suc n)) = rw (lt-ltb 0 (suc n) (omega arith))
    on (negsuc n) = refl

-- ---- the decisions that are left to store
pub decide_step : (zs : List ℤ) (i v : ℕ) → i < length zs → mag (get_or zs i (pos 0)) < 2 ^ hbits w32 → v ≡ code (decision (to_z w32 (of_z w32 (get_or zs i (pos 0)))))
    → map code (map decision (drop i zs)) ≡ v ∷ map code (map decision (drop (i + 1) zs))
decide_step zs i v h k e = rw (left (pos 0) zs i h, e, to_z-of_z w32 (get_or zs i (pos 0)) (record { sfits = k }))

pub decide_none : (zs : List ℤ) (i : ℕ) → length zs ≤ i → map code (map decision (drop i zs)) ≡ []
decide_none zs i h = rw (drop_of_length-le zs h)

pub decide_long : (zs : List ℤ) → length (map code (map decision zs)) ≡ length zs
decide_long zs = simp length-map

pub ruleset decides = (decide_none, decide_long)

-- ---- what the call leaves
module _ {r : Record} {d : Buffers} {s : Sentence} (h : Holds r d s) where
  pub scores_lay : (zs : List ℤ) (marked-as : List ℕ) → length zs ≡ r.n - 1
      → marked-as ≡ map code (map decision zs) ++ drop (length zs) d.boundaries_buf
      → Laid (scored zs s) d (Ok (record { n = r.n; b = r.b; columns = 0; cells = 0; g = 0 }))
      (with_boundaries marked-as d)
  unfolding record_of lay laid scored reset_tags_of
  scores_lay zs marked-as l e =
      let t = scored zs s in
      let c = marked (map decision zs) s.cells in
      let x : text t ≡ text s = text_bare c ∙ text_marked (map decision zs) s.cells in
      let n = (bounds h).n_is in
      let b = (bounds h).b_is in
      let y : rows t ≡ replicate r.n [] = rows_bare c ∙ rw (text_marked (map decision zs) s.cells, n) in
      let m : marks t ≡ map decision zs = marks_bare c ∙ marks_marked (map decision zs) s.cells (length-map zs decision ∙ l ∙ sym (bounds h).marks_long) in
      let z : r.n * 0 ≡ 0 = omega arith in
      record {
        answer_is = rw (x, y, no_tag_bytes, ← n, ← b, z);
        leaves =
            in_order (stays h t the_text (rw x)) (stays h t the_types (rw x)) (e ∙ rw (m, length-map (map decision zs) code, length-map zs decision))
            (stays h t the_char_pos (rw x)) (stays h t the_byte_pos (rw x)) (sym (cell_starts_reset h t y ∙ rw z)) (sym (cell_lengths_reset h t y ∙ rw z)) (sym (tag_bytes_reset h t y));
      }
