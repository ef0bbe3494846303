-- Where a change answers a sentence, its record and the buffers hold the changed sentence. Assumes nothing.
use Rattle.std.specs.Prelude.{Ok, Err}
use Prim.Native.Nat.{ℕ, ◌*◌, ◌≤◌}
use native.Mathlib.Omega.{arith}
use mathlib.Core.Path.{◌≡◌, refl, sym, subst, ap, ◌∙◌}
use mathlib.Core.Bool.{true, false}
use mathlib.Core.List.{List}
use borrow.Author.Tests.{not-false, ltb-false}
use lib.ListN.{length}
use Rattle.utf8.specs.Utf8.{scalar, width, size}
use Rattle.laws.specs.If.{when◌then◌else◌}
use Rattle.laws.proofs.Facts.{neither}
use Rattle.sentence.specs.declared.Refusal.{Refusal}
use Rattle.sentence.specs.Sentence.{Sentence, text, rows, count, text_of, rows_of, cut, row_bytes, tag_bytes, Formed}
use Rattle.sentence.specs.Writing.{set_boundary_of, reset_tags_of, blank}
use Rattle.sentence.specs.Refusals.{Check, verdict}
use Rattle.sheet.specs.declared.Record.{Record}
use Rattle.sheet.specs.Answers.{Answer}
use Rattle.sheet.specs.Layout.{Buffers, record_of, room_for, Holds, spell, mark_of}
use Rattle.sheet.proofs.Held.{laid_holds}
use Rattle.sheet.proofs.Eights.{same_is}
use Rattle.sheet.proofs.Exact.{room_has, is_sheet_lem}
use Rattle.sheet.proofs.Look.{bounds, Passed, passed}
use Rattle.changes.specs.Changes.{Lays, DefaultSet, default_answer, BoundarySet, boundary_answer, TagsReset, lack_cells, reset_answer}
use Rattle.changes.proofs.Changed.{text_set, rows_set, set_formed, text_bare, rows_bare, no_tag_bytes, reset_formed}

blank_formed : Formed blank
unfolding blank text_of rows_of size width row_bytes tag_bytes cut scalar when◌then◌else◌
blank_formed = record { cells_are = (record { is_scalar = refl; not_nul = refl }, record { chars = tt; is_cut = refl; fits = omega arith }); text_fits = omega arith; columns_fit = omega arith; bytes_fit = omega arith }

-- an answer that is a sentence is no refusal
apart : (q : Record) (x : Refusal) → Err x ≡ Ok q → ⊥
apart q x e = let z : ◌≡◌ {A = ℕ} 0 1 = cc in omega arith

-- the room of a sentence whose text is the held one's, and that has no more tag bytes, where there is room for its cells
pub room_kept : {r : Record} {d : Buffers} {s : Sentence} → Holds r d s → (t : Sentence) → text t ≡ text s → r.n * t.columns ≤ length d.cell_starts_buf → r.n * t.columns ≤ length d.cell_lengths_buf → tag_bytes (rows t) ≤ r.g → room_for (record_of t) d ≡ true
unfolding record_of
room_kept {r} {d} {s} h t e k l g =
    let b = bounds h in
    let n : length (text t) ≡ r.n = ap length e ∙ sym b.n_is in
    let m : size (text t) ≡ r.b = ap size e ∙ sym b.b_is in
    let w : length (text t) * t.columns ≡ r.n * t.columns = ap (λ (i : ℕ). i * t.columns) n in
    room_has (record_of t) d (omega arith)

-- the held sentence's cells, by its columns
kept_columns : {r : Record} {d : Buffers} {s : Sentence} → Holds r d s → r.n * s.columns ≡ r.cells
kept_columns {r} {d} {s} h = let b = bounds h in rw (← b.columns_is) (sym b.cells_is)

-- room for cells that is not lacking
pub cells_room : (d : Buffers) (n : ℕ) → lack_cells d n ≡ false → (n ≤ length d.cell_starts_buf) × (n ≤ length d.cell_lengths_buf)
unfolding lack_cells
cells_room d n h = let k = neither _ _ h in (ltb-false _ n k.0, ltb-false _ n k.1)

-- what is laid down is held
pub lays_holds : (cs : List Check) (t : Sentence) (d : Buffers) (a : Answer) (e : Buffers) (q : Record)
    → Lays (verdict Err cs (Ok (record_of t))) t d a e → a ≡ Ok q
    → (Passed cs → Formed t × (room_for (record_of t) d ≡ true)) → Holds q e t
lays_holds cs t d a e q l h fits =
    let p = passed Err (Ok q) (apart q) cs (Ok (record_of t)) (sym l.answer_is ∙ h) in
    let f = fits p.0 in
    let x : record_of t ≡ q = cc p.1 in
    let m : Lays (verdict Err cs (Ok (record_of t))) t d (Ok q) e = rw h at l in
    subst (λ (y : Buffers). Holds q y t) (sym (same_is m.leaves)) (rw x at (laid_holds t d f.0 f.1))

-- ---- each call
pub default_holds : (d : Buffers) (a : Answer) (e : Buffers) (q : Record) → DefaultSet d a e → a ≡ Ok q → Holds q e blank
unfolding default_answer
default_holds d a e q l h = lays_holds _ blank d a e q l h (λ p. (blank_formed, not-false _ p.0))

pub boundary_holds : (r : Record) (d : Buffers) (i v : ℕ) (a : Answer) (e : Buffers) (q : Record)
    → BoundarySet r d i v a e → a ≡ Ok q → Holds q e (set_boundary_of i (mark_of v) (spell r d))
unfolding boundary_answer set_boundary_of
boundary_holds r d i v a e q l h =
    let s = spell r d in
    let m = mark_of v in
    lays_holds _ (set_boundary_of i m s) d a e q l h (λ p.
    let k = is_sheet_lem r d (not-false _ p.0) in
    let x = rows_set i m s.cells in
    (set_formed i m s k.formed, room_kept k (set_boundary_of i m s) (text_set i m s.cells) (omega (arith, (bounds k).cells_is, kept_columns k, bounds k)) (omega (arith, (bounds k).cells_is, kept_columns k, bounds k)) (rw x (omega (arith, bounds k)))))

pub reset_holds : (r : Record) (d : Buffers) (c : ℕ) (a : Answer) (e : Buffers) (q : Record)
    → TagsReset r d c a e → a ≡ Ok q → Holds q e (reset_tags_of c (spell r d))
unfolding reset_answer reset_tags_of
reset_holds r d c a e q l h =
    let s = spell r d in
    lays_holds _ (reset_tags_of c s) d a e q l h (λ p.
    let k = is_sheet_lem r d (not-false _ p.0) in
    let x = rows_bare s.cells in
    let cells_fit = rw (← (bounds k).n_is) at (cells_room d (count s * c) p.1.1.0) in
    (reset_formed c s (ltb-false 4096 c p.1.0) k.formed, room_kept k (reset_tags_of c s) (text_bare s.cells) cells_fit.0 cells_fit.1 (rw (x, no_tag_bytes) (omega arith))))
