-- What buffers that hold a sentence become where another is laid over it: what both have in common stays. Assumes nothing.
use Rattle.std.specs.Prelude.{Ok}
use Prim.Native.Nat.{ℕ, zero, suc, ◌+◌, ◌-◌, ◌*◌, ◌≤◌, ◌<◌}
use native.Mathlib.Omega.{arith}
use mathlib.Core.Path.{◌≡◌, refl, sym, ap, ◌∙◌}
use mathlib.Core.List.{List, [], ◌∷◌, ◌++◌, map}
use lib.ListN.{drop, replicate, set, length-set, length-replicate, replicate-append-replicate}
use lib.Seq.{set-append_left}
use Rattle.laws.specs.Put.{over}
use Rattle.utf8.specs.Utf8.{size}
use Rattle.sentence.specs.Sentence.{code, Sentence, text, marks, rows, pad}
use Rattle.sentence.specs.Writing.{set_boundary_of, reset_tags_of}
use Rattle.sheet.specs.declared.Record.{Record}
use Rattle.sheet.specs.Eight.{Which, the_text, the_types, the_boundaries, the_char_pos, the_byte_pos, the_cell_starts, the_cell_lengths, the_tag_bytes, pick}
use Rattle.sheet.specs.Layout.{Buffers, with_boundaries, with_cells, record_of, tags_of, cells_of, cell_starts, bytes_of, lay, laid, Holds, mark_of}
use Rattle.sheet.proofs.Eights.{in_order, one, pick_pairwise}
use Rattle.sheet.proofs.Held.{prefixes_held, Prefix, boundaries_held}
use Rattle.sheet.proofs.Look.{bounds, prefix_whole, prefix_length}
use Rattle.changes.specs.Changes.{Laid}
use Rattle.changes.proofs.Changed.{text_set, rows_set, marks_set, text_bare, marks_bare, rows_bare, no_tag_bytes}

-- a list laid over a buffer that starts with it
over_same : {n : ℕ} {p d : List ℕ} → Prefix n p d → over p d ≡ d
over_same {n} {p} {d} h = rw (prefix_length h) (prefix_whole h)

-- and with one element changed
over_set : {n : ℕ} {p d : List ℕ} → Prefix n p d → (i v : ℕ) → i < n → over (set p i v) d ≡ set d i v
over_set {n} {p} {d} h i v k =
    let l = prefix_length h in
    rw (length-set, l)
    (sym (set-append_left p (drop n d) i v (omega arith)) ∙ ap (λ (x : List ℕ). set x i v) (prefix_whole h))

map_set : {A B : Type 0} (f : A → B) (l : List A) (i : ℕ) (a : A) → map f (set l i a) ≡ set (map f l) i (f a)
map_set f [] i a = refl
map_set f (x ∷ l) zero a = refl
map_set f (x ∷ l) (suc i) a = rw (map_set f l i a)

pub code_back : (v : ℕ) → v ≤ 2 → code (mark_of v) ≡ v
unfolding code mark_of
code_back zero h = refl
code_back (suc zero) h = refl
code_back (suc (suc zero)) h = refl
code_back (suc (suc (suc v))) h = absurd (omega arith)

-- rows that list no tag have absent cells, which take no bytes
no_cells : (c n : ℕ) → cells_of c (replicate n []) ≡ replicate (n * c) []
unfolding cells_of pad
no_cells c zero = let e : zero * c ≡ 0 = omega arith in rw e
no_cells c (suc n) =
    let e : c - 0 ≡ c = omega arith in
    let f : c + n * c ≡ suc n * c = omega arith in
    rw (e, no_cells c n, replicate-append-replicate, f)

no_starts : (n : ℕ) → cell_starts 0 (replicate n []) ≡ replicate n 0
unfolding cell_starts size
no_starts zero = refl
no_starts (suc n) = rw (no_starts n)

no_lengths : (n : ℕ) → map size (replicate n []) ≡ replicate n 0
unfolding size
no_lengths zero = refl
no_lengths (suc n) = rw (no_lengths n)

no_tags : (n : ℕ) → tags_of (replicate n []) ≡ []
unfolding tags_of
no_tags zero = refl
no_tags (suc n) = no_tags n

module _ {r : Record} {d : Buffers} {s : Sentence} (h : Holds r d s) where
  -- a buffer stays whose list is the same
  pub stays : (t : Sentence) (i : Which) → pick (lay t) i ≡ pick (lay s) i → pick d i ≡ pick (laid t d) i
  unfolding laid
  stays t i e = sym (rw (pick_pairwise over (lay t) d i, e) (over_same (one (prefixes_held h) i)))

  -- ---- a boundary that is set
  pub boundary_laid : (i v : ℕ) → i < r.n - 1 → v ≤ 2 → (laid (set_boundary_of i (mark_of v) s) d).boundaries_buf ≡ set d.boundaries_buf i v
  unfolding lay laid set_boundary_of
  boundary_laid i v k l =
      rw (marks_set i (mark_of v) s.cells, map_set code (marks s) i (mark_of v), code_back v l)
      (over_set (boundaries_held h) i v k)

  -- ---- tags that are reset
  module _ (t : Sentence) (e : rows t ≡ replicate r.n []) where
    pub cell_starts_reset : (laid t d).cell_starts_buf ≡ over (replicate (r.n * t.columns) 0) d.cell_starts_buf
    unfolding lay laid
    cell_starts_reset = rw (e, no_cells, no_starts)

    pub cell_lengths_reset : (laid t d).cell_lengths_buf ≡ over (replicate (r.n * t.columns) 0) d.cell_lengths_buf
    unfolding lay laid
    cell_lengths_reset = rw (e, no_cells, no_lengths)

    pub tag_bytes_reset : (laid t d).tag_bytes_buf ≡ d.tag_bytes_buf
    unfolding lay laid bytes_of
    tag_bytes_reset = rw (e, no_tags)

  -- ---- what the calls leave
  pub boundary_lays : (i v : ℕ) → i < r.n - 1 → v ≤ 2
      → Laid (set_boundary_of i (mark_of v) s) d (Ok r)
      (with_boundaries (set d.boundaries_buf i v) d)
  unfolding lay record_of set_boundary_of
  boundary_lays i v k l =
      let t = set_boundary_of i (mark_of v) s in
      let x : text t ≡ text s = text_set i (mark_of v) s.cells in
      let y : rows t ≡ rows s = rows_set i (mark_of v) s.cells in
      record {
        answer_is = rw (h.record_is, x, y);
        leaves =
            in_order (stays t the_text (rw x)) (stays t the_types (rw x)) (sym (boundary_laid i v k l)) (stays t the_char_pos (rw x)) (stays t the_byte_pos (rw x))
            (stays t the_cell_starts (rw y)) (stays t the_cell_lengths (rw y)) (stays t the_tag_bytes (rw y));
      }

  pub reset_lays : (c : ℕ) (b l : List ℕ) → b ≡ replicate (r.n * c) 0 ++ drop (r.n * c) d.cell_starts_buf → l ≡ replicate (r.n * c) 0 ++ drop (r.n * c) d.cell_lengths_buf
      → Laid (reset_tags_of c s) d (Ok (record { n = r.n; b = r.b; columns = c; cells = r.n * c; g = 0 }))
      (with_cells b l d)
  unfolding lay record_of reset_tags_of
  reset_lays c v l e f =
      let t = reset_tags_of c s in
      let x : text t ≡ text s = text_bare s.cells in
      let n = (bounds h).n_is in
      let b = (bounds h).b_is in
      let y : rows t ≡ replicate r.n [] = rw n (rows_bare s.cells) in
      record {
        answer_is = rw (x, y, no_tag_bytes, ← n, ← b);
        leaves =
            in_order (stays t the_text (rw x)) (stays t the_types (rw x)) (stays t the_boundaries (rw (marks_bare s.cells))) (stays t the_char_pos (rw x)) (stays t the_byte_pos (rw x))
            (e ∙ sym (cell_starts_reset t y ∙ rw length-replicate)) (f ∙ sym (cell_lengths_reset t y ∙ rw length-replicate)) (sym (tag_bytes_reset t y));
      }
