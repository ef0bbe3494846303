-- What is laid is held, and what is held is what is spelled: a record and buffers hold at most one sentence. Assumes nothing.
use Prim.Native.Nat.{ℕ, zero, suc, ◌+◌, ◌-◌, ◌*◌, ◌≤◌}
use mathlib.Core.Path.{◌≡◌, refl, sym, ap, ◌∙◌}
use mathlib.Core.Bool.{true}
use mathlib.Core.List.{List, [], ◌∷◌, ◌++◌, map, append_assoc, append-nil}
use native.Mathlib.Omega.{arith}
use lib.ListN.{length, take, replicate, length-append, length-map, length-take, take-append-drop}
use lib.Seq.{take-append_seam, take_at, drop_at}
use Rattle.laws.specs.Put.{over}
use Rattle.laws.specs.All.{All, All-append, All-imp}
use Rattle.utf8.specs.Utf8.{scalars, encodes, size}
use Rattle.utf8.proofs.Codec.{length_encodes, scalars_encodes}
use Rattle.types.specs.TypeOf.{type_of}
use Rattle.sentence.specs.Sentence.{Tag, Mark, none, word, unknown, code, Cells, final, cell, Sentence, text_of, marks_of, rows_of, text, marks, rows, types, char_positions, byte_positions, pad, row_bytes, tag_bytes, Char, Row, Formed}
use Rattle.sentence.proofs.Cells.{length_marks, length_rows, text_chars, rows_are}
use Rattle.sentence.proofs.Trips.{all_absent, cut_pad, pad_length}
pub use Rattle.sheet_check.proofs.Says.{length_starts, length_numbers}
use Rattle.sheet.specs.declared.Record.{Record}
use Rattle.sheet.specs.Eight.{Which, pick, Every}
use Rattle.sheet.specs.Layout.{Buffers, record_of, tags_of, cells_of, cell_starts, bytes_of, lay, laid, takes, room_for, Front, Holds, slices, rows_by, mark_of, link, spell}
use Rattle.sheet.proofs.Eights.{in_order, every, one, pick_pairwise}

pub laid_holds : (s : Sentence) (d : Buffers) → Formed s → room_for (record_of s) d ≡ true → Holds (record_of s) (laid s d) s
unfolding laid
laid_holds s d f h = record { formed = f; record_is = refl; lies = every (λ i. rw (pick_pairwise over (lay s) d i) (take-append_seam (pick (lay s) i) _)) }

-- ---- how long the lists are
pub length_cell_starts : (g : ℕ) (ts : List Tag) → length (cell_starts g ts) ≡ length ts
unfolding cell_starts
length_cell_starts g [] = refl
length_cell_starts g (t ∷ ts) = omega (arith, length_cell_starts (g + size t) ts)

pub length_cells_of : (n : ℕ) (rs : List (List Tag)) → All (Row n) rs → length (cells_of n rs) ≡ length rs * n
unfolding cells_of
length_cells_of n [] h = omega arith
length_cells_of n (r ∷ rs) h = rw length-append (omega (arith, pad_length n r h.0.fits, length_cells_of n rs h.1))

pub length_bytes_of : (ts : List Tag) → length (bytes_of ts) ≡ row_bytes ts
unfolding bytes_of row_bytes
length_bytes_of [] = refl
length_bytes_of (t ∷ ts) = rw length-append (omega (arith, length_encodes t, length_bytes_of ts))

pub row_bytes_append : (ts us : List Tag) → row_bytes (ts ++ us) ≡ row_bytes ts + row_bytes us
unfolding row_bytes
row_bytes_append [] us = omega arith
row_bytes_append (t ∷ ts) us = omega (arith, row_bytes_append ts us)

pub bytes_tags_of : (rs : List (List Tag)) → row_bytes (tags_of rs) ≡ tag_bytes rs
unfolding tags_of row_bytes tag_bytes
bytes_tags_of [] = refl
bytes_tags_of (r ∷ rs) = omega (arith, row_bytes_append r (tags_of rs), bytes_tags_of rs)

-- ---- each list gives back what it was made of
pub marks_back : (ms : List Mark) → map mark_of (map code ms) ≡ ms
unfolding mark_of code
marks_back [] = refl
marks_back (none ∷ ms) = rw (marks_back ms)
marks_back (word ∷ ms) = rw (marks_back ms)
marks_back (unknown ∷ ms) = rw (marks_back ms)

rows_back : (n : ℕ) (rs : List (List Tag)) → All (Row n) rs → rows_by n (length rs) (cells_of n rs) ≡ rs
unfolding cells_of rows_by
rows_back n [] h = refl
rows_back n (r ∷ rs) h =
    let e = pad_length n r h.0.fits in
    rw (take_at (pad n r) (cells_of n rs) n e, drop_at (pad n r) (cells_of n rs) n e, rows_back n rs h.1, cut_pad n r, h.0.is_cut)

slices_back : (ts : List Tag) (x : List ℕ) → All (All Char) ts → map scalars (slices (map size ts) (bytes_of ts ++ x)) ≡ ts
unfolding slices bytes_of
slices_back [] x h = refl
slices_back (t ∷ ts) x h =
    let e = length_encodes t in
    rw (append_assoc, take_at (encodes t) (bytes_of ts ++ x) _ e, drop_at (encodes t) (bytes_of ts ++ x) _ e, slices_back ts x h.1, scalars_encodes t (All-imp Char _ (λ c p. p.is_scalar) t h.0))

pub cells_back : (s : Cells) → link (text_of s) (marks_of s) (rows_of s) ≡ s
unfolding link text_of marks_of rows_of
cells_back (final c r) = refl
cells_back (cell c r m (final d q)) = refl
cells_back (cell c r m (cell d q l s)) = rw (cells_back (cell d q l s))

-- ---- characters and tags of a well-formed sentence
pub cells_chars : (n : ℕ) (rs : List (List Tag)) → All (Row n) rs → All (All Char) (cells_of n rs)
unfolding cells_of pad
cells_chars n [] h = tt
cells_chars n (r ∷ rs) h =
    All-append (All Char) (pad n r) (cells_of n rs)
    (All-append (All Char) r (replicate (n - length r) []) h.0.chars (all_absent (n - length r)))
    (cells_chars n rs h.1)

-- ---- the tag bytes are those of the listed tags
pub bytes_joined : (us vs : List Tag) → bytes_of (us ++ vs) ≡ bytes_of us ++ bytes_of vs
unfolding bytes_of
bytes_joined [] vs = refl
bytes_joined (u ∷ us) vs = rw (bytes_joined us vs, append_assoc)

bytes_absent : (k : ℕ) → bytes_of (replicate k []) ≡ []
unfolding bytes_of encodes
bytes_absent zero = refl
bytes_absent (suc k) = bytes_absent k

pub bytes_pad : (n : ℕ) (r : List Tag) → bytes_of (pad n r) ≡ bytes_of r
unfolding pad
bytes_pad n r = rw (bytes_joined r (replicate (n - length r) []), bytes_absent (n - length r), append-nil)

pub bytes_same : (n : ℕ) (rs : List (List Tag)) → bytes_of (cells_of n rs) ≡ bytes_of (tags_of rs)
unfolding cells_of tags_of
bytes_same n [] = refl
bytes_same n (r ∷ rs) = rw (bytes_joined (pad n r) (cells_of n rs), bytes_pad n r, bytes_same n rs) (sym (bytes_joined r (tags_of rs)))

pub cells_bytes : (n : ℕ) (rs : List (List Tag)) → row_bytes (cells_of n rs) ≡ tag_bytes rs
cells_bytes n rs = omega (arith, length_bytes_of (cells_of n rs), ap length (bytes_same n rs), length_bytes_of (tags_of rs), bytes_tags_of rs)

-- ---- each list is as long as the record counts
pub fronts_long : (s : Sentence) → Formed s → Every (λ (i : Which). length (pick (lay s) i) ≡ pick (takes (record_of s)) i)
unfolding lay record_of
fronts_long s f =
    let n = length_marks s.cells in
    let c = length_cells_of s.columns (rows s) (rows_are s.columns s.cells f.cells_are) ∙ ap (λ (i : ℕ). i * s.columns) (length_rows s.cells) in
    in_order
    (length_encodes (text s))
    (length-map (text s) type_of)
    (length-map (marks s) code ∙ omega arith)
    (length_starts 0 (text s))
    (length_numbers 0 (text s))
    (length_cell_starts 0 (cells_of s.columns (rows s)) ∙ c)
    (length-map (cells_of s.columns (rows s)) size ∙ c)
    (length_bytes_of (tags_of (rows s)) ∙ bytes_tags_of (rows s))

-- ---- what the record and each buffer have where a sentence is held
-- a buffer starts with a front of n elements
pub record Prefix (n : ℕ) (front d : List ℕ) : Type 0 where
  pub is : take n d ≡ front
  pub fits : n ≤ length d

prefix : (front d : List ℕ) (n : ℕ) → length front ≡ n → Front front d → Prefix n front d
prefix p d n k h = record { is = rw (← k) h; fits = omega (arith, ap length h, length-take (length p) d) }

module _ {r : Record} {d : Buffers} {s : Sentence} (h : Holds r d s) where
  pub n_held : r.n ≡ length (text s)
  unfolding record_of
  n_held = rw h.record_is

  pub b_held : r.b ≡ size (text s)
  unfolding record_of
  b_held = rw h.record_is

  pub columns_held : r.columns ≡ s.columns
  unfolding record_of
  columns_held = rw h.record_is

  pub cells_held : r.cells ≡ length (text s) * s.columns
  unfolding record_of
  cells_held = rw h.record_is

  pub g_held : r.g ≡ tag_bytes (rows s)
  unfolding record_of
  g_held = rw h.record_is

  -- each buffer starts with its list
  pub prefixes_held : Every (λ (i : Which). Prefix (pick (takes r) i) (pick (lay s) i) (pick d i))
  prefixes_held = every (λ i. prefix _ _ _ (rw h.record_is (one (fronts_long s h.formed) i)) (one h.lies i))

  pub text_held : Prefix r.b (encodes (text s)) d.text_buf
  unfolding lay
  text_held = prefixes_held.text_is

  pub types_held : Prefix r.n (types (text s)) d.types_buf
  unfolding lay
  types_held = prefixes_held.types_is

  pub boundaries_held : Prefix (r.n - 1) (map code (marks s)) d.boundaries_buf
  unfolding lay
  boundaries_held = prefixes_held.boundaries_is

  pub char_pos_held : Prefix (r.n + 1) (char_positions (text s)) d.char_pos_buf
  unfolding lay
  char_pos_held = prefixes_held.char_pos_is

  pub byte_pos_held : Prefix (r.b + 1) (byte_positions (text s)) d.byte_pos_buf
  unfolding lay
  byte_pos_held = prefixes_held.byte_pos_is

  pub cell_starts_held : Prefix r.cells (cell_starts 0 (cells_of s.columns (rows s))) d.cell_starts_buf
  unfolding lay
  cell_starts_held = prefixes_held.cell_starts_is

  pub cell_lengths_held : Prefix r.cells (map size (cells_of s.columns (rows s))) d.cell_lengths_buf
  unfolding lay
  cell_lengths_held = prefixes_held.cell_lengths_is

  pub tag_bytes_held : Prefix r.g (bytes_of (tags_of (rows s))) d.tag_bytes_buf
  unfolding lay
  tag_bytes_held = prefixes_held.tag_bytes_is

  pub text_chars_held : All Char (text s)
  text_chars_held = text_chars s.columns s.cells h.formed.cells_are

  pub rows_held : All (Row s.columns) (rows s)
  rows_held = rows_are s.columns s.cells h.formed.cells_are

  pub cells_chars_held : All (All Char) (cells_of s.columns (rows s))
  cells_chars_held = cells_chars s.columns (rows s) rows_held

  pub cells_long : length (cells_of s.columns (rows s)) ≡ r.cells
  cells_long = length_cells_of s.columns (rows s) rows_held ∙ rw (length_rows s.cells) (sym cells_held)

  slices_held : map scalars (slices (take r.cells d.cell_lengths_buf) d.tag_bytes_buf) ≡ cells_of s.columns (rows s)
  slices_held =
      rw (cell_lengths_held.is, ← (take-append-drop r.g d.tag_bytes_buf), tag_bytes_held.is, ← (bytes_same s.columns (rows s)))
      (slices_back (cells_of s.columns (rows s)) _ cells_chars_held)

  rows_spelled : rows_by r.columns r.n (map scalars (slices (take r.cells d.cell_lengths_buf) d.tag_bytes_buf)) ≡ rows s
  rows_spelled =
      rw (slices_held, columns_held, n_held, ← (length_rows s.cells)) (rows_back s.columns (rows s) rows_held)

pub spelled : (r : Record) (d : Buffers) (s : Sentence) → Holds r d s → spell r d ≡ s
unfolding spell record_of
spelled r d s h =
    rw (
      (text_held h).is,
      scalars_encodes (text s) (All-imp Char _ (λ c p. p.is_scalar) (text s) (text_chars_held h)),
      (boundaries_held h).is,
      marks_back (marks s),
      rows_spelled h,
      cells_back s.cells,
      h.record_is,
    )

-- two sentences that are held are one
pub holds_once : {r : Record} {d : Buffers} {s t : Sentence} → Holds r d s → Holds r d t → s ≡ t
holds_once {r} {d} {s} {t} h k = sym (spelled r d s h) ∙ spelled r d t k
