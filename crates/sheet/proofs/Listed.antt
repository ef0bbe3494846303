-- A sentence is spelled from its padded cells as it was from its listed rows, so every answer that is told of the sentence is the same. Assumes nothing.
use Prim.Native.Nat.{ℕ, ◌+◌, ◌-◌}
use mathlib.Core.Path.{◌≡◌, refl, sym, ap, ◌∙◌}
use mathlib.Core.List.{List, [], ◌∷◌, ◌++◌, map, append_assoc}
use native.Mathlib.Omega.{arith}
use lib.ListN.{length, take, length-append, take-append-drop}
use lib.Seq.{take_at, drop_at}
use Rattle.laws.specs.All.{All, All-append, All-imp}
use Rattle.utf8.specs.Utf8.{scalars, encodes, size}
use Rattle.utf8.proofs.Codec.{length_encodes, scalars_encodes}
use Rattle.sentence.specs.Sentence.{Tag, Sentence, text, marks, rows, listed, Char, Row}
use Rattle.sheet.specs.declared.Record.{Record}
use Rattle.sheet.specs.Layout.{Buffers, record_of, tags_of, bytes_of, Holds, spell}
use Rattle.sheet.specs.Listed.{row_ends_of, tag_ends_of, slices_to, Lists, spell_listed}
use Rattle.sentence.proofs.Cells.{length_rows}
use Rattle.sheet.proofs.Held.{marks_back, cells_back, n_held, text_held, boundaries_held, text_chars_held, rows_held, spelled}

length_row_ends : (k : ℕ) (rs : List (List Tag)) → length (row_ends_of k rs) ≡ length rs
unfolding row_ends_of
length_row_ends k [] = refl
length_row_ends k (r ∷ rs) = omega (arith, length_row_ends (k + length r) rs)

length_tag_ends : (g : ℕ) (ts : List Tag) → length (tag_ends_of g ts) ≡ length ts
unfolding tag_ends_of
length_tag_ends g [] = refl
length_tag_ends g (t ∷ ts) = omega (arith, length_tag_ends (g + size t) ts)

length_tags_of : (rs : List (List Tag)) → length (tags_of rs) ≡ listed rs
unfolding tags_of listed
length_tags_of [] = refl
length_tags_of (r ∷ rs) = rw length-append (omega (arith, length_tags_of rs))

rows_back : (k : ℕ) (rs : List (List Tag)) → slices_to k (row_ends_of k rs) (tags_of rs) ≡ rs
unfolding row_ends_of tags_of slices_to
rows_back k [] = refl
rows_back k (r ∷ rs) =
    let e : length r ≡ k + length r - k = omega arith in
    rw (take_at r (tags_of rs) _ e, drop_at r (tags_of rs) _ e, rows_back (k + length r) rs)

tags_back : (g : ℕ) (ts : List Tag) (x : List ℕ) → All (All Char) ts → map scalars (slices_to g (tag_ends_of g ts) (bytes_of ts ++ x)) ≡ ts
unfolding tag_ends_of bytes_of slices_to
tags_back g [] x h = refl
tags_back g (t ∷ ts) x h =
    let e : length (encodes t) ≡ g + size t - g = omega (arith, length_encodes t) in
    rw (append_assoc, take_at (encodes t) (bytes_of ts ++ x) _ e, drop_at (encodes t) (bytes_of ts ++ x) _ e, tags_back (g + size t) ts x h.1, scalars_encodes t (All-imp Char _ (λ c p. p.is_scalar) t h.0))

tags_chars : (n : ℕ) (rs : List (List Tag)) → All (Row n) rs → All (All Char) (tags_of rs)
unfolding tags_of
tags_chars n [] h = tt
tags_chars n (r ∷ rs) h = All-append (All Char) r (tags_of rs) h.0.chars (tags_chars n rs h.1)

module _ (r : Record) (d : Buffers) (s : Sentence) (w e g : List ℕ) (h : Holds r d s) (l : Lists s w e g) where
  row_ends : take r.n w ≡ row_ends_of 0 (rows s)
  row_ends = let f : r.n ≡ length (row_ends_of 0 (rows s)) = n_held h ∙ sym (length_row_ends 0 (rows s) ∙ length_rows s.cells) in rw f l.row_ends_at

  tag_ends : take (listed (rows s)) e ≡ tag_ends_of 0 (tags_of (rows s))
  tag_ends = let f = length_tag_ends 0 (tags_of (rows s)) ∙ length_tags_of (rows s) in rw (← f) l.tag_ends_at

  tags : map scalars (slices_to 0 (take (listed (rows s)) e) g) ≡ tags_of (rows s)
  tags =
      let ts = tags_of (rows s) in
      rw (tag_ends, ← (take-append-drop (length (bytes_of ts)) g), l.tag_bytes_at) (tags_back 0 ts _ (tags_chars s.columns (rows s) (rows_held h)))

  listed_spelled : spell_listed r d (listed (rows s)) w e g ≡ s
  unfolding spell_listed record_of
  listed_spelled =
      rw (
        (text_held h).is,
        scalars_encodes (text s) (All-imp Char _ (λ c p. p.is_scalar) (text s) (text_chars_held h)),
        (boundaries_held h).is,
        marks_back (marks s),
        tags,
        row_ends,
        rows_back 0 (rows s),
        cells_back s.cells,
        h.record_is,
      )

  -- where both hold one sentence, they spell the same
  pub same_spelled : spell_listed r d (listed (rows s)) w e g ≡ spell r d
  same_spelled = listed_spelled ∙ sym (spelled r d s h)

  -- so what is answered of the sentence that is spelled is answered alike
  pub same_answer : {A : Type 0} (answer : Sentence → A) → answer (spell_listed r d (listed (rows s)) w e g) ≡ answer (spell r d)
  same_answer answer = ap answer same_spelled
