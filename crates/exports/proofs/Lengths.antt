-- How long a written line can be. The bounds are wide; they only say that lengths and codes fit. Assumes nothing.
use Prim.Native.Nat.{ℕ, zero, suc, ◌+◌, ◌-◌, ◌*◌, ◌^◌, ◌≤◌, ◌<◌}
use native.Mathlib.Omega.{arith}
use mathlib.Core.Path.{sym, ap, ◌∙◌}
use mathlib.Core.List.{List, [], ◌∷◌, map}
use lib.ListN.{length, take, drop, get_or}
use Rattle.laws.specs.If.{when◌then◌else◌}
use Rattle.utf8.specs.Utf8.{width, size}
use Rattle.utf8.proofs.Codec.{width_small, size_append, length_encodes, size_long}
use Rattle.sentence.specs.Sentence.{Tag, Cells, final, cell, Sentence, text_of, rows_of, text, marks, rows, pad, row_bytes, tag_bytes, CellsOf, Formed}
use Rattle.sentence.specs.declared.Form.{Form}
use Rattle.sentence.specs.declared.Form.TheVariants.{Raw as raw, Tokenized as tokenized, Partial as partial}
use Rattle.sentence.specs.Reading.{Kind, mark, slash, back, plain, kind}
use Rattle.sentence.specs.Writing.{Token, token, tokens_from, surface, escape_as, escape, write_tags, write_token, joined, sign, shown, write_partial, line, written}
use Rattle.sentence.proofs.Shape.{cut_bytes}
use Rattle.sentence.proofs.Trips.{Shows, pad_shows, shown_shows}
use Rattle.sentence.proofs.Tokens.{tokens_few}
use Rattle.sentence.proofs.Cells.{length_marks, rows_are, row_at}

-- ---- tags
escape_one : (k : Kind) (c : ℕ) → size (escape_as k c) ≤ 2 * width c
unfolding escape_as size width when◌then◌else◌
escape_one (mark m) c = omega (arith, width_small c)
escape_one slash c = omega (arith, width_small c)
escape_one back c = omega (arith, width_small c)
escape_one plain c = omega (arith, width_small c)

escape_size : (f : Form) (cs : List ℕ) → size (escape f cs) ≤ 2 * size cs
unfolding escape size
escape_size f [] = omega arith
escape_size f (c ∷ cs) = omega (arith, size_append (escape_as (kind f c) c) (escape f cs), escape_one (kind f c) c, escape_size f cs)

tags_size : (f : Form) (ts : List Tag) → size (write_tags f ts) ≤ length ts + 2 * row_bytes ts
unfolding write_tags size row_bytes width when◌then◌else◌
tags_size f [] = omega arith
tags_size f (t ∷ ts) = omega (arith, size_append (escape f t) (write_tags f ts), escape_size f t, tags_size f ts)

-- what is written for a row: at most n tags, of its bytes
row_size : (f : Form) (n : ℕ) (r us : List Tag) → Shows n r us → size (write_tags f us) ≤ n + 2 * row_bytes r
row_size f n r us h = omega (arith, tags_size f us, h.fits, sym (cut_bytes us) ∙ ap row_bytes h.row)

-- ---- the partial form
partial_size : (n : ℕ) (s : Cells) → n ≤ 4096 → CellsOf n s → size (write_partial n s) ≤ size (text_of s) + 4100 * length (text_of s) + 2 * tag_bytes (rows_of s)
unfolding write_partial size text_of rows_of tag_bytes
partial_size n (final c r) h k = omega (arith, row_size partial n r (pad n r) (pad_shows n r k.1))
partial_size n (cell c r m s) h k =
    omega (arith, size_append (write_tags partial (shown n m r)) (sign m ∷ write_partial n s), row_size partial n r (shown n m r) (shown_shows n m r k.1), partial_size n s h k.2, width_small (sign m))

-- ---- the tokenized form
take_size : (k : ℕ) (cs : List ℕ) → size (take k cs) ≤ size cs
unfolding size
take_size zero cs = omega arith
take_size (suc k) [] = omega arith
take_size (suc k) (c ∷ cs) = omega (arith, take_size k cs)

drop_size : (k : ℕ) (cs : List ℕ) → size (drop k cs) ≤ size cs
unfolding size
drop_size zero cs = omega arith
drop_size (suc k) [] = omega arith
drop_size (suc k) (c ∷ cs) = omega (arith, drop_size k cs)

bytes_at : (i : ℕ) (rs : List (List Tag)) → row_bytes (get_or rs i []) ≤ tag_bytes rs
unfolding row_bytes tag_bytes
bytes_at i [] = omega arith
bytes_at zero (r ∷ rs) = omega arith
bytes_at (suc i) (r ∷ rs) = omega (arith, bytes_at i rs)

module _ (s : Sentence) (h : Formed s) where
  token_size : (t : Token) → size (write_token s t) ≤ 143358
  unfolding write_token
  token_size (token b e) =
      let r : List Tag = get_or (rows s) (e - 1) [] in
      omega (
        arith,
        size_append (escape tokenized (surface s b e)) (write_tags tokenized (pad s.columns r)),
        escape_size tokenized (surface s b e),
        take_size (e - b) (drop b (text s)),
        drop_size b (text s),
        row_size tokenized s.columns r (pad s.columns r) (pad_shows s.columns r (row_at s.columns (e - 1) (rows s) (rows_are s.columns s.cells h.cells_are))),
        bytes_at (e - 1) (rows s),
      )

  tokens_size : (ts : List Token) → size (joined (map (write_token s) ts)) ≤ 143359 * length ts
  unfolding joined size width when◌then◌else◌
  tokens_size [] = omega arith
  tokens_size (t ∷ []) = omega (arith, token_size t)
  tokens_size (t ∷ u ∷ ts) =
      omega (arith, size_append (write_token s t) (32 ∷ joined (map (write_token s) (u ∷ ts))), token_size t, tokens_size (u ∷ ts))

  pub written_small : (f : Form) → length (written f s) < 2 ^ 32
  unfolding line
  written_small raw = omega (arith, length_encodes (text s), h.text_fits)
  written_small tokenized =
      omega (arith, length_encodes (line tokenized s), tokens_size (tokens_from (marks s) 0), tokens_few (marks s), length_marks s.cells, size_long (text s), h.text_fits)
  written_small partial =
      omega (arith, length_encodes (line partial s), partial_size s.columns s.cells h.columns_fit h.cells_are, size_long (text s), h.text_fits, h.bytes_fit)
