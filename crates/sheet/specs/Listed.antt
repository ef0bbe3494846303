-- The rows as they were laid before they were padded: the listed tags alone, by where rows and tags end. No code has it; it says what stayed the same.
use Rattle.std.specs.Prelude.{ℕ, ◌+◌, ◌-◌, List, [], ◌∷◌, map, length, take, drop}
use Rattle.utf8.specs.Utf8.{scalars, size}
use Rattle.sentence.specs.Sentence.{Tag, Sentence, rows}
use Rattle.sheet.specs.declared.Record.{Record}
use Rattle.sheet.specs.Layout.{Buffers, tags_of, bytes_of, Front, mark_of, link}

-- where each row ends among the listed tags, after k of them
unfoldable pub row_ends_of : ℕ → List (List Tag) → List ℕ
row_ends_of k [] = []
row_ends_of k (r ∷ rs) = (k + length r) ∷ row_ends_of (k + length r) rs

-- where each tag ends among the tag bytes, after g of them
unfoldable pub tag_ends_of : ℕ → List Tag → List ℕ
tag_ends_of g [] = []
tag_ends_of g (t ∷ ts) = (g + size t) ∷ tag_ends_of (g + size t) ts

-- a list cut at ends that are counted from g on
unfoldable pub slices_to : {A : Type 0} → ℕ → List ℕ → List A → List (List A)
slices_to g [] d = []
slices_to g (e ∷ es) d = take (e - g) d ∷ slices_to e es (drop (e - g) d)

-- lists that start with the ends of a sentence's rows, the ends of its tags and their bytes
pub record Lists (s : Sentence) (row_ends tag_ends tag_bytes : List ℕ) : Type 0 where
  pub row_ends_at : Front (row_ends_of 0 (rows s)) row_ends
  pub tag_ends_at : Front (tag_ends_of 0 (tags_of (rows s))) tag_ends
  pub tag_bytes_at : Front (bytes_of (tags_of (rows s))) tag_bytes

-- the sentence that they spell, of n characters and k listed tags, beside the text and the boundaries
unfoldable pub spell_listed : Record → Buffers → ℕ → List ℕ → List ℕ → List ℕ → Sentence
spell_listed r d k w e g = record {
  cells =
      link
      (scalars (take r.b d.text_buf))
      (map mark_of (take (r.n - 1) d.boundaries_buf))
      (slices_to 0 (take r.n w) (map scalars (slices_to 0 (take k e) g)));
  columns = r.columns;
}
