-- How a sentence lies in eight lent buffers, and which sentence a record and buffers hold.
use Rattle.std.specs.Prelude.{ℕ, zero, suc, ◌+◌, ◌-◌, ◌*◌, ◌≤◌, ◌≡◌, Bool, List, [], ◌∷◌, ◌++◌, map, leb, length, take, drop, get_or}
use Rattle.laws.specs.Put.{over}
use Rattle.utf8.specs.Utf8.{scalars, encodes, size}
use Rattle.sentence.specs.Sentence.{Tag, Mark, none, word, unknown, code, Cells, final, cell, Sentence, text, marks, rows, count, types, char_positions}
use Rattle.sentence.specs.Sentence.{byte_positions, cut, pad, tag_bytes, Formed}
use Rattle.sheet.specs.declared.Record.{Record}
use Rattle.sheet.specs.Eight.{Eight, pick, eight, each, pairwise, all, Each}

-- the contents of the eight buffers
abbrev pub Buffers : Type 0
Buffers = Eight (List ℕ)

abbrev pub buffers : List ℕ → List ℕ → List ℕ → List ℕ → List ℕ → List ℕ → List ℕ → List ℕ → Buffers
buffers = eight

-- the eight buffers that are lent: before a call, after it, and where a call asks something of them
abbrev pub lent_before : List ℕ → List ℕ → List ℕ → List ℕ → List ℕ → List ℕ → List ℕ → List ℕ → Buffers
lent_before = buffers

abbrev pub lent_after : List ℕ → List ℕ → List ℕ → List ℕ → List ℕ → List ℕ → List ℕ → List ℕ → Buffers
lent_after = buffers

abbrev pub lent : List ℕ → List ℕ → List ℕ → List ℕ → List ℕ → List ℕ → List ℕ → List ℕ → Buffers
lent = buffers

-- the buffers with other boundaries, and with other cells
abbrev pub with_boundaries : List ℕ → Buffers → Buffers
with_boundaries m d =
    buffers d.text_buf d.types_buf m d.char_pos_buf d.byte_pos_buf d.cell_starts_buf d.cell_lengths_buf d.tag_bytes_buf

abbrev pub with_cells : List ℕ → List ℕ → Buffers → Buffers
with_cells w e d = buffers d.text_buf d.types_buf d.boundaries_buf d.char_pos_buf d.byte_pos_buf w e d.tag_bytes_buf

-- the buffers e are the buffers b, one by one
abbrev pub Same : Buffers → Buffers → Type 0
Same b e = Each (λ x y. y ≡ x) b e

-- N, B, columns, N times columns, and G
unfoldable pub record_of : Sentence → Record
record_of s = record { n = count s; b = size (text s); columns = s.columns; cells = count s * s.columns; g = tag_bytes (rows s) }

-- all listed tags, row after row
unfoldable pub tags_of : List (List Tag) → List Tag
tags_of [] = []
tags_of (r ∷ rs) = r ++ tags_of rs

-- all cells, row after row, with absent tags up to n columns
unfoldable pub cells_of : ℕ → List (List Tag) → List Tag
cells_of n [] = []
cells_of n (r ∷ rs) = pad n r ++ cells_of n rs

-- where each cell starts among the tag bytes: behind g of them, and those of all cells before
unfoldable pub cell_starts : ℕ → List Tag → List ℕ
cell_starts g [] = []
cell_starts g (t ∷ ts) = g ∷ cell_starts (g + size t) ts

-- the bytes of tags, one after another
unfoldable pub bytes_of : List Tag → List ℕ
bytes_of [] = []
bytes_of (t ∷ ts) = encodes t ++ bytes_of ts

-- what each buffer starts with
unfoldable pub lay : Sentence → Buffers
lay s = record {
  text_buf = encodes (text s);
  types_buf = types (text s);
  boundaries_buf = map code (marks s);
  char_pos_buf = char_positions (text s);
  byte_pos_buf = byte_positions (text s);
  cell_starts_buf = cell_starts 0 (cells_of s.columns (rows s));
  cell_lengths_buf = map size (cells_of s.columns (rows s));
  tag_bytes_buf = bytes_of (tags_of (rows s));
}

-- each buffer with its list of a sentence at its front, and then what it held
unfoldable pub laid : Sentence → Buffers → Buffers
laid s d = pairwise over (lay s) d

-- how much of each buffer a record takes: text B, types N, boundaries N-1, char positions N+1, byte positions B+1, starts and lengths a cell each, tag bytes G
abbrev pub takes : Record → Eight ℕ
takes r = eight r.b r.n (r.n - 1) (r.n + 1) (r.b + 1) r.cells r.cells r.g

-- there is so much of each
unfoldable pub enough : Eight ℕ → Eight ℕ → Bool
enough n l = all (λ i. leb (pick n i) (pick l i))

-- the buffers have the room that a record takes
unfoldable pub room_for : Record → Buffers → Bool
room_for r d = enough (takes r) (each length d)

-- each buffer is at least so long
abbrev pub AtLeast : Eight ℕ → Buffers → Type 0
AtLeast n d = Each (λ k l. k ≤ length l) n d

-- a buffer starts with a list
abbrev pub Front : List ℕ → List ℕ → Type 0
Front front d = take (length front) d ≡ front

-- the record and the buffers are the sentence as laid out, within the limits; memory past the needed room is free
pub record Holds (r : Record) (d : Buffers) (s : Sentence) : Type 0 where
  pub formed : Formed s
  pub record_is : r ≡ record_of s
  pub lies : Each Front (lay s) d

-- ---- the sentence that a record and buffers spell
-- a list cut into slices of these lengths
unfoldable pub slices : List ℕ → List ℕ → List (List ℕ)
slices [] d = []
slices (l ∷ ls) d = take l d ∷ slices ls (drop l d)

-- k rows of n cells each, up to their last present one
unfoldable pub rows_by : ℕ → ℕ → List Tag → List (List Tag)
rows_by n zero ts = []
rows_by n (suc k) ts = cut (take n ts) ∷ rows_by n k (drop n ts)

-- the boundary of a number
unfoldable pub mark_of : ℕ → Mark
mark_of zero = none
mark_of (suc zero) = word
mark_of (suc (suc n)) = unknown

-- characters with their rows and the boundaries between them
unfoldable pub link : List ℕ → List Mark → List (List Tag) → Cells
link [] ms rs = final 0 []
link (c ∷ []) ms rs = final c (get_or rs 0 [])
link (c ∷ d ∷ cs) ms rs = cell c (get_or rs 0 []) (get_or ms 0 none) (link (d ∷ cs) (drop 1 ms) (drop 1 rs))

unfoldable pub spell : Record → Buffers → Sentence
spell r d = record {
  cells =
      link
      (scalars (take r.b d.text_buf))
      (map mark_of (take (r.n - 1) d.boundaries_buf))
      (rows_by r.columns r.n (map scalars (slices (take r.cells d.cell_lengths_buf) d.tag_bytes_buf)));
  columns = r.columns;
}

-- they are a sheet: the sentence that they spell is laid out in them
abbrev pub Sheet : Record → Buffers → Type 0
Sheet r d = Holds r d (spell r d)
