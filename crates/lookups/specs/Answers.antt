-- What the look-ups answer, of whether there is a sheet and of the sentence that it spells: 13 where there is none, then 14 at the first number given.
use Rattle.std.specs.Prelude.{ℕ, ◌+◌, ◌-◌, Bool, false, not, ◌||◌, List, [], ◌∷◌, leb, ltb, eqb, take, get_or, None, Ok, Err}
use Rattle.utf8.specs.Utf8.{size}
use Rattle.sentence.specs.Sentence.{Tag, none, code, Sentence, text, marks, rows, count, char_positions, byte_positions, row_bytes, tag_bytes}
use Rattle.sentence.specs.Refusals.{verdict, sheet_order}
use Rattle.sheet.specs.Answers.{Number}
use Rattle.sheet.specs.Answers.{Slice, slice_of}

-- the byte position of character i; at N it is B
abbrev pub start_at : Sentence → ℕ → ℕ
start_at s i = get_or (char_positions (text s)) i 0

-- a character position is at most N
unfoldable pub char_to_str_pos_of : Bool → Sentence → ℕ → Number
char_to_str_pos_of good s i = verdict Err (sheet_order (not good) (ltb (count s) i) i false 0) (Ok (start_at s i))

-- a number stands in a list
unfoldable pub found : ℕ → List ℕ → Bool
found p [] = false
found p (q ∷ qs) = eqb p q || found p qs

-- a byte position is at most B, and not inside a character
unfoldable pub str_to_char_pos_of : Bool → Sentence → ℕ → Number
str_to_char_pos_of good s p =
    verdict Err (sheet_order (not good) (ltb (size (text s)) p || not (found p (char_positions (text s)))) p false 0)
    (Ok (get_or (byte_positions (text s)) p 0))

-- the number of boundary i
abbrev pub mark_at : Sentence → ℕ → ℕ
mark_at s i = code (get_or (marks s) i none)

-- a boundary index is below N-1
unfoldable pub boundary_at : Bool → Sentence → ℕ → Number
boundary_at good s i = verdict Err (sheet_order (not good) (leb (count s - 1) i) i false 0) (Ok (mark_at s i))

-- the tag of a cell; those past the row are absent
abbrev pub cell : Sentence → ℕ → ℕ → Tag
cell s row column = get_or (get_or (rows s) row []) column []

-- where it starts among the tag bytes: behind the tags of the rows before, and those before it in its row
unfoldable pub cell_start : List (List Tag) → ℕ → ℕ → ℕ
cell_start rs row column = tag_bytes (take row rs) + row_bytes (take column (get_or rs row []))

-- the slice of a tag that starts at a byte; an absent one has none
unfoldable pub tag_slice : ℕ → Tag → Slice
tag_slice at [] = Ok None
tag_slice at (c ∷ t) = slice_of at (at + size (c ∷ t))

-- a cell's row is below N, its column below the columns
unfoldable pub tag_at : Bool → Sentence → ℕ → ℕ → Slice
tag_at good s row column =
    verdict Err (sheet_order (not good) (leb (count s) row || leb s.columns column) row false 0)
    (tag_slice (cell_start (rows s) row column) (cell s row column))

-- the text from the one character's start up to the other's
abbrev pub surface_slice : Sentence → ℕ → ℕ → Slice
surface_slice s b e = slice_of (start_at s b) (start_at s e)

-- a surface's start is below its end, and that at most N
unfoldable pub surface_at : Bool → Sentence → ℕ → ℕ → Slice
surface_at good s b e =
    verdict Err (sheet_order (not good) (leb e b || ltb (count s) e) b false 0)
    (surface_slice s b e)
