-- What each act of a line stores in each of the eight buffers, and where.
use Rattle.std.specs.Prelude.{ℕ, zero, suc, ◌+◌, ◌-◌, ◌*◌, ◌≤◌, ◌≡◌, Bool, true, false, List, [], ◌∷◌, ◌++◌, length, replicate}
use Rattle.laws.specs.Put.{put}
use Rattle.utf8.specs.Utf8.{width, encode}
use Rattle.types.specs.TypeOf.{type_of}
use Rattle.sentence.specs.Sentence.{Mark, code}
use Rattle.sentence.specs.Reading.{Act, skip, letter, opens, of_tag}
use Rattle.sheet.specs.Eight.{Eight, pick, eight, Every, Each}
use Rattle.sheet.specs.Layout.{Buffers}
use Rattle.read_counts.specs.declared.Counts.{Counts}
use Rattle.read_counts.specs.Counts.{Small, opened}

-- a value for the character before, where n of them were read
unfoldable pub later : ℕ → ℕ → List ℕ
later zero v = []
later (suc n) v = v ∷ []

-- where the next cell goes, where n characters were read, t tags of the last were closed, and each has c cells
unfoldable pub spot : ℕ → ℕ → ℕ → ℕ
spot c zero t = 0
spot c (suc n) t = n * c + t

abbrev pub place : ℕ → Counts → ℕ
place c k = spot c k.n k.tags

-- the value of the open tag's cell
unfoldable pub open_cell : ℕ → Bool → ℕ → List ℕ
open_cell zero o v = []
open_cell (suc n) true v = v ∷ []
open_cell (suc n) false v = []

-- the value of j absent cells
unfoldable pub absent_cells : ℕ → ℕ → ℕ → List ℕ
absent_cells zero j v = []
absent_cells (suc n) j v = replicate j v

-- the rest of a row of c cells: the open tag's, with the value v, and absent ones, with the value z
unfoldable pub row_cells : ℕ → ℕ → ℕ → Counts → List ℕ
row_cells c v z k = open_cell k.n k.tag v ++ absent_cells k.n (c - (k.tags + opened k.tag)) z

-- the bytes of a character of the open tag
unfoldable pub kept : Bool → List ℕ → List ℕ
kept true x = x
kept false x = []

-- a character of the text stores this, any other act nothing
unfoldable pub on_letter : (Mark → ℕ → List ℕ) → Act → List ℕ
on_letter f skip = []
on_letter f (letter m c) = f m c
on_letter f opens = []
on_letter f (of_tag c) = []

-- a cell is stored where its tag ends: where another follows, or with its row where a character follows
unfoldable pub cells_at : ℕ → ℕ → ℕ → Act → Counts → List ℕ
cells_at c v z skip k = []
cells_at c v z (letter m d) k = row_cells c v z k
cells_at c v z opens k = open_cell k.n k.tag v
cells_at c v z (of_tag d) k = []

unfoldable pub tag_byte : Act → Counts → List ℕ
tag_byte skip k = []
tag_byte (letter m c) k = []
tag_byte opens k = []
tag_byte (of_tag c) k = kept k.tag (encode c)

-- a buffer's store: where the next value goes, what an act stores there, and what the line's end stores there
pub record Store : Type 0 where
  pub index : Counts → ℕ
  pub emit : Act → Counts → List ℕ
  pub last : Counts → List ℕ

unfoldable pub text_store : Store
text_store = record { index = λ k. k.b; emit = λ a k. on_letter (λ m c. encode c) a; last = λ k. [] }

unfoldable pub types_store : Store
types_store = record { index = λ k. k.n; emit = λ a k. on_letter (λ m c. type_of c ∷ []) a; last = λ k. [] }

unfoldable pub boundaries_store : Store
boundaries_store = record { index = λ k. k.n - 1; emit = λ a k. on_letter (λ m c. later k.n (code m)) a; last = λ k. [] }

unfoldable pub char_pos_store : Store
char_pos_store = record { index = λ k. k.n; emit = λ a k. on_letter (λ m c. k.b ∷ []) a; last = λ k. k.b ∷ [] }

unfoldable pub byte_pos_store : Store
byte_pos_store = record { index = λ k. k.b; emit = λ a k. on_letter (λ m c. k.n ∷ replicate (width c - 1) 0) a; last = λ k. k.n ∷ [] }

-- the open tag starts behind the tag bytes before its own, an absent one behind all
unfoldable pub cell_starts_store : ℕ → Store
cell_starts_store c = record { index = place c; emit = λ a k. cells_at c (k.g - k.long) k.g a k; last = λ k. row_cells c (k.g - k.long) k.g k }

unfoldable pub cell_lengths_store : ℕ → Store
cell_lengths_store c = record { index = place c; emit = λ a k. cells_at c k.long 0 a k; last = λ k. row_cells c k.long 0 k }

unfoldable pub tag_bytes_store : Store
tag_bytes_store = record { index = λ k. k.g; emit = tag_byte; last = λ k. [] }

-- the stores of the eight buffers, where each character has c cells
abbrev pub stores : ℕ → Eight Store
stores c = eight text_store types_store boundaries_store char_pos_store byte_pos_store (cell_starts_store c) (cell_lengths_store c) tag_bytes_store

-- a buffer e is d with what w says stored by its store
abbrev pub StoredIn : (Store → List ℕ) → Counts → Store → List ℕ → List ℕ → Type 0
StoredIn w k p d e = e ≡ put d (p.index k) (w p)

-- every buffer of e is that of d with what w says stored by its store
pub record Stored (c : ℕ) (w : Store → List ℕ) (k : Counts) (d e : Buffers) : Type 0 where
  pub stored : Every (λ i. StoredIn w k (pick (stores c) i) (pick d i) (pick e i))

-- there is room for it
abbrev pub Room : ℕ → (Store → List ℕ) → Counts → Buffers → Type 0
Room c w k d = Each (λ p l. p.index k + length (w p) ≤ length l) (stores c) d

-- an act's character is that of n bytes of the line
abbrev pub Bytes : Act → List ℕ → Type 0
Bytes skip x = Unit {0}
Bytes (letter m c) x = x ≡ encode c
Bytes opens x = Unit {0}
Bytes (of_tag c) x = x ≡ encode c

-- the last character has at most c tags
pub record Narrow (c : ℕ) (k : Counts) : Type 0 where
  pub few : c ≤ 4096
  pub fits : k.tags + opened k.tag ≤ c

-- room in both lists of cells for the open tag's, and for the rest of its row
pub record CellRoom (c : ℕ) (k : Counts) (b l : List ℕ) : Type 0 where
  pub small : Small k 4096
  pub narrow : Narrow c k
  pub starts_room : place c k + length (open_cell k.n k.tag (k.g - k.long)) ≤ length b
  pub lengths_room : place c k + length (open_cell k.n k.tag k.long) ≤ length l

pub record RowRoom (c : ℕ) (k : Counts) (b l : List ℕ) : Type 0 where
  pub small : Small k 4096
  pub narrow : Narrow c k
  pub starts_room : place c k + length (row_cells c (k.g - k.long) k.g k) ≤ length b
  pub lengths_room : place c k + length (row_cells c k.long 0 k) ≤ length l

-- what an act needs that is stored: counts no larger than a line, its character's bytes x, and room
pub record Turning (c : ℕ) (a : Act) (k : Counts) (x : List ℕ) (d : Buffers) : Type 0 where
  pub small : Small k 4096
  pub narrow : Narrow c k
  pub some : 1 ≤ length x
  pub few : length x ≤ 4
  pub bytes : Bytes a x
  pub room : Room c (λ p. p.emit a k) k d

-- what the line's end needs, of the four buffers that it stores in
pub record Finishing (c : ℕ) (k : Counts) (d : Buffers) : Type 0 where
  pub char_pos_room : k.n + 1 ≤ length d.char_pos_buf
  pub byte_pos_room : k.b + 1 ≤ length d.byte_pos_buf
  pub row_room : RowRoom c k d.cell_starts_buf d.cell_lengths_buf
