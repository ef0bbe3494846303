-- What buffers that hold a sentence have at an index, for those that go through it character by character and tag by tag. Assumes nothing.
use Rattle.std.specs.Prelude.{Result, Err}
use Prim.Native.Nat.{ℕ, zero, suc, ◌+◌, ◌-◌, ◌*◌, ◌≤◌, ◌<◌}
use native.Mathlib.Nat.{mul-le-mul_right}
use native.Mathlib.Numerals.{add-one}
use native.Mathlib.Decide.{dec_lt}
use native.Mathlib.Omega.{arith}
use mathlib.Core.Path.{◌≡◌, refl, sym, ap, ◌∙◌}
use mathlib.Core.Bool.{Bool, true, false, not}
use mathlib.Core.List.{List, [], ◌∷◌, ◌++◌, append-nil, append_assoc}
use lib.ListN.{length, get_or, take, drop, replicate, length-append, length-drop, length-replicate, get_or-replicate, take-append-drop, drop_of_length-le, get_or-append, get_or-map}
use lib.Seq.{length-take-le, take-suc, drop-cons, take-add, take-take, take-nil, take_all, take-length, take_at, drop_at, take-append-le, take-append-add, drop-append-le, get_or-take, get_or-append-add}
use borrow.Author.Tests.{not-false}
use Rattle.laws.specs.If.{when◌then◌else◌}
use Rattle.laws.specs.All.{All}
use Rattle.utf8.specs.Utf8.{decode_at, width, encodes, size}
use Rattle.utf8.specs.declared.Decoded.TheVariants.{Char}
use Rattle.utf8.proofs.Codec.{length_encodes, encodes_append, size_append, width_small, decode_encode, size_long}
use Rattle.sentence.specs.Sentence.{Tag, Mark, none, word, unknown, code, Sentence, text, marks, rows, starts, numbers, pad, row_bytes, tag_bytes, Row}
use Rattle.sentence.specs.Sentence as SC
use Rattle.sentence.specs.declared.Refusal.{Refusal}
use Rattle.sentence.specs.Refusals.{refusal, Check, check, verdict, sheet_order}
use Rattle.sentence.specs.Writing.{surface}
use Rattle.sentence.proofs.Trips.{pad_length}
use Rattle.sheet.specs.declared.Record.{Record}
use Rattle.sheet.specs.Layout.{Buffers, takes, AtLeast, cells_of, cell_starts, bytes_of, Holds, Sheet, mark_of, spell}
use Rattle.sheet.specs.Check.{is_sheet}
use Rattle.sheet.proofs.Exact.{is_sheet_lem}
use Rattle.sheet.proofs.Eights.{every, one}
use Rattle.sentence.proofs.Cells.{length_marks, length_rows}
use Rattle.sheet.proofs.Held.{prefixes_held, Prefix, length_bytes_of, row_bytes_append, bytes_joined, bytes_same, cells_bytes, cells_long, n_held, b_held, columns_held, cells_held, g_held, text_held, boundaries_held, char_pos_held, byte_pos_held, cell_starts_held, cell_lengths_held, tag_bytes_held, text_chars_held, rows_held}

-- ---- a buffer that starts with a front of n elements
pub prefix_at : {n : ℕ} {front d : List ℕ} → Prefix n front d → (i : ℕ) → i < n → get_or d i 0 ≡ get_or front i 0
prefix_at {n} {front} {d} p i h = sym (get_or-take n d i 0 h) ∙ ap (λ (l : List ℕ). get_or l i 0) p.is

pub prefix_whole : {n : ℕ} {front d : List ℕ} → Prefix n front d → front ++ drop n d ≡ d
prefix_whole {n} {front} {d} p = rw p.is at (take-append-drop n d)

pub prefix_length : {n : ℕ} {front d : List ℕ} → Prefix n front d → length front ≡ n
prefix_length {n} {front} {d} p = rw p.is at (length-take-le n d p.fits)

pub prefix_of : {n : ℕ} {front d : List ℕ} → Prefix n front d → (b k : ℕ) → b + k ≤ n → take k (drop b d) ≡ take k (drop b front)
prefix_of {n} {front} {d} p b k h =
    let l = prefix_length p in
    ap (λ (m : List ℕ). take k (drop b m)) (sym (prefix_whole p))
    ∙ rw (drop-append-le b front (drop n d) (omega arith)) (take-append-le k (drop b front) (drop n d) (omega (arith, length-drop b front)))

-- ---- slices of a list that is made of lists one after the other
module _ {A B : Type 0} (F : List A → List B) (n : List A → ℕ) (joins : (us vs : List A) → F (us ++ vs) ≡ F us ++ F vs) (long : (us : List A) → length (F us) ≡ n us) where
  sum : (us vs : List A) → n (us ++ vs) ≡ n us + n vs
  sum us vs = omega (arith, long (us ++ vs), ap length (joins us vs), length-append (F us) (F vs), long us, long vs)

  middle : (us vs ws : List A) → take (n vs) (drop (n us) (F (us ++ (vs ++ ws)))) ≡ F vs
  middle us vs ws = rw (joins us (vs ++ ws), drop_at (F us) (F (vs ++ ws)) (n us) (long us), joins vs ws) (take_at (F vs) (F ws) (n vs) (long vs))

  -- from the b-th on, k of them
  stretch : (l : List A) (b k : ℕ) → take (n (take (b + k) l) - n (take b l)) (drop (n (take b l)) (F l)) ≡ F (take k (drop b l))
  stretch l b k =
      let whole : take b l ++ (take k (drop b l) ++ drop k (drop b l)) ≡ l = rw take-append-drop (take-append-drop b l) in
      let e : n (take (b + k) l) - n (take b l) ≡ n (take k (drop b l)) = omega (arith, ap n (take-add b k l), sum (take b l) (take k (drop b l))) in
      rw e (ap (λ (m : List A). take (n (take k (drop b l))) (drop (n (take b l)) (F m))) (sym whole) ∙ middle (take b l) (take k (drop b l)) (drop k (drop b l)))

  -- all from the b-th on
  rest : (l : List A) (b : ℕ) → drop (n (take b l)) (F l) ≡ F (drop b l)
  rest l b = ap (λ (m : List A). drop (n (take b l)) (F m)) (sym (take-append-drop b l)) ∙ rw (joins (take b l) (drop b l)) (drop_at (F (take b l)) (F (drop b l)) (n (take b l)) (long (take b l)))

  -- all before the b-th
  before : (l : List A) (b : ℕ) → take (n (take b l)) (F l) ≡ F (take b l)
  before l b = ap (λ (m : List A). take (n (take b l)) (F m)) (sym (take-append-drop b l)) ∙ rw (joins (take b l) (drop b l)) (take_at (F (take b l)) (F (drop b l)) (n (take b l)) (long (take b l)))

  within : (l : List A) (i : ℕ) → n (take i l) ≤ n l
  within l i = omega (arith, sum (take i l) (drop i l), ap n (take-append-drop i l))

-- one more element
module _ {A : Type 0} (z : A) where
  pub more : (l : List A) (i : ℕ) → i < length l → take (i + 1) l ≡ take i l ++ (get_or l i z ∷ [])
  more l i h = rw add-one (take-suc l i z h)

  pub left : (l : List A) (i : ℕ) → i < length l → drop i l ≡ get_or l i z ∷ drop (i + 1) l
  left l i h = rw add-one (drop-cons l i z h)

-- a stretch from b up to e, as a loop has what is left of it
pub stretch_left : {A : Type 0} (l : List A) (b e : ℕ) → drop b (take e l) ≡ take (e - b) (drop b l)
stretch_left l zero e = let f : e - 0 ≡ e = omega arith in rw f
stretch_left [] (suc b) e = rw (take-nil e, take-nil (e - suc b))
stretch_left (x ∷ l) (suc b) zero = let f : 0 - suc b ≡ 0 = omega arith in rw f
stretch_left (x ∷ l) (suc b) (suc e) = let f : suc e - suc b ≡ e - b = omega arith in rw f (stretch_left l b e)

-- ---- the bytes of a text
pub bytes_before : (cs : List ℕ) (i : ℕ) → size (take i cs) ≤ size cs
bytes_before = within encodes size encodes_append length_encodes

pub bytes_more : (cs : List ℕ) (b e : ℕ) → b ≤ e → size (take b cs) ≤ size (take e cs)
bytes_more cs b e h = rw (take-take b e cs h) at (bytes_before (take e cs) b)

pub bytes_next : (cs : List ℕ) (i : ℕ) → i < length cs → size (take (i + 1) cs) ≡ size (take i cs) + width (get_or cs i 0)
unfolding size
bytes_next cs i h = rw (more 0 cs i h, size_append) (omega arith)

-- ---- the bytes of tags
pub tag_bytes_before : (ts : List Tag) (j : ℕ) → row_bytes (take j ts) ≤ row_bytes ts
tag_bytes_before = within bytes_of row_bytes bytes_joined length_bytes_of

pub tag_bytes_next : (ts : List Tag) (j : ℕ) → j < length ts → row_bytes (take (j + 1) ts) ≡ row_bytes (take j ts) + size (get_or ts j [])
unfolding row_bytes
tag_bytes_next ts j h = rw (more [] ts j h, sum bytes_of row_bytes bytes_joined length_bytes_of) (omega arith)

-- ---- a cell among all: the c-th of the i-th of rows that have n each
absent_at : (k c : ℕ) → get_or (replicate {A = Tag} k []) c [] ≡ []
absent_at zero c = refl
absent_at (suc k) zero = refl
absent_at (suc k) (suc c) = absent_at k c

padded_at : (r : List Tag) (k c : ℕ) → get_or (r ++ replicate k []) c [] ≡ get_or r c []
padded_at [] k c = absent_at k c
padded_at (t ∷ r) k zero = refl
padded_at (t ∷ r) k (suc c) = padded_at r k c

pub pad_at : (n : ℕ) (r : List Tag) (c : ℕ) → get_or (pad n r) c [] ≡ get_or r c []
unfolding pad
pad_at n r c = padded_at r (n - length r) c

module _ (n : ℕ) where
  -- the cells past those of the first row
  past : (r : List Tag) (i c : ℕ) → length r ≤ n → suc i * n + c ≡ length (pad n r) + (i * n + c)
  past r i c h = omega (arith, pad_length n r h)

  pub cell_among : (rs : List (List Tag)) (i c : ℕ) → All (Row n) rs → i < length rs → c < n → get_or (cells_of n rs) (i * n + c) [] ≡ get_or (get_or rs i []) c []
  unfolding cells_of
  cell_among [] i c h l m = absurd (omega arith)
  cell_among (r ∷ rs) zero c h l m =
      let z : zero * n + c ≡ c = omega arith in
      rw (z, get_or-append (pad n r) (cells_of n rs) [] c (omega (arith, pad_length n r h.0.fits))) (pad_at n r c)
  cell_among (r ∷ rs) (suc i) c h l m =
      rw (past r i c h.0.fits, get_or-append-add (pad n r) (cells_of n rs) (i * n + c) []) (cell_among rs i c h.1 (omega arith) m)

  padded_bytes : (j k : ℕ) (r : List Tag) → row_bytes (take j (r ++ replicate k [])) ≡ row_bytes (take j r)
  unfolding row_bytes size
  padded_bytes zero k r = refl
  padded_bytes (suc j) zero [] = refl
  padded_bytes (suc j) (suc k) [] = omega (arith, rw (take-nil j) at (padded_bytes j k []))
  padded_bytes (suc j) k (t ∷ r) = rw (padded_bytes j k r)

  pad_bytes : (j : ℕ) (r : List Tag) → row_bytes (take j (pad n r)) ≡ row_bytes (take j r)
  unfolding pad
  pad_bytes j r = padded_bytes j (n - length r) r

  pad_all : (r : List Tag) → length r ≤ n → row_bytes (pad n r) ≡ row_bytes r
  pad_all r h = rw (take_all n (pad n r) (omega (arith, pad_length n r h)), take_all n r h) at (pad_bytes n r)

  -- the bytes before it: those of the rows before, and those before it in its row
  pub bytes_among : (rs : List (List Tag)) (i c : ℕ) → All (Row n) rs → i < length rs → c ≤ n
      → row_bytes (take (i * n + c) (cells_of n rs)) ≡ tag_bytes (take i rs) + row_bytes (take c (get_or rs i []))
  unfolding cells_of tag_bytes
  bytes_among [] i c h l m = absurd (omega arith)
  bytes_among (r ∷ rs) zero c h l m =
      let z : zero * n + c ≡ c = omega arith in
      rw (z, take-append-le c (pad n r) (cells_of n rs) (omega (arith, pad_length n r h.0.fits))) (omega (arith, pad_bytes c r))
  bytes_among (r ∷ rs) (suc i) c h l m =
      rw (past r i c h.0.fits, take-append-add (pad n r) (cells_of n rs) (i * n + c), row_bytes_append (pad n r))
      (omega (arith, pad_all r h.0.fits, bytes_among rs i c h.1 (omega arith) m))

-- ---- the lists of positions and starts
pub start_is : (at : ℕ) (cs : List ℕ) (i : ℕ) → i ≤ length cs → get_or (starts at cs) i 0 ≡ at + size (take i cs)
unfolding starts size
start_is at [] zero h = omega arith
start_is at [] (suc i) h = absurd (omega arith)
start_is at (c ∷ cs) zero h = omega arith
start_is at (c ∷ cs) (suc i) h = omega (arith, start_is (at + width c) cs i (omega arith))

-- the numbers of a character's inner bytes
abbrev inner : ℕ → List ℕ
inner c = replicate (width c - 1) 0

length_inner : (c : ℕ) → length (inner c) ≡ width c - 1
length_inner c = length-replicate (width c - 1) 0

-- past the first character
number_past : (k c : ℕ) (cs : List ℕ) (p : ℕ) → get_or (numbers k (c ∷ cs)) (width c + p) 0 ≡ get_or (numbers (k + 1) cs) p 0
unfolding numbers
number_past k c cs p =
    let e : width c + p ≡ suc (length (inner c) + p) = omega (arith, width_small c, length_inner c) in
    rw e (get_or-append-add (inner c) (numbers (k + 1) cs) p 0)

pub number_is : (k : ℕ) (cs : List ℕ) (i : ℕ) → i ≤ length cs → get_or (numbers k cs) (size (take i cs)) 0 ≡ k + i
unfolding size numbers
number_is k [] zero h = omega arith
number_is k [] (suc i) h = absurd (omega arith)
number_is k (c ∷ cs) zero h = omega arith
number_is k (c ∷ cs) (suc i) h = number_past k c cs (size (take i cs)) ∙ number_is (k + 1) cs i (omega arith) ∙ omega arith

-- no number is above the last
pub number_small : (k : ℕ) (cs : List ℕ) (p : ℕ) → get_or (numbers k cs) p 0 ≤ k + length cs
unfolding numbers
number_small k [] zero = omega arith
number_small k [] (suc p) = omega arith
number_small k (c ∷ cs) zero = omega arith
number_small k (c ∷ cs) (suc p) =
    elim (dec_lt p (width c - 1)) [
      | yes h ↦ rw (get_or-append (inner c) (numbers (k + 1) cs) 0 p (omega (arith, length_inner c)), get_or-replicate {A = ℕ} (width c - 1) p 0 0 h) (omega arith)
      | no h ↦ let e : p ≡ length (inner c) + (p - (width c - 1)) = omega (arith, length_inner c) in
          rw (e, get_or-append-add (inner c) (numbers (k + 1) cs) (p - (width c - 1)) 0) (omega (arith, number_small (k + 1) cs (p - (width c - 1))))
    ]

pub cell_start : (g : ℕ) (ts : List Tag) (j : ℕ) → j < length ts → get_or (cell_starts g ts) j 0 ≡ g + row_bytes (take j ts)
unfolding cell_starts row_bytes
cell_start g [] j h = absurd (omega arith)
cell_start g (t ∷ ts) zero h = omega arith
cell_start g (t ∷ ts) (suc j) h = omega (arith, cell_start (g + size t) ts j (omega arith))

pub mark_back : (m : Mark) → mark_of (code m) ≡ m
unfolding mark_of code
mark_back none = refl
mark_back word = refl
mark_back unknown = refl

pub mark_none : (b : ℕ) → b ≡ 0 → mark_of b ≡ none
unfolding mark_of
mark_none b e = rw e

pub mark_word : (b : ℕ) → b ≡ 1 → mark_of b ≡ word
unfolding mark_of
mark_word b e = rw e

pub mark_unknown : (b : ℕ) → (b ≡ 0 → ⊥) → (b ≡ 1 → ⊥) → mark_of b ≡ unknown
unfolding mark_of
mark_unknown zero e f = absurd (e refl)
mark_unknown (suc zero) e f = absurd (f refl)
mark_unknown (suc (suc b)) e f = refl

-- what holds of every element holds at an index
pub all_at : {A : Type 0} (P : A → Type 0) (z : A) (l : List A) (i : ℕ) → All P l → i < length l → P (get_or l i z)
all_at P z [] i h k = absurd (omega arith)
all_at P z (x ∷ l) zero h k = h.0
all_at P z (x ∷ l) (suc i) h k = all_at P z l i h.1 (omega arith)

-- ---- the numbers of a record that holds a sentence, and the room of its buffers
pub record Bounds (r : Record) (d : Buffers) (s : Sentence) : Type 0 where
  pub n_is : r.n ≡ length (text s)
  pub b_is : r.b ≡ size (text s)
  pub columns_is : r.columns ≡ s.columns
  pub cells_is : r.cells ≡ r.n * r.columns
  pub g_is : r.g ≡ tag_bytes (rows s)
  pub marks_long : length (marks s) ≡ r.n - 1
  pub rows_long : length (rows s) ≡ r.n
  pub cells_are : length (cells_of s.columns (rows s)) ≡ r.cells
  pub cells_size : row_bytes (cells_of s.columns (rows s)) ≡ r.g
  pub n_some : 1 ≤ r.n
  pub n_few : r.n ≤ r.b
  pub b_few : r.b ≤ 4096
  pub columns_few : r.columns ≤ 4096
  pub g_few : r.g ≤ 65535
  pub room : AtLeast (takes r) d

module _ {r : Record} {d : Buffers} {s : Sentence} (h : Holds r d s) where
  pub bounds : Bounds r d s
  bounds =
      let n_is = n_held h in
      let b_is = b_held h in
      let g_is = g_held h in
      let c-is = columns_held h in
      record {
        n_is = n_is;
        b_is = b_is;
        columns_is = c-is;
        cells_is = rw (n_is, c-is) (cells_held h);
        g_is = g_is;
        marks_long = omega (arith, length_marks s.cells);
        rows_long = omega (arith, length_rows s.cells);
        cells_are = cells_long h;
        cells_size = cells_bytes s.columns (rows s) ∙ sym g_is;
        n_some = omega (arith, length_marks s.cells);
        n_few = omega (arith, size_long (text s));
        b_few = omega (arith, h.formed.text_fits);
        columns_few = omega (arith, h.formed.columns_fit);
        g_few = omega (arith, h.formed.bytes_fit);
        room = every (λ i. (one (prefixes_held h) i).fits);
      }

  -- ---- what stands at an index
  pub char_pos_is : (i : ℕ) → i ≤ r.n → get_or d.char_pos_buf i 0 ≡ size (take i (text s))
  char_pos_is i k = prefix_at (char_pos_held h) i (omega arith) ∙ start_is 0 (text s) i (omega (arith, bounds)) ∙ omega arith

  pub byte_pos_is : (i : ℕ) → i ≤ r.n → get_or d.byte_pos_buf (size (take i (text s))) 0 ≡ i
  byte_pos_is i k =
      prefix_at (byte_pos_held h) (size (take i (text s))) (omega (arith, bounds, bytes_before (text s) i))
      ∙ number_is 0 (text s) i (omega (arith, bounds))
      ∙ omega arith

  -- also inside a character
  pub byte_pos_small : (p : ℕ) → p ≤ r.b → get_or d.byte_pos_buf p 0 ≤ r.n
  byte_pos_small p k = omega (arith, bounds, prefix_at (byte_pos_held h) p (omega arith), number_small 0 (text s) p)

  pub boundary_is : (i : ℕ) → i < r.n - 1 → get_or d.boundaries_buf i 0 ≡ code (get_or (marks s) i none)
  unfolding code
  boundary_is i k = prefix_at (boundaries_held h) i k ∙ get_or-map code (marks s) i none

  -- the cells, row after row
  abbrev pub cells : List Tag
  cells = cells_of s.columns (rows s)

  pub cell_start_is : (j : ℕ) → j < r.cells → get_or d.cell_starts_buf j 0 ≡ row_bytes (take j cells)
  cell_start_is j k = prefix_at (cell_starts_held h) j k ∙ cell_start 0 cells j (omega (arith, bounds)) ∙ omega arith

  pub cell_length_is : (j : ℕ) → j < r.cells → get_or d.cell_lengths_buf j 0 ≡ size (get_or cells j [])
  unfolding size
  cell_length_is j k = prefix_at (cell_lengths_held h) j k ∙ get_or-map size cells j []

  -- ---- slices of the text and of the tag bytes
  -- the bytes of the characters from b up to e
  pub text_stretch : (b e : ℕ) → b ≤ e → e ≤ r.n
      → take (size (take e (text s)) - size (take b (text s))) (drop (size (take b (text s))) d.text_buf) ≡ encodes (surface s b e)
  text_stretch b e k l =
      let f : b + (e - b) ≡ e = omega arith in
      prefix_of (text_held h) (size (take b (text s))) (size (take e (text s)) - size (take b (text s)))
      (omega (arith, bounds, bytes_before (text s) e, bytes_more (text s) b e k))
      ∙ (rw f at (stretch encodes size encodes_append length_encodes (text s) b (e - b)))

  -- the bytes of the j-th cell
  pub cell_stretch : (j : ℕ) → j < r.cells → take (size (get_or cells j [])) (drop (row_bytes (take j cells)) d.tag_bytes_buf) ≡ encodes (get_or cells j [])
  unfolding bytes_of
  cell_stretch j k =
      let l : j < length cells = omega (arith, bounds) in
      let n = tag_bytes_next cells j l in
      let f : row_bytes (take (j + 1) cells) - row_bytes (take j cells) ≡ size (get_or cells j []) = omega arith in
      let e = bytes_same s.columns (rows s) in
      prefix_of (tag_bytes_held h) (row_bytes (take j cells)) (size (get_or cells j [])) (omega (arith, bounds, tag_bytes_before cells (j + 1)))
      ∙ rw (← e) (rw (f, left [] cells j l, append-nil) at (stretch bytes_of row_bytes bytes_joined length_bytes_of cells j 1))

  -- ---- steps of a loop that goes by characters and boundaries
  pub marks_step : (i : ℕ) → i < r.n - 1 → drop i (marks s) ≡ mark_of (get_or d.boundaries_buf i 0) ∷ drop (i + 1) (marks s)
  marks_step i k = left none (marks s) i (omega (arith, bounds)) ∙ rw (boundary_is i k, mark_back (get_or (marks s) i none))

  pub marks_done : (i : ℕ) → r.n - 1 ≤ i → drop i (marks s) ≡ []
  marks_done i k = drop_of_length-le (marks s) {i = i} (omega (arith, bounds))

  pub text_step : (i : ℕ) → i < r.n → drop i (text s) ≡ get_or (text s) i 0 ∷ drop (i + 1) (text s)
  text_step i k = left 0 (text s) i (omega (arith, bounds))

  pub text_done : (i : ℕ) → r.n ≤ i → drop i (text s) ≡ []
  text_done i k = drop_of_length-le (text s) {i = i} (omega (arith, bounds))

  -- where the i-th character starts it is decoded, and the next starts behind it
  pub text_char : (i : ℕ) → i < r.n → decode_at d.text_buf (size (take i (text s))) ≡ Char (get_or (text s) i 0) (width (get_or (text s) i 0))
  unfolding decode_at encodes
  text_char i k =
      let at = size (take i (text s)) in
      let c = all_at SC.Char 0 (text s) i (text_chars_held h) (omega (arith, bounds)) in
      rw (
        ← (prefix_whole (text_held h)),
        drop-append-le at (encodes (text s)) (drop r.b d.text_buf) (omega (arith, length_encodes (text s), bytes_before (text s) i)),
        rest encodes size encodes_append length_encodes (text s) i,
        text_step i k,
        append_assoc,
      )
      (decode_encode (get_or (text s) i 0) _ c.is_scalar)

  pub text_next : (i : ℕ) → i < r.n → size (take (i + 1) (text s)) ≡ size (take i (text s)) + width (get_or (text s) i 0)
  text_next i k = bytes_next (text s) i (omega (arith, bounds))

  pub text_end : size (take r.n (text s)) ≡ r.b
  text_end = rw (bounds.n_is, take-length) (sym bounds.b_is)

  -- ---- steps of a loop that goes by cells
  pub cell_next : (j : ℕ) → j < r.cells → row_bytes (take (j + 1) cells) ≡ row_bytes (take j cells) + size (get_or cells j [])
  cell_next j k = tag_bytes_next cells j (omega (arith, bounds))

  pub cell_inside : (j : ℕ) → row_bytes (take j cells) ≤ r.g
  cell_inside j = omega (arith, bounds, tag_bytes_before cells j)

  -- the c-th cell of the i-th row stands among all
  pub cell_fits : (i c : ℕ) → i < r.n → c < r.columns → i * r.columns + c < r.cells
  cell_fits i c k l = omega (arith, bounds.cells_is, mul-le-mul_right {m = suc i} {n = r.n} r.columns (omega arith))

  pub cell_in_row : (i c : ℕ) → i < r.n → c < r.columns → get_or cells (i * r.columns + c) [] ≡ get_or (get_or (rows s) i []) c []
  cell_in_row i c k l = rw bounds.columns_is (cell_among s.columns (rows s) i c (rows_held h) (omega (arith, bounds)) (omega (arith, bounds)))

  pub cell_at : (i c : ℕ) → i < r.n → c ≤ r.columns → row_bytes (take (i * r.columns + c) cells) ≡ tag_bytes (take i (rows s)) + row_bytes (take c (get_or (rows s) i []))
  cell_at i c k l = rw bounds.columns_is (bytes_among s.columns (rows s) i c (rows_held h) (omega (arith, bounds)) (omega (arith, bounds)))

  -- a row lists at most as many tags as there are columns
  pub row_fits : (i : ℕ) → i < r.n → length (get_or (rows s) i []) ≤ r.columns
  row_fits i k =
      omega (arith, bounds, (all_at (Row s.columns) [] (rows s) i (rows_held h) (omega (arith, bounds))).fits)

-- ---- the answers of a call that goes by whether there is a sheet: g is what the check answered, `out` whether a number is out of range
pub refuses_13 : {A : Type 0} (r : Record) (d : Buffers) (g out : Bool) (first : ℕ) (served : Result A Refusal) → g ≡ is_sheet r d → g ≡ false
    → Err (refusal 13 0) ≡ verdict Err (sheet_order (not (is_sheet r d)) out first false 0) served
unfolding verdict when◌then◌else◌
refuses_13 r d g out first served e h = rw (← e, h)

-- the check found a sheet
pub record Found (r : Record) (d : Buffers) : Type 0 where
  pub sheet : Sheet r d
  pub is : is_sheet r d ≡ true
  pub limits : Bounds r d (spell r d)

pub found : (r : Record) (d : Buffers) (g : Bool) → g ≡ is_sheet r d → g ≡ true → Found r d
found r d g e h = let k = is_sheet_lem r d (sym e ∙ h) in record { sheet = k; is = sym e ∙ h; limits = bounds k }

module _ {A : Type 0} {r : Record} {d : Buffers} (f : Found r d) (out : Bool) (first : ℕ) (served : Result A Refusal) where
  pub refuses_14 : {u : Refusal} → u ≡ refusal 14 first → out ≡ true → Err u ≡ verdict Err (sheet_order (not (is_sheet r d)) out first false 0) served
  unfolding verdict when◌then◌else◌
  refuses_14 i o = rw (f.is, o) (ap Err i)

  pub serves : {a : Result A Refusal} → out ≡ false → a ≡ served → a ≡ verdict Err (sheet_order (not (is_sheet r d)) out first false 0) served
  unfolding verdict when◌then◌else◌
  serves o i = rw (f.is, o) i

-- what a check that was passed says
pub checked : (r : Record) (d : Buffers) (g : Bool) → g ≡ is_sheet r d → not g ≡ false → Sheet r d
checked r d g e h = is_sheet_lem r d (sym e ∙ not-false g h)

-- the checks that an answer passed which is no refusal
abbrev pub Passed : List Check → Type 0
Passed [] = Unit {0}
Passed (check b n p ∷ cs) = (b ≡ false) × Passed cs

pub passed : {A : Type 0} (refuse : Refusal → A) (a : A) → ((x : Refusal) → refuse x ≡ a → ⊥)
    → (cs : List Check) (served : A) → verdict refuse cs served ≡ a → Passed cs × (served ≡ a)
unfolding verdict when◌then◌else◌
passed refuse a apart [] served e = (tt, e)
passed refuse a apart (check true n p ∷ cs) served e = absurd (apart _ e)
passed refuse a apart (check false n p ∷ cs) served e = let k = passed refuse a apart cs served e in ((refl, k.0), k.1)
