-- The test of a sheet is exact: where it is true the buffers hold the sentence that they spell, where it is false they hold none. Assumes nothing.
use Prim.Native.Nat.{ℕ, zero, suc, ◌+◌, ◌-◌, ◌*◌, ◌≤◌}
use native.Mathlib.Omega.{arith}
use mathlib.Core.Path.{◌≡◌, refl, sym, ap, ◌∙◌}
use mathlib.Core.Bool.{true, false, true≢false, false≢true, and-eq-true_iff}
use mathlib.Core.List.{List, [], ◌∷◌, ◌++◌, map}
use borrow.Author.Tests.{eq-eqb, eqb-true, le-leb, leb-true}
use lib.Dec.{leb}
use lib.ListN.{length, take, drop, length-map, length-take, length-drop, take-append-drop}
use lib.Seq.{length-take-le, drop-drop, drop-length, take-append-le, drop-append-le, take_at, drop_at}
use Rattle.laws.specs.All.{All, All-imp, All-take, All-drop}
use Rattle.laws.proofs.Facts.{reads}
use Rattle.utf8.specs.Utf8.{scalars, encodes, size}
use Rattle.utf8.proofs.Codec.{length_encodes, scalars_encodes, size_long}
use Rattle.types.specs.TypeOf.{type_of}
use Rattle.sentence.specs.Sentence.{Tag, Mark, none, word, unknown, code, Cells, Sentence, text_of, marks_of, rows_of, text, marks, rows, types, char_positions, byte_positions, cut, row_bytes, tag_bytes, Char, Row, CellsOf, Formed}
use Rattle.sentence.proofs.Shape.{cut_row}
use Rattle.sentence.proofs.Trips.{pad_whole}
use Rattle.sheet_check.specs.Passes.{is_text, are_marks, is_cell, cells_to, are_cells}
use Rattle.sheet_check.proofs.Says.{same_self, Plain, plain_is, is_plain_lem, TextIs, text_is}
use Rattle.sheet.specs.declared.Record.{Record}
use Rattle.sheet.specs.Eight.{Which, the_text, the_types, the_boundaries, the_char_pos, the_byte_pos, the_cell_starts, the_cell_lengths, the_tag_bytes, Eight, pick, each, Each}
use Rattle.sheet.specs.Layout.{Buffers, record_of, tags_of, cells_of, cell_starts, bytes_of, lay, takes, enough, room_for, AtLeast, Front, Holds, slices, rows_by, mark_of, link, spell, Sheet}
use Rattle.sheet.specs.Check.{in_limits, is_laid, Room, is_sheet}
use Rattle.sheet.proofs.Eights.{in_order, every, one, pick_each, all_true, true_all}
use Rattle.sentence.proofs.Cells.{length_marks}
use Rattle.sheet.proofs.Held.{prefixes_held, length_cell_starts, length_bytes_of, bytes_tags_of, bytes_same, n_held, b_held, columns_held, cells_held, g_held, text_held, types_held, boundaries_held, char_pos_held, byte_pos_held, cell_starts_held, cell_lengths_held, tag_bytes_held, text_chars_held, cells_chars_held}

-- ---- boundaries
marks_are : (ms : List ℕ) → are_marks ms ≡ true → map code (map mark_of ms) ≡ ms
unfolding are_marks mark_of code
marks_are [] e = refl
marks_are (zero ∷ ms) e = rw (marks_are ms e)
marks_are (suc zero ∷ ms) e = rw (marks_are ms e)
marks_are (suc (suc zero) ∷ ms) e = rw (marks_are ms e)
marks_are (suc (suc (suc m)) ∷ ms) e =
    let k = ((and-eq-true_iff (leb (suc (suc (suc m))) 2) (are_marks ms)).0 e).0 in absurd (omega (arith, leb-true))

are_marks_lem : (ms : List Mark) → are_marks (map code ms) ≡ true
unfolding are_marks code
are_marks_lem [] = refl
are_marks_lem (none ∷ ms) = are_marks_lem ms
are_marks_lem (word ∷ ms) = are_marks_lem ms
are_marks_lem (unknown ∷ ms) = are_marks_lem ms

-- ---- cells
-- the cells from byte g of s on, with their starts and lengths
record CellsAre (s : List ℕ) (g : ℕ) (bs ls : List ℕ) (ts : List Tag) : Type 0 where
  starts : cell_starts g ts ≡ bs
  lengths : map size ts ≡ ls
  bytes : bytes_of ts ≡ drop g s
  chars : All (All Char) ts

cells_none : (s : List ℕ) (g : ℕ) → g ≡ length s → CellsAre s g [] [] []
unfolding cell_starts bytes_of
cells_none s g e = record { starts = refl; lengths = refl; bytes = sym (rw e (drop-length s)); chars = tt }

cells_more : (s : List ℕ) (g b l : ℕ) (bs ls : List ℕ) (ts : List Tag) → b ≡ g → g + l ≤ length s → Plain (take l (drop g s)) → CellsAre s (g + l) bs ls ts
    → CellsAre s g (b ∷ bs) (l ∷ ls) (scalars (take l (drop g s)) ∷ ts)
unfolding cell_starts bytes_of
cells_more s g b l bs ls ts e h p a =
    let t = take l (drop g s) in
    let z : size (scalars t) ≡ l = omega (arith, length_encodes (scalars t), ap length p.bytes, length-take-le l (drop g s) (omega (arith, length-drop g s))) in
    record {
      starts = rw (z, a.starts, e);
      lengths = rw (z, a.lengths);
      bytes = rw (p.bytes, a.bytes, ← (drop-drop l g s)) (take-append-drop l (drop g s));
      chars = (p.chars, a.chars);
    }

cells_are : (s x : List ℕ) (g : ℕ) (bs ls : List ℕ) → are_cells s g bs ls ≡ true → CellsAre s g bs ls (map scalars (slices ls (drop g s ++ x)))
unfolding are_cells cells_to is_cell slices
cells_are s x g [] [] e = cells_none s g (eqb-true g (length s) e)
cells_are s x g [] (l ∷ ls) e = absurd (false≢true e)
cells_are s x g (b ∷ bs) [] e = absurd (false≢true e)
cells_are s x g (b ∷ bs) (l ∷ ls) k =
    let (((a, f), p), rest) = simp and-eq-true_iff at k in
    let v = leb-true (g + l) (length s) f in
    let i : l ≤ length (drop g s) = omega (arith, length-drop g s) in
    rw (take-append-le l (drop g s) x i, drop-append-le l (drop g s) x i, drop-drop)
    (cells_more s g b l bs ls _ (eqb-true b g a) v (plain_is _ p) (cells_are s x (g + l) bs ls rest))

are_cells_lem : (s : List ℕ) (g : ℕ) (ts : List Tag) → All (All Char) ts → drop g s ≡ bytes_of ts → g + row_bytes ts ≡ length s → are_cells s g (cell_starts g ts) (map size ts) ≡ true
unfolding are_cells cells_to is_cell cell_starts bytes_of row_bytes
are_cells_lem s g [] a e h = eq-eqb g (length s) (omega arith)
are_cells_lem s g (t ∷ ts) a e h =
    let c = ap (take (size t)) e ∙ take_at (encodes t) (bytes_of ts) _ (length_encodes t) in
    let d = sym (drop-drop (size t) g s) ∙ ap (drop (size t)) e ∙ drop_at (encodes t) (bytes_of ts) _ (length_encodes t) in
    rw (eq-eqb g g refl, le-leb (g + size t) (length s) (omega arith), c, is_plain_lem t a.0)
    (are_cells_lem s (g + size t) ts a.1 d (omega arith))

-- ---- rows
-- k rows of n cells each
record RowsAre (n k : ℕ) (ts : List Tag) (rs : List (List Tag)) : Type 0 where
  cells : cells_of n rs ≡ ts
  rows : All (Row n) rs
  many : length rs ≡ k

row_is : (n : ℕ) (ts : List Tag) → All (All Char) ts → length ts ≡ n → Row n (cut ts)
row_is n ts a e = let c = cut_row 0 ts a in record { chars = c.chars; is_cut = c.is_cut; fits = omega (arith, c.fits) }

rows_of_lem : (n k : ℕ) (ts : List Tag) → All (All Char) ts → length ts ≡ k * n → RowsAre n k ts (rows_by n k ts)
unfolding cells_of rows_by
rows_of_lem n zero [] a e = record { cells = refl; rows = tt; many = refl }
rows_of_lem n zero (t ∷ ts) a e = absurd (omega arith)
rows_of_lem n (suc k) ts a e =
    let f : length (take n ts) ≡ n = length-take-le n ts (omega arith) in
    let r = rows_of_lem n k (drop n ts) (All-drop (All Char) n ts a) (omega (arith, length-drop n ts)) in
    record {
      cells = rw (pad_whole n (take n ts) f, r.cells) (take-append-drop n ts);
      rows = (row_is n (take n ts) (All-take (All Char) n ts a) f, r.rows);
      many = omega (arith, r.many);
    }

-- ---- the cells that characters, boundaries and rows make
record Linked (n : ℕ) (cs : List ℕ) (ms : List Mark) (rs : List (List Tag)) (x : Cells) : Type 0 where
  text_is : text_of x ≡ cs
  marks_is : marks_of x ≡ ms
  rows_is : rows_of x ≡ rs
  cells_are : CellsOf n x

linked : (n : ℕ) (cs : List ℕ) (ms : List Mark) (rs : List (List Tag)) → length cs ≡ length ms + 1 → length rs ≡ length cs → All Char cs → All (Row n) rs
    → Linked n cs ms rs (link cs ms rs)
unfolding link text_of marks_of rows_of
linked n [] ms rs e f a b = absurd (omega arith)
linked n (c ∷ cs) ms [] e f a b = absurd (omega arith)
linked n (c ∷ []) [] (r ∷ []) e f a b = record { text_is = refl; marks_is = refl; rows_is = refl; cells_are = (a.0, b.0) }
linked n (c ∷ []) [] (r ∷ q ∷ rs) e f a b = absurd (omega arith)
linked n (c ∷ []) (m ∷ ms) (r ∷ rs) e f a b = absurd (omega arith)
linked n (c ∷ d ∷ cs) [] (r ∷ rs) e f a b = absurd (omega arith)
linked n (c ∷ d ∷ cs) (m ∷ ms) (r ∷ rs) e f a b =
    let l = linked n (d ∷ cs) ms rs (omega arith) (omega arith) a.1 b.1 in
    record {
      text_is = rw l.text_is;
      marks_is = rw l.marks_is;
      rows_is = rw l.rows_is;
      cells_are = (a.0, b.0, l.cells_are);
    }

-- ---- what the tests say of the record and the room
pub record Limits (r : Record) : Type 0 where
  pub few_bytes : r.b ≤ 4096
  pub few_columns : r.columns ≤ 4096
  pub few_tag_bytes : r.g ≤ 65535
  pub cells_are : r.cells ≡ r.n * r.columns

pub limits_are : (r : Record) → in_limits r ≡ true → Limits r
unfolding in_limits
limits_are r = simp reads (omega arith)

-- so much of each, and the room of the buffers
enough_is : (n l : Eight ℕ) → enough n l ≡ true → Each ◌≤◌ n l
unfolding enough
enough_is n l h = every (λ i. leb-true (pick n i) (pick l i) (one (true_all _ h) i))

is_enough : (n l : Eight ℕ) → Each ◌≤◌ n l → enough n l ≡ true
unfolding enough
is_enough n l h = all_true _ (every (λ i. le-leb (pick n i) (pick l i) (one h i)))

pub has_room : (r : Record) (d : Buffers) → room_for r d ≡ true → AtLeast (takes r) d
unfolding room_for
has_room r d h = every (λ i. rw (pick_each length d i) at (one (enough_is (takes r) (each length d) h) i))

pub room_has : (r : Record) (d : Buffers) → AtLeast (takes r) d → room_for r d ≡ true
unfolding room_for
room_has r d h = is_enough (takes r) (each length d) (every (λ i. rw (pick_each length d i) (one h i)))

pub room_is : (r : Record) (d : Buffers) → in_limits r ≡ true → room_for r d ≡ true → Room r d
unfolding in_limits
room_is r d = simp reads (λ l h. record { some = omega arith; room = has_room r d h })

-- ---- a sentence that is held passes each test
module _ (r : Record) (d : Buffers) (s : Sentence) (h : Holds r d s) where
  limits_hold : in_limits r ≡ true
  unfolding in_limits
  limits_hold =
      let f = h.formed in
      rw (
        le-leb 1 r.n (omega (arith, n_held h, length_marks s.cells)),
        le-leb r.n r.b (omega (arith, n_held h, b_held h, size_long (text s))),
        le-leb r.b 4096 (omega (arith, b_held h, f.text_fits)),
        le-leb r.columns 4096 (omega (arith, columns_held h, f.columns_fit)),
        le-leb r.g 65535 (omega (arith, g_held h, f.bytes_fit)),
        eq-eqb r.cells (r.n * r.columns) (rw (n_held h, columns_held h) (cells_held h)),
      )

  room_holds : room_for r d ≡ true
  room_holds = room_has r d (every (λ i. (one (prefixes_held h) i).fits))

  text_holds : is_text (take r.b d.text_buf) (take r.n d.types_buf) (take (r.n + 1) d.char_pos_buf) (take (r.b + 1) d.byte_pos_buf) ≡ true
  unfolding is_text
  text_holds =
      let a = text_chars_held h in
      rw (
        (text_held h).is,
        (types_held h).is,
        (char_pos_held h).is,
        (byte_pos_held h).is,
        scalars_encodes (text s) (All-imp Char _ (λ c p. p.is_scalar) (text s) a),
        is_plain_lem (text s) a,
        same_self (types (text s)),
        same_self (char_positions (text s)),
        same_self (byte_positions (text s)),
      )

  cells_hold : are_cells (take r.g d.tag_bytes_buf) 0 (take r.cells d.cell_starts_buf) (take r.cells d.cell_lengths_buf) ≡ true
  cells_hold =
      let ts = cells_of s.columns (rows s) in
      let e = bytes_same s.columns (rows s) in
      rw ((tag_bytes_held h).is, ← e, (cell_starts_held h).is, (cell_lengths_held h).is)
      (are_cells_lem (bytes_of ts) 0 ts (cells_chars_held h) refl (omega (arith, length_bytes_of ts)))

  pub holds_is : is_sheet r d ≡ true
  unfolding is_sheet is_laid
  holds_is = rw (limits_hold, room_holds, text_holds, (boundaries_held h).is, are_marks_lem (marks s), cells_hold)

-- where the test is false, no sentence is held
pub no_sheet : (r : Record) (d : Buffers) → is_sheet r d ≡ false → (s : Sentence) → Holds r d s → ⊥
no_sheet r d e s h = true≢false (sym (holds_is r d s h) ∙ e)

-- ---- buffers that pass each test hold what they spell
at_front : (front d : List ℕ) (n : ℕ) → n ≤ length d → front ≡ take n d → Front front d
at_front front d n h e = let z : length front ≡ n = omega (arith, ap length e, length-take n d) in rw z (sym e)

-- characters, boundaries, cells and rows that are in the buffers
record In (r : Record) (d : Buffers) (cs : List ℕ) (ms : List Mark) (ts : List Tag) (rs : List (List Tag)) : Type 0 where
  limits : Limits r
  room : Room r d
  text : TextIs (take r.b d.text_buf) (take r.n d.types_buf) (take (r.n + 1) d.char_pos_buf) (take (r.b + 1) d.byte_pos_buf) cs
  marks_are : map code ms ≡ take (r.n - 1) d.boundaries_buf
  cells : CellsAre (take r.g d.tag_bytes_buf) 0 (take r.cells d.cell_starts_buf) (take r.cells d.cell_lengths_buf) ts
  rows_are : RowsAre r.columns r.n ts rs

module _ (r : Record) (d : Buffers) (cs : List ℕ) (ms : List Mark) (ts : List Tag) (rs : List (List Tag)) (h : In r d cs ms ts rs) where
  how_many : length cs ≡ r.n
  how_many = omega (arith, ap length h.text.types_are, length-map cs type_of, length-take r.n d.types_buf, h.room.room.types_is)

  how_many_marks : length ms ≡ r.n - 1
  how_many_marks = omega (arith, ap length h.marks_are, length-map ms code, length-take (r.n - 1) d.boundaries_buf, h.room.room.boundaries_is)

  how_many_bytes : size cs ≡ r.b
  how_many_bytes = omega (arith, length_encodes cs, ap length h.text.bytes, length-take r.b d.text_buf, h.room.room.text_is)

  bytes_are : bytes_of (tags_of rs) ≡ take r.g d.tag_bytes_buf
  bytes_are = sym (bytes_same r.columns rs) ∙ rw h.rows_are.cells h.cells.bytes

  how_many_tag_bytes : tag_bytes rs ≡ r.g
  how_many_tag_bytes =
      omega (arith, length_bytes_of (tags_of rs), bytes_tags_of rs, ap length bytes_are, length-take r.g d.tag_bytes_buf, h.room.room.tag_bytes_is)

  are_linked : Linked r.columns cs ms rs (link cs ms rs)
  are_linked =
      linked r.columns cs ms rs
      (omega (arith, how_many, how_many_marks, h.room.some))
      (omega (arith, how_many, h.rows_are.many))
      h.text.chars
      h.rows_are.rows

  -- where cells are linked of them, those are held
  module _ (x : Cells) (k : Linked r.columns cs ms rs x) where
    n_is : r.n ≡ length (text_of x)
    n_is = rw k.text_is (sym how_many)

    b_is : r.b ≡ size (text_of x)
    b_is = rw k.text_is (sym how_many_bytes)

    cells_is : r.cells ≡ length (text_of x) * r.columns
    cells_is = rw (← n_is) h.limits.cells_are

    g_is : r.g ≡ tag_bytes (rows_of x)
    g_is = rw k.rows_is (sym how_many_tag_bytes)

    well_formed : Formed (record { cells = x; columns = r.columns })
    well_formed =
        record {
          cells_are = k.cells_are;
          text_fits = omega (arith, b_is, h.limits);
          columns_fit = h.limits.few_columns;
          bytes_fit = omega (arith, g_is, h.limits);
        }

    front : {f : List ℕ} (i : Which) → f ≡ take (pick (takes r) i) (pick d i) → Front f (pick d i)
    front i e = at_front _ _ (pick (takes r) i) (one h.room.room i) e

    made : Holds r d (record { cells = x; columns = r.columns })
    unfolding lay record_of
    made =
        record {
          formed = well_formed;
          record_is = λ i. record { n = n_is i; b = b_is i; columns = r.columns; cells = cells_is i; g = g_is i };
          lies =
              in_order
              (front the_text (rw k.text_is h.text.bytes))
              (front the_types (rw k.text_is h.text.types_are))
              (front the_boundaries (rw k.marks_is h.marks_are))
              (front the_char_pos (rw k.text_is h.text.starts_are))
              (front the_byte_pos (rw k.text_is h.text.numbers_are))
              (front the_cell_starts (rw (k.rows_is, h.rows_are.cells) h.cells.starts))
              (front the_cell_lengths (rw (k.rows_is, h.rows_are.cells) h.cells.lengths))
              (front the_tag_bytes (rw k.rows_is bytes_are));
        }

how_many_cells : (r : Record) (d : Buffers) (ts : List Tag) → Limits r → Room r d → cell_starts 0 ts ≡ take r.cells d.cell_starts_buf → length ts ≡ r.n * r.columns
how_many_cells r d ts l m e = omega (arith, length_cell_starts 0 ts, ap length e, length-take r.cells d.cell_starts_buf, m.room.cell_starts_is, l.cells_are)

-- where the test is true, the buffers hold what they spell
pub is_sheet_lem : (r : Record) (d : Buffers) → is_sheet r d ≡ true → Sheet r d
unfolding is_sheet is_laid spell
is_sheet_lem r d e =
    let ((l, m), ((t, b), g)) = simp and-eq-true_iff at e in
    let z = limits_are r l in
    let o = room_is r d l m in
    let c = rw (take-append-drop r.g d.tag_bytes_buf) at (cells_are _ (drop r.g d.tag_bytes_buf) 0 _ _ g) in
    let i : In r d _ _ _ _ =
    record {
      limits = z;
      room = o;
      text = text_is _ _ _ _ t;
      marks_are = marks_are _ b;
      cells = c;
      rows_are = rows_of_lem r.columns r.n _ c.chars (how_many_cells r d _ z o c.starts);
    } in
    made r d _ _ _ _ i _ (are_linked r d _ _ _ _ i)
