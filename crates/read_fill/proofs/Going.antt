-- Eight buffers that are being stored to: what a line's acts store from the start is the sentence that it reads to. Assumes nothing.
use Prim.Native.Nat.{ℕ, zero, suc, ◌+◌, ◌-◌, ◌≤◌}
use mathlib.Core.Path.{◌≡◌, refl, sym, ap, ◌∙◌}
use mathlib.Core.Bool.{Bool, true, false}
use mathlib.Core.List.{List, [], ◌∷◌, ◌++◌}
use native.Mathlib.Numerals.{add-one}
use native.Mathlib.Omega.{arith}
use lib.ListN.{length, length-append, length-replicate}
use Rattle.laws.specs.Put.{put, length_put, over, put_front, Filling, fill_start}
use Rattle.utf8.specs.Utf8.{width, encode}
use Rattle.utf8.proofs.Codec.{length_encode, width_small}
use Rattle.sentence.specs.Sentence.{Tag, Mark, Sentence, code, rows, row_bytes, Formed}
use Rattle.sentence.specs.Reading as reading
use Rattle.sentence.specs.Reading.{at, start, Act, skip, letter, opens, of_tag, whole, run, next, Parsed, parsed, gather, built, sentence}
use Rattle.sheet.specs.Eight.{Which, pick, Every, Each}
use Rattle.sheet.specs.Layout.{Buffers, Same, record_of, room_for, cells_of, bytes_of, lay, laid}
use Rattle.sheet.proofs.Eights.{in_order, every, one, pick_pairwise}
use Rattle.sheet.proofs.Exact.{has_room}
use Rattle.sheet.proofs.Held.{fronts_long}
use Rattle.sentence.specs.declared.Form.{Form}
use Rattle.read_counts.specs.declared.Counts.{Counts}
use Rattle.read_counts.specs.Counts.{Small, opened, nothing, bytes, letters, opening, grows, tally_by, tally}
use Rattle.read_counts.proofs.Rests.{letters_in, rows_in, Fresh, run_fresh}
use Rattle.read_counts.proofs.Totals.{held, widest, widest_less, widest_tags}
use Rattle.read_stores.specs.Stores.{later, spot, place, open_cell, absent_cells, row_cells, kept, on_letter, cells_at, tag_byte, Store, text_store, types_store, boundaries_store, char_pos_store, byte_pos_store, cell_starts_store, cell_lengths_store, tag_bytes_store, stores, Stored, Room, Finishing}
use Rattle.read_stores.proofs.Copies.{put_append}
use Rattle.read_fill.specs.Emits.{emits}
use Rattle.read_fill.proofs.Texts.{rest_of, bounds, text_emits, types_emits, boundaries_emits, char_pos_emits, byte_pos_emits}
use Rattle.read_fill.proofs.Cells.{values_by, cell_store, left_from, cells_left, cells_emits, starts_values, lengths_values, bytes_left, tag_bytes_emits}

-- ---- from the start
-- what the acts of a line gather that reads to s
record Begun (p : Parsed) (s : Sentence) : Type 0 where
  t : Tag
  n : ℕ
  m : Mark
  is : p ≡ parsed t [] n (next m s.cells)
  wide : n ≡ s.columns

begun : (p : Parsed) (s : Sentence) → Fresh p → built p ≡ sentence s → Begun p s
unfolding built
begun (parsed t ts n reading.over) s f e = absurd f
begun (parsed t ts n (next m cs)) s f e = record { t = t; n = n; m = m; is = let z : cs ≡ s.cells = cc in rw (f, z); wide = cc }

-- what is stored in each buffer, from the start
pub record Emitted (l : List Act) (s : Sentence) : Type 0 where
  pub every_store : Every (λ i. emits (pick (stores s.columns) i) l nothing ≡ pick (lay s) i)
  pub wide : widest nothing (gather l) ≤ s.columns

-- the cells of a line that begins so
cells_all : (v : ℕ → ℕ → ℕ) (l : List Act) (s : Sentence) → Begun (gather l) s → widest nothing (gather l) ≤ s.columns
    → emits (cell_store v s.columns) l nothing ≡ values_by v 0 (cells_of s.columns (rows s))
unfolding nothing cells_left left_from held rows_in row_bytes
cells_all v l s b w = cells_emits v s.columns l nothing w ∙ rw b.is

begun_wide : (p : Parsed) (s : Sentence) → Begun p s → widest nothing p ≤ s.columns
unfolding widest nothing opened
begun_wide p s b = rw b.is (omega (arith, b.wide))

pub emitted : (f : Form) (x : List ℕ) (l : List Act) (s : Sentence) → run f (at start) x ≡ whole l → built (gather l) ≡ sentence s → Emitted l s
unfolding lay nothing rest_of letters_in rows_in bounds bytes_left kept bytes_of cell_store cell_starts_store cell_lengths_store
emitted f x l s r e =
    let b = begun (gather l) s (run_fresh f x l r) e in
    let w = begun_wide (gather l) s b in
    record {
      every_store =
          in_order
          (text_emits l nothing ∙ rw b.is)
          (types_emits l nothing ∙ rw b.is)
          (boundaries_emits l nothing ∙ rw b.is)
          (char_pos_emits l nothing ∙ rw b.is)
          (byte_pos_emits l nothing ∙ rw b.is)
          (cells_all (λ b l. b) l s b w ∙ starts_values 0 (cells_of s.columns (rows s)))
          (cells_all (λ b l. l) l s b w ∙ lengths_values 0 (cells_of s.columns (rows s)))
          (tag_bytes_emits l nothing ∙ rw b.is);
      wide = w;
    }

-- ---- a store's place moves by what an act stores there
abbrev Moves : Act → Counts → Store → Type 0
Moves a k p = p.index (tally a k) ≡ p.index k + length (p.emit a k)

-- a character of a tag moves no place of the text
grows_text : (o : Bool) (w : ℕ) (k : Counts) → ((grows o w k).n ≡ k.n) × ((grows o w k).b ≡ k.b)
unfolding grows
grows_text true w k = (refl, refl)
grows_text false w k = (refl, refl)

later_moves : (n v : ℕ) → n + 1 - 1 ≡ n - 1 + length (later n v)
unfolding later
later_moves zero v = refl
later_moves (suc n) v = omega arith

text_moves : (a : Act) (k : Counts) → Moves a k text_store
unfolding text_store on_letter tally tally_by bytes letters opening
text_moves skip k = omega arith
text_moves (letter m c) k = omega (arith, length_encode c)
text_moves opens k = omega arith
text_moves (of_tag c) k = omega (arith, grows_text k.tag (width c) k)

types_moves : (a : Act) (k : Counts) → Moves a k types_store
unfolding types_store on_letter tally tally_by bytes letters opening
types_moves skip k = omega arith
types_moves (letter m c) k = omega arith
types_moves opens k = omega arith
types_moves (of_tag c) k = omega (arith, grows_text k.tag (width c) k)

boundaries_moves : (a : Act) (k : Counts) → Moves a k boundaries_store
unfolding boundaries_store on_letter tally tally_by bytes letters opening
boundaries_moves skip k = omega arith
boundaries_moves (letter m c) k = later_moves k.n (code m)
boundaries_moves opens k = omega arith
boundaries_moves (of_tag c) k = omega (arith, grows_text k.tag (width c) k)

char_pos_moves : (a : Act) (k : Counts) → Moves a k char_pos_store
unfolding char_pos_store on_letter tally tally_by bytes letters opening
char_pos_moves skip k = omega arith
char_pos_moves (letter m c) k = omega arith
char_pos_moves opens k = omega arith
char_pos_moves (of_tag c) k = omega (arith, grows_text k.tag (width c) k)

byte_pos_moves : (a : Act) (k : Counts) → Moves a k byte_pos_store
unfolding byte_pos_store on_letter tally tally_by bytes letters opening
byte_pos_moves skip k = omega arith
byte_pos_moves (letter m c) k = omega (arith, length-replicate {A = ℕ} (width c - 1) 0, width_small c)
byte_pos_moves opens k = omega arith
byte_pos_moves (of_tag c) k = omega (arith, grows_text k.tag (width c) k)

-- cells move by the rows, where no row has more than its columns
row_moves : (c n t v z : ℕ) (o : Bool) → t + opened o ≤ c → spot c (n + 1) 0 ≡ spot c n t + length (open_cell n o v ++ absent_cells n (c - (t + opened o)) z)
unfolding spot open_cell absent_cells opened
row_moves c zero t v z o h = omega arith
row_moves c (suc n) t v z true h = rw add-one (omega (arith, length-replicate (c - (t + 1)) z))
row_moves c (suc n) t v z false h = rw add-one (omega (arith, length-replicate (c - (t + 0)) z))

open_moves : (c n t v : ℕ) (o : Bool) → spot c n (t + opened o) ≡ spot c n t + length (open_cell n o v)
unfolding spot open_cell opened
open_moves c zero t v o = omega arith
open_moves c (suc n) t v true = omega arith
open_moves c (suc n) t v false = omega arith

grow_moves : (c : ℕ) (o : Bool) (w : ℕ) (k : Counts) → place c (grows o w k) ≡ place c k + 0
unfolding grows
grow_moves c true w k = omega arith
grow_moves c false w k = omega arith

cells_moves : (c v z : ℕ) (a : Act) (k : Counts) → k.tags + opened k.tag ≤ c → place c (tally a k) ≡ place c k + length (cells_at c v z a k)
unfolding cells_at row_cells tally tally_by bytes letters opening
cells_moves c v z skip k h = omega arith
cells_moves c v z (letter m d) k h = row_moves c k.n k.tags v z k.tag h
cells_moves c v z opens k h = open_moves c k.n k.tags v k.tag
cells_moves c v z (of_tag d) k h = grow_moves c k.tag (width d) k

cell_starts_moves : (c : ℕ) (a : Act) (k : Counts) → k.tags + opened k.tag ≤ c → Moves a k (cell_starts_store c)
unfolding cell_starts_store
cell_starts_moves c a k h = cells_moves c (k.g - k.long) k.g a k h

cell_lengths_moves : (c : ℕ) (a : Act) (k : Counts) → k.tags + opened k.tag ≤ c → Moves a k (cell_lengths_store c)
unfolding cell_lengths_store
cell_lengths_moves c a k h = cells_moves c k.long 0 a k h

grows_bytes : (o : Bool) (c : ℕ) (k : Counts) → (grows o (width c) k).g ≡ k.g + length (kept o (encode c))
unfolding grows kept
grows_bytes true c k = omega (arith, length_encode c)
grows_bytes false c k = omega arith

tag_bytes_moves : (a : Act) (k : Counts) → Moves a k tag_bytes_store
unfolding tag_bytes_store tag_byte tally tally_by bytes letters opening
tag_bytes_moves skip k = omega arith
tag_bytes_moves (letter m c) k = omega arith
tag_bytes_moves opens k = omega arith
tag_bytes_moves (of_tag c) k = grows_bytes k.tag c k

stores_move : (c : ℕ) (a : Act) (k : Counts) → k.tags + opened k.tag ≤ c → Every (λ (i : Which). Moves a k (pick (stores c) i))
stores_move c a k h =
    in_order (text_moves a k) (types_moves a k) (boundaries_moves a k) (char_pos_moves a k) (byte_pos_moves a k)
    (cell_starts_moves c a k h) (cell_lengths_moves c a k h) (tag_bytes_moves a k)

-- each starts at the front of its buffer
stores_start : (c : ℕ) → Every (λ (i : Which). (pick (stores c) i).index nothing ≡ 0)
unfolding nothing spot text_store types_store boundaries_store char_pos_store byte_pos_store cell_starts_store cell_lengths_store tag_bytes_store
stores_start c = in_order refl refl refl refl refl refl refl refl

-- ---- one buffer that is being stored to: what the acts l leave to be stored from the counts k on fits
pub record Going (p : Store) (l : List Act) (k : Counts) (all d₀ d : List ℕ) : Type 0 where
  pub filling : Filling d₀ all d (p.index k) (emits p l k)
  pub room : p.index k + length (emits p l k) ≤ length d

going_turn : (p : Store) (a : Act) (l : List Act) (k : Counts) → Moves a k p → (all d₀ d e : List ℕ) → Going p (a ∷ l) k all d₀ d → e ≡ put d (p.index k) (p.emit a k)
    → Going p l (tally a k) all d₀ e
unfolding emits
going_turn p a l k v all d₀ d e g s = record {
  filling = record {
    long = rw s (length_put (p.emit a k) d (p.index k) ∙ g.filling.long);
    same = g.filling.same ∙ put_append (p.emit a k) (emits p l (tally a k)) d (p.index k) ∙ rw (s, v);
  };
  room = rw (s, length_put) (omega (arith, g.room, v, length-append (p.emit a k) (emits p l (tally a k))));
}

going_room : (p : Store) (a : Act) (l : List Act) (k : Counts) (all d₀ d : List ℕ) → Going p (a ∷ l) k all d₀ d → p.index k + length (p.emit a k) ≤ length d
unfolding emits
going_room p a l k all d₀ d g = omega (arith, g.room, length-append (p.emit a k) (emits p l (tally a k)))

going_start : (p : Store) (l : List Act) (all d : List ℕ) → p.index nothing ≡ 0 → emits p l nothing ≡ all → length all ≤ length d → Going p l nothing all d d
going_start p l all d i e h = record {
  filling = rw (i, e) (fill_start d all);
  room = omega (arith, ap length e);
}

going_done : (p : Store) (k : Counts) (all d₀ d e : List ℕ) → Going p [] k all d₀ d → e ≡ put d (p.index k) (p.last k) → length all ≤ length d₀ → e ≡ over all d₀
unfolding emits
going_done p k all d₀ d e g s h = s ∙ sym g.filling.same ∙ put_front all d₀ h

-- ---- all eight buffers
pub record Goings (l : List Act) (k : Counts) (s : Sentence) (d₀ d : Buffers) : Type 0 where
  pub every_store : Every (λ i. Going (pick (stores s.columns) i) l k (pick (lay s) i) (pick d₀ i) (pick d i))
  pub wide : widest k (gather l) ≤ s.columns

-- the room that a sentence needs is that of its lists
abbrev pub Roomy : Sentence → Buffers → Type 0
Roomy s d = Each (λ x y. length x ≤ length y) (lay s) d

pub roomy : (s : Sentence) (d : Buffers) → Formed s → room_for (record_of s) d ≡ true → Roomy s d
roomy s d f h = every (λ i. omega (arith, one (fronts_long s f) i, one (has_room (record_of s) d h) i))

pub goings_start : (l : List Act) (s : Sentence) (d : Buffers) → Emitted l s → Roomy s d → Goings l nothing s d d
goings_start l s d e r = record {
  every_store = every (λ i. going_start (pick (stores s.columns) i) l _ _ (one (stores_start s.columns) i) (one e.every_store i) (one r i));
  wide = e.wide;
}

module _ (a : Act) (l : List Act) (k : Counts) (s : Sentence) (d₀ d : Buffers) (g : Goings (a ∷ l) k s d₀ d) where
  pub goings_narrow : k.tags + opened k.tag ≤ s.columns
  goings_narrow = omega (arith, g.wide, widest_tags k (gather (a ∷ l)))

  pub goings_room : Room s.columns (λ (p : Store). p.emit a k) k d
  goings_room = every (λ i. going_room (pick (stores s.columns) i) a l k _ _ _ (one g.every_store i))

  pub goings_turn : (e : Buffers) → Stored s.columns (λ (p : Store). p.emit a k) k d e → Goings l (tally a k) s d₀ e
  unfolding gather
  goings_turn e t = record {
    every_store = every (λ i. going_turn (pick (stores s.columns) i) a l k (one (stores_move s.columns a k goings_narrow) i) _ _ _ _ (one g.every_store i) (one t.stored i));
    wide = omega (arith, g.wide, widest_less a k (gather l));
  }

-- ---- the line's end
module _ (k : Counts) (s : Sentence) (d₀ d : Buffers) (g : Goings [] k s d₀ d) where
  pub goings_finish : Small k 4096 → s.columns ≤ 4096 → Finishing s.columns k d
  unfolding emits char_pos_store byte_pos_store cell_starts_store cell_lengths_store
  goings_finish h w = record {
    char_pos_room = omega (arith, g.every_store.char_pos_is.room);
    byte_pos_room = omega (arith, g.every_store.byte_pos_is.room);
    row_room = record {
      small = h;
      narrow = record { few = w; fits = omega (arith, g.wide, widest_tags k (gather [])) };
      starts_room = g.every_store.cell_starts_is.room;
      lengths_room = g.every_store.cell_lengths_is.room;
    };
  }

  pub goings_done : (e : Buffers) → Roomy s d₀ → Stored s.columns (λ (p : Store). p.last k) k d e → Same (laid s d₀) e
  unfolding laid
  goings_done e r f =
      every (λ i.
      rw (pick_pairwise over (lay s) d₀ i) (going_done (pick (stores s.columns) i) k _ _ _ _ (one g.every_store i) (one f.stored i) (one r i)))
