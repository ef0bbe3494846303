-- What a line's acts store of its cells is what the sentence that they gather has there, padded to the columns that it comes to. Assumes nothing.
use Prim.Native.Nat.{ℕ, zero, suc, ◌+◌, ◌-◌, ◌≤◌}
use mathlib.Core.Path.{◌≡◌, refl, sym, ap, ◌∙◌}
use mathlib.Core.Bool.{Bool, true, false}
use mathlib.Core.List.{List, [], ◌∷◌, ◌++◌, map, append_assoc, append-nil}
use native.Mathlib.Nat.{add-zero}
use native.Mathlib.Omega.{arith}
use lib.ListN.{length, replicate}
use Rattle.utf8.specs.Utf8.{width, encode, encodes, size}
use Rattle.sentence.specs.Sentence.{Tag, cut, pad, row_bytes}
use Rattle.sentence.specs.Reading.{Act, skip, letter, opens, of_tag, Rest, Parsed, parsed, add, gather}
use Rattle.sentence.proofs.Trips.{pad_whole, pad_cut}
use Rattle.sheet.specs.Layout.{tags_of, cells_of, cell_starts, bytes_of}
use Rattle.sheet.proofs.Held.{bytes_joined, bytes_pad}
use Rattle.read_counts.specs.declared.Counts.{Counts}
use Rattle.read_counts.specs.Counts.{opened, bytes, letters, opening, grows, tally_by, tally}
use Rattle.read_counts.proofs.Rests.{rows_in, before_rows}
use Rattle.read_counts.proofs.Totals.{held, no_bytes, widest, widest_less}
use Rattle.read_stores.specs.Stores.{place, open_cell, absent_cells, row_cells, kept, cells_at, tag_byte, Store, tag_bytes_store}
use Rattle.read_fill.specs.Emits.{emits}

pad_cons : (m : ℕ) (t : Tag) (ts : List Tag) → pad m (t ∷ ts) ≡ t ∷ pad (m - 1) ts
unfolding pad
pad_cons m t ts = let e : m - suc (length ts) ≡ m - 1 - length ts = omega arith in rw e

pad_none : (m : ℕ) → pad m [] ≡ replicate m []
unfolding pad
pad_none m = let e : m - 0 ≡ m = omega arith in rw e

-- ---- a list of cells whose values are told by a cell's start and length
module _ (f : ℕ → ℕ → ℕ) where
  unfoldable pub values_by : ℕ → List Tag → List ℕ
  values_by g [] = []
  values_by g (t ∷ ts) = f g (size t) ∷ values_by (g + size t) ts

  values_absent : (j g : ℕ) (ts : List Tag) → values_by g (replicate j [] ++ ts) ≡ replicate j (f g 0) ++ values_by g ts
  unfolding values_by size
  values_absent zero g ts = refl
  values_absent (suc j) g ts = rw (add-zero, values_absent j g ts)

  module _ (c : ℕ) where
    -- the rows that have them
    unfoldable pub cell_store : Store
    cell_store = record { index = place c; emit = λ a k. cells_at c (f (k.g - k.long) k.long) (f k.g 0) a k; last = λ k. row_cells c (f (k.g - k.long) k.long) (f k.g 0) k }

    -- the cells that are yet to be stored: t is the rest of the open tag, ts are the tags after it, us the cells of the rows that follow
    unfoldable pub row_left : Bool → Counts → Tag → List Tag → List Tag → List ℕ
    row_left true k t ts us = f (k.g - k.long) (k.long + size t) ∷ values_by (k.g + size t) (pad (c - (k.tags + 1)) ts ++ us)
    row_left false k t ts us = values_by k.g (pad (c - k.tags) ts ++ us)

    unfoldable pub left_from : ℕ → Counts → Tag → List Tag → List Tag → List ℕ
    left_from zero k t ts us = values_by (k.g + held k.tag t + row_bytes ts) us
    left_from (suc n) k t ts us = row_left k.tag k t ts us

    unfoldable pub cells_left : Counts → Parsed → List ℕ
    cells_left k (parsed t ts n r) = left_from k.n k t ts (cells_of c (rows_in r))

    -- where a row is over
    row_over : (n : ℕ) (o : Bool) (k : Counts) (us : List Tag) → k.tag ≡ o
        → (open_cell n o (f (k.g - k.long) k.long) ++ absent_cells n (c - (k.tags + opened o)) (f k.g 0)) ++ values_by k.g us ≡ left_from n k [] [] us
    unfolding open_cell absent_cells opened left_from row_left row_bytes size
    row_over zero o k us e = let z : k.g + held k.tag [] + 0 ≡ k.g = omega (arith, no_bytes k.tag) in rw z
    row_over (suc n) true k us e =
        let a : k.long + 0 ≡ k.long = omega arith in
        let b : k.g + 0 ≡ k.g = omega arith in
        rw (e, a, b, pad_none, values_absent)
    row_over (suc n) false k us e = let a : k.tags + 0 ≡ k.tags = omega arith in rw (e, a, pad_none, values_absent)

    -- where another tag opens
    tag_opens : (n : ℕ) (o : Bool) (k : Counts) (t : Tag) (ts us : List Tag) → k.tag ≡ o
        → open_cell n o (f (k.g - k.long) k.long) ++ left_from n (opening k) t ts us ≡ left_from n k [] (t ∷ ts) us
    unfolding open_cell opening opened left_from row_left held row_bytes size values_by
    tag_opens zero o k t ts us e = let z : k.g + size t + row_bytes ts ≡ k.g + held k.tag [] + (size t + row_bytes ts) = omega (arith, no_bytes k.tag) in rw z
    tag_opens (suc n) true k t ts us e =
        let a : k.g - 0 ≡ k.g = omega arith in
        let b : 0 + size t ≡ size t = omega arith in
        let d : c - (k.tags + 1 + 1) ≡ c - (k.tags + 1) - 1 = omega arith in
        let u : k.long + 0 ≡ k.long = omega arith in
        let v : k.g + 0 ≡ k.g = omega arith in
        rw (e, a, b, d, u, v, pad_cons)
    tag_opens (suc n) false k t ts us e =
        let a : k.g - 0 ≡ k.g = omega arith in
        let b : 0 + size t ≡ size t = omega arith in
        let d : c - (k.tags + 0 + 1) ≡ c - k.tags - 1 = omega arith in
        rw (e, a, b, d, pad_cons)

    -- a character of the open tag
    tag_grows : (n : ℕ) (o : Bool) (k : Counts) (d : ℕ) (t : Tag) (ts us : List Tag) → k.tag ≡ o → left_from n (grows o (width d) k) t ts us ≡ left_from n k (d ∷ t) ts us
    unfolding grows left_from row_left held size
    tag_grows zero true k d t ts us e = let z : k.g + width d + size t + row_bytes ts ≡ k.g + (width d + size t) + row_bytes ts = omega arith in rw (e, z)
    tag_grows zero false k d t ts us e = rw e
    tag_grows (suc n) true k d t ts us e =
        let a : k.g + width d - (k.long + width d) ≡ k.g - k.long = omega arith in
        let b : k.long + width d + size t ≡ k.long + (width d + size t) = omega arith in
        let z : k.g + width d + size t ≡ k.g + (width d + size t) = omega arith in
        rw (e, a, b, z)
    tag_grows (suc n) false k d t ts us e = rw e

    grows_n : (o : Bool) (w : ℕ) (k : Counts) → (grows o w k).n ≡ k.n
    unfolding grows
    grows_n true w k = refl
    grows_n false w k = refl

    -- a row that follows
    next_row : (k : Counts) (w n : ℕ) (t : Tag) (ts us : List Tag) → length ts ≤ c → values_by k.g (pad c (cut ts) ++ us) ≡ left_from (suc n) (letters w k) t ts us
    unfolding letters left_from row_left
    next_row k w n t ts us h = let z : c - 0 ≡ c = omega arith in rw (z, pad_cut c ts h)

    letter_left : (k : Counts) (w : ℕ) (t : Tag) (ts us : List Tag) → length ts ≤ c → values_by k.g (pad c (cut ts) ++ us) ≡ left_from (letters w k).n (letters w k) t ts us
    unfolding letters
    letter_left k w t ts us h =
        let z : suc k.n ≡ k.n + 1 = omega arith in
        next_row k w k.n t ts us h ∙ ap (λ (m : ℕ). left_from m (letters w k) t ts us) z

    opens_left : (k : Counts) (t : Tag) (ts us : List Tag)
        → open_cell k.n k.tag (f (k.g - k.long) k.long) ++ left_from (opening k).n (opening k) t ts us ≡ left_from k.n k [] (t ∷ ts) us
    unfolding opening
    opens_left k t ts us = tag_opens k.n k.tag k t ts us refl

    grows_left : (k : Counts) (d : ℕ) (t : Tag) (ts us : List Tag) → left_from (grows k.tag (width d) k).n (grows k.tag (width d) k) t ts us ≡ left_from k.n k (d ∷ t) ts us
    grows_left k d t ts us =
        ap (λ (m : ℕ). left_from m (grows k.tag (width d) k) t ts us) (grows_n k.tag (width d) k) ∙ tag_grows k.n k.tag k d t ts us refl

    few_after : (k : Counts) (t : Tag) (ts : List Tag) (n : ℕ) (r : Rest) → widest k (parsed t ts n r) ≤ c → length ts ≤ c
    unfolding widest
    few_after k t ts n r h = omega arith

    add_cells : (a : Act) (k : Counts) (p : Parsed) → widest (tally a k) p ≤ c → cell_store.emit a k ++ cells_left (tally a k) p ≡ cells_left k (add a p)
    unfolding cell_store cells_at row_cells cells_left tally tally_by bytes add rows_in cells_of
    add_cells skip k (parsed t ts n r) h = refl
    add_cells (letter m d) k (parsed t ts n r) h =
        rw (before_rows d ts r, ← (letter_left k (width d) t ts (cells_of c (rows_in r)) (few_after _ t ts n r h))) (row_over k.n k.tag k _ refl)
    add_cells opens k (parsed t ts n r) h = opens_left k t ts _
    add_cells (of_tag d) k (parsed t ts n r) h = grows_left k d t ts _

    pub cells_emits : (l : List Act) (k : Counts) → widest k (gather l) ≤ c → emits cell_store l k ≡ cells_left k (gather l)
    unfolding emits cell_store row_cells cells_left gather rows_in cells_of values_by
    cells_emits [] k h = sym (append-nil _) ∙ row_over k.n k.tag k [] refl
    cells_emits (a ∷ l) k h =
        let i : widest (tally a k) (gather l) ≤ c = omega (arith, widest_less a k (gather l)) in
        rw (cells_emits l (tally a k) i) (add_cells a k (gather l) i)

-- starts and lengths
pub starts_values : (g : ℕ) (ts : List Tag) → values_by (λ b l. b) g ts ≡ cell_starts g ts
unfolding values_by cell_starts
starts_values g [] = refl
starts_values g (t ∷ ts) = rw (starts_values (g + size t) ts)

pub lengths_values : (g : ℕ) (ts : List Tag) → values_by (λ b l. l) g ts ≡ map size ts
unfolding values_by
lengths_values g [] = refl
lengths_values g (t ∷ ts) = rw (lengths_values (g + size t) ts)

-- ---- the tags' bytes
unfoldable pub bytes_left : Counts → Parsed → List ℕ
bytes_left k (parsed t ts n r) = kept k.tag (encodes t) ++ (bytes_of ts ++ bytes_of (tags_of (rows_in r)))

kept_nil : (o : Bool) → kept o [] ≡ []
unfolding kept
kept_nil true = refl
kept_nil false = refl

bytes_cut : (ts : List Tag) → bytes_of (cut ts) ≡ bytes_of ts
bytes_cut ts = sym (bytes_pad (length ts) (cut ts)) ∙ ap bytes_of (pad_whole (length ts) ts refl)

kept_grows : (o : Bool) (k : Counts) (c : ℕ) (t : Tag) (x : List ℕ) → k.tag ≡ o → kept o (encode c) ++ (kept (grows o (width c) k).tag (encodes t) ++ x) ≡ kept k.tag (encodes (c ∷ t)) ++ x
unfolding kept grows encodes
kept_grows true k c t x e = rw e (sym (append_assoc (encode c) (encodes t) x))
kept_grows false k c t x e = rw e

add_bytes : (a : Act) (k : Counts) (p : Parsed) → tag_byte a k ++ bytes_left (tally a k) p ≡ bytes_left k (add a p)
unfolding tag_byte bytes_left tally tally_by bytes letters opening add kept tags_of rows_in bytes_of encodes
add_bytes skip k (parsed t ts n r) = refl
add_bytes (letter m c) k (parsed t ts n r) = rw (kept_nil, before_rows c ts r, bytes_joined, bytes_cut)
add_bytes opens k (parsed t ts n r) = rw (kept_nil, append_assoc)
add_bytes (of_tag c) k (parsed t ts n r) = kept_grows k.tag k c t _ refl

pub tag_bytes_emits : (l : List Act) (k : Counts) → emits tag_bytes_store l k ≡ bytes_left k (gather l)
unfolding emits tag_bytes_store gather bytes_left tags_of rows_in bytes_of encodes
tag_bytes_emits [] k = rw kept_nil
tag_bytes_emits (a ∷ l) k = rw (tag_bytes_emits l (tally a k)) (add_bytes a k (gather l))
