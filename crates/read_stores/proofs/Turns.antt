-- What an act needs and what it leaves, act by act. Assumes nothing.
use Prim.Native.Nat.{ℕ, ◌+◌, ◌-◌, ◌≤◌, ◌<◌}
use mathlib.Core.Path.{◌≡◌, refl, ap, ◌∙◌}
use mathlib.Core.List.{List, ◌∷◌}
use native.Mathlib.Omega.{arith}
use lib.ListN.{length, set, replicate, length-replicate}
use Rattle.laws.specs.Put.{put}
use Rattle.utf8.specs.Utf8.{width, encode}
use Rattle.utf8.proofs.Codec.{length_encode}
use Rattle.types.specs.TypeOf.{type_of}
use Rattle.sentence.specs.Sentence.{code}
use Rattle.sheet.specs.Layout.{Buffers, buffers}
use Rattle.sheet.proofs.Eights.{in_order}
use Rattle.read_state.specs.declared.Act.TheVariants.{Skip, Letter, Opens, OfTag}
use Rattle.read_state.specs.declared.Mark.{Mark}
use Rattle.read_state.specs.declared.Act.{Act}
use Rattle.read_state.specs.States.{mark_of, act_of}
use Rattle.read_counts.specs.declared.Counts.{Counts}
use Rattle.read_counts.specs.Counts.{Small}
use Rattle.read_stores.specs.Stores.{later, place, open_cell, row_cells, kept, on_letter, cells_at, tag_byte, CellRoom, RowRoom, Store, text_store, types_store, boundaries_store, char_pos_store, byte_pos_store, cell_starts_store, cell_lengths_store, tag_bytes_store, Stored, Turning}

-- ---- a character of the text
-- what it needs, buffer by buffer
pub record LetterRoom (z : ℕ) (m : Mark) (c : ℕ) (k : Counts) (x : List ℕ) (d : Buffers) : Type 0 where
  pub small : Small k 4096
  pub some : 1 ≤ length x
  pub few : length x ≤ 4
  pub bytes : x ≡ encode c
  pub wide : length x ≡ width c
  pub text_room : k.b + length x ≤ length d.text_buf
  pub types_room : k.n < length d.types_buf
  pub boundaries_room : k.n - 1 + length (later k.n (code (mark_of m))) ≤ length d.boundaries_buf
  pub char_pos_room : k.n < length d.char_pos_buf
  pub byte_pos_room : k.b + length x ≤ length d.byte_pos_buf
  pub row_room : RowRoom z k d.cell_starts_buf d.cell_lengths_buf

module _ (z c : ℕ) (k : Counts) (x : List ℕ) (d : Buffers) where
  letter_turning : (m : Mark) → Turning z (act_of c (Letter m)) k x d → LetterRoom z m c k x d
  unfolding text_store types_store boundaries_store char_pos_store byte_pos_store cell_starts_store cell_lengths_store on_letter cells_at
  letter_turning m t =
      let w : length x ≡ width c = omega (arith, ap length t.bytes, length_encode c) in
      record {
        small = t.small;
        some = t.some;
        few = t.few;
        bytes = t.bytes;
        wide = w;
        text_room = omega (arith, t.room.text_is, length_encode c);
        types_room = omega (arith, t.room.types_is);
        boundaries_room = t.room.boundaries_is;
        char_pos_room = omega (arith, t.room.char_pos_is);
        byte_pos_room = omega (arith, t.room.byte_pos_is, length-replicate {A = ℕ} (width c - 1) 0, t.some);
        row_room = record { small = t.small; narrow = t.narrow; starts_room = t.room.cell_starts_is; lengths_room = t.room.cell_lengths_is };
      }

  pub letter_room : (a : Act) (m : Mark) → a ≡ Letter m → Turning z (act_of c a) k x d → LetterRoom z m c k x d
  letter_room a m e t = letter_turning m (rw e at t)

  -- a tag begins
  pub opens_room : (a : Act) → a ≡ Opens → Turning z (act_of c a) k x d → CellRoom z k d.cell_starts_buf d.cell_lengths_buf
  unfolding cell_starts_store cell_lengths_store cells_at
  opens_room a i h =
      let t = rw i at h in
      record { small = t.small; narrow = t.narrow; starts_room = t.room.cell_starts_is; lengths_room = t.room.cell_lengths_is }

  -- a character of a tag
  pub tag_room : (a : Act) → a ≡ OfTag → Turning z (act_of c a) k x d → k.g + length (kept k.tag x) ≤ length d.tag_bytes_buf
  unfolding tag_bytes_store tag_byte
  tag_room a i h =
      let t = rw i at h in
      rw t.bytes t.room.tag_bytes_is

-- ---- what an act leaves
abbrev Leaves : ℕ → ℕ → Act → Counts → Buffers → Buffers → Type 0
Leaves z c a k d e = Stored z (λ (q : Store). q.emit (act_of c a) k) k d e

module _ (z c : ℕ) (a : Act) {k : Counts} {t y o p b w e g : List ℕ} where
  pub letter_stored : (m : Mark) (x : List ℕ) {r : ℕ} {t' o' b' w' e' : List ℕ} → a ≡ Letter m → Turning z (act_of c a) k x (buffers t y o p b w e g)
      → t' ≡ put t k.b x → r ≡ type_of c → o' ≡ put o (k.n - 1) (later k.n (code (mark_of m))) → b' ≡ put b k.b (k.n ∷ replicate (length x - 1) 0)
      → (w' ≡ put w (place z k) (row_cells z (k.g - k.long) k.g k)) × (e' ≡ put e (place z k) (row_cells z k.long 0 k))
      → Leaves z c a k (buffers t y o p b w e g) (buffers t' (set y k.n r) o' (set p k.n k.b) b' w' e' g)
  unfolding text_store types_store boundaries_store char_pos_store byte_pos_store cell_starts_store cell_lengths_store tag_bytes_store
      on_letter cells_at tag_byte
  letter_stored m x i h et er eo eb ec =
      let l = letter_room z c k x _ a m i h in
      record { stored = in_order (rw i (et ∙ rw l.bytes)) (rw (i, er)) (rw i eo) (rw i) (rw (i, ← l.wide) eb) (rw i ec.0) (rw i ec.1) (rw i) }

  pub skip_stored : a ≡ Skip → Leaves z c a k (buffers t y o p b w e g) (buffers t y o p b w e g)
  unfolding text_store types_store boundaries_store char_pos_store byte_pos_store cell_starts_store cell_lengths_store tag_bytes_store
      on_letter cells_at tag_byte
  skip_stored i = record { stored = in_order (rw i) (rw i) (rw i) (rw i) (rw i) (rw i) (rw i) (rw i) }

  pub opens_stored : {w' e' : List ℕ} → a ≡ Opens
      → (w' ≡ put w (place z k) (open_cell k.n k.tag (k.g - k.long))) × (e' ≡ put e (place z k) (open_cell k.n k.tag k.long))
      → Leaves z c a k (buffers t y o p b w e g) (buffers t y o p b w' e' g)
  unfolding text_store types_store boundaries_store char_pos_store byte_pos_store cell_starts_store cell_lengths_store tag_bytes_store
      on_letter cells_at tag_byte
  opens_stored i ec = record { stored = in_order (rw i) (rw i) (rw i) (rw i) (rw i) (rw i ec.0) (rw i ec.1) (rw i) }

  pub tag_stored : (x : List ℕ) {g' : List ℕ} → a ≡ OfTag → Turning z (act_of c a) k x (buffers t y o p b w e g) → g' ≡ put g k.g (kept k.tag x)
      → Leaves z c a k (buffers t y o p b w e g) (buffers t y o p b w e g')
  unfolding text_store types_store boundaries_store char_pos_store byte_pos_store cell_starts_store cell_lengths_store tag_bytes_store
      on_letter cells_at tag_byte
  tag_stored x i h eg =
      let j : x ≡ encode c = (rw i at h).bytes in
      record { stored = in_order (rw i) (rw i) (rw i) (rw i) (rw i) (rw i) (rw i) (rw (i, ← j) eg) }

-- ---- the line's end
pub end_stored : (z : ℕ) {k : Counts} {t y o p b w e g w' e' : List ℕ}
    → (w' ≡ put w (place z k) (row_cells z (k.g - k.long) k.g k)) × (e' ≡ put e (place z k) (row_cells z k.long 0 k))
    → Stored z (λ (q : Store). q.last k) k (buffers t y o p b w e g) (buffers t y o (set p k.n k.b) (set b k.b k.n) w' e' g)
unfolding text_store types_store boundaries_store char_pos_store byte_pos_store cell_starts_store cell_lengths_store tag_bytes_store
end_stored z ec = record { stored = in_order refl refl refl refl refl ec.0 ec.1 refl }
