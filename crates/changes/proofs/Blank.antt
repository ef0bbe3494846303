-- The one-blank sentence: its room, and what its stores make of the buffers. Assumes nothing.
use Rattle.std.specs.Prelude.{Ok, Err}
use Prim.Native.Nat.{◌≤◌}
use mathlib.Core.Path.{◌≡◌, refl, sym, ◌∙◌}
use mathlib.Core.Bool.{Bool, true, false, not, ◌&&◌, and-true}
use mathlib.Core.List.{[], ◌∷◌}
use native.Mathlib.Omega.{arith}
use borrow.Author.Tests.{not-true, not-false}
use lib.Dec.{leb, leb-zero}
use lib.ListN.{length, set}
use Rattle.laws.specs.If.{when◌then◌else◌}
use Rattle.laws.specs.Put.{put_front}
use Rattle.laws.proofs.Facts.{reads}
use Rattle.utf8.specs.Utf8.{width, encode, encodes, size}
use Rattle.types.specs.TypeOf.{find, ranges, type_of}
use Rattle.sentence.specs.Sentence.{text_of, marks_of, rows_of, starts, numbers, pad, row_bytes, tag_bytes}
use Rattle.sentence.specs.Writing.{blank}
use Rattle.sentence.specs.Refusals.{refusal, verdict}
use Rattle.sheet.specs.Layout.{Buffers, buffers, record_of, tags_of, cells_of, cell_starts, bytes_of, lay, laid, enough, room_for}
use Rattle.sheet.specs.Eight.{all}
use Rattle.sheet.proofs.Eights.{in_order, same_self}
use Rattle.changes.specs.Changes.{DefaultSet, default_answer}

-- the room, by the lengths that the code tests
abbrev pub fits : Buffers → Bool
fits d = leb 1 (length d.text_buf) && leb 1 (length d.types_buf) && leb 2 (length d.char_pos_buf) && leb 2 (length d.byte_pos_buf)

-- boundaries and tags need no room
pub room_is : (d : Buffers) → room_for (record_of blank) d ≡ fits d
unfolding blank record_of room_for enough all text_of rows_of size width row_bytes tag_bytes when◌then◌else◌
room_is d = simp (leb-zero, and-true)

-- what the tests say of the lengths
pub record Room (d : Buffers) : Type 0 where
  pub text_room : 1 ≤ length d.text_buf
  pub types_room : 1 ≤ length d.types_buf
  pub char_pos_room : 2 ≤ length d.char_pos_buf
  pub byte_pos_room : 2 ≤ length d.byte_pos_buf

pub room : (d : Buffers) → fits d ≡ true → Room d
room d = simp reads (omega arith)

-- the way through `set_default` that refuses
pub blank_refused : (d : Buffers) (r : Bool) → r ≡ fits d → not r ≡ true → DefaultSet d (Err (refusal 15 0)) d
unfolding default_answer verdict when◌then◌else◌
blank_refused d r e h = record { answer_is = rw (room_is d, ← e, not-true r h); leaves = same_self d }

-- and the way that lays the sentence down
pub blank_laid : (d : Buffers) (r : Bool) → r ≡ fits d → not r ≡ false
    → DefaultSet d (Ok (record { n = 1; b = 1; columns = 0; cells = 0; g = 0 }))
    (buffers (set d.text_buf 0 32) (set d.types_buf 0 6) d.boundaries_buf (set (set d.char_pos_buf 0 0) 1 1) (set (set d.byte_pos_buf 0 0) 1 1) d.cell_starts_buf d.cell_lengths_buf d.tag_bytes_buf)
unfolding default_answer verdict when◌then◌else◌ blank record_of lay laid text_of marks_of rows_of starts numbers size width encode encodes find ranges type_of row_bytes tag_bytes tags_of cells_of pad cell_starts bytes_of
blank_laid d r e h =
    let k = room d (sym e ∙ not-false r h) in
    record {
      answer_is = rw (room_is d, ← e, not-false r h);
      leaves =
          in_order (put_front (32 ∷ []) d.text_buf k.text_room) (put_front (6 ∷ []) d.types_buf k.types_room) refl
          (put_front (0 ∷ 1 ∷ []) d.char_pos_buf k.char_pos_room) (put_front (0 ∷ 1 ∷ []) d.byte_pos_buf k.byte_pos_room) refl refl refl;
    }

-- the lengths that each store needs
pub room_at : (d : Buffers) (r : Bool) → r ≡ fits d → not r ≡ false → Room d
room_at d r e h = room d (sym e ∙ not-false r h)
