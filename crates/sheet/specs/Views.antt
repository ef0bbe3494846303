-- The eight buffers that a sheet, or a set of buffers to be filled, lends, and the sentence that a sheet spells.
use Rattle.std.specs.Prelude.{◌≡◌, Bool}
use Rattle.sentence.specs.Sentence.{Sentence}
use Rattle.sheet.specs.declared.Sheet.{Sheet as Lent}
use Rattle.sheet.specs.declared.Buffers.{Buffers as Room}
use Rattle.sheet.specs.Layout.{Buffers, buffers, spell, Sheet}
use Rattle.sheet.specs.Check.{is_sheet}

-- the contents of a sheet's buffers
abbrev pub held : Lent → Buffers
held s =
    buffers s.text.now s.types.now s.boundaries.now s.char_pos.now s.byte_pos.now s.cell_starts.now s.cell_lengths.now s.tag_bytes.now

-- the sentence that it spells, whether it is a sheet, and that it is one
abbrev pub spelled : Lent → Sentence
spelled s = spell s.record (held s)

abbrev pub is_valid : Lent → Bool
is_valid s = is_sheet s.record (held s)

abbrev pub Valid : Lent → Type 0
Valid s = Sheet s.record (held s)

-- the contents of buffers to be filled
abbrev pub contents : Room → Buffers
contents b =
    buffers b.text.now b.types.now b.boundaries.now b.char_pos.now b.byte_pos.now b.cell_starts.now b.cell_lengths.now b.tag_bytes.now

-- they are the same eight buffers, whatever they hold
pub record SameRoom (b e : Room) : Type 0 where
  pub same_text : e.text.ghost_name ≡ b.text.ghost_name
  pub same_types : e.types.ghost_name ≡ b.types.ghost_name
  pub same_boundaries : e.boundaries.ghost_name ≡ b.boundaries.ghost_name
  pub same_char_pos : e.char_pos.ghost_name ≡ b.char_pos.ghost_name
  pub same_byte_pos : e.byte_pos.ghost_name ≡ b.byte_pos.ghost_name
  pub same_cell_starts : e.cell_starts.ghost_name ≡ b.cell_starts.ghost_name
  pub same_cell_lengths : e.cell_lengths.ghost_name ≡ b.cell_lengths.ghost_name
  pub same_tag_bytes : e.tag_bytes.ghost_name ≡ b.tag_bytes.ghost_name
