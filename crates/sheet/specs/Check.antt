-- Whether a record and buffers are a sheet: the limits, the room, then a test for each pass over what the record counts of the buffers.
use Rattle.std.specs.Prelude.{◌+◌, ◌-◌, ◌*◌, ◌≤◌, Bool, ◌&&◌, eqb, leb, take}
use Rattle.sheet_check.specs.Passes.{is_text, are_marks, are_cells}
use Rattle.sheet.specs.declared.Record.{Record}
use Rattle.sheet.specs.Layout.{Buffers, takes, room_for, AtLeast}

-- N is at least 1 and at most B, B and columns at most 4,096, G at most 65,535; there are N times columns cells
unfoldable pub in_limits : Record → Bool
in_limits r = leb 1 r.n && leb r.n r.b && leb r.b 4096 && leb r.columns 4096 && leb r.g 65535 && eqb r.cells (r.n * r.columns)

-- what the record counts of the buffers is laid out as a sentence is
unfoldable pub is_laid : Record → Buffers → Bool
is_laid r d =
    is_text (take r.b d.text_buf) (take r.n d.types_buf) (take (r.n + 1) d.char_pos_buf) (take (r.b + 1) d.byte_pos_buf)
    && are_marks (take (r.n - 1) d.boundaries_buf)
    && are_cells (take r.g d.tag_bytes_buf) 0 (take r.cells d.cell_starts_buf) (take r.cells d.cell_lengths_buf)

-- N is at least 1, and there is room for what the record counts
pub record Room (r : Record) (d : Buffers) : Type 0 where
  pub some : 1 ≤ r.n
  pub room : AtLeast (takes r) d

-- the record and the buffers are a sheet
unfoldable pub is_sheet : Record → Buffers → Bool
is_sheet r d = in_limits r && room_for r d && is_laid r d
