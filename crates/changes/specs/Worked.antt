-- Worked refusals of `reset_tags` for T `ab`: 14 before 11, whatever the room, and 11 where there are three cells for two columns.
use Rattle.std.specs.Prelude.{◌≡◌, refl, true, [], length, Err}
use Prim.Native.Char.{code as chr}
use Rattle.laws.specs.If.{when◌then◌else◌}
use Rattle.sentence.specs.Sentence.{none, cell, final, Sentence, text_of}
use Rattle.sentence.specs.Refusals.{refusal, verdict}
use Rattle.sheet.specs.Layout.{Buffers}
use Rattle.changes.specs.Changes.{lack_cells, reset_answer}

unfoldable pub ab : Sentence
ab = record { cells = cell (chr "a") [] none (final (chr "b") []); columns = 0 }

pub reset_far : (d : Buffers) → reset_answer true ab 4097 d ≡ Err (refusal 14 4097)
unfolding reset_answer verdict when◌then◌else◌
reset_far d = refl

pub reset_full : (d : Buffers) → length d.cell_starts_buf ≡ 3 → reset_answer true ab 2 d ≡ Err (refusal 11 0)
unfolding ab text_of lack_cells reset_answer verdict when◌then◌else◌
reset_full d e = rw e
