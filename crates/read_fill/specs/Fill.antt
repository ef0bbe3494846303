-- What filling the buffers needs, and what it leaves.
use Rattle.std.specs.Prelude.{ℕ, ◌≡◌, true}
use Rattle.sentence.specs.Reading.{Result, sentence, refused}
use Rattle.sheet.specs.Layout.{Buffers, record_of, room_for, laid}

-- the line reads to a sentence that has c columns and for which there is room
abbrev pub Fits : Result → ℕ → Buffers → Type 0
Fits (sentence s) c d = (c ≡ s.columns) × (room_for (record_of s) d ≡ true)
Fits (refused n p) c d = ⊥

-- the buffers with that sentence laid down
unfoldable pub filled : Result → Buffers → Buffers
filled (sentence s) d = laid s d
filled (refused n p) d = d
