-- A worked table: an absent cell starts where the tag bytes before it end. T `a//x b/y` has starts 0 0 1 2 and lengths 0 1 1 0.
use Rattle.std.specs.Prelude.{ℕ, ◌≡◌, refl, List, [], ◌∷◌}
use Prim.Native.Char.{code as chr}
use Rattle.laws.specs.If.{when◌then◌else◌}
use Rattle.laws.specs.Quoted.{quoted}
use Rattle.utf8.specs.Utf8.{utf8_2, utf8_3, utf8_4, char_of, walk, wholes, values, width, encode, encodes, size}
use Rattle.utf8.specs.Text.{utf8_of}
use Rattle.sentence.specs.Sentence.{word, cell, final, Sentence, rows_of, onto, cut, pad}
use Rattle.sentence.specs.declared.Form.TheVariants.{Tokenized as tokenized}
use Rattle.sentence.specs.Reading.{kind, ordinary, inside, opening, step, advance, unfinished, ending, finish, push, follow, run, before, add, gather}
use Rattle.sentence.specs.Reading.{sentence, built, placed, read}
use Rattle.sheet.specs.Layout.{cells_of, cell_starts, lay}

-- the line
abbrev pub table_line : List ℕ
table_line = utf8_of "a//x b/y"

-- its sentence: `a` with an absent tag and `x`, a word boundary, `b` with `y`, two columns
unfoldable pub table : Sentence
table = record { cells = cell (chr "a") ([] ∷ quoted "x" ∷ []) word (final (chr "b") (quoted "y" ∷ [])); columns = 2 }

pub table_reads : read tokenized table_line ≡ sentence table
unfolding table quoted encode encodes when◌then◌else◌ utf8_2 utf8_3 utf8_4 char_of walk wholes values onto cut kind ordinary inside opening step advance
    unfinished ending finish push follow run before add gather built placed read
table_reads = refl

pub table_starts : (lay table).cell_starts_buf ≡ 0 ∷ 0 ∷ 1 ∷ 2 ∷ []
unfolding table quoted lay rows_of cells_of cell_starts pad size width when◌then◌else◌
table_starts = refl

pub table_lengths : (lay table).cell_lengths_buf ≡ 0 ∷ 1 ∷ 1 ∷ 0 ∷ []
unfolding table quoted lay rows_of cells_of pad size width when◌then◌else◌
table_lengths = refl
