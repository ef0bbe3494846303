-- The example of document 01, and lines of many cells: what is printed, and what is wanted.
use Rattle.std.specs.Prelude.{ℕ, ◌≡◌, refl, List, [], ◌∷◌, ◌++◌, map, replicate}
use Prim.Native.Char.{code as chr}
use Rattle.laws.specs.If.{when◌then◌else◌}
use Rattle.laws.specs.Quoted.{quoted}
use Rattle.utf8.specs.Utf8.{utf8_2, utf8_3, utf8_4, char_of, walk, wholes, values, encode, encodes, width, size}
use Rattle.utf8.specs.Text.{utf8_of}
use Rattle.sentence.specs.Sentence.{text_of, marks_of, rows_of, onto, cut, pad}
use Rattle.sentence.specs.Forms.{no_reader, no_writer, form_of, letter}
use Rattle.sentence.specs.Reading.{kind, ordinary, inside, opening, step, advance, unfinished, ending, finish, push, follow, run, before, add, gather}
use Rattle.sentence.specs.Reading.{built, placed, read}
use Rattle.sentence.specs.Writing.{tokens, escape_as, escape, write_tags, write_token, joined, sign, shown, write_partial, line}
use Rattle.sentence.specs.Refusals.{verdict, host_order}
use Rattle.convert_buffers.specs.Between.{overfull, between}
use Rattle.convert.specs.Convert.{unknown_forms, out_of_range, conversion}
use Rattle.respelling.specs.Decimal.{digits, decimal}
use Rattle.respelling.specs.Respell.{outcome, printed, lines, answers, respell}
use Rattle.respelling.specs.Respell.{before as Respell·before}

-- so many times a character
abbrev many : ℕ → ℕ → List ℕ
many n c = replicate n c

-- what is printed, and what is wanted
pub examples : List (List ℕ × List ℕ)
examples =
    (respell (utf8_of "TPa/x b\nPTa-b|c\nPTa b\nPPa/-b\nTPa  b\nPP\nPTa\\\nQPa\n"), utf8_of "=a/x|b/\n=ab c\n=\n=a-b/\n!6 2\n!3 0\n=a\n!16 0\n")
    -- 45 b and 46 /, tokenized, have 2,070 cells, which are not held
    ∷ (respell (utf8_of "TP" ++ (many 45 (chr "b") ++ (many 46 (chr "/") ++ utf8_of "\n"))), utf8_of "!11 0\n")
    -- 11 comes before 12
    ∷ (printed (conversion 1 2 (many 45 (chr "b") ++ many 46 (chr "/")) 0 0), utf8_of "!11 0\n")
    -- b b and 1,024 / have 2,048, which are held
    ∷ (
      respell (utf8_of "TTb b" ++ (many 1024 (chr "/") ++ utf8_of "\n")),
      utf8_of "=b" ++ (many 1024 (chr "/") ++ (utf8_of " b" ++ (many 1024 (chr "/") ++ utf8_of "\n"))),
    )
    ∷ []

pub example : map (λ (e : List ℕ × List ℕ). e.0) examples ≡ map (λ (e : List ℕ × List ℕ). e.1) examples
unfolding examples quoted when◌then◌else◌ utf8_2 utf8_3 utf8_4 char_of walk wholes values encode encodes width size text_of marks_of rows_of onto cut pad kind
    ordinary inside opening step advance unfinished ending finish push follow run before add gather built placed read tokens escape_as escape write_tags
    write_token joined sign shown write_partial line verdict host_order no_reader no_writer form_of unknown_forms overfull between out_of_range conversion
    digits
    decimal letter outcome printed lines answers respell Respell·before
example = refl
