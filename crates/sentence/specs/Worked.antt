-- Worked lines: what is asked of a line, and the answer, as numbers. The first of them are document 01's marked ones.
use Rattle.std.specs.Prelude.{ℕ, ◌≡◌, refl, List, [], ◌∷◌, ◌++◌, map, ℤ, pos, negsuc}
use Prim.Native.Char.{code as chr}
use Rattle.laws.specs.If.{when◌then◌else◌}
use Rattle.laws.specs.Quoted.{quoted}
use Rattle.utf8.specs.Utf8.{utf8_2, utf8_3, utf8_4, char_of, walk, wholes, values, width, encode, encodes, size}
use Rattle.utf8.specs.Text.{utf8_of}
use Rattle.types.specs.TypeOf.{find, ranges, type_of}
use Rattle.sentence.specs.Sentence.{Tag, none, word, unknown, code, Sentence, text_of, marks_of, rows_of, text, marks, rows}
use Rattle.sentence.specs.Sentence.{count, types, starts, numbers, char_positions, byte_positions, onto, cut, pad}
use Rattle.sentence.specs.declared.Form.{Form}
use Rattle.sentence.specs.declared.Form.TheVariants.{Raw as raw, Tokenized as tokenized, Partial as partial}
use Rattle.sentence.specs.Reading.{kind, ordinary, inside, opening, step, advance, unfinished, ending, finish, push, follow, run, before, add, gather}
use Rattle.sentence.specs.Reading.{Result, sentence, refused, built, placed, read}
use Rattle.sentence.specs.Writing.{Token, token, tokens, tokens_from, Served, serves, done, first, next_token_of, escape_as, escape, write_tags}
use Rattle.sentence.specs.Writing.{write_token, joined, sign, shown, write_partial, line, written, key, bare, marked, reset_tags_of, set_mark, set_boundary_of}
use Rattle.sentence.specs.Writing.{decision, scored, blank}
use Rattle.sentence.specs.Joined.{glue, glued}
use Rattle.sentence.specs.Withheld.{in_range, touches, hidden, widest, trimmed, withheld}

-- what can be asked of a line that is read
pub data Ask : Type 0 where
  the_refusal the_text the_types the_boundaries the_char_positions the_byte_positions the_columns the_tags the_tokens the_key : Ask
  the_line : Form → Ask
  the_token_at : ℕ → Ask
  the_line_reset : ℕ → Ask
  the_line_scored : List ℤ → Ask
  the_withheld : ℕ → ℕ → Ask

-- the start and the end of each token
unfoldable pub spans : List Token → List ℕ
spans [] = []
spans (token b e ∷ ts) = b ∷ e ∷ spans ts

-- a served token as its start and end, done as its place alone
unfoldable pub served_as : Served → List ℕ
served_as (serves (token b e)) = b ∷ e ∷ []
served_as (done p) = p ∷ []

-- tags one after another, each ended by a slash; a row ended by another
unfoldable pub tags_as : List (List Tag) → List ℕ
tags_as [] = []
tags_as ([] ∷ rs) = chr "/" ∷ tags_as rs
tags_as ((t ∷ ts) ∷ rs) = t ++ (chr "/" ∷ tags_as (ts ∷ rs))

-- what a sentence answers
unfoldable pub told : Ask → Sentence → List ℕ
told the_refusal s = []
told the_text s = encodes (text s)
told the_types s = types (text s)
told the_boundaries s = map code (marks s)
told the_char_positions s = char_positions (text s)
told the_byte_positions s = byte_positions (text s)
told the_columns s = s.columns ∷ []
told the_tags s = tags_as (rows s)
told the_tokens s = spans (tokens_from (marks s) 0)
told the_key s = key s
told (the_line f) s = written f s
told (the_token_at p) s = served_as (next_token_of (marks s) (count s) p)
told (the_line_reset c) s = written partial (reset_tags_of c s)
told (the_line_scored zs) s = written partial (scored zs s)
told (the_withheld b e) s = written partial (withheld b e s)

-- a refused line answers its number and place
unfoldable pub answer : Ask → Result → List ℕ
answer a (refused number place) = number ∷ place ∷ []
answer a (sentence s) = told a s

-- a line in a form, what is asked of it, and the answer
pub record Case : Type 0 where
  pub form : Form
  pub bytes : List ℕ
  pub ask : Ask
  pub wanted : List ℕ

abbrev pub case : Form → List ℕ → Ask → List ℕ → Case
case f x a w = record { form = f; bytes = x; ask = a; wanted = w }

pub worked : List Case
worked =
    -- types and position maps of a raw line
    case raw (utf8_of "aあ") the_types (2 ∷ 3 ∷ [])
    ∷ case raw (utf8_of "aあ") the_char_positions (0 ∷ 1 ∷ 4 ∷ [])
    ∷ case raw (utf8_of "aあ") the_byte_positions (0 ∷ 1 ∷ 0 ∷ 0 ∷ 2 ∷ [])
    -- no character
    ∷ case raw [] the_refusal (3 ∷ 0 ∷ [])
    -- a lone backslash at the end is dropped; where the partial form awaits a character it is one
    ∷ case tokenized (utf8_of "a\\") the_text (utf8_of "a")
    ∷ case tokenized (utf8_of "\\") the_refusal (3 ∷ 1 ∷ [])
    ∷ case partial (utf8_of "\\") the_text (utf8_of "\\")
    -- document 01's refusals: an escape is no mark; a slash where a token begins; a boundary at the end
    ∷ case partial (utf8_of "a\\-b") the_refusal (9 ∷ 2 ∷ [])
    ∷ case tokenized (utf8_of "a /b") the_refusal (7 ∷ 2 ∷ [])
    ∷ case tokenized (utf8_of "a ") the_refusal (8 ∷ 2 ∷ [])
    ∷ case partial (utf8_of "a-") the_refusal (10 ∷ 2 ∷ [])
    -- an unknown boundary: no token is known on its sides
    ∷ case partial (utf8_of "a|b c|d") the_tokens (0 ∷ 1 ∷ 3 ∷ 4 ∷ [])
    ∷ case partial (utf8_of "a|b c|d") (the_line tokenized) (utf8_of "a d")
    -- an absent tag before a present one counts as a column
    ∷ case tokenized (utf8_of "a//x b") the_columns (2 ∷ [])
    ∷ case tokenized (utf8_of "a//x b") (the_line tokenized) (utf8_of "a//x b//")
    ∷ case tokenized (utf8_of "a//x b") (the_line partial) (utf8_of "a//x|b//")
    -- a slash opens a column, and the last character writes it
    ∷ case partial (utf8_of "a/-b") (the_line partial) (utf8_of "a-b/")
    -- a tag inside a token is lost in the tokenized form; a raw line has no known token
    ∷ case partial (utf8_of "a/x-b") (the_line tokenized) (utf8_of "ab/")
    ∷ case raw (utf8_of "ab") (the_line tokenized) []
    ∷ case raw (utf8_of "ab") the_boundaries (2 ∷ [])
    -- the dropped backslash stands behind a space
    ∷ case tokenized (utf8_of "a \\") the_refusal (8 ∷ 3 ∷ [])
    -- places are counted in bytes
    ∷ case tokenized (utf8_of " a") the_refusal (5 ∷ 0 ∷ [])
    ∷ case tokenized (utf8_of "あ  b") the_refusal (6 ∷ 4 ∷ [])
    ∷ case tokenized (utf8_of "/x") the_refusal (7 ∷ 0 ∷ [])
    -- NUL is refused wherever it stands, escaped, in a tag or first
    ∷ case raw (utf8_of "a\0") the_refusal (4 ∷ 1 ∷ [])
    ∷ case tokenized (utf8_of "a\\\0") the_refusal (4 ∷ 2 ∷ [])
    ∷ case tokenized (utf8_of "a/\0") the_refusal (4 ∷ 2 ∷ [])
    ∷ case partial (utf8_of "a\0") the_refusal (4 ∷ 1 ∷ [])
    ∷ case partial (utf8_of "a/\\\0") the_refusal (4 ∷ 3 ∷ [])
    ∷ case partial (utf8_of "\0") the_refusal (4 ∷ 0 ∷ [])
    -- the partial form where a mark should be
    ∷ case partial (utf8_of "ab") the_refusal (9 ∷ 1 ∷ [])
    ∷ case partial (utf8_of "あ\\/") the_refusal (9 ∷ 4 ∷ [])
    ∷ case partial [] the_refusal (3 ∷ 0 ∷ [])
    ∷ case partial (utf8_of "a\\") the_text (utf8_of "a")
    -- not UTF-8, a lone lead byte, comes before the first space
    ∷ case tokenized (32 ∷ 0xE3 ∷ 0x81 ∷ []) the_refusal (2 ∷ 1 ∷ [])
    -- characters are taken literally, and written as they are
    ∷ case partial (utf8_of " -\\|/") the_text (utf8_of " \\/")
    ∷ case partial (utf8_of " -\\|/") (the_line partial) (utf8_of " -\\|/")
    ∷ case partial (utf8_of " -\\|/") (the_line tokenized) (utf8_of "\\ \\\\ \\/")
    -- an escaped space is text; the partial form escapes the dash of a tag, the tokenized one does not
    ∷ case tokenized (utf8_of "a\\ b/\\/-") the_text (utf8_of "a b")
    ∷ case tokenized (utf8_of "a\\ b/\\/-") (the_line partial) (utf8_of "a- -b/\\/\\-")
    ∷ case tokenized (utf8_of "a\\ b/\\/-") (the_line tokenized) (utf8_of "a\\ b/\\/-")
    -- no column, one column
    ∷ case tokenized (utf8_of "a") the_columns (0 ∷ [])
    ∷ case tokenized (utf8_of "a/") the_columns (1 ∷ [])
    -- but the keys of both are one, and so are those of two tokens with and without a column
    ∷ case tokenized (utf8_of "a") the_key (utf8_of "a")
    ∷ case tokenized (utf8_of "a/") the_key (utf8_of "a")
    ∷ case tokenized (utf8_of "a b") the_key (utf8_of "a|b")
    ∷ case tokenized (utf8_of "a/ b/") the_key (utf8_of "a|b")
    -- a key has no column that is nowhere in use
    ∷ case partial (utf8_of "a/-b") the_key (utf8_of "a-b")
    ∷ case partial (utf8_of "a/|b/") the_key (utf8_of "a|b")
    -- only columns at the end are cut; a tag inside a token uses its column
    ∷ case partial (utf8_of "a//x/|b") the_key (utf8_of "a//x|b//")
    ∷ case partial (utf8_of "a/x-b|c") the_key (utf8_of "a/x-b/|c/")
    -- a row ends at its last present tag; all columns before a word boundary and at the end, else none that is absent
    ∷ case partial (utf8_of "a/x//|b//y c") the_columns (3 ∷ [])
    ∷ case partial (utf8_of "a/x//|b//y c") the_tags (utf8_of "x///y///")
    ∷ case partial (utf8_of "a/x//|b//y c") (the_line partial) (utf8_of "a/x//|b//y c///")
    ∷ case partial (utf8_of "a/x//|b//y c") (the_line tokenized) (utf8_of "a/x//")
    -- the cursor: from 0 the first token is skipped; from 1, inside it, a token begins; then to the end, and past it
    ∷ case partial (utf8_of "a b|c-d|e f") (the_token_at 0) (2 ∷ 4 ∷ [])
    ∷ case partial (utf8_of "a b|c-d|e f") (the_token_at 1) (1 ∷ 2 ∷ [])
    ∷ case partial (utf8_of "a b|c-d|e f") (the_token_at 3) (3 ∷ 4 ∷ [])
    ∷ case partial (utf8_of "a b|c-d|e f") (the_token_at 4) (6 ∷ [])
    ∷ case partial (utf8_of "a b|c-d|e f") (the_token_at 5) (5 ∷ 6 ∷ [])
    ∷ case partial (utf8_of "a b|c-d|e f") (the_token_at 6) (6 ∷ [])
    ∷ case partial (utf8_of "a b|c-d|e f") (the_token_at 9) (9 ∷ [])
    -- with two absent columns; with the scores 0 and 1, and -1 and 7
    ∷ case partial (utf8_of "a/x b|c") (the_line_reset 2) (utf8_of "a b//|c//")
    ∷ case partial (utf8_of "a/x b|c") (the_line_scored (pos 0 ∷ pos 1 ∷ [])) (utf8_of "a-b|c")
    ∷ case partial (utf8_of "a/x b|c") (the_line_scored (negsuc 0 ∷ pos 7 ∷ [])) (utf8_of "a-b|c")
    -- withheld: an empty range hides nothing
    ∷ case partial (utf8_of "a|b") (the_withheld 1 1) (utf8_of "a|b")
    ∷ case partial (utf8_of "a|b") (the_withheld 2 2) (utf8_of "a|b")
    -- the boundaries on both sides of the range
    ∷ case partial (utf8_of "a|b|c|d") (the_withheld 1 2) (utf8_of "a b c|d")
    -- the columns are those in use outside
    ∷ case partial (utf8_of "a/|b//x|c/") (the_withheld 1 2) (utf8_of "a b c")
    -- a tag outside stays; the last character has all columns
    ∷ case partial (utf8_of "a-b/x|c") (the_withheld 0 1) (utf8_of "a b/x|c/")
    ∷ case partial (utf8_of "a/x|b") (the_withheld 1 2) (utf8_of "a/x b/")
    -- one character, all of them, the last, none
    ∷ case partial (utf8_of "a/x|b/y-c//z") (the_withheld 1 2) (utf8_of "a/x b c//z")
    ∷ case partial (utf8_of "a/x|b/y-c//z") (the_withheld 0 3) (utf8_of "a b c")
    ∷ case partial (utf8_of "a/x|b/y-c//z") (the_withheld 2 3) (utf8_of "a/x|b/y c/")
    ∷ case partial (utf8_of "a/x|b/y-c//z") (the_withheld 0 0) (utf8_of "a/x/|b/y-c//z")
    -- joined: tokenized lines by a word boundary, partial ones by any, raw ones with nothing between by an unknown one
    ∷ case tokenized (glued tokenized word (utf8_of "a") (utf8_of "b")) (the_line partial) (utf8_of "a|b")
    ∷ case partial (glued partial none (utf8_of "a") (utf8_of "b")) (the_line partial) (utf8_of "a-b")
    ∷ case partial (glued partial word (utf8_of "a") (utf8_of "b")) (the_line partial) (utf8_of "a|b")
    ∷ case partial (glued partial unknown (utf8_of "a") (utf8_of "b")) (the_line partial) (utf8_of "a b")
    ∷ case raw (glued raw unknown (utf8_of "a") (utf8_of "b")) (the_line partial) (utf8_of "a b")
    -- with a space between them there would be three characters
    ∷ case raw (utf8_of "a b") the_boundaries (2 ∷ 2 ∷ [])
    -- the larger number of columns, which the writer then writes for each token
    ∷ case tokenized (glued tokenized word (utf8_of "a/x") (utf8_of "b")) the_columns (1 ∷ [])
    ∷ case tokenized (glued tokenized word (utf8_of "a/x") (utf8_of "b")) (the_line tokenized) (utf8_of "a/x b/")
    -- a lone backslash makes what stands between them text, or part of a tag, or is refused
    ∷ case tokenized (glued tokenized word (utf8_of "a\\") (utf8_of "b")) (the_line partial) (utf8_of "a- -b")
    ∷ case partial (glued partial word (utf8_of "a/x\\") (utf8_of "b")) (the_line partial) (utf8_of "a/x\\|b")
    ∷ case partial (glued partial word (utf8_of "a\\") (utf8_of "b")) the_refusal (9 ∷ 2 ∷ [])
    -- where the partial form awaits a character, a backslash is one, and is not lone
    ∷ case partial (glued partial word (utf8_of "\\") (utf8_of "b")) (the_line partial) (utf8_of "\\|b")
    -- an empty line is joined to nothing
    ∷ case tokenized (glued tokenized word [] (utf8_of "b")) the_refusal (5 ∷ 0 ∷ [])
    ∷ case tokenized (glued tokenized word (utf8_of "a") []) the_refusal (8 ∷ 2 ∷ [])
    ∷ case partial (glued partial word [] (utf8_of "/")) (the_line partial) (utf8_of "|/")
    -- skipped tokens are not in the tokenized line that is joined
    ∷ case partial (utf8_of "a b|c") (the_line tokenized) (utf8_of "c")
    ∷ []

pub given : Case → List ℕ
given c = answer c.ask (read c.form c.bytes)

-- every worked line has its answer
pub worked_lines : map given worked ≡ map (λ (c : Case). c.wanted) worked
unfolding worked quoted given told answer spans served_as tags_as when◌then◌else◌ utf8_2 utf8_3 utf8_4 char_of walk wholes values width encode encodes size find
    ranges type_of code text_of marks_of rows_of starts numbers onto cut pad kind ordinary inside opening step advance unfinished ending finish push follow run
    before add gather built placed read tokens first next_token_of escape_as escape write_tags write_token joined sign shown write_partial line bare marked
    reset_tags_of set_mark set_boundary_of decision scored blank in_range touches hidden widest trimmed withheld glue
worked_lines = refl
