-- The bytes that a form escapes.
use Rattle.std.specs.Prelude.{Bool, true, false}
use Rattle.sentence.specs.Reading.{Kind, mark, slash, back, plain}

-- whether a kind of character is written behind a backslash
unfoldable pub meant : Kind → Bool
meant (mark m) = true
meant slash = true
meant back = true
meant plain = false
