-- All that a line's acts store in one buffer, from counts on.
use Rattle.std.specs.Prelude.{List, [], ◌∷◌, ◌++◌, ℕ}
use Rattle.sentence.specs.Reading.{Act}
use Rattle.read_counts.specs.declared.Counts.{Counts}
use Rattle.read_counts.specs.Counts.{tally}
use Rattle.read_stores.specs.Stores.{Store}

unfoldable pub emits : Store → List Act → Counts → List ℕ
emits p [] k = p.last k
emits p (a ∷ l) k = p.emit a k ++ emits p l (tally a k)
