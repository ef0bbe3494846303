-- What is counted of a line as its acts go by.
use Rattle.std.specs.Prelude.{ℕ, ◌+◌, ◌*◌, ◌≤◌, max, Bool, true, false, List, [], ◌∷◌}
use Rattle.utf8.specs.Utf8.{width}
use Rattle.sentence.specs.Reading.{Act, skip, letter, opens, of_tag}
use Rattle.sheet.specs.declared.Record.{Record}
use Rattle.read_counts.specs.declared.Counts.{Counts}

unfoldable pub nothing : Counts
nothing = record { n = 0; b = 0; columns = 0; g = 0; tags = 0; long = 0; tag = false }

-- 1 where a tag is open
unfoldable pub opened : Bool → ℕ
opened true = 1
opened false = 0

-- a character of the text, of w bytes
unfoldable pub letters : ℕ → Counts → Counts
letters w k = record { n = k.n + 1; b = k.b + w; columns = k.columns; g = k.g; tags = 0; long = 0; tag = false }

-- a tag begins
unfoldable pub opening : Counts → Counts
opening k = record {
  n = k.n;
  b = k.b;
  columns = max k.columns (k.tags + opened k.tag + 1);
  g = k.g;
  tags = k.tags + opened k.tag;
  long = 0;
  tag = true;
}

-- a character of the open tag, of w bytes
unfoldable pub grows : Bool → ℕ → Counts → Counts
grows true w k = record { n = k.n; b = k.b; columns = k.columns; g = k.g + w; tags = k.tags; long = k.long + w; tag = true }
grows false w k = k

-- an act whose character has w bytes
unfoldable pub tally_by : ℕ → Act → Counts → Counts
tally_by w skip k = k
tally_by w (letter m c) k = letters w k
tally_by w opens k = opening k
tally_by w (of_tag c) k = grows k.tag w k

-- how many bytes an act's character has, where they are counted
unfoldable pub bytes : Act → ℕ
bytes skip = 0
bytes (letter m c) = width c
bytes opens = 0
bytes (of_tag c) = width c

unfoldable pub tally : Act → Counts → Counts
tally a k = tally_by (bytes a) a k

unfoldable pub tallies : List Act → Counts → Counts
tallies [] k = k
tallies (a ∷ l) k = tallies l (tally a k)

-- the record of what was counted
unfoldable pub counted : Counts → Record
counted k = record { n = k.n; b = k.b; columns = k.columns; cells = k.n * k.columns; g = k.g }

-- no count is larger than m, and the open tag's bytes are among those of all tags
pub record Small (k : Counts) (m : ℕ) : Type 0 where
  pub n_small : k.n ≤ m
  pub b_small : k.b ≤ m
  pub columns_small : k.columns ≤ m
  pub tags_small : k.tags + opened k.tag ≤ m
  pub g_small : k.g ≤ m
  pub long_small : k.long ≤ k.g
