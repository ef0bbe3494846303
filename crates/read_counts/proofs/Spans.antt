-- What both passes over a line meet at a character: its bytes where it stands, and what its act counts. Assumes nothing.
use Prim.Native.Nat.{ℕ, ◌+◌, ◌≤◌}
use mathlib.Core.Path.{◌≡◌, refl}
use mathlib.Core.List.{List}
use lib.ListN.{length}
use Rattle.utf8.specs.declared.Decoded.TheVariants.{Char}
use Rattle.utf8.specs.Utf8.{width, decode_at}
use Rattle.utf8.proofs.Laws.{len_ok, char_within}
use Rattle.sentence.specs.Reading.{Act, skip, letter, opens, of_tag}
use Rattle.sentence.proofs.Shape.{ActOf}
use Rattle.read_counts.specs.declared.Counts.{Counts}
use Rattle.read_counts.specs.Counts.{bytes, tally_by, tally}

-- a character's bytes, where it stands
pub record Span (x : List ℕ) (p n : ℕ) : Type 0 where
  pub some : 1 ≤ n
  pub few : n ≤ 4
  pub fits : p + n ≤ length x
  pub short : length x ≤ 4096

pub span : (x : List ℕ) (p v n : ℕ) → p ≤ length x → length x ≤ 4096 → decode_at x p ≡ Char v n → Span x p n
span x p v n h s q = record { some = (len_ok x p v n q).0; few = (len_ok x p v n q).1; fits = char_within x p v n h q; short = s }

-- by the bytes that were read an act counts what it counts by its character
pub tally_width : (a : Act) (c : ℕ) (k : Counts) → ActOf c a → tally_by (width c) a k ≡ tally a k
unfolding tally tally_by bytes
tally_width skip c k e = refl
tally_width (letter m d) c k e = rw e
tally_width opens c k e = refl
tally_width (of_tag d) c k e = rw e
