-- Bytes put into a lent slice behind a place.
use Rattle.std.specs.Prelude.{ℕ, ◌+◌, ◌≡◌, List, ◌++◌, length, take, drop, Result}
use Rattle.laws.specs.Put.{over}
use Rattle.convert_buffers.specs.Between.{Outcome, answer_of, output_of}
use Rattle.sentence.specs.declared.Refusal.{Refusal}

-- w stands behind the place `at` of what was d, and ends at r; every other byte is as it was
pub record Puts (w d : List ℕ) (at r : ℕ) (d' : List ℕ) : Type 0 where
  pub end : r ≡ at + length w
  pub output : d' ≡ take at d ++ over w (drop at d)

-- the answer r to a conversion into a slice that begins at `start`, which counts from there, and the whole after it
pub record Into (o : Outcome) (d : List ℕ) (start : ℕ) (r : Result ℕ Refusal) (d' : List ℕ) : Type 0 where
  pub answer : r ≡ answer_of 0 o
  pub output : d' ≡ output_of start o d
