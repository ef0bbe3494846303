-- What a sheet holds for the cursor: its boundaries are the sentence's, within the limits. Assumes nothing.
use mathlib.Core.Path.{◌≡◌}
use native.Mathlib.Omega.{arith}
use Rattle.utf8.proofs.Codec.{size_long}
use Rattle.sentence.specs.Sentence.{Sentence, text, marks}
use Rattle.sheet.specs.declared.Record.{Record}
use Rattle.sheet.specs.Layout.{Buffers, Holds}
use Rattle.sentence.proofs.Cells.{length_marks}
use Rattle.sheet.proofs.Held.{marks_back, n_held, boundaries_held}
use Rattle.tokens.specs.Steps.{marks_in, Bounded}

module _ {r : Record} {d : Buffers} {s : Sentence} (h : Holds r d s) where
  pub marks_held : marks_in r.n d.boundaries_buf ≡ marks s
  unfolding marks_in
  marks_held = rw (boundaries_held h).is (marks_back (marks s))

  pub bounded_held : Bounded r.n d.boundaries_buf
  bounded_held = record {
    some = omega (arith, n_held h, length_marks s.cells);
    few = omega (arith, n_held h, size_long (text s), h.formed.text_fits);
    long = omega (arith, (boundaries_held h).fits);
  }
