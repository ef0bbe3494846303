-- `write_partial::unchecked::sign_of` meets its contract.
use mathlib.Core.Path.{◌≡◌}
use Rattle.sentence.specs.Sentence.{unknown}
use Rattle.sentence.specs.Writing.{sign}
use Rattle.sheet.specs.Layout.{mark_of}
use Rattle.sheet.proofs.Look.{mark_none, mark_word, mark_unknown}
use Rattle.write_partial.proofs.unchecked.sign_of.Goals as goal

pub returns-in-0 : goal.returns-in-0
unfolding sign
returns-in-0 c = rw (mark_none _ c.in-0.is)

pub returns-in-1 : goal.returns-in-1
unfolding sign
returns-in-1 c = rw (mark_word _ c.in-1.is)

pub returns-in_default : goal.returns-in_default
unfolding sign
returns-in_default c = let u : mark_of c.args.m ≡ unknown = search mark_unknown in rw u
