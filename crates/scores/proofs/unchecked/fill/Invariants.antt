-- `scores::unchecked::fill` meets its contract.
use mathlib.Core.List.{map}
use lib.ListN.{drop}
use Rattle.laws.specs.Put.{Filling}
use Rattle.sentence.specs.Sentence.{code}
use Rattle.sentence.specs.Writing.{decision}
use Rattle.scores.proofs.unchecked.fill.Given as goal

abbrev pub invariant-loop-i : goal.invariant-loop-i
invariant-loop-i l = Filling l.initial.boundaries (map code (map decision l.scores)) l.boundaries l.i (map code (map decision (drop l.i l.scores)))
