-- `write_escape::unchecked::copy_escaped` meets its contract. The invariant: what is left to write is the slice from there on, escaped.
use lib.ListN.{drop}
use Rattle.sentence.specs.Writing.{escape}
use Rattle.write_escape.specs.Wrote.{Writing}
use Rattle.write_escape.proofs.unchecked.copy_escaped.Given as goal

abbrev pub invariant-loop-b : goal.invariant-loop-b
invariant-loop-b l = Writing l.initial.out l.at (escape l.form l.src) l.out l.n (escape l.form (drop l.b-index l.src))
