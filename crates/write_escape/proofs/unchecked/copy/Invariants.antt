-- `write_escape::unchecked::copy` meets its contract. The invariant: what is left to write is the slice from there on.
use lib.ListN.{drop}
use Rattle.write_escape.specs.Wrote.{Writing}
use Rattle.write_escape.proofs.unchecked.copy.Given as goal

abbrev pub invariant-loop-b : goal.invariant-loop-b
invariant-loop-b l = Writing l.initial.out l.at l.src l.out l.n (drop l.b-index l.src)
