-- `tokens::unchecked::count_tokens` meets its contract. The loop's invariant: the tokens passed and those onward are all.
use Prim.Native.Nat.{◌-◌}
use Rattle.tokens.proofs.Cursor.{Counted}
use Rattle.tokens.proofs.unchecked.count_tokens.Given as goal

abbrev pub invariant-loop-t : goal.invariant-loop-t
invariant-loop-t l = Counted l.n l.boundaries l.count l.p

abbrev pub decreases-loop-t : goal.decreases-loop-t
decreases-loop-t l = l.n - l.p
