-- `tokens::unchecked::next_token` meets its contract. The loop's invariant: the scan so far leaves the answer that the scan from p has.
use Prim.Native.Nat.{◌-◌}
use Rattle.tokens.proofs.Cursor.{Scanning}
use Rattle.tokens.proofs.unchecked.next_token.Given as goal

abbrev pub invariant-loop-end : goal.invariant-loop-end
invariant-loop-end l = Scanning l.n l.boundaries l.p l.known l.start l.end

abbrev pub decreases-loop-end : goal.decreases-loop-end
decreases-loop-end l = l.n - l.end
