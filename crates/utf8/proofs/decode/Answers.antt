-- `utf8::decode` meets its contract: what is told first is what stands there.
use Prim.Native.Nat.{◌+◌}
use native.Mathlib.Omega.{arith}
use mathlib.Core.Path.{sym}
use lib.ListN.{length, get_or}
use Rattle.utf8.proofs.Laws.{decode_out, ascii_at, Ahead, ahead, Tails, tails, three_at}
use Rattle.utf8.proofs.decode.Goals as goal
use Rattle.utf8.proofs.decode.Goals.{Then-is_tail, Then-is_within-at}

-- what the tests tell
is-ahead : (c : Then-is_within-at) → let a = c.args in Ahead (get_or a.s.now a.at 0) (a.at + 2) (length a.s.now)
is-ahead c = search ahead

are-tails : (c : Then-is_tail) → let a = c.args in Tails (get_or a.s.now (a.at + 1) 0) (get_or a.s.now (a.at + 2) 0)
are-tails c = search tails

pub returns-then-s-at : goal.returns-then-s-at
returns-then-s-at c = sym (decode_out _ _ c.if-s-at.true)

pub returns-then-a-le127 : goal.returns-then-a-le127
returns-then-a-le127 c = rw c.from.ensures (search ascii_at)

pub bounds-s-at-then-is_within-at : goal.bounds-s-at-then-is_within-at
bounds-s-at-then-is_within-at c = omega (arith, is-ahead (goal.at.bounds-s-at-then-is_within-at c).Then-is_within-at)

pub bounds-s-at-then-is_within-at-2 : goal.bounds-s-at-then-is_within-at-2
bounds-s-at-then-is_within-at-2 c = omega (arith, is-ahead (goal.at.bounds-s-at-then-is_within-at-2 c).Then-is_within-at)

pub returns-then-is_tail : goal.returns-then-is_tail
returns-then-is_tail c =
    rw (c.behind-then-is_tail.ensures, c.behind.ensures, c.from-then-is_tail.ensures)
    (three_at _ _ (is-ahead (goal.at.returns-then-is_tail c).Then-is_within-at) (are-tails (goal.at.returns-then-is_tail c).Then-is_tail))
