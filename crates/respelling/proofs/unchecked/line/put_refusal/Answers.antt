-- `respelling::unchecked::line::put_refusal` meets its contract.
use mathlib.Core.Path.{◌≡◌}
use native.Mathlib.Omega.{arith}
use lib.ListN.{length, set, length-set}
use Rattle.respelling.proofs.Answers.{put_refused}
use borrow.Author.Rules.{rules}
use Rattle.respelling.proofs.unchecked.line.put_refusal.Goals as goal
use Rattle.respelling.proofs.unchecked.line.put_refusal.Goals.{Start}

stored : (c : Start) → length (set c.args.out.now c.args.at 33) ≡ length c.args.out.now
stored c = simp length-set

pub put_number-a-requires : goal.put_number-a-requires
put_number-a-requires c = simp length-set (omega arith)

pub put_number-requires : goal.put_number-requires
put_number-requires c = omega (arith, stored (goal.at.put_number-requires c).Start)

pub shape_of-out : goal.shape_of-out
shape_of-out c = omega (arith, stored (goal.at.shape_of-out c).Start)

pub returns : goal.returns
returns c = record {
  puts = put_refused c.args.r c.requires (rw (c.from.ensures, c.number.ensures) at c.put_number-a.ensures.puts) c.put_number.ensures.puts;
  upper_bound = search rules;
}
