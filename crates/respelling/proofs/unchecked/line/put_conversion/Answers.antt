-- `respelling::unchecked::line::put_conversion` meets its contract.
use Prim.Native.Nat.{◌≤◌}
use native.Mathlib.Omega.{arith}
use mathlib.Core.Path.{◌≡◌}
use lib.ListN.{length, set, length-set}
use Rattle.respelling.proofs.Answers.{line_few, put_line, put_other}
use borrow.Author.Rules.{rules}
use Rattle.respelling.proofs.unchecked.line.put_conversion.Goals as goal
use Rattle.respelling.proofs.unchecked.line.put_conversion.Goals.{In-Ok, Start}

pub convert_into-requires : goal.convert_into-requires
convert_into-requires c = simp length-set (omega arith)

few : (c : In-Ok) → c.in-Ok.n ≤ 8192
few c = search (line_few, rules)

stored : (c : Start) → length (set c.args.out.now c.args.at 61) ≡ length c.args.out.now
stored c = simp length-set

pub overflow_add-e : goal.overflow_add-e
overflow_add-e c = omega (arith, few (goal.at.overflow_add-e c).In-Ok)

pub bounds-out-e : goal.bounds-out-e
bounds-out-e c = omega (arith, few (goal.at.bounds-out-e c).In-Ok, stored (goal.at.bounds-out-e c).Start)

pub overflow_add-result : goal.overflow_add-result
overflow_add-result c = omega (arith, few (goal.at.overflow_add-result c).In-Ok)

pub put_refusal-requires : goal.put_refusal-requires
put_refusal-requires c = omega (arith, stored (goal.at.put_refusal-requires c).Start)

pub shape_of-out-in-Ok : goal.shape_of-out-in-Ok
shape_of-out-in-Ok c = simp length-set (omega (arith, stored (goal.at.shape_of-out-in-Ok c).Start))

pub returns-in-Ok : goal.returns-in-Ok
returns-in-Ok c = record { puts = search put_line; upper_bound = omega (arith, few (goal.at.returns-in-Ok c).In-Ok) }

pub shape_of-out-in-Err : goal.shape_of-out-in-Err
shape_of-out-in-Err c = omega (arith, stored (goal.at.shape_of-out-in-Err c).Start)

pub returns-in-Err : goal.returns-in-Err
returns-in-Err c = record { puts = search put_other; upper_bound = search rules }
