-- `respelling::unchecked::run::write_told_by` meets its contract.
use mir.Syntax.{w64}
use mir.ValLaws.{to_z-of_z}
use Rattle.respelling.proofs.Calls.{of_error}
use Rattle.respelling.specs.Run.{write_told_by}
use Rattle.respelling.proofs.unchecked.run.write_told_by.Goals as goal

pub returns : goal.returns
unfolding write_told_by
returns c = rw (to_z-of_z w64 c.args.got c.ranges.got, of_error c.args.error c.ranges.error) at c.of.ensures
