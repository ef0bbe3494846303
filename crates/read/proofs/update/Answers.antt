-- `read::update` meets its contract.
use mathlib.Core.Path.{sym, ◌∙◌}
use Rattle.read.proofs.Ways.{update_lacks, update_done, update_refused}
use Rattle.read.proofs.update.Goals as goal

pub returns-then-not-has_room-clause-updates : goal.returns-then-not-has_room-clause-updates
returns-then-not-has_room-clause-updates c = update_lacks _ _ _ c.has_room.ensures c.if-not-has_room.true

pub returns-then-is_err-clause-updates : goal.returns-then-is_err-clause-updates
returns-then-is_err-clause-updates c =
    update_refused _ _ _ c.has_room.ensures c.if-not-has_room.false c.load-answer.ensures.loads
    (sym c.is_err.ensures.value ∙ c.if-is_err.true) c.set_default.ensures.lays

pub returns-else-is_err-clause-updates : goal.returns-else-is_err-clause-updates
returns-else-is_err-clause-updates c =
    update_done _ _ _ c.has_room.ensures c.if-not-has_room.false c.load-answer.ensures.loads
    (sym c.is_err.ensures.value ∙ c.if-is_err.false)
