-- `read_load::load` meets its contract.
use Rattle.std.proofs.lemmas.Result.{err_from_is_err_and}
use Rattle.read_load.proofs.Ways.{read_refused, read_lacks, read_fits, read_done}
use Rattle.read_load.proofs.load.Goals as goal

pub returns-in_err-r-clause-loads : goal.returns-in_err-r-clause-loads
returns-in_err-r-clause-loads c =
    let p = err_from_is_err_and c.from_residual.result c.from_residual.ensures.1 in
    rw (p.1, p.2) (read_refused _ _ _ _ c.scan.ensures c.in_err-r.was)

pub returns-then-not-has_room-clause-loads : goal.returns-then-not-has_room-clause-loads
returns-then-not-has_room-clause-loads c = read_lacks _ _ _ _ _ c.scan.ensures c.in_ok-r.was c.has_room.ensures c.if-not-has_room.true

pub fill-requires : goal.fill-requires
fill-requires c = read_fits _ _ _ _ _ c.scan.ensures c.in_ok-r.was c.has_room.ensures c.if-not-has_room.false

pub returns-clause-loads : goal.returns-clause-loads
returns-clause-loads c = read_done _ _ _ _ _ c.scan.ensures c.in_ok-r.was c.has_room.ensures c.if-not-has_room.false c.fill.ensures.filled
