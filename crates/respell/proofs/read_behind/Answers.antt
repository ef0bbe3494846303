-- However the read went, what it put stands behind the place.
use Rattle.respelling.proofs.Calls.{read_within}
use Rattle.respelling.proofs.Went.{behind}
use Rattle.respell.proofs.read_behind.Goals as goal

pub returns : goal.returns
returns g c = behind _ _ _ c.requires (read_within _ _ c.read_told-call.ensures c.read-answer.ensures.bound)
