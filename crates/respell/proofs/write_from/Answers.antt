-- However the write went, it took no more than there was.
use Rattle.respelling.proofs.Calls.{write_within}
use Rattle.respell.proofs.write_from.Goals as goal

pub returns : goal.returns
returns g c = write_within _ _ c.write_told-call.ensures c.write-answer.ensures.bound
