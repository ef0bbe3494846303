-- `write::note_key` meets its contract.
use Rattle.write.proofs.Keys.{keyed}
use Rattle.write.proofs.note_key.Goals as goal

pub returns : goal.returns
returns c = keyed _ _ c.write_withheld_text.ensures
