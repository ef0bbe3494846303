-- `exports::ighdelmur_read` meets its contract.
use borrow.Author.Rules.{rules}
use Rattle.exports.proofs.Places.{reads_asks}
use Rattle.exports.proofs.Told.{reads_told}
use Rattle.exports.proofs.ighdelmur_read.Goals as goal

pub tell_read-requires : goal.tell_read-requires
tell_read-requires c = reads_asks _ _ _ _ c.read_line-answer.ensures.reads

pub returns : goal.returns
returns c = reads_told _ _ _ _ (search rules) c.read_line-answer.ensures.reads c.tell_read.ensures
