-- `sentence::FormTryFromU32::try_from` meets its contract.
use Rattle.sentence.specs.Refusals.{reader_of}
use Rattle.sentence.proofs.Forms.{tests_refused, tests_served}
use Rattle.sentence.proofs.FormTryFromU32.try_from.Goals as goal

pub returns-then-no_reader : goal.returns-then-no_reader
unfolding reader_of
returns-then-no_reader c = tests_refused _ _ c.no_reader.ensures c.if-no_reader.true

pub returns : goal.returns
unfolding reader_of
returns c = tests_served _ _ c.no_reader.ensures c.if-no_reader.false c.of.ensures
