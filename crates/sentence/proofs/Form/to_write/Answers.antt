-- `sentence::Form::to_write` meets its contract.
use Rattle.sentence.specs.Refusals.{writer_of}
use Rattle.sentence.proofs.Forms.{tests_refused, tests_served}
use Rattle.sentence.proofs.Form.to_write.Goals as goal

pub returns-then-no_writer : goal.returns-then-no_writer
unfolding writer_of
returns-then-no_writer c = tests_refused _ _ c.no_writer.ensures c.if-no_writer.true

pub returns : goal.returns
unfolding writer_of
returns c = tests_served _ _ c.no_writer.ensures c.if-no_writer.false c.of.ensures
