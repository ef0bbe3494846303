-- `exports::read_line` meets its contract.
use Rattle.std.specs.Prelude.{Err}
use native.Mathlib.Omega.{arith}
use mathlib.Core.Path.{◌≡◌}
use borrow.Author.Rules.{rules}
use Rattle.exports.proofs.Told.{reads_16, reads_14, reads_on}
use Rattle.exports.proofs.read_line.Goals as goal

pub returns-in_err-form : goal.returns-in_err-form
returns-in_err-form c =
    let gone : c.from_residual.result ≡ Err c.in_err-form.field-0.0 = grind arith in
    record { reads = reads_16 _ _ _ _ c.try_from.ensures c.in_err-form.was gone; same_room = search rules }

pub returns-then-room-lt5 : goal.returns-then-room-lt5
returns-then-room-lt5 c = record {
  reads = reads_14 _ _ _ _ c.try_from.ensures c.in_ok-form.was c.if-room-lt5.true c.outside.ensures;
  same_room = search rules;
}

pub returns : goal.returns
returns c = record {
  reads = reads_on _ _ _ _ c.try_from.ensures c.in_ok-form.was c.if-room-lt5.false c.load.ensures.loads;
  same_room = search rules;
}
