-- `exports::write_line` meets its contract.
use Rattle.std.specs.Prelude.{Err}
use native.Mathlib.Omega.{arith}
use mathlib.Core.Path.{◌≡◌}
use Rattle.exports.proofs.Told.{writes_16, writes_raw, writes_on}
use Rattle.exports.proofs.write_line.Goals as goal

pub returns-in_err-to_write : goal.returns-in_err-to_write
returns-in_err-to_write c =
    let gone : c.from_residual.result ≡ Err c.in_err-to_write.field-0.0 = grind arith in
    writes_16 _ _ _ _ c.to_write.ensures c.in_err-to_write.was gone

pub returns-in-Raw : goal.returns-in-Raw
returns-in-Raw c = writes_raw _ _ _ _ c.to_write.ensures c.in_ok-to_write.was c.in-Raw.is

pub returns-in-Tokenized : goal.returns-in-Tokenized
returns-in-Tokenized c = writes_on _ _ _ _ c.to_write.ensures c.in_ok-to_write.was c.in-Tokenized.is c.write_tokenized_text.ensures

pub returns-in-Partial : goal.returns-in-Partial
returns-in-Partial c = writes_on _ _ _ _ c.to_write.ensures c.in_ok-to_write.was c.in-Partial.is c.write_partial_annotation_text.ensures
