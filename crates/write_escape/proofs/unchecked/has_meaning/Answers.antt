-- `write_escape::unchecked::has_meaning` meets its contract.
use native.Mathlib.Omega.{arith}
use Rattle.write_escape.proofs.Bytes.{meant_both, meant_partial, meant_none}
use Rattle.write_escape.proofs.unchecked.has_meaning.Goals as goal

pub returns-then-b-eq32 : goal.returns-then-b-eq32
returns-then-b-eq32 c = meant_both c.args.form c.args.b (grind (arith, c.then-b-eq32.either)) c.ne.ensures

pub returns-then-b-eq45 : goal.returns-then-b-eq45
returns-then-b-eq45 c = meant_partial c.args.form c.args.b (grind (arith, c.then-b-eq45.either)) c.eq.ensures

pub returns : goal.returns
returns c = search meant_none
