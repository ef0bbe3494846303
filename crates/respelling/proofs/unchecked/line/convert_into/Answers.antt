-- `respelling::unchecked::line::convert_into` meets its contract.
use Prim.Native.Nat.{◌+◌, ◌-◌}
use native.Mathlib.Omega.{arith}
use Rattle.respelling.proofs.Answers.{into}
use Rattle.respelling.proofs.unchecked.line.convert_into.Goals as goal

pub returns : goal.returns
returns c =
    let s = c.args in
    into s.reader s.writer s.line.now s.out.now s.start (omega arith) (s.start + 8192 - s.start) (omega arith) c.convert.ensures
