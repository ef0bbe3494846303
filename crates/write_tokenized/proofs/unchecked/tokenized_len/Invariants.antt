-- `write_tokenized::unchecked::tokenized_len` meets its contract. The invariant: with the tokens from the cursor on, the sum is the whole.
use Prim.Native.Nat.{◌-◌}
use Rattle.sheet.specs.Views.{held}
use Rattle.write_tokenized.proofs.Turns.{Summing}
use Rattle.write_tokenized.proofs.unchecked.tokenized_len.Given as goal

abbrev pub invariant-loop-t : goal.invariant-loop-t
invariant-loop-t l = Summing l.sheet.record (held l.sheet) l.sum l.p l.some

abbrev pub decreases-loop-t : goal.decreases-loop-t
decreases-loop-t l = l.sheet.record.n - l.p
