-- `write_tokenized::unchecked::tokenized_into` meets its contract. The invariant: the tokens from the cursor on are left to write.
use Prim.Native.Nat.{◌-◌}
use Rattle.sheet.specs.Views.{held}
use Rattle.write_tokenized.proofs.Turns.{Tokening}
use Rattle.write_tokenized.proofs.unchecked.tokenized_into.Given as goal

abbrev pub invariant-loop-t : goal.invariant-loop-t
invariant-loop-t l = Tokening l.sheet.record (held l.sheet) l.initial.out l.out l.n l.p l.some

abbrev pub decreases-loop-t : goal.decreases-loop-t
decreases-loop-t l = l.sheet.record.n - l.p
