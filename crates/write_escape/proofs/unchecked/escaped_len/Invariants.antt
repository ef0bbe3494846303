-- `write_escape::unchecked::escaped_len` meets its contract.
-- The invariant: with what the slice takes from there on, n is the whole; a byte passed takes at most two.
use Rattle.write_escape.proofs.Bytes.{Counting}
use Rattle.write_escape.proofs.unchecked.escaped_len.Given as goal

abbrev pub invariant-loop-b : goal.invariant-loop-b
invariant-loop-b l = Counting l.form l.src l.b-index l.n
