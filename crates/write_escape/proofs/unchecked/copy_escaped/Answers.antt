-- `write_escape::unchecked::copy_escaped` meets its contract. The invariant: what is left to write is the slice from there on, escaped.
use borrow.Author.Rules.{rules}
use Rattle.write_escape.specs.Wrote.{write_byte, write_two, writes}
use Rattle.write_escape.proofs.Bytes.{escape_meant, escape_plain, escapes, escape_room, escape_room_2}
use Rattle.write_escape.proofs.unchecked.copy_escaped.Goals.{then-has_meaning, else-has_meaning}
use Rattle.write_escape.proofs.unchecked.copy_escaped.Goals as goal

pub bounds-out-n : goal.bounds-out-n
bounds-out-n c = search (escape_room_2, rules)

pub bounds-out-n-then-has_meaning : goal.bounds-out-n-then-has_meaning
bounds-out-n-then-has_meaning c = search (escape_room_2, rules)

pub bounds-out-n-else-has_meaning : goal.bounds-out-n-else-has_meaning
bounds-out-n-else-has_meaning c = search (escape_room, rules)

pub loop-b-preserved : goal.loop-b-preserved
loop-b-preserved c = elim c.if-has_meaning.branch [
  | then-has_meaning w ↦
      rw (w.out-is, w.n-is) (write_two c.loop-b.invariant (escape_meant _ _ _ c.loop-b-test.true c.has_meaning.ensures w.if-has_meaning.true))
  | else-has_meaning w ↦
      rw (w.out-is, w.n-is) (write_byte c.loop-b.invariant (escape_plain _ _ _ c.loop-b-test.true c.has_meaning.ensures w.if-has_meaning.false))
]

pub returns : goal.returns
returns c = search (writes, escapes, rules)
