-- `utf8::char_of` meets its contract.
use borrow.Author.Tests.{lt-leb}
use Rattle.laws.specs.If.{when◌then◌else◌}
use Rattle.utf8.specs.Utf8.{char_of}
use Rattle.laws.proofs.Tests.{tests, of_call}
use Rattle.utf8.proofs.char_of.Goals as goal

pub returns-then-a-le127 : goal.returns-then-a-le127
unfolding char_of
returns-then-a-le127 c = search tests

pub returns-then-is_two : goal.returns-then-is_two
unfolding char_of when◌then◌else◌
returns-then-is_two c =
    rw (c.behind.ensures, c.from-then-is_two.ensures)
    (simp (of_call _ _ _ c.is_two.ensures c.if-is_two.true, lt-leb _ _ c.if-a-le127.false))

pub returns-then-is_three : goal.returns-then-is_three
unfolding char_of when◌then◌else◌
returns-then-is_three c =
    rw (c.behind-then-is_three-2.ensures, c.behind-then-is_three.ensures, c.from-then-is_three.ensures)
    (simp (
      of_call _ _ _ c.is_three.ensures c.if-is_three.true,
      of_call _ _ _ c.is_two.ensures c.if-is_two.false,
      lt-leb _ _ c.if-a-le127.false,
    ))

pub returns-then-is_four : goal.returns-then-is_four
unfolding char_of when◌then◌else◌
returns-then-is_four c =
    rw (c.behind-then-is_four-3.ensures, c.behind-then-is_four-2.ensures, c.behind-then-is_four.ensures, c.from-then-is_four.ensures)
    (simp (
      of_call _ _ _ c.is_four.ensures c.if-is_four.true,
      of_call _ _ _ c.is_three.ensures c.if-is_three.false,
      of_call _ _ _ c.is_two.ensures c.if-is_two.false,
      lt-leb _ _ c.if-a-le127.false,
    ))

pub returns : goal.returns
unfolding char_of
returns c = search tests
