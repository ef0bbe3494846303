-- `write_items::unchecked::tags_into` meets its contract. The invariant: the tags from the j-th cell on are left to write.
use borrow.Author.Rules.{rules}
use Rattle.write_items.proofs.Tags.{tagging}
use Rattle.write_items.proofs.unchecked.tags_into.Goals as goal

pub bounds-out-n : goal.bounds-out-n
bounds-out-n c = search (tagging, rules)

pub copy_escaped-n-requires : goal.copy_escaped-n-requires
copy_escaped-n-requires c = search (tagging, rules)

pub loop-j-preserved : goal.loop-j-preserved
loop-j-preserved c = search (tagging, rules)

pub returns : goal.returns
returns c = search (tagging, rules)
