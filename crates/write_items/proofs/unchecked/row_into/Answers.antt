-- `write_items::unchecked::row_into` meets its contract.
use Rattle.write_items.proofs.Cells.{count_end}
use Rattle.write_items.proofs.Tags.{row_tags, row_rest, row_padded, row_full}
use Rattle.write_items.proofs.unchecked.row_into.Goals as goal

pub overflow_add-k : goal.overflow_add-k
overflow_add-k c = count_end c.args.sheet.now.record.columns c.args.i c.requires.0.cells c.row_count-listed.ensures

pub tags_into-n-requires : goal.tags_into-n-requires
tags_into-n-requires c = row_tags _ c.args.columns _ _ _ c.args.sheet.now.record.columns c.args.i c.row_count-listed.ensures c.args.out.now _ c.requires.1 c.requires.0

pub repeat-requires : goal.repeat-requires
repeat-requires c = row_rest _ _ _ _ _ c.args.sheet.now.record.columns c.args.i c.row_count-listed.ensures c.args.out.now _ c.requires.1 c.tags_into-n.ensures

pub returns-then-listed-columns : goal.returns-then-listed-columns
returns-then-listed-columns c = search row_padded

pub returns : goal.returns
returns c = search row_full
