-- `write_items::unchecked::row_len` meets its contract.
use native.Mathlib.Omega.{arith}
use borrow.Author.Rules.{rules}
use Rattle.sheet.proofs.Look.{stretch_left}
use Rattle.write_items.proofs.Lengths.{row_bytes_lem, row_room, row_long}
use Rattle.write_items.proofs.unchecked.row_len.Goals as goal

pub slice_bounds-escaped_len-count : goal.slice_bounds-escaped_len-count
slice_bounds-escaped_len-count c =
    let b = row_bytes_lem _ _ c.args.sheet.now.tag_bytes.now c.args.sheet.now.record.columns c.args.i c.bytes_to-from.ensures c.bytes_to-to.ensures c.requires.0 in
    omega (arith, b.0)

pub slice_bounds-escaped_len-start : goal.slice_bounds-escaped_len-start
slice_bounds-escaped_len-start c =
    let b = row_bytes_lem _ _ c.args.sheet.now.tag_bytes.now c.args.sheet.now.record.columns c.args.i c.bytes_to-from.ensures c.bytes_to-to.ensures c.requires.0 in
    search (rules, b.0)

pub overflow_add-result : goal.overflow_add-result
overflow_add-result c =
    row_room _ _ c.args.sheet.now.tag_bytes.now _ _ c.bytes_to-from.ensures c.bytes_to-to.ensures c.requires.0 (rw (← (stretch_left c.args.sheet.now.tag_bytes.now c.bytes_to-from.result c.bytes_to-to.result)) at c.escaped_len.ensures) c.requires.1

pub returns : goal.returns
returns c =
    row_long _ _ c.args.sheet.now.tag_bytes.now _ _ c.bytes_to-from.ensures c.bytes_to-to.ensures c.requires.0 (rw (← (stretch_left c.args.sheet.now.tag_bytes.now c.bytes_to-from.result c.bytes_to-to.result)) at c.escaped_len.ensures)
