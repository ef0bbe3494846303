-- `write_partial::unchecked::rest_len` meets its contract.
use native.Mathlib.Omega.{arith}
use borrow.Author.Rules.{rules}
use Rattle.sheet.proofs.Look.{stretch_left}
use Rattle.write_partial.proofs.Asks.{rest_facts, slice_within}
use Rattle.write_partial.proofs.unchecked.rest_len.Goals as goal

pub text_len-bytes-requires : goal.text_len-bytes-requires
text_len-bytes-requires c = let f = rest_facts c.args.sheet.now c.args.columns c.args.from c.args.last c.requires.0 c.requires.1 c.requires.2 in (f.first_in, f.last_in, f.climbs)

pub count_slashes-slashes-requires : goal.count_slashes-slashes-requires
count_slashes-slashes-requires c = let f = rest_facts c.args.sheet.now c.args.columns c.args.from c.args.last c.requires.0 c.requires.1 c.requires.2 in (f.less_lie, c.requires.2, c.requires.3, omega (arith, f.sum, c.requires.4))

pub bytes_before-to-requires : goal.bytes_before-to-requires
bytes_before-to-requires c = let f = rest_facts c.args.sheet.now c.args.columns c.args.from c.args.last c.requires.0 c.requires.1 c.requires.2 in f.cells

pub slice_bounds-escaped_len-count : goal.slice_bounds-escaped_len-count
slice_bounds-escaped_len-count c = let f = rest_facts c.args.sheet.now c.args.columns c.args.from c.args.last c.requires.0 c.requires.1 c.requires.2 in omega (arith, f.rises, c.bytes_before-to.ensures, c.bytes_before-start.ensures)

pub slice_bounds-escaped_len-start : goal.slice_bounds-escaped_len-start
slice_bounds-escaped_len-start c = let f = rest_facts c.args.sheet.now c.args.columns c.args.from c.args.last c.requires.0 c.requires.1 c.requires.2 in search (rules, slice_within _ _ f c.bytes_before-start.ensures c.bytes_before-to.ensures)

pub slice_bounds-escaped_len-end : goal.slice_bounds-escaped_len-end
slice_bounds-escaped_len-end c = let f = rest_facts c.args.sheet.now c.args.columns c.args.from c.args.last c.requires.0 c.requires.1 c.requires.2 in search (rules, slice_within _ _ f c.bytes_before-start.ensures c.bytes_before-to.ensures)

pub overflow_add-result-2 : goal.overflow_add-result-2
overflow_add-result-2 c = let f = rest_facts c.args.sheet.now c.args.columns c.args.from c.args.last c.requires.0 c.requires.1 c.requires.2 in omega (arith, f.sum, c.requires.4, c.count_slashes-slashes.ensures, c.text_len-bytes.ensures)

pub overflow_add-result-3 : goal.overflow_add-result-3
overflow_add-result-3 c = let f = rest_facts c.args.sheet.now c.args.columns c.args.from c.args.last c.requires.0 c.requires.1 c.requires.2 in omega (arith, f.sum, c.requires.4, c.count_slashes-slashes.ensures, c.text_len-bytes.ensures)

pub overflow_add-result-4 : goal.overflow_add-result-4
overflow_add-result-4 c = let f = rest_facts c.args.sheet.now c.args.columns c.args.from c.args.last c.requires.0 c.requires.1 c.requires.2 in omega (arith, rw (← (stretch_left c.args.sheet.now.tag_bytes.now c.bytes_before-start.result c.bytes_before-to.result), c.bytes_before-start.ensures, c.bytes_before-to.ensures) at c.escaped_len-tags.ensures, f.sum, c.requires.4, c.count_slashes-slashes.ensures, c.text_len-bytes.ensures)

pub returns : goal.returns
returns c = let f = rest_facts c.args.sheet.now c.args.columns c.args.from c.args.last c.requires.0 c.requires.1 c.requires.2 in omega (arith, rw (← (stretch_left c.args.sheet.now.tag_bytes.now c.bytes_before-start.result c.bytes_before-to.result), c.bytes_before-start.ensures, c.bytes_before-to.ensures) at c.escaped_len-tags.ensures, f.sum, c.count_slashes-slashes.ensures, c.text_len-bytes.ensures)
