-- `write_partial::unchecked::before_len` meets its contract.
use mathlib.Core.Path.{ap}
use native.Mathlib.Omega.{arith}
use lib.ListN.{length}
use Rattle.write_partial.proofs.Asks.{before_none, before_facts}
use Rattle.write_partial.proofs.unchecked.before_len.Goals as goal

pub returns-then-start-eq0 : goal.returns-then-start-eq0
returns-then-start-eq0 c = ap length (before_none c.args.sheet.now c.args.columns c.args.start c.if-start-eq0.true)

pub text_len-bytes-requires : goal.text_len-bytes-requires
text_len-bytes-requires c = let f = before_facts c.args.sheet.now c.args.columns c.args.start c.if-start-eq0.false c.requires.0 c.requires.1 c.requires.2 in (f.first_in, f.start_in, f.climbs)

pub count_slashes-slashes-requires : goal.count_slashes-slashes-requires
count_slashes-slashes-requires c = let f = before_facts c.args.sheet.now c.args.columns c.args.start c.if-start-eq0.false c.requires.0 c.requires.1 c.requires.2 in (f.less_lie, omega arith, f.last_in, omega (arith, f.sum, c.requires.3))

pub overflow_add-result-2 : goal.overflow_add-result-2
overflow_add-result-2 c = let f = before_facts c.args.sheet.now c.args.columns c.args.start c.if-start-eq0.false c.requires.0 c.requires.1 c.requires.2 in omega (arith, f.sum, c.requires.3, c.row_count-listed.ensures, c.count_slashes-slashes.ensures, c.text_len-bytes.ensures)

pub overflow_add-result-3 : goal.overflow_add-result-3
overflow_add-result-3 c = let f = before_facts c.args.sheet.now c.args.columns c.args.start c.if-start-eq0.false c.requires.0 c.requires.1 c.requires.2 in omega (arith, f.sum, c.requires.3, c.row_count-listed.ensures, c.count_slashes-slashes.ensures, c.text_len-bytes.ensures)

pub overflow_add-result-4 : goal.overflow_add-result-4
overflow_add-result-4 c = let f = before_facts c.args.sheet.now c.args.columns c.args.start c.if-start-eq0.false c.requires.0 c.requires.1 c.requires.2 in omega (arith, rw c.bytes_before-to.ensures at c.escaped_len-tags.ensures, f.sum, c.requires.3, c.row_count-listed.ensures, c.count_slashes-slashes.ensures, c.text_len-bytes.ensures)

pub returns : goal.returns
returns c = let f = before_facts c.args.sheet.now c.args.columns c.args.start c.if-start-eq0.false c.requires.0 c.requires.1 c.requires.2 in omega (arith, rw c.bytes_before-to.ensures at c.escaped_len-tags.ensures, f.sum, c.row_count-listed.ensures, c.count_slashes-slashes.ensures, c.text_len-bytes.ensures)
