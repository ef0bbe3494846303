-- `sheet_check::is_cell` meets its contract.
use Rattle.sheet_check.proofs.Cells.{cell_elsewhere, cell_none, cell_past, cell_plain}
use Rattle.sheet_check.proofs.is_cell.Goals as goal

pub returns-then-from : goal.returns-then-from
returns-then-from c = let there = rw c.from.ensures at c.if-from.true in search cell_elsewhere

pub returns-then-len-eq0 : goal.returns-then-len-eq0
returns-then-len-eq0 c = let here = rw c.from.ensures at c.if-from.false in search cell_none

pub returns-then-to-bytes : goal.returns-then-to-bytes
returns-then-to-bytes c =
    let here = rw c.from.ensures at c.if-from.false in
    let past = rw c.from-2.ensures at c.if-to-bytes.true in
    search cell_past

pub returns : goal.returns
returns c =
    let here = rw c.from.ensures at c.if-from.false in
    let inside = rw c.from-2.ensures at c.if-to-bytes.false in
    let plain = rw c.from-2.ensures at c.is_plain.ensures in
    search cell_plain
