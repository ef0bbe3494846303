-- `sheet_check::is_char` meets its contract.
use Rattle.sheet_check.proofs.Steps.{char_nul, char_type, char_start, char_number, char_inner}
use Rattle.sheet_check.proofs.is_char.Goals as goal

pub returns-then-value-eq0 : goal.returns-then-value-eq0
returns-then-value-eq0 c = search char_nul

pub returns-then-kind-types : goal.returns-then-kind-types
returns-then-kind-types c = search char_type

pub returns-then-at-from : goal.returns-then-at-from
returns-then-at-from c = let start = rw c.from.ensures at c.if-at-from.true in search char_start

pub returns-then-i-from : goal.returns-then-i-from
returns-then-i-from c =
    let start = rw c.from.ensures at c.if-at-from.false in
    let number = rw c.from-2.ensures at c.if-i-from.true in
    search char_number

pub returns : goal.returns
returns c =
    let start = rw c.from.ensures at c.if-at-from.false in
    let number = rw c.from-2.ensures at c.if-i-from.false in
    search char_inner
