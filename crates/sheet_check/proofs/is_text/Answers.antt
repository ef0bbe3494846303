-- `sheet_check::is_text` meets its contract.
use Rattle.sheet_check.proofs.Says.{few_starts, few_numbers}
use Rattle.sheet_check.proofs.is_text.Goals as goal

pub returns-then-char_pos-types : goal.returns-then-char_pos-types
returns-then-char_pos-types c = search few_starts

pub returns-then-byte_pos-text : goal.returns-then-byte_pos-text
returns-then-byte_pos-text c = search few_numbers
