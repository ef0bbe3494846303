-- `sheet::Record::in_limits` meets its contract.
use Rattle.sheet.proofs.Whole.{past_limits, product_small, limits_are_met}
use Rattle.sheet.proofs.Record.in_limits.Goals as goal

pub returns-then-not-self : goal.returns-then-not-self
returns-then-not-self c = search past_limits

pub overflow_mul-result : goal.overflow_mul-result
overflow_mul-result c = search product_small

pub returns : goal.returns
returns c = search limits_are_met
