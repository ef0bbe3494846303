-- `write::write_withheld_text` meets its contract.
use Rattle.write.proofs.Laws.{sound, put_13}
use Rattle.write.proofs.Withheld.{withhold_14, withhold_asks, withhold_12, withhold_room, withhold_line}
use Rattle.write.proofs.write_withheld_text.Goals as goal

pub returns-then-not-check : goal.returns-then-not-check
returns-then-not-check c = put_13 _ _ _ _ _ _ c.check.ensures c.if-not-check.true

pub returns-then-no_range : goal.returns-then-no_range
returns-then-no_range c = withhold_14 _ _ _ _ _ c.check.ensures c.if-not-check.false c.no_range.ensures c.if-no_range.true c.outside.ensures

pub columns_shown-columns-requires : goal.columns_shown-columns-requires
columns_shown-columns-requires c = sound c.check.ensures c.if-not-check.false

pub shown_short-requires : goal.shown_short-requires
shown_short-requires c = withhold_asks _ _ _ _ c.args.out.now c.check.ensures c.if-not-check.false c.no_range.ensures c.if-no_range.false c.columns_shown-columns.ensures

pub returns-in-Some : goal.returns-in-Some
returns-in-Some c = withhold_12 _ _ _ _ _ c.check.ensures c.if-not-check.false c.no_range.ensures c.if-no_range.false c.columns_shown-columns.ensures c.shown_short.ensures c.in-Some.is c.short.ensures

pub shown_into-requires : goal.shown_into-requires
shown_into-requires c = withhold_room _ _ _ _ c.args.out.now c.check.ensures c.if-not-check.false c.no_range.ensures c.if-no_range.false c.columns_shown-columns.ensures c.shown_short.ensures c.in_default.is

pub returns : goal.returns
returns c = withhold_line _ _ _ _ _ c.check.ensures c.if-not-check.false c.no_range.ensures c.if-no_range.false c.columns_shown-columns.ensures c.shown_short.ensures c.in_default.is c.shown_into.ensures
