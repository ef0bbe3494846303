-- `lookups::surface` meets its contract.
use Rattle.sheet.proofs.Look.{refuses_13, found, refuses_14, serves}
use Rattle.lookups.specs.Answers.{surface_at}
use Rattle.lookups.proofs.Laws.{in_text}
use Rattle.lookups.proofs.surface.Goals as goal

pub returns-then-not-check : goal.returns-then-not-check
unfolding surface_at
returns-then-not-check c = refuses_13 _ _ _ _ _ _ c.check.ensures c.if-not-check.true

pub returns-then-start-end : goal.returns-then-start-end
unfolding surface_at
returns-then-start-end c =
    let f = found _ _ _ c.check.ensures c.if-not-check.false in
    refuses_14 f _ _ _ c.outside.ensures (rw (← f.limits.n_is) c.if-start-end.true)

pub surface-requires : goal.surface-requires
surface-requires c =
    let t = in_text c.args.sheet.now.record.n c.args.start c.args.end c.if-start-end.false in
    ((found _ _ _ c.check.ensures c.if-not-check.false).sheet, t.0, t.1)

pub returns : goal.returns
unfolding surface_at
returns c =
    let f = found _ _ _ c.check.ensures c.if-not-check.false in
    serves f _ _ _ (rw (← f.limits.n_is) c.if-start-end.false) c.surface.ensures
