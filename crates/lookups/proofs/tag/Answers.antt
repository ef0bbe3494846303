-- `lookups::tag` meets its contract.
use Rattle.sheet.proofs.Look.{refuses_13, found, refuses_14, serves}
use Rattle.lookups.specs.Answers.{tag_at}
use Rattle.lookups.proofs.Laws.{in_table}
use Rattle.lookups.proofs.tag.Goals as goal

pub returns-then-not-check : goal.returns-then-not-check
unfolding tag_at
returns-then-not-check c = refuses_13 _ _ _ _ _ _ c.check.ensures c.if-not-check.true

pub returns-then-row-r : goal.returns-then-row-r
unfolding tag_at
returns-then-row-r c =
    let f = found _ _ _ c.check.ensures c.if-not-check.false in
    refuses_14 f _ _ _ c.outside.ensures (rw (← f.limits.n_is, ← f.limits.columns_is) c.if-row-r.true)

pub tag-requires : goal.tag-requires
tag-requires c =
    let r = c.args.sheet.now.record in
    let t = in_table r.n c.args.row r.columns c.args.column c.if-row-r.false in
    ((found _ _ _ c.check.ensures c.if-not-check.false).sheet, t.0, t.1)

pub returns : goal.returns
unfolding tag_at
returns c =
    let f = found _ _ _ c.check.ensures c.if-not-check.false in
    serves f _ _ _ (rw (← f.limits.n_is, ← f.limits.columns_is) c.if-row-r.false) c.tag.ensures
