-- What is known of the records to fill makes each turn fill one, and the list the one that is promised.
use mathlib.Core.Path.{◌≡◌, sym, ◌∙◌}
use native.Mathlib.Omega.{arith}
use lib.ListN.{length-take}
use Rattle.std.proofs.lemmas.Result.{err_from_is_err_and}
use Rattle.sheet.specs.Views.{held}
use Rattle.tokens.proofs.Cursor.{following, counted_done}
use Rattle.tokens.proofs.Lists.{partway_start, partway_next, Fills, refused, fills, listed}
use Rattle.tokens.proofs.token_list.Goals as goal
use Rattle.tokens.proofs.token_list.Goals.{In_ok-count, in-Serves, in_default}

pub returns-in_err-count : goal.returns-in_err-count
returns-in_err-count c =
    let p = err_from_is_err_and c.from_residual.result c.from_residual.ensures.1 in
    rw (p.1, p.2) (refused _ _ _ _ (sym c.in_err-count.was ∙ c.needed.ensures))

known : (c : In_ok-count) → Fills c.args.sheet.now.record (held c.args.sheet.now) c.args.list.now c.in_ok-count.count
known c = fills _ _ _ _ (sym c.in_ok-count.was ∙ c.needed.ensures)

pub slice_bounds-place-items-end : goal.slice_bounds-place-items-end
slice_bounds-place-items-end c = omega (arith, known (goal.at.slice_bounds-place-items-end c).In_ok-count)

pub slice_bounds-place-items-end-2 : goal.slice_bounds-place-items-end-2
slice_bounds-place-items-end-2 c = let k = known (goal.at.slice_bounds-place-items-end-2 c).In_ok-count in sym (length-take _ _ ∙ omega arith)

pub loop-place-init : goal.loop-place-init
loop-place-init c = partway_start _ _ _

pub next_token-requires : goal.next_token-requires
next_token-requires c = (known (goal.at.next_token-requires c).In_ok-count).sheet

pub loop-place-preserved : goal.loop-place-preserved
loop-place-preserved c =
    let k = known (goal.at.loop-place-preserved c).In_ok-count in
    let i = c.loop-place.invariant in
    elim c.match-next_token.branch [
      | in-Serves w ↦ rw (w.p-is, w.place-items-is, w.from-p.ensures) (partway_next i (following _ k.sheet c.next_token.ensures w.in-Serves.is))
      | in_default w ↦
          let e = counted_done i.counted k.sheet c.next_token.ensures w.in_default.is in
          absurd (omega (arith, k.all, k.fits, length-take c.in_ok-count.count c.args.list.now))
    ]

pub returns : goal.returns
returns c =
    let k = known (goal.at.returns c).In_ok-count in
    let e : c.loop-place.place-index ≡ c.in_ok-count.count = omega (arith, k.fits, length-take c.in_ok-count.count c.args.list.now) in
    listed _ _ _ _ (sym c.in_ok-count.was ∙ c.needed.ensures) _ _ (rw e at c.loop-place.invariant)
