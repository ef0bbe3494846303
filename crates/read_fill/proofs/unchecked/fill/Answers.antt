-- `read_fill::unchecked::fill` meets its contract.
use native.Mathlib.Omega.{arith}
use borrow.Author.Rules.{rules}
use Rattle.read_counts.proofs.Spans.{Span}
use Rattle.read_fill.proofs.Laying.{lay_start, lay_stands, lay_small, lay_span, lay_some, lay_on, lay_turning, lay_go, lay_finishing, lay_done}
use Rattle.read_fill.proofs.unchecked.fill.Goals as goal
use Rattle.read_fill.proofs.unchecked.fill.Goals.{After-char_at-found}

pub loop-at-init : goal.loop-at-init
loop-at-init c = rw c.replace-own.ensures.value
    (record { laying = lay_start _ _ _ _ _ _ c.requires c.new-state.ensures c.new-counts.ensures; same_room = search rules })

pub char_at-found-requires : goal.char_at-found-requires
char_at-found-requires c = lay_stands c.loop-at.invariant.laying c.loop-at-test.true

-- the character that stands where the loop is
span : (c : After-char_at-found) → Span c.args.line.now c.loop-at.at c.char_at-found.result.len
span c = lay_span c.loop-at.invariant.laying c.char_at-found.ensures

pub overflow_add-end : goal.overflow_add-end
overflow_add-end c = omega (arith, span (goal.at.overflow_add-end c).After-char_at-found)

pub follow-stepped-requires : goal.follow-stepped-requires
follow-stepped-requires c = lay_some c.loop-at.invariant.laying c.char_at-found.ensures

pub unreachable-requires : goal.unreachable-requires
unreachable-requires c = lay_on c.loop-at.invariant.laying c.char_at-found.ensures _ c.follow-stepped.ensures _ c.in_default.is

pub slice_bounds-turn-end : goal.slice_bounds-turn-end
slice_bounds-turn-end c = omega (arith, span (goal.at.slice_bounds-turn-end c).After-char_at-found)

pub turn-requires : goal.turn-requires
turn-requires c = lay_turning c.loop-at.invariant.laying c.char_at-found.ensures _ c.follow-stepped.ensures c.in-Ok.is

pub tally-requires : goal.tally-requires
tally-requires c = (lay_small c.loop-at.invariant.laying, (span (goal.at.tally-requires c).After-char_at-found).few)

pub loop-at-smaller : goal.loop-at-smaller
loop-at-smaller c = omega (arith, span (goal.at.loop-at-smaller c).After-char_at-found)

pub loop-at-preserved : goal.loop-at-preserved
loop-at-preserved c = record {
  laying = lay_go c.loop-at.invariant.laying c.char_at-found.ensures _ c.follow-stepped.ensures c.in-Ok.is c.turn.ensures.stored c.tally.ensures;
  same_room = search rules;
}

pub finish-requires : goal.finish-requires
finish-requires c = lay_finishing c.loop-at.invariant.laying c.loop-at-test.false

pub returns-clause-filled : goal.returns-clause-filled
returns-clause-filled c = lay_done c.loop-at.invariant.laying c.loop-at-test.false c.finish.ensures.stored
