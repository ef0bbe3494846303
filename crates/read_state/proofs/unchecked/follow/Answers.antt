-- `read_state::unchecked::follow` meets its contract.
use Rattle.read_state.proofs.Steps.{hands_escaped, hands_literal, hands_mark, hands_slash, hands_back, hands_plain}
use Rattle.read_state.proofs.unchecked.follow.Goals as goal
use Rattle.read_state.proofs.unchecked.follow.Goals.{then-s-via-then-s, then-s-via-else-s+then-is_literal}

pub returns-then-s : goal.returns-then-s
returns-then-s c = elim c.then-s.branch [ then-s-via-then-s w ↦ search hands_escaped | then-s-via-else-s+then-is_literal w ↦ search hands_literal ]

pub returns-in-Mark : goal.returns-in-Mark
returns-in-Mark c = search hands_mark

pub returns-in-Slash : goal.returns-in-Slash
returns-in-Slash c = search hands_slash

pub returns-in-Back : goal.returns-in-Back
returns-in-Back c = search hands_back

pub returns-in-Plain : goal.returns-in-Plain
returns-in-Plain c = search hands_plain
