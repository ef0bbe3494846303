-- `sentence::unchecked::refusal_code` meets its contract: places are small, so that the number fits.
use mathlib.Core.Path.{ap, ◌∙◌}
use Prim.Native.Nat.{◌+◌, ◌*◌, ◌^◌}
use Rattle.sentence.specs.Refusals.{refusal_code}
use Rattle.sentence.proofs.unchecked.refusal_code.Goals as goal

pub returns : goal.returns
unfolding refusal_code
returns c = ap (λ n. 2 ^ 63 + 256 * c.args.r.place + n) (c.from.ensures ∙ c.number.ensures)
