-- So far the list is filled with the tokens up to the cursor.
use Rattle.tokens.proofs.Lists.{Partway}
use Rattle.tokens.proofs.token_list.Given as goal

abbrev pub invariant-loop-place : goal.invariant-loop-place
invariant-loop-place l = Partway l.sheet.record.n l.sheet.boundaries.now l.initial.place-items l.place-index l.p l.place-items
