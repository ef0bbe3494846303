-- Each number has a type, so its code is one.
use borrow.Author.Rules.{rules}
use Rattle.types.proofs.Laws.{has_code}
use Rattle.types.proofs.CharacterType.get_type.Goals as goal

pub of_code-requires : goal.of_code-requires
of_code-requires c = search (has_code, rules)
