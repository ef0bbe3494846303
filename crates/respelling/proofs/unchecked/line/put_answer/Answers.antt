-- `respelling::unchecked::line::put_answer` meets its contract.
use Rattle.respelling.proofs.Answers.{put_short, put_letters}
use borrow.Author.Rules.{rules}
use Rattle.respelling.proofs.unchecked.line.put_answer.Goals as goal

pub returns-then-line-lt2 : goal.returns-then-line-lt2
returns-then-line-lt2 c = record { puts = search put_short; upper_bound = search rules }

pub returns : goal.returns
returns c = record { puts = search put_letters; upper_bound = search rules }
