-- What scanning a line answers.
use Rattle.std.specs.Prelude.{ℕ, ◌-◌, List, ltb, length, Ok, Err}
use Rattle.laws.specs.If.{when◌then◌else◌}
use Rattle.utf8.specs.Utf8.{valid_prefix}
use Rattle.sentence.specs.Reading.{Run, whole, stopped, Result, sentence, refused}
use Rattle.sentence.specs.Refusals.{refusal}
use Rattle.sentence.specs.declared.Reason.{Reason}
use Rattle.sentence.specs.declared.Refusal.{Refusal}
use Rattle.sheet.specs.Layout.{record_of}
use Rattle.sheet.specs.Answers.{Answer}
use Rattle.read_counts.specs.declared.Counts.{Counts}
use Rattle.read_counts.specs.Counts.{tallies, counted}

-- a refusal for a reason, at a place
abbrev pub because : Reason → ℕ → Refusal
because q p = record { reason = q; place = p }

-- the record of the sentence read, or the refusal
unfoldable pub scanned : Result → Answer
scanned (sentence s) = Ok (record_of s)
scanned (refused n p) = Err (refusal n p)

-- what a run comes to that starts from these counts, on a line of n bytes
unfoldable pub told : ℕ → Counts → Run → Answer
told n k (whole l) = Ok (counted (tallies l k))
told n k (stopped e left) = Err (refusal e (n - left))

-- 2 comes before any other refusal of the line's characters
unfoldable pub or_invalid : List ℕ → Answer → Answer
or_invalid x a = when ltb (valid_prefix x) (length x) then Err (refusal 2 (valid_prefix x)) else a
