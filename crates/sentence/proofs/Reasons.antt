-- A reason and its number. Assumes nothing.
use mathlib.Core.Path.{◌≡◌, refl, sym, ap, ◌∙◌}
use Rattle.sentence.specs.declared.Reason.{Reason}
use Rattle.sentence.specs.declared.Reason.TheVariants.{TooLong, NotUtf8, NoCharacter, Nul, LeadingSpace, SecondSpace, StraySlash, TrailingSpace}
use Rattle.sentence.specs.declared.Reason.TheVariants.{BadMark, TrailingMark, NoRoom, Short, NoSheet, Outside, NoBlankRoom, NoForm}
use Rattle.sentence.specs.Refusals.{reason_of, reason_number}

-- the reason of a reason's number is that reason
pub reason_back : (a : Reason) → reason_of (reason_number a) ≡ a
reason_back TooLong = refl
reason_back NotUtf8 = refl
reason_back NoCharacter = refl
reason_back Nul = refl
reason_back LeadingSpace = refl
reason_back SecondSpace = refl
reason_back StraySlash = refl
reason_back TrailingSpace = refl
reason_back BadMark = refl
reason_back TrailingMark = refl
reason_back NoRoom = refl
reason_back Short = refl
reason_back NoSheet = refl
reason_back Outside = refl
reason_back NoBlankRoom = refl
reason_back NoForm = refl

-- so two reasons with one number are one
pub reason_apart : (a b : Reason) → reason_number a ≡ reason_number b → a ≡ b
reason_apart a b e = sym (reason_back a) ∙ (ap reason_of e ∙ reason_back b)
