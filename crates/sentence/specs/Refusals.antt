-- The refusals of a call, in their order. Which is given is the first whose test is true.
use Rattle.std.specs.Prelude.{ℕ, ◌+◌, ◌-◌, ◌*◌, ◌^◌, ◌<◌, Bool, true, List, [], ◌∷◌, get_or, Ok, Err}
use Rattle.laws.specs.If.{when◌then◌else◌}
use Rattle.sentence.specs.declared.Refusal.{Refusal}
use Rattle.sentence.specs.declared.Reason.{Reason}
use Rattle.sentence.specs.declared.Reason.TheVariants.{TooLong, NotUtf8, NoCharacter, Nul, LeadingSpace, SecondSpace, StraySlash, TrailingSpace}
use Rattle.sentence.specs.declared.Reason.TheVariants.{BadMark, TrailingMark, NoRoom, Short, NoSheet, Outside, NoBlankRoom, NoForm}
use Rattle.std.specs.Prelude as prelude
use Rattle.sentence.specs.declared.Form.{Form}
use Rattle.sentence.specs.Forms.{no_reader, no_writer, form_of}
use Rattle.sentence.specs.Sentence.{Sentence}
use Rattle.sentence.specs.Reading.{Result, sentence, refused}

-- the reasons in the order of their numbers, from 1 on
abbrev pub reasons : List Reason
reasons =
    TooLong ∷ NotUtf8 ∷ NoCharacter ∷ Nul ∷ LeadingSpace ∷ SecondSpace ∷ StraySlash ∷ TrailingSpace
    ∷ BadMark ∷ TrailingMark ∷ NoRoom ∷ Short ∷ NoSheet ∷ Outside ∷ NoBlankRoom ∷ NoForm ∷ []

-- the reason of a number, and the number of a reason
abbrev pub reason_of : ℕ → Reason
reason_of n = get_or reasons (n - 1) NoForm

abbrev pub reason_number : Reason → ℕ
reason_number TooLong = 1
reason_number NotUtf8 = 2
reason_number NoCharacter = 3
reason_number Nul = 4
reason_number LeadingSpace = 5
reason_number SecondSpace = 6
reason_number StraySlash = 7
reason_number TrailingSpace = 8
reason_number BadMark = 9
reason_number TrailingMark = 10
reason_number NoRoom = 11
reason_number Short = 12
reason_number NoSheet = 13
reason_number Outside = 14
reason_number NoBlankRoom = 15
reason_number NoForm = 16

-- a number and its place
abbrev pub refusal : ℕ → ℕ → Refusal
refusal n p = record { reason = reason_of n; place = p }

-- the number of a refusal
abbrev pub number : Refusal → ℕ
number r = reason_number r.reason

-- a refusal as the host's number: 2^63 plus 256 times its place plus its number
unfoldable pub refusal_code : Refusal → ℕ
refusal_code r = 2 ^ 63 + 256 * r.place + number r

-- its place is small, so that this number fits 64 bits
abbrev pub Near : Refusal → Type 0
Near r = r.place < 2 ^ 32

-- the form to read and the form to write of a number, or 16
unfoldable pub reader_of : ℕ → prelude.Result Form Refusal
reader_of n = when no_reader n then Err (refusal 16 0) else Ok (form_of n)

unfoldable pub writer_of : ℕ → prelude.Result Form Refusal
writer_of n = when no_writer n then Err (refusal 16 0) else Ok (form_of n)

-- a test, and the number and place of the refusal where it is true
pub data Check : Type 0 where
  check : Bool → ℕ → ℕ → Check

-- the answer of a call that makes these checks before it serves
unfoldable pub verdict : {A : Type 0} → (Refusal → A) → List Check → A → A
verdict refuse [] served = served
verdict refuse (check b n p ∷ cs) served = when b then refuse (refusal n p) else verdict refuse cs served

-- a call on a sheet: 13; 14, at the first number given; 12, at the length needed
abbrev pub sheet_order : Bool → Bool → ℕ → Bool → ℕ → List Check
sheet_order broken outside first short needed = check broken 13 0 ∷ check outside 14 first ∷ check short 12 needed ∷ []

-- a reader: 1 to 10 by what the line reads to, then 11
unfoldable pub reader_order : {A : Type 0} → (Refusal → A) → (Sentence → Bool) → (Sentence → A) → Result → A
reader_order refuse lacks serve (refused n p) = refuse (refusal n p)
reader_order refuse lacks serve (sentence s) = verdict refuse (check (lacks s) 11 0 ∷ []) (serve s)

-- an update: 15 before what its reader refuses
unfoldable pub update_order : {A : Type 0} → (Refusal → A) → Bool → (Sentence → Bool) → (Sentence → A) → Result → A
update_order refuse small lacks serve r = verdict refuse (check small 15 0 ∷ []) (reader_order refuse lacks serve r)

-- the host's call: 16, 14, what the reader refuses, 11, then 12 at the length needed
unfoldable pub host_order : {A : Type 0} → (Refusal → A) → Bool → Bool → (Sentence → Bool) → (Sentence → Bool) → (Sentence → ℕ) → (Sentence → A) → Result → A
host_order refuse unknown outside lacks short needed serve (refused n p) =
    verdict refuse (check unknown 16 0 ∷ check outside 14 0 ∷ check true n p ∷ []) (refuse (refusal n p))
host_order refuse unknown outside lacks short needed serve (sentence s) =
    verdict refuse (check unknown 16 0 ∷ check outside 14 0 ∷ check (lacks s) 11 0 ∷ check (short s) 12 (needed s) ∷ []) (serve s)
