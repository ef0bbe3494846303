-- The number and the letter of a form, and which form a number or a letter stands for.
use Rattle.std.specs.Prelude.{ℕ, zero, suc, ◌≡◌, refl, Bool, ◌||◌, eqb, ltb}
use Prim.Native.Char.{code as chr}
use Rattle.laws.specs.If.{when◌then◌else◌}
use Rattle.sentence.specs.declared.Form.{Form}
use Rattle.sentence.specs.declared.Form.TheVariants.{Raw as raw, Tokenized as tokenized, Partial as partial}

-- the number of a form
abbrev pub number_of : Form → ℕ
number_of raw = 0
number_of tokenized = 1
number_of partial = 2

-- the letter of a form
abbrev pub letter_of : Form → ℕ
letter_of raw = chr "R"
letter_of tokenized = chr "T"
letter_of partial = chr "P"

-- a number above 2 is no form
unfoldable pub no_reader : ℕ → Bool
no_reader n = ltb 2 n

-- and raw is no form to write
unfoldable pub no_writer : ℕ → Bool
no_writer n = eqb n (number_of raw) || no_reader n

-- the form of a number; a call refuses a number that is none before
unfoldable pub form_of : ℕ → Form
form_of zero = raw
form_of (suc zero) = tokenized
form_of (suc (suc n)) = partial

-- the form of a form's number is that form
pub form_of_number : (f : Form) → form_of (number_of f) ≡ f
unfolding form_of
form_of_number raw = refl
form_of_number tokenized = refl
form_of_number partial = refl

-- the number of a letter's form; 3 is no form
unfoldable pub letter : ℕ → ℕ
letter b =
    when eqb b (letter_of raw) then number_of raw
    else when eqb b (letter_of tokenized) then number_of tokenized
    else when eqb b (letter_of partial) then number_of partial
    else 3
