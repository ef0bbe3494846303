-- What closes a `returns` of a function whose contract is an `if .. then .. else ..` over the tests of its branches: `search tests`. Assumes nothing.
use mathlib.Core.Path.{◌≡◌, sym, ◌∙◌}
use mathlib.Core.Bool.{Bool}
use borrow.Author.Tests.{eq-eqb, ne_eqb, le-leb, lt-leb, lt-ltb, le-ltb}
use Rattle.laws.specs.If.{if_true, if_false}

-- a callee's result r was tested, and is b by the callee's contract
pub of_call : (r t b : Bool) → r ≡ b → r ≡ t → b ≡ t
of_call r t b p q = sym p ∙ q

-- the same of any value: two things that a result is are the same
pub met {ℓ} : {A : Type ℓ} (r b t : A) → r ≡ b → r ≡ t → b ≡ t
met r b t p q = sym p ∙ q

pub ruleset tests = (if_true, if_false, eq-eqb, ne_eqb, le-leb, lt-leb, lt-ltb, le-ltb, of_call)
