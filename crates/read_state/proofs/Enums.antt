-- The code's enums stand for the definitions' values: there and back. Assumes nothing.
use Prim.Native.Nat.{ℕ}
use mathlib.Core.Path.{◌≡◌, refl, sym, ap, ◌∙◌}
use Rattle.laws.specs.If.{when◌then◌else◌}
use Rattle.sentence.specs.Sentence as sentence
use Rattle.sentence.specs.Reading as reading
use Rattle.sentence.proofs.Shape.{ActOf}
use Rattle.read_state.specs.declared.Mark.{Mark}
use Rattle.read_state.specs.declared.Mark.TheVariants.{None, Word, Unknown}
use Rattle.read_state.specs.declared.Kind.{Kind}
use Rattle.read_state.specs.declared.Place.{Place}
use Rattle.read_state.specs.declared.Place.TheVariants.{Start, Behind, InTag, Gap}
use Rattle.read_state.specs.States.{mark_of, mark_in, kind_in, kind_of, place_of, place_in, state_of, state_in, act_in, act_of}

pub mark_back : (m : Mark) → mark_in (mark_of m) ≡ m
mark_back None = refl
mark_back Word = refl
mark_back Unknown = refl

mark_is : (m : sentence.Mark) → mark_of (mark_in m) ≡ m
mark_is sentence.none = refl
mark_is sentence.word = refl
mark_is sentence.unknown = refl

kind_back : (k : reading.Kind) → kind_of (kind_in k) ≡ k
kind_back (reading.mark m) = rw mark_is
kind_back reading.slash = refl
kind_back reading.back = refl
kind_back reading.plain = refl

-- the kind of a result that is told twice
pub kind_is : (k : reading.Kind) (r t : Kind) → r ≡ kind_in k → r ≡ t → k ≡ kind_of t
kind_is k r t p q = sym (kind_back k) ∙ ap kind_of (sym p ∙ q)

pub place_back : (p : Place) → place_in (place_of p) ≡ p
place_back Start = refl
place_back Behind = refl
place_back InTag = refl
place_back (Gap m) = rw mark_back

place_is : (p : reading.Place) → place_of (place_in p) ≡ p
place_is reading.start = refl
place_is reading.behind = refl
place_is reading.in_tag = refl
place_is (reading.gap m) = rw mark_is

-- what a character does, by the character
pub act_back : (c : ℕ) (a : reading.Act) → ActOf c a → act_of c (act_in a) ≡ a
act_back c reading.skip e = refl
act_back c (reading.letter m d) e = rw (mark_is, e)
act_back c reading.opens e = refl
act_back c (reading.of_tag d) e = rw e

pub state_back : (σ : reading.State) → state_of (state_in σ) ≡ σ
unfolding state_of when◌then◌else◌
state_back (reading.at p) = ap reading.at (place_is p)
state_back (reading.escaped p) = ap reading.escaped (place_is p)
