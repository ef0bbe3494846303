-- One step of the definitions' reader, by what the code tests first. Assumes nothing.
use Rattle.std.specs.Prelude.{Ok, Err}
use Prim.Native.Nat.{ℕ}
use mathlib.Core.Path.{◌≡◌, refl, sym, ◌∙◌}
use mathlib.Core.Bool.{Bool, true, false}
use borrow.Author.Tests.{ne_eqb}
use lib.Dec.{eqb}
use Rattle.laws.specs.If.{when◌then◌else◌, if_both}
use Rattle.sentence.specs.Sentence as sentence
use Rattle.sentence.specs.Refusals.{reason_of}
use Rattle.sentence.specs.declared.Reason.{Reason}
use Rattle.sentence.specs.declared.Form.{Form}
use Rattle.sentence.specs.declared.Form.TheVariants.{Raw as raw, Tokenized as tokenized, Partial as partial}
use Rattle.sentence.specs.Reading as reading
use Rattle.sentence.specs.Reading.{Kind, mark, slash, back, plain, start, behind, in_tag, gap, at, escaped, go, stop}
use Rattle.sentence.specs.Reading.{kind, ordinary, inside, opening, step, advance, finish, ending}
use Rattle.sentence.proofs.Shape.{StepOf, step_of}
use Rattle.read_state.specs.declared.State.{State}
use Rattle.read_state.specs.declared.Mark.{Mark}
use Rattle.read_state.specs.declared.Act.{Act}
use Rattle.read_state.specs.declared.Stepped.{Stepped}
use Rattle.read_state.specs.declared.Kind as kinds
use Rattle.read_state.specs.States.{mark_of, kind_in, place_of, state_of, state_in, act_in, act_of, stepped, literal}
use Rattle.read_state.proofs.Enums.{kind_is, act_back, state_back}

-- ---- a step, by what the code tests first
step_literal : (f : Form) (p : reading.Place) (k : Kind) (c : ℕ) → literal f p ≡ true → step f (at p) k c ≡ ordinary f p c
unfolding step
step_literal raw start k c h = refl
step_literal raw (gap m) k c h = refl
step_literal raw behind k c h = cc
step_literal raw in_tag k c h = cc
step_literal tokenized p k c h = cc
step_literal partial start k c h = refl
step_literal partial (gap m) k c h = refl
step_literal partial behind k c h = cc
step_literal partial in_tag k c h = cc

step_plain : (f : Form) (p : reading.Place) (c : ℕ) → step f (at p) plain c ≡ ordinary f p c
unfolding step inside opening
step_plain f behind c = refl
step_plain f in_tag c = refl
step_plain raw start c = refl
step_plain raw (gap m) c = refl
step_plain tokenized start c = refl
step_plain tokenized (gap m) c = refl
step_plain partial start c = refl
step_plain partial (gap m) c = refl

-- a boundary, a slash or a backslash that is not taken literally is what it is in the tokenized form
data Meant : Kind → Type 0 where
  a_mark : {m : sentence.Mark} → Meant (mark m)
  a_slash : Meant slash
  a_back : Meant back

opening_meant : (e : ℕ) (p : reading.Place) {k : Kind} (c : ℕ) → Meant k → opening e p k c ≡ opening e p k 0
unfolding opening
opening_meant e p c a_mark = refl
opening_meant e p c a_slash = refl
opening_meant e p c a_back = refl

inside_meant : (f : Form) (p : reading.Place) {k : Kind} (c : ℕ) → Meant k → inside f p k c ≡ inside tokenized p k 0
unfolding inside
inside_meant f p c a_mark = refl
inside_meant f p c a_slash = refl
inside_meant f p c a_back = refl

step_meant : (f : Form) (p : reading.Place) {k : Kind} (c : ℕ) → Meant k → literal f p ≡ false → step f (at p) k c ≡ step tokenized (at p) k 0
unfolding step
step_meant raw start c w h = cc
step_meant raw (gap m) c w h = cc
step_meant raw behind c w h = inside_meant raw behind c w
step_meant raw in_tag c w h = inside_meant raw in_tag c w
step_meant tokenized start c w h = opening_meant 5 start c w
step_meant tokenized (gap m) c w h = opening_meant 6 (gap m) c w
step_meant tokenized behind c w h = inside_meant tokenized behind c w
step_meant tokenized in_tag c w h = inside_meant tokenized in_tag c w
step_meant partial start c w h = cc
step_meant partial (gap m) c w h = cc
step_meant partial behind c w h = inside_meant partial behind c w
step_meant partial in_tag c w h = inside_meant partial in_tag c w

-- ---- a character that is not NUL; the premises are as `follow` has them
module _ (s : State) (f : Form) (c : ℕ) (r : Stepped) (z : c ≡ 0 → ⊥) where
  advance_escaped : s.escape ≡ true → advance f (state_of s) c ≡ ordinary f (place_of s.place) c
  unfolding advance state_of step when◌then◌else◌
  advance_escaped h = rw (ne_eqb c 0 z, h)

  advance_at : s.escape ≡ false → advance f (state_of s) c ≡ step f (at (place_of s.place)) (kind f c) c
  unfolding advance state_of when◌then◌else◌
  advance_at h = rw (ne_eqb c 0 z, h)

  pub hands_escaped : s.escape ≡ true → ((d : ℕ) → r ≡ stepped (ordinary f (place_of s.place) d)) → r ≡ stepped (advance f (state_of s) c)
  hands_escaped h e = rw (advance_escaped h) (e c)

  pub hands_literal : (l : Bool) → s.escape ≡ false → l ≡ literal f (place_of s.place) → l ≡ true
      → ((d : ℕ) → r ≡ stepped (ordinary f (place_of s.place) d)) → r ≡ stepped (advance f (state_of s) c)
  hands_literal l h p q e = rw (advance_at h, step_literal f (place_of s.place) (kind f c) c (sym p ∙ q)) (e c)

  module _ (k : kinds.Kind) (h : s.escape ≡ false) (p : k ≡ kind_in (kind f c)) where
    pub hands_plain : k ≡ kinds.TheVariants.Plain → ((d : ℕ) → r ≡ stepped (ordinary f (place_of s.place) d)) → r ≡ stepped (advance f (state_of s) c)
    hands_plain q e = rw (advance_at h, kind_is (kind f c) k _ p q, step_plain f (place_of s.place) c) (e c)

    module _ (l : Bool) (n : l ≡ literal f (place_of s.place)) (g : l ≡ false) where
      meant : {m : Kind} → Meant m → kind f c ≡ m → r ≡ stepped (step tokenized (at (place_of s.place)) m 0) → r ≡ stepped (advance f (state_of s) c)
      meant w i e = rw (advance_at h, i, step_meant f (place_of s.place) c w (sym n ∙ g)) e

      pub hands_mark : (m : Mark) → k ≡ kinds.TheVariants.Mark m → r ≡ stepped (step tokenized (at (place_of s.place)) (mark (mark_of m)) 0)
          → r ≡ stepped (advance f (state_of s) c)
      hands_mark m q e = meant a_mark (kind_is (kind f c) k _ p q) e

      pub hands_slash : k ≡ kinds.TheVariants.Slash → r ≡ stepped (step tokenized (at (place_of s.place)) slash 0)
          → r ≡ stepped (advance f (state_of s) c)
      hands_slash q e = meant a_slash (kind_is (kind f c) k _ p q) e

      pub hands_back : k ≡ kinds.TheVariants.Back → r ≡ stepped (step tokenized (at (place_of s.place)) back 0)
          → r ≡ stepped (advance f (state_of s) c)
      hands_back q e = meant a_back (kind_is (kind f c) k _ p q) e

-- ---- the line's end
pub finish_place : (f : Form) (s : State) → finish f (state_of s) ≡ ending f (place_of s.place)
unfolding finish state_of when◌then◌else◌
finish_place f s = on s.escape
  where
    on : (b : Bool) → finish f (when b then escaped (place_of s.place) else at (place_of s.place)) ≡ ending f (place_of s.place)
    on true = refl
    on false = refl

-- ---- what a step says of the definitions' step
pub advance_of : (f : Form) (σ : reading.State) (c : ℕ) → StepOf c (advance f σ c)
unfolding advance
advance_of f σ c = if_both (StepOf c) (eqb c 0) _ _ tt (step_of f σ (kind f c) c)

-- a refusal of the definitions' reader, with its reason
pub record Stops (s : reading.Step) (q : Reason) : Type 0 where
  pub number : ℕ
  pub is : s ≡ stop number
  pub reason : q ≡ reason_of number

module _ (c : ℕ) (s : State) (r : Stepped) where
  steps_on : (a : Act) (e : reading.Step) → StepOf c e → r ≡ stepped e → r.act ≡ Ok a → e ≡ go (state_of r.state) (act_of c a)
  steps_on a (go σ b) o w i =
      let u : Ok (act_in b) ≡ Ok a = rw w at i in
      let j : a ≡ act_in b = cc in
      rw (w, j, state_back σ, act_back c b o)
  steps_on a (stop n) o w i = let u : Err (reason_of n) ≡ Ok a = rw w at i in cc

  steps_off : (q : Reason) (e : reading.Step) → r ≡ stepped e → r.act ≡ Err q → Stops e q
  steps_off q (go σ b) w i = let u : Ok (act_in b) ≡ Err q = rw w at i in cc
  steps_off q (stop n) w i = let u : Err (reason_of n) ≡ Err q = rw w at i in record { number = n; is = refl; reason = cc }

  pub advanced : (f : Form) (a : Act) → r ≡ stepped (advance f (state_of s) c) → r.act ≡ Ok a
      → advance f (state_of s) c ≡ go (state_of r.state) (act_of c a)
  advanced f a w i = steps_on a (advance f (state_of s) c) (advance_of f (state_of s) c) w i

  pub refused : (f : Form) (q : Reason) → r ≡ stepped (advance f (state_of s) c) → r.act ≡ Err q → Stops (advance f (state_of s) c) q
  refused f q w i = steps_off q (advance f (state_of s) c) w i
