-- A line is refused by numbers that reasons have, so the refusal that tells it has that number. Assumes nothing.
use Prim.Native.Nat.{ℕ}
use mathlib.Core.Path.{◌≡◌, refl, sym}
use mathlib.Core.List.{List, [], ◌∷◌}
use lib.Dec.{eqb, ltb}
use lib.ListN.{length}
use Rattle.laws.specs.If.{if_cases}
use Rattle.utf8.specs.Utf8.{valid_prefix, scalars, size}
use Rattle.sentence.specs.declared.Form.{Form}
use Rattle.sentence.specs.declared.Form.TheVariants.{Raw as raw, Tokenized as tokenized, Partial as partial}
use Rattle.sentence.specs.Reading.{Kind, mark, slash, back, plain, kind, Place, start, behind, in_tag, gap, State, at, escaped, Act, Step, go, stop, ordinary, inside, opening, step, advance}
use Rattle.sentence.specs.Reading.{Run, whole, stopped, unfinished, ending, finish, push, follow, run, over, next, Parsed, parsed, gather, Result, sentence, refused, built, placed, read}
use Rattle.sentence.specs.Refusals.{reason_of, reason_number, refusal, number}

abbrev Named : ℕ → Type 0
Named e = reason_number (reason_of e) ≡ e

abbrev StepNamed : Step → Type 0
StepNamed (go σ a) = Unit {0}
StepNamed (stop e) = Named e

abbrev RunNamed : Run → Type 0
RunNamed (whole l) = Unit {0}
RunNamed (stopped e left) = Named e

abbrev ResultNamed : Result → Type 0
ResultNamed (sentence s) = Unit {0}
ResultNamed (refused n p) = Named n

ordinary_named : (f : Form) (p : Place) (c : ℕ) → StepNamed (ordinary f p c)
unfolding ordinary
ordinary_named f start c = tt
ordinary_named f (gap m) c = tt
ordinary_named f in_tag c = tt
ordinary_named raw behind c = tt
ordinary_named tokenized behind c = tt
ordinary_named partial behind c = refl

inside_named : (f : Form) (p : Place) (k : Kind) (c : ℕ) → StepNamed (inside f p k c)
unfolding inside
inside_named f p (mark m) c = tt
inside_named f p slash c = tt
inside_named f p back c = tt
inside_named f p plain c = ordinary_named f p c

opening_named : (e : ℕ) (p : Place) (k : Kind) (c : ℕ) → Named e → StepNamed (opening e p k c)
unfolding opening
opening_named e p (mark m) c h = h
opening_named e p slash c h = refl
opening_named e p back c h = tt
opening_named e p plain c h = ordinary_named tokenized p c

step_named : (f : Form) (σ : State) (k : Kind) (c : ℕ) → StepNamed (step f σ k c)
unfolding step
step_named f (escaped p) k c = ordinary_named f p c
step_named f (at behind) k c = inside_named f behind k c
step_named f (at in_tag) k c = inside_named f in_tag k c
step_named raw (at start) k c = ordinary_named raw start c
step_named raw (at (gap m)) k c = ordinary_named raw (gap m) c
step_named partial (at start) k c = ordinary_named partial start c
step_named partial (at (gap m)) k c = ordinary_named partial (gap m) c
step_named tokenized (at start) k c = opening_named 5 start k c refl
step_named tokenized (at (gap m)) k c = opening_named 6 (gap m) k c refl

-- each step of a reader, and the line's end
pub advance_named : (f : Form) (σ : State) (c : ℕ) → StepNamed (advance f σ c)
unfolding advance
advance_named f σ c = if_cases StepNamed (eqb c 0) _ _ (λ _. refl) (λ _. step_named f σ (kind f c) c)

ending_named : (f : Form) (p : Place) → RunNamed (ending f p)
unfolding ending unfinished
ending_named f start = refl
ending_named f behind = tt
ending_named f in_tag = tt
ending_named raw (gap m) = refl
ending_named tokenized (gap m) = refl
ending_named partial (gap m) = refl

pub finish_named : (f : Form) (σ : State) → RunNamed (finish f σ)
unfolding finish
finish_named f (at p) = ending_named f p
finish_named f (escaped p) = ending_named f p

push_named : (a : Act) (r : Run) → RunNamed r → RunNamed (push a r)
unfolding push
push_named a (whole l) h = tt
push_named a (stopped e left) h = h

follow_named : (s : Step) (onward : State → Run) (left : ℕ) → StepNamed s → ((σ : State) → RunNamed (onward σ)) → RunNamed (follow s onward left)
unfolding follow
follow_named (go σ a) onward left h g = push_named a (onward σ) (g σ)
follow_named (stop e) onward left h g = h

run_named : (f : Form) (σ : State) (x : List ℕ) → RunNamed (run f σ x)
unfolding run
run_named f σ [] = finish_named f σ
run_named f σ (c ∷ x) = follow_named (advance f σ c) _ _ (advance_named f σ c) (λ τ. run_named f τ x)

built_named : (p : Parsed) → ResultNamed (built p)
unfolding built
built_named (parsed t ts n (next m s)) = tt
built_named (parsed t ts n over) = refl

placed_named : (n : ℕ) (r : Run) → RunNamed r → ResultNamed (placed n r)
unfolding placed
placed_named n (whole l) h = built_named (gather l)
placed_named n (stopped e left) h = h

read_named : (f : Form) (x : List ℕ) → ResultNamed (read f x)
unfolding read
read_named f x =
    if_cases ResultNamed (ltb 4096 (length x)) _ _ (λ _. refl)
    (λ _. if_cases ResultNamed (ltb (valid_prefix x) (length x)) _ _ (λ _. refl)
    (λ _. placed_named (length x) (run f (at start) (scalars x)) (run_named f (at start) (scalars x))))

-- the number of a refused line is that of the refusal that tells it
pub read_number : (f : Form) (x : List ℕ) (n p : ℕ) → read f x ≡ refused n p → number (refusal n p) ≡ n
read_number f x n p e = rw e at (read_named f x)
