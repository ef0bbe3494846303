-- What follows in a line, as the lists that a sentence is made of. Assumes nothing.
use Prim.Native.Nat.{ℕ}
use mathlib.Core.Path.{◌≡◌, refl}
use mathlib.Core.Bool.{Bool, true, false}
use mathlib.Core.List.{List, [], ◌∷◌}
use lib.Dec.{eqb}
use Rattle.laws.specs.If.{when◌then◌else◌}
use Rattle.utf8.specs.Utf8.{size}
use Rattle.sentence.specs.Sentence.{Tag, Mark, text_of, marks_of, rows_of, cut}
use Rattle.sentence.specs.declared.Form.{Form}
use Rattle.sentence.specs.declared.Form.TheVariants.{Raw as raw, Tokenized as tokenized, Partial as partial}
use Rattle.sentence.specs.Reading.{Kind, mark, slash, back, plain, kind, Place, start, behind, in_tag, gap, State, at, escaped, Act, letter, Step, go, stop, ordinary, inside, opening, step, advance, Run, whole, stopped, ending, finish, push, follow, run, Rest, over, next, Parsed, parsed, before, add, gather}

-- the characters, the boundaries before them and their rows
unfoldable pub letters_in : Rest → List ℕ
letters_in over = []
letters_in (next m s) = text_of s

unfoldable pub marks_in : Rest → List Mark
marks_in over = []
marks_in (next m s) = m ∷ marks_of s

unfoldable pub rows_in : Rest → List (List Tag)
rows_in over = []
rows_in (next m s) = rows_of s

-- the same of a character before what follows
pub before_text : (c : ℕ) (ts : List Tag) (r : Rest) → text_of (before c ts r) ≡ c ∷ letters_in r
unfolding before text_of letters_in
before_text c ts over = refl
before_text c ts (next m s) = refl

pub before_marks : (c : ℕ) (ts : List Tag) (r : Rest) → marks_of (before c ts r) ≡ marks_in r
unfolding before marks_of marks_in
before_marks c ts over = refl
before_marks c ts (next m s) = refl

pub before_rows : (c : ℕ) (ts : List Tag) (r : Rest) → rows_of (before c ts r) ≡ cut ts ∷ rows_in r
unfolding before rows_of rows_in
before_rows c ts over = refl
before_rows c ts (next m s) = refl

-- ---- before any text there is no tag, and text follows
abbrev pub Fresh : Parsed → Type 0
Fresh (parsed t ts n over) = ⊥
Fresh (parsed t ts n (next m s)) = ts ≡ []

abbrev Begins : Place → Parsed → Type 0
Begins start p = Fresh p
Begins behind p = Unit {0}
Begins in_tag p = Unit {0}
Begins (gap m) p = Unit {0}

abbrev place_at : State → Place
place_at (at p) = p
place_at (escaped p) = p

-- what a run owes, and a step
abbrev BeginsRun : Place → Run → Type 0
BeginsRun p (whole l) = Begins p (gather l)
BeginsRun p (stopped e left) = Unit {0}

abbrev BeginsStep : Place → Step → Type 0
BeginsStep p (go σ a) = (q : Parsed) → Begins (place_at σ) q → Begins p (add a q)
BeginsStep p (stop e) = Unit {0}

begins_letter : (p : Place) (m : Mark) (c : ℕ) (q : Parsed) → Begins p (add (letter m c) q)
unfolding add
begins_letter start m c (parsed t ts n r) = refl
begins_letter behind m c q = tt
begins_letter in_tag m c q = tt
begins_letter (gap k) m c q = tt

ordinary_begins : (f : Form) (p : Place) (c : ℕ) → BeginsStep p (ordinary f p c)
unfolding ordinary
ordinary_begins f start c = λ q h. begins_letter start _ c q
ordinary_begins f (gap m) c = λ q h. tt
ordinary_begins f in_tag c = λ q h. tt
ordinary_begins raw behind c = λ q h. tt
ordinary_begins tokenized behind c = λ q h. tt
ordinary_begins partial behind c = tt

inside_begins : (f : Form) (p : Place) (k : Kind) (c : ℕ) → ((q : Parsed) → Begins p q) → BeginsStep p (inside f p k c)
unfolding inside
inside_begins f p (mark m) c w = λ q h. w _
inside_begins f p slash c w = λ q h. w _
inside_begins f p back c w = λ q h. w _
inside_begins f p plain c w = ordinary_begins f p c

opening_begins : (e : ℕ) (p : Place) (k : Kind) (c : ℕ) → BeginsStep p (opening e p k c)
unfolding opening add
opening_begins e p (mark m) c = tt
opening_begins e p slash c = tt
opening_begins e p back c = λ q h. h
opening_begins e p plain c = ordinary_begins tokenized p c

step_begins : (f : Form) (σ : State) (k : Kind) (c : ℕ) → BeginsStep (place_at σ) (step f σ k c)
unfolding step
step_begins f (escaped p) k c = ordinary_begins f p c
step_begins f (at behind) k c = inside_begins f behind k c (λ q. tt)
step_begins f (at in_tag) k c = inside_begins f in_tag k c (λ q. tt)
step_begins raw (at start) k c = ordinary_begins raw start c
step_begins raw (at (gap m)) k c = ordinary_begins raw (gap m) c
step_begins partial (at start) k c = ordinary_begins partial start c
step_begins partial (at (gap m)) k c = ordinary_begins partial (gap m) c
step_begins tokenized (at start) k c = opening_begins 5 start k c
step_begins tokenized (at (gap m)) k c = opening_begins 6 (gap m) k c

advance_begins : (f : Form) (σ : State) (c : ℕ) → BeginsStep (place_at σ) (advance f σ c)
unfolding advance when◌then◌else◌
advance_begins f σ c = on (eqb c 0)
  where
    on : (b : Bool) → BeginsStep (place_at σ) (when b then stop 4 else step f σ (kind f c) c)
    on true = tt
    on false = step_begins f σ (kind f c) c

push_begins : (p : Place) (σ : State) (a : Act) (r : Run) → BeginsStep p (go σ a) → BeginsRun (place_at σ) r → BeginsRun p (push a r)
unfolding push gather
push_begins p σ a (whole l) k h = k (gather l) h
push_begins p σ a (stopped e left) k h = tt

follow_begins : (f : Form) (p : Place) (s : Step) (x : List ℕ) (left : ℕ) → BeginsStep p s → ((σ : State) → BeginsRun (place_at σ) (run f σ x)) → BeginsRun p (follow s (λ σ. run f σ x) left)
unfolding follow
follow_begins f p (go σ a) x left k i = push_begins p σ a (run f σ x) k (i σ)
follow_begins f p (stop e) x left k i = tt

ending_begins : (f : Form) (p : Place) → BeginsRun p (ending f p)
unfolding ending
ending_begins f start = tt
ending_begins f behind = tt
ending_begins f in_tag = tt
ending_begins f (gap m) = tt

finish_begins : (f : Form) (σ : State) → BeginsRun (place_at σ) (finish f σ)
unfolding finish
finish_begins f (at p) = ending_begins f p
finish_begins f (escaped p) = ending_begins f p

run_begins : (f : Form) (x : List ℕ) (σ : State) → BeginsRun (place_at σ) (run f σ x)
unfolding run
run_begins f [] σ = finish_begins f σ
run_begins f (c ∷ x) σ = follow_begins f (place_at σ) (advance f σ c) x (size (c ∷ x)) (advance_begins f σ c) (λ σ'. run_begins f x σ')

-- the acts of a line that is read to its end gather text, and no tag before it
pub run_fresh : (f : Form) (x : List ℕ) (l : List Act) → run f (at start) x ≡ whole l → Fresh (gather l)
run_fresh f x l e = rw e at (run_begins f x (at start))
