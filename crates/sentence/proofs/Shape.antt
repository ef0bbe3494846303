-- What the readers answer is well formed, and within the limits. Assumes nothing.
use Prim.Native.Nat.{ℕ, suc, ◌+◌, ◌≤◌, max}
use mathlib.Core.Path.{◌≡◌, refl, sym, ap, ◌∙◌}
use mathlib.Core.Bool.{Bool, true, false}
use mathlib.Core.List.{List, [], ◌∷◌}
use native.Mathlib.Omega.{arith}
use lib.Dec.{eqb, ltb}
use borrow.Author.Tests.{ltb-false}
use lib.ListN.{length}
use Rattle.laws.specs.If.{when◌then◌else◌}
use Rattle.laws.specs.All.{All}
use Rattle.utf8.specs.Utf8.{scalars, valid_prefix, scalar, width, size}
use Rattle.utf8.proofs.Codec.{width_small, length_encodes, encodes_scalars, valid_within, all_scalar}
use Rattle.sentence.specs.Sentence.{Tag, Mark, none, word, unknown, Cells, final, cell, Sentence, text_of, rows_of, text, rows, onto, cut, listed, row_bytes, tag_bytes, Char, Row, CellsOf, Formed}
use Rattle.sentence.specs.declared.Form.{Form}
use Rattle.sentence.specs.declared.Form.TheVariants.{Raw as raw, Tokenized as tokenized, Partial as partial}
use Rattle.sentence.specs.Reading.{Kind, mark, slash, back, plain, kind, Place, start, behind, in_tag, gap, State, at, escaped, Act, skip, letter, opens, of_tag, Step, go, stop, ordinary, inside, opening, step, advance, Run, whole, stopped, ending, finish, push, follow, run, Rest, over, next, Parsed, parsed, before, add, gather, Result, sentence, refused, built, placed, read}
use Rattle.sentence.proofs.Trips.{Whole}

-- ---- a cut row
-- what `cut` of n tags gives
record Cuts (n : ℕ) (r : List Tag) : Type 0 where
  chars : All (All Char) r
  shorter : length r ≤ n
  again : cut r ≡ r

onto_cuts : (n : ℕ) (t : Tag) (r : List Tag) → All Char t → Cuts n r → Cuts (suc n) (onto t r)
unfolding onto cut
onto_cuts n [] [] p h = record { chars = tt; shorter = omega arith; again = refl }
onto_cuts n (c ∷ t) [] p h = record { chars = (p, tt); shorter = omega arith; again = refl }
onto_cuts n t (u ∷ us) p h = record { chars = (p, h.chars); shorter = omega arith; again = rw h.again }

cut_cuts : (ts : List Tag) → All (All Char) ts → Cuts (length ts) (cut ts)
unfolding cut
cut_cuts [] h = record { chars = tt; shorter = omega arith; again = refl }
cut_cuts (t ∷ ts) h = onto_cuts (length ts) t (cut ts) h.0 (cut_cuts ts h.1)

pub cut_row : (n : ℕ) (ts : List Tag) → All (All Char) ts → Row (max (length ts) n) (cut ts)
cut_row n ts h = let c = cut_cuts ts h in record { chars = c.chars; is_cut = c.again; fits = omega (arith, c.shorter) }

wider_row : (m n : ℕ) (r : List Tag) → m ≤ n → Row m r → Row n r
wider_row m n r le h = record { chars = h.chars; is_cut = h.is_cut; fits = omega (arith, h.fits) }

wider : (m n : ℕ) (s : Cells) → m ≤ n → CellsOf m s → CellsOf n s
wider m n (final c r) le h = (h.0, wider_row m n r le h.1)
wider m n (cell c r k s) le h = (h.0, wider_row m n r le h.1, wider m n s le h.2)

-- ---- a step on a character acts with that character
abbrev pub ActOf : ℕ → Act → Type 0
ActOf c skip = Unit {0}
ActOf c (letter m d) = d ≡ c
ActOf c opens = Unit {0}
ActOf c (of_tag d) = d ≡ c

abbrev pub StepOf : ℕ → Step → Type 0
StepOf c (go σ a) = ActOf c a
StepOf c (stop e) = Unit {0}

-- where a state stands
abbrev pub place_of : State → Place
place_of (at p) = p
place_of (escaped p) = p

-- a place behind a character or in its tags
pub data Near : Place → Type 0 where
  char : Near behind
  tag : Near in_tag

-- what a step can be: text, a character of a tag, a boundary, an open tag, a backslash, or a refusal
pub data Shown (σ : State) (k : Kind) (c : ℕ) : Step → Type 0 where
  a_letter : (m : Mark) → Shown σ k c (go (at behind) (letter m c))
  of_tag_lem : place_of σ ≡ in_tag → Shown σ k c (go (at in_tag) (of_tag c))
  a_mark : (m : Mark) → Shown σ k c (go (at (gap m)) skip)
  a_tag : Near (place_of σ) → Shown σ k c (go (at in_tag) opens)
  a_back : (p : Place) → k ≡ back → σ ≡ at p → Shown σ k c (go (escaped p) skip)
  a_stop : (e : ℕ) → Shown σ k c (stop e)

ordinary_shown : (σ : State) (k : Kind) (f : Form) (p : Place) (c : ℕ) → place_of σ ≡ p → Shown σ k c (ordinary f p c)
unfolding ordinary
ordinary_shown σ k f start c i = a_letter none
ordinary_shown σ k f (gap m) c i = a_letter m
ordinary_shown σ k f in_tag c i = of_tag_lem i
ordinary_shown σ k raw behind c i = a_letter unknown
ordinary_shown σ k tokenized behind c i = a_letter none
ordinary_shown σ k partial behind c i = a_stop 9

inside_shown : (f : Form) (p : Place) → Near p → (k : Kind) (c : ℕ) → Shown (at p) k c (inside f p k c)
unfolding inside
inside_shown f p o (mark m) c = a_mark m
inside_shown f p o slash c = a_tag o
inside_shown f p o back c = a_back p refl refl
inside_shown f p o plain c = ordinary_shown (at p) plain f p c refl

opening_shown : (e : ℕ) (p : Place) (k : Kind) (c : ℕ) → Shown (at p) k c (opening e p k c)
unfolding opening
opening_shown e p (mark m) c = a_stop e
opening_shown e p slash c = a_stop 7
opening_shown e p back c = a_back p refl refl
opening_shown e p plain c = ordinary_shown (at p) plain tokenized p c refl

pub step_shown : (f : Form) (σ : State) (k : Kind) (c : ℕ) → Shown σ k c (step f σ k c)
unfolding step
step_shown f (escaped p) k c = ordinary_shown (escaped p) k f p c refl
step_shown f (at behind) k c = inside_shown f behind char k c
step_shown f (at in_tag) k c = inside_shown f in_tag tag k c
step_shown raw (at start) k c = ordinary_shown (at start) k raw start c refl
step_shown raw (at (gap m)) k c = ordinary_shown (at (gap m)) k raw (gap m) c refl
step_shown partial (at start) k c = ordinary_shown (at start) k partial start c refl
step_shown partial (at (gap m)) k c = ordinary_shown (at (gap m)) k partial (gap m) c refl
step_shown tokenized (at start) k c = opening_shown 5 start k c
step_shown tokenized (at (gap m)) k c = opening_shown 6 (gap m) k c

pub step_of : (f : Form) (σ : State) (k : Kind) (c : ℕ) → StepOf c (step f σ k c)
step_of f σ k c = on (step f σ k c) (step_shown f σ k c)
  where
    on : (s : Step) → Shown σ k c s → StepOf c s
    on s (a_letter m) = refl
    on s (of_tag_lem o) = refl
    on s (a_mark m) = tt
    on s (a_tag o) = tt
    on s (a_back p e i) = tt
    on s (a_stop n) = tt

-- ---- what holds at a line's end, and before a character where it holds after it, holds of what a run gathers
module _ (f : Form) (P : State → List ℕ → Parsed → Type 0) where
  -- what a step owes: it is kept from behind the character to before it
  abbrev pub Keeps : State → ℕ → List ℕ → Step → Type 0
  Keeps σ c x (go σ' a) = (p : Parsed) → P σ' x p → P σ (c ∷ x) (add a p)
  Keeps σ c x (stop e) = Unit {0}

  -- of what is gathered, if anything
  abbrev pub Of : State → List ℕ → Run → Type 0
  Of σ x (whole l) = P σ x (gather l)
  Of σ x (stopped e left) = Unit {0}

  push_keeps : (σ σ' : State) (a : Act) (c : ℕ) (x : List ℕ) (r : Run) → Keeps σ c x (go σ' a) → Of σ' x r → Of σ (c ∷ x) (push a r)
  unfolding push gather
  push_keeps σ σ' a c x (whole l) k h = k (gather l) h
  push_keeps σ σ' a c x (stopped e left) k h = tt

  follow_keeps : (s : Step) (σ : State) (c : ℕ) (x : List ℕ) (left : ℕ) → Keeps σ c x s → ((σ' : State) → Of σ' x (run f σ' x)) → Of σ (c ∷ x) (follow s (λ σ'. run f σ' x) left)
  unfolding follow
  follow_keeps (go σ' a) σ c x left k i = push_keeps σ σ' a c x (run f σ' x) k (i σ')
  follow_keeps (stop e) σ c x left k i = tt

  ending_keeps : (p : Place) (σ : State) → P σ [] (parsed [] [] 0 over) → Of σ [] (ending f p)
  unfolding ending gather
  ending_keeps start σ h = tt
  ending_keeps behind σ h = h
  ending_keeps in_tag σ h = h
  ending_keeps (gap m) σ h = tt

  finish_keeps : (σ : State) → P σ [] (parsed [] [] 0 over) → Of σ [] (finish f σ)
  unfolding finish
  finish_keeps (at p) h = ending_keeps p (at p) h
  finish_keeps (escaped p) h = ending_keeps p (escaped p) h

  pub run_keeps : ((σ : State) → P σ [] (parsed [] [] 0 over))
      → ((σ : State) (c : ℕ) (x : List ℕ) → Char c → Keeps σ c x (step f σ (kind f c) c))
      → (x : List ℕ) (σ : State) → All (λ c. scalar c ≡ true) x → Of σ x (run f σ x)
  unfolding run advance when◌then◌else◌
  run_keeps ends steps [] σ h = finish_keeps σ (ends σ)
  run_keeps ends steps (c ∷ x) σ h = follow_keeps (advance f σ c) σ c x (size (c ∷ x)) (on (eqb c 0) refl) (λ σ'. run_keeps ends steps x σ' h.1)
    where
      on : (b : Bool) → eqb c 0 ≡ b → Keeps σ c x (when b then stop 4 else step f σ (kind f c) c)
      on true e = tt
      on false e = steps σ c x (record { is_scalar = h.0; not_nul = e })

-- ---- what is gathered of a line is well formed, and no larger than the line
abbrev RestOf : ℕ → Rest → Type 0
RestOf n over = Unit {0}
RestOf n (next m s) = CellsOf n s

-- the bytes of text and tags, and the listed tags
abbrev load : Cells → ℕ
load s = size (text_of s) + listed (rows_of s) + tag_bytes (rows_of s)

abbrev rest_load : Rest → ℕ
rest_load over = 0
rest_load (next m s) = load s

-- how many characters follow
abbrev rest_long : Rest → ℕ
rest_long over = 0
rest_long (next m s) = length (text_of s)

record Good (x : List ℕ) (t : Tag) (ts : List Tag) (n : ℕ) (r : Rest) : Type 0 where
  tag_chars : All Char t
  tags_chars : All (All Char) ts
  rest_is : RestOf n r
  light : size t + row_bytes ts + length ts + rest_load r ≤ size x
  narrow : n + length ts + rest_long r ≤ size x

abbrev GoodParsed : List ℕ → Parsed → Type 0
GoodParsed x (parsed t ts n r) = Good x t ts n r

abbrev GoodAt : State → List ℕ → Parsed → Type 0
GoodAt σ x p = GoodParsed x p

onto_bytes : (t : Tag) (r : List Tag) → row_bytes (onto t r) ≡ size t + row_bytes r
unfolding row_bytes onto size
onto_bytes [] [] = refl
onto_bytes (c ∷ t) [] = refl
onto_bytes t (u ∷ us) = refl

pub cut_bytes : (ts : List Tag) → row_bytes (cut ts) ≡ row_bytes ts
unfolding cut row_bytes
cut_bytes [] = refl
cut_bytes (t ∷ ts) = onto_bytes t (cut ts) ∙ rw (cut_bytes ts)

before_of : (c : ℕ) (ts : List Tag) (n : ℕ) (r : Rest) → Char c → All (All Char) ts → RestOf n r → CellsOf (max (length ts) n) (before c ts r)
unfolding before
before_of c ts n over z h k = (z, cut_row n ts h)
before_of c ts n (next m s) z h k = (z, cut_row n ts h, wider n (max (length ts) n) s (omega arith) k)

before_load : (c : ℕ) (ts : List Tag) (r : Rest) → All (All Char) ts → load (before c ts r) ≤ width c + row_bytes ts + length ts + rest_load r
unfolding before text_of rows_of size listed tag_bytes
before_load c ts over h = omega (arith, cut_bytes ts, (cut_cuts ts h).shorter)
before_load c ts (next m s) h = omega (arith, cut_bytes ts, (cut_cuts ts h).shorter)

before_long : (c : ℕ) (ts : List Tag) (r : Rest) → length (text_of (before c ts r)) ≡ suc (rest_long r)
unfolding before text_of
before_long c ts over = refl
before_long c ts (next m s) = refl

add_good : (a : Act) (c : ℕ) (x : List ℕ) (p : Parsed) → Char c → ActOf c a → GoodParsed x p → GoodParsed (c ∷ x) (add a p)
unfolding add size row_bytes
add_good skip c x (parsed t ts n r) z e g =
    record { tag_chars = g.tag_chars; tags_chars = g.tags_chars; rest_is = g.rest_is; light = omega (arith, g.light); narrow = omega (arith, g.narrow) }
add_good (letter m d) c x (parsed t ts n r) z e g = record {
  tag_chars = tt;
  tags_chars = tt;
  rest_is = before_of d ts n r (rw e z) g.tags_chars g.rest_is;
  light = omega (arith, before_load d ts r g.tags_chars, ap width e, g.light);
  narrow = omega (arith, g.narrow, before_long d ts r, width_small c);
}
add_good opens c x (parsed t ts n r) z e g = record {
  tag_chars = tt;
  tags_chars = (g.tag_chars, g.tags_chars);
  rest_is = g.rest_is;
  light = omega (arith, g.light, width_small c);
  narrow = omega (arith, g.narrow, width_small c);
}
add_good (of_tag d) c x (parsed t ts n r) z e g = record {
  tag_chars = (rw e z, g.tag_chars);
  tags_chars = g.tags_chars;
  rest_is = g.rest_is;
  light = omega (arith, g.light, ap width e);
  narrow = omega (arith, g.narrow);
}

step_good : (s : Step) (σ : State) (c : ℕ) (x : List ℕ) (f : Form) → Char c → StepOf c s → Keeps f GoodAt σ c x s
step_good (go σ' a) σ c x f z e = λ p g. add_good a c x p z e g
step_good (stop n) σ c x f z e = tt

run_good : (f : Form) (x : List ℕ) (σ : State) → All (λ c. scalar c ≡ true) x → Of f GoodAt σ x (run f σ x)
unfolding size row_bytes
run_good f x σ h =
    run_keeps f GoodAt
    (λ σ. record { tag_chars = tt; tags_chars = tt; rest_is = tt; light = omega arith; narrow = omega arith })
    (λ σ c x z. step_good (step f σ (kind f c) c) σ c x f z (step_of f σ (kind f c) c))
    x σ h

-- ---- what the tokenized form reads has no unknown boundary, and no tag inside a token
-- a boundary of the tokenized form
abbrev Tokenwise : Kind → Type 0
Tokenwise (mark none) = ⊥
Tokenwise (mark word) = Unit {0}
Tokenwise (mark unknown) = ⊥
Tokenwise slash = Unit {0}
Tokenwise back = Unit {0}
Tokenwise plain = Unit {0}

kind_tokenwise : (c : ℕ) → Tokenwise (kind tokenized c)
unfolding kind when◌then◌else◌
kind_tokenwise c = on (eqb c 32) (eqb c 47) (eqb c 92)
  where
    on : (a b d : Bool) → Tokenwise (when a then mark word else when b then slash else when d then back else plain)
    on true b d = tt
    on false true d = tt
    on false false true = tt
    on false false false = tt

-- what may follow, by where the reader stands: a character with no boundary before it only where no tag was opened
abbrev Ended : Rest → Type 0
Ended over = Unit {0}
Ended (next none s) = ⊥
Ended (next word s) = Whole s
Ended (next unknown s) = ⊥

abbrev Texted : List Tag → Rest → Type 0
Texted ts over = Unit {0}
Texted ts (next none s) = (ts ≡ []) × Whole s
Texted ts (next word s) = Whole s
Texted ts (next unknown s) = ⊥

abbrev Begun : Rest → Type 0
Begun over = Unit {0}
Begun (next m s) = Whole s

abbrev Shaped : Place → List Tag → Rest → Type 0
Shaped start ts r = Begun r
Shaped behind ts r = Texted ts r
Shaped in_tag ts r = Ended r
Shaped (gap none) ts r = Unit {0}
Shaped (gap word) ts r = Ended r
Shaped (gap unknown) ts r = Unit {0}

abbrev ShapedParsed : Place → Parsed → Type 0
ShapedParsed p (parsed t ts n r) = Shaped p ts r

abbrev ShapedAt : State → List ℕ → Parsed → Type 0
ShapedAt σ x q = ShapedParsed (place_of σ) q

-- what a step at a place owes
abbrev Shapes : Place → Step → Type 0
Shapes p (go σ a) = (q : Parsed) → ShapedParsed (place_of σ) q → ShapedParsed p (add a q)
Shapes p (stop e) = Unit {0}

before_whole : (c : ℕ) (ts : List Tag) (r : Rest) → Texted ts r → Whole (before c ts r)
unfolding before cut
before_whole c ts over h = tt
before_whole c ts (next none s) h = (rw h.0, h.1)
before_whole c ts (next word s) h = h
before_whole c ts (next unknown s) h = h

ended_texted : (ts : List Tag) (r : Rest) → Ended r → Texted ts r
ended_texted ts over h = tt
ended_texted ts (next none s) h = absurd h
ended_texted ts (next word s) h = h
ended_texted ts (next unknown s) h = h

text_shapes : (p : Place) (m : Mark) (c : ℕ) → ((s : Cells) → Whole s → Shaped p [] (next m s)) → (q : Parsed) → ShapedParsed behind q → ShapedParsed p (add (letter m c) q)
unfolding add
text_shapes p m c k (parsed t ts n r) h = k (before c ts r) (before_whole c ts r h)

tag_shapes : (c : ℕ) (q : Parsed) → ShapedParsed in_tag q → ShapedParsed in_tag (add (of_tag c) q)
unfolding add
tag_shapes c (parsed t ts n r) h = h

ordinary_shapes : (p : Place) (c : ℕ) → Shapes p (ordinary tokenized p c)
unfolding ordinary
ordinary_shapes start c = text_shapes start none c (λ s w. w)
ordinary_shapes (gap none) c = text_shapes (gap none) none c (λ s w. tt)
ordinary_shapes (gap word) c = text_shapes (gap word) word c (λ s w. w)
ordinary_shapes (gap unknown) c = text_shapes (gap unknown) unknown c (λ s w. tt)
ordinary_shapes behind c = text_shapes behind none c (λ s w. (refl, w))
ordinary_shapes in_tag c = tag_shapes c

near_shapes : {p : Place} → Near p → (ts : List Tag) (r : Rest) → Ended r → Shaped p ts r
near_shapes char ts r h = ended_texted ts r h
near_shapes tag ts r h = h

mark_shapes : {p : Place} → Near p → (q : Parsed) → ShapedParsed (gap word) q → ShapedParsed p (add skip q)
unfolding add
mark_shapes w (parsed t ts n r) h = near_shapes w ts r h

open_shapes : {p : Place} → Near p → (q : Parsed) → ShapedParsed in_tag q → ShapedParsed p (add opens q)
unfolding add
open_shapes w (parsed t ts n r) h = near_shapes w (t ∷ ts) r h

inside_shapes : {p : Place} → Near p → (k : Kind) (c : ℕ) → Tokenwise k → Shapes p (inside tokenized p k c)
unfolding inside add
inside_shapes w (mark none) c e = absurd e
inside_shapes w (mark word) c e = mark_shapes w
inside_shapes w (mark unknown) c e = absurd e
inside_shapes w slash c e = open_shapes w
inside_shapes w back c e = λ q h. h
inside_shapes {p} w plain c e = ordinary_shapes p c

opening_shapes : (e : ℕ) (p : Place) (k : Kind) (c : ℕ) → Shapes p (opening e p k c)
unfolding opening add
opening_shapes e p (mark m) c = tt
opening_shapes e p slash c = tt
opening_shapes e p back c = λ q h. h
opening_shapes e p plain c = ordinary_shapes p c

step_shapes : (σ : State) (k : Kind) (c : ℕ) → Tokenwise k → Shapes (place_of σ) (step tokenized σ k c)
unfolding step
step_shapes (escaped p) k c e = ordinary_shapes p c
step_shapes (at behind) k c e = inside_shapes char k c e
step_shapes (at in_tag) k c e = inside_shapes tag k c e
step_shapes (at start) k c e = opening_shapes 5 start k c
step_shapes (at (gap m)) k c e = opening_shapes 6 (gap m) k c

shapes_keep : (s : Step) (σ : State) (c : ℕ) (x : List ℕ) → Shapes (place_of σ) s → Keeps tokenized ShapedAt σ c x s
shapes_keep (go σ' a) σ c x h = h
shapes_keep (stop e) σ c x h = tt

end_shaped : (p : Place) → Shaped p [] over
end_shaped start = tt
end_shaped behind = tt
end_shaped in_tag = tt
end_shaped (gap none) = tt
end_shaped (gap word) = tt
end_shaped (gap unknown) = tt

run_shaped : (x : List ℕ) (σ : State) → All (λ c. scalar c ≡ true) x → Of tokenized ShapedAt σ x (run tokenized σ x)
run_shaped x σ h =
    run_keeps tokenized ShapedAt
    (λ σ. end_shaped (place_of σ))
    (λ σ c x z. shapes_keep (step tokenized σ (kind tokenized c) c) σ c x (step_shapes σ (kind tokenized c) c (kind_tokenwise c)))
    x σ h

-- ---- what a reader answers
-- what a form reads: the tokenized form no unknown boundary and no tag inside a token
abbrev pub ReadIn : Form → Cells → Type 0
ReadIn raw s = Unit {0}
ReadIn tokenized s = Whole s
ReadIn partial s = Unit {0}

-- and no more bytes and listed tags, nor more characters and columns, than the line of k bytes has bytes
abbrev Answers : Form → ℕ → Result → Type 0
Answers f k (sentence s) = Formed s × ReadIn f s.cells × (load s.cells ≤ k) × (length (text s) + s.columns ≤ k)
Answers f k (refused e p) = Unit {0}

rest_answers : (f : Form) (x : List ℕ) (t : Tag) (ts : List Tag) (n : ℕ) (r : Rest) → size x ≤ 4096 → Good x t ts n r → (f ≡ tokenized → Begun r) → Answers f (size x) (built (parsed t ts n r))
unfolding built
rest_answers f x t ts n over le g w = tt
rest_answers f x t ts n (next m s) le g w = (
  record {
    cells_are = g.rest_is;
    text_fits = omega (arith, g.light);
    columns_fit = omega (arith, g.narrow);
    bytes_fit = omega (arith, g.light);
  },
  read_in f w,
  omega (arith, g.light),
  omega (arith, g.narrow),
)
  where
    read_in : (f : Form) → (f ≡ tokenized → Whole s) → ReadIn f s
    read_in raw w = tt
    read_in tokenized w = w refl
    read_in partial w = tt

parsed_answers : (f : Form) (x : List ℕ) (p : Parsed) → size x ≤ 4096 → GoodParsed x p → (f ≡ tokenized → ShapedParsed start p) → Answers f (size x) (built p)
parsed_answers f x (parsed t ts n r) le g w = rest_answers f x t ts n r le g w

run_answers : (f : Form) (x : List ℕ) (k : ℕ) (r : Run) → size x ≤ 4096 → Of f GoodAt (at start) x r → (f ≡ tokenized → Of tokenized ShapedAt (at start) x r) → Answers f (size x) (placed k r)
unfolding placed
run_answers f x k (whole l) le g w = parsed_answers f x (gather l) le g w
run_answers f x k (stopped e left) le g w = tt

tokenized_shaped : (f : Form) (x : List ℕ) → All (λ c. scalar c ≡ true) x → f ≡ tokenized → Of tokenized ShapedAt (at start) x (run f (at start) x)
tokenized_shaped f x h e = rw e (run_shaped x (at start) h)

-- a line whose characters are all of it is as long as they are
scalars_size : (x : List ℕ) → valid_prefix x ≡ length x → size (scalars x) ≡ length x
scalars_size x e = sym (length_encodes (scalars x)) ∙ ap length (encodes_scalars x e)

read_answers : (f : Form) (x : List ℕ) → Answers f (length x) (read f x)
unfolding read when◌then◌else◌
read_answers f x = long (ltb 4096 (length x)) refl
  where
    bad : (b : Bool) → ltb (valid_prefix x) (length x) ≡ b → length x ≤ 4096
        → Answers f (length x) (when b then refused 2 (valid_prefix x) else placed (length x) (run f (at start) (scalars x)))
    bad true e le = tt
    bad false e le =
        let v : valid_prefix x ≡ length x = omega (arith, ltb-false (valid_prefix x) (length x) e, valid_within x) in
        rw (scalars_size x v) at (run_answers f (scalars x) (length x) (run f (at start) (scalars x)) (omega (arith, scalars_size x v))
        (run_good f (scalars x) (at start) (all_scalar x)) (tokenized_shaped f (scalars x) (all_scalar x)))

    long : (b : Bool) → ltb 4096 (length x) ≡ b
        → Answers f (length x) (when b then refused 1 4096 else when ltb (valid_prefix x) (length x) then refused 2 (valid_prefix x) else placed (length x) (run f (at start) (scalars x)))
    long true e = tt
    long false e = bad (ltb (valid_prefix x) (length x)) refl (ltb-false 4096 (length x) e)

-- what a reader answers is well formed and within the limits, and of its form
pub read_formed : (f : Form) (x : List ℕ) (s : Sentence) → read f x ≡ sentence s → Formed s × ReadIn f s.cells
read_formed f x s e = let a = rw e at (read_answers f x) in (a.0, a.1)

-- text bytes, listed tags and tag bytes are together at most the line's length
pub read_light : (f : Form) (x : List ℕ) (s : Sentence) → read f x ≡ sentence s → size (text s) + listed (rows s) + tag_bytes (rows s) ≤ length x
read_light f x s e = (rw e at (read_answers f x)).2

-- characters and columns are together at most the line's length
pub read_narrow : (f : Form) (x : List ℕ) (s : Sentence) → read f x ≡ sentence s → length (text s) + s.columns ≤ length x
read_narrow f x s e = (rw e at (read_answers f x)).3
