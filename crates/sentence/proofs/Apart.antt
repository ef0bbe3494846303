-- A line that ends behind a lone backslash is not joined: what stands behind it becomes text or part of a tag, or is refused. Assumes nothing.
use Prim.Native.Nat.{ℕ, zero, suc}
use mathlib.Core.Path.{◌≡◌, refl, sym, ap, subst, ◌∙◌}
use mathlib.Core.Bool.{Bool, true, false, false≢true}
use mathlib.Core.List.{List, [], ◌∷◌, ◌++◌, append_assoc}
use native.Mathlib.Omega.{arith}
use lib.Dec.{eqb}
use lib.ListN.{get_or}
use Rattle.laws.specs.If.{when◌then◌else◌}
use Rattle.laws.specs.All.{All-append}
use Rattle.utf8.specs.Utf8.{scalars, encodes}
use Rattle.utf8.proofs.Codec.{scalars_after, all_scalar, encodes_scalars, encodes_append}
use Rattle.sentence.specs.Sentence.{Tag, Mark, none, word, Cells, Sentence, onto, cut}
use Rattle.sentence.specs.declared.Form.{Form}
use Rattle.sentence.specs.declared.Form.TheVariants.{Raw as raw, Tokenized as tokenized, Partial as partial}
use Rattle.sentence.specs.Reading.{Annotated, Kind, kind, Place, start, behind, in_tag, gap, State, at, escaped, Act, skip, letter, opens, of_tag, Step, go, stop, ordinary, step, advance, ending, finish, run, Rest, over, next, Parsed, parsed, before, add, gather, sentence, read}
use Rattle.sentence.specs.Writing.{sign}
use Rattle.sentence.specs.Joined.{join, JoinsBy, glue, glued, awaits, onward, lone, ends_lone}
use Rattle.sentence.proofs.Runs.{got, gathered, reads}
use Rattle.sentence.proofs.Trips.{char_sign}
use Rattle.sentence.proofs.Shape.{place_of, Near, char, tag, Shown, a_letter, of_tag_lem, a_mark, a_tag, a_back, step_shown}
use Rattle.sentence.proofs.Demand3.{Scalars}
use Rattle.sentence.proofs.Joined.{attach, joined, add_joined, Goes, goes, step_goes, found, glue_scalars, glue_encodes}

-- ---- a row keeps its tags when it is cut
onto_at : (t : Tag) (r : List Tag) (i : ℕ) → get_or (onto t r) i [] ≡ get_or (t ∷ r) i []
unfolding onto
onto_at [] [] i = nothing i
  where
    nothing : (i : ℕ) → get_or {A = Tag} [] i [] ≡ get_or ([] ∷ []) i []
    nothing zero = refl
    nothing (suc i) = refl
onto_at (c ∷ t) [] i = refl
onto_at t (u ∷ us) i = refl

cut_at : (ts : List Tag) (i : ℕ) → get_or (cut ts) i [] ≡ get_or ts i []
unfolding cut
cut_at [] i = refl
cut_at (t ∷ ts) zero = onto_at t (cut ts) 0
cut_at (t ∷ ts) (suc i) = onto_at t (cut ts) (suc i) ∙ cut_at ts i

-- ---- two parses that come apart, where a reader stands: in what follows, in a tag, or in the open tag
data Apart : Place → Parsed → Parsed → Type 0 where
  by_rest : (p : Place) (t : Tag) (ts : List Tag) (n k : ℕ) (r q : Rest) → (r ≡ q → ⊥) → Apart p (parsed t ts n r) (parsed t ts k q)
  by_tag : (p : Place) → Near p → (i : ℕ) (t u : Tag) (ts us : List Tag) (n k : ℕ) (r q : Rest) → (get_or ts i [] ≡ get_or us i [] → ⊥) → Apart p (parsed t ts n r) (parsed u us k q)
  by_open : (p : Place) → p ≡ in_tag → (t u : Tag) (ts us : List Tag) (n k : ℕ) (r q : Rest) → (t ≡ u → ⊥) → Apart p (parsed t ts n r) (parsed u us k q)

-- a character with what follows tells that, and its tags
before_rest : (m : Mark) (c : ℕ) (ts : List Tag) (r q : Rest) → next m (before c ts r) ≡ next m (before c ts q) → r ≡ q
unfolding before
before_rest m c ts over over e = refl
before_rest m c ts over (next k s) e = absurd (let z : ◌≡◌ {A = ℕ} 0 1 = cc in omega arith)
before_rest m c ts (next k s) over e = absurd (let z : ◌≡◌ {A = ℕ} 0 1 = cc in omega arith)
before_rest m c ts (next k s) (next l t) e = cc

before_tags : (m : Mark) (c : ℕ) (ts us : List Tag) (r q : Rest) → next m (before c ts r) ≡ next m (before c us q) → cut ts ≡ cut us
unfolding before
before_tags m c ts us over over e = cc
before_tags m c ts us over (next k s) e = absurd (let z : ◌≡◌ {A = ℕ} 0 1 = cc in omega arith)
before_tags m c ts us (next k s) over e = absurd (let z : ◌≡◌ {A = ℕ} 0 1 = cc in omega arith)
before_tags m c ts us (next k s) (next l t) e = cc

-- the acts of a step keep them apart
letter_apart : (p : Place) (m : Mark) (c : ℕ) (x y : Parsed) → Apart behind x y → Apart p (add (letter m c) x) (add (letter m c) y)
unfolding add
letter_apart p m c x y (by_rest b t ts n k r q h) = by_rest p [] [] _ _ _ _ (λ e. h (before_rest m c ts r q e))
letter_apart p m c x y (by_tag b o i t u ts us n k r q h) =
    by_rest p [] [] _ _ _ _ (λ e. h (sym (cut_at ts i) ∙ ap (λ (l : List Tag). get_or l i []) (before_tags m c ts us r q e) ∙ cut_at us i))
letter_apart p m c x y (by_open b e t u ts us n k r q h) = absurd (let z : ◌≡◌ {A = ℕ} 0 1 = cc in omega arith)

tag_apart : (p : Place) → p ≡ in_tag → (c : ℕ) (x y : Parsed) → Apart in_tag x y → Apart p (add (of_tag c) x) (add (of_tag c) y)
unfolding add
tag_apart p i c x y (by_rest b t ts n k r q h) = by_rest p (c ∷ t) ts n k r q h
tag_apart p i c x y (by_tag b o j t u ts us n k r q h) = rw i (by_tag in_tag tag j (c ∷ t) (c ∷ u) ts us n k r q h)
tag_apart p i c x y (by_open b e t u ts us n k r q h) = by_open p i (c ∷ t) (c ∷ u) ts us n k r q (λ j. h (cc))

opens_apart : (p : Place) → Near p → (x y : Parsed) → Apart in_tag x y → Apart p (add opens x) (add opens y)
unfolding add
opens_apart p o x y (by_rest b t ts n k r q h) = by_rest p [] (t ∷ ts) n k r q h
opens_apart p o x y (by_tag b e i t u ts us n k r q h) = by_tag p o (suc i) [] [] (t ∷ ts) (u ∷ us) n k r q h
opens_apart p o x y (by_open b e t u ts us n k r q h) = by_tag p o 0 [] [] (t ∷ ts) (u ∷ us) n k r q h

mark_apart : (p : Place) (m : Mark) (x y : Parsed) → Apart (gap m) x y → Apart p (add skip x) (add skip y)
unfolding add
mark_apart p m x y (by_rest b t ts n k r q h) = by_rest p t ts n k r q h
mark_apart p m x y (by_tag b o i t u ts us n k r q h) = absurd (no_gap o refl)
  where
    no_gap : {b : Place} → Near b → b ≡ gap m → ⊥
    no_gap char e = let z : ◌≡◌ {A = ℕ} 0 1 = cc in omega arith
    no_gap tag e = let z : ◌≡◌ {A = ℕ} 0 1 = cc in omega arith
mark_apart p m x y (by_open b e t u ts us n k r q h) = absurd (let z : ◌≡◌ {A = ℕ} 0 1 = cc in omega arith)

step_apart : (f : Form) (σ : State) (k : Kind) (c : ℕ) {σ' : State} {a : Act} (x y : Parsed) → Shown σ k c (go σ' a) → Apart (place_of σ') x y → Apart (place_of σ) (add a x) (add a y)
unfolding add
step_apart f σ k c x y (a_letter m) h = letter_apart (place_of σ) m c x y h
step_apart f σ k c x y (of_tag_lem o) h = tag_apart (place_of σ) o c x y h
step_apart f σ k c x y (a_mark m) h = mark_apart (place_of σ) m x y h
step_apart f σ k c x y (a_tag o) h = opens_apart (place_of σ) o x y h
step_apart f σ k c x y (a_back p e i) h = rw i h

-- ---- a line that ends behind a lone backslash, with more behind it
go_shown : (f : Form) (σ : State) (c : ℕ) (σ' : State) (a : Act) → advance f σ c ≡ go σ' a → Shown σ (kind f c) c (go σ' a)
unfolding advance when◌then◌else◌
go_shown f σ c σ' a e = on (eqb c 0) e
  where
    on : (b : Bool) → (when b then stop 4 else step f σ (kind f c) c) ≡ go σ' a → Shown σ (kind f c) c (go σ' a)
    on true i = absurd (let z : ◌≡◌ {A = ℕ} 0 1 = cc in omega arith)
    on false i = subst (Shown σ (kind f c) c) i (step_shown f σ (kind f c) c)

marks_apart : (c d : Cells) → next none c ≡ next word d → ⊥
marks_apart c d e = let z : ◌≡◌ {A = ℕ} 0 1 = cc in omega arith

-- behind the backslash a sign is a character, and not the boundary that it is meant for
module _ (m : Mark) (g : ℕ) (nz : eqb g 0 ≡ false) (k : ℕ) (u : Cells) (y : List ℕ) where
  sign_apart : (f : Form) → Annotated f → (f ≡ tokenized → m ≡ word) → (p : Place) (q x : Parsed) → gathered (ending f p) ≡ got q → reads f (escaped p) (g ∷ y) ≡ got x
      → Apart p x (joined m k u q)
  unfolding ending gathered gather joined attach advance step ordinary add when◌then◌else◌
  sign_apart f an w start q x i e = absurd (let z : ◌≡◌ {A = ℕ} 0 1 = cc in omega arith)
  sign_apart f an w (gap j) q x i e = absurd (let z : ◌≡◌ {A = ℕ} 0 1 = cc in omega arith)
  sign_apart f an w in_tag q x i e = on (step_goes f (escaped in_tag) g y x e)
    where
      on : Goes f (escaped in_tag) g y x → Apart in_tag x (joined m k u q)
      on (goes σ' a (parsed t ts n r) s d v) =
          let j : q ≡ parsed [] [] 0 over = cc in
          let z : a ≡ of_tag g = cc (rw nz at s) in
          rw (j, v, z) (by_open in_tag refl (g ∷ t) [] ts [] n _ r _ (λ b. let o : ◌≡◌ {A = ℕ} 0 1 = cc in omega arith))
  sign_apart raw an w behind q x i e = absurd an
  sign_apart tokenized an w behind q x i e = on (step_goes tokenized (escaped behind) g y x e)
    where
      on : Goes tokenized (escaped behind) g y x → Apart behind x (joined m k u q)
      on (goes σ' a (parsed t ts n r) s d v) =
          let j : q ≡ parsed [] [] 0 over = cc in
          let z : a ≡ letter none g = cc (rw nz at s) in
          rw (j, v, z, w refl) (by_rest behind [] [] _ _ _ _ (λ b. marks_apart _ _ b))
  sign_apart partial an w behind q x i e = on (step_goes partial (escaped behind) g y x e)
    where
      on : Goes partial (escaped behind) g y x → Apart behind x (joined m k u q)
      on (goes σ' a r s d v) = absurd (let z : ◌≡◌ {A = Step} (stop 9) (go σ' a) = rw nz at s in let l : ◌≡◌ {A = ℕ} 0 1 = cc in omega arith)

  reads_apart : (f : Form) → Annotated f → (f ≡ tokenized → m ≡ word) → (xs : List ℕ) (σ : State) (q x : Parsed) → reads f σ xs ≡ got q → lone f σ xs ≡ true
      → reads f σ (xs ++ (g ∷ y)) ≡ got x → Apart (place_of σ) x (joined m k u q)
  unfolding lone awaits onward run finish
  reads_apart f an w [] (at p) q x i l e = absurd (false≢true l)
  reads_apart f an w [] (escaped p) q x i l e = sign_apart f an w p q x i e
  reads_apart f an w (c ∷ xs) σ q x i l e = on (step_goes f σ c xs q i) (step_goes f σ c (xs ++ (g ∷ y)) x e) (reads_apart f an w xs)
    where
      on : Goes f σ c xs q → Goes f σ c (xs ++ (g ∷ y)) x
          → ((σ' : State) (r z : Parsed) → reads f σ' xs ≡ got r → lone f σ' xs ≡ true → reads f σ' (xs ++ (g ∷ y)) ≡ got z → Apart (place_of σ') z (joined m k u r))
          → Apart (place_of σ) x (joined m k u q)
      on (goes σ' a r s d v) (goes σ'' b z s' d' v') more =
          let i : σ'' ≡ σ' = cc in
          let j : b ≡ a = cc in
          let h = more σ' r z d (rw s at l) (rw i at d') in
          rw (v', j, v, ← add_joined m k u a r) (step_apart f σ (kind f c) c z (joined m k u r) (go_shown f σ c σ' a s) h)

-- ---- the law
glue_apart : (f : Form) → Annotated f → (m : Mark) → JoinsBy f m → (k : ℕ) (u : Cells) (y xs : List ℕ) (q x : Parsed) → reads f (at start) xs ≡ got q
    → lone f (at start) xs ≡ true → reads f (at start) (xs ++ (glue f m ++ y)) ≡ got x → Apart start x (joined m k u q)
unfolding glue
glue_apart raw an m j k u y xs q x i l e = absurd an
glue_apart tokenized an m j k u y xs q x i l e = reads_apart m 32 refl k u y tokenized tt (λ o. j) xs (at start) q x i l e
glue_apart partial an m j k u y xs q x i l e =
    reads_apart m (sign m) (char_sign m) k u y partial tt (λ o. absurd (let z : ◌≡◌ {A = ℕ} 0 1 = cc in omega arith)) xs (at start) q x i l e

same_apart : (n k : ℕ) (r : Rest) → Apart start (parsed [] [] n r) (parsed [] [] k r) → ⊥
same_apart n k r (by_rest p t ts a b c d h) = h refl
same_apart n k r (by_tag p o i t u ts us a b c d h) = h refl
same_apart n k r (by_open p e t u ts us a b c d h) = h refl

-- an accepted line that ends behind a lone backslash is never joined
pub lone_apart : (f : Form) → Annotated f → (m : Mark) → JoinsBy f m → (x y : List ℕ) (s t : Sentence) → read f x ≡ sentence s → read f y ≡ sentence t → ends_lone f x ≡ true
    → read f (glued f m x y) ≡ sentence (join m s t) → ⊥
unfolding join joined attach
lone_apart f an m j x y s t p q l e =
    let a = found f x s p in
    let c = found f (glued f m x y) (join m s t) e in
    let all : Scalars (scalars x ++ glue f m) = All-append _ (scalars x) (glue f m) (all_scalar x) (glue_scalars f m) in
    let front : encodes (scalars x ++ glue f m) ≡ x ++ glue f m = encodes_append (scalars x) (glue f m) ∙ rw (encodes_scalars x a.read_is.valid, glue_encodes f m) in
    let bytes : encodes (scalars x ++ glue f m) ++ y ≡ glued f m x y = ap (λ (z : List ℕ). z ++ y) front ∙ append_assoc x (glue f m) y in
    let chars : scalars (glued f m x y) ≡ scalars x ++ (glue f m ++ scalars y) =
    ap scalars (sym bytes) ∙ scalars_after (scalars x ++ glue f m) y all ∙ append_assoc (scalars x) (glue f m) (scalars y) in
    same_apart _ _ _ (glue_apart f an m j t.columns t.cells (scalars y) (scalars x) _ _ a.gathers l (rw chars at c.gathers))
