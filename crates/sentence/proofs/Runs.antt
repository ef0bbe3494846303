-- The reader over what a writer writes, token by token and character by character: what a run gathers. Assumes nothing.
use Prim.Native.Nat.{ℕ}
use mathlib.Core.Path.{◌≡◌, refl, ◌∙◌}
use mathlib.Core.Bool.{false}
use mathlib.Core.List.{List, [], ◌∷◌, ◌++◌, append_assoc, append-nil}
use lib.Dec.{eqb}
use Rattle.laws.specs.If.{when◌then◌else◌}
use Rattle.laws.specs.All.{All}
use Rattle.sentence.specs.Sentence.{Tag, Mark, Char}
use Rattle.sentence.specs.declared.Form.{Form}
use Rattle.sentence.specs.declared.Form.TheVariants.{Raw as raw, Tokenized as tokenized, Partial as partial}
use Rattle.sentence.specs.Reading.{Annotated, Kind, mark, slash, back, plain, kind, Place, behind, in_tag, gap, State, at, escaped, Act, skip, go, ordinary, inside, step, advance, Run, whole, stopped, ending, finish, push, follow, run, Rest, over, Parsed, parsed, add, gather}
use Rattle.sentence.specs.Writing.{escape_as, escape, write_tags}

-- what the acts of a run gather, or its refusal
pub data Got : Type 0 where
  got : Parsed → Got
  bad : ℕ → ℕ → Got

unfoldable pub gathered : Run → Got
gathered (whole l) = got (gather l)
gathered (stopped e left) = bad e left

unfoldable pub adds : Act → Got → Got
adds a (got p) = got (add a p)
adds a (bad e left) = bad e left

abbrev pub reads : Form → State → List ℕ → Got
reads f σ x = gathered (run f σ x)

pub gathered_push : (a : Act) (r : Run) → gathered (push a r) ≡ adds a (gathered r)
unfolding gathered push adds gather
gathered_push a (whole l) = refl
gathered_push a (stopped e left) = refl

pub adds_skip : (g : Got) → adds skip g ≡ g
unfolding adds add
adds_skip (got p) = refl
adds_skip (bad e left) = refl

pub kind_back : (f : Form) → Annotated f → kind f 92 ≡ back
unfolding kind when◌then◌else◌
kind_back raw h = absurd h
kind_back tokenized h = refl
kind_back partial h = refl

pub kind_slash : (f : Form) → Annotated f → kind f 47 ≡ slash
unfolding kind when◌then◌else◌
kind_slash raw h = absurd h
kind_slash tokenized h = refl
kind_slash partial h = refl

-- one step, at a character of a known kind
pub reads_go : (f : Form) (σ : State) (k : Kind) (c : ℕ) (x : List ℕ) {σ' : State} {a : Act} → kind f c ≡ k → eqb c 0 ≡ false → step f σ k c ≡ go σ' a
    → reads f σ (c ∷ x) ≡ adds a (reads f σ' x)
unfolding run advance follow when◌then◌else◌
reads_go f σ k c x {σ'} {a} e z s = rw (z, e, s) (gathered_push a (run f σ' x))

-- what comes after a character's tags, or after the character where it has none
pub record Follows (f : Form) (x : List ℕ) (p : Parsed) : Type 0 where
  pub from_char : reads f (at behind) x ≡ got p
  pub from_tag : reads f (at in_tag) x ≡ got p

module _ (f : Form) (an : Annotated f) where
  -- a character behind a backslash
  reads_back : (p : Place) {σ' : State} {a : Act} (c : ℕ) (x : List ℕ) → eqb c 0 ≡ false
      → step f (at p) back 92 ≡ go (escaped p) skip → ordinary f p c ≡ go σ' a → reads f (at p) (92 ∷ c ∷ x) ≡ adds a (reads f σ' x)
  unfolding step
  reads_back p c x z s t = reads_go f (at p) back 92 (c ∷ x) (kind_back f an) refl s ∙ adds_skip _ ∙ reads_go f (escaped p) (kind f c) c x refl z t

  -- an escaped character is ordinary, where a backslash escapes
  pub reads_char : (p : Place) {σ' : State} {a : Act} (k : Kind) (c : ℕ) (x : List ℕ) → kind f c ≡ k → eqb c 0 ≡ false
      → step f (at p) back 92 ≡ go (escaped p) skip → step f (at p) plain c ≡ ordinary f p c → ordinary f p c ≡ go σ' a
      → reads f (at p) (escape_as k c ++ x) ≡ adds a (reads f σ' x)
  unfolding escape_as
  reads_char p (mark m) c x e z s _ t = reads_back p c x z s t
  reads_char p slash c x e z s _ t = reads_back p c x z s t
  reads_char p back c x e z s _ t = reads_back p c x z s t
  reads_char p plain c x e z _ s t = reads_go f (at p) plain c x e z (s ∙ t)

  -- the characters of an open tag
  reads_tag : (t : Tag) (x : List ℕ) {u : Tag} {us : List Tag} {n : ℕ} {r : Rest} → All Char t
      → reads f (at in_tag) x ≡ got (parsed u us n r) → reads f (at in_tag) (escape f t ++ x) ≡ got (parsed (t ++ u) us n r)
  unfolding escape step inside ordinary adds add
  reads_tag [] x h e = e
  reads_tag (c ∷ t) x h e =
      rw (append_assoc, reads_char in_tag (kind f c) c _ refl h.0.not_nul refl refl refl, reads_tag t x h.1 e)

  pub reads_tags : (ts : List Tag) (x : List ℕ) {us : List Tag} {n : ℕ} {r : Rest} → All (All Char) ts
      → Follows f x (parsed [] us n r) → Follows f (write_tags f ts ++ x) (parsed [] (ts ++ us) n r)
  unfolding write_tags step inside adds add
  reads_tags [] x h w = w
  reads_tags (t ∷ ts) x h w =
      let i = reads_tags ts x h.1 w in
      let e = reads_tag t _ h.0 i.from_tag in
      record {
        from_char = rw append_assoc (reads_go f (at behind) slash 47 _ (kind_slash f an) refl refl ∙ rw (e, append-nil));
        from_tag = rw append_assoc (reads_go f (at in_tag) slash 47 _ (kind_slash f an) refl refl ∙ rw (e, append-nil));
      }

  -- a boundary after them
  pub follows_mark : (m : Mark) (c : ℕ) (x : List ℕ) {p : Parsed} → kind f c ≡ mark m → eqb c 0 ≡ false
      → reads f (at (gap m)) x ≡ got p → Follows f (c ∷ x) p
  unfolding step inside
  follows_mark m c x e z h = record {
    from_char = reads_go f (at behind) (mark m) c x e z refl ∙ adds_skip _ ∙ h;
    from_tag = reads_go f (at in_tag) (mark m) c x e z refl ∙ adds_skip _ ∙ h;
  }

-- the line's end after them
pub follows_end : (f : Form) → Follows f [] (parsed [] [] 0 over)
unfolding run finish ending gathered gather
follows_end f = record { from_char = refl; from_tag = refl }
