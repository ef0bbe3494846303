-- Lines joined by what stands for a boundary read as their sentences joined. Assumes nothing.
use Prim.Native.Nat.{ℕ, ◌≤◌, max}
use mathlib.Core.Path.{◌≡◌, refl, sym, ap, subst, ◌∙◌}
use mathlib.Core.Bool.{Bool, true, false, false≢true}
use mathlib.Core.List.{List, [], ◌∷◌, ◌++◌, append_assoc}
use native.Mathlib.Omega.{arith}
use borrow.Author.Tests.{ltb-false}
use lib.Dec.{eqb, ltb}
use lib.ListN.{length, length-append}
use Rattle.laws.specs.If.{when◌then◌else◌}
use Rattle.laws.specs.All.{All-append}
use Rattle.utf8.specs.Utf8.{scalars, valid_prefix, scalar, encode, encodes, size}
use Rattle.utf8.proofs.Codec.{valid_within, all_scalar, encodes_scalars, encodes_append}
use Rattle.sentence.specs.Sentence.{Tag, Mark, none, word, unknown, Cells, final, cell, Sentence, text_of, marks_of, rows_of}
use Rattle.sentence.specs.declared.Form.{Form}
use Rattle.sentence.specs.declared.Form.TheVariants.{Raw as raw, Tokenized as tokenized, Partial as partial}
use Rattle.sentence.specs.Reading.{Annotated, Kind, mark, slash, back, plain, kind, Place, start, behind, in_tag, gap, State, at, escaped, Act, skip, letter, opens, of_tag, Step, go, stop, ordinary, inside, opening, step, advance, Run, whole, stopped, ending, finish, follow, run, Rest, over, next, Parsed, parsed, before, add, gather, sentence, refused, built, placed, read}
use Rattle.sentence.specs.Writing.{sign, shown, write_partial, line, written}
use Rattle.sentence.specs.Joined.{join_cells, join, IsJoin, join_all, JoinsBy, glue, glued, glued_all, Chain, awaits, onward, lone, ends_lone}
use Rattle.sentence.proofs.Demand3.{Scalars, sign_scalar, read_chars}
use Rattle.sentence.proofs.Runs.{Got, got, bad, gathered, adds, gathered_push, adds_skip, reads, follows_mark}
use Rattle.sentence.proofs.Shape.{place_of}
use Rattle.sentence.proofs.Trips.{kind_sign, char_sign, kind_space, Whole, plainly, line_plainly, Fits}

-- ---- the joined sentence
join_text : (m : Mark) (s t : Cells) → text_of (join_cells m s t) ≡ text_of s ++ text_of t
unfolding join_cells text_of
join_text m (final c r) t = refl
join_text m (cell c r k s) t = rw (join_text m s t)

join_marks : (m : Mark) (s t : Cells) → marks_of (join_cells m s t) ≡ marks_of s ++ (m ∷ marks_of t)
unfolding join_cells marks_of
join_marks m (final c r) t = refl
join_marks m (cell c r k s) t = rw (join_marks m s t)

join_rows : (m : Mark) (s t : Cells) → rows_of (join_cells m s t) ≡ rows_of s ++ rows_of t
unfolding join_cells rows_of
join_rows m (final c r) t = refl
join_rows m (cell c r k s) t = rw (join_rows m s t)

-- a sentence is told by its characters, boundaries, rows and columns, and so is a joined one
cells_same : (s t : Cells) → text_of s ≡ text_of t → marks_of s ≡ marks_of t → rows_of s ≡ rows_of t → s ≡ t
unfolding text_of marks_of rows_of
cells_same (final c r) (final d q) a b e = let u : r ≡ q = cc in let v : c ≡ d = cc in cc
cells_same (final c r) (cell d q m t) a b e = absurd (let z : ◌≡◌ {A = ℕ} 0 1 = cc in omega arith)
cells_same (cell c r m s) (final d q) a b e = absurd (let z : ◌≡◌ {A = ℕ} 0 1 = cc in omega arith)
cells_same (cell c r m s) (cell d q l t) a b e =
    let u : r ≡ q = cc in
    let v : s ≡ t = cells_same s t (cc) (cc) (cc) in
    let w : c ≡ d = cc in
    let y : m ≡ l = cc in
    cc

pub is_join : (m : Mark) (s t : Sentence) → IsJoin m s t (join m s t)
unfolding join
is_join m s t =
    record { texts = join_text m s.cells t.cells; boundaries = join_marks m s.cells t.cells; tags = join_rows m s.cells t.cells; column_count = refl }

pub only_join : (m : Mark) (s t u : Sentence) → IsJoin m s t u → u ≡ join m s t
only_join m s t u h =
    let k = is_join m s t in
    let c = cells_same u.cells (join m s t).cells (h.texts ∙ sym k.texts) (h.boundaries ∙ sym k.boundaries) (h.tags ∙ sym k.tags) in
    let n : u.columns ≡ (join m s t).columns = h.column_count ∙ sym k.column_count in
    ap (λ (x : Cells). record { cells = x; columns = u.columns }) c ∙ ap (λ (i : ℕ). record { cells = (join m s t).cells; columns = i }) n

join_cells_lem : (m k : Mark) (s t u : Cells) → join_cells m (join_cells k s t) u ≡ join_cells k s (join_cells m t u)
unfolding join_cells
join_cells_lem m k (final c r) t u = refl
join_cells_lem m k (cell c r j s) t u = rw (join_cells_lem m k s t u)

-- joining is associative, and so is what it does to lines
pub join_associates : (m k : Mark) (s t u : Sentence) → join m (join k s t) u ≡ join k s (join m t u)
unfolding join
join_associates m k s t u =
    let n : max (max s.columns t.columns) u.columns ≡ max s.columns (max t.columns u.columns) = omega arith in
    rw (join_cells_lem m k s.cells t.cells u.cells, n)

pub glued_associates : (f : Form) (m k : Mark) (x y z : List ℕ) → glued f m (glued f k x y) z ≡ glued f k x (glued f m y z)
glued_associates f m k x y z = simp append_assoc refl

-- ---- what was gathered of a line, with cells of n columns joined behind it
unfoldable pub attach : Mark → Cells → Rest → Rest
attach m u over = next m u
attach m u (next k s) = next k (join_cells m s u)

unfoldable pub joined : Mark → ℕ → Cells → Parsed → Parsed
joined m k u (parsed t ts n r) = parsed t ts (max n k) (attach m u r)

before_joined : (m : Mark) (u : Cells) (c : ℕ) (ts : List Tag) (r : Rest) → before c ts (attach m u r) ≡ join_cells m (before c ts r) u
unfolding before attach join_cells
before_joined m u c ts over = refl
before_joined m u c ts (next k s) = refl

pub add_joined : (m : Mark) (k : ℕ) (u : Cells) (a : Act) (p : Parsed) → add a (joined m k u p) ≡ joined m k u (add a p)
unfolding add joined attach
add_joined m k u skip (parsed t ts n r) = refl
add_joined m k u (of_tag c) (parsed t ts n r) = refl
add_joined m k u opens (parsed t ts n r) = refl
add_joined m k u (letter j c) (parsed t ts n r) =
    let e : max (length ts) (max n k) ≡ max (max (length ts) n) k = omega arith in
    rw (before_joined m u c ts r, e)

-- ---- one step of a run that is not refused
pub data Goes (f : Form) (σ : State) (c : ℕ) (x : List ℕ) (p : Parsed) : Type 0 where
  goes : (σ' : State) (a : Act) (q : Parsed) → advance f σ c ≡ go σ' a → reads f σ' x ≡ got q → p ≡ add a q → Goes f σ c x p

adds_got : (a : Act) (g : Got) (p : Parsed) → adds a g ≡ got p → (q : Parsed) × (g ≡ got q) × (p ≡ add a q)
unfolding adds
adds_got a (got q) p e = (q, refl, cc)
adds_got a (bad n l) p e = absurd (let z : ◌≡◌ {A = ℕ} 0 1 = cc in omega arith)

pub step_goes : (f : Form) (σ : State) (c : ℕ) (x : List ℕ) (p : Parsed) → reads f σ (c ∷ x) ≡ got p → Goes f σ c x p
unfolding run follow gathered
step_goes f σ c x p e = on (advance f σ c) refl e
  where
    on : (s : Step) → advance f σ c ≡ s → gathered (follow s (λ σ'. run f σ' x) (size (c ∷ x))) ≡ got p → Goes f σ c x p
    on (go σ' a) q h = let (r, u, v) = adds_got a (reads f σ' x) p (sym (gathered_push a (run f σ' x)) ∙ h) in goes σ' a r q u v
    on (stop n) q h = absurd (let z : ◌≡◌ {A = ℕ} 0 1 = cc in omega arith)

pub goes_reads : (f : Form) (σ : State) (c : ℕ) (x : List ℕ) {σ' : State} {a : Act} → advance f σ c ≡ go σ' a → reads f σ (c ∷ x) ≡ adds a (reads f σ' x)
unfolding run follow
goes_reads f σ c x {σ'} {a} e = rw e (gathered_push a (run f σ' x))

-- ---- where a reader stands: a raw line has no tags
abbrev Stands : Form → Place → Type 0
Stands raw start = Unit {0}
Stands raw behind = Unit {0}
Stands raw in_tag = ⊥
Stands raw (gap m) = Unit {0}
Stands tokenized p = Unit {0}
Stands partial p = Unit {0}

abbrev Leads : Form → Step → Type 0
Leads f (go σ a) = Stands f (place_of σ)
Leads f (stop e) = Unit {0}

raw_leads : (σ : State) (c : ℕ) → Stands raw (place_of σ) → Leads raw (step raw σ (kind raw c) c)
unfolding step inside ordinary kind
raw_leads (at start) c h = tt
raw_leads (at behind) c h = tt
raw_leads (at in_tag) c h = absurd h
raw_leads (at (gap m)) c h = tt
raw_leads (escaped start) c h = tt
raw_leads (escaped behind) c h = tt
raw_leads (escaped in_tag) c h = absurd h
raw_leads (escaped (gap m)) c h = tt

leads : (f : Form) (σ : State) (c : ℕ) → Stands f (place_of σ) → Leads f (advance f σ c)
unfolding advance when◌then◌else◌
leads raw σ c h = on (eqb c 0)
  where
    on : (b : Bool) → Leads raw (when b then stop 4 else step raw σ (kind raw c) c)
    on true = tt
    on false = raw_leads σ c h
leads tokenized σ c h = on (advance tokenized σ c)
  where
    on : (s : Step) → Leads tokenized s
    on (go σ' a) = tt
    on (stop e) = tt
leads partial σ c h = on (advance partial σ c)
  where
    on : (s : Step) → Leads partial s
    on (go σ' a) = tt
    on (stop e) = tt

-- ---- behind a line, through what stands for a boundary, to what is read behind that
abbrev Passes : Form → List ℕ → Mark → ℕ → Cells → Type 0
Passes f z m k u = (p : Place) → Stands f p → (q : Parsed) → gathered (ending f p) ≡ got q → reads f (at p) z ≡ got (joined m k u q)

module _ (m : Mark) (k : ℕ) (u : Cells) (y : List ℕ) where
  sign_passes : (f : Form) → Annotated f → (g : ℕ) → kind f g ≡ mark m → eqb g 0 ≡ false → reads f (at (gap m)) y ≡ got (parsed [] [] k (next m u)) → Passes f (g ∷ y) m k u
  unfolding ending gathered gather joined attach
  sign_passes f an g e z w start h q i = absurd (let x : ◌≡◌ {A = ℕ} 0 1 = cc in omega arith)
  sign_passes f an g e z w behind h q i =
      let j : q ≡ parsed [] [] 0 over = cc in let n : max 0 k ≡ k = omega arith in rw (j, n) (follows_mark f an m g y e z w).from_char
  sign_passes f an g e z w in_tag h q i =
      let j : q ≡ parsed [] [] 0 over = cc in let n : max 0 k ≡ k = omega arith in rw (j, n) (follows_mark f an m g y e z w).from_tag
  sign_passes f an g e z w (gap j) h q i = absurd (let x : ◌≡◌ {A = ℕ} 0 1 = cc in omega arith)

raw_gap : (y : List ℕ) (q : Parsed) → reads raw (at (gap unknown)) y ≡ got q → reads raw (at behind) y ≡ got q
unfolding run advance step inside ordinary kind finish ending gathered
raw_gap [] q e = absurd (let z : ◌≡◌ {A = ℕ} 0 1 = cc in omega arith)
raw_gap (c ∷ y) q e = e

raw_passes : (k : ℕ) (u : Cells) (y : List ℕ) → reads raw (at (gap unknown)) y ≡ got (parsed [] [] k (next unknown u)) → Passes raw y unknown k u
unfolding ending gathered gather joined attach
raw_passes k u y w start h q i = absurd (let x : ◌≡◌ {A = ℕ} 0 1 = cc in omega arith)
raw_passes k u y w behind h q i = let j : q ≡ parsed [] [] 0 over = cc in let n : max 0 k ≡ k = omega arith in rw (j, n) (raw_gap y _ w)
raw_passes k u y w in_tag h q i = absurd h
raw_passes k u y w (gap j) h q i = absurd (let x : ◌≡◌ {A = ℕ} 0 1 = cc in omega arith)

glue_passes : (f : Form) (m : Mark) → JoinsBy f m → (k : ℕ) (u : Cells) (y : List ℕ) → reads f (at (gap m)) y ≡ got (parsed [] [] k (next m u)) → Passes f (glue f m ++ y) m k u
unfolding glue
glue_passes raw m j k u y w = rw j (raw_passes k u y (rw j at w))
glue_passes tokenized m j k u y w = rw j (sign_passes word k u y tokenized tt 32 kind_space refl (rw j at w))
glue_passes partial m j k u y w = sign_passes m k u y partial tt (sign m) (kind_sign m) (char_sign m) w

-- a line that is read, does not end behind a lone backslash, and has that behind it
module _ (f : Form) (z : List ℕ) (m : Mark) (k : ℕ) (u : Cells) (w : Passes f z m k u) where
  reads_joined : (x : List ℕ) (σ : State) (q : Parsed) → Stands f (place_of σ) → reads f σ x ≡ got q → lone f σ x ≡ false → reads f σ (x ++ z) ≡ got (joined m k u q)
  unfolding lone awaits run finish onward adds
  reads_joined [] (at p) q v e h = w p v q e
  reads_joined [] (escaped p) q v e h = absurd (false≢true (sym h))
  reads_joined (c ∷ x) σ q v e h = on (step_goes f σ c x q e) (λ σ' r i s b. reads_joined x σ' r i s b)
    where
      on : Goes f σ c x q → ((σ' : State) (r : Parsed) → Stands f (place_of σ') → reads f σ' x ≡ got r → lone f σ' x ≡ false → reads f σ' (x ++ z) ≡ got (joined m k u r))
          → reads f σ (c ∷ (x ++ z)) ≡ got (joined m k u q)
      on (goes σ' a r s t i) more =
          goes_reads f σ c (x ++ z) s ∙ rw (more σ' r (subst (Leads f) s (leads f σ c v)) t (rw s at h), i, add_joined m k u a r)

-- ---- a line that is read from its start is read the same behind a boundary, which then stands before it
module _ (m : Mark) where
  record Starts (q : Parsed) (g : Got) : Type 0 where
    columns : ℕ
    cells : Cells
    is : q ≡ parsed [] [] columns (next none cells)
    same : g ≡ got (parsed [] [] columns (next m cells))

  letter_starts : (c : ℕ) (r : Parsed) → Starts (add (letter none c) r) (got (add (letter m c) r))
  unfolding add
  letter_starts c (parsed t ts n r) = record { columns = max (length ts) n; cells = before c ts r; is = refl; same = refl }

  -- the two steps over one character
  data Pair : Step → Step → Type 0 where
    texts : (c : ℕ) → Pair (go (at behind) (letter none c)) (go (at behind) (letter m c))
    backs : Pair (go (escaped start) skip) (go (escaped (gap m)) skip)
    stops : (d e : ℕ) → Pair (stop d) (stop e)

  opening_pair : (k : Kind) (c : ℕ) → Pair (opening 5 start k c) (opening 6 (gap m) k c)
  unfolding opening ordinary
  opening_pair (mark j) c = stops 5 6
  opening_pair slash c = stops 7 7
  opening_pair back c = backs
  opening_pair plain c = texts c

  step_pair : (f : Form) (k : Kind) (c : ℕ) → Pair (step f (at start) k c) (step f (at (gap m)) k c)
  unfolding step ordinary
  step_pair raw k c = texts c
  step_pair tokenized k c = opening_pair k c
  step_pair partial k c = texts c

  escaped_pair : (f : Form) (k : Kind) (c : ℕ) → Pair (step f (escaped start) k c) (step f (escaped (gap m)) k c)
  unfolding step ordinary
  escaped_pair f k c = texts c

  nul_pair : (b : Bool) (s t : Step) → Pair s t → Pair (when b then stop 4 else s) (when b then stop 4 else t)
  unfolding when◌then◌else◌
  nul_pair true s t h = stops 4 4
  nul_pair false s t h = h

  module _ (f : Form) where
    -- what is read behind the two steps
    pair_reads : (s t : Step) (x : List ℕ) (l : ℕ) (q : Parsed) → Pair s t
        → ((r : Parsed) → reads f (escaped start) x ≡ got r → Starts r (reads f (escaped (gap m)) x))
        → gathered (follow s (λ σ'. run f σ' x) l) ≡ got q → Starts q (gathered (follow t (λ σ'. run f σ' x) l))
    unfolding follow gathered adds
    pair_reads s t x l q (texts c) more e =
        let (r, u, v) = adds_got (letter none c) (reads f (at behind) x) q (sym (gathered_push (letter none c) (run f (at behind) x)) ∙ e) in
        let z = gathered_push (letter m c) (run f (at behind) x) ∙ ap (adds (letter m c)) u in
        rw (v, z) (letter_starts c r)
    pair_reads s t x l q backs more e =
        let z = gathered_push skip (run f (escaped (gap m)) x) ∙ adds_skip _ in
        rw z (more q (sym (adds_skip _) ∙ sym (gathered_push skip (run f (escaped start) x)) ∙ e))
    pair_reads s t x l q (stops d n) more e = absurd (let z : ◌≡◌ {A = ℕ} 0 1 = cc in omega arith)

    from_escaped : (x : List ℕ) (q : Parsed) → reads f (escaped start) x ≡ got q → Starts q (reads f (escaped (gap m)) x)
    unfolding run finish ending advance gathered
    from_escaped [] q e = absurd (let z : ◌≡◌ {A = ℕ} 0 1 = cc in omega arith)
    from_escaped (c ∷ x) q e =
        pair_reads _ _ x (size (c ∷ x)) q (nul_pair (eqb c 0) _ _ (escaped_pair f (kind f c) c)) (from_escaped x) e

    from_gap : (x : List ℕ) (q : Parsed) → reads f (at start) x ≡ got q → Starts q (reads f (at (gap m)) x)
    unfolding run finish ending advance gathered
    from_gap [] q e = absurd (let z : ◌≡◌ {A = ℕ} 0 1 = cc in omega arith)
    from_gap (c ∷ x) q e =
        pair_reads _ _ x (size (c ∷ x)) q (nul_pair (eqb c 0) _ _ (step_pair f (kind f c) c)) (from_escaped x) e

-- ---- what a line was read to, by what its characters gather
pub record IsRead (f : Form) (x : List ℕ) (s : Sentence) : Type 0 where
  pub valid : valid_prefix x ≡ length x
  pub few : length x ≤ 4096
  pub all : Parsed
  pub gathers : reads f (at start) (scalars x) ≡ got all
  pub builds : built all ≡ sentence s

is_read : (f : Form) (x : List ℕ) (s : Sentence) → read f x ≡ sentence s → IsRead f x s
unfolding read when◌then◌else◌ gathered placed
is_read f x s e = long (ltb 4096 (length x)) refl e
  where
    ran : (r : Run) → run f (at start) (scalars x) ≡ r → placed (length x) r ≡ sentence s → (p : Parsed) × (gathered r ≡ got p) × (built p ≡ sentence s)
    ran (whole l) q h = (gather l, refl, h)
    ran (stopped n l) q h = absurd (let z : ◌≡◌ {A = ℕ} 0 1 = cc in omega arith)

    bad_or : (b : Bool) → ltb (valid_prefix x) (length x) ≡ b → length x ≤ 4096
        → (when b then refused 2 (valid_prefix x) else placed (length x) (run f (at start) (scalars x))) ≡ sentence s → IsRead f x s
    bad_or true q le h = absurd (let z : ◌≡◌ {A = ℕ} 0 1 = cc in omega arith)
    bad_or false q le h = let (p, u, v) = ran (run f (at start) (scalars x)) refl h in record {
      valid = omega (arith, ltb-false (valid_prefix x) (length x) q, valid_within x);
      few = le;
      all = p;
      gathers = u;
      builds = v;
    }

    long : (b : Bool) → ltb 4096 (length x) ≡ b
        → (when b then refused 1 4096 else when ltb (valid_prefix x) (length x) then refused 2 (valid_prefix x) else placed (length x) (run f (at start) (scalars x))) ≡ sentence s → IsRead f x s
    long true q h = absurd (let z : ◌≡◌ {A = ℕ} 0 1 = cc in omega arith)
    long false q h = bad_or (ltb (valid_prefix x) (length x)) refl (ltb-false 4096 (length x) q) h

-- the cells and columns that were read
pub record Found (f : Form) (x : List ℕ) (s : Sentence) : Type 0 where
  pub read_is : IsRead f x s
  pub gathers : reads f (at start) (scalars x) ≡ got (parsed [] [] s.columns (next none s.cells))
  behind : (m : Mark) → reads f (at (gap m)) (scalars x) ≡ got (parsed [] [] s.columns (next m s.cells))

record_is : (s : Sentence) (q : Parsed) (n : ℕ) (c : Cells) → q ≡ parsed [] [] n (next none c) → built q ≡ sentence s → record { cells = c; columns = n } ≡ s
unfolding built
record_is s q n c p h = cc (rw p at h)

whole_is : (s : Sentence) (n : ℕ) (c : Cells) (m : Mark) → record { cells = c; columns = n } ≡ s → parsed [] [] n (next m c) ≡ parsed [] [] s.columns (next m s.cells)
whole_is s n c m h = ap (λ (u : Sentence). parsed [] [] u.columns (next m u.cells)) h

pub found : (f : Form) (x : List ℕ) (s : Sentence) → read f x ≡ sentence s → Found f x s
found f x s e =
    let i = is_read f x s e in
    record {
      read_is = i;
      gathers = let o = from_gap none f (scalars x) i.all i.gathers in i.gathers ∙ ap got (o.is ∙ whole_is s o.columns o.cells none (record_is s i.all o.columns o.cells o.is i.builds));
      behind = λ m. let o = from_gap m f (scalars x) i.all i.gathers in o.same ∙ ap got (whole_is s o.columns o.cells m (record_is s i.all o.columns o.cells o.is i.builds));
    }

-- ---- the law
-- what stands between lines is characters of one byte each
pub glue_scalars : (f : Form) (m : Mark) → Scalars (glue f m)
unfolding glue scalar
glue_scalars raw m = tt
glue_scalars tokenized m = (refl, tt)
glue_scalars partial m = (sign_scalar m, tt)

pub glue_encodes : (f : Form) (m : Mark) → encodes (glue f m) ≡ glue f m
unfolding glue sign encodes encode when◌then◌else◌
glue_encodes raw m = refl
glue_encodes tokenized m = refl
glue_encodes partial none = refl
glue_encodes partial word = refl
glue_encodes partial unknown = refl

start_stands : (f : Form) → Stands f start
start_stands raw = tt
start_stands tokenized = tt
start_stands partial = tt

-- two lines that are read, the first not ending behind a lone backslash, with what stands for a boundary between them
pub joins : (f : Form) (m : Mark) → JoinsBy f m → (x y : List ℕ) (s t : Sentence) → read f x ≡ sentence s → read f y ≡ sentence t → ends_lone f x ≡ false
    → length (glued f m x y) ≤ 4096 → read f (glued f m x y) ≡ sentence (join m s t)
unfolding join joined attach
joins f m j x y s t p q h le =
    let a = found f x s p in
    let b = found f y t q in
    let z = glue f m ++ scalars y in
    let w = glue_passes f m j t.columns t.cells (scalars y) (b.behind m) in
    let r = reads_joined f z m t.columns t.cells w (scalars x) (at start) _ (start_stands f) a.gathers h in
    let all : Scalars (scalars x ++ z) =
    All-append _ (scalars x) z (all_scalar x) (All-append _ (glue f m) (scalars y) (glue_scalars f m) (all_scalar y)) in
    let bytes : encodes (scalars x ++ z) ≡ glued f m x y =
    encodes_append (scalars x) z
    ∙ rw (encodes_append (glue f m) (scalars y), glue_encodes f m, encodes_scalars x a.read_is.valid, encodes_scalars y b.read_is.valid) in
    rw bytes at (read_chars f (scalars x ++ z) _ none _ all (rw bytes le) r)

-- one line or more
pub joins_all : (f : Form) (m : Mark) → JoinsBy f m → (x : List ℕ) (xs : List (List ℕ)) (s : Sentence) (ss : List Sentence) → Chain f x xs s ss
    → length (glued_all f m x xs) ≤ 4096 → read f (glued_all f m x xs) ≡ sentence (join_all m s ss)
unfolding glued_all join_all
joins_all f m j x [] s [] h le = h
joins_all f m j x [] s (t ∷ ts) h le = absurd h
joins_all f m j x (y ∷ ys) s [] h le = absurd h
joins_all f m j x (y ∷ ys) s (t ∷ ts) h le =
    let rest = glued_all f m y ys in
    let few : length rest ≤ 4096 = omega (arith, le, length-append x (glue f m ++ rest), length-append (glue f m) rest) in
    joins f m j x rest s (join_all m t ts) h.0 (joins_all f m j y ys t ts h.2 few) h.1 le

-- ---- what is written of a joined sentence
-- cells of n columns joined by a word boundary, as the partial form writes them, and as the tokenized form writes those that it can read back
partial_joined : (n : ℕ) (s t : Cells) → write_partial n (join_cells word s t) ≡ write_partial n s ++ (sign word ∷ write_partial n t)
unfolding write_partial join_cells shown
partial_joined n (final c r) t = refl
partial_joined n (cell c r k s) t = rw (partial_joined n s t, append_assoc)

plainly_joined : (n : ℕ) (s t : Cells) → Whole s → plainly n (join_cells word s t) ≡ plainly n s ++ (32 ∷ plainly n t)
unfolding plainly join_cells
plainly_joined n (final c r) t h = simp append_assoc refl
plainly_joined n (cell c r none s) t h = rw (plainly_joined n s t h.1, append_assoc)
plainly_joined n (cell c r word s) t h = rw (plainly_joined n s t h) (simp append_assoc refl)
plainly_joined n (cell c r unknown s) t h = absurd h

whole_joined : (s t : Cells) → Whole s → Whole t → Whole (join_cells word s t)
unfolding join_cells
whole_joined (final c r) t h k = k
whole_joined (cell c r none s) t h k = (h.0, whole_joined s t h.1 k)
whole_joined (cell c r word s) t h k = whole_joined s t h k
whole_joined (cell c r unknown s) t h k = absurd h

line_joined : (f : Form) (s t : Sentence) → Fits f s.cells → Fits f t.cells → s.columns ≡ t.columns → line f (join word s t) ≡ line f s ++ (glue f word ++ line f t)
unfolding line join glue
line_joined raw s t h k e = absurd h
line_joined tokenized s t h k e =
    let n : max s.columns t.columns ≡ s.columns = omega arith in
    line_plainly (join word s t) (whole_joined s.cells t.cells h k)
    ∙ rw (n, plainly_joined s.columns s.cells t.cells h, line_plainly s h, line_plainly t k, e)
line_joined partial s t h k e = let n : max s.columns t.columns ≡ s.columns = omega arith in rw (n, partial_joined s.columns s.cells t.cells, e)

-- with as many columns on both sides, the written line of a joined sentence is the two written lines joined
pub written_joined : (f : Form) (s t : Sentence) → Fits f s.cells → Fits f t.cells → s.columns ≡ t.columns → written f (join word s t) ≡ glued f word (written f s) (written f t)
written_joined f s t h k e =
    ap encodes (line_joined f s t h k e) ∙ encodes_append (line f s) (glue f word ++ line f t) ∙ rw (encodes_append (glue f word) (line f t), glue_encodes f word)
