-- Demand 3 about the definitions: written lines tell sentences apart, read back, and survive the trip through the tokenized form. Assumes nothing.
use Prim.Native.Nat.{ℕ, ◌≤◌}
use mathlib.Core.Path.{◌≡◌, refl, sym, ap, subst, ◌∙◌}
use mathlib.Core.Logic.{◌↔◌}
use mathlib.Core.Bool.{true}
use mathlib.Core.List.{List, [], ◌∷◌, map}
use native.Mathlib.Omega.{arith}
use lib.ListN.{length}
use borrow.Author.Tests.{le-ltb}
use Rattle.laws.specs.If.{if_false}
use Rattle.laws.specs.All.{All, All-append}
use Rattle.utf8.specs.Utf8.{scalars, valid_prefix, scalar, encodes}
use Rattle.utf8.proofs.Codec.{scalars_encodes, valid_encodes}
use Rattle.sentence.specs.Sentence.{Tag, Mark, none, word, unknown, Cells, final, cell, Sentence, text_of, marks_of, rows_of, text, marks, table, onto, cut, pad, Char, Row, CellsOf, Formed, Agree, NoUnknown, NoneInside}
use Rattle.sentence.specs.declared.Form.{Form}
use Rattle.sentence.specs.declared.Form.TheVariants.{Raw as raw, Tokenized as tokenized, Partial as partial}
use Rattle.sentence.specs.Reading.{Annotated, Kind, mark, slash, back, plain, kind, start, at, Run, whole, stopped, next, parsed, gather, sentence, built, placed, read}
use Rattle.sentence.specs.Writing.{escape_as, escape, write_tags, sign, shown, write_partial, line, written}
use Rattle.sentence.proofs.Runs.{got, gathered, reads}
use Rattle.sentence.proofs.Trips.{cut_pad, pad_shows, shown_shows, Whole, plainly, line_plainly, Fits, reads_line}
use Rattle.sentence.proofs.Shape.{ReadIn, read_formed}

-- ---- the padded table and the listed rows determine each other
pub pad_same : (n : ℕ) (r q : List Tag) → Row n r → Row n q → pad n r ≡ pad n q → r ≡ q
pad_same n r q h k e = sym (cut_pad n r ∙ h.is_cut) ∙ ap cut e ∙ cut_pad n q ∙ k.is_cut

agree_cells : (n : ℕ) (s t : Cells) → CellsOf n s → CellsOf n t → text_of s ≡ text_of t → marks_of s ≡ marks_of t → map (pad n) (rows_of s) ≡ map (pad n) (rows_of t) → s ≡ t
unfolding text_of marks_of rows_of
agree_cells n (final c r) (final d q) h k a b e =
    let u : r ≡ q = pad_same n r q h.1 k.1 (cc) in
    let v : c ≡ d = cc in
    cc
agree_cells n (final c r) (cell d q m t) h k a b e = absurd (let z : ◌≡◌ {A = ℕ} 0 1 = cc in omega arith)
agree_cells n (cell c r m s) (final d q) h k a b e = absurd (let z : ◌≡◌ {A = ℕ} 0 1 = cc in omega arith)
agree_cells n (cell c r m s) (cell d q l t) h k a b e =
    let u : r ≡ q = pad_same n r q h.1 k.1 (cc) in
    let v : s ≡ t = agree_cells n s t h.2 k.2 (cc) (cc) (cc) in
    let w : c ≡ d = cc in
    let y : m ≡ l = cc in
    cc

pub agree_same : (s t : Sentence) → Formed s → Formed t → Agree s t → s ≡ t
agree_same s t h k a =
    let e = sym a.column_counts in
    let v : s.cells ≡ t.cells =
    agree_cells s.columns s.cells t.cells h.cells_are (subst (λ (n : ℕ). CellsOf n t.cells) e k.cells_are)
    a.texts a.boundaries (a.padded_tags ∙ ap (λ (n : ℕ). map (pad n) (rows_of t.cells)) e) in
    ap (λ (c : Cells). record { cells = c; columns = s.columns }) v ∙ ap (λ (n : ℕ). record { cells = t.cells; columns = n }) a.column_counts

-- ---- a written line is of scalar values
abbrev pub Scalars : List ℕ → Type 0
Scalars x = All (λ c. scalar c ≡ true) x

escape_as_scalars : (k : Kind) (c : ℕ) → scalar c ≡ true → Scalars (escape_as k c)
unfolding escape_as scalar
escape_as_scalars (mark m) c h = (refl, (h, tt))
escape_as_scalars slash c h = (refl, (h, tt))
escape_as_scalars back c h = (refl, (h, tt))
escape_as_scalars plain c h = (h, tt)

pub escape_scalars : (f : Form) (t : List ℕ) → All Char t → Scalars (escape f t)
unfolding escape
escape_scalars f [] h = tt
escape_scalars f (c ∷ t) h = All-append _ (escape_as (kind f c) c) (escape f t) (escape_as_scalars (kind f c) c h.0.is_scalar) (escape_scalars f t h.1)

pub tags_scalars : (f : Form) (ts : List Tag) → All (All Char) ts → Scalars (write_tags f ts)
unfolding write_tags scalar
tags_scalars f [] h = tt
tags_scalars f (t ∷ ts) h = (refl, All-append _ (escape f t) (write_tags f ts) (escape_scalars f t h.0) (tags_scalars f ts h.1))

pub sign_scalar : (m : Mark) → scalar (sign m) ≡ true
unfolding sign scalar
sign_scalar none = refl
sign_scalar word = refl
sign_scalar unknown = refl

pub partial_scalars : (n : ℕ) (s : Cells) → CellsOf n s → Scalars (write_partial n s)
unfolding write_partial
partial_scalars n (final c r) h = (h.0.is_scalar, tags_scalars partial (pad n r) (pad_shows n r h.1).chars)
partial_scalars n (cell c r m s) h = (
  h.0.is_scalar,
  All-append _ (write_tags partial (shown n m r)) (sign m ∷ write_partial n s) (tags_scalars partial (shown n m r) (shown_shows n m r h.1).chars) (sign_scalar m, partial_scalars n s h.2),
)

plainly_scalars : (n : ℕ) (s : Cells) → CellsOf n s → Scalars (plainly n s)
unfolding plainly scalar
plainly_scalars n (final c r) h =
    All-append _ (escape_as (kind tokenized c) c) _ (escape_as_scalars (kind tokenized c) c h.0.is_scalar) (tags_scalars tokenized (pad n r) (pad_shows n r h.1).chars)
plainly_scalars n (cell c r none s) h =
    All-append _ (escape_as (kind tokenized c) c) _ (escape_as_scalars (kind tokenized c) c h.0.is_scalar) (plainly_scalars n s h.2)
plainly_scalars n (cell c r word s) h =
    All-append _ (escape_as (kind tokenized c) c) _ (escape_as_scalars (kind tokenized c) c h.0.is_scalar)
    (All-append _ (write_tags tokenized (pad n r)) (32 ∷ plainly n s) (tags_scalars tokenized (pad n r) (pad_shows n r h.1).chars) (refl, plainly_scalars n s h.2))
plainly_scalars n (cell c r unknown s) h = tt

line_scalars : (f : Form) (s : Sentence) → CellsOf s.columns s.cells → Fits f s.cells → Scalars (line f s)
unfolding line
line_scalars raw s h w = absurd w
line_scalars tokenized s h w = rw (line_plainly s w) (plainly_scalars s.columns s.cells h)
line_scalars partial s h w = partial_scalars s.columns s.cells h

-- ---- canonicity, reading back
-- what a form read, it can write and read again
pub fits_read : (f : Form) (s : Cells) → Annotated f → ReadIn f s → Fits f s
fits_read raw s an w = absurd an
fits_read tokenized s an w = w
fits_read partial s an w = tt

pub same_read : (f : Form) (s t : Sentence) → Formed s → Formed t → Fits f s.cells → Fits f t.cells → written f s ≡ written f t → s ≡ t
same_read f s t h k v w e =
    let x : line f s ≡ line f t =
    sym (scalars_encodes (line f s) (line_scalars f s h.cells_are v)) ∙ ap scalars e ∙ scalars_encodes (line f t) (line_scalars f t k.cells_are w) in
    let a = reads_line f s h.cells_are v in
    let b = reads_line f t k.cells_are w in
    let c : s.cells ≡ t.cells = cc in
    let d : s.columns ≡ t.columns = cc in
    ap (λ (u : Cells). record { cells = u; columns = s.columns }) c ∙ ap (λ (n : ℕ). record { cells = t.cells; columns = n }) d

agrees : (s t : Sentence) → s ≡ t → Agree s t
agrees s t e = record { texts = ap text e; boundaries = ap marks e; column_counts = ap (λ (u : Sentence). u.columns) e; padded_tags = ap table e }

-- of two well-formed sentences that fit a form, the written lines are equal exactly when text, boundaries, column count and padded tags agree
pub told_apart : (f : Form) (s t : Sentence) → Formed s → Formed t → Fits f s.cells → Fits f t.cells → (written f s ≡ written f t) ↔ Agree s t
told_apart f s t h k v w = (λ e. agrees s t (same_read f s t h k v w e), λ a. ap (written f) (agree_same s t h k a))

-- and so of two lines that one annotated form accepts
pub canonical : (f : Form) → Annotated f → (x y : List ℕ) (s t : Sentence) → read f x ≡ sentence s → read f y ≡ sentence t → (written f s ≡ written f t) ↔ Agree s t
canonical f an x y s t p q =
    let h = read_formed f x s p in
    let k = read_formed f y t q in
    told_apart f s t h.0 k.0 (fits_read f s.cells an h.1) (fits_read f t.cells an k.1)

placed_got : (k : ℕ) (r : Run) (t : Tag) (ts : List Tag) (n : ℕ) (m : Mark) (s : Cells) → gathered r ≡ got (parsed t ts n (next m s)) → placed k r ≡ sentence (record { cells = s; columns = n })
unfolding gathered placed built
placed_got k (whole l) t ts n m s e = let g : gather l ≡ parsed t ts n (next m s) = cc in rw g
placed_got k (stopped j left) t ts n m s e = absurd (let z : ◌≡◌ {A = ℕ} 0 1 = cc in omega arith)

-- characters that gather to cells, as a line of at most 4,096 bytes
pub read_chars : (f : Form) (cs : List ℕ) (n : ℕ) (m : Mark) (c : Cells) → Scalars cs → length (encodes cs) ≤ 4096
    → reads f (at start) cs ≡ got (parsed [] [] n (next m c)) → read f (encodes cs) ≡ sentence (record { cells = c; columns = n })
unfolding read
read_chars f cs n m c u le e =
    let v : length (encodes cs) ≤ valid_prefix (encodes cs) = omega (arith, valid_encodes cs u) in
    if_false _ _ _ (le-ltb 4096 (length (encodes cs)) le)
    ∙ if_false _ _ _ (le-ltb (valid_prefix (encodes cs)) (length (encodes cs)) v)
    ∙ rw (scalars_encodes cs u) (placed_got (length (encodes cs)) _ [] [] n m c e)

-- a sentence that fits a form is read back from its written line of at most 4,096 bytes
pub read_written : (f : Form) (s : Sentence) → CellsOf s.columns s.cells → Fits f s.cells → length (written f s) ≤ 4096 → read f (written f s) ≡ sentence s
read_written f s h w le = read_chars f (line f s) s.columns none s.cells (line_scalars f s h w) le (reads_line f s h w)

-- a written line of at most 4,096 bytes reads back to the same sentence
pub reads_back : (f : Form) → Annotated f → (x : List ℕ) (s : Sentence) → read f x ≡ sentence s → length (written f s) ≤ 4096 → read f (written f s) ≡ sentence s
reads_back f an x s e le = let h = read_formed f x s e in read_written f s h.0.cells_are (fits_read f s.cells an h.1) le

-- and writes to itself
pub writes_itself : (f : Form) → Annotated f → (x : List ℕ) (s t : Sentence) → read f x ≡ sentence s → length (written f s) ≤ 4096 → read f (written f s) ≡ sentence t → written f t ≡ written f s
writes_itself f an x s t e le g = let b = reads_back f an x s e le in let z : s ≡ t = cc in ap (written f) (sym z)

-- ---- the trip through the tokenized form
absent_cut : (r : List Tag) → All (λ t. t ≡ []) r → cut r ≡ []
unfolding cut onto
absent_cut [] h = refl
absent_cut (t ∷ r) h = rw (h.0, absent_cut r h.1)

whole_if : (n : ℕ) (s : Cells) → CellsOf n s → All (λ m. m ≡ unknown → ⊥) (marks_of s) → NoneInside s → Whole s
unfolding marks_of
whole_if n (final c r) h a b = tt
whole_if n (cell c r none s) h a b = (sym h.1.is_cut ∙ absent_cut r b.0, whole_if n s h.2 a.1 b.1)
whole_if n (cell c r word s) h a b = whole_if n s h.2 a.1 b
whole_if n (cell c r unknown s) h a b = a.0 refl

no_unknown : (s : Cells) → Whole s → All (λ m. m ≡ unknown → ⊥) (marks_of s)
unfolding marks_of
no_unknown (final c r) w = tt
no_unknown (cell c r none s) w = (λ e. let z : ◌≡◌ {A = ℕ} 0 1 = cc in omega arith, no_unknown s w.1)
no_unknown (cell c r word s) w = (λ e. let z : ◌≡◌ {A = ℕ} 0 1 = cc in omega arith, no_unknown s w)
no_unknown (cell c r unknown s) w = absurd w

none_inside : (s : Cells) → Whole s → NoneInside s
none_inside (final c r) w = tt
none_inside (cell c r none s) w = (subst (All (λ t. t ≡ [])) (sym w.0) tt, none_inside s w.1)
none_inside (cell c r word s) w = none_inside s w
none_inside (cell c r unknown s) w = absurd w

-- a well-formed sentence survives the trip exactly when it has no unknown boundary and no present tag inside a token
pub trip : (s : Sentence) → Formed s → length (written tokenized s) ≤ 4096 → (read tokenized (written tokenized s) ≡ sentence s) ↔ (NoUnknown s × NoneInside s.cells)
trip s h le = (
  λ g. let w = (read_formed tokenized (written tokenized s) s g).1 in (no_unknown s.cells w, none_inside s.cells w),
  λ a. read_written tokenized s h.cells_are (whole_if s.columns s.cells h.cells_are a.0 a.1) le,
)

-- and so the sentence of a line of any form
pub survives : (f : Form) (x : List ℕ) (s : Sentence) → read f x ≡ sentence s → length (written tokenized s) ≤ 4096
    → (read tokenized (written tokenized s) ≡ sentence s) ↔ (NoUnknown s × NoneInside s.cells)
survives f x s e le = trip s (read_formed f x s e).0 le
