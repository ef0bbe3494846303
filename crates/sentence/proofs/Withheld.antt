-- The withheld copy tells all that stands outside the range and nothing of what it hides, and its line reads back. Assumes nothing.
use Prim.Native.Nat.{ℕ, zero, suc, ◌+◌, ◌≤◌, ◌<◌}
use mathlib.Core.Path.{◌≡◌, refl, sym, ap, subst, ◌∙◌}
use mathlib.Core.Logic.{◌↔◌}
use mathlib.Core.Bool.{Bool, true, false, ◌&&◌, false≢true}
use mathlib.Core.List.{List, [], ◌∷◌}
use native.Mathlib.Nat.{add-zero, zero-add}
use native.Mathlib.Omega.{arith}
use lib.Dec.{leb, ltb}
use borrow.Author.Tests.{le-ltb, lt-ltb, le-leb, lt-leb, leb-true, leb-false, ltb-true, ltb-false}
use lib.ListN.{length, get_or}
use Rattle.laws.specs.If.{when◌then◌else◌, if_true, if_false}
use Rattle.laws.specs.All.{All-imp}
use Rattle.laws.proofs.Facts.{neither}
use Rattle.utf8.specs.Utf8.{encodes}
use Rattle.utf8.proofs.Codec.{length_encodes}
use Rattle.sentence.specs.Sentence.{Tag, Mark, none, unknown, Cells, final, cell, Sentence, text_of, marks_of, rows_of, text, marks, count, onto, cut, row_bytes, tag_bytes, Char, Row, CellsOf, Formed}
use Rattle.sentence.specs.declared.Form.TheVariants.{Raw as raw, Partial as partial}
use Rattle.sentence.specs.Reading.{plain, kind, behind, start, State, at, Act, letter, go, ordinary, inside, step, advance, whole, ending, finish, push, follow, run, next, parsed, before, add, gather, sentence, read}
use Rattle.sentence.specs.Writing.{written}
use Rattle.sentence.proofs.Runs.{got, gathered}
use Rattle.sentence.proofs.Cells.{text_chars}
use Rattle.sentence.proofs.Demand3.{same_read, read_chars, read_written}
use Rattle.sentence.specs.Withheld.{in_range, touches, hidden, widest, trimmed, withheld, tag_in, Outside, Copy}

-- ---- which characters are in a range
and_false : (t : Bool) → (t && false) ≡ false
and_false true = refl
and_false false = refl

module _ (b e i : ℕ) where
  pub out_before : i < b → in_range b e i ≡ false
  unfolding in_range
  out_before l = rw (lt-leb b i l)

  pub out_behind : e ≤ i → in_range b e i ≡ false
  unfolding in_range
  out_behind l = rw (le-ltb i e l) (and_false (leb b i))

  pub in_range_lem : b ≤ i → i < e → in_range b e i ≡ true
  unfolding in_range
  in_range_lem k l = rw (le-leb b i k, lt-ltb i e l)

-- none where its end is not past its start
pub none_in : (b e i : ℕ) → e ≤ b → in_range b e i ≡ false
none_in b e i l = on (ltb i b) refl
  where
    on : (t : Bool) → ltb i b ≡ t → in_range b e i ≡ false
    on true q = out_before b e i (ltb-true i b q)
    on false q = out_behind b e i (omega (arith, ltb-false i b q))

-- ---- cut rows with the same cells are the same
onto_one : (t : Tag) (r : List Tag) → onto t [] ≡ t ∷ r → r ≡ []
unfolding onto
onto_one [] r e = absurd (let z : ◌≡◌ {A = ℕ} 0 1 = cc in omega arith)
onto_one (c ∷ t) r e = cc

onto_more : (t : Tag) (q r : List Tag) → onto t q ≡ t ∷ r → q ≡ r
unfolding onto
onto_more t [] r e = sym (onto_one t r e)
onto_more t (u ∷ q) r e = cc

cut_rest : (t : Tag) (r : List Tag) → cut (t ∷ r) ≡ t ∷ r → cut r ≡ r
unfolding cut
cut_rest t r e = onto_more t (cut r) r e

none_cut : (r : List Tag) → ((j : ℕ) → get_or r j [] ≡ []) → cut r ≡ []
unfolding cut onto
none_cut [] h = refl
none_cut (t ∷ r) h = rw (h 0, none_cut r (λ j. h (suc j)))

pub rows_same : (r q : List Tag) → cut r ≡ r → cut q ≡ q → ((j : ℕ) → get_or r j [] ≡ get_or q j []) → r ≡ q
rows_same [] [] a b h = refl
rows_same [] (u ∷ q) a b h = sym (none_cut (u ∷ q) (λ j. sym (h j))) ∙ b
rows_same (t ∷ r) [] a b h = sym a ∙ none_cut (t ∷ r) h
rows_same (t ∷ r) (u ∷ q) a b h =
    let x : t ≡ u = h 0 in
    let y : r ≡ q = rows_same r q (cut_rest t r a) (cut_rest u q b) (λ j. h (suc j)) in
    cc

-- ---- what is hidden does not show
text_some : (t : Cells) → text_of t ≡ [] → ⊥
unfolding text_of
text_some (final c r) e = let w : ◌≡◌ {A = ℕ} 0 1 = cc in omega arith
text_some (cell c r m t) e = let w : ◌≡◌ {A = ℕ} 0 1 = cc in omega arith

module _ (b e : ℕ) where
  -- a row, and a boundary, that agree where they are not hidden
  row_same : (t : Bool) (r q : List Tag) → cut r ≡ r → cut q ≡ q → (t ≡ false → (j : ℕ) → get_or r j [] ≡ get_or q j []) → (when t then [] else r) ≡ (when t then [] else q)
  unfolding when◌then◌else◌
  row_same true r q a c h = refl
  row_same false r q a c h = rows_same r q a c (h refl)

  mark_same : (t : Bool) (m k : Mark) → (t ≡ false → m ≡ k) → (when t then unknown else m) ≡ (when t then unknown else k)
  unfolding when◌then◌else◌
  mark_same true m k h = refl
  mark_same false m k h = h refl

  hidden_same : (i n k : ℕ) (s t : Cells) → CellsOf n s → CellsOf k t → text_of s ≡ text_of t
      → ((l : ℕ) → touches b e (i + l) ≡ false → get_or (marks_of s) l none ≡ get_or (marks_of t) l none)
      → ((l j : ℕ) → in_range b e (i + l) ≡ false → get_or (get_or (rows_of s) l []) j [] ≡ get_or (get_or (rows_of t) l []) j [])
      → hidden b e i s ≡ hidden b e i t
  unfolding hidden text_of marks_of rows_of
  hidden_same i n k (final c r) (final d q) g h x y z =
      let u = row_same (in_range b e i) r q g.1.is_cut h.1.is_cut (λ w j. z 0 j (rw add-zero w)) in
      let v : c ≡ d = cc in
      cc
  hidden_same i n k (final c r) (cell d q m t) g h x y z = absurd (text_some t (cc))
  hidden_same i n k (cell c r m s) (final d q) g h x y z = absurd (text_some s (cc))
  hidden_same i n k (cell c r m s) (cell d q l t) g h x y z =
      let u = row_same (in_range b e i) r q g.1.is_cut h.1.is_cut (λ w j. z 0 j (rw add-zero w)) in
      let v = mark_same (touches b e i) m l (λ w. y 0 (rw add-zero w)) in
      let o = hidden_same (i + 1) n k s t g.2 h.2 (cc)
      (λ a w. let f : i + suc a ≡ i + 1 + a = omega arith in y (suc a) (rw f w))
      (λ a j w. let f : i + suc a ≡ i + 1 + a = omega arith in z (suc a) j (rw f w)) in
      let p : c ≡ d = cc in
      cc

-- the withheld copies of two sentences that agree outside the range are the same
pub same_withheld : (b e : ℕ) (s t : Sentence) → Formed s → Formed t → Outside b e s t → withheld b e s ≡ withheld b e t
unfolding withheld trimmed
same_withheld b e s t f g o =
    let h = hidden_same b e 0 s.columns t.columns s.cells t.cells f.cells_are g.cells_are o.texts (λ i w. o.boundaries i (rw zero-add at w)) (λ i j w. o.tags i j (rw zero-add at w)) in
    ap (λ (c : Cells). record { cells = c; columns = widest c }) h

-- ---- an empty range hides nothing
nothing_in : (b i : ℕ) → in_range b b i ≡ false
nothing_in b i = none_in b b i (omega arith)

pub hidden_none : (b i : ℕ) (s : Cells) → hidden b b i s ≡ s
unfolding hidden touches when◌then◌else◌
hidden_none b i (final c r) = rw (nothing_in b i)
hidden_none b i (cell c r m s) = rw (nothing_in b i, nothing_in b (i + 1), hidden_none b (i + 1) s)

pub withheld_none : (b : ℕ) (s : Sentence) → withheld b b s ≡ trimmed s
unfolding withheld trimmed
withheld_none b s = rw (hidden_none b 0 s.cells)

-- ---- the columns in use
row_in : (n k : ℕ) (r : List Tag) → length r ≤ k → Row n r → Row k r
row_in n k r l h = record { chars = h.chars; is_cut = h.is_cut; fits = l }

cells_in : (n k : ℕ) (s : Cells) → widest s ≤ k → CellsOf n s → CellsOf k s
unfolding widest
cells_in n k (final c r) l h = (h.0, row_in n k r l h.1)
cells_in n k (cell c r m s) l h = (h.0, row_in n k r (omega arith) h.1, cells_in n k s (omega arith) h.2)

pub widest_few : (n : ℕ) (s : Cells) → CellsOf n s → widest s ≤ n
unfolding widest
widest_few n (final c r) h = h.1.fits
widest_few n (cell c r m s) h = omega (arith, h.1.fits, widest_few n s h.2)

pub formed_trimmed : (s : Sentence) → Formed s → Formed (trimmed s)
unfolding trimmed
formed_trimmed s f = record {
  cells_are = cells_in s.columns (widest s.cells) s.cells (omega arith) f.cells_are;
  text_fits = f.text_fits;
  columns_fit = omega (arith, f.columns_fit, widest_few s.columns s.cells f.cells_are);
  bytes_fit = f.bytes_fit;
}

-- no tag is present from there on
past_row : (r : List Tag) (j : ℕ) → length r ≤ j → get_or r j [] ≡ []
past_row [] j h = refl
past_row (t ∷ r) zero h = absurd (omega arith)
past_row (t ∷ r) (suc j) h = past_row r j (omega arith)

pub absent_past : (s : Cells) (i j : ℕ) → widest s ≤ j → get_or (get_or (rows_of s) i []) j [] ≡ []
unfolding widest rows_of
absent_past (final c r) zero j h = past_row r j h
absent_past (final c r) (suc i) j h = refl
absent_past (cell c r m s) zero j h = past_row r j (omega arith)
absent_past (cell c r m s) (suc i) j h = absent_past s i j (omega arith)

-- the last column in use has a present tag
cut_last : (t : Tag) (r : List Tag) → cut (t ∷ r) ≡ t ∷ r → get_or (t ∷ r) (length r) [] ≡ [] → ⊥
unfolding cut onto
cut_last [] [] e h = let z : ◌≡◌ {A = ℕ} 0 1 = cc in omega arith
cut_last (c ∷ t) [] e h = let z : ◌≡◌ {A = ℕ} 0 1 = cc in omega arith
cut_last t (u ∷ r) e h = cut_last u r (cut_rest t (u ∷ r) e) h

row_last : (w : ℕ) (r : List Tag) → cut r ≡ r → length r ≡ suc w → get_or r w [] ≡ [] → ⊥
row_last w [] e l h = omega arith
row_last w (t ∷ r) e l h = let k : w ≡ length r = omega arith in cut_last t r e (rw k at h)

pub present_last : (n w : ℕ) (s : Cells) → CellsOf n s → widest s ≡ suc w → (i : ℕ) × (get_or (get_or (rows_of s) i []) w [] ≡ [] → ⊥)
unfolding widest rows_of
present_last n w (final c r) h e = (0, row_last w r h.1.is_cut e)
present_last n w (cell c r m s) h e = on (leb (widest s) (length r)) refl (λ q. present_last n w s h.2 q)
  where
    on : (t : Bool) → leb (widest s) (length r) ≡ t → (widest s ≡ suc w → (i : ℕ) × (get_or (get_or (rows_of s) i []) w [] ≡ [] → ⊥))
        → (i : ℕ) × (get_or (get_or (r ∷ rows_of s) i []) w [] ≡ [] → ⊥)
    on true q f = (0, row_last w r h.1.is_cut (omega (arith, leb-true (widest s) (length r) q)))
    on false q f = let (i, p) = f (omega (arith, leb-false (widest s) (length r) q)) in (suc i, p)

-- ---- the withheld copy is a sentence too, and its line reads back
row_hidden : (n : ℕ) (t : Bool) (r : List Tag) → Row n r → Row n (when t then [] else r)
unfolding when◌then◌else◌ cut
row_hidden n true r h = record { chars = tt; is_cut = refl; fits = omega arith }
row_hidden n false r h = h

pub cells_hidden : (b e i n : ℕ) (s : Cells) → CellsOf n s → CellsOf n (hidden b e i s)
unfolding hidden
cells_hidden b e i n (final c r) h = (h.0, row_hidden n (in_range b e i) r h.1)
cells_hidden b e i n (cell c r m s) h = (h.0, row_hidden n (in_range b e i) r h.1, cells_hidden b e (i + 1) n s h.2)

pub cells_withheld : (b e : ℕ) (s : Sentence) → CellsOf s.columns s.cells → CellsOf (withheld b e s).columns (withheld b e s).cells
unfolding withheld trimmed
cells_withheld b e s h = cells_in s.columns _ (hidden b e 0 s.cells) (omega arith) (cells_hidden b e 0 s.columns s.cells h)

pub withheld_reads : (b e : ℕ) (s : Sentence) → CellsOf s.columns s.cells → length (written partial (withheld b e s)) ≤ 4096 → read partial (written partial (withheld b e s)) ≡ sentence (withheld b e s)
withheld_reads b e s h l = read_written partial (withheld b e s) (cells_withheld b e s h) tt l

-- ---- a copy is within the limits
fewer : (t : Bool) (r : List Tag) → row_bytes (when t then [] else r) ≤ row_bytes r
unfolding when◌then◌else◌ row_bytes
fewer true r = omega arith
fewer false r = omega arith

pub bytes_hidden : (b e i : ℕ) (s : Cells) → tag_bytes (rows_of (hidden b e i s)) ≤ tag_bytes (rows_of s)
unfolding hidden rows_of tag_bytes
bytes_hidden b e i (final c r) = omega (arith, fewer (in_range b e i) r)
bytes_hidden b e i (cell c r m s) = omega (arith, fewer (in_range b e i) r, bytes_hidden b e (i + 1) s)

pub text_hidden : (b e i : ℕ) (s : Cells) → text_of (hidden b e i s) ≡ text_of s
unfolding hidden text_of
text_hidden b e i (final c r) = refl
text_hidden b e i (cell c r m s) = rw (text_hidden b e (i + 1) s)

pub formed_withheld : (b e : ℕ) (s : Sentence) → Formed s → Formed (withheld b e s)
unfolding withheld
formed_withheld b e s f = formed_trimmed _ (record {
  cells_are = cells_hidden b e 0 s.columns s.cells f.cells_are;
  text_fits = rw (text_hidden b e 0 s.cells) f.text_fits;
  columns_fit = f.columns_fit;
  bytes_fit = omega (arith, f.bytes_fit, bytes_hidden b e 0 s.cells);
})

-- ---- it shows what stands outside the range
mark_shown : (b e i l : ℕ) (s : Cells) → touches b e (i + l) ≡ false → get_or (marks_of (hidden b e i s)) l none ≡ get_or (marks_of s) l none
unfolding hidden marks_of
mark_shown b e i l (final c r) h = refl
mark_shown b e i zero (cell c r m s) h = if_false _ _ _ (rw add-zero at h)
mark_shown b e i (suc l) (cell c r m s) h = let f : i + suc l ≡ i + 1 + l = omega arith in mark_shown b e (i + 1) l s (rw f at h)

-- a row is hidden or as it was
none_either : (t : Bool) → ◌≡◌ {A = List Tag} [] (when t then [] else [])
unfolding when◌then◌else◌
none_either true = refl
none_either false = refl

pub row_at : (b e i l : ℕ) (s : Cells) → get_or (rows_of (hidden b e i s)) l [] ≡ (when in_range b e (i + l) then [] else get_or (rows_of s) l [])
unfolding hidden rows_of
row_at b e i zero (final c r) = rw add-zero
row_at b e i (suc l) (final c r) = none_either (in_range b e (i + suc l))
row_at b e i zero (cell c r m s) = rw add-zero
row_at b e i (suc l) (cell c r m s) = let f : i + suc l ≡ i + 1 + l = omega arith in rw f (row_at b e (i + 1) l s)

row_shown : (b e i l : ℕ) (s : Cells) → in_range b e (i + l) ≡ false → get_or (rows_of (hidden b e i s)) l [] ≡ get_or (rows_of s) l []
row_shown b e i l s h = row_at b e i l s ∙ if_false _ _ _ h

pub outside_copy : (b e : ℕ) (s : Sentence) → Outside b e s (withheld b e s)
unfolding withheld trimmed
outside_copy b e s = record {
  texts = sym (text_hidden b e 0 s.cells);
  boundaries = λ i h. sym (mark_shown b e 0 i s.cells (rw zero-add h));
  tags = λ i j h. ap (λ (r : List Tag). get_or r j []) (sym (row_shown b e 0 i s.cells (rw zero-add h)));
}

outside_back : {b e : ℕ} {s t : Sentence} → Outside b e s t → Outside b e t s
outside_back o = record { texts = sym o.texts; boundaries = λ i h. sym (o.boundaries i h); tags = λ i j h. sym (o.tags i j h) }

outside_on : {b e : ℕ} {s t u : Sentence} → Outside b e s t → Outside b e t u → Outside b e s u
outside_on o p = record { texts = o.texts ∙ p.texts; boundaries = λ i h. o.boundaries i h ∙ p.boundaries i h; tags = λ i j h. o.tags i j h ∙ p.tags i j h }

-- so the lines of two copies are the same exactly where the sentences agree outside the range
pub copies_told_apart : (b e : ℕ) (s t : Sentence) → Formed s → Formed t → (written partial (withheld b e s) ≡ written partial (withheld b e t)) ↔ Outside b e s t
copies_told_apart b e s t f g = (
  λ q.
      let w = same_read partial (withheld b e s) (withheld b e t) (formed_withheld b e s f) (formed_withheld b e t g) tt tt q in
      outside_on (subst (Outside b e s) w (outside_copy b e s)) (outside_back (outside_copy b e t)),
  λ o. ap (written partial) (same_withheld b e s t f g o),
)

-- ---- withholding a range and then one that holds it
-- every character of the range b..e is one of c..f
module _ (b e c f : ℕ) (h : (i : ℕ) → in_range b e i ≡ true → in_range c f i ≡ true) where
  not_in : (i : ℕ) → in_range c f i ≡ false → in_range b e i ≡ false
  not_in i k = on (in_range b e i) refl
    where
      on : (t : Bool) → in_range b e i ≡ t → t ≡ false
      on true q = absurd (false≢true (sym k ∙ h i q))
      on false q = refl

  not_touched : (i : ℕ) → touches c f i ≡ false → touches b e i ≡ false
  unfolding touches
  not_touched i k = let z = neither (in_range c f i) (in_range c f (i + 1)) k in rw (not_in i z.0, not_in (i + 1) z.1)

  wider : (s t : Sentence) → Outside b e s t → Outside c f s t
  wider s t o = record { texts = o.texts; boundaries = λ i k. o.boundaries i (not_touched i k); tags = λ i j k. o.tags i j (not_in i k) }

  -- leaves what the wider alone leaves; withholding a range again changes nothing
  pub withheld_wider : (s : Sentence) → Formed s → withheld c f (withheld b e s) ≡ withheld c f s
  withheld_wider s g = sym (same_withheld c f s (withheld b e s) g (formed_withheld b e s g) (wider s (withheld b e s) (outside_copy b e s)))

-- ---- with every character withheld it is what the raw reader gives for the text
in_all : (e i : ℕ) → i < e → in_range 0 e i ≡ true
in_all e i h = in_range_lem 0 e i (omega arith) h

-- the text's characters, as the raw reader takes them
unfoldable letters : Mark → List ℕ → List Act
letters m [] = []
letters m (c ∷ x) = letter m c ∷ letters unknown x

raw_runs : (σ : State) (m : Mark) (n : ℕ) (s : Cells) → ((c : ℕ) → step raw σ plain c ≡ go (at behind) (letter m c)) → CellsOf n s
    → run raw σ (text_of s) ≡ whole (letters m (text_of s))
unfolding run advance follow push finish ending kind step inside ordinary letters text_of when◌then◌else◌
raw_runs σ m n (final c r) h k = rw (k.0.not_nul, h c)
raw_runs σ m n (cell c r l s) h k = rw (k.0.not_nul, h c, raw_runs (at behind) unknown n s (λ d. refl) k.2)

gather_letters : (e i : ℕ) (m : Mark) (s : Cells) → i + length (text_of s) ≤ e → gather (letters m (text_of s)) ≡ parsed [] [] 0 (next m (hidden 0 e i s))
unfolding gather add before letters text_of hidden touches cut when◌then◌else◌
gather_letters e i m (final c r) h = rw (in_all e i (omega arith))
gather_letters e i m (cell c r l s) h = rw (in_all e i (omega arith), gather_letters e (i + 1) unknown s (omega arith))

widest_all : (e i : ℕ) (s : Cells) → i + length (text_of s) ≤ e → widest (hidden 0 e i s) ≡ 0
unfolding widest text_of hidden when◌then◌else◌
widest_all e i (final c r) h = rw (in_all e i (omega arith))
widest_all e i (cell c r l s) h = rw (in_all e i (omega arith), widest_all e (i + 1) s (omega arith))

pub withheld_all : (e : ℕ) (s : Sentence) → Formed s → count s ≤ e → read raw (encodes (text s)) ≡ sentence (withheld 0 e s)
unfolding withheld trimmed step ordinary gathered
withheld_all e s f h =
    let u = All-imp Char _ (λ c p. p.is_scalar) (text s) (text_chars s.columns s.cells f.cells_are) in
    let l : length (encodes (text s)) ≤ 4096 = omega (arith, length_encodes (text s), f.text_fits) in
    let z : 0 + count s ≤ e = omega arith in
    let g = ap gathered (raw_runs (at start) none s.columns s.cells (λ c. refl) f.cells_are) ∙ ap got (gather_letters e 0 none s.cells z) in
    rw (widest_all e 0 s.cells z) (read_chars raw (text s) 0 none _ u l g)

-- so the text alone tells it
pub withheld_by_text : (e : ℕ) (s t : Sentence) → Formed s → Formed t → count s ≤ e → text s ≡ text t → withheld 0 e s ≡ withheld 0 e t
withheld_by_text e s t f g h q =
    let x = withheld_all e s f h in
    let y = withheld_all e t g (rw (← q) h) in
    let z : read raw (encodes (text s)) ≡ read raw (encodes (text t)) = ap (λ (w : List ℕ). read raw (encodes w)) q in
    cc

-- ---- the copy is what is asked, and only it is
mark_unknown : (b e i l : ℕ) (s : Cells) → l + 1 < length (text_of s) → touches b e (i + l) ≡ true → get_or (marks_of (hidden b e i s)) l none ≡ unknown
unfolding hidden marks_of text_of
mark_unknown b e i l (final c r) k h = absurd (omega arith)
mark_unknown b e i zero (cell c r m s) k h = if_true _ _ _ (rw add-zero at h)
mark_unknown b e i (suc l) (cell c r m s) k h = let f : i + suc l ≡ i + 1 + l = omega arith in mark_unknown b e (i + 1) l s (omega arith) (rw f at h)

row_absent : (b e i l : ℕ) (s : Cells) → in_range b e (i + l) ≡ true → get_or (rows_of (hidden b e i s)) l [] ≡ []
row_absent b e i l s h = row_at b e i l s ∙ if_true _ _ _ h

pub withheld_copy : (b e : ℕ) (s : Sentence) → Formed s → Copy b e s (withheld b e s)
unfolding withheld trimmed
withheld_copy b e s f = record {
  agrees = outside_copy b e s;
  unknowns = λ i k h. mark_unknown b e 0 i s.cells k (rw zero-add h);
  absents = absent;
  none_past = λ i j h k. (outside_copy b e s).tags i j h ∙ absent_past (hidden b e 0 s.cells) i j k;
  one_last = last;
}
  where
    absent : (i j : ℕ) → in_range b e i ≡ true → tag_in (withheld b e s) i j ≡ []
    absent i j h = ap (λ (r : List Tag). get_or r j []) (row_absent b e 0 i s.cells (rw zero-add h))

    last : (j : ℕ) → widest (hidden b e 0 s.cells) ≡ suc j → (i : ℕ) × (in_range b e i ≡ false) × (tag_in s i j ≡ [] → ⊥)
    last j q =
        let (i, p) = present_last s.columns j (hidden b e 0 s.cells) (cells_hidden b e 0 s.columns s.cells f.cells_are) q in
        let o = outer i j p (in_range b e i) refl in
        (i, o, λ z. p (sym ((outside_copy b e s).tags i j o) ∙ z))
      where
        outer : (i j : ℕ) → (tag_in (withheld b e s) i j ≡ [] → ⊥) → (t : Bool) → in_range b e i ≡ t → t ≡ false
        outer i j p true h = absurd (p (absent i j h))
        outer i j p false h = refl

-- two copies have the same boundaries, the same tags and as many columns
past_marks : (s : Cells) (i : ℕ) → length (text_of s) ≤ i + 1 → get_or (marks_of s) i none ≡ none
unfolding text_of marks_of
past_marks (final c r) i h = refl
past_marks (cell c r m (final d q)) zero h = absurd (omega arith)
past_marks (cell c r m (cell d q l s)) zero h = absurd (omega arith)
past_marks (cell c r m s) (suc i) h = past_marks s i (omega arith)

marks_same : (b e : ℕ) (s t u : Sentence) → Copy b e s t → Copy b e s u → (i : ℕ) → get_or (marks t) i none ≡ get_or (marks u) i none
marks_same b e s t u p q i = on (touches b e i) refl
  where
    inner : touches b e i ≡ true → (v : Bool) → ltb (i + 1) (count s) ≡ v → get_or (marks t) i none ≡ get_or (marks u) i none
    inner h true k = p.unknowns i (ltb-true (i + 1) (count s) k) h ∙ sym (q.unknowns i (ltb-true (i + 1) (count s) k) h)
    inner h false k =
        let l = ltb-false (i + 1) (count s) k in
        past_marks t.cells i (rw (← p.agrees.texts) l) ∙ sym (past_marks u.cells i (rw (← q.agrees.texts) l))

    on : (v : Bool) → touches b e i ≡ v → get_or (marks t) i none ≡ get_or (marks u) i none
    on true h = inner h (ltb (i + 1) (count s)) refl
    on false h = sym (p.agrees.boundaries i h) ∙ q.agrees.boundaries i h

tags_same : (b e : ℕ) (s t u : Sentence) → Copy b e s t → Copy b e s u → (i j : ℕ) → tag_in t i j ≡ tag_in u i j
tags_same b e s t u p q i j = on (in_range b e i) refl
  where
    on : (v : Bool) → in_range b e i ≡ v → tag_in t i j ≡ tag_in u i j
    on true h = p.absents i j h ∙ sym (q.absents i j h)
    on false h = sym (p.agrees.tags i j h) ∙ q.agrees.tags i j h

columns_most : (b e : ℕ) (s t u : Sentence) → Copy b e s t → Copy b e s u → t.columns ≤ u.columns
columns_most b e s t u p q = on t.columns refl
  where
    on : (n : ℕ) → t.columns ≡ n → n ≤ u.columns
    on zero h = omega arith
    on (suc j) h = let (i, o, k) = p.one_last j h in by (leb u.columns j) refl (λ l. k (q.none_past i j o l))
      where
        by : (v : Bool) → leb u.columns j ≡ v → (u.columns ≤ j → ⊥) → suc j ≤ u.columns
        by true z f = absurd (f (leb-true u.columns j z))
        by false z f = omega (arith, leb-false u.columns j z)

pub copy_once : (b e : ℕ) (s t u : Sentence) → Formed t → Formed u → Copy b e s t → Copy b e s u → t ≡ u
copy_once b e s t u f g p q =
    let h =
    hidden_same 0 0 0 t.columns u.columns t.cells u.cells f.cells_are g.cells_are (sym p.agrees.texts ∙ q.agrees.texts)
    (λ i k. marks_same b e s t u p q i) (λ i j k. tags_same b e s t u p q i j) in
    let c : t.cells ≡ u.cells = sym (hidden_none 0 0 t.cells) ∙ h ∙ hidden_none 0 0 u.cells in
    let n : t.columns ≡ u.columns = omega (arith, columns_most b e s t u p q, columns_most b e s u t q p) in
    ap (λ (x : Cells). record { cells = x; columns = t.columns }) c ∙ ap (λ (m : ℕ). record { cells = u.cells; columns = m }) n
