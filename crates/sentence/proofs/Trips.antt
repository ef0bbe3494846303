-- The trips, on characters: reading what a form writes gives the sentence. Assumes nothing.
use Prim.Native.Nat.{ℕ, zero, suc, ◌+◌, ◌-◌, ◌≤◌, max}
use mathlib.Core.Path.{◌≡◌, refl, sym, ap, ◌∙◌}
use mathlib.Core.Bool.{true, false}
use mathlib.Core.List.{List, [], ◌∷◌, ◌++◌, map, append_assoc, append-nil}
use native.Mathlib.Omega.{arith}
use lib.Dec.{eqb}
use lib.ListN.{length, take, drop, get_or, replicate, length-append, length-replicate, replicate-append-replicate}
use lib.Seq.{take_at, drop_at, drop-drop, get_or-drop}
use Rattle.laws.specs.If.{when◌then◌else◌}
use Rattle.laws.specs.All.{All, All-append}
use Rattle.sentence.specs.Sentence.{Tag, Mark, none, word, unknown, Cells, final, cell, Sentence, text_of, marks_of, rows_of, text, rows, onto, cut, pad, Char, Row, CellsOf}
use Rattle.sentence.specs.declared.Form.{Form}
use Rattle.sentence.specs.declared.Form.TheVariants.{Raw as raw, Tokenized as tokenized, Partial as partial}
use Rattle.sentence.specs.Reading.{Annotated, Kind, mark, back, plain, kind, Place, start, behind, gap, at, escaped, skip, letter, go, ordinary, inside, opening, step, next, parsed, before, add}
use Rattle.sentence.specs.Writing.{token, tokens, escape_as, escape, write_tags, write_token, joined, sign, shown, write_partial, line}
use Rattle.sentence.proofs.Runs.{got, adds, reads, reads_go, reads_char, reads_tags, follows_mark, follows_end}

-- ---- rows and what is written of them
pub all_absent : (k : ℕ) → All (All Char) (replicate k [])
all_absent zero = tt
all_absent (suc k) = (tt, all_absent k)

cut_absent : (k : ℕ) → cut (replicate k []) ≡ []
unfolding cut onto
cut_absent zero = refl
cut_absent (suc k) = rw (cut_absent k)

cut_append : (r : List Tag) (k : ℕ) → cut (r ++ replicate k []) ≡ cut r
unfolding cut
cut_append [] k = cut_absent k
cut_append (t ∷ r) k = rw (cut_append r k)

pub cut_pad : (n : ℕ) (r : List Tag) → cut (pad n r) ≡ cut r
unfolding pad
cut_pad n r = cut_append r (n - length r)

-- what is cut off a row are absent tags
cut_refilled : (ts : List Tag) → cut ts ++ replicate (length ts - length (cut ts)) [] ≡ ts
unfolding cut onto
cut_refilled [] = refl
cut_refilled (t ∷ us) = on t (cut us) (cut_refilled us)
  where
    on : (t : Tag) (x : List Tag) → x ++ replicate (length us - length x) [] ≡ us → onto t x ++ replicate (suc (length us) - length (onto t x)) [] ≡ t ∷ us
    on [] [] e =
        let f : length us - 0 ≡ length us = omega arith in
        let q : suc (length us) - 0 ≡ suc (length us) = omega arith in
        rw q (ap (λ (l : List Tag). [] ∷ l) (rw f at e))
    on (c ∷ t) [] e = let f : suc (length us) - 1 ≡ length us - 0 = omega arith in rw f (ap (λ (l : List Tag). (c ∷ t) ∷ l) e)
    on t (v ∷ vs) e =
        let f : suc (length us) - suc (suc (length vs)) ≡ length us - suc (length vs) = omega arith in rw f (ap (λ (l : List Tag). t ∷ l) e)

-- a row that is as long as there are columns
pub pad_whole : (n : ℕ) (ts : List Tag) → length ts ≡ n → pad n (cut ts) ≡ ts
unfolding pad
pad_whole n ts e = rw (← e) (cut_refilled ts)

-- a row is padded as it is with its last absent tags
pub pad_cut : (n : ℕ) (ts : List Tag) → length ts ≤ n → pad n (cut ts) ≡ pad n ts
unfolding pad
pad_cut n ts h =
    let r = cut_refilled ts in
    let l : length (cut ts) ≤ length ts = omega (arith, ap length r, length-append (cut ts) (replicate (length ts - length (cut ts)) [])) in
    let f : (length ts - length (cut ts)) + (n - length ts) ≡ n - length (cut ts) = omega arith in
    sym (ap (λ (l : List Tag). l ++ replicate (n - length ts) []) (sym r) ∙ rw (append_assoc, replicate-append-replicate, f))

pub pad_length : (n : ℕ) (r : List Tag) → length r ≤ n → length (pad n r) ≡ n
unfolding pad
pad_length n r h = simp (length-append, length-replicate) (omega arith)

-- the tags `us` that are written for the row `r`
pub record Shows (n : ℕ) (r us : List Tag) : Type 0 where
  pub chars : All (All Char) us
  pub row : cut us ≡ r
  pub fits : length us ≤ n

pub pad_shows : (n : ℕ) (r : List Tag) → Row n r → Shows n r (pad n r)
unfolding pad
pad_shows n r h = record {
  chars = All-append (All Char) r (replicate (n - length r) []) h.chars (all_absent (n - length r));
  row = cut_append r (n - length r) ∙ h.is_cut;
  fits = simp (length-append, length-replicate) (omega arith);
}

cut_shows : (n : ℕ) (r : List Tag) → Row n r → Shows n r (cut r)
cut_shows n r h = record { chars = rw h.is_cut h.chars; row = rw (h.is_cut, h.is_cut); fits = rw h.is_cut h.fits }

pub shown_shows : (n : ℕ) (m : Mark) (r : List Tag) → Row n r → Shows n r (shown n m r)
unfolding shown
shown_shows n none r h = cut_shows n r h
shown_shows n word r h = pad_shows n r h
shown_shows n unknown r h = cut_shows n r h

-- ---- a character and its tags
module _ (f : Form) (an : Annotated f) (n c : ℕ) (r : List Tag) (h : Row n r) (m : Mark) where
  -- at the end, all columns
  last_cell : adds (letter m c) (reads f (at behind) (write_tags f (pad n r))) ≡ got (parsed [] [] n (next m (final c r)))
  unfolding adds add before
  last_cell =
      let s = pad_shows n r h in
      let w = reads_tags f an (pad n r) [] s.chars (follows_end f) in
      let e : max (length (pad n r)) 0 ≡ n = omega (arith, pad_length n r h.fits) in
      rw (rw (append-nil, append-nil) at w.from_char, s.row, e)

  -- before a boundary k, the tags `us`, and what follows
  one_cell : (us : List Tag) (k : Mark) (g : ℕ) (x : List ℕ) (u : Cells) → Shows n r us → kind f g ≡ mark k → eqb g 0 ≡ false
      → reads f (at (gap k)) x ≡ got (parsed [] [] n (next k u))
      → adds (letter m c) (reads f (at behind) (write_tags f us ++ (g ∷ x))) ≡ got (parsed [] [] n (next m (cell c r k u)))
  unfolding adds add before
  one_cell us k g x u s e z i =
      let w = reads_tags f an us (g ∷ x) s.chars (follows_mark f an k g x e z i) in
      let l : max (length us) n ≡ n = omega (arith, s.fits) in
      rw (rw append-nil at w.from_char, s.row, l)

-- ---- the partial form
pub kind_sign : (m : Mark) → kind partial (sign m) ≡ mark m
unfolding kind sign when◌then◌else◌
kind_sign none = refl
kind_sign word = refl
kind_sign unknown = refl

pub char_sign : (m : Mark) → eqb (sign m) 0 ≡ false
unfolding sign
char_sign none = refl
char_sign word = refl
char_sign unknown = refl

-- where a character is taken literally, with the boundary m before it
pub record Literal (p : Place) (m : Mark) : Type 0 where
  pub literally : (k : Kind) (c : ℕ) → step partial (at p) k c ≡ go (at behind) (letter m c)

pub literal_gap : (m : Mark) → Literal (gap m) m
unfolding step ordinary
literal_gap m = record { literally = λ k c. refl }

pub literal_start : Literal start none
unfolding step ordinary
literal_start = record { literally = λ k c. refl }

reads_partial : (s : Cells) (n : ℕ) {p : Place} {m : Mark} → Literal p m → CellsOf n s → reads partial (at p) (write_partial n s) ≡ got (parsed [] [] n (next m s))
unfolding write_partial
reads_partial (final c r) n {p} {m} l h =
    reads_go partial (at p) (kind partial c) c _ refl h.0.not_nul (l.literally (kind partial c) c) ∙ last_cell partial tt n c r h.1 m
reads_partial (cell c r k s) n {p} {m} l h =
    reads_go partial (at p) (kind partial c) c _ refl h.0.not_nul (l.literally (kind partial c) c)
    ∙ one_cell partial tt n c r h.1 m (shown n k r) k (sign k) _ s (shown_shows n k r h.1) (kind_sign k) (char_sign k) (reads_partial s n (literal_gap k) h.2)

-- ---- the tokenized form
-- every boundary is known, and no character inside a token has a tag
abbrev pub Whole : Cells → Type 0
Whole (final c r) = Unit {0}
Whole (cell c r none s) = (r ≡ []) × Whole s
Whole (cell c r word s) = Whole s
Whole (cell c r unknown s) = ⊥

-- the tokens one after another
unfoldable pub plainly : ℕ → Cells → List ℕ
plainly n (final c r) = escape_as (kind tokenized c) c ++ write_tags tokenized (pad n r)
plainly n (cell c r none s) = escape_as (kind tokenized c) c ++ plainly n s
plainly n (cell c r word s) = escape_as (kind tokenized c) c ++ (write_tags tokenized (pad n r) ++ (32 ∷ plainly n s))
plainly n (cell c r unknown s) = []

-- where an ordinary character is text, with the boundary m before it
pub record Takes (p : Place) (m : Mark) : Type 0 where
  pub escapes : step tokenized (at p) back 92 ≡ go (escaped p) skip
  pub plainly_so : (c : ℕ) → step tokenized (at p) plain c ≡ ordinary tokenized p c
  pub puts : (c : ℕ) → ordinary tokenized p c ≡ go (at behind) (letter m c)

pub takes_start : Takes start none
unfolding step opening ordinary
takes_start = record { escapes = refl; plainly_so = λ c. refl; puts = λ c. refl }

pub takes_behind : Takes behind none
unfolding step inside ordinary
takes_behind = record { escapes = refl; plainly_so = λ c. refl; puts = λ c. refl }

pub takes_gap : (m : Mark) → Takes (gap m) m
unfolding step opening ordinary
takes_gap m = record { escapes = refl; plainly_so = λ c. refl; puts = λ c. refl }

pub takes : {p : Place} {m : Mark} → Takes p m → (c : ℕ) (x : List ℕ) → eqb c 0 ≡ false
    → reads tokenized (at p) (escape_as (kind tokenized c) c ++ x) ≡ adds (letter m c) (reads tokenized (at behind) x)
takes {p} o c x z = reads_char tokenized tt p (kind tokenized c) c x refl z o.escapes (o.plainly_so c) (o.puts c)

pub kind_space : kind tokenized 32 ≡ mark word
unfolding kind when◌then◌else◌
kind_space = refl

text_cell : (m : Mark) (c : ℕ) (s : Cells) (n : ℕ) → adds (letter m c) (got (parsed [] [] n (next none s))) ≡ got (parsed [] [] n (next m (cell c [] none s)))
unfolding adds add before cut
text_cell m c s n = let e : max 0 n ≡ n = omega arith in rw e

reads_plainly : (s : Cells) (n : ℕ) {p : Place} {m : Mark} → Takes p m → CellsOf n s → Whole s → reads tokenized (at p) (plainly n s) ≡ got (parsed [] [] n (next m s))
unfolding plainly
reads_plainly (final c r) n {m = m} o h w = takes o c _ h.0.not_nul ∙ last_cell tokenized tt n c r h.1 m
reads_plainly (cell c r none s) n {m = m} o h w =
    takes o c _ h.0.not_nul ∙ rw (reads_plainly s n takes_behind h.2 w.1) (text_cell m c s n ∙ rw w.0)
reads_plainly (cell c r word s) n {m = m} o h w =
    takes o c _ h.0.not_nul
    ∙ one_cell tokenized tt n c r h.1 m (pad n r) word 32 _ s (pad_shows n r h.1) kind_space refl (reads_plainly s n (takes_gap word) h.2 w)
reads_plainly (cell c r unknown s) n o h w = absurd w

-- ---- the tokenized line of such a sentence is its tokens one after another
pub escape_append : (f : Form) (u v : List ℕ) → escape f (u ++ v) ≡ escape f u ++ escape f v
unfolding escape
escape_append f [] v = refl
escape_append f (c ∷ u) v = rw (escape_append f u v, append_assoc)

joined_one : (w : List ℕ) → joined (w ∷ []) ≡ w
unfolding joined
joined_one w = refl

joined_cons : (w : List ℕ) (l : List (List ℕ)) → (l ≡ [] → ⊥) → joined (w ∷ l) ≡ w ++ (32 ∷ joined l)
unfolding joined
joined_cons w [] h = absurd (h refl)
joined_cons w (v ∷ l) h = refl

module _ (S : Sentence) where
  -- at the cell that starts `u`, with the characters `w` of its token before it, which began at b
  record Stands (b i : ℕ) (w : List ℕ) (u : Cells) : Type 0 where
    chars : drop b (text S) ≡ w ++ text_of u
    rows_are : drop i (rows S) ≡ rows_of u
    place : b + length w ≡ i

  more_rows : (i : ℕ) (r : List Tag) (rs : List (List Tag)) → drop i (rows S) ≡ r ∷ rs → drop (i + 1) (rows S) ≡ rs
  more_rows i r rs e = sym (drop-drop 1 i (rows S)) ∙ ap (drop 1) e

  -- the text after the character c
  after : (b i : ℕ) (w : List ℕ) (c : ℕ) (v : List ℕ) → drop b (text S) ≡ w ++ (c ∷ v) → b + length w ≡ i → drop (i + 1) (text S) ≡ v
  after b i w c v e g =
      let k : length (w ++ (c ∷ [])) ≡ length w + 1 = simp length-append refl in
      let q : b + (length w + 1) ≡ i + 1 = omega arith in
      ap (λ (j : ℕ). drop j (text S)) (sym q) ∙ sym (drop-drop (length w + 1) b (text S)) ∙ ap (drop (length w + 1)) (e ∙ sym (append_assoc w (c ∷ []) v)) ∙ drop_at (w ++ (c ∷ [])) v (length w + 1) k

  row_here : (i : ℕ) (r : List Tag) (rs : List (List Tag)) → drop i (rows S) ≡ r ∷ rs → get_or (rows S) (i + 1 - 1) [] ≡ r
  row_here i r rs e =
      let z : i + 1 - 1 ≡ i + 0 = omega arith in
      rw z (sym (get_or-drop i (rows S) 0 []) ∙ ap (λ (l : List (List Tag)). get_or l 0 []) e)

  -- the token that ends with the character c and the row r
  token_line_lem : (b i : ℕ) (w : List ℕ) (c : ℕ) (r : List Tag) (v : List ℕ) (rs : List (List Tag))
      → drop b (text S) ≡ w ++ (c ∷ v) → drop i (rows S) ≡ r ∷ rs → b + length w ≡ i
      → write_token S (token b (i + 1)) ≡ escape tokenized w ++ (escape_as (kind tokenized c) c ++ write_tags tokenized (pad S.columns r))
  unfolding write_token escape
  token_line_lem b i w c r v rs e f g =
      let k : length (w ++ (c ∷ [])) ≡ i + 1 - b = simp length-append (omega arith) in
      let t : take (i + 1 - b) (drop b (text S)) ≡ w ++ (c ∷ []) =
      ap (take (i + 1 - b)) (e ∙ sym (append_assoc w (c ∷ []) v)) ∙ take_at (w ++ (c ∷ [])) v (i + 1 - b) k in
      rw (t, row_here i r rs f, escape_append tokenized w (c ∷ []), append-nil, append_assoc)

  tokens_some : (u : Cells) (b e : ℕ) → Whole u → map (write_token S) (tokens true b e (marks_of u)) ≡ [] → ⊥
  unfolding tokens marks_of
  tokens_some (final c r) b e h z = let q : ◌≡◌ {A = ℕ} 0 1 = cc in omega arith
  tokens_some (cell c r none u) b e h z = tokens_some u b (e + 1) h.1 z
  tokens_some (cell c r word u) b e h z = let q : ◌≡◌ {A = ℕ} 0 1 = cc in omega arith
  tokens_some (cell c r unknown u) b e h z = h

  line_from : (u : Cells) (b i : ℕ) (w : List ℕ) → Whole u → Stands b i w u
      → joined (map (write_token S) (tokens true b (i + 1) (marks_of u))) ≡ escape tokenized w ++ plainly S.columns u
  unfolding tokens marks_of text_of rows_of plainly escape
  line_from (final c r) b i w h s = joined_one _ ∙ token_line_lem b i w c r [] [] s.chars s.rows_are s.place
  line_from (cell c r none u) b i w h s =
      line_from u b (i + 1) (w ++ (c ∷ [])) h.1 (record {
        chars = s.chars ∙ sym (append_assoc w (c ∷ []) (text_of u));
        rows_are = more_rows i r (rows_of u) s.rows_are;
        place = simp length-append (omega (arith, s.place));
      }) ∙ rw (escape_append tokenized w (c ∷ []), append-nil, append_assoc)
  line_from (cell c r word u) b i w h s =
      joined_cons _ _ (tokens_some u (i + 1) (i + 1 + 1) h)
      ∙ rw (
        token_line_lem b i w c r (text_of u) (rows_of u) s.chars s.rows_are s.place,
        line_from u (i + 1) (i + 1) [] h (record { chars = after b i w c (text_of u) s.chars s.place; rows_are = more_rows i r (rows_of u) s.rows_are; place = omega arith }),
      ) (simp append_assoc)
  line_from (cell c r unknown u) b i w h s = absurd h

pub line_plainly : (S : Sentence) → Whole S.cells → line tokenized S ≡ plainly S.columns S.cells
unfolding line escape
line_plainly S h = line_from S S.cells 0 0 [] h (record { chars = refl; rows_are = refl; place = refl })

-- what a form can write and read again
abbrev pub Fits : Form → Cells → Type 0
Fits raw s = ⊥
Fits tokenized s = Whole s
Fits partial s = Unit {0}

-- a form reads what it wrote
pub reads_line : (f : Form) (s : Sentence) → CellsOf s.columns s.cells → Fits f s.cells → reads f (at start) (line f s) ≡ got (parsed [] [] s.columns (next none s.cells))
unfolding line
reads_line raw s h w = absurd w
reads_line tokenized s h w = rw (line_plainly s w) (reads_plainly s.cells s.columns takes_start h w)
reads_line partial s h w = reads_partial s.cells s.columns literal_start h
