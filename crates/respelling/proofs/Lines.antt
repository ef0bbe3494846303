-- The lines of an input that is cut anywhere. Assumes nothing.
use Prim.Native.Nat.{ℕ, suc, ◌+◌, ◌≤◌, ◌<◌}
use native.Mathlib.Omega.{arith}
use mathlib.Core.Path.{◌≡◌, refl, sym, ◌∙◌}
use mathlib.Core.Bool.{Bool, true, false}
use mathlib.Core.List.{List, [], ◌∷◌, ◌++◌}
use lib.Dec.{eqb}
use lib.ListN.{length, take, drop}
use Rattle.laws.specs.If.{if_true, if_false}
use Rattle.respelling.specs.Respell.{before, lines}
use Rattle.respelling.specs.Stream.{line_len, past_line}

module _ (b : ℕ) (s : List ℕ) where
  pub len_feed : eqb b 10 ≡ true → line_len (b ∷ s) ≡ 0
  unfolding line_len
  len_feed e = if_true _ _ _ e

  pub len_byte : eqb b 10 ≡ false → line_len (b ∷ s) ≡ suc (line_len s)
  unfolding line_len
  len_byte e = if_false _ _ _ e

  pub lines_feed : eqb b 10 ≡ true → lines (b ∷ s) ≡ [] ∷ lines s
  unfolding lines
  lines_feed e = if_true _ _ _ e

  pub lines_byte : eqb b 10 ≡ false → lines (b ∷ s) ≡ before b (lines s)
  unfolding lines
  lines_byte e = if_false _ _ _ e

-- ---- a piece that has an LF
-- its first line is the whole's
abbrev Cut : List ℕ → List ℕ → Type 0
Cut s y = lines (s ++ y) ≡ take (line_len s) s ∷ lines (drop (line_len s + 1) s ++ y)

cut_byte : (b : ℕ) (s y : List ℕ) → (line_len s < length s → Cut s y) → (t : Bool) → eqb b 10 ≡ t → line_len (b ∷ s) < length (b ∷ s) → Cut (b ∷ s) y
unfolding before
cut_byte b s y i true e h = rw (lines_feed b (s ++ y) e, len_feed b s e)
cut_byte b s y i false e h =
    let p : line_len (b ∷ s) ≡ suc (line_len s) = len_byte b s e in
    let q : suc (line_len s) + 1 ≡ suc (line_len s + 1) = omega arith in
    rw (lines_byte b (s ++ y) e, p, q, i (omega arith))

pub cut_line : (s y : List ℕ) → line_len s < length s → Cut s y
cut_line [] y h = absurd (omega arith)
cut_line (b ∷ s) y h = cut_byte b s y (cut_line s y) (eqb b 10) refl h

-- the LF stands where it stood
same_byte : (b : ℕ) (s y : List ℕ) → (line_len s < length s → line_len (s ++ y) ≡ line_len s) → (t : Bool) → eqb b 10 ≡ t → line_len (b ∷ s) < length (b ∷ s)
    → line_len (b ∷ (s ++ y)) ≡ line_len (b ∷ s)
same_byte b s y i true e h = len_feed b (s ++ y) e ∙ sym (len_feed b s e)
same_byte b s y i false e h = let p = len_byte b s e in len_byte b (s ++ y) e ∙ rw (p, i (omega arith))

pub same_len : (s y : List ℕ) → line_len s < length s → line_len (s ++ y) ≡ line_len s
same_len [] y h = absurd (omega arith)
same_len (b ∷ s) y h = same_byte b s y (same_len s y) (eqb b 10) refl h

-- ---- a piece that has none
-- a byte that is no LF, and the bytes after it
record NoFeed (b : ℕ) (s : List ℕ) : Type 0 where
  first : eqb b 10 ≡ false
  others : length s ≤ line_len s

no_feed : (b : ℕ) (s : List ℕ) → length (b ∷ s) ≤ line_len (b ∷ s) → NoFeed b s
no_feed b s h = on (eqb b 10) refl
  where
    on : (t : Bool) → eqb b 10 ≡ t → NoFeed b s
    on true e = absurd (omega (arith, len_feed b s e))
    on false e = record { first = e; others = omega (arith, len_byte b s e) }

-- such bytes begin the line that goes on with the first line behind them
abbrev Open : ℕ → List ℕ → List ℕ → Type 0
Open b s y = lines (b ∷ (s ++ y)) ≡ (b ∷ (s ++ take (line_len y) y)) ∷ lines (past_line y)

-- an input that is not empty has a first line
abbrev First : List ℕ → Type 0
First y = lines y ≡ take (line_len y) y ∷ lines (past_line y)

first_feed : (c : ℕ) (y : List ℕ) → eqb c 10 ≡ true → First (c ∷ y)
unfolding past_line
first_feed c y e = rw (lines_feed c y e, len_feed c y e)

first_byte : (c : ℕ) (y : List ℕ) → eqb c 10 ≡ false → Open c [] y → First (c ∷ y)
unfolding past_line
first_byte c y e h =
    let q : suc (line_len y) + 1 ≡ suc (line_len y + 1) = omega arith in
    h ∙ rw (len_byte c y e, q)

open_byte : (b : ℕ) (y : List ℕ) → eqb b 10 ≡ false → First y → Open b [] y
unfolding before
open_byte b y e h = rw (lines_byte b y e, h)

open_first : (b : ℕ) (y : List ℕ) → eqb b 10 ≡ false → Open b [] y
unfolding lines before line_len past_line
open_first b [] e = lines_byte b [] e
open_first b (c ∷ y) e = open_byte b (c ∷ y) e (on (eqb c 10) refl (open_first c y))
  where
    on : (t : Bool) → eqb c 10 ≡ t → (eqb c 10 ≡ false → Open c [] y) → First (c ∷ y)
    on true f i = first_feed c y f
    on false f i = first_byte c y f (i f)

pub open_line : (b : ℕ) (s y : List ℕ) → length (b ∷ s) ≤ line_len (b ∷ s) → Open b s y
unfolding before
open_line b [] y h = open_first b y (no_feed b [] h).first
open_line b (c ∷ s) y h = let n = no_feed b (c ∷ s) h in rw (lines_byte b (c ∷ (s ++ y)) n.first, open_line c s y n.others)
