-- Escaping a slice, byte by byte; escaping characters is escaping their bytes. Assumes nothing.
use Prim.Native.Nat.{ℕ, ◌+◌, ◌-◌, ◌*◌, ◌≤◌, ◌<◌}
use mathlib.Core.Path.{◌≡◌, refl, sym, ap, ◌∙◌}
use mir.Val.{bool_byte}
use mathlib.Core.Bool.{Bool, true, false, not}
use mathlib.Core.Logic.{◌⊎◌, inl, inr}
use mathlib.Core.List.{List, [], ◌∷◌, ◌++◌, append_assoc}
use native.Mathlib.Omega.{arith}
use borrow.Author.Tests.{ne_eqb}
use lib.ListN.{length, get_or, take, drop}
use lib.Seq.{drop-cons}
use native.Mathlib.Numerals.{add-one}
use borrow.Rule.Slice.PartMut.{put_mid}
use Rattle.std.proofs.lemmas.List.{drop_all, drop-drop}
use Rattle.laws.specs.If.{when◌then◌else◌}
use denote.Enum.Bare.{sameb}
use Rattle.sentence.specs.contracts.Form.{the_type}
use Rattle.sentence.specs.Reading.{Kind, mark, slash, back, plain, kind, kinds, look}
use Rattle.sentence.specs.declared.Form.{Form}
use Rattle.sentence.specs.declared.Form.TheVariants.{Raw as raw, Tokenized as tokenized, Partial as partial}
use Rattle.sentence.specs.Writing.{escape_as, escape}
use Rattle.write_escape.specs.Escape.{meant}
use Rattle.write_escape.specs.Wrote.{Wrote, put_is, Writing, write_fits}

as_meant : (k : Kind) (b : ℕ) → meant k ≡ true → escape_as k b ≡ 92 ∷ b ∷ []
unfolding escape_as meant
as_meant (mark m) b e = refl
as_meant slash b e = refl
as_meant back b e = refl
as_meant plain b e = cc

as_plain : (k : Kind) (b : ℕ) → meant k ≡ false → escape_as k b ≡ b ∷ []
unfolding escape_as meant
as_plain (mark m) b e = cc
as_plain slash b e = cc
as_plain back b e = cc
as_plain plain b e = refl

-- what both annotated forms escape
pub meant_both : (f : Form) (b : ℕ) {t : Bool} → (b ≡ 32) ⊎ (b ≡ 47) ⊎ (b ≡ 92) → t ≡ not (sameb the_type f raw) → t ≡ meant (kind f b)
unfolding kind kinds look meant when◌then◌else◌
meant_both raw b s q = q
meant_both tokenized b (inl e) q = rw e q
meant_both tokenized b (inr (inl e)) q = rw e q
meant_both tokenized b (inr (inr e)) q = rw e q
meant_both partial b (inl e) q = rw e q
meant_both partial b (inr (inl e)) q = rw e q
meant_both partial b (inr (inr e)) q = rw e q

-- what only the partial form escapes
pub meant_partial : (f : Form) (b : ℕ) {t : Bool} → (b ≡ 45) ⊎ (b ≡ 124) → t ≡ sameb the_type f partial → t ≡ meant (kind f b)
unfolding kind kinds look meant when◌then◌else◌
meant_partial raw b s q = q
meant_partial tokenized b (inl e) q = rw e q
meant_partial tokenized b (inr e) q = rw e q
meant_partial partial b (inl e) q = rw e q
meant_partial partial b (inr e) q = rw e q

-- and nothing else
pub meant_none : (f : Form) (b : ℕ) → (b ≡ 32 → ⊥) → (b ≡ 45 → ⊥) → (b ≡ 47 → ⊥) → (b ≡ 92 → ⊥) → (b ≡ 124 → ⊥) → false ≡ meant (kind f b)
unfolding kind kinds look meant when◌then◌else◌
meant_none raw b u v w x y = refl
meant_none tokenized b u v w x y = rw (ne_eqb b 32 u, ne_eqb b 47 w, ne_eqb b 92 x)
meant_none partial b u v w x y = rw (ne_eqb b 32 u, ne_eqb b 45 v, ne_eqb b 124 y, ne_eqb b 47 w, ne_eqb b 92 x)

-- the next byte of a slice, as the test on it has come out
module _ (f : Form) (i : ℕ) (l : List ℕ) {t : Bool} (h : i < length l) (e : t ≡ meant (kind f (get_or l i 0))) where
  escape_next : {vs : List ℕ} → escape_as (kind f (get_or l i 0)) (get_or l i 0) ≡ vs → escape f (drop i l) ≡ vs ++ escape f (drop (i + 1) l)
  unfolding escape
  escape_next p = rw (add-one, drop-cons l i 0, p)

  pub escape_meant : t ≡ true → escape f (drop i l) ≡ 92 ∷ get_or l i 0 ∷ escape f (drop (i + 1) l)
  escape_meant q = escape_next (as_meant _ _ (sym e ∙ q))

  pub escape_plain : t ≡ false → escape f (drop i l) ≡ get_or l i 0 ∷ escape f (drop (i + 1) l)
  escape_plain q = escape_next (as_plain _ _ (sym e ∙ q))

pub escape_none : (f : Form) (i : ℕ) (l : List ℕ) → length l ≤ i → escape f (drop i l) ≡ []
unfolding escape
escape_none f i l h = rw (drop_all i l h)

-- room for that byte, and for two where it is escaped
module _ {out₀ all d : List ℕ} {from n : ℕ} (f : Form) (i : ℕ) (l : List ℕ) {t : Bool}
    (w : Writing out₀ from all d n (escape f (drop i l))) (h : i < length l) (e : t ≡ meant (kind f (get_or l i 0))) where
  pub escape_room : t ≡ false → n < length d
  escape_room q = omega (arith, write_fits w (get_or l i 0 ∷ []) _ (escape_plain f i l h e q))

  pub escape_room_2 : t ≡ true → n + 1 < length d
  escape_room_2 q = omega (arith, write_fits w (92 ∷ get_or l i 0 ∷ []) _ (escape_meant f i l h e q))

pub ruleset escapes = (escape_meant, escape_plain, escape_none)

-- a loop that counts what the slice takes: n so far, up to i
pub record Counting (f : Form) (l : List ℕ) (i n : ℕ) : Type 0 where
  pub sum : n + length (escape f (drop i l)) ≡ length (escape f l)
  pub few : n ≤ 2 * i

pub count_start : (f : Form) (l : List ℕ) → Counting f l 0 0
count_start f l = record { sum = omega arith; few = omega arith }

module _ {f : Form} {l : List ℕ} {i n : ℕ} (c : Counting f l i n) where
  pub count_next : (t : Bool) {k : ℕ} → i < length l → t ≡ meant (kind f (get_or l i 0)) → k ≡ bool_byte t → Counting f l (i + 1) (n + (1 + k))
  count_next true h e z = record { sum = omega (arith, c.sum, ap length (escape_meant f i l h e refl)); few = omega (arith, c.few) }
  count_next false h e z = record { sum = omega (arith, c.sum, ap length (escape_plain f i l h e refl)); few = omega (arith, c.few) }

  pub count_done : length l ≤ i → n ≡ length (escape f l)
  count_done h = omega (arith, c.sum, ap length (escape_none f i l h))

pub ruleset counts = (count_start, count_next, count_done)

-- what is escaped takes at most two bytes for each
pub escape_long : (f : Form) (bs : List ℕ) → length (escape f bs) ≤ 2 * length bs
unfolding escape
escape_long f [] = omega arith
escape_long f (b ∷ bs) = on (meant (kind f b)) refl (escape_long f bs)
  where
    on : (t : Bool) → meant (kind f b) ≡ t → length (escape f bs) ≤ 2 * length bs → length (escape_as (kind f b) b ++ escape f bs) ≤ 2 * length (b ∷ bs)
    on true e h = rw (as_meant (kind f b) b e) (omega arith)
    on false e h = rw (as_plain (kind f b) b e) (omega arith)

-- a part of the output is given the bytes
pub wrote_part : (vs ys out : List ℕ) (at n : ℕ) → ys ≡ vs → n ≡ length vs → at + n ≤ length out → Wrote out at vs (put_mid at (at + n - at) out ys) (at + n)
wrote_part vs ys out at n e k h =
    let z : at + n - at ≡ length vs = omega arith in
    record { bytes = rw (z, e, drop-drop (length vs) at out) (sym (put_is vs out at (omega arith) ∙ append_assoc (take at out) vs _)); end = omega arith }
