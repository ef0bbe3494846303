-- A list that is filled with tokens, one step of the cursor after another. Assumes nothing.
use Rattle.std.specs.Prelude.{Ok, Err}
use Prim.Native.Nat.{ℕ, ◌+◌, ◌≤◌}
use mathlib.Core.Path.{◌≡◌, refl, sym, ap, ◌∙◌}
use mathlib.Core.Bool.{Bool, true, false}
use mathlib.Core.List.{List, [], ◌∷◌, ◌++◌, map, append-nil}
use native.Mathlib.Omega.{arith}
use lib.Dec.{ltb}
use borrow.Author.Tests.{ltb-false, not-false}
use lib.ListN.{length, take, drop, set, length-map, length-take, drop_of_length-le}
use Rattle.laws.specs.If.{when◌then◌else◌}
use Rattle.laws.specs.Put.{over, Filling, fill_start, fill_more, fill_keep, fill_done}
use Rattle.sentence.specs.Writing.{tokens_from}
use Rattle.sentence.specs.declared.Refusal.{Refusal}
use Rattle.sentence.specs.Sentence.{marks}
use Rattle.sentence.specs.Refusals.{verdict}
use Rattle.sentence.proofs.Tokens.{onward, onward_start}
use Rattle.sheet.specs.declared.Record.{Record}
use Rattle.sheet.specs.Layout.{Buffers, spell}
use Rattle.sheet.specs.Check.{is_sheet}
use Rattle.sheet.proofs.Exact.{is_sheet_lem}
use Rattle.sheet.proofs.Look.{passed}
use Rattle.tokens.specs.declared.Token.{Token as Span}
use Rattle.tokens.specs.Steps.{span_of, marks_in, Bounded, tokens_of, list_order, count_of, Listed}
use Rattle.tokens.proofs.Cursor.{Following, Counted, counted_start, counted_next}
use Rattle.tokens.proofs.Held.{marks_held, bounded_held}

-- a list with no length has nothing in it
empty : {A : Type 0} (l : List A) → length l ≡ 0 → l ≡ []
empty [] e = refl
empty (x ∷ l) e = absurd (omega arith)

-- partway: i records are filled, the cursor stands at p, and the list that was l is d
pub record Partway (n : ℕ) (bs : List ℕ) (l : List Span) (i p : ℕ) (d : List Span) : Type 0 where
  pub counted : Counted n bs i p
  pub fill : Filling l (map span_of (tokens_from (marks_in n bs) 0)) d i (map span_of (onward (marks_in n bs) p))

pub partway_start : (n : ℕ) (bs : List ℕ) (l : List Span) → Partway n bs l 0 0 l
partway_start n bs l = record { counted = counted_start n bs; fill = fill_keep (fill_start l _) (ap (map span_of) (sym (onward_start (marks_in n bs)))) }

-- one record more
pub partway_next : {n : ℕ} {bs : List ℕ} {l : List Span} {i p : ℕ} {d : List Span} {t : Span} → Partway n bs l i p d → Following n bs p t → Partway n bs l (i + 1) t.end (set d i t)
partway_next w f = record { counted = counted_next w.counted f; fill = fill_more w.fill (ap (map span_of) f.rest) }

-- what is known where k records are to be filled
pub record Fills (r : Record) (d : Buffers) (l : List Span) (k : ℕ) : Type 0 where
  pub fits : k ≤ length l
  pub sheet : Bounded r.n d.boundaries_buf
  pub all : k ≡ length (tokens_from (marks_in r.n d.boundaries_buf) 0)

module _ (r : Record) (d : Buffers) (l : List Span) where
  -- a refusal alters nothing
  pub refused : (e : Refusal) → Err e ≡ count_of r d (length l) → Listed r d l (Err e) l
  unfolding count_of list_order verdict when◌then◌else◌
  refused e q = record { answer_is = q; list_is = on (is_sheet r d) (ltb (length l) (length (tokens_of r d))) refl refl }
    where
      on : (a b : Bool) → is_sheet r d ≡ a → ltb (length l) (length (tokens_of r d)) ≡ b → l ≡ verdict (λ e. l) (list_order r d (length l)) (over (map span_of (tokens_of r d)) l)
      on false b x y = rw x
      on true true x y = rw (x, y)
      on true false x y = let f : Err e ≡ Ok (length (tokens_of r d)) = rw (x, y) at q in let z : ◌≡◌ {A = ℕ} 0 1 = cc in absurd (omega arith)

  module _ (k : ℕ) (q : Ok k ≡ count_of r d (length l)) where
    apart : (x : Refusal) → Err x ≡ Ok k → ⊥
    apart x e = let z : ◌≡◌ {A = ℕ} 0 1 = cc in omega arith

    tested : (is_sheet r d ≡ true) × (ltb (length l) (length (tokens_of r d)) ≡ false) × (length (tokens_of r d) ≡ k)
    unfolding count_of list_order
    tested =
        let p = passed Err (Ok k) apart (list_order r d (length l)) (Ok (length (tokens_of r d))) (sym q) in
        (not-false _ p.0.0, p.0.1.1.0, cc)

    held_marks : marks_in r.n d.boundaries_buf ≡ marks (spell r d)
    held_marks = marks_held (is_sheet_lem r d tested.0)

    pub fills : Fills r d l k
    fills = record {
      fits = omega (arith, ltb-false _ _ tested.1, tested.2);
      sheet = bounded_held (is_sheet_lem r d tested.0);
      all = sym tested.2 ∙ ap (λ ms. length (tokens_from ms 0)) (sym held_marks);
    }

    -- once so many records are filled, the list is the one promised
    pub listed : (p : ℕ) (m : List Span) → Partway r.n d.boundaries_buf (take k l) k p m → Listed r d l (Ok k) (m ++ drop k l)
    unfolding list_order verdict when◌then◌else◌
    listed p m w =
        let f = fills in
        let all = map span_of (tokens_from (marks_in r.n d.boundaries_buf) 0) in
        let none : onward (marks_in r.n d.boundaries_buf) p ≡ [] = empty _ (omega (arith, w.counted.sum, f.all)) in
        let long : length all ≡ k = length-map (tokens_from (marks_in r.n d.boundaries_buf) 0) span_of ∙ sym f.all in
        let front : length (take k l) ≡ k = length-take k l ∙ omega (arith, f.fits) in
        let rest : drop k (take k l) ≡ [] = drop_of_length-le (take k l) {i = k} (omega arith) in
        let full : m ≡ all = fill_done w.fill (ap (map span_of) none) long (omega arith) ∙ rw (rest, append-nil) in
        record {
          answer_is = q;
          list_is = rw (tested.0, tested.1, ← held_marks, full, long);
        }
