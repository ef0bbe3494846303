-- What is counted of a line's acts is the record of the sentence that they gather. Assumes nothing.
use Prim.Native.Nat.{ℕ, ◌+◌, ◌*◌, ◌≤◌, max}
use mathlib.Core.Bool.{Bool, true, false}
use mathlib.Core.Path.{◌≡◌, refl, ◌∙◌}
use mathlib.Core.List.{List, [], ◌∷◌}
use native.Mathlib.Omega.{arith}
use lib.ListN.{length}
use Rattle.utf8.specs.Utf8.{width, size}
use Rattle.sentence.specs.Sentence.{Tag, Mark, Sentence, row_bytes, tag_bytes}
use Rattle.sentence.specs.declared.Form.{Form}
use Rattle.sentence.specs.Reading.{at, start, Act, skip, letter, opens, of_tag, whole, run, Rest, over, next, Parsed, parsed, before, add, gather, built, sentence}
use Rattle.sentence.proofs.Shape.{cut_bytes}
use Rattle.sheet.specs.Layout.{record_of}
use Rattle.sheet.specs.declared.Record.{Record}
use Rattle.read_counts.specs.declared.Counts.{Counts}
use Rattle.read_counts.specs.Counts.{nothing, opened, letters, opening, grows, tally_by, bytes, tally, tallies, counted}
use Rattle.read_counts.proofs.Rests.{letters_in, rows_in, before_text, before_rows, Fresh, run_fresh}

-- how many bytes of the open tag are yet to come: t is the rest of it
unfoldable pub held : Bool → Tag → ℕ
held true t = size t
held false t = 0

-- ---- what a line comes to, from counts and what its last acts gather
unfoldable pub widest : Counts → Parsed → ℕ
widest k (parsed t ts n r) = max k.columns (max (k.tags + opened k.tag + length ts) n)

unfoldable pub totals : Counts → Parsed → Record
totals k (parsed t ts n r) = record {
  n = k.n + length (letters_in r);
  b = k.b + size (letters_in r);
  columns = widest k (parsed t ts n r);
  cells = (k.n + length (letters_in r)) * widest k (parsed t ts n r);
  g = k.g + held k.tag t + row_bytes ts + tag_bytes (rows_in r);
}

-- two records are the same by their fields
same : {n n' b b' c c' g g' : ℕ} → n ≡ n' → b ≡ b' → c ≡ c' → g ≡ g'
    → ◌≡◌ {A = Record} (record { n = n; b = b; columns = c; cells = n * c; g = g }) (record { n = n'; b = b'; columns = c'; cells = n' * c'; g = g' })
same p q r t = cc

pub no_bytes : (o : Bool) → held o [] ≡ 0
unfolding held size
no_bytes true = refl
no_bytes false = refl

letter_total : (k : Counts) (m : Mark) (c : ℕ) (t : Tag) (ts : List Tag) (n : ℕ) (r : Rest) → k.tags + opened k.tag ≤ k.columns
    → totals (letters (width c) k) (parsed t ts n r) ≡ totals k (parsed [] [] (max (length ts) n) (next m (before c ts r)))
unfolding totals widest letters opened held letters_in rows_in size row_bytes tag_bytes
letter_total k m c t ts n r h =
    rw (before_text c ts r, before_rows c ts r)
    (same (omega arith) (omega arith) (omega arith) (omega (arith, no_bytes k.tag, cut_bytes ts)))

opening_total : (k : Counts) (t : Tag) (ts : List Tag) (n : ℕ) (r : Rest) → totals (opening k) (parsed t ts n r) ≡ totals k (parsed [] (t ∷ ts) n r)
unfolding totals widest opening opened held row_bytes
opening_total k t ts n r = same refl refl (omega arith) (omega (arith, no_bytes k.tag))

grows_total : (k : Counts) (o : Bool) (c : ℕ) (t : Tag) (ts : List Tag) (n : ℕ) (r : Rest) → k.tag ≡ o
    → totals (grows o (width c) k) (parsed t ts n r) ≡ totals k (parsed (c ∷ t) ts n r)
unfolding totals widest grows held size
grows_total k true c t ts n r e = same refl refl (rw e) (rw e (omega arith))
grows_total k false c t ts n r e = same refl refl refl (rw e)

-- one act counted, before the rest
tally_total : (a : Act) (k : Counts) (p : Parsed) → k.tags + opened k.tag ≤ k.columns → totals (tally a k) p ≡ totals k (add a p)
unfolding tally tally_by bytes add
tally_total skip k (parsed t ts n r) h = refl
tally_total (letter m c) k (parsed t ts n r) h = letter_total k m c t ts n r h
tally_total opens k (parsed t ts n r) h = opening_total k t ts n r
tally_total (of_tag c) k (parsed t ts n r) h = grows_total k k.tag c t ts n r refl

-- no character has more tags than there are columns
grows_wide : (o : Bool) (w : ℕ) (k : Counts) → k.tags + opened o ≤ k.columns → k.tag ≡ o → (grows o w k).tags + opened (grows o w k).tag ≤ (grows o w k).columns
unfolding grows
grows_wide true w k h e = h
grows_wide false w k h e = rw e h

tally_wide : (a : Act) (k : Counts) → k.tags + opened k.tag ≤ k.columns → (tally a k).tags + opened (tally a k).tag ≤ (tally a k).columns
unfolding tally tally_by letters opening opened
tally_wide skip k h = h
tally_wide (letter m c) k h = omega arith
tally_wide opens k h = omega arith
tally_wide (of_tag c) k h = grows_wide k.tag (bytes (of_tag c)) k h refl

tallies_total : (l : List Act) (k : Counts) → k.tags + opened k.tag ≤ k.columns → counted (tallies l k) ≡ totals k (gather l)
unfolding tallies counted gather totals widest letters_in rows_in size row_bytes tag_bytes
tallies_total [] k h = same (omega arith) (omega arith) (omega arith) (omega (arith, no_bytes k.tag))
tallies_total (a ∷ l) k h = tallies_total l (tally a k) (tally_wide a k h) ∙ tally_total a k (gather l) h

fresh_total : (p : Parsed) (s : Sentence) → Fresh p → built p ≡ sentence s → totals nothing p ≡ record_of s
unfolding totals widest nothing built record_of opened held letters_in rows_in row_bytes
fresh_total (parsed t ts n over) s f e = absurd f
fresh_total (parsed t ts n (next m cs)) s f e =
    let z : record { cells = cs; columns = n } ≡ s = cc in
    rw (f, ← z) (same (omega arith) (omega arith) (omega arith) (omega arith))

-- an act narrows what a line comes to, if anything
pub widest_less : (a : Act) (k : Counts) (p : Parsed) → widest (tally a k) p ≤ widest k (add a p)
unfolding widest tally tally_by bytes letters opening grows opened add
widest_less skip k (parsed t ts n r) = omega arith
widest_less (letter m c) k (parsed t ts n r) = omega arith
widest_less opens k (parsed t ts n r) = omega arith
widest_less (of_tag c) k (parsed t ts n r) = on k.tag refl
  where
    on : (o : Bool) → k.tag ≡ o → widest (grows o (width c) k) (parsed t ts n r) ≤ widest k (parsed (c ∷ t) ts n r)
    on true e = rw e (omega arith)
    on false e = omega arith

pub widest_tags : (k : Counts) (p : Parsed) → k.tags + opened k.tag ≤ widest k p
unfolding widest
widest_tags k (parsed t ts n r) = omega arith

-- what is counted of a line's acts is the record of the sentence that they gather
pub counted_is : (f : Form) (x : List ℕ) (l : List Act) (s : Sentence) → run f (at start) x ≡ whole l → built (gather l) ≡ sentence s
    → counted (tallies l nothing) ≡ record_of s
unfolding nothing opened
counted_is f x l s e b = tallies_total l nothing (omega arith) ∙ fresh_total (gather l) s (run_fresh f x l e) b
