-- What a line's acts store of its text is what the sentence that they gather has there. Assumes nothing.
use Prim.Native.Nat.{ℕ, zero, suc, ◌+◌, ◌-◌}
use mathlib.Core.Path.{◌≡◌, refl, sym, ap, ◌∙◌}
use mathlib.Core.Bool.{Bool, true, false}
use mathlib.Core.List.{List, [], ◌∷◌, ◌++◌, map}
use native.Mathlib.Numerals.{add-one}
use lib.ListN.{replicate}
use Rattle.utf8.specs.Utf8.{width, encode, encodes}
use Rattle.types.specs.TypeOf.{type_of}
use Rattle.sentence.specs.Sentence.{Tag, Mark, code, text_of, marks_of, starts, numbers}
use Rattle.sentence.specs.Reading.{Act, skip, letter, opens, of_tag, Rest, over, next, Parsed, parsed, before, add, gather}
use Rattle.read_counts.specs.declared.Counts.{Counts}
use Rattle.read_counts.specs.Counts.{bytes, letters, opening, grows, tally_by, tally}
use Rattle.read_counts.proofs.Rests.{letters_in, marks_in, before_text, before_marks}
use Rattle.read_stores.specs.Stores.{later, on_letter, Store, text_store, types_store, boundaries_store, char_pos_store, byte_pos_store}
use Rattle.read_fill.specs.Emits.{emits}

-- what follows in a line
unfoldable pub rest_of : Parsed → Rest
rest_of (parsed t ts n r) = r

-- ---- a buffer that a line stores in at its text alone, by what is left of that and how much was read
-- the first counts are those of characters and bytes
unfoldable pub reads : Counts → ℕ × ℕ
reads k = (k.n, k.b)

grows_reads : (o : Bool) (w : ℕ) (k : Counts) → reads (grows o w k) ≡ reads k
unfolding grows reads
grows_reads true w k = refl
grows_reads false w k = refl

-- what is stored at a character, and at the end, by how much was read; and the same of a whole rest
module _ (p : Store) (at : ℕ × ℕ → Mark → ℕ → List ℕ) (end : ℕ × ℕ → List ℕ) (all : ℕ × ℕ → Rest → List ℕ)
    (emit-is : (a : Act) (k : Counts) → p.emit a k ≡ on_letter (at (reads k)) a)
    (last_is : (k : Counts) → p.last k ≡ end (reads k))
    (over-is : (r : ℕ × ℕ) → all r over ≡ end r)
    (next_is : (r : ℕ × ℕ) (m : Mark) (c : ℕ) (ts : List Tag) (q : Rest) → all r (next m (before c ts q)) ≡ at r m c ++ all (r.0 + 1, r.1 + width c) q)
  where
    emits_add : (a : Act) (k : Counts) (q : Parsed) → on_letter (at (reads k)) a ++ all (reads (tally a k)) (rest_of q) ≡ all (reads k) (rest_of (add a q))
    unfolding on_letter tally tally_by bytes letters opening reads rest_of add
    emits_add skip k (parsed t ts n r) = refl
    emits_add (letter m c) k (parsed t ts n r) = sym (next_is _ m c ts r)
    emits_add opens k (parsed t ts n r) = refl
    emits_add (of_tag c) k (parsed t ts n r) = ap (λ (z : ℕ × ℕ). all z r) (grows_reads k.tag (width c) k)

    pub emits_text : (l : List Act) (k : Counts) → emits p l k ≡ all (reads k) (rest_of (gather l))
    unfolding emits gather rest_of
    emits_text [] k = last_is k ∙ sym (over-is (reads k))
    emits_text (a ∷ l) k = rw (emit-is a k, emits_text l (tally a k)) (emits_add a k (gather l))

-- ---- the text's bytes and types, its boundaries, and its positions
-- the boundaries that are left: that before the first character is not stored
unfoldable pub bounds : ℕ → Rest → List ℕ
bounds zero over = []
bounds zero (next m s) = map code (marks_of s)
bounds (suc n) q = map code (marks_in q)

text_next : (c : ℕ) (ts : List Tag) (q : Rest) → encodes (text_of (before c ts q)) ≡ encode c ++ encodes (letters_in q)
unfolding encodes
text_next c ts q = rw (before_text c ts q)

types_next : (c : ℕ) (ts : List Tag) (q : Rest) → map type_of (text_of (before c ts q)) ≡ type_of c ∷ map type_of (letters_in q)
types_next c ts q = rw (before_text c ts q)

starts_next : (b c : ℕ) (ts : List Tag) (q : Rest) → starts b (text_of (before c ts q)) ≡ b ∷ starts (b + width c) (letters_in q)
unfolding starts
starts_next b c ts q = rw (before_text c ts q)

numbers_next : (n c : ℕ) (ts : List Tag) (q : Rest) → numbers n (text_of (before c ts q)) ≡ n ∷ (replicate (width c - 1) 0 ++ numbers (n + 1) (letters_in q))
unfolding numbers
numbers_next n c ts q = rw (before_text c ts q)

bounds_over : (n : ℕ) → bounds n over ≡ []
unfolding bounds marks_in
bounds_over zero = refl
bounds_over (suc n) = refl

bounds_next : (n : ℕ) (m : Mark) (c : ℕ) (ts : List Tag) (q : Rest) → bounds n (next m (before c ts q)) ≡ later n (code m) ++ bounds (n + 1) q
unfolding bounds later marks_in
bounds_next zero m c ts q = rw (before_marks c ts q)
bounds_next (suc n) m c ts q = rw (add-one, before_marks c ts q)

pub text_emits : (l : List Act) (k : Counts) → emits text_store l k ≡ encodes (letters_in (rest_of (gather l)))
unfolding text_store letters_in encodes
text_emits =
    emits_text text_store (λ r m c. encode c) (λ r. []) (λ r q. encodes (letters_in q))
    (λ a k. refl) (λ k. refl) (λ r. refl) (λ r m c ts q. text_next c ts q)

pub types_emits : (l : List Act) (k : Counts) → emits types_store l k ≡ map type_of (letters_in (rest_of (gather l)))
unfolding types_store letters_in
types_emits =
    emits_text types_store (λ r m c. type_of c ∷ []) (λ r. []) (λ r q. map type_of (letters_in q))
    (λ a k. refl) (λ k. refl) (λ r. refl) (λ r m c ts q. types_next c ts q)

pub boundaries_emits : (l : List Act) (k : Counts) → emits boundaries_store l k ≡ bounds k.n (rest_of (gather l))
unfolding boundaries_store reads
boundaries_emits =
    emits_text boundaries_store (λ r m c. later r.0 (code m)) (λ r. []) (λ r q. bounds r.0 q)
    (λ a k. refl) (λ k. refl) (λ r. bounds_over r.0) (λ r m c ts q. bounds_next r.0 m c ts q)

pub char_pos_emits : (l : List Act) (k : Counts) → emits char_pos_store l k ≡ starts k.b (letters_in (rest_of (gather l)))
unfolding char_pos_store reads letters_in starts
char_pos_emits =
    emits_text char_pos_store (λ r m c. r.1 ∷ []) (λ r. r.1 ∷ []) (λ r q. starts r.1 (letters_in q))
    (λ a k. refl) (λ k. refl) (λ r. refl) (λ r m c ts q. starts_next r.1 c ts q)

pub byte_pos_emits : (l : List Act) (k : Counts) → emits byte_pos_store l k ≡ numbers k.n (letters_in (rest_of (gather l)))
unfolding byte_pos_store reads letters_in numbers
byte_pos_emits =
    emits_text byte_pos_store (λ r m c. r.0 ∷ replicate (width c - 1) 0) (λ r. r.0 ∷ []) (λ r q. numbers r.0 (letters_in q))
    (λ a k. refl) (λ k. refl) (λ r. refl) (λ r m c ts q. numbers_next r.0 c ts q)
