-- The note key tells a note's text, its boundaries and its present tags with their columns, and nothing else. Assumes nothing.
use Prim.Native.Nat.{ℕ, ◌≤◌}
use mathlib.Core.Path.{◌≡◌, refl, sym, ap, ◌∙◌}
use mathlib.Core.Logic.{◌↔◌}
use mathlib.Core.List.{List, []}
use lib.ListN.{length, get_or}
use Rattle.sentence.specs.Sentence.{Mark, none, Cells, Sentence, text_of, marks_of, rows_of, text, marks, table, Formed, Agree}
use Rattle.sentence.specs.declared.Form.TheVariants.{Partial as partial}
use Rattle.sentence.specs.Reading.{sentence, read}
use Rattle.sentence.specs.Writing.{written, key}
use Rattle.sentence.specs.Joined.{join}
use Rattle.sentence.specs.Withheld.{trimmed, withheld, Outside, SameNote}
use Rattle.sentence.proofs.Demand3.{agree_same, same_read, read_written}
use Rattle.sentence.proofs.Withheld.{same_withheld, withheld_none, formed_trimmed}

-- the key is the line of the copy that withholds nothing
pub key_copy : (b : ℕ) (s : Sentence) → written partial (withheld b b s) ≡ key s
key_copy b s = ap (written partial) (withheld_none b s)

-- ---- the same note, and the columns in use
cells_note : (s t : Sentence) → s.cells ≡ t.cells → SameNote s t
cells_note s t e =
    record { texts = ap text_of e; boundaries = ap marks_of e; tags = λ i j. ap (λ (c : Cells). get_or (get_or (rows_of c) i []) j []) e }

-- they agree outside a range that is empty
pub note_outside : {s t : Sentence} → SameNote s t → Outside 0 0 s t
note_outside a = record { texts = a.texts; boundaries = λ i h. ap (λ (l : List Mark). get_or l i none) a.boundaries; tags = λ i j h. a.tags i j }

note_trimmed : (s t : Sentence) → Formed s → Formed t → SameNote s t → trimmed s ≡ trimmed t
note_trimmed s t f g a = sym (withheld_none 0 s) ∙ same_withheld 0 0 s t f g (note_outside a) ∙ withheld_none 0 t

trimmed_cells : (s t : Sentence) → trimmed s ≡ trimmed t → s.cells ≡ t.cells
unfolding trimmed
trimmed_cells s t e = ap (λ (u : Sentence). u.cells) e

-- keys are equal exactly for the same note
pub same_key : (s t : Sentence) → Formed s → Formed t → (key s ≡ key t) ↔ SameNote s t
same_key s t f g = (
  λ e. cells_note s t (trimmed_cells s t (same_read partial (trimmed s) (trimmed t) (formed_trimmed s f) (formed_trimmed t g) tt tt e)),
  λ a. ap (written partial) (note_trimmed s t f g a),
)

-- sentences agree exactly where they are the same note and count as many columns
pub agree_note : (s t : Sentence) → Formed s → Formed t → Agree s t ↔ (SameNote s t × (s.columns ≡ t.columns))
agree_note s t f g = (
  λ a. (cells_note s t (ap (λ (u : Sentence). u.cells) (agree_same s t f g a)), a.column_counts),
  λ p. agreed (trimmed_cells s t (note_trimmed s t f g p.0)) p.1,
)
  where
    agreed : s.cells ≡ t.cells → s.columns ≡ t.columns → Agree s t
    agreed c n =
        let e : s ≡ t = ap (λ (x : Cells). record { cells = x; columns = s.columns }) c ∙ ap (λ (m : ℕ). record { cells = t.cells; columns = m }) n in
        record { texts = ap text e; boundaries = ap marks e; column_counts = n; padded_tags = ap table e }

-- the same notes joined by one boundary are the same note
pub note_joined : (m : Mark) (s t u v : Sentence) → Formed s → Formed t → Formed u → Formed v → SameNote s u → SameNote t v → SameNote (join m s t) (join m u v)
unfolding join
note_joined m s t u v f g h k a b =
    let c : s.cells ≡ u.cells = trimmed_cells s u (note_trimmed s u f h a) in
    let d : t.cells ≡ v.cells = trimmed_cells t v (note_trimmed t v g k b) in
    cells_note (join m s t) (join m u v) (rw (c, d))

-- ---- a key of at most 4,096 bytes reads back, to the note with only the columns in use
pub key_reads : (s : Sentence) → Formed s → length (key s) ≤ 4096 → read partial (key s) ≡ sentence (trimmed s)
key_reads s f l = read_written partial (trimmed s) (formed_trimmed s f).cells_are tt l

-- which is the same note, and is its own key
pub trimmed_note : (s : Sentence) → SameNote s (trimmed s)
unfolding trimmed
trimmed_note s = cells_note s (trimmed s) refl

pub trimmed_twice : (s : Sentence) → trimmed (trimmed s) ≡ trimmed s
unfolding trimmed
trimmed_twice s = refl
