-- The note key over the public functions, from the laws of the definitions and of the contract. Assumes nothing.
use Prim.Native.Nat.{ℕ, ◌≤◌}
use mathlib.Core.Path.{◌≡◌, refl, sym, ap, subst, ◌∙◌}
use mathlib.Core.Logic.{◌↔◌}
use mathlib.Core.Bool.{false}
use mathlib.Core.List.{List}
use lib.ListN.{length}
use Rattle.sentence.specs.Sentence.{Sentence, Formed}
use Rattle.sentence.specs.declared.Form.{Form}
use Rattle.sentence.specs.declared.Form.TheVariants.{Partial as partial}
use Rattle.sentence.specs.Reading.{sentence, read}
use Rattle.sentence.specs.Writing.{written, key}
use Rattle.sentence.specs.Withheld.{trimmed, SameNote}
use Rattle.sentence.proofs.Withheld.{absent_past, present_last}
use Rattle.sentence.proofs.Keys.{same_key, agree_note, key_reads, trimmed_note, trimmed_twice}
use Rattle.sheet.specs.declared.Record.{Record}
use Rattle.sheet.specs.Layout.{Buffers, spell, Sheet}
use Rattle.sheet.proofs.Held.{spelled}
use Rattle.write.specs.Answers.{Keyed, key_of}
use Rattle.write.proofs.Laws as write
use Rattle.write.proofs.Keys.{copy_key}
use Rattle.demands.proofs.Calls.{given, laid_is}
use Rattle.demands.proofs.Demand3.{demand_3}
use Rattle.demands.specs.Calls.{Laid}
use Rattle.demands.specs.Demand3.{Spelt}
use Rattle.demands.specs.Keys.{HasKey, LineKey, LastUsed, NoteKey}

module _ {r : Record} {d : Buffers} where
  -- a key that was given is that of a sheet
  sheet_of : {k : List ℕ} → HasKey r d k → Sheet r d
  sheet_of p = (write.took r d false 0 p.does refl).sheet

  key_of_lem : {k : List ℕ} → HasKey r d k → k ≡ key_of r d
  key_of_lem p = p.line_is ∙ write.front r d false 0 p.does refl

  keyed : Sheet r d → HasKey r d (key_of r d)
  keyed h = given Keyed (key_of r d) (λ out l. write.serves r d false 0 h refl l)

  back : {k : List ℕ} → HasKey r d k → length k ≤ 4096 → read partial k ≡ sentence (trimmed (spell r d))
  back p l = let i = key_of_lem p in rw i (key_reads (spell r d) (sheet_of p).formed (rw i at l))

tells : {r q : Record} {d c : Buffers} {k l : List ℕ} → HasKey r d k → HasKey q c l → (k ≡ l) ↔ SameNote (spell r d) (spell q c)
tells {r} {q} {d} {c} p o =
    let i = same_key (spell r d) (spell q c) (sheet_of p).formed (sheet_of o).formed in
    (λ e. i.0 (sym (key_of_lem p) ∙ e ∙ key_of_lem o), λ n. key_of_lem p ∙ i.1 n ∙ sym (key_of_lem o))

-- the columns in use
last_used : (s : Sentence) → Formed s → LastUsed s (trimmed s).columns
unfolding trimmed
last_used s f = record { none_past = λ i j h. absent_past s.cells i j h; one_last = λ j e. present_last s.columns j s.cells f.cells_are e }

-- ---- lines
-- a line's sentence is what its sheet spells
line_spelled : {f : Form} {x k : List ℕ} {s : Sentence} → read f x ≡ sentence s → (p : LineKey f x k) → spell p.the_record p.the_buffers ≡ s
line_spelled {s = s} e p = spelled p.the_record p.the_buffers s (laid_is e p.laid)

line_keyed : (f : Form) (x : List ℕ) (s : Sentence) → read f x ≡ sentence s → LineKey f x (key s)
line_keyed f x s e =
    let t = demand_3.lines_respelt f partial tt x s e in
    let h : Laid f x t.the_record t.buffers_after = record { buffers_before = t.buffers_before; reads = t.reads } in
    let i = spelled t.the_record t.buffers_after s (laid_is e h) in
    let k : Sheet t.the_record t.buffers_after = rw i (laid_is e h) in
    record { the_record = t.the_record; the_buffers = t.buffers_after; laid = h; has_key = subst (HasKey t.the_record t.buffers_after) (ap key i) (keyed k) }

lines_tell : {f g : Form} {x y k l : List ℕ} {s t : Sentence} → read f x ≡ sentence s → read g y ≡ sentence t → LineKey f x k → LineKey g y l → (k ≡ l) ↔ SameNote s t
lines_tell {k = k} {l = l} e i p o =
    let w : (k ≡ l) ↔ SameNote (spell p.the_record p.the_buffers) (spell o.the_record o.the_buffers) = tells p.has_key o.has_key in
    rw (line_spelled e p, line_spelled i o) at w

-- ---- beside the partial lines
beside : {r q : Record} {d c : Buffers} {u v k l : List ℕ} → Spelt partial r d u → Spelt partial q c v → HasKey r d k → HasKey q c l → (u ≡ v) ↔ ((k ≡ l) × (r.columns ≡ q.columns))
unfolding spell
beside {r} {q} {d} {c} {u} {v} m n p o =
    let a = demand_3.sheet_canonical r q d c (spell r d) (spell q c) u v (sheet_of p) (sheet_of o) m n in
    let b = agree_note (spell r d) (spell q c) (sheet_of p).formed (sheet_of o).formed in
    let t = tells p o in
    (λ e. let w = b.0 (a.0 e) in (t.1 w.0, w.1), λ w. a.1 (b.1 (t.0 w.0, w.1)))

own : {r : Record} {d : Buffers} {k l : List ℕ} → HasKey r d k → length k ≤ 4096 → LineKey partial k l → l ≡ k
own {r} {d} p h o = key_of_lem o.has_key ∙ ap key (line_spelled (back p h) o) ∙ ap (written partial) (trimmed_twice (spell r d)) ∙ sym (key_of_lem p)

pub note_keys : NoteKey
note_keys = record {
  served = λ r d h. keyed h;
  key_is = λ r d k p. key_of_lem p;
  cut_back = λ r d h. last_used (spell r d) h.formed;
  kept = λ r d. trimmed_note (spell r d);
  tells = λ r q d c k l p o. tells p o;
  alike = λ r q d c t n.
      let l = (same_key (spell r d) (spell q c) t.sheet_1.formed t.sheet_2.formed).1 n in
      record {
        same_answer = write.answers_same 0 t.sheet_1 t.sheet_2 refl l t.call_1 t.call_2;
        same_output = write.outputs_same 0 t.sheet_1 t.sheet_2 refl l t.call_1 t.call_2;
      };
  lines_keyed = line_keyed;
  lines_tell = λ f g x y k l s t e i p o. lines_tell e i p o;
  beside_lines = λ r q d c u v k l m n p o. beside m n p o;
  is_copy = λ r d b out out' a h. copy_key r d b h;
  reads_back = λ r d k p l. back p l;
  own_key = λ r d k l p h o. own p h o;
}
