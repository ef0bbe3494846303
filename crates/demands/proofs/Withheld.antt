-- The withheld copy over the public functions, from the laws of the definitions and of the contract. Assumes nothing.
use Prim.Native.Nat.{ℕ, ◌+◌, ◌≤◌, ◌<◌}
use mathlib.Core.Path.{◌≡◌, refl, sym, ap, ◌∙◌}
use mathlib.Core.Logic.{◌↔◌, ◌⊎◌, inl, inr}
use mathlib.Core.Bool.{Bool, true, false, ◌||◌}
use mathlib.Core.List.{List}
use native.Mathlib.Omega.{arith}
use lib.ListN.{length}
use Rattle.sentence.specs.Sentence.{Sentence, text, count, Formed}
use Rattle.sentence.specs.declared.Form.TheVariants.{Partial as partial}
use Rattle.sentence.specs.Reading.{sentence, read}
use Rattle.sentence.specs.Writing.{written}
use Rattle.sentence.specs.Withheld.{in_range, touches, withheld, Outside, Copy}
use Rattle.sentence.proofs.Demand3.{same_read}
use Rattle.sentence.proofs.Withheld.{out_before, out_behind, in_range_lem, formed_withheld, outside_copy, copies_told_apart, withheld_reads, withheld_wider, withheld_all, withheld_by_text, withheld_none, withheld_copy, copy_once}
use Rattle.sheet.specs.declared.Record.{Record}
use Rattle.sheet.specs.Layout.{Buffers, Holds, spell, Sheet}
use Rattle.sheet.proofs.Held.{spelled}
use Rattle.write.specs.Answers.{copy_of, no_range}
use Rattle.write.proofs.Laws as write
use Rattle.write.proofs.Withheld.{is_range}
use Rattle.demands.proofs.Calls.{given, laid_is}
use Rattle.demands.proofs.Demand3.{demand_3}
use Rattle.demands.specs.Calls.{TwoCalls, Alike, Laid}
use Rattle.demands.specs.Withheld.{Withholding, Copied, InNumbers, Within, WithheldCopy}

module _ {r : Record} {d : Buffers} (b e : ℕ) where
  -- what a call that was served tells of its sheet and its line
  formed : {w : List ℕ} → Copied r d b e w → Formed (spell r d)
  formed p = (write.took r d _ b p.does refl).sheet.formed

  line_of_lem : {w : List ℕ} → Copied r d b e w → w ≡ copy_of r d b e
  line_of_lem p = p.line_is ∙ write.front r d _ b p.does refl

  copied : Sheet r d → b ≤ e → e ≤ count (spell r d) → Copied r d b e (copy_of r d b e)
  copied h k l = given (Withholding b e) (copy_of r d b e) (λ out m. write.serves r d _ b h (is_range k l) m)

  back : {w : List ℕ} → Copied r d b e w → length w ≤ 4096 → read partial w ≡ sentence (withheld b e (spell r d))
  back {w} p l = let i = line_of_lem p in rw i (withheld_reads b e (spell r d) (formed p).cells_are (rw i at l))

  -- reading it lays the copy down
  laid : {w : List ℕ} {q : Record} {c : Buffers} → Copied r d b e w → length w ≤ 4096 → Laid partial w q c → Holds q c (withheld b e (spell r d))
  laid p l t = laid_is (back p l) t

alike : {r q : Record} {d c : Buffers} {b e : ℕ} (t : TwoCalls (Withholding b e) r q d c) → Outside b e (spell r d) (spell q c) → Alike t
alike {r} {q} {d} {c} {b} {e} t o =
    let i = ap (λ (x : List ℕ). no_range b e (length x)) o.texts in
    let l = (copies_told_apart b e (spell r d) (spell q c) t.sheet_1.formed t.sheet_2.formed).1 o in
    record {
      same_answer = write.answers_same b t.sheet_1 t.sheet_2 i l t.call_1 t.call_2;
      same_output = write.outputs_same b t.sheet_1 t.sheet_2 i l t.call_1 t.call_2;
    }

-- the first sheet and the one that was read back agree outside a range that holds the range
again : {r q : Record} {d c : Buffers} (b e g h : ℕ) {w : List ℕ} → Copied r d b e w → length w ≤ 4096 → Laid partial w q c → Within b e g h → Outside g h (spell r d) (spell q c)
again {r} {q} {d} {c} b e g h p l t k =
    let s = withheld b e (spell r d) in
    let f = formed b e p in
    let x : written partial (withheld g h (spell r d)) ≡ written partial (withheld g h s) = ap (written partial) (sym (withheld_wider b e g h k (spell r d) f)) in
    rw (spelled q c s (laid b e p l t)) ((copies_told_apart g h (spell r d) s f (formed_withheld b e (spell r d) f)).0 x)

-- ---- all characters withheld
all_same : {r q : Record} {d c : Buffers} {u v : List ℕ} → Copied r d 0 (count (spell r d)) u → Copied q c 0 (count (spell q c)) v → (u ≡ v) ↔ (text (spell r d) ≡ text (spell q c))
all_same {r} {q} {d} {c} {u} {v} p o =
    let s = spell r d in
    let t = spell q c in
    let f = formed 0 (count s) p in
    let g = formed 0 (count t) o in
    let i₀ = line_of_lem 0 (count s) p in
    let j₀ = line_of_lem 0 (count t) o in (
      λ i.
          let x = same_read partial (withheld 0 (count s) s) (withheld 0 (count t) t) (formed_withheld 0 (count s) s f) (formed_withheld 0 (count t) t g) tt tt (sym i₀ ∙ i ∙ j₀) in
          (outside_copy 0 (count s) s).texts ∙ ap text x ∙ sym (outside_copy 0 (count t) t).texts,
      λ i.
          let n : count s ≡ count t = ap length i in
          i₀ ∙ ap (written partial) (withheld_by_text (count s) s t f g (omega arith) i) ∙ ap (λ (k : ℕ). written partial (withheld 0 k t)) n ∙ sym j₀,
    )

-- ---- in numbers
or_true : (t : Bool) → (t || true) ≡ true
or_true true = refl
or_true false = refl

is_out : (b e i : ℕ) → (i < b) ⊎ (e ≤ i) → in_range b e i ≡ false
is_out b e i (inl h) = out_before b e i h
is_out b e i (inr h) = out_behind b e i h

touched : (b e i k : ℕ) → (k ≡ i) ⊎ (k ≡ i + 1) → b ≤ k → k < e → touches b e i ≡ true
unfolding touches
touched b e i k (inl q) h l = rw (in_range_lem b e i (omega arith) (omega arith))
touched b e i k (inr q) h l = rw (in_range_lem b e (i + 1) (omega arith) (omega arith)) (or_true (in_range b e i))

untouched : (b e i : ℕ) → (i < b) ⊎ (e ≤ i) → (i + 1 < b) ⊎ (e ≤ i + 1) → touches b e i ≡ false
unfolding touches
untouched b e i h k = rw (is_out b e i h, is_out b e (i + 1) k)

in_numbers : {b e : ℕ} {s t : Sentence} → Copy b e s t → InNumbers b e s t
in_numbers {b} {e} k = record {
  unknowns = λ i j h q l m. k.unknowns i h (touched b e i j q l m);
  boundaries = λ i h l. sym (k.agrees.boundaries i (untouched b e i h l));
  absents = λ i j h l. k.absents i j (in_range_lem b e i h l);
  tags = λ i j h. sym (k.agrees.tags i j (is_out b e i h));
}

pub withheld_copies : WithheldCopy
withheld_copies = record {
  served = λ r d b e h k l. copied b e h k l;
  line_is = λ r d b e w p. line_of_lem b e p;
  is_copy = λ r d b e h. withheld_copy b e (spell r d) h.formed;
  in_numbers = λ r d b e h. in_numbers (withheld_copy b e (spell r d) h.formed);
  only_copy = λ r d b e t h f k.
      copy_once b e (spell r d) t (withheld b e (spell r d)) f (formed_withheld b e (spell r d) h.formed) k (withheld_copy b e (spell r d) h.formed);
  same_line = λ r q d c b e u v p o.
      let k = copies_told_apart b e (spell r d) (spell q c) (formed b e p) (formed b e o) in
      (λ i. k.0 (sym (line_of_lem b e p) ∙ i ∙ line_of_lem b e o), λ i. line_of_lem b e p ∙ k.1 i ∙ sym (line_of_lem b e o));
  alike = λ r q d c b e t o. alike t o;
  reads_back = λ r d b e w p l. back b e p l;
  readable = λ r d b e w p l.
      let k = demand_3.lines_respelt partial partial tt w (withheld b e (spell r d)) (back b e p l) in
      (k.the_record, k.buffers_after, record { buffers_before = k.buffers_before; reads = k.reads });
  laid_back = λ r q d c b e w p l t. laid b e p l t;
  again = λ r q d c b e g h w p l t k i. alike i (again b e g h p l t k);
  all_same = λ r q d c u v p o. all_same p o;
  all_raw = λ r d w p l.
      back 0 (count (spell r d)) p l ∙ sym (withheld_all (count (spell r d)) (spell r d) (formed 0 (count (spell r d)) p) (omega arith));
  none_withheld = λ r d b w p. line_of_lem b b p ∙ ap (written partial) (withheld_none b (spell r d));
}
