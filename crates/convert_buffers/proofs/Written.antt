-- A sentence written where its line fits, and refused else. Assumes nothing.
use Rattle.std.specs.Prelude.{Option, Some, None, Ok, Err}
use Prim.Native.Nat.{ℕ, ◌≤◌}
use native.Mathlib.Nat.{zero-add}
use mathlib.Core.Path.{◌≡◌, refl, sym, ap, ◌∙◌}
use mathlib.Core.List.{List}
use borrow.Author.Tests.{lt-ltb, le-ltb}
use lib.ListN.{length}
use Rattle.laws.specs.If.{if_true, if_false}
use Rattle.write_escape.specs.Wrote.{Lined}
use Rattle.write_items.specs.Items.{short_of}
use Rattle.write_items.proofs.Room.{short_none, short_some}
use Rattle.sentence.specs.declared.Refusal.{Refusal}
use Rattle.sentence.specs.Sentence.{Sentence}
use Rattle.sentence.specs.declared.Form.{Form}
use Rattle.sentence.specs.Writing.{written}
use Rattle.sentence.specs.Refusals.{refusal, verdict}
use Rattle.convert_buffers.specs.Between.{answer_of, output_of, Converts}
use Rattle.convert_buffers.specs.Through.{writing}
use Rattle.sheet.specs.Answers.{Number}

-- n is the length that is lacking
module _ (g : Form) (s : Sentence) (out : List ℕ) {n : Option ℕ} (e : n ≡ short_of (length out) (length (written g s))) where
  pub writing_short : {k : ℕ} {q : Refusal} → n ≡ Some k → q ≡ refusal 12 k → Converts (λ (c : Number). c) (writing g (length out) s) 0 out (Err q) out
  unfolding writing verdict answer_of output_of
  writing_short h i =
      let k = short_some (length out) (length (written g s)) e h in
      rw (if_true _ _ _ (lt-ltb (length out) (length (written g s)) k.1)) (record { answer = ap Err (i ∙ ap (refusal 12) k.0); output = refl })

  pub writing_room : n ≡ None → length (written g s) ≤ length out
  writing_room h = short_none (length out) (length (written g s)) e h

  pub writing_done : {end : List ℕ} {m : ℕ} → n ≡ None → Lined (written g s) out end m → Converts (λ (c : Number). c) (writing g (length out) s) 0 out (Ok m) end
  unfolding writing verdict answer_of output_of
  writing_done h l =
      rw (if_false _ _ _ (le-ltb (length out) (length (written g s)) (writing_room h)))
      (record { answer = ap Ok (l.length_is ∙ sym (zero-add _)); output = l.out_is })
