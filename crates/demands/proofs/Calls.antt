-- What any contract gives that is served wherever there is room, and what a reader lays down. Assumes nothing.
use Rattle.std.specs.Prelude.{Ok}
use Prim.Native.Nat.{ℕ, ◌≤◌}
use mathlib.Core.Path.{◌≡◌, refl, sym, subst}
use mathlib.Core.List.{List}
use native.Mathlib.Omega.{arith}
use lib.ListN.{length, replicate, length-replicate}
use lib.Seq.{take-append_seam}
use Rattle.laws.specs.Put.{over}
use Rattle.sentence.specs.Sentence.{Sentence}
use Rattle.sentence.specs.declared.Form.{Form}
use Rattle.sentence.specs.Reading.{sentence, read}
use Rattle.sheet.specs.declared.Record.{Record}
use Rattle.sheet.specs.Layout.{Buffers, Holds}
use Rattle.read_load.proofs.Laws.{read_holds}
use Rattle.demands.specs.Calls.{Contract, Gives, Laid}

-- a call that is served wherever there is room puts its line at the front of some output
pub given : (Does : Contract) {r : Record} {d : Buffers} (w : List ℕ) → ((out : List ℕ) → length w ≤ length out → Does r d out (Ok (length w)) (over w out)) → Gives Does r d w
given Does w serves =
    let out : List ℕ = replicate (length w) 0 in
    record {
      output_before = out;
      output_after = over w out;
      the_length = length w;
      does = serves out (omega (arith, length-replicate {A = ℕ} (length w) 0));
      line_is = sym (take-append_seam _ _);
    }

-- what is laid down of an accepted line is its sentence
pub laid_is : {f : Form} {x : List ℕ} {q : Record} {c : Buffers} {s : Sentence} → read f x ≡ sentence s → Laid f x q c → Holds q c s
laid_is {f} {x} {q} {c} {s} e t =
    let k = read_holds f x t.buffers_before c _ q t.reads refl in
    let y = k.reads in
    let z : k.s ≡ s = cc in
    subst (Holds q c) z k.holds
