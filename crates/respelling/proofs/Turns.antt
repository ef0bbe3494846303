-- The loop that makes step after step. Assumes nothing.
use Rattle.std.specs.Prelude.{Option, None, Some}
use Prim.Native.Nat.{ℕ, zero, suc, ◌+◌, ◌-◌, ◌≤◌, ◌<◌}
use native.Mathlib.Omega.{arith}
use native.Mathlib.Nat.{zero-add, add_assoc, sub-zero}
use mathlib.Core.Path.{◌≡◌, refl, sym, ap, ◌∙◌}
use mathlib.Core.Bool.{Bool}
use mathlib.Core.List.{List, [], ◌++◌, append_assoc}
use lib.Dec.{eqb}
use lib.ListN.{length, take, drop, length-append, length-drop}
use lib.Seq.{drop-drop}
use Rattle.laws.specs.If.{if_cases}
use Rattle.laws.proofs.Tail.{lent}
use Rattle.respelling.specs.declared.Turn.{Turn}
use Rattle.respelling.specs.Puts.{Puts}
use Rattle.respelling.specs.Stream.{Done, done, step, and_then, steps, turn, used_of, end_of, Stepped, Turned}
use Rattle.respelling.proofs.Puts.{puts_none, puts_then}
use Rattle.respelling.proofs.Pieces.{step_within, turn_rests, turn_goes}

nothing_then : (d : Done) → and_then (done 0 []) d ≡ d
unfolding and_then
nothing_then d = rw zero-add

then_assoc : (u : ℕ) (w : List ℕ) (d e : Done) → and_then (done u w) (and_then d e) ≡ and_then (done (u + d.used) (w ++ d.prints)) e
unfolding and_then
then_assoc u w d e = rw (add_assoc, append_assoc)

-- so much is used and written, and the rest is still to be done
pub record Going (last : Bool) (input out₀ out : List ℕ) (used wrote : ℕ) : Type 0 where
  pub within : used ≤ length input
  pub fits : wrote ≤ length out
  pub long : length out ≡ length out₀
  pub bytes : List ℕ
  pub puts : Puts bytes out₀ 0 wrote out
  pub same : turn last (length out₀) input ≡ and_then (done used bytes) (turn last (length out - wrote) (drop used input))

pub go_start : (last : Bool) (input out : List ℕ) → Going last input out out 0 0
go_start last input out = record {
  within = omega arith;
  fits = omega arith;
  long = refl;
  bytes = [];
  puts = puts_none out 0;
  same = rw (sub-zero, nothing_then);
}

module _ {last : Bool} {input out₀ out : List ℕ} {used wrote : ℕ} (g : Going last input out₀ out used wrote)
    {a : Option Turn} {end : List ℕ} (p : Stepped (step last (length out - wrote) (take (length input - used) (drop used input))) out wrote a end) where
  done_by : Done
  done_by = step last (length out - wrote) (drop used input)

  stepped : Stepped done_by out wrote a end
  unfolding done_by
  stepped = rw (lent input used g.within) at p

  both : Puts (g.bytes ++ done_by.prints) out₀ 0 (end_of wrote a) end
  both = puts_then g.puts (omega arith) stepped.puts

  pub go_done : a ≡ None → Turned (turn last (length out₀) input) out₀ (record { used = used; wrote = wrote }) end
  unfolding done_by and_then
  go_done n =
      let z : used_of a ≡ 0 = ap used_of n in
      let u : done_by.used ≡ 0 = sym stepped.used_is ∙ z in
      let q : turn last (length out - wrote) (drop used input) ≡ done_by = turn_rests last (length out - wrote) (drop used input) u in
      let e : wrote ≡ length (g.bytes ++ done_by.prints) = sym (ap (end_of wrote) n) ∙ both.end ∙ zero-add _ in
      let f : used ≡ used + done_by.used = omega (arith, u) in
      rw (g.same, q) (record {
        answer_is = λ i. record { used = f i; wrote = e i };
        output_is = both.output;
      })

  module _ {t : Turn} (s : a ≡ Some t) where
    uses : t.used ≡ done_by.used
    uses = ap used_of (sym s) ∙ stepped.used_is

    ends : end_of wrote a ≡ t.wrote
    ends = ap (end_of wrote) s

    pub step_moves : 0 < t.used
    step_moves = stepped.some t s

    pub step_ends : used + t.used ≤ length input
    unfolding done_by
    step_ends = omega (arith, uses, step_within last (drop used input) (length out - wrote), length-drop used input, g.within)

    pub go_more : length end ≡ length out → Going last input out₀ end (used + t.used) t.wrote
    unfolding done_by
    go_more k =
        let d : Done = done_by in
        let e : length out - wrote - length d.prints ≡ length end - t.wrote = omega (arith, stepped.puts.end, ends) in
        let q = turn_goes last (length out - wrote) (drop used input) (λ y. omega (arith, uses, step_moves)) in
        record {
          within = step_ends;
          fits = omega (arith, stepped.fits, ends);
          long = k ∙ g.long;
          bytes = g.bytes ++ d.prints;
          puts = rw ends at both;
          same = rw (uses, ← e, ← drop-drop) (g.same ∙ ap (and_then (done used g.bytes)) q ∙ then_assoc used g.bytes d _);
        }

-- ---- what a caller has
steps_within : (more : ℕ) (last : Bool) (room : ℕ) (s : List ℕ) → (steps more last room s).used ≤ length s
unfolding steps and_then
steps_within zero last room s = omega arith
steps_within (suc more) last room s =
    let d : Done = step last room s in
    let e : Done = steps more last (room - length d.prints) (drop d.used s) in
    if_cases (λ (x : Done). x.used ≤ length s) (eqb d.used 0) d (and_then d e)
    (λ _. step_within last s room)
    (λ _. omega (arith, step_within last s room, steps_within more last (room - length d.prints) (drop d.used s), length-drop d.used s))

-- no more is used than there is, and no more written than there is room
pub turn_within : (last : Bool) (room : ℕ) (s : List ℕ) → (turn last room s).used ≤ length s
unfolding turn
turn_within last room s = steps_within (suc (length s)) last room s

pub used_within : (last : Bool) (room : ℕ) (s : List ℕ) {out end : List ℕ} {r : Turn} → Turned (turn last room s) out r end → r.used ≤ length s
used_within last room s p = omega (arith, ap (λ (t : Turn). t.used) p.answer_is, turn_within last room s)

pub wrote_within : {d : Done} {out end : List ℕ} {r : Turn} → Turned d out r end → length end ≡ length out → r.wrote ≤ length end
wrote_within {d} {out} p k =
    omega (arith, ap (λ (t : Turn). t.wrote) p.answer_is, simp length-append at (ap length p.output_is), length-drop (length d.prints) out)
