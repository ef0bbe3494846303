-- One step on a piece of input, by the tests that the code makes. Assumes nothing.
use Rattle.std.specs.Prelude.{Option, None, Some}
use Prim.Native.Nat.{ℕ, ◌+◌, ◌-◌, ◌≤◌, ◌<◌}
use native.Mathlib.Omega.{arith}
use mathlib.Core.Path.{◌≡◌, refl, ap, ◌∙◌}
use mathlib.Core.Bool.{Bool, true, false, ◌&&◌, and-eq-true_iff}
use mathlib.Core.List.{List, []}
use borrow.Author.Tests.{lt-ltb, le-ltb, ltb-true}
use lib.Dec.{ltb}
use lib.ListN.{length, take}
use Rattle.laws.specs.If.{when◌then◌else◌, if_true, if_false}
use Rattle.respelling.specs.declared.Turn.{Turn}
use Rattle.respelling.specs.Puts.{Puts}
use Rattle.respelling.specs.Respell.{answer}
use Rattle.respelling.specs.Stream.{line_len, Done, done, step, used_of, Stepped}
use Rattle.respelling.proofs.Puts.{puts_none}

-- what is answered and stored
abbrev turn_of : ℕ → ℕ → Option Turn
turn_of u e = Some (record { used = u; wrote = e })

none_some : {t : Turn} → None ≡ Some t → ⊥
none_some q = let z : ◌≡◌ {A = ℕ} 0 1 = cc in omega arith

module _ {d : Done} {out : List ℕ} {at : ℕ} where
  answered : {u e : ℕ} {w : List ℕ} {end : List ℕ} → d ≡ done u w → 0 < u → Puts w out at e end → e ≤ at + 8194 → at + 8194 ≤ length out
      → Stepped d out at (turn_of u e) end
  answered {u} f z p l h = rw f (record { used_is = refl; puts = p; fits = omega arith; some = λ t q. rw (ap (used_of) q) at z })

  unanswered : d ≡ done 0 [] → at ≤ length out → Stepped d out at None out
  unanswered f h = rw f (record { used_is = refl; puts = puts_none out at; fits = h; some = λ t q. absurd (none_some q) })

-- a step with room, on a piece without an LF
opened : (last : Bool) (s : List ℕ) (room n : ℕ) → 8194 ≤ room → n ≡ line_len s → length s ≤ n
    → step last room s ≡ (when last && ltb 0 (length s) then done (length s) (answer s) else done 0 [])
unfolding step
opened last s room n l f m = if_false _ _ _ (le-ltb _ _ l) ∙ if_false _ _ _ (le-ltb _ _ (rw f at m))

module _ (last : Bool) (s : List ℕ) {out : List ℕ} {at : ℕ} (h : at ≤ length out) where
  pub step_full : length out - at < 8194 → Stepped (step last (length out - at) s) out at None out
  unfolding step
  step_full l = unanswered (if_true _ _ _ (lt-ltb _ _ l)) h

  module _ (l : 8194 ≤ length out - at) {n : ℕ} (f : n ≡ line_len s) where
    pub step_cut : {e : ℕ} {end : List ℕ} → n < length s → Puts (answer (take n s)) out at e end → e ≤ at + 8194
        → Stepped (step last (length out - at) s) out at (turn_of (n + 1) e) end
    unfolding step
    step_cut m p k =
        rw f (answered (if_false _ _ _ (le-ltb _ _ l) ∙ if_true _ _ _ (lt-ltb _ _ (rw f at m))) (omega arith) (rw f at p) k (omega arith))

    pub step_last : {e : ℕ} {end : List ℕ} → length s ≤ n → (last && ltb 0 (length s)) ≡ true → Puts (answer s) out at e end → e ≤ at + 8194
        → Stepped (step last (length out - at) s) out at (turn_of (length s) e) end
    step_last m t p k =
        answered (opened last s (length out - at) n l f m ∙ if_true _ _ _ t) (ltb-true _ _ ((and-eq-true_iff last (ltb 0 (length s))).0 t).1) p k (omega arith)

    pub step_waits : length s ≤ n → (last && ltb 0 (length s)) ≡ false → Stepped (step last (length out - at) s) out at None out
    step_waits m t = unanswered (opened last s (length out - at) n l f m ∙ if_false _ _ _ t) h
