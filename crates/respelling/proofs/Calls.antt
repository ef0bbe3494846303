-- What a call of the system makes of what stands, by the tests that the code makes. Assumes nothing.
use Rattle.std.specs.Prelude.{Option, None, Some, Result, Ok, Err}
use Rattle.std.specs.Io.{ReadsAtMost, WritesAtMost}
use Rattle.std.specs.Ordering.{int_eq}
use Rattle.std.specs.Option.{option_eq}
use Rattle.std.specs.IoError.{raw_os_error}
use Rattle.std.specs.declared.io.Error.{Error}
use Prim.Native.Nat.{ℕ, zero, suc, min, ◌+◌, ◌-◌, ◌≤◌, ◌<◌, ◌^◌}
use native.Mathlib.Omega.{arith}
use native.Mathlib.Nat.{sub-zero, zero-sub}
use mathlib.Core.Path.{◌≡◌, refl, sym, ◌∙◌}
use mathlib.Core.Bool.{Bool, true, false, ◌||◌}
use mathlib.Core.List.{List, [], ◌∷◌}
use borrow.Author.Tests.{ltb-true, ltb-false, eq-eqb, ne_eqb}
use Rattle.std.proofs.lemmas.Bool.Decides.{nat_tests}
use lib.Dec.{eqb, ltb}
use lib.IntN.{ℤ, pos, negsuc}
use mir.Syntax.{w32}
use mir.Val.{SFits, of_z}
use lib.ListN.{length, take, drop, length-take, length-drop}
use native.Mathlib.Numerals.{unary_clauses}
use lib.Seq.{take-nil, drop-nil, length-take-le}
use Rattle.laws.specs.If.{when◌then◌else◌, if_true, if_false, if_cases, if_both, if_map}
use Rattle.respelling.specs.declared.Turn.{Turn}
use Rattle.respelling.specs.declared.Stand.{Stand}
use Rattle.respelling.specs.declared.Call.{Call}
use Rattle.respelling.specs.declared.Call.TheVariants.{Moved, Again, Failed}
use Rattle.respelling.specs.Stream.{turn, Turned}
use Rattle.respelling.proofs.Turns.{used_within}
use Rattle.respelling.specs.Run.{held_end, answered_stand, Answered, interrupted, error_told}
use Rattle.respelling.specs.Run.{call_of, read_told, write_told, moved, after_failure, after_read, after_write}

-- the record with the places and flags told
abbrev stand : ℕ → ℕ → ℕ → ℕ → Bool → Bool → Bool → Stand
stand f t p w l a b = record { from = f; to = t; put = p; wrote = w; last = l; waits = a; failed = b }

module _ (s : Stand) {c : Call} where
  pub read_moved : {n : ℕ} → c ≡ Moved n → stand s.from (s.to + n) s.put s.wrote (s.last || eqb n 0) false s.failed ≡ after_read s c
  unfolding after_read
  read_moved e = rw e refl

  pub read_again : c ≡ Again → s ≡ after_read s c
  unfolding after_read
  read_again e = rw e refl

  pub read_failed : c ≡ Failed → after_failure s ≡ after_read s c
  unfolding after_read
  read_failed e = rw e refl

  pub write_moved : {n : ℕ} → c ≡ Moved n → stand s.from s.to (s.put + n) s.wrote s.last s.waits s.failed ≡ after_write s c
  unfolding after_write
  write_moved e = rw e refl

  pub write_again : c ≡ Again → s ≡ after_write s c
  unfolding after_write
  write_again e = rw e refl

  pub write_failed : c ≡ Failed → after_failure s ≡ after_write s c
  unfolding after_write
  write_failed e = rw e refl

-- ---- what a call came to
-- what stands after it, by its bytes and whether it failed and is made again
module _ (s : Stand) (n : ℕ) (failed again : Bool) where
  pub after_read_of : after_read s (call_of n failed again)
      ≡ (when failed then (when again then s else after_failure s) else stand s.from (s.to + n) s.put s.wrote (s.last || eqb n 0) false s.failed)
  unfolding call_of after_read
  after_read_of = rw (if_map (after_read s) failed (when again then Again else Failed) (Moved n), if_map (after_read s) again Again Failed) refl

  pub after_write_of : after_write s (call_of n failed again)
      ≡ (when failed then (when again then s else after_failure s) else stand s.from s.to (s.put + n) s.wrote s.last s.waits s.failed)
  unfolding call_of after_write
  after_write_of = rw (if_map (after_write s) failed (when again then Again else Failed) (Moved n), if_map (after_write s) again Again Failed) refl

-- it moved no more than these bytes
pub moved_of : (n : ℕ) (failed again : Bool) → moved (call_of n failed again) ≤ n
unfolding call_of
moved_of n failed again =
    if_both (λ (c : Call). moved c ≤ n) failed _ _ (if_both (λ (c : Call). moved c ≤ n) again _ _ (omega arith) (omega arith)) (omega arith)

-- the number of an error, as the code compares it
pub of_error : (z : ℤ) → SFits w32 z → eqb (of_z w32 z) 4 ≡ interrupted z
unfolding interrupted
of_error (pos n) f = refl
of_error (negsuc n) f = ne_eqb (2 ^ 32 - suc n) 4 (λ e. omega (arith, f.sfits))

-- ---- what an answer tells
-- the error of an interrupted call, as the code compares it
is_interrupted : (z : ℤ) → int_eq z (pos 4) ≡ interrupted z
unfolding interrupted
is_interrupted (pos n) = grind (arith, nat_tests)
is_interrupted (negsuc n) = refl

error_is : (o : Option ℤ) → error_told o ≡ (when option_eq int_eq o (Some (pos 4)) then Again else Failed)
unfolding error_told when◌then◌else◌
error_is None = refl
error_is (Some z) = rw is_interrupted refl

pub told_error : {a : Result ℕ Error} {e : Error} {o : Option ℤ} {b : Bool} {c : Call} → a ≡ Err e → o ≡ raw_os_error e
    → b ≡ option_eq int_eq o (Some (pos 4)) → c ≡ call_of 0 true b → c ≡ read_told a
unfolding read_told call_of when◌then◌else◌
told_error {e = e} r q t p = rw r (p ∙ rw (t, q) (sym (error_is (raw_os_error e))))

module _ {a : Result ℕ Error} {e : Error} {o : Option ℤ} {b : Bool} (r : a ≡ Err e) (q : o ≡ raw_os_error e) (t : b ≡ option_eq int_eq o (Some (pos 4))) where
  pub told_again : b ≡ true → Again ≡ read_told a
  unfolding call_of when◌then◌else◌
  told_again u = told_error r q t (rw u refl)

  pub told_failed : b ≡ false → Failed ≡ read_told a
  unfolding call_of when◌then◌else◌
  told_failed u = told_error r q t (rw u refl)

module _ {a : Result ℕ Error} {n : ℕ} (r : a ≡ Ok n) where
  pub told_nothing : n ≡ 0 → Failed ≡ write_told a
  unfolding write_told
  told_nothing z = rw r (sym (if_true _ _ _ (eq-eqb n 0 z)))

  pub told_some : (n ≡ 0 → ⊥) → Moved n ≡ write_told a
  unfolding write_told
  told_some z = rw r (sym (if_false _ _ _ (ne_eqb n 0 z)))

pub told_same : {a : Result ℕ Error} {e : Error} {c : Call} → a ≡ Err e → c ≡ read_told a → c ≡ write_told a
unfolding read_told write_told
told_same r q = q ∙ rw r refl

-- what a call moved
none_moved : (o : Option ℤ) → moved (error_told o) ≡ 0
unfolding error_told
none_moved None = refl
none_moved (Some z) = if_cases (λ (c : Call). moved c ≡ 0) (interrupted z) _ _ (λ _. refl) (λ _. refl)

module _ (l : List ℕ) where
  pub read_within : (a : Result ℕ Error) {c : Call} → c ≡ read_told a → ReadsAtMost a l → moved c ≤ length l
  unfolding read_told
  read_within (Ok n) e h = rw e h.0
  read_within (Err e) f h = rw f (omega (arith, none_moved (raw_os_error e)))

  pub write_within : (a : Result ℕ Error) {c : Call} → c ≡ write_told a → WritesAtMost a l → moved c ≤ length l
  unfolding write_told
  write_within (Ok n) e h = rw e (if_cases (λ (c : Call). moved c ≤ length l) (eqb n 0) _ _ (λ _. omega arith) (λ _. h))
  write_within (Err e) f h = rw f (omega (arith, none_moved (raw_os_error e)))

-- ---- a slice of a buffer
-- what is lent from one place up to another
pub between : (from to : ℕ) (l : List ℕ) → take (to - from) (drop from l) ≡ drop from (take to l)
between zero to l = rw sub-zero
between (suc from) zero l = rw (zero-sub, drop-nil)
between (suc from) (suc to) [] = rw take-nil
between (suc from) (suc to) (b ∷ l) = simp unary_clauses (between from to l)

-- how many bytes it has
pub between_length : (from to : ℕ) (l : List ℕ) → to ≤ length l → length (drop from (take to l)) ≡ to - from
between_length from to l h = length-drop from (take to l) ∙ rw (length-take-le to l h)

-- ---- what is answered of what is held
module _ (s : Stand) (room : ℕ) (input : List ℕ) {out out' : List ℕ} {t : Turn}
    (p : Turned (turn s.last room (take (s.to - s.from) (drop s.from input))) out t out') where
  pub answer_used : t.used ≤ s.to - s.from
  answer_used =
      omega (arith, used_within s.last room (take (s.to - s.from) (drop s.from input)) p, length-take (s.to - s.from) (drop s.from input))

  pub answer_done : {end : ℕ} → end ≡ held_end s.from s.to t.used
      → Answered s (turn s.last room (drop s.from (take s.to input))) out (stand (s.from + t.used) end 0 t.wrote s.last (eqb t.used 0) s.failed) out'
  unfolding answered_stand
  answer_done e = let q = rw (between s.from s.to input) at p in record { answer_is = rw (e, q.answer_is) refl; output_is = q.output_is }

-- ---- where the bytes end that are held
module _ (from to used : ℕ) where
  pub end_used : 0 < used → to ≡ held_end from to used
  unfolding held_end
  end_used h = sym (if_false _ _ _ (ne_eqb used 0 (λ e. omega arith)))

  pub end_cut : used ≤ 0 → from ≤ to → from + min (to - from) 4099 ≡ held_end from to used
  unfolding held_end
  end_cut h l =
      rw (if_true (eqb used 0) (when ltb 4099 (to - from) then from + 4099 else to) to (eq-eqb used 0 (omega arith)))
      (if_cases (λ (n : ℕ). from + min (to - from) 4099 ≡ n) (ltb 4099 (to - from)) _ _ (λ e. omega (arith, ltb-true 4099 (to - from) e))
      (λ e. omega (arith, ltb-false 4099 (to - from) e)))
