-- A run that ends without a failed call has written what its whole input prints. Assumes nothing.
use Prim.Native.Nat.{ℕ, zero, suc, ◌≤◌}
use native.Mathlib.Omega.{arith}
use mathlib.Core.Path.{◌≡◌, refl, sym, ap, ◌∙◌}
use mathlib.Core.Bool.{Bool, true, false, not, ◌&&◌, ◌||◌, false≢true}
use mathlib.Core.List.{List, [], ◌∷◌, ◌++◌, append-nil, append_assoc}
use borrow.Author.Tests.{eqb-true, ltb-false}
use lib.Dec.{eqb}
use lib.ListN.{length, take, drop, take-append-drop}
use Rattle.laws.specs.If.{if_cases}
use Rattle.laws.proofs.Facts.{neither}
use Rattle.respelling.specs.Respell.{respell}
use Rattle.respelling.specs.Stream.{Done, turn}
use Rattle.respelling.specs.Run.{State, begins, answers, reads, writes, fails, is_due, calls, goes}
use Rattle.respelling.specs.Run.{Move, by_answer, by_read, by_write, by_nothing, by_failure, Run, start, moves}
use Rattle.respelling.proofs.Pieces.{continues, none_printed, turn_waits, cropped}

-- ---- what is left to print
-- what the whole input prints is what was written, what is due, and what is printed for the bytes held and those still to come
pub record Owes (x w : List ℕ) (a : State) : Type 0 where
  pub whole : (y : List ℕ) → (a.ended ≡ true → y ≡ []) → respell (x ++ y) ≡ w ++ (a.due ++ respell (a.held ++ y))
  pub rest : a.waits ≡ true → a.ended ≡ true → a.held ≡ []

empty : (l : List ℕ) → length l ≡ 0 → l ≡ []
empty [] h = refl
empty (b ∷ l) h = absurd (omega arith)

pub none_due : (a : State) → is_due a ≡ false → a.due ≡ []
unfolding is_due
none_due a e = empty a.due (omega (arith, ltb-false 0 (length a.due) e))

-- ---- the lines that can be answered are answered
module _ (room : ℕ) (h : 8194 ≤ room) (a : State) where
  made : Done
  made = turn a.ended room a.held

  -- of what is held then the same is printed
  left_same : (y : List ℕ) → respell ((answers room a).held ++ y) ≡ respell (drop made.used a.held ++ y)
  unfolding answers made
  left_same y =
      if_cases (λ (l : List ℕ). respell (l ++ y) ≡ respell (drop made.used a.held ++ y)) (eqb made.used 0) _ _
      (λ e. rw (eqb-true made.used 0 e) (cropped a.held y (turn_waits a.ended room a.held h (eqb-true _ _ e)).unended))
      (λ _. refl)

  left_none : eqb made.used 0 ≡ true → a.ended ≡ true → (answers room a).held ≡ []
  unfolding answers made
  left_none e l =
      let z : a.held ≡ [] = empty a.held ((turn_waits a.ended room a.held h (eqb-true _ _ e)).more l) in
      rw z (if_cases (λ (k : List ℕ). k ≡ []) (eqb (turn a.ended room []).used 0) _ _ (λ _. refl) (λ _. drop_none (turn a.ended room []).used))
    where
      drop_none : (n : ℕ) → ◌≡◌ {A = List ℕ} (drop n []) []
      drop_none zero = refl
      drop_none (suc n) = refl

  owes_answer : {x w : List ℕ} → Owes x w a → calls a ≡ false → Owes x w (answers room a)
  unfolding calls answers made
  owes_answer {x} {w} o c = record {
    whole = λ y e.
        o.whole y e ∙ rw (none_due a (neither (is_due a) a.waits c).0)
        (ap (λ l. w ++ l) (continues a.ended room a.held y e ∙ ap (λ l. made.prints ++ l) (sym (left_same y))));
    rest = left_none;
  }

-- ---- the other moves
owes_read : {x w : List ℕ} (a : State) (p : List ℕ) → a.ended ≡ false → Owes x w a → Owes (x ++ p) w (reads p a)
unfolding reads
owes_read {x} {w} a p f o = record {
  whole = λ y e. rw (append_assoc, append_assoc) (o.whole (p ++ y) (λ t. absurd (false≢true (sym f ∙ t))));
  rest = λ e. absurd (false≢true e);
}

-- what was written, what is due and the rest, where n bytes more are written
pub more_written : (w due rest : List ℕ) (n : ℕ) → w ++ (due ++ rest) ≡ (w ++ take n due) ++ (drop n due ++ rest)
more_written w due rest n = sym (append_assoc w (take n due) _ ∙ ap (λ l. w ++ l) (sym (append_assoc (take n due) (drop n due) _) ∙ rw take-append-drop))

owes_write : {x w : List ℕ} (a : State) (n : ℕ) → Owes x w a → Owes x (w ++ take n a.due) (writes n a)
unfolding writes
owes_write {x} {w} a n o = record { whole = λ y e. o.whole y e ∙ more_written w a.due _ n; rest = o.rest }

owes_fail : {x w : List ℕ} (a : State) → Owes x w a → Owes x w (fails a)
unfolding fails
owes_fail a o = record { whole = o.whole; rest = o.rest }

owes_move : (room : ℕ) → 8194 ≤ room → {x w p q : List ℕ} {a b : State} → Owes x w a → Move room a p q b → Owes (x ++ p) (w ++ q) b
owes_move room h o (by_answer {a} c) = rw (append-nil, append-nil) (owes_answer room h a o c)
owes_move room h o (by_read {a} p d s e) = rw append-nil (owes_read a p e o)
owes_move room h o (by_write {a} n d) = rw append-nil (owes_write a n o)
owes_move room h o (by_nothing c) = rw (append-nil, append-nil) o
owes_move room h o (by_failure {a} c) = rw (append-nil, append-nil) (owes_fail a o)

pub owes : (room : ℕ) → 8194 ≤ room → {x w : List ℕ} {a : State} → Run room x w a → Owes x w a
unfolding begins
owes room h start = record { whole = λ y e. refl; rest = λ s e. absurd (false≢true e) }
owes room h (moves r m) = owes_move room h (owes room h r) m

-- ---- the end
record Over (a : State) : Type 0 where
  ends : a.ended ≡ true
  rests : a.waits ≡ true
  written : is_due a ≡ false

over : (a : State) → goes a ≡ false → a.failed ≡ false → Over a
unfolding goes
over a g f = on a.failed a.ended a.waits (is_due a) refl refl refl refl g f
  where
    on : (b c d e : Bool) → a.failed ≡ b → a.ended ≡ c → a.waits ≡ d → is_due a ≡ e → not (b || (c && d && not e)) ≡ false → b ≡ false → Over a
    on true c d e i j k l g f = absurd (false≢true (sym f))
    on false true true false i j k l g f = record { ends = j; rests = k; written = l }
    on false true true true i j k l g f = absurd (false≢true (sym g))
    on false true false e i j k l g f = absurd (false≢true (sym g))
    on false false d e i j k l g f = absurd (false≢true (sym g))

-- where a run is over and no call has failed, what it wrote is what all that it read prints
pub finished : (room : ℕ) → 8194 ≤ room → {x w : List ℕ} {a : State} → Run room x w a → goes a ≡ false → a.failed ≡ false → w ≡ respell x
finished room h {x} {w} {a} r g f =
    let o = owes room h r in
    let e = over a g f in
    let z = o.whole [] (λ _. refl) in
    sym (rw (append-nil, none_due a e.written, o.rest e.rests e.ends, none_printed, append-nil) at z)
