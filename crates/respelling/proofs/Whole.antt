-- Before the end of the input is seen, only lines whose LF was read have an answer. Assumes nothing.
use Prim.Native.Nat.{ℕ, zero, suc, ◌+◌, ◌-◌, ◌≤◌, ◌<◌}
use native.Mathlib.Omega.{arith}
use mathlib.Core.Path.{◌≡◌, refl, sym, ap, ◌∙◌}
use mathlib.Core.Bool.{Bool, true, false, ◌||◌, or-true, false≢true}
use mathlib.Core.List.{List, [], ◌∷◌, ◌++◌, append-nil, append_assoc}
use borrow.Author.Tests.{eqb-true, ltb-true}
use lib.Dec.{eqb, ltb}
use lib.ListN.{length, take, drop, take-append-drop}
use lib.Seq.{drop-drop}
use Rattle.laws.specs.If.{when◌then◌else◌, if_true, if_false, if_cases}
use Rattle.laws.proofs.Facts.{neither}
use Rattle.respelling.specs.Respell.{before, lines, answers, respell, fed, whole}
use Rattle.respelling.specs.Stream.{line_len, Done, step, and_then, steps, turn}
use Rattle.respelling.specs.Run.{State, begins, reads, writes, fails, is_due, calls}
use Rattle.respelling.specs.Run.{Move, by_answer, by_read, by_write, by_nothing, by_failure, Run, start, moves}
use Rattle.respelling.specs.Run as run
use Rattle.respelling.proofs.Lines.{len_feed, len_byte, lines_feed, lines_byte}
use Rattle.respelling.proofs.Pieces.{turn_waits, open_front}
use Rattle.respelling.proofs.Runs.{Owes, owes, none_due, more_written}

-- ---- the bytes up to the last LF
whole_fed : (b : ℕ) (s : List ℕ) → fed (b ∷ s) ≡ true → whole (b ∷ s) ≡ b ∷ whole s
unfolding whole
whole_fed b s e = if_true _ _ _ e

whole_none : (s : List ℕ) → fed s ≡ false → whole s ≡ []
unfolding whole
whole_none [] e = refl
whole_none (b ∷ s) e = if_false _ _ _ e

fed_behind : (s p : List ℕ) → fed p ≡ true → fed (s ++ p) ≡ true
unfolding fed
fed_behind [] p e = e
fed_behind (b ∷ s) p e = rw (fed_behind s p e, or-true)

fed_before : (s p : List ℕ) → fed p ≡ false → fed (s ++ p) ≡ fed s
unfolding fed
fed_before [] p e = e
fed_before (b ∷ s) p e = rw (fed_before s p e)

-- bytes behind: all before them belong to whole lines where an LF is among them, and none of them does where there is none
whole_behind : (s p : List ℕ) → fed p ≡ true → whole (s ++ p) ≡ s ++ whole p
whole_behind [] p e = refl
whole_behind (b ∷ s) p e = whole_fed b (s ++ p) (fed_behind (b ∷ s) p e) ∙ ap (λ l. b ∷ l) (whole_behind s p e)

whole_before : (s p : List ℕ) → fed p ≡ false → whole (s ++ p) ≡ whole s
unfolding whole
whole_before [] p e = whole_none p e
whole_before (b ∷ s) p e = rw (fed_before (b ∷ s) p e, whole_before s p e)

-- ---- the first line
fed_cut : (s : List ℕ) → line_len s < length s → fed s ≡ true
unfolding fed
fed_cut [] h = absurd (omega arith)
fed_cut (b ∷ s) h = on (eqb b 10) refl (fed_cut s)
  where
    on : (t : Bool) → eqb b 10 ≡ t → (line_len s < length s → fed s ≡ true) → (eqb b 10 || fed s) ≡ true
    on true e i = rw e refl
    on false e i = rw e (i (omega (arith, len_byte b s e)))

fed_open : (s : List ℕ) → length s ≤ line_len s → fed s ≡ false
unfolding fed
fed_open [] h = refl
fed_open (b ∷ s) h = on (eqb b 10) refl (fed_open s)
  where
    on : (t : Bool) → eqb b 10 ≡ t → (length s ≤ line_len s → fed s ≡ false) → (eqb b 10 || fed s) ≡ false
    on true e i = absurd (omega (arith, len_feed b s e))
    on false e i = rw e (i (omega (arith, len_byte b s e)))

-- the first whole line is the first line, and the others are those behind its LF
abbrev First : List ℕ → Type 0
First s = lines (whole s) ≡ take (line_len s) s ∷ lines (whole (drop (line_len s + 1) s))

first_line : (s : List ℕ) → line_len s < length s → First s
unfolding before
first_line [] h = absurd (omega arith)
first_line (b ∷ s) h = on (eqb b 10) refl (first_line s)
  where
    w : whole (b ∷ s) ≡ b ∷ whole s
    w = whole_fed b s (fed_cut (b ∷ s) h)

    on : (t : Bool) → eqb b 10 ≡ t → (line_len s < length s → First s) → First (b ∷ s)
    on true e i = rw (w, len_feed b s e) (lines_feed b (whole s) e)
    on false e i =
        let p : line_len (b ∷ s) ≡ suc (line_len s) = len_byte b s e in
        let q : suc (line_len s) + 1 ≡ suc (line_len s + 1) = omega arith in
        rw (w, p, q, lines_byte b (whole s) e, i (omega arith)) refl

-- ---- what is done with a piece while more may come
abbrev Keeps : List ℕ → Done → Type 0
Keeps s d = respell (whole s) ≡ d.prints ++ respell (whole (drop d.used s))

step_keeps : (room : ℕ) (s : List ℕ) → Keeps s (step false room s)
unfolding step respell answers when◌then◌else◌
step_keeps room s =
    if_cases (Keeps s) (ltb room 8194) _ _ (λ _. refl)
    (λ _. if_cases (Keeps s) (ltb (line_len s) (length s)) _ _ (λ e. let l : line_len s < length s = ltb-true _ _ e in rw (first_line s l) refl) (λ _. refl))

steps_keep : (more room : ℕ) (s : List ℕ) → Keeps s (steps more false room s)
unfolding steps and_then
steps_keep zero room s = refl
steps_keep (suc more) room s =
    let d : Done = step false room s in
    let e : Done = steps more false (room - length d.prints) (drop d.used s) in
    let p : Keeps s d = step_keeps room s in
    let q : Keeps (drop d.used s) e = steps_keep more (room - length d.prints) (drop d.used s) in
    if_cases (Keeps s) (eqb d.used 0) d (and_then d e) (λ _. p)
    (λ _. p ∙ ap (λ l. d.prints ++ l) q ∙ rw (append_assoc, drop-drop))

turn_keeps : (room : ℕ) (s : List ℕ) → Keeps s (turn false room s)
unfolding turn
turn_keeps room s = steps_keep (suc (length s)) room s

-- ---- a run
-- the answers to the lines whose LF was read are what was written, what is due, and those to the whole lines that are held
record Only (x w : List ℕ) (a : State) : Type 0 where
  so_far : a.ended ≡ false → respell (whole x) ≡ w ++ (a.due ++ respell (whole a.held))

module _ (room : ℕ) (h : 8194 ≤ room) (a : State) (f : a.ended ≡ false) where
  made : Done
  made = turn false room a.held

  left_whole : whole (run.answers room a).held ≡ whole (drop made.used a.held)
  unfolding run.answers made
  left_whole =
      rw f
      (if_cases (λ (l : List ℕ). whole l ≡ whole (drop made.used a.held)) (eqb made.used 0) _ _
      (λ e.
      let z : made.used ≡ 0 = eqb-true made.used 0 e in
      let u : length a.held ≤ line_len a.held = (turn_waits false room a.held h z).unended in
      let t : List ℕ = take 4099 a.held in
      let v : length (take 4099 a.held) ≤ line_len (take 4099 a.held) = open_front (take 4099 a.held) (drop 4099 a.held) (rw take-append-drop u) in
      rw z (whole_none (take 4099 a.held) (fed_open (take 4099 a.held) v) ∙ sym (whole_none a.held (fed_open a.held u))))
      (λ _. refl))

  prints_are : (run.answers room a).due ≡ made.prints
  unfolding run.answers made
  prints_are = rw f refl

only_answer : (room : ℕ) → 8194 ≤ room → {x w : List ℕ} (a : State) → Only x w a → calls a ≡ false → Only x w (run.answers room a)
unfolding calls run.answers made
only_answer room h {x} {w} a o c = record {
  so_far = λ f.
      o.so_far f
      ∙ rw (none_due a (neither (is_due a) a.waits c).0)
      (ap (λ l. w ++ l) (turn_keeps room a.held ∙ rw (prints_are room h a f, left_whole room h a f) refl));
}

only_read : {x w : List ℕ} (a : State) (p : List ℕ) → a.ended ≡ false → Owes x w a → Only x w a → Only (x ++ p) w (reads p a)
unfolding reads
only_read {x} {w} a p f o n = record { so_far = λ _. on (fed p) refl }
  where
    on : (t : Bool) → fed p ≡ t → respell (whole (x ++ p)) ≡ w ++ (a.due ++ respell (whole (a.held ++ p)))
    on true i = rw (whole_behind x p i, whole_behind a.held p i) (o.whole (whole p) (λ t. absurd (false≢true (sym f ∙ t))))
    on false i = rw (whole_before x p i, whole_before a.held p i) (n.so_far f)

only_write : {x w : List ℕ} (a : State) (n : ℕ) → Only x w a → Only x (w ++ take n a.due) (writes n a)
unfolding writes
only_write {x} {w} a n o = record { so_far = λ f. o.so_far f ∙ more_written w a.due _ n }

only_fail : {x w : List ℕ} (a : State) → Only x w a → Only x w (fails a)
unfolding fails
only_fail a o = record { so_far = o.so_far }

only_move : (room : ℕ) → 8194 ≤ room → {x w p q : List ℕ} {a b : State} → Owes x w a → Only x w a → Move room a p q b → Only (x ++ p) (w ++ q) b
only_move room h o n (by_answer {a} c) = rw (append-nil, append-nil) (only_answer room h a n c)
only_move room h o n (by_read {a} p d s e) = rw append-nil (only_read a p e o n)
only_move room h o n (by_write {a} k d) = rw append-nil (only_write a k n)
only_move room h o n (by_nothing c) = rw (append-nil, append-nil) n
only_move room h o n (by_failure {a} c) = rw (append-nil, append-nil) (only_fail a n)

only : (room : ℕ) → 8194 ≤ room → {x w : List ℕ} {a : State} → Run room x w a → Only x w a
unfolding begins
only room h start = record { so_far = λ _. refl }
only room h (moves r m) = only_move room h (owes room h r) (only room h r) m

-- while the end of the input was not seen, what is written begins the answers to the lines whose LF was read
pub only_whole : (room : ℕ) → 8194 ≤ room → {x w : List ℕ} {a : State} → Run room x w a → a.ended ≡ false
    → respell (whole x) ≡ w ++ (a.due ++ respell (whole a.held))
only_whole room h r f = (only room h r).so_far f
