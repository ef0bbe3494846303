-- However an input is cut into pieces, what is printed for the pieces is what is printed for the whole. Assumes nothing.
use Prim.Native.Nat.{ℕ, zero, suc, ◌+◌, ◌-◌, ◌≤◌, ◌<◌}
use native.Mathlib.Omega.{arith}
use mathlib.Core.Path.{◌≡◌, refl, sym, ap, ◌∙◌}
use mathlib.Core.Bool.{Bool, true, false, ◌&&◌, and-eq-true_iff}
use mathlib.Core.List.{List, [], ◌∷◌, ◌++◌, append-nil, append_assoc}
use borrow.Author.Tests.{lt-ltb, ltb-true, ltb-false, eqb-true, eqb-false, eq-eqb, ne_eqb}
use lib.Dec.{eqb, ltb}
use lib.ListN.{length, take, drop, length-append, length-drop, take-append-drop}
use lib.Seq.{drop-length, drop-drop, length-take-le, take_all}
use Rattle.laws.specs.If.{when◌then◌else◌, if_true, if_false, if_cases}
use Rattle.sentence.specs.declared.Form.{Form}
use Rattle.sentence.specs.Reading.{refused, read}
use Rattle.convert_buffers.specs.Between.{between}
use Rattle.convert.specs.Convert.{conversion}
use Rattle.respelling.specs.declared.Turn.{Turn}
use Rattle.respelling.specs.Respell.{outcome, answer, lines, answers, respell}
use Rattle.respelling.specs.Stream.{line_len, past_line, Done, done, step, and_then, steps, turn, Turned}
use Rattle.respelling.proofs.Lines.{cut_line, same_len, open_line}

-- ---- an overlong line has its answer before its end is there
read_long : (f : Form) (x : List ℕ) → 4096 < length x → read f x ≡ refused 1 4096
unfolding read
read_long f x h = if_true _ _ _ (lt-ltb _ _ h)

long_answer : (s z : List ℕ) → 4098 < length s → answer (s ++ z) ≡ answer s
unfolding outcome conversion between
long_answer [] z h = absurd (omega arith)
long_answer (a ∷ []) z h = absurd (omega arith)
long_answer (a ∷ b ∷ x) z h =
    let l : 4096 < length (x ++ z) = omega (arith, length-append x z) in
    let m : 4096 < length x = omega arith in
    rw (read_long _ (x ++ z) l, read_long _ x m)

-- ---- one line of a piece s, before whatever follows it
cut_answer : (s y : List ℕ) → line_len s < length s → respell (s ++ y) ≡ answer (take (line_len s) s) ++ respell (drop (line_len s + 1) s ++ y)
unfolding respell answers
cut_answer s y h = rw (cut_line s y h)

-- a line of which no end is there
open_answer : (s y : List ℕ) → 0 < length s → length s ≤ line_len s → respell (s ++ y) ≡ answer (s ++ take (line_len y) y) ++ respell (past_line y)
unfolding respell answers
open_answer [] y h k = absurd (omega arith)
open_answer (b ∷ s) y h k = rw (open_line b s y k)

last_answer : (s y : List ℕ) → y ≡ [] → 0 < length s → length s ≤ line_len s → respell (s ++ y) ≡ answer s ++ respell y
unfolding past_line line_len
last_answer s y e h k = rw (e, append-nil) (rw append-nil at (open_answer s [] h k))

-- ---- a step
-- what is done with a piece leaves the rest of what the whole prints
abbrev pub Continues : List ℕ → List ℕ → Done → Type 0
Continues s y d = respell (s ++ y) ≡ d.prints ++ respell (drop d.used s ++ y)

module _ (last : Bool) (s y : List ℕ) (end : last ≡ true → y ≡ []) where
  open_continues : length s ≤ line_len s → Continues s y (when last && ltb 0 (length s) then done (length s) (answer s) else done 0 [])
  open_continues h =
      if_cases (Continues s y) (last && ltb 0 (length s)) _ _
      (λ e. let a = (and-eq-true_iff last (ltb 0 (length s))).0 e in rw drop-length (last_answer s y (end a.0) (ltb-true _ _ a.1) h))
      (λ _. refl)

  step_continues : (room : ℕ) → Continues s y (step last room s)
  unfolding step
  step_continues room =
      if_cases (Continues s y) (ltb room 8194) _ _ (λ _. refl)
      (λ _. if_cases (Continues s y) (ltb (line_len s) (length s)) _ _
      (λ e. cut_answer s y (ltb-true _ _ e))
      (λ e. open_continues (ltb-false _ _ e)))

-- ---- step after step
steps_continue : (more : ℕ) (last : Bool) (s y : List ℕ) → (last ≡ true → y ≡ []) → (room : ℕ) → Continues s y (steps more last room s)
unfolding steps and_then
steps_continue zero last s y end room = refl
steps_continue (suc more) last s y end room =
    let d : Done = step last room s in
    let r : ℕ = room - length d.prints in
    let e : Done = steps more last r (drop d.used s) in
    let p : Continues s y d = step_continues last s y end room in
    let q : Continues (drop d.used s) y e = steps_continue more last (drop d.used s) y end r in
    if_cases (Continues s y) (eqb d.used 0) d (and_then d e) (λ _. p)
    (λ _. p ∙ ap (λ l. d.prints ++ l) q ∙ rw (append_assoc, drop-drop))

-- for every continuation the answers are those of the whole input; the last piece has none
pub continues : (last : Bool) (room : ℕ) (s y : List ℕ) → (last ≡ true → y ≡ []) → Continues s y (turn last room s)
unfolding turn
continues last room s y end = steps_continue (suc (length s)) last s y end room

-- nothing is printed for what is not there
pub none_printed : respell [] ≡ []
unfolding respell lines answers
none_printed = refl

-- ---- how much is used
module _ (last : Bool) (s : List ℕ) where
  abbrev Within : Done → Type 0
  Within d = d.used ≤ length s

  pub step_within : (room : ℕ) → Within (step last room s)
  unfolding step
  step_within room =
      let n : ℕ = length s in
      if_cases Within (ltb room 8194) _ _ (λ _. omega arith)
      (λ _. if_cases Within (ltb (line_len s) n) _ _ (λ e. omega (arith, ltb-true))
      (λ _. if_cases Within (last && ltb 0 n) _ _ (λ _. omega arith) (λ _. omega arith)))

  -- where nothing is used though there is room, no LF is there, and at the input's end nothing
  pub record Waits : Type 0 where
    pub unended : length s ≤ line_len s
    pub more : last ≡ true → length s ≡ 0

  abbrev Stops : Done → Type 0
  Stops d = d.used ≡ 0 → Waits

  step_waits : (room : ℕ) → 8194 ≤ room → Stops (step last room s)
  unfolding step
  step_waits room h =
      let n : ℕ = length s in
      if_cases Stops (ltb room 8194) _ _ (λ e. absurd (omega (arith, ltb-true)))
      (λ _. if_cases Stops (ltb (line_len s) n) _ _ (λ _ z. absurd (omega arith))
      (λ e. if_cases Stops (last && ltb 0 n) _ _
      (λ f z. absurd (omega (arith, ltb-true 0 n ((and-eq-true_iff last (ltb 0 n)).0 f).1)))
      (λ f _. record { unended = ltb-false _ _ e; more = λ l. omega (arith, ltb-false 0 n (rw l at f)) })))

-- ---- a call by its first step
steps_enough : (k j : ℕ) (last : Bool) (room : ℕ) (s : List ℕ) → length s < k → length s < j → steps k last room s ≡ steps j last room s
unfolding steps when◌then◌else◌
steps_enough zero j last room s h i = absurd (omega arith)
steps_enough (suc k) zero last room s h i = absurd (omega arith)
steps_enough (suc k) (suc j) last room s h i =
    on (eqb d.used 0) refl (λ z. steps_enough k j last (room - length d.prints) (drop d.used s) (less k z h) (less j z i))
  where
    d : Done
    d = step last room s

    less : (n : ℕ) → (d.used ≡ 0 → ⊥) → length s < suc n → length (drop d.used s) < n
    less n z h = omega (arith, length-drop d.used s, step_within last s room)

    on : (b : Bool) {x y : Done} → eqb d.used 0 ≡ b → ((d.used ≡ 0 → ⊥) → x ≡ y) → (when b then d else and_then d x) ≡ (when b then d else and_then d y)
    on true e f = refl
    on false e f = ap (and_then d) (f (eqb-false _ _ e))

module _ (last : Bool) (room : ℕ) (s : List ℕ) where
  -- a step that uses nothing is the last
  pub turn_rests : (step last room s).used ≡ 0 → turn last room s ≡ step last room s
  unfolding turn steps
  turn_rests z = if_true _ _ _ (eq-eqb _ _ z)

  pub turn_goes : ((step last room s).used ≡ 0 → ⊥)
      → turn last room s ≡ and_then (step last room s) (turn last (room - length (step last room s).prints) (drop (step last room s).used s))
  unfolding turn steps
  turn_goes z =
      let d : Done = step last room s in
      let less : length (drop d.used s) < length s = omega (arith, length-drop d.used s, step_within last s room) in
      if_false _ _ _ (ne_eqb _ _ z) ∙ ap (and_then d) (steps_enough (length s) (suc (length (drop d.used s))) last _ (drop d.used s) less (omega arith))

  -- a call that uses nothing though there is room waits for the line's end
  pub turn_waits : 8194 ≤ room → (turn last room s).used ≡ 0 → Waits last s
  unfolding and_then
  turn_waits h z = step_waits last s room h (on (eqb (step last room s).used 0) refl)
    where
      on : (b : Bool) → eqb (step last room s).used 0 ≡ b → (step last room s).used ≡ 0
      on true e = eqb-true _ _ e
      on false e = omega (arith, ap (λ (d : Done). d.used) (turn_goes (eqb-false _ _ e)))

-- two outcomes of one call are equal
pub turned_once : {d : Done} {out : List ℕ} {r r' : Turn} {o o' : List ℕ} → Turned d out r o → Turned d out r' o' → (r ≡ r') × (o ≡ o')
turned_once p q = (cc, cc)

-- ---- a line that has not ended
pub open_front : (t r : List ℕ) → length (t ++ r) ≤ line_len (t ++ r) → length t ≤ line_len t
open_front t r h = on (ltb (line_len t) (length t)) refl
  where
    on : (b : Bool) → ltb (line_len t) (length t) ≡ b → length t ≤ line_len t
    on true e = let l : line_len t < length t = ltb-true _ _ e in absurd (omega (arith, h, same_len t r l, length-append t r))
    on false e = ltb-false _ _ e

crop : (t r y : List ℕ) → 4098 < length t → length (t ++ r) ≤ line_len (t ++ r) → respell (t ++ y) ≡ respell ((t ++ r) ++ y)
crop t r y h k =
    let z : List ℕ = take (line_len y) y in
    let e : answer (t ++ z) ≡ answer ((t ++ r) ++ z) = long_answer t z h ∙ sym (rw (← append_assoc) at (long_answer t (r ++ z) h)) in
    open_answer t y (omega arith) (open_front t r k) ∙ ap (λ l. l ++ respell (past_line y)) e
    ∙ sym (open_answer (t ++ r) y (omega (arith, length-append t r)) k)

-- of a line of which no LF is there 4,099 bytes are enough, whatever follows
pub cropped : (s y : List ℕ) → length s ≤ line_len s → respell (take 4099 s ++ y) ≡ respell (s ++ y)
cropped s y h = on (ltb 4099 (length s)) refl
  where
    on : (b : Bool) → ltb 4099 (length s) ≡ b → respell (take 4099 s ++ y) ≡ respell (s ++ y)
    on false e = rw (take_all 4099 s (ltb-false _ _ e))
    on true e =
        let l : 4099 < length s = ltb-true _ _ e in
        let m : length (take 4099 s) ≡ 4099 = length-take-le 4099 s (omega arith) in
        let c = crop (take 4099 s) (drop 4099 s) y (omega arith) (rw take-append-drop h) in
        rw take-append-drop at c
