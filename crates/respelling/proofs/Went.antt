-- Each call of the system is one move of what stands in the buffers. Assumes nothing.
use Prim.Native.Nat.{ℕ, ◌+◌, ◌-◌, ◌≤◌, ◌<◌}
use native.Mathlib.Omega.{arith}
use native.Mathlib.Nat.{zero-add, add-zero}
use mathlib.Core.Path.{◌≡◌, refl, sym, ap, ◌∙◌}
use mathlib.Core.Bool.{Bool, true, false, not, ◌&&◌, ◌||◌, false≢true}
use mathlib.Core.List.{List, [], ◌++◌}
use borrow.Author.Tests.{le-leb, lt-leb, lt-ltb, le-ltb, ltb-true, ltb-false, eqb-true}
use lib.Dec.{eqb, leb, ltb}
use lib.ListN.{length, take, drop, length-append, length-take, length-drop}
use lib.Seq.{take-append_seam, take-take, take_all, take-add, drop-drop, length-take-le}
use Rattle.laws.specs.If.{when◌then◌else◌, if_true, if_false, if_cases}
use Rattle.respelling.specs.declared.Stand.{Stand}
use Rattle.respelling.specs.declared.Call.{Call}
use Rattle.respelling.specs.declared.Call.TheVariants.{Moved, Again, Failed}
use Rattle.respelling.specs.Stream.{Done, turn}
use Rattle.respelling.specs.Run.{State, state_of, begins, answers, reads, writes, fails, is_due, calls, goes}
use Rattle.respelling.specs.Run.{Move, by_answer, by_read, by_write, by_nothing, by_failure, start, moves}
use Rattle.respelling.specs.Run.{Stands, first, held_end, answered_stand, Answered, Kept}
use Rattle.respelling.specs.Run.{moved, after_failure, after_read, after_write, Behind, ReadSome, WroteSome, goes_on, Went, Ran, Ended}
use Rattle.respelling.specs.Respell.{respell, whole}
use Rattle.respelling.proofs.Runs.{finished}
use Rattle.respelling.proofs.Whole.{only_whole}
use Rattle.respelling.proofs.Turns.{turn_within}
use Rattle.respelling.proofs.Calls.{between, between_length}

-- what stands, put together
abbrev state : List ℕ → List ℕ → Bool → Bool → Bool → State
state h d e w f = record { held = h; due = d; ended = e; waits = w; failed = f }

-- ---- what is due
due_none : (s : Stand) (input out : List ℕ) → s.wrote ≤ s.put → is_due (state_of s input out) ≡ false
unfolding is_due state_of
due_none s input out h = le-ltb 0 (length (drop s.put (take s.wrote out))) (omega (arith, length-drop s.put (take s.wrote out), length-take s.wrote out))

due_some : (s : Stand) (input out : List ℕ) → s.put < s.wrote → s.wrote ≤ length out → is_due (state_of s input out) ≡ true
unfolding is_due state_of
due_some s input out h l = lt-ltb 0 (length (drop s.put (take s.wrote out))) (omega (arith, between_length s.put s.wrote out l))

-- ---- answering
module _ (s : Stand) (input out : List ℕ) (k : Stands s input out) where
  abbrev made : Done
  made = turn s.last (length out) (drop s.from (take s.to input))

  used_in : made.used ≤ s.to - s.from
  used_in = omega (arith, turn_within s.last (length out) (drop s.from (take s.to input)), between_length s.from s.to input k.input_in)

  -- where nothing could be answered, at most 4,099 bytes are held
  cut_held : drop s.from (take (held_end s.from s.to 0) input) ≡ take 4099 (drop s.from (take s.to input))
  unfolding held_end when◌then◌else◌
  cut_held = on (ltb 4099 (s.to - s.from)) refl
    where
      on : (b : Bool) → ltb 4099 (s.to - s.from) ≡ b
          → drop s.from (take (when b then s.from + 4099 else s.to) input) ≡ take 4099 (drop s.from (take s.to input))
      on true e =
          let l : 4099 < s.to - s.from = ltb-true _ _ e in
          let z : s.from + 4099 - s.from ≡ 4099 = omega arith in
          sym (between s.from (s.from + 4099) input)
          ∙ rw z (sym (rw (between s.from s.to input) at (take-take 4099 (s.to - s.from) (drop s.from input) (omega arith))))
      on false e =
          let l : s.to - s.from ≤ 4099 = ltb-false _ _ e in
          sym (take_all 4099 (drop s.from (take s.to input)) (omega (arith, between_length s.from s.to input k.input_in)))

  held_after : drop (s.from + made.used) (take (held_end s.from s.to made.used) input)
      ≡ (when eqb made.used 0 then take 4099 (drop s.from (take s.to input)) else drop made.used (drop s.from (take s.to input)))
  unfolding when◌then◌else◌ held_end
  held_after = on (eqb made.used 0) refl
    where
      on : (b : Bool) → eqb made.used 0 ≡ b
          → drop (s.from + made.used) (take (held_end s.from s.to made.used) input)
          ≡ (when b then take 4099 (drop s.from (take s.to input)) else drop made.used (drop s.from (take s.to input)))
      on true e = rw (eqb-true made.used 0 e, add-zero) cut_held
      on false e = rw (drop-drop, if_false (eqb made.used 0) (when ltb 4099 (s.to - s.from) then s.from + 4099 else s.to) s.to e)

  end_in : held_end s.from s.to made.used ≤ s.to
  unfolding held_end
  end_in =
      if_cases (λ (n : ℕ). n ≤ s.to) (eqb made.used 0) _ _
      (λ _. if_cases (λ (n : ℕ). n ≤ s.to) (ltb 4099 (s.to - s.from)) _ _ (λ e. omega (arith, ltb-true)) (λ _. omega arith))
      (λ _. omega arith)

  begin_in : s.from + made.used ≤ held_end s.from s.to made.used
  unfolding held_end
  begin_in =
      if_cases (λ (n : ℕ). s.from + made.used ≤ n) (eqb made.used 0) _ _
      (λ z. if_cases (λ (n : ℕ). s.from + made.used ≤ n) (ltb 4099 (s.to - s.from)) _ _
      (λ e. omega (arith, eqb-true))
      (λ _. omega (arith, used_in, k.held_in)))
      (λ _. omega (arith, used_in, k.held_in))

  few_left : eqb made.used 0 ≡ true → held_end s.from s.to made.used ≤ s.from + made.used + 4099
  unfolding held_end
  few_left z =
      rw (if_true (eqb made.used 0) (when ltb 4099 (s.to - s.from) then s.from + 4099 else s.to) s.to z)
      (if_cases (λ (n : ℕ). n ≤ s.from + made.used + 4099) (ltb 4099 (s.to - s.from)) _ _ (λ _. omega arith) (λ e. omega (arith, ltb-false)))

  pub went_answer : {r : Stand} {out' : List ℕ} → s.wrote ≤ s.put → s.waits ≡ false
      → Answered s (turn s.last (length out) (drop s.from (take s.to input))) out r out' → length out' ≡ length out → Went s input out r input out'
  unfolding state_of answers answered_stand calls
  went_answer {r} {out'} d w p l =
      let b : take (length made.prints) out' ≡ made.prints = rw p.output_is (take-append_seam made.prints (drop (length made.prints) out)) in
      let c : calls (state_of s input out) ≡ false = rw (due_none s input out d) w in
      let n : length made.prints ≤ length out' = omega (arith, simp length-append at (ap length p.output_is)) in
      let e : state_of (answered_stand s made) input out' ≡ answers (length out) (state_of s input out)
      = λ i. state (held_after i) (b i) s.last (eqb made.used 0) s.failed in
      rw p.answer_is (record {
        got = [];
        gave = [];
        move = rw e (by_answer c);
        stands = record {
          held_in = begin_in;
          input_in = omega (arith, end_in, k.input_in);
          due_in = omega arith;
          output_in = n;
          few = few_left;
        };
      })

-- ---- writing
module _ (s : Stand) (input out : List ℕ) (k : Stands s input out) where
  wrote_so : (n : ℕ) → is_due (state_of s input out) ≡ true → s.put + n ≤ s.wrote
      → Went s input out (record { from = s.from; to = s.to; put = s.put + n; wrote = s.wrote; last = s.last; waits = s.waits; failed = s.failed }) input out
  unfolding state_of writes
  wrote_so n d l = record {
    got = [];
    gave = take n (drop s.put (take s.wrote out));
    move = rw (← drop-drop) (by_write n d);
    stands = record { held_in = k.held_in; input_in = k.input_in; due_in = l; output_in = k.output_in; few = k.few };
  }

  pub went_write : {r : Stand} → s.put < s.wrote → WroteSome s r → Went s input out r input out
  unfolding after_write calls state_of fails
  went_write h p = rw p.answer_is (on p.call p.within)
    where
      d : is_due (state_of s input out) ≡ true
      d = due_some s input out h k.output_in

      c : calls (state_of s input out) ≡ true
      c = rw d refl

      on : (x : Call) → s.put + moved x ≤ s.wrote → Went s input out (after_write s x) input out
      on (Moved n) l = wrote_so n d l
      on Again l = record { got = []; gave = []; move = by_nothing c; stands = k }
      on Failed l = record {
        got = [];
        gave = [];
        move = by_failure c;
        stands = record { held_in = k.held_in; input_in = k.input_in; due_in = k.due_in; output_in = k.output_in; few = k.few };
      }

-- ---- reading
-- what a call put into a slice that begins at a place
module _ (at : ℕ) (d e : List ℕ) where
  abbrev after_call : List ℕ
  after_call = take at d ++ (e ++ drop (length d - at) (drop at d))

  pub behind : {n : ℕ} → at ≤ length d → n ≤ length e → Behind at d n after_call
  behind {n} h k =
      let z : length (take at d) ≡ at = length-take-le at d h in
      let a : length after_call ≡ at + (length e + length (drop (length d - at) (drop at d)))
      = length-append (take at d) (e ++ drop (length d - at) (drop at d)) ∙ rw (z, length-append e (drop (length d - at) (drop at d))) refl in
      record {
        front = ap (λ m. take m after_call) (sym z) ∙ take-append_seam (take at d) _;
        within = omega (arith, a);
      }

-- what is kept is moved to the front, and there is room behind it
pub kept_room : (s : Stand) (input : List ℕ) {m : Stand} {mid : List ℕ} → Kept s input m mid → s.to ≤ s.from + 4099 → s.to ≤ length input
    → m.to ≤ 4099
kept_room s input p f h =
    omega (arith, ap (λ (x : Stand). x.to) p.answer_is, p.puts.end, between_length s.from s.to input h)

pub read_some : {s : Stand} {input : List ℕ} (m : Stand) {mid after : List ℕ} (c : Call) {r : Stand}
    → Kept s input m mid → s.to ≤ s.from + 4099 → s.to ≤ length input → Behind m.to mid (moved c) after → 4099 < length after → r ≡ after_read m c
    → ReadSome s input r after
read_some {s} {input} m {mid} {after} c p f h b l e =
    record { kept = m; mid = mid; call = c; keeps = p; room = omega (arith, kept_room s input p f h); behind = b; answer_is = e }

pub wrote_some : {s : Stand} (c : Call) (out : List ℕ) {r : Stand} → s.put < s.wrote → moved c ≤ length (take (s.wrote - s.put) (drop s.put out))
    → r ≡ after_write s c → WroteSome s r
wrote_some {s} c out h k e = record { call = c; within = omega (arith, length-take (s.wrote - s.put) (drop s.put out)); answer_is = e }

-- where more is to be read, few bytes are held
pub few_held : (s : Stand) (input out : List ℕ) → Stands s input out → s.waits ≡ true → s.to ≤ s.from + 4099
few_held s input out k w = k.few w

goes_reads : (s : Stand) → goes_on s ≡ true → s.wrote ≤ s.put → s.waits ≡ true → s.last ≡ false
unfolding goes_on
goes_reads s g h w = on s.failed s.last s.waits (leb s.wrote s.put) refl g w (le-leb _ _ h)
  where
    on : (a b c d : Bool) → s.last ≡ b → not (a || (b && c && d)) ≡ true → c ≡ true → d ≡ true → s.last ≡ false
    on a false c d e g w h = e
    on true true c d e g w h = absurd (false≢true g)
    on false true true true e g w h = absurd (false≢true g)
    on false true true false e g w h = absurd (false≢true h)
    on false true false d e g w h = absurd (false≢true w)

module _ (s : Stand) (input out : List ℕ) (k : Stands s input out) {r : Stand} {after : List ℕ} (p : ReadSome s input r after) where
  abbrev bytes : List ℕ
  bytes = drop s.from (take s.to input)

  abbrev m : Stand
  m = p.kept

  abbrev n : ℕ
  n = p.keeps.end

  many : n ≡ length bytes
  many = p.keeps.puts.end ∙ zero-add _

  -- what is held stands at the front
  front : take n after ≡ bytes
  front =
      let e : m.to ≡ n = ap (λ (x : Stand). x.to) p.keeps.answer_is in
      let f : take n after ≡ take n p.mid = rw e at p.behind.front in
      f ∙ rw (many, p.keeps.puts.output) (take-append_seam bytes _)

  -- what stands is what stood
  same : state_of m after out ≡ state_of s input out
  unfolding state_of
  same = rw p.keeps.answer_is (λ i. state (front i) (drop s.put (take s.wrote out)) s.last s.waits s.failed)

  abbrev at_front : Stand
  at_front = record { from = 0; to = n; put = s.put; wrote = s.wrote; last = s.last; waits = s.waits; failed = s.failed }

  is_front : m ≡ at_front
  is_front = p.keeps.answer_is

  n_is : m.to ≡ n
  n_is = ap (λ (x : Stand). x.to) is_front

  stands_front : Stands at_front after out
  stands_front = record {
    held_in = omega arith;
    input_in = omega (arith, p.room, n_is);
    due_in = k.due_in;
    output_in = k.output_in;
    few = λ w. omega (arith, k.few w, many, between_length s.from s.to input k.input_in);
  }

  same_front : state_of at_front after out ≡ state_of s input out
  same_front = ap (λ (x : Stand). state_of x after out) (sym is_front) ∙ same

  read_failed : calls (state_of s input out) ≡ true → Went s input out (after_failure at_front) after out
  unfolding state_of fails
  read_failed c =
      let m : Move (length out) (state_of at_front after out) [] [] (state_of (after_failure at_front) after out) = by_failure (rw same_front c) in
      record {
        got = [];
        gave = [];
        move = rw same_front at m;
        stands = record {
          held_in = stands_front.held_in;
          input_in = stands_front.input_in;
          due_in = k.due_in;
          output_in = k.output_in;
          few = stands_front.few;
        };
      }

  abbrev read_stand : ℕ → Stand
  read_stand j = record { from = 0; to = n + j; put = s.put; wrote = s.wrote; last = s.last || eqb j 0; waits = false; failed = s.failed }

  read_so : (j : ℕ) → n + j ≤ length after → is_due (state_of s input out) ≡ false → s.waits ≡ true → s.last ≡ false
      → Went s input out (read_stand j) after out
  unfolding state_of reads
  read_so j h d w l =
      let g : List ℕ = take j (drop n after) in
      let z : j ≡ length g = sym (length-take-le j (drop n after) (omega (arith, length-drop n after))) in
      let f : take (n + j) after ≡ bytes ++ g = take-add n j after ∙ ap (λ x. x ++ g) front in
      let e : state_of (read_stand j) after out ≡ reads g (state_of s input out)
      = λ i. state (f i) (drop s.put (take s.wrote out)) (s.last || eqb (z i) 0) false s.failed in
      record {
        got = g;
        gave = [];
        move = rw e (by_read g d w l);
        stands = record { held_in = omega arith; input_in = h; due_in = k.due_in; output_in = k.output_in; few = λ e. absurd (false≢true e) };
      }

  pub went_read : goes_on s ≡ true → s.wrote ≤ s.put → s.waits ≡ true → Went s input out r after out
  unfolding after_read calls state_of
  went_read g h w =
      let d : is_due (state_of s input out) ≡ false = due_none s input out h in
      let c : calls (state_of s input out) ≡ true = rw (d, w) refl in
      rw (p.answer_is, is_front) (on p.call p.behind.within d c)
    where
      on : (x : Call) → p.kept.to + moved x ≤ length after → is_due (state_of s input out) ≡ false → calls (state_of s input out) ≡ true
          → Went s input out (after_read at_front x) after out
      on (Moved j) l d c = read_so j (omega (arith, n_is)) d w (goes_reads s g h w)
      on Again l d c = record { got = []; gave = []; move = rw same_front (by_nothing c); stands = stands_front }
      on Failed l d c = read_failed c

-- ---- a run
ran_first : (input out : List ℕ) → Ran first input out
unfolding first state_of begins
ran_first input out = record {
  got = [];
  gave = [];
  run = start;
  stands = record { held_in = omega arith; input_in = omega arith; due_in = omega arith; output_in = omega arith; few = λ _. omega arith };
}

pub ran_start : (input out : List ℕ) {s : Stand} → s ≡ first → Ran s input out
ran_start input out e = rw e (ran_first input out)

pub ran_more : {s r : Stand} {input out input' out' : List ℕ} → Ran s input out → Went s input out r input' out' → length out' ≡ length out → Ran r input' out'
ran_more p w e = record { got = p.got ++ w.got; gave = p.gave ++ w.gave; run = rw e (moves p.run w.move); stands = w.stands }

-- ---- the end of a run
goes_same : (s : Stand) (input out : List ℕ) → Stands s input out → goes_on s ≡ goes (state_of s input out)
unfolding goes_on goes state_of
goes_same s input out k = on (ltb s.put s.wrote) refl
  where
    on : (b : Bool) → ltb s.put s.wrote ≡ b → goes_on s ≡ goes (state_of s input out)
    on true e =
        let h : s.put < s.wrote = ltb-true _ _ e in
        rw (due_some s input out h k.output_in, lt-leb s.wrote s.put h) refl
    on false e =
        let h : s.wrote ≤ s.put = ltb-false _ _ e in
        rw (due_none s input out h, le-leb s.wrote s.put h) refl

pub ran_ends : (s : Stand) (input out : List ℕ) → Ran s input out → 8194 ≤ length out → Ended s input out
unfolding state_of
ran_ends s input out r h = record {
  ran = r;
  all = λ g f. finished (length out) h r.run (sym (goes_same s input out r.stands) ∙ g) f;
  rest = (state_of s input out).due ++ respell (whole (state_of s input out).held);
  only = λ f. only_whole (length out) h r.run f;
}
