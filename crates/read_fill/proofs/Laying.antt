-- What the loop over a line keeps: its acts that are left store what is left of each buffer. Assumes nothing.
use Prim.Native.Nat.{ℕ, ◌+◌, ◌-◌, ◌≤◌, ◌<◌}
use mathlib.Core.Path.{◌≡◌, refl, sym, subst, ◌∙◌}
use mathlib.Core.Bool.{Bool, true, false}
use mathlib.Core.List.{List, [], ◌∷◌}
use native.Mathlib.Omega.{arith}
use borrow.Author.Tests.{ltb-false}
use lib.Dec.{ltb}
use lib.ListN.{length, take, drop, drop_of_length-le, length-take, length-drop}
use Rattle.laws.specs.If.{when◌then◌else◌}
use Rattle.utf8.specs.Utf8.{encode, size, decode_at, walk, valid_prefix, values, scalars, is_char}
use Rattle.utf8.specs.declared.Decoded.{Decoded}
use Rattle.utf8.specs.declared.Decoded.TheVariants.{Char, Bad, End}
use Rattle.utf8.proofs.Codec.{encode_decode, valid_within}
use Rattle.utf8.proofs.Laws.{Passed, len_ok, width_at, char_within, passed_char, passed_bad, end_past, left_char}
use Rattle.sentence.specs.Sentence.{Sentence, Formed}
use Rattle.sentence.specs.declared.Form.{Form}
use Rattle.sentence.specs.Reading.{Place, at, start, behind, in_tag, gap, escaped, Act, skip, letter, opens, of_tag, Step, go, stop, advance, Run, whole, stopped, ending, finish, push, follow, run, gather, Result, sentence, refused, built, placed, read}
use Rattle.sentence.specs.Reading as reading
use Rattle.sentence.proofs.Shape.{ActOf, StepOf, read_formed}
use Rattle.sheet.specs.Eight.{Each}
use Rattle.sheet.specs.Layout.{Buffers, Same, record_of, room_for}
use Rattle.sheet.proofs.Eights.{every, one}
use Rattle.read_state.specs.declared.State.{State}
use Rattle.sentence.specs.declared.Reason.{Reason}
use Rattle.std.specs.Prelude as prelude
use Rattle.read_state.specs.declared.Act as acts
use Rattle.read_state.specs.declared.Stepped.{Stepped}
use Rattle.read_state.specs.States.{state_of, state_in, act_of, stepped}
use Rattle.read_state.proofs.Enums.{state_back}
use Rattle.read_state.proofs.Steps.{advance_of, advanced, refused as off}
use Rattle.read_counts.specs.declared.Counts.{Counts}
use Rattle.read_counts.specs.Counts.{Small, nothing, tally_by, tally}
use Rattle.read_counts.proofs.Bounds.{nothing_small, small_more, tally_small}
use Rattle.read_counts.proofs.Spans.{Span, span, tally_width}
use Rattle.read_stores.specs.Stores.{Store, Stored, Bytes, Turning, Finishing}
use Rattle.read_fill.specs.Fill.{Fits, filled}
use Rattle.read_fill.proofs.Going.{emitted, Goings, roomy, goings_start, goings_narrow, goings_room, goings_turn, goings_finish, goings_done}

-- ---- a line that reads to a sentence
record Reads (f : Form) (x : List ℕ) (s : Sentence) : Type 0 where
  short : length x ≤ 4096
  valid : valid_prefix x ≡ length x
  acts : List Act
  runs : run f (at start) (scalars x) ≡ whole acts
  builds : built (gather acts) ≡ sentence s

reads_of : (f : Form) (x : List ℕ) (s : Sentence) → read f x ≡ sentence s → Reads f x s
unfolding read when◌then◌else◌ placed
reads_of f x s = long (ltb 4096 (length x)) refl
  where
    ran : (r : Run) → run f (at start) (scalars x) ≡ r → length x ≤ 4096 → valid_prefix x ≡ length x → placed (length x) r ≡ sentence s → Reads f x s
    ran (whole l) e h v i = record { short = h; valid = v; acts = l; runs = e; builds = i }
    ran (stopped n left) e h v i = let z : ◌≡◌ {A = ℕ} 0 1 = cc in absurd (omega arith)

    bad : (b : Bool) → ltb (valid_prefix x) (length x) ≡ b → length x ≤ 4096
        → (when b then refused 2 (valid_prefix x) else placed (length x) (run f (at start) (scalars x))) ≡ sentence s → Reads f x s
    bad true e h i = let z : ◌≡◌ {A = ℕ} 0 1 = cc in absurd (omega arith)
    bad false e h i = ran (run f (at start) (scalars x)) refl h (omega (arith, ltb-false (valid_prefix x) (length x) e, valid_within x)) i

    long : (b : Bool) → ltb 4096 (length x) ≡ b
        → (when b then refused 1 4096 else when ltb (valid_prefix x) (length x) then refused 2 (valid_prefix x) else placed (length x) (run f (at start) (scalars x))) ≡ sentence s → Reads f x s
    long true e i = let z : ◌≡◌ {A = ℕ} 0 1 = cc in absurd (omega arith)
    long false e i = bad (ltb (valid_prefix x) (length x)) refl (ltb-false 4096 (length x) e) i

-- ---- the invariant
pub record Laying (f : Form) (c : ℕ) (x : List ℕ) (σ : State) (k : Counts) (p : ℕ) (d₀ d : Buffers) : Type 0 where
  pub s : Sentence
  pub left : List Act
  pub reads : read f x ≡ sentence s
  pub stride : c ≡ s.columns
  pub room : room_for (record_of s) d₀ ≡ true
  pub short : length x ≤ 4096
  pub valid : valid_prefix x ≡ length x
  pub within : p ≤ length x
  pub passed : Passed x p
  pub small : Small k p
  pub runs : run f (state_of σ) (scalars (drop p x)) ≡ whole left
  pub goings : Goings left k s d₀ d

pub lay_start : (f : Form) (c : ℕ) (x : List ℕ) (σ : State) (k : Counts) (d : Buffers) → Fits (read f x) c d → σ ≡ state_in (at start) → k ≡ nothing → Laying f c x σ k 0 d d
lay_start f c x σ k d = on (read f x) refl
  where
    on : (r : Result) → read f x ≡ r → Fits r c d → σ ≡ state_in (at start) → k ≡ nothing → Laying f c x σ k 0 d d
    on (sentence s) e h i j =
        let r = reads_of f x s e in
        record {
          s = s;
          left = r.acts;
          reads = e;
          stride = h.0;
          room = h.1;
          short = r.short;
          valid = r.valid;
          within = omega arith;
          passed = record { same = omega arith };
          small = rw j nothing_small;
          runs = rw (i, state_back (at start)) r.runs;
          goings = rw j (goings_start r.acts s d (emitted f (scalars x) r.acts s r.runs r.builds) (roomy s d (read_formed f x s e).0 h.1));
        }
    on (refused n q) e h i j = absurd h

-- ---- a character
act_bytes : (a : Act) (c : ℕ) (y : List ℕ) → ActOf c a → y ≡ encode c → Bytes a y
act_bytes skip c y e h = tt
act_bytes (letter m d) c y e h = h ∙ rw e
act_bytes opens c y e h = tt
act_bytes (of_tag d) c y e h = h ∙ rw e

-- the acts of a run that went on
record Went (a : Act) (r : Run) (l : List Act) : Type 0 where
  rest : List Act
  runs : r ≡ whole rest
  is : l ≡ a ∷ rest

went : (a : Act) (r : Run) (l : List Act) → push a r ≡ whole l → Went a r l
unfolding push
went a (whole m) l e = record { rest = m; runs = refl; is = cc }
went a (stopped n left) l e = let z : ◌≡◌ {A = ℕ} 0 1 = cc in absurd (omega arith)

module _ {f : Form} {c : ℕ} {x : List ℕ} {σ : State} {k : Counts} {p : ℕ} {d₀ d : Buffers} (h : Laying f c x σ k p d₀ d) where
  lay_formed : Formed h.s
  lay_formed = (read_formed f x h.s h.reads).0

  -- inside the line a character stands
  pub lay_stands : p < length x → is_char (decode_at x p) ≡ true
  unfolding is_char
  lay_stands l = on (decode_at x p) refl
    where
      on : (c : Decoded) → decode_at x p ≡ c → is_char c ≡ true
      on (Char v n) e = refl
      on Bad e = absurd (omega (arith, passed_bad x p Bad (sym e) refl h.passed, h.valid))
      on End e = absurd (omega (arith, end_past x p e))

  pub lay_small : Small k 4096
  lay_small = small_more p 4096 k (omega (arith, h.short, h.within)) h.small

  pub lay_span : {v n : ℕ} → decode_at x p ≡ Char v n → Span x p n
  lay_span {v} {n} q = span x p v n h.within h.short q

  module _ {v n : ℕ} (q : decode_at x p ≡ Char v n) where
    -- it is not refused
    lay_goes : (e : ℕ) → advance f (state_of σ) v ≡ stop e → ⊥
    unfolding run follow
    lay_goes e w =
        let r : stopped e (size (v ∷ scalars (drop (p + n) x))) ≡ whole h.left = rw (left_char x p v n q, w) at h.runs in
        let z : ◌≡◌ {A = ℕ} 0 1 = cc in
        omega arith

    pub lay_some : v ≡ 0 → ⊥
    unfolding advance when◌then◌else◌
    lay_some z = lay_goes 4 (rw z)

    module _ (r : Stepped) (w : r ≡ stepped (advance f (state_of σ) v)) where
      pub lay_on : (o : Reason) → r.act ≡ prelude.Err o → ⊥
      lay_on o i = let z = off v σ r f o w i in lay_goes z.number z.is

      module _ {a : acts.Act} (i : r.act ≡ prelude.Ok a) where
        steps : advance f (state_of σ) v ≡ go (state_of r.state) (act_of v a)
        steps = advanced v σ r f a w i

        act_of_lem : ActOf v (act_of v a)
        act_of_lem = subst (StepOf v) steps (advance_of f (state_of σ) v)

        goes : Went (act_of v a) (run f (state_of r.state) (scalars (drop (p + n) x))) h.left
        unfolding run follow
        goes = went (act_of v a) _ h.left (rw (left_char x p v n q, steps) at h.runs)

        parts : Goings (act_of v a ∷ goes.rest) k h.s d₀ d
        parts = subst (λ (l : List Act). Goings l k h.s d₀ d) goes.is h.goings

        pub lay_turning : Turning c (act_of v a) k (take (p + n - p) (drop p x)) d
        unfolding decode_at
        lay_turning =
            let u : p + n - p ≡ n = omega arith in
            let s : Span x p n = span x p v n h.within h.short q in
            let l : length (take n (drop p x)) ≡ n = simp (length-take, length-drop) (omega (arith, s)) in
            rw u (record {
              small = lay_small;
              narrow = record {
                few = omega (arith, h.stride, lay_formed.columns_fit);
                fits = omega (arith, h.stride, goings_narrow (act_of v a) goes.rest k h.s d₀ d parts);
              };
              some = omega (arith, l, s);
              few = omega (arith, l, s);
              bytes = act_bytes (act_of v a) v (take n (drop p x)) act_of_lem (encode_decode (drop p x) v n q).bytes;
              room = rw h.stride (goings_room (act_of v a) goes.rest k h.s d₀ d parts);
            })

        pub lay_go : {k' : Counts} {e : Buffers} → Stored c (λ (o : Store). o.emit (act_of v a) k) k d e → ((m : ℕ) → k' ≡ tally_by n (act_of m a) k)
            → Laying f c x r.state k' (p + n) d₀ e
        lay_go {k'} {e} w i =
            let j : k' ≡ tally (act_of v a) k = i v ∙ rw (width_at x p v n q) (tally_width (act_of v a) v k act_of_lem) in
            record {
              s = h.s;
              left = goes.rest;
              reads = h.reads;
              stride = h.stride;
              room = h.room;
              short = h.short;
              valid = h.valid;
              within = char_within x p v n h.within q;
              passed = passed_char x p v n _ (sym q) refl h.passed;
              small = rw (i v) (tally_small n p (act_of v a) k (omega (arith, len_ok x p v n q)) h.small);
              runs = goes.runs;
              goings = rw j (goings_turn (act_of v a) goes.rest k h.s d₀ d parts e (rw h.stride at w));
            }

  -- ---- the line's end
  ended : length x ≤ p → h.left ≡ []
  unfolding run finish ending walk values
  ended l = none (state_of σ) (rw (drop_of_length-le x l) at h.runs)
    where
      place : (q : Place) → ending f q ≡ whole h.left → h.left ≡ []
      place start e = cc
      place behind e = cc
      place in_tag e = cc
      place (gap m) e = cc

      none : (τ : reading.State) → finish f τ ≡ whole h.left → h.left ≡ []
      none (at q) e = place q e
      none (escaped q) e = place q e

  over : length x ≤ p → Goings [] k h.s d₀ d
  over l = subst (λ (m : List Act). Goings m k h.s d₀ d) (ended l) h.goings

  pub lay_finishing : length x ≤ p → Finishing c k d
  lay_finishing l = rw h.stride (goings_finish k h.s d₀ d (over l) lay_small lay_formed.columns_fit)

  pub lay_done : {e : Buffers} → length x ≤ p → Stored c (λ (o : Store). o.last k) k d e → Same (filled (read f x) d₀) e
  unfolding filled
  lay_done {e} l i = rw h.reads (goings_done k h.s d₀ d (over l) e (roomy h.s d₀ lay_formed h.room) (rw h.stride at i))

  -- no buffer changes its length
  pub lay_long : Each (λ x y. length y ≡ length x) d₀ d
  lay_long = every (λ i. (one h.goings.every_store i).filling.long)
