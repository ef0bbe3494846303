-- Demand 1 holds of every public entry: from the contracts' definitions. Assumes nothing.
use Rattle.std.specs.Prelude.{Ok, Err}
use Rattle.std.specs.Prelude as prelude
use Prim.Native.Nat.{ℕ, ◌+◌, ◌-◌, ◌≤◌, ◌<◌}
use mathlib.Core.Path.{◌≡◌, refl, sym, ap, subst, ◌∙◌}
use mathlib.Core.Logic.{◌↔◌, ◌⊎◌, inl, inr}
use mathlib.Core.Bool.{Bool, true, false, not, ◌||◌, false≢true}
use mathlib.Core.List.{List, [], ◌∷◌, ◌++◌, map}
use native.Mathlib.Decide.{dec_lt}
use native.Mathlib.Omega.{arith}
use borrow.Author.Tests.{eq-eqb, eqb-true, le-leb, lt-ltb, ltb-false}
use lib.Dec.{eqb, ltb}
use lib.IntN.{ℤ}
use lib.ListN.{length, drop, get_or, length-take, length-drop}
use lib.Seq.{drop_at, drop-drop, get_or-drop}
use Rattle.laws.specs.If.{when◌then◌else◌, if_cases, if_true}
use Rattle.laws.specs.Put.{over as put}
use Rattle.laws.proofs.Facts.{reads, or_is}
use Rattle.utf8.specs.declared.Decoded.{Decoded}
use Rattle.utf8.specs.declared.Decoded.TheVariants as decoded
use Rattle.utf8.specs.Utf8.{scalars, valid_prefix, char_at, decode_at, scalar, width, encode, encodes, size}
use Rattle.utf8.proofs.Codec.{valid_within, encode_decode, length_encode, length_encodes, encodes_scalars, width_small}
use Rattle.sentence.specs.declared.Refusal.{Refusal}
use Rattle.sentence.specs.Sentence.{Mark, word, Sentence}
use Rattle.sentence.specs.Reading.{Kind, mark, slash, back, plain, kind, Place, start, behind, in_tag, gap, State, at, escaped, Act, skip, letter, opens, of_tag, Step, go, stop, ordinary, inside, opening, step, advance, Run, whole, stopped, unfinished, ending, finish, push, follow, run, over, next, Parsed, parsed, add, gather, Result, sentence, refused, built, placed, read}
use Rattle.sentence.specs.declared.Form.{Form}
use Rattle.sentence.specs.declared.Form.TheVariants.{Raw as raw, Tokenized as tokenized, Partial as partial}
use Rattle.sentence.specs.Forms.{form_of, no_reader}
use Rattle.sentence.specs.Writing.{written, blank}
use Rattle.types.proofs.Laws.{has_code}
use Rattle.sentence.specs.Refusals.{reason_of, reason_number, refusal, Check, check, verdict, sheet_order, reader_order, update_order, host_order}
use Rattle.sheet.specs.declared.Record.{Record}
use Rattle.sheet.specs.Answers.{Answer}
use Rattle.sheet.specs.Answers.{Number}
use Rattle.sheet.specs.Answers.{Slice}
use Rattle.sheet.specs.Layout.{Buffers, record_of, room_for, laid, spell}
use Rattle.sheet.specs.Check.{is_sheet}
use Rattle.sheet.proofs.Exact.{is_sheet_lem, holds_is}
use Rattle.lookups.specs.Answers.{char_to_str_pos_of, str_to_char_pos_of, boundary_at, tag_slice, tag_at, surface_at}
use Rattle.lookups.proofs.Slices.{tag_within, surface_within}
use Rattle.changes.specs.Changes.{Lays, default_answer, DefaultSet, boundary_answer, BoundarySet, reset_answer, TagsReset}
use Rattle.scores.specs.Scores.{score_answer, Predicted}
use Rattle.read_load.specs.Load.{lacks, read_answer, read_leaves, ReadDoes}
use Rattle.read.specs.Read.{update_answer, update_leaves, UpdateDoes}
use Rattle.sheet.proofs.Eights.{same_is}
use Rattle.tokens.specs.Steps.{Next}
use Rattle.tokens.specs.declared.Token.{Token}
use Rattle.tokens.specs.Steps.{span_of, tokens_of, next_of, list_order, count_of, Listed}
use Rattle.write.specs.Answers.{Puts, line_order, line_of}
use Rattle.sheet.specs.Answers.{Number}
use Rattle.convert_buffers.specs.Between.{Outcome, writes, between, overfull, answer_of, output_of, Converts}
use Rattle.convert_buffers.specs.Between.{refuses as no_line}
use Rattle.convert.specs.Convert.{unknown_forms, out_of_range, conversion}
use Rattle.exports.specs.Exports.{code_of, read_first, read_code, read_numbers, host_answer, host_leaves, HostReads, host_write_order, number_code, HostWrites, nearest, spanned, step_code, step_span, HostSteps}
use Rattle.respelling.proofs.Runs.{finished}
use Rattle.respelling.proofs.Whole.{only_whole}
use Rattle.demands.specs.Demand1.{Said, serves, refuses, said, Allowed, exactly, allows, one_of, Answers, Settled, Blanked, form_refusals, line_refusals, read_refusals, update_refusals, ask_refusals, reset_refusals, fill_refusals, copy_refusals, pass_refusals, convert_refusals, Stands, Demand1}

-- ---- one of the refusals
eqb_self : (n : ℕ) → eqb n n ≡ true
eqb_self n = eq-eqb n n refl

or_right : (a : Bool) {b : Bool} → b ≡ true → (a || b) ≡ true
or_right true e = refl
or_right false e = e

more : (q : Allowed) (qs : List Allowed) (x : Refusal) → one_of qs x ≡ true → one_of (q ∷ qs) x ≡ true
unfolding one_of
more q qs x e = or_right (allows q x) e

-- ---- checks, each of which refuses by one of these
abbrev Each : List Allowed → List Check → Type 0
Each qs [] = Unit {0}
Each qs (check b n p ∷ cs) = (b ≡ true → one_of qs (refusal n p) ≡ true) × Each qs cs

module _ {A : Type 0} (qs : List Allowed) where
  answers : (cs : List Check) (served : prelude.Result A Refusal) → said served ≡ serves → Each qs cs → Answers qs (said (verdict Err cs served))
  unfolding verdict said when◌then◌else◌
  answers [] served s h = rw s tt
  answers (check true n p ∷ cs) served s h = h.0 refl
  answers (check false n p ∷ cs) served s h = answers cs served s h.1

  settles : {M : Type 0} (cs : List Check) (served : prelude.Result A Refusal) (d new : M) → said served ≡ serves → Each qs cs
      → Settled qs (said (verdict Err cs served)) d (verdict (λ x. d) cs new)
  unfolding verdict said when◌then◌else◌
  settles [] served d new s h = rw s tt
  settles (check true n p ∷ cs) served d new s h = (h.0 refl, refl)
  settles (check false n p ∷ cs) served d new s h = settles cs served d new s h.1

-- the checks of a call on a sheet
sheet_13_14 : (bad out : Bool) (i : ℕ) → Each (ask_refusals i) (sheet_order bad out i false 0)
unfolding one_of allows
sheet_13_14 bad out i = (λ e. refl, (λ e. rw (eqb_self i), (λ e. absurd (false≢true e), tt)))

sheet_13_12 : (bad short : Bool) (p n : ℕ) → Each (fill_refusals n) (sheet_order bad false p short n)
unfolding one_of allows
sheet_13_12 bad short p n = (λ e. refl, (λ e. absurd (false≢true e), (λ e. rw (eqb_self n), tt)))

sheet_13_14_11 : (bad out lacks : Bool) (i : ℕ) → Each (reset_refusals i) (check bad 13 0 ∷ check out 14 i ∷ check lacks 11 0 ∷ [])
unfolding one_of allows
sheet_13_14_11 bad out lacks i = (λ e. refl, (λ e. rw (eqb_self i), (λ e. refl, tt)))

sheet_13 : (bad : Bool) (p : ℕ) → Each (exactly 13 0 ∷ []) (sheet_order bad false p false 0)
unfolding one_of allows
sheet_13 bad p = (λ e. refl, (λ e. absurd (false≢true e), (λ e. absurd (false≢true e), tt)))

-- ---- what each kind of answer says
serves_said : {A : Type 0} (a : A) → said (Ok a) ≡ serves
unfolding said
serves_said a = refl

serves_tag : (b : ℕ) (t : List ℕ) → said (tag_slice b t) ≡ serves
unfolding said tag_slice
serves_tag b [] = refl
serves_tag b (c ∷ t) = refl

-- ---- calls that lay a sentence down: a refusal leaves the buffers
lays : {s : Sentence} {d e : Buffers} (qs : List Allowed) (cs : List Check) (q : Record) (r : Answer) → Each qs cs
    → Lays (verdict Err cs (Ok q)) s d r e → Settled qs (said r) d e
unfolding said
lays qs cs q (Ok z) h w = tt
lays qs cs q (Err x) h w =
    (subst (λ (a : Answer). Answers qs (said a)) (sym w.answer_is) (answers qs cs (Ok q) (serves_said q) h), same_is w.leaves)

-- ---- what a line is refused by
-- a number that is allowed where a character stands, of which one of a single byte is that byte
abbrev AtChar : Form → ℕ → ℕ → Type 0
AtChar f c e = (x : List ℕ) (p : ℕ) → p < length x → (c ≤ 0x7F → get_or x p 0 ≡ c) → one_of (form_refusals f x) (refusal e p) ≡ true

-- and one that is allowed at a line's end
abbrev AtEnd : Form → ℕ → Type 0
AtEnd f e = (x : List ℕ) → one_of (form_refusals f x) (refusal e (length x)) ≡ true

is_byte : (x : List ℕ) (p c b : ℕ) → c ≡ b → b ≤ 0x7F → (c ≤ 0x7F → get_or x p 0 ≡ c) → eqb (get_or x p 0) b ≡ true
is_byte x p c b e h g = eq-eqb (get_or x p 0) b (g (omega arith) ∙ e)

nul : (f : Form) (c : ℕ) → c ≡ 0 → AtChar f c 4
unfolding one_of allows form_refusals
nul raw c e x p h g = rw (lt-ltb p (length x) h, is_byte x p c 0 e (omega arith) g)
nul tokenized c e x p h g = rw (lt-ltb p (length x) h, is_byte x p c 0 e (omega arith) g)
nul partial c e x p h g = rw (lt-ltb p (length x) h, is_byte x p c 0 e (omega arith) g)

space_first : (c : ℕ) → c ≡ 32 → AtChar tokenized c 5
unfolding one_of allows form_refusals
space_first c e x p h g = rw (lt-ltb p (length x) h, is_byte x p c 32 e (omega arith) g)

space_again : (c : ℕ) → c ≡ 32 → AtChar tokenized c 6
unfolding one_of allows form_refusals
space_again c e x p h g = rw (lt-ltb p (length x) h, is_byte x p c 32 e (omega arith) g)

slash_first : (c : ℕ) → c ≡ 47 → AtChar tokenized c 7
unfolding one_of allows form_refusals
slash_first c e x p h g = rw (lt-ltb p (length x) h, is_byte x p c 47 e (omega arith) g)

bad_mark : (c : ℕ) → AtChar partial c 9
unfolding one_of allows form_refusals
bad_mark c x p h g = rw (lt-ltb p (length x) h)

no_text : (f : Form) → AtEnd f 3
unfolding one_of allows form_refusals
no_text raw x = rw (eqb_self (length x))
no_text tokenized x = rw (eqb_self (length x))
no_text partial x = rw (eqb_self (length x))

no_end : (f : Form) → AtEnd f (unfinished f)
unfolding one_of allows form_refusals unfinished
no_end raw x = rw (eqb_self (length x))
no_end tokenized x = rw (eqb_self (length x))
no_end partial x = rw (eqb_self (length x))

-- the kinds of the tokenized form, by their characters
kind_mark : (c : ℕ) (m : Mark) → kind tokenized c ≡ mark m → c ≡ 32
unfolding kind when◌then◌else◌
kind_mark c m = on (eqb c 32) refl (eqb c 47) (eqb c 92)
  where
    on : (b : Bool) → eqb c 32 ≡ b → (d e : Bool) → (when b then mark word else when d then slash else when e then back else plain) ≡ mark m → c ≡ 32
    on true q d e h = eqb-true c 32 q
    on false q true e h = absurd (let z : ◌≡◌ {A = ℕ} 0 1 = cc in omega arith)
    on false q false true h = absurd (let z : ◌≡◌ {A = ℕ} 0 1 = cc in omega arith)
    on false q false false h = absurd (let z : ◌≡◌ {A = ℕ} 0 1 = cc in omega arith)

kind_slash : (c : ℕ) → kind tokenized c ≡ slash → c ≡ 47
unfolding kind when◌then◌else◌
kind_slash c = on (eqb c 32) (eqb c 47) refl (eqb c 92)
  where
    on : (b d : Bool) → eqb c 47 ≡ d → (e : Bool) → (when b then mark word else when d then slash else when e then back else plain) ≡ slash → c ≡ 47
    on true d q e h = absurd (let z : ◌≡◌ {A = ℕ} 0 1 = cc in omega arith)
    on false true q e h = eqb-true c 47 q
    on false false q true h = absurd (let z : ◌≡◌ {A = ℕ} 0 1 = cc in omega arith)
    on false false q false h = absurd (let z : ◌≡◌ {A = ℕ} 0 1 = cc in omega arith)

-- where a step at the character c stops
abbrev Stops : Form → ℕ → Step → Type 0
Stops f c (go σ a) = Unit {0}
Stops f c (stop e) = AtChar f c e

-- of the line x
abbrev Ran : Form → List ℕ → Run → Type 0
Ran f x (whole l) = Unit {0}
Ran f x (stopped e left) = one_of (form_refusals f x) (refusal e (length x - left)) ≡ true

ordinary_stops : (f : Form) (p : Place) (c : ℕ) → Stops f c (ordinary f p c)
unfolding ordinary
ordinary_stops f start c = tt
ordinary_stops f (gap m) c = tt
ordinary_stops f in_tag c = tt
ordinary_stops raw behind c = tt
ordinary_stops tokenized behind c = tt
ordinary_stops partial behind c = bad_mark c

inside_stops : (f : Form) (p : Place) (k : Kind) (c : ℕ) → Stops f c (inside f p k c)
unfolding inside
inside_stops f p (mark m) c = tt
inside_stops f p slash c = tt
inside_stops f p back c = tt
inside_stops f p plain c = ordinary_stops f p c

opening_stops : (e : ℕ) (p : Place) (k : Kind) (c : ℕ) → kind tokenized c ≡ k → (c ≡ 32 → AtChar tokenized c e) → Stops tokenized c (opening e p k c)
unfolding opening
opening_stops e p (mark m) c i h = h (kind_mark c m i)
opening_stops e p slash c i h = slash_first c (kind_slash c i)
opening_stops e p back c i h = tt
opening_stops e p plain c i h = ordinary_stops tokenized p c

step_stops : (f : Form) (σ : State) (k : Kind) (c : ℕ) → kind f c ≡ k → Stops f c (step f σ k c)
unfolding step
step_stops f (escaped p) k c i = ordinary_stops f p c
step_stops f (at behind) k c i = inside_stops f behind k c
step_stops f (at in_tag) k c i = inside_stops f in_tag k c
step_stops raw (at start) k c i = ordinary_stops raw start c
step_stops raw (at (gap m)) k c i = ordinary_stops raw (gap m) c
step_stops partial (at start) k c i = ordinary_stops partial start c
step_stops partial (at (gap m)) k c i = ordinary_stops partial (gap m) c
step_stops tokenized (at start) k c i = opening_stops 5 start k c i (space_first c)
step_stops tokenized (at (gap m)) k c i = opening_stops 6 (gap m) k c i (space_again c)

advance_stops : (f : Form) (σ : State) (c : ℕ) → Stops f c (advance f σ c)
unfolding advance
advance_stops f σ c = if_cases (Stops f c) (eqb c 0) _ _ (λ e. nul f c (eqb-true c 0 e)) (λ e. step_stops f σ (kind f c) c refl)

at_end : (f : Form) (e : ℕ) (x : List ℕ) → AtEnd f e → one_of (form_refusals f x) (refusal e (length x - 0)) ≡ true
at_end f e x h = let z : length x - 0 ≡ length x = omega arith in rw z (h x)

ending_ran : (f : Form) (x : List ℕ) (p : Place) → Ran f x (ending f p)
unfolding ending
ending_ran f x start = at_end f 3 x (no_text f)
ending_ran f x behind = tt
ending_ran f x in_tag = tt
ending_ran f x (gap k) = at_end f (unfinished f) x (no_end f)

push_ran : (f : Form) (x : List ℕ) (a : Act) (r : Run) → Ran f x r → Ran f x (push a r)
unfolding push
push_ran f x a (whole l) h = tt
push_ran f x a (stopped e left) h = h

-- each character takes a byte
sized : (c : ℕ) (x : List ℕ) → 1 ≤ size (c ∷ x)
unfolding size
sized c x = omega (arith, width_small c)

-- the characters y are what is left of the line x
record Remains (x y : List ℕ) : Type 0 where
  few : size y ≤ length x
  bytes : drop (length x - size y) x ≡ encodes y

one_byte : (c : ℕ) (x : List ℕ) → c ≤ 0x7F → get_or (encode c ++ x) 0 0 ≡ c
unfolding encode
one_byte c x h = rw (if_true _ _ _ (le-leb c 0x7F h))

first_byte : (x y : List ℕ) (c : ℕ) → Remains x (c ∷ y) → c ≤ 0x7F → get_or x (length x - size (c ∷ y)) 0 ≡ c
unfolding encodes
first_byte x y c l h =
    let n : length x - size (c ∷ y) + 0 ≡ length x - size (c ∷ y) = omega arith in
    rw n at (sym (get_or-drop (length x - size (c ∷ y)) x 0 0) ∙ ap (λ (z : List ℕ). get_or z 0 0) l.bytes ∙ one_byte c (encodes y) h)

left_next : (x y : List ℕ) (c : ℕ) → Remains x (c ∷ y) → Remains x y
unfolding encodes size
left_next x y c l =
    let f = l.few in
    let n : length x - (width c + size y) + width c ≡ length x - size y = omega arith in
    record {
      few = omega arith;
      bytes =
          ap (λ (k : ℕ). drop k x) (sym n) ∙ sym (drop-drop (width c) (length x - (width c + size y)) x) ∙ ap (drop (width c)) l.bytes
          ∙ drop_at (encode c) (encodes y) (width c) (length_encode c);
    }

follow_ran : (f : Form) (x y : List ℕ) (c : ℕ) (s : Step) (on : State → Run) → Remains x (c ∷ y) → Stops f c s → ((σ : State) → Ran f x (on σ))
    → Ran f x (follow s on (size (c ∷ y)))
unfolding follow
follow_ran f x y c (go σ a) on l h k = push_ran f x a (on σ) (k σ)
follow_ran f x y c (stop e) on l h k = h x (length x - size (c ∷ y)) (omega (arith, sized c y, l.few)) (first_byte x y c l)

run_ran : (f : Form) (x : List ℕ) (σ : State) (y : List ℕ) → Remains x y → Ran f x (run f σ y)
unfolding run finish
run_ran f x (at p) [] l = ending_ran f x p
run_ran f x (escaped p) [] l = ending_ran f x p
run_ran f x σ (c ∷ y) l = follow_ran f x y c (advance f σ c) _ l (advance_stops f σ c) (λ τ. run_ran f x τ y (left_next x y c l))

-- ---- what is read to its end has text
-- before any text, or behind a boundary
abbrev Opens : Place → Type 0
Opens start = Unit {0}
Opens (gap m) = Unit {0}
Opens behind = ⊥
Opens in_tag = ⊥

abbrev OpensAt : State → Type 0
OpensAt (at p) = Opens p
OpensAt (escaped p) = Opens p

-- a step from there is refused, takes a letter, or leaves it open
abbrev Begins : Step → Type 0
Begins (stop e) = Unit {0}
Begins (go σ skip) = OpensAt σ
Begins (go σ (letter m c)) = Unit {0}
Begins (go σ opens) = ⊥
Begins (go σ (of_tag c)) = ⊥

ordinary_begins : (f : Form) (p : Place) (c : ℕ) → Opens p → Begins (ordinary f p c)
unfolding ordinary
ordinary_begins f start c h = tt
ordinary_begins f (gap m) c h = tt
ordinary_begins f behind c h = absurd h
ordinary_begins f in_tag c h = absurd h

opening_begins : (e : ℕ) (p : Place) (k : Kind) (c : ℕ) → Opens p → Begins (opening e p k c)
unfolding opening
opening_begins e p (mark m) c h = tt
opening_begins e p slash c h = tt
opening_begins e p back c h = h
opening_begins e p plain c h = ordinary_begins tokenized p c h

step_begins : (f : Form) (σ : State) (k : Kind) (c : ℕ) → OpensAt σ → Begins (step f σ k c)
unfolding step
step_begins f (escaped p) k c h = ordinary_begins f p c h
step_begins f (at behind) k c h = absurd h
step_begins f (at in_tag) k c h = absurd h
step_begins raw (at start) k c h = ordinary_begins raw start c h
step_begins raw (at (gap m)) k c h = ordinary_begins raw (gap m) c h
step_begins partial (at start) k c h = ordinary_begins partial start c h
step_begins partial (at (gap m)) k c h = ordinary_begins partial (gap m) c h
step_begins tokenized (at start) k c h = opening_begins 5 start k c h
step_begins tokenized (at (gap m)) k c h = opening_begins 6 (gap m) k c h

advance_begins : (f : Form) (σ : State) (c : ℕ) → OpensAt σ → Begins (advance f σ c)
unfolding advance
advance_begins f σ c h = if_cases Begins (eqb c 0) _ _ (λ e. tt) (λ e. step_begins f σ (kind f c) c h)

abbrev Some : Parsed → Type 0
Some (parsed t ts n over) = ⊥
Some (parsed t ts n (next m s)) = Unit {0}

abbrev SomeRun : Run → Type 0
SomeRun (whole l) = Some (gather l)
SomeRun (stopped e left) = Unit {0}

letter_some : (m : Mark) (c : ℕ) (p : Parsed) → Some (add (letter m c) p)
unfolding add
letter_some m c (parsed t ts n r) = tt

push_letter : (m : Mark) (c : ℕ) (r : Run) → SomeRun (push (letter m c) r)
unfolding push gather
push_letter m c (whole l) = letter_some m c (gather l)
push_letter m c (stopped e left) = tt

push_skip : (r : Run) → SomeRun r → SomeRun (push skip r)
unfolding push gather add
push_skip (whole l) h = h
push_skip (stopped e left) h = tt

follow_some : (s : Step) (on : State → Run) (left : ℕ) → Begins s → ((σ : State) → OpensAt σ → SomeRun (on σ)) → SomeRun (follow s on left)
unfolding follow
follow_some (stop e) on left h k = tt
follow_some (go σ skip) on left h k = push_skip (on σ) (k σ h)
follow_some (go σ (letter m c)) on left h k = push_letter m c (on σ)
follow_some (go σ opens) on left h k = absurd h
follow_some (go σ (of_tag c)) on left h k = absurd h

ending_some : (f : Form) (p : Place) → Opens p → SomeRun (ending f p)
unfolding ending
ending_some f start h = tt
ending_some f (gap m) h = tt
ending_some f behind h = absurd h
ending_some f in_tag h = absurd h

run_some : (f : Form) (σ : State) (x : List ℕ) → OpensAt σ → SomeRun (run f σ x)
unfolding run finish
run_some f (at p) [] h = ending_some f p h
run_some f (escaped p) [] h = ending_some f p h
run_some f σ (c ∷ x) h = follow_some (advance f σ c) _ _ (advance_begins f σ c h) (λ τ k. run_some f τ x k)

-- ---- what a line reads to, where it is refused by one of these
abbrev Told : List Allowed → Result → Type 0
Told qs (sentence s) = Unit {0}
Told qs (refused n p) = one_of qs (refusal n p) ≡ true

built_told : (qs : List Allowed) (p : Parsed) → Some p → Told qs (built p)
unfolding built
built_told qs (parsed t ts n over) h = absurd h
built_told qs (parsed t ts n (next k s)) h = tt

placed_told : (f : Form) (x : List ℕ) (r : Run) → Ran f x r → SomeRun r → Told (form_refusals f x) (placed (length x) r)
unfolding placed
placed_told f x (whole l) h k = built_told (form_refusals f x) (gather l) k
placed_told f x (stopped e left) h k = h

one_told : (n p : ℕ) → reason_number (reason_of n) ≡ n → Told (exactly n p ∷ []) (refused n p)
unfolding one_of allows
one_told n p e = rw (e, eqb_self n, eqb_self p)

-- a refused line: a number of its form, at its place
read_told : (f : Form) (x : List ℕ) → Told (line_refusals f x) (read f x)
unfolding read line_refusals when◌then◌else◌
read_told f x = long (ltb 4096 (length x))
  where
    bad : (b : Bool) → ltb (valid_prefix x) (length x) ≡ b
        → Told (when b then exactly 2 (valid_prefix x) ∷ [] else form_refusals f x)
        (when b then refused 2 (valid_prefix x) else placed (length x) (run f (at start) (scalars x)))
    bad true e = one_told 2 (valid_prefix x) refl
    bad false e =
        let v : valid_prefix x ≡ length x = omega (arith, ltb-false (valid_prefix x) (length x) e, valid_within x) in
        let n : size (scalars x) ≡ length x = sym (length_encodes (scalars x)) ∙ ap length (encodes_scalars x v) in
        let z : length x - size (scalars x) ≡ 0 = omega arith in
        let l : Remains x (scalars x) = record { few = omega arith; bytes = rw z (sym (encodes_scalars x v)) } in
        placed_told f x (run f (at start) (scalars x)) (run_ran f x (at start) (scalars x) l) (run_some f (at start) (scalars x) tt)

    long : (b : Bool)
        → Told (when b then exactly 1 4096 ∷ [] else when ltb (valid_prefix x) (length x) then exactly 2 (valid_prefix x) ∷ [] else form_refusals f x)
        (when b then refused 1 4096 else when ltb (valid_prefix x) (length x) then refused 2 (valid_prefix x) else placed (length x) (run f (at start) (scalars x)))
    long true = one_told 1 4096 refl
    long false = bad (ltb (valid_prefix x) (length x)) refl

-- ---- the readers and the updates
module _ (f : Form) (x : List ℕ) (d e : Buffers) (a : Answer) where
  reader : ReadDoes (read f x) d a e → Settled (read_refusals f x) (said a) d e
  unfolding read_answer read_leaves reader_order said one_of allows
  reader w = subst (λ (r : Answer). Settled (read_refusals f x) (said r) d e) (sym w.answer_is)
      (subst (λ (b : Buffers). Settled (read_refusals f x) (said (read_answer (read f x) d)) d b) (sym (same_is w.buffers_are)) (on (read f x) (read_told f x)))
    where
      on : (r : Result) → Told (line_refusals f x) r → Settled (read_refusals f x) (said (read_answer r d)) d (read_leaves r d)
      on (refused n p) h = (more (exactly 11 0) (line_refusals f x) (refusal n p) h, refl)
      on (sentence s) h = settles (read_refusals f x) (check (lacks d s) 11 0 ∷ []) (Ok (record_of s)) d (laid s d) (serves_said (record_of s)) (λ k. refl, tt)

-- what an update answers and leaves, where there is no room for the one-blank sentence or where there is
abbrev Left : Form → List ℕ → Buffers → Bool → Said → Buffers → Type 0
Left f x d b serves e = Unit {0}
Left f x d b (refuses y) e = (one_of (update_refusals f x) y ≡ true) × (e ≡ (when b then d else laid blank d))

left : (f : Form) (x : List ℕ) (d : Buffers) (b : Bool) (r : Result) → Told (line_refusals f x) r
    → Left f x d b (said (verdict Err (check b 15 0 ∷ []) (reader_order Err (lacks d) (λ (s : Sentence). Ok (record_of s)) r)))
    (when b then d else reader_order (λ (y : Refusal). laid blank d) (lacks d) (λ (s : Sentence). laid s d) r)
unfolding verdict reader_order when◌then◌else◌ said one_of allows
left f x d true r h = (refl, refl)
left f x d false (refused n p) h = (more (exactly 15 0) (read_refusals f x) (refusal n p) (more (exactly 11 0) (line_refusals f x) (refusal n p) h), refl)
left f x d false (sentence s) h = on (lacks d s)
  where
    on : (c : Bool) → Left f x d false (said (when c then Err (refusal 11 0) else Ok (record_of s))) (when c then laid blank d else laid s d)
    on true = (refl, refl)
    on false = tt

updates : (f : Form) (x : List ℕ) (d e : Buffers) (a : Answer) → UpdateDoes (read f x) d a e → Blanked (update_refusals f x) (said a) d e
unfolding update_answer update_leaves update_order
updates f x d e a w = blanked (said a) (rw (w.answer_is, same_is w.buffers_are) (left f x d (lacks d blank) (read f x) (read_told f x)))
  where
    blanked : (y : Said) → Left f x d (lacks d blank) y e → Blanked (update_refusals f x) y d e
    blanked serves h = tt
    blanked (refuses y) h = h

-- ---- the writers
-- the checks of a line of a sheet
line_13_12 : (r : Record) (d : Buffers) (w : List ℕ) (room : ℕ) → Each (fill_refusals (length w)) (line_order r d false 0 w room)
unfolding line_order
line_13_12 r d w room = sheet_13_12 (not (is_sheet r d)) (ltb room (length w)) 0 (length w)

line_13_14_12 : (r : Record) (d : Buffers) (outside : Bool) (first : ℕ) (w : List ℕ) (room : ℕ) → Each (copy_refusals first (length w)) (line_order r d outside first w room)
unfolding line_order one_of allows
line_13_14_12 r d outside first w room = (λ e. refl, (λ e. rw (eqb_self first), (λ e. rw (eqb_self (length w)), tt)))

-- a line that is put by checks which each refuse by one of these
module _ (qs : List Allowed) {cs : List Check} {w out out' : List ℕ} (each : Each qs cs) where
  puts : {a : Number} → Puts (λ n. n) cs w out a out' → Settled qs (said a) out out'
  puts p = rw (p.answer_is, p.out_is) (settles qs cs (Ok (length w)) out (put w out) (serves_said (length w)) each)

  -- and the same told as a number
  host_puts : {a : ℕ} → Puts number_code cs w out a out' → (c : Number) × (a ≡ number_code c) × Settled qs (said c) out out'
  host_puts p = (verdict Err cs (Ok (length w)), p.answer_is, puts (record { answer_is = refl; out_is = p.out_is }))

-- ---- the conversion
module _ (reader writer : ℕ) (x out out' : List ℕ) (place : ℕ) where
  abbrev refusals : List Allowed
  refusals = convert_refusals (form_of reader) (form_of writer) x

  -- what comes of it, said
  abbrev Comes : List Allowed → Outcome → Type 0
  Comes qs (writes w) = Unit {0}
  Comes qs (no_line y) = one_of qs y ≡ true

  comes : (unknown outside : Bool) (r : Result) → Told (line_refusals (form_of reader) x) r
      → Comes (exactly 16 0 ∷ exactly 14 0 ∷ pass_refusals (form_of reader) (form_of writer) x r)
      (host_order no_line unknown outside overfull (λ (s : Sentence). ltb (length out - place) (length (written (form_of writer) s))) (λ (s : Sentence). length (written (form_of writer) s)) (λ (s : Sentence). writes (written (form_of writer) s)) r)
  unfolding host_order verdict when◌then◌else◌ one_of allows pass_refusals
  comes true outside (refused n p) h = refl
  comes false true (refused n p) h = refl
  comes false false (refused n p) h =
      more (exactly 16 0) (exactly 14 0 ∷ line_refusals (form_of reader) x) (refusal n p) (more (exactly 14 0) (line_refusals (form_of reader) x) (refusal n p) h)
  comes true outside (sentence s) h = refl
  comes false true (sentence s) h = refl
  comes false false (sentence s) h = full (overfull s)
    where
      on : (b : Bool) → Comes (exactly 16 0 ∷ exactly 14 0 ∷ exactly 12 (length (written (form_of writer) s)) ∷ [])
          (when b then no_line (refusal 12 (length (written (form_of writer) s))) else writes (written (form_of writer) s))
      on true = rw (eqb_self (length (written (form_of writer) s)))
      on false = tt

      full : (o : Bool) → Comes (exactly 16 0 ∷ exactly 14 0 ∷ (when o then exactly 11 0 ∷ [] else exactly 12 (length (written (form_of writer) s)) ∷ []))
          (when o then no_line (refusal 11 0) else (when ltb (length out - place) (length (written (form_of writer) s)) then no_line (refusal 12 (length (written (form_of writer) s))) else writes (written (form_of writer) s)))
      full true = refl
      full false = on (ltb (length out - place) (length (written (form_of writer) s)))

  outcome : Comes refusals (conversion reader writer x (length out) place)
  unfolding conversion between
  outcome = comes (unknown_forms reader writer) (out_of_range (length out) place) (read (form_of reader) x) (read_told (form_of reader) x)

  settled : (o : Outcome) → Comes refusals o → Settled refusals (said (answer_of place o)) out (output_of place o out)
  unfolding answer_of output_of said
  settled (writes w) h = tt
  settled (no_line y) h = (h, refl)

  converts : (a : Number) → Converts (λ (c : Number). c) (conversion reader writer x (length out) place) place out a out' → Settled refusals (said a) out out'
  converts a w = rw (w.answer, w.output) (settled (conversion reader writer x (length out) place) outcome)

  converts_host : (a : ℕ) → Converts code_of (conversion reader writer x (length out) place) place out a out'
      → (c : Number) × (a ≡ code_of c) × Settled refusals (said c) out out'
  converts_host a w =
      (answer_of place (conversion reader writer x (length out) place), w.answer, rw w.output (settled (conversion reader writer x (length out) place) outcome))

-- ---- UTF-8 and types
stands : (s : List ℕ) (p : ℕ) → Stands s p (decode_at s p)
unfolding decode_at
stands s p = on (char_at (drop p s)) refl
  where
    on : (a : Decoded) → char_at (drop p s) ≡ a → Stands s p a
    on (decoded.Char v n) e =
        let c = encode_decode (drop p s) v n e in
        (c.is_scalar, omega (arith, ap length c.bytes, length_encode v, c.wide, length-take n (drop p s), length-drop p s, width_small v))
    on decoded.Bad e = tt
    on decoded.End e = tt

above : (v : ℕ) → scalar v ≡ true → 0xD800 ≤ v → (0xE000 ≤ v) × (v ≤ 0x10FFFF)
unfolding scalar
above v = simp reads (omega arith)

scalar_reads : (v : ℕ) → (scalar v ≡ true) ↔ ((v < 0xD800) ⊎ ((0xE000 ≤ v) × (v ≤ 0x10FFFF)))
unfolding scalar
scalar_reads v = (
  λ e. elim (dec_lt v 0xD800) [ yes k ↦ inl k | no k ↦ inr (above v e (omega arith)) ],
  λ h. elim h [ inl k ↦ simp or_is (inl (simp reads (omega arith))) | inr k ↦ simp or_is (inr (simp reads (omega arith))) ],
)

-- ---- look-ups: of whether there is a sheet, of whether a number is out of range, and of what is served
asked_number : (bad out : Bool) (i n : ℕ) → Answers (ask_refusals i) (said (verdict Err (sheet_order bad out i false 0) (Ok n)))
asked_number bad out i n =
    answers (ask_refusals i) (sheet_order bad out i false 0) (Ok n) (serves_said n) (sheet_13_14 bad out i)

asked_slice : (bad out : Bool) (i : ℕ) (p : Slice) → said p ≡ serves → Answers (ask_refusals i) (said (verdict Err (sheet_order bad out i false 0) p))
asked_slice bad out i p h =
    answers (ask_refusals i) (sheet_order bad out i false 0) p h (sheet_13_14 bad out i)

char_pos : (good : Bool) (s : Sentence) (i : ℕ) → Answers (ask_refusals i) (said (char_to_str_pos_of good s i))
unfolding char_to_str_pos_of
char_pos good s i = asked_number (not good) _ i _

byte_pos : (good : Bool) (s : Sentence) (p : ℕ) → Answers (ask_refusals p) (said (str_to_char_pos_of good s p))
unfolding str_to_char_pos_of
byte_pos good s p = asked_number (not good) _ p _

mark_at : (good : Bool) (s : Sentence) (i : ℕ) → Answers (ask_refusals i) (said (boundary_at good s i))
unfolding boundary_at
mark_at good s i = asked_number (not good) _ i _

cell_at : (good : Bool) (s : Sentence) (i j : ℕ) → Answers (ask_refusals i) (said (tag_at good s i j))
unfolding tag_at
cell_at good s i j = asked_slice (not good) _ i _ (serves_tag _ _)

text_at_lem : (good : Bool) (s : Sentence) (b e : ℕ) → Answers (ask_refusals b) (said (surface_at good s b e))
unfolding surface_at
text_at_lem good s b e = asked_slice (not good) _ b _ (serves_said _)

stepped : (r : Record) (d : Buffers) (p : ℕ) → Answers (exactly 13 0 ∷ []) (said (next_of r d p))
unfolding next_of said
stepped r d p = answers (exactly 13 0 ∷ []) (sheet_order (not (is_sheet r d)) false p false 0) _ refl (sheet_13 (not (is_sheet r d)) p)

-- ---- the token list, and the changes
lists : (r : Record) (d : Buffers) (l l' : List Token) (a : Number) → Listed r d l a l' → Settled (fill_refusals (length (tokens_of r d))) (said a) l l'
unfolding count_of list_order
lists r d l l' a w =
    rw (w.answer_is, w.list_is)
    (settles (fill_refusals (length (tokens_of r d))) (list_order r d (length l)) (Ok (length (tokens_of r d))) l (put (map span_of (tokens_of r d)) l) (serves_said (length (tokens_of r d)))
    (sheet_13_12 (not (is_sheet r d)) (ltb (length l) (length (tokens_of r d))) 0 (length (tokens_of r d))))

default : (d e : Buffers) (a : Answer) → DefaultSet d a e → Settled (exactly 15 0 ∷ []) (said a) d e
unfolding default_answer one_of allows
default d e a w = lays (exactly 15 0 ∷ []) (check (not (room_for (record_of blank) d)) 15 0 ∷ []) (record_of blank) a (λ h. refl, tt) w

marks_set : (r : Record) (d e : Buffers) (i v : ℕ) (a : Answer) → BoundarySet r d i v a e → Settled (ask_refusals i) (said a) d e
unfolding boundary_answer
marks_set r d e i v a w = lays (ask_refusals i) _ _ a (sheet_13_14 (not (is_sheet r d)) _ i) w

tags_reset : (r : Record) (d e : Buffers) (c : ℕ) (a : Answer) → TagsReset r d c a e → Settled (reset_refusals c) (said a) d e
unfolding reset_answer
tags_reset r d e c a w = lays (reset_refusals c) _ _ a (sheet_13_14_11 (not (is_sheet r d)) _ _ c) w

decided : (r : Record) (d e : Buffers) (zs : List ℤ) (a : Answer) → Predicted r d zs a e → Settled (ask_refusals (length zs)) (said a) d e
unfolding score_answer
decided r d e zs a w = lays (ask_refusals (length zs)) _ _ a (sheet_13_14 (not (is_sheet r d)) _ (length zs)) w

-- ---- the host's other calls
module _ (f : ℕ) (x : List ℕ) (d : Buffers) (ns : List ℕ) where
  abbrev host_read_refusals : List Allowed
  host_read_refusals = exactly 16 0 ∷ exactly 14 0 ∷ read_refusals (form_of f) x

  -- by whether the form is unknown, whether the numbers are too few, and what the line reads to
  abbrev answered : Bool → Bool → Result → Answer
  answered b c r = verdict Err (check b 16 0 ∷ check c 14 0 ∷ []) (read_answer r d)

  told : (b c : Bool) (r : Result) → Told (line_refusals (form_of f) x) r
      → Settled {M = Buffers × List ℕ} host_read_refusals (said (answered b c r)) (d, ns) (verdict (λ (q : Refusal). d) (check b 16 0 ∷ check c 14 0 ∷ []) (read_leaves r d), read_numbers (answered b c r) ns)
  unfolding verdict read_answer read_leaves reader_order read_numbers when◌then◌else◌ said one_of allows
  told true c r h = (refl, refl)
  told false true r h = (refl, refl)
  told false false (refused n p) h = (
    more (exactly 16 0) (exactly 14 0 ∷ read_refusals (form_of f) x) (refusal n p)
        (more (exactly 14 0) (read_refusals (form_of f) x) (refusal n p) (more (exactly 11 0) (line_refusals (form_of f) x) (refusal n p) h)),
    refl,
  )
  told false false (sentence s) h = on (lacks d s)
    where
      on : (b : Bool) → Settled {M = Buffers × List ℕ} host_read_refusals (said (when b then Err (refusal 11 0) else Ok (record_of s))) (d, ns)
          (when b then d else laid s d, read_numbers (when b then Err (refusal 11 0) else Ok (record_of s)) ns)
      on true = (refl, refl)
      on false = tt

  host_reads : (e : Buffers) (ns' : List ℕ) (a : ℕ) → HostReads f x d ns a e ns'
      → (c : Answer) × (a ≡ read_code c) × Settled {M = Buffers × List ℕ} host_read_refusals (said c) (d, ns) (e, ns')
  unfolding host_answer host_leaves read_first
  host_reads e ns' a w =
      (host_answer f x d (length ns), w.answer_is, rw (same_is w.buffers_are, w.numbers_are) (told (no_reader f) (ltb (length ns) 5) (read (form_of f) x) (read_told (form_of f) x)))

host_writes : (f : ℕ) (r : Record) (d : Buffers) (out out' : List ℕ) (a : ℕ) → HostWrites f r d out a out'
    → (c : Number) × (a ≡ number_code c) × Settled (exactly 16 0 ∷ fill_refusals (length (line_of (form_of f) r d))) (said c) out out'
unfolding host_write_order line_order one_of allows
host_writes f r d out out' a w =
    let n = length (line_of (form_of f) r d) in
    host_puts (exactly 16 0 ∷ fill_refusals n) (λ e. refl, (λ e. refl, (λ e. absurd (false≢true e), (λ e. rw (eqb_self n), tt)))) w

-- a step, told in a span with so much room
spans : (s : Next) (span : List ℕ) (b : Bool) → ltb (length span) 2 ≡ b → Answers (exactly 13 0 ∷ []) (said s)
    → Settled (exactly 13 0 ∷ exactly 14 0 ∷ []) (said (spanned (length span) s)) span (step_span (spanned (length span) s) span)
unfolding spanned step_span verdict when◌then◌else◌ said one_of allows
spans (Ok s) span true e h = rw e (refl, refl)
spans (Ok s) span false e h = rw e tt
spans (Err q) span b e h = (first (allows (exactly 13 0) q) _ h, refl)
  where
    first : (a b : Bool) → (a || false) ≡ true → (a || b) ≡ true
    first true b k = refl
    first false b k = absurd (false≢true k)

host_steps : (r : Record) (d : Buffers) (p : ℕ) (span span' : List ℕ) (a : ℕ) → HostSteps r d p span a span'
    → (c : Next) × (a ≡ step_code c) × Settled (exactly 13 0 ∷ exactly 14 0 ∷ []) (said c) span span'
host_steps r d p span span' a w =
    (spanned (length span) (next_of r d p), w.answer_is, rw w.span_is (spans (next_of r d p) span (ltb (length span) 2) refl (stepped r d p)))

-- ---- the demand
pub demand_1 : Demand1
demand_1 = record {
  load = λ f x d e a w. reader f x d e a w;
  from_raw = λ x d e a w. reader raw x d e a w;
  from_tokenized = λ x d e a w. reader tokenized x d e a w;
  from_partial_annotation = λ x d e a w. reader partial x d e a w;
  update_raw = λ x d e a w. updates raw x d e a w;
  update_tokenized = λ x d e a w. updates tokenized x d e a w;
  update_partial_annotation = λ x d e a w. updates partial x d e a w;
  write_tokenized_text = λ r d out out' a w. puts (fill_refusals _) (line_13_12 r d _ _) w;
  write_partial_annotation_text = λ r d out out' a w. puts (fill_refusals _) (line_13_12 r d _ _) w;
  note_key = λ r d out out' a w. puts (fill_refusals _) (line_13_12 r d _ _) w;
  write_withheld_text = λ r d b e out out' a w. puts (copy_refusals b _) (line_13_14_12 r d _ b _ _) w;
  next_token = λ r d p a e. rw e (stepped r d p);
  token_list = λ r d l l' a w. lists r d l l' a w;
  char_to_str_pos = λ r d i a e. rw e (char_pos (is_sheet r d) (spell r d) i);
  str_to_char_pos = λ r d p a e. rw e (byte_pos (is_sheet r d) (spell r d) p);
  boundary = λ r d i a e. rw e (mark_at (is_sheet r d) (spell r d) i);
  tag = λ r d i j a e. rw e (cell_at (is_sheet r d) (spell r d) i j);
  surface = λ r d b e a q. rw q (text_at_lem (is_sheet r d) (spell r d) b e);
  tag_within = tag_within;
  surface_within = surface_within;
  set_default = λ d e a w. default d e a w;
  set_boundary = λ r d e i v a w. marks_set r d e i v a w;
  reset_tags = λ r d e c a w. tags_reset r d e c a w;
  predict = λ r d e zs a w. decided r d e zs a w;
  check = λ r d a e. (λ h. is_sheet_lem r d (sym e ∙ h), λ h. e ∙ holds_is r d (spell r d) h);
  convert = λ f g x out out' p a w. converts f g x out out' p a w;
  ighdelmur_convert = λ f g x out out' p a w. converts_host f g x out out' p a w;
  ighdelmur_read = λ f x d e ns ns' a w. host_reads f x d ns e ns' a w;
  ighdelmur_write = λ f r d out out' a w. host_writes f r d out out' a w;
  ighdelmur_withhold = λ r d b e out out' a w. host_puts (copy_refusals (nearest b) _) (line_13_14_12 r d _ (nearest b) _ _) w;
  ighdelmur_key = λ r d out out' a w. host_puts (fill_refusals _) (line_13_12 r d _ _) w;
  ighdelmur_next_token = λ r d p span span' a w. host_steps r d p span span' a w;
  program_ends = λ room x w a h r g f. finished room h r g f;
  program_waits = λ room x w a h r f. (_, only_whole room h r f);
  decode = λ s p a e. rw e (stands s p);
  valid_up_to = λ s a e. rw e (valid_within s);
  is_scalar = λ v a e. rw e (scalar_reads v);
  get_type = λ c a e. rw e (has_code c);
}
