-- Demand 3 holds of the public functions: from their contracts and the laws of the definitions. Assumes nothing.
use Rattle.std.specs.Prelude.{Ok}
use Prim.Native.Nat.{ℕ, ◌+◌, ◌-◌, ◌*◌, ◌≤◌, ◌<◌}
use mathlib.Core.Path.{◌≡◌, refl, sym, ap, subst, ◌∙◌}
use mathlib.Core.Logic.{◌↔◌, ◌⊎◌, inl, inr}
use mathlib.Core.Bool.{Bool, true, false}
use mathlib.Core.List.{List, ◌++◌}
use native.Mathlib.Omega.{arith}
use borrow.Author.Tests.{eq-eqb, lt-leb, le-ltb}
use lib.Dec.{ltb}
use lib.IntN.{ℤ}
use lib.ListN.{length, take, drop, replicate, length-replicate}
use Rattle.laws.specs.If.{when◌then◌else◌}
use Rattle.laws.specs.Put.{over}
use Rattle.sentence.specs.Sentence.{Sentence, count, Agree, Formed}
use Rattle.sentence.specs.declared.Form.{Form}
use Rattle.sentence.specs.declared.Form.TheVariants.{Tokenized as tokenized, Partial as partial}
use Rattle.sentence.specs.Forms.{form_of}
use Rattle.sentence.specs.Reading.{Annotated, Result, sentence, refused, read}
use Rattle.sentence.specs.Writing.{written, needed, set_boundary_of, reset_tags_of, scored}
use Rattle.sentence.specs.Refusals.{refusal, verdict, reader_order, host_order}
use Rattle.sentence.proofs.Shape.{read_formed}
use Rattle.sentence.proofs.Demand3 as definitions
use Rattle.sheet.specs.declared.Record.{Record}
use Rattle.sheet.specs.Answers.{Answer}
use Rattle.sheet.specs.Eight.{each}
use Rattle.sheet.specs.Layout.{Buffers, Same, takes, record_of, room_for, laid, Holds, spell, mark_of}
use Rattle.sheet.specs.Check.{is_sheet}
use Rattle.sheet.proofs.Held.{laid_holds, spelled}
use Rattle.sheet.proofs.Exact.{room_has, holds_is}
use Rattle.changes.specs.Changes.{Lays, boundary_answer, lack_cells, reset_answer}
use Rattle.scores.specs.Scores.{score_answer}
use Rattle.changes.proofs.After.{boundary_holds, reset_holds}
use Rattle.scores.proofs.After.{predicted_holds}
use Rattle.read_load.specs.Load.{lacks, read_answer, read_leaves, ReadDoes}
use Rattle.sheet.proofs.Eights.{every, pick_each, same_self, same_is}
use Rattle.read_load.proofs.Laws.{holding}
use Rattle.write.specs.Answers.{line_of, Written}
use Rattle.write.proofs.Laws.{front, serves}
use Rattle.sheet.specs.Answers.{Number}
use Rattle.convert_buffers.specs.Between.{Outcome, writes, refuses, between, overfull, answer_of, output_of, Converts}
use Rattle.convert.specs.Convert.{unknown_forms, out_of_range, conversion}
use Rattle.demands.proofs.Calls.{given}
use Rattle.demands.proofs.Demand2.{demand_2}
use Rattle.demands.specs.Demand3.{Spelt, Respelt, Changed, boundary_set, tags_reset, predicted, Tokenwise, Demand3}

-- ---- sheets
-- the written line of the sentence that a sheet holds
spells : (g : Form) (r : Record) (d : Buffers) (s : Sentence) (w : List ℕ) → Holds r d s → Spelt g r d w → w ≡ written g s
spells g r d s w h p = p.line_is ∙ front r d false 0 p.does refl ∙ ap (written g) (spelled r d s h)

short : (u v : List ℕ) → u ≡ v → length u ≤ 4096 → length v ≤ 4096
short u v e le = subst (λ (w : List ℕ). length w ≤ 4096) e le

-- a line that is the partial line of a sentence reads back to it
partial_back : (s : Sentence) (u : List ℕ) → Formed s → u ≡ written partial s → length u ≤ 4096 → read partial u ≡ sentence s
partial_back s u f e le = ap (read partial) e ∙ definitions.read_written partial s f.cells_are tt (short u (written partial s) e le)

-- and one that is its tokenized line does where the sentence is whole in its tokens
survives : (s : Sentence) (u : List ℕ) → Formed s → u ≡ written tokenized s → length u ≤ 4096 → (read tokenized u ≡ sentence s) ↔ Tokenwise s
survives s u f e le =
    let d = definitions.trip s f (short u (written tokenized s) e le) in
    (λ g. d.0 (ap (read tokenized) (sym e) ∙ g), λ g. ap (read tokenized) e ∙ d.1 g)

told_apart : (s t : Sentence) (u v : List ℕ) → Formed s → Formed t → u ≡ written partial s → v ≡ written partial t → (u ≡ v) ↔ Agree s t
told_apart s t u v f g i j =
    let d = definitions.told_apart partial s t f g tt tt in
    (λ e. d.0 (sym i ∙ e ∙ j), λ a. i ∙ d.1 a ∙ sym j)

-- sentences that survive are told apart by their tokenized lines
told_by_tokens : (s t : Sentence) (u v : List ℕ) → Formed s → Formed t → Tokenwise s → Tokenwise t → u ≡ written tokenized s → v ≡ written tokenized t → length u ≤ 4096
    → (u ≡ v) ↔ Agree s t
told_by_tokens s t u v f g k l i j le = (
  λ e.
      let a = (survives s u f i le).1 k in
      let b = (survives t v g j (short u v e le)).1 l in
      let z : s ≡ t = cc in
      subst (λ (y : Sentence). Agree s y) z ((definitions.told_apart partial s s f f tt tt).0 refl),
  λ a. i ∙ ap (written tokenized) (definitions.agree_same s t f g a) ∙ sym j,
)

changes : (r q : Record) (d e : Buffers) (s t : Sentence) → Holds r d s → Changed r d s q e t → Holds q e t
changes r q d e s t h (boundary_set i v w z) = let k = spelled r d s h in rw (z, ← k) (boundary_holds r d i v _ e q w refl)
changes r q d e s t h (tags_reset c w z) = let k = spelled r d s h in rw (z, ← k) (reset_holds r d c _ e q w refl)
changes r q d e s t h (predicted zs w z) = let k = spelled r d s h in rw (z, ← k) (predicted_holds r d zs _ e q w refl)

-- a call that serves lays its sentence down
lays : (a : Answer) (t : Sentence) (d : Buffers) → Ok (record_of t) ≡ a → Lays a t d (Ok (record_of t)) (laid t d)
lays a t d e = record { answer_is = e; leaves = same_self (laid t d) }

module _ (r : Record) (d : Buffers) (s : Sentence) (h : Holds r d s) where
  boundary_served : (i v : ℕ) → i < count s - 1 → v ≤ 2 → Ok (record_of (set_boundary_of i (mark_of v) (spell r d))) ≡ boundary_answer (is_sheet r d) (spell r d) i v
  unfolding boundary_answer verdict when◌then◌else◌
  boundary_served i v k l = rw (holds_is r d s h, spelled r d s h, lt-leb (count s - 1) i k, le-ltb 2 v l)

  reset_served : (c : ℕ) → c ≤ 4096 → count s * c ≤ length d.cell_starts_buf → count s * c ≤ length d.cell_lengths_buf
      → Ok (record_of (reset_tags_of c (spell r d))) ≡ reset_answer (is_sheet r d) (spell r d) c d
  unfolding reset_answer lack_cells verdict when◌then◌else◌
  reset_served c k l m =
      rw (holds_is r d s h, spelled r d s h, le-ltb 4096 c k, le-ltb (length d.cell_starts_buf) (count s * c) l, le-ltb (length d.cell_lengths_buf) (count s * c) m)

  decision_served : (zs : List ℤ) → length zs ≡ count s - 1 → Ok (record_of (scored zs (spell r d))) ≡ score_answer (is_sheet r d) (spell r d) zs
  unfolding score_answer verdict when◌then◌else◌
  decision_served zs k = rw (holds_is r d s h, spelled r d s h, eq-eqb (length zs) (count s - 1) k)

  boundaries_set : (i v : ℕ) → i < count s - 1 → v ≤ 2 → (q : Record) × (e : Buffers) × Changed r d s q e (set_boundary_of i (mark_of v) s)
  boundaries_set i v k l =
      let t = set_boundary_of i (mark_of v) (spell r d) in
      (record_of t, laid t d, boundary_set i v (lays _ t d (boundary_served i v k l)) refl)

  columns_set : (c : ℕ) → c ≤ 4096 → count s * c ≤ length d.cell_starts_buf → count s * c ≤ length d.cell_lengths_buf
      → (q : Record) × (e : Buffers) × Changed r d s q e (reset_tags_of c s)
  columns_set c k l m = let t = reset_tags_of c (spell r d) in (record_of t, laid t d, tags_reset c (lays _ t d (reset_served c k l m)) refl)

  boundaries_decided : (zs : List ℤ) → length zs ≡ count s - 1 → (q : Record) × (e : Buffers) × Changed r d s q e (scored zs s)
  boundaries_decided zs k = let t = scored zs (spell r d) in (record_of t, laid t d, predicted zs (lays _ t d (decision_served zs k)) refl)

-- ---- lines
-- what a line means that was read and written: the sentence that the definitions read, and its written line
record Means (f g : Form) (x w : List ℕ) : Type 0 where
  s : Sentence
  reads_to : read f x ≡ sentence s
  formed : Formed s
  line_is : w ≡ written g s

means : (f g : Form) (x w : List ℕ) → Respelt f g x w → Means f g x w
means f g x w h =
    let k = holding f x h.buffers_before h.buffers_after h.the_record (sym h.reads.answer_is) (same_is h.reads.buffers_are) in
    record { s = k.s; reads_to = k.reads; formed = k.holds.formed; line_is = spells g h.the_record h.buffers_after k.s w k.holds h.spelt }

-- the written line of the sentence that a line reads to
line_of_lem : (f g : Form) (x w : List ℕ) (s : Sentence) → read f x ≡ sentence s → Respelt f g x w → w ≡ written g s
line_of_lem f g x w s p h =
    let m = means f g x w h in
    let r = m.reads_to in
    let z : m.s ≡ s = cc in
    m.line_is ∙ ap (written g) z

back : (f : Form) → Annotated f → (x u : List ℕ) → Respelt f f x u → length u ≤ 4096 → read f u ≡ read f x
back f an x u h le =
    let m = means f f x u h in
    ap (read f) m.line_is ∙ definitions.reads_back f an x m.s m.reads_to (short u (written f m.s) m.line_is le) ∙ sym m.reads_to

back_partial : (f : Form) (x u : List ℕ) → Respelt f partial x u → length u ≤ 4096 → read partial u ≡ read f x
back_partial f x u h le = let m = means f partial x u h in partial_back m.s u m.formed m.line_is le ∙ sym m.reads_to

-- a written line of its own form, or of the partial one
pub own_back : (f g : Form) → Annotated g → (x u : List ℕ) (s : Sentence) → (f ≡ g) ⊎ (g ≡ partial) → read f x ≡ sentence s → u ≡ written g s → length u ≤ 4096
    → read g u ≡ sentence s
own_back f g an x u s (inl e) i j l = ap (read g) j ∙ definitions.reads_back g an x s (rw e at i) (short u (written g s) j l)
own_back f g an x u s (inr e) i j l = rw e (partial_back s u (read_formed f x s i).0 (rw e at j) l)

-- a line that reads to a sentence leaves it, given room
leaves : (f : Form) (u : List ℕ) (s : Sentence) (d e : Buffers) (a : Answer) → read f u ≡ sentence s → room_for (record_of s) d ≡ true → ReadDoes (read f u) d a e
    → (a ≡ Ok (record_of s)) × Holds (record_of s) e s
leaves f u s d e a i n w = let t = demand_2.reads f u s d e a i n w in (t.answer_is, t.holds)

-- ---- the conversion
module _ (g : Form) (room place end : ℕ) where
  -- what comes of a line that reads to r, by whether a form is unknown and a number out of range
  abbrev comes : Bool → Bool → Result → Outcome
  comes unknown outside r =
      host_order refuses unknown outside overfull (λ (s : Sentence). ltb room (needed g s)) (λ (s : Sentence). needed g s) (λ (s : Sentence). writes (written g s)) r

  -- an end that is answered is that of a written line
  comes_written : (unknown outside : Bool) (r : Result) (s : Sentence) → r ≡ sentence s → Ok end ≡ answer_of place (comes unknown outside r)
      → comes unknown outside r ≡ writes (written g s)
  unfolding host_order verdict when◌then◌else◌ answer_of
  comes_written unknown outside (refused n p) s i e = absurd (let z : ◌≡◌ {A = ℕ} 0 1 = cc in omega arith)
  comes_written true outside (sentence t) s i e = absurd (let z : ◌≡◌ {A = ℕ} 0 1 = cc in omega arith)
  comes_written false true (sentence t) s i e = absurd (let z : ◌≡◌ {A = ℕ} 0 1 = cc in omega arith)
  comes_written false false (sentence t) s i e = let k : t ≡ s = cc in full (overfull t) e ∙ rw k
    where
      on : (b : Bool) → Ok end ≡ answer_of place (when b then refuses (refusal 12 (needed g t)) else writes (written g t))
          → (when b then refuses (refusal 12 (needed g t)) else writes (written g t)) ≡ writes (written g t)
      on true a = absurd (let z : ◌≡◌ {A = ℕ} 0 1 = cc in omega arith)
      on false a = refl

      full : (o : Bool)
          → Ok end ≡ answer_of place (when o then refuses (refusal 11 0) else (when ltb room (needed g t) then refuses (refusal 12 (needed g t)) else writes (written g t)))
          → (when o then refuses (refusal 11 0) else (when ltb room (needed g t) then refuses (refusal 12 (needed g t)) else writes (written g t))) ≡ writes (written g t)
      full true a = absurd (let z : ◌≡◌ {A = ℕ} 0 1 = cc in omega arith)
      full false a = on (ltb room (needed g t)) a

-- it puts the written line of the sentence that is read
converts : (reader writer : ℕ) (x u out out' : List ℕ) (place end : ℕ) (s : Sentence) → read (form_of reader) x ≡ sentence s → u ≡ written (form_of writer) s
    → Converts (λ (c : Number). c) (conversion reader writer x (length out) place) place out (Ok end) out'
    → (end ≡ place + length u) × (out' ≡ take place out ++ over u (drop place out))
unfolding conversion between answer_of output_of
converts reader writer x u out out' place end s i e w =
    let k = comes_written (form_of writer) (length out - place) place end (unknown_forms reader writer) (out_of_range (length out) place) (read (form_of reader) x) s i w.answer in
    let a : Ok end ≡ Ok (place + length u) = w.answer ∙ rw (k, e) in
    (cc a, w.output ∙ rw (k, e))

-- ---- there are such trips
-- room for a sentence, of zeros
unfoldable zeros : Record → Buffers
zeros r = each (λ n. replicate n 0) (takes r)

enough : (r : Record) → room_for r (zeros r) ≡ true
unfolding zeros
enough r = room_has r (zeros r) (every (λ i. rw (pick_each (λ (n : ℕ). replicate {A = ℕ} n 0) (takes r) i, length-replicate) (omega arith)))

spelt : (g : Form) (r : Record) (d : Buffers) (s : Sentence) → Holds r d s → Spelt g r d (written g s)
spelt g r d s h =
    let z = spelled r d s h in
    subst (λ (t : Sentence). Spelt g r d (written g t)) z (given (Written g) (line_of g r d) (λ out l. serves r d false 0 (rw z h) refl l))

respelt : (f g : Form) (x : List ℕ) (s : Sentence) → read f x ≡ sentence s → Respelt f g x (written g s)
unfolding read_answer read_leaves reader_order verdict lacks when◌then◌else◌
respelt f g x s i =
    let d = zeros (record_of s) in
    let n = enough (record_of s) in
    let z : read_leaves (read f x) d ≡ laid s d = rw (i, n) in
    record {
      buffers_before = d;
      buffers_after = laid s d;
      the_record = record_of s;
      reads = record { answer_is = rw (i, n); buffers_are = subst (λ (b : Buffers). Same b (laid s d)) (sym z) (same_self (laid s d)) };
      spelt = spelt g (record_of s) (laid s d) s (laid_holds s d (read_formed f x s i).0 n);
    }

pub demand_3 : Demand3
demand_3 = record {
  canonical = λ f an x y u v s t p q a b.
      let d = definitions.canonical f an x y s t p q in
      let i = line_of_lem f f x u s p a in
      let j = line_of_lem f f y v t q b in (λ e. d.0 (sym i ∙ e ∙ j), λ g. i ∙ d.1 g ∙ sym j);
  reads_back = back;
  back_leaves = λ f an x u s d e a i h le n w. leaves f u s d e a (back f an x u h le ∙ i) n w;
  writes_itself = λ f an x u w a le b.
      let m = means f f x u a in
      line_of_lem f f u w m.s (back f an x u a le ∙ m.reads_to) b ∙ sym m.line_is;
  partial_canonical = λ f g x y u v s t p q a b.
      told_apart s t u v (read_formed f x s p).0 (read_formed g y t q).0 (line_of_lem f partial x u s p a) (line_of_lem g partial y v t q b);
  partial_reads_back = back_partial;
  partial_writes_itself = λ f x u w a le b.
      let m = means f partial x u a in
      line_of_lem partial partial u w m.s (back_partial f x u a le ∙ m.reads_to) b ∙ sym m.line_is;
  survives = λ f x u s p a le. survives s u (read_formed f x s p).0 (line_of_lem f tokenized x u s p a) le;
  tokenized_writes_itself = λ f x u w s p k a le b.
      let i = line_of_lem f tokenized x u s p a in
      line_of_lem tokenized tokenized u w s ((survives s u (read_formed f x s p).0 i le).1 k) b ∙ sym i;
  writes_once = λ f g x u w a b. let m = means f g x u a in line_of_lem f g x w m.s m.reads_to b ∙ sym m.line_is;
  converts = λ reader writer x u out out' place end h w.
      let m = means (form_of reader) (form_of writer) x u h in converts reader writer x u out out' place end m.s m.reads_to m.line_is w;
  sheet_canonical = λ r q d e s t u v h k a b.
      told_apart s t u v h.formed k.formed (spells partial r d s u h a) (spells partial q e t v k b);
  sheet_reads_back = λ r d s u h a le. partial_back s u h.formed (spells partial r d s u h a) le;
  sheet_back_leaves = λ r d c e s u a h p le n w. leaves partial u s c e a (partial_back s u h.formed (spells partial r d s u h p) le) n w;
  sheet_survives = λ r d s u h a le. survives s u h.formed (spells tokenized r d s u h a) le;
  sheet_told_apart = λ r q d e s t u v h k m n a b le.
      told_by_tokens s t u v h.formed k.formed m n (spells tokenized r d s u h a) (spells tokenized q e t v k b) le;
  changed_holds = changes;
  changed_reads_back = λ r q d e s t u h c a le. let k = changes r q d e s t h c in partial_back t u k.formed (spells partial q e t u k a) le;
  changed_survives = λ r q d e s t u h c a le. let k = changes r q d e s t h c in survives t u k.formed (spells tokenized q e t u k a) le;
  boundaries_set = λ r d s i v h k l. boundaries_set r d s h i v k l;
  columns_set = λ r d s c h k l m. columns_set r d s h c k l m;
  boundaries_decided = λ r d s zs h k. boundaries_decided r d s h zs k;
  sheets_spelt = λ g an r d s h. spelt g r d s h;
  lines_respelt = λ f g an x s i. respelt f g x s i;
}
