-- Joining lines over the public functions, from the laws of the definitions and of the contracts. Assumes nothing.
use Prim.Native.Nat.{ℕ, ◌+◌, ◌≤◌, ◌<◌}
use mathlib.Core.Path.{◌≡◌, refl, sym, ap, subst, ◌∙◌}
use mathlib.Core.Bool.{false}
use mathlib.Core.List.{List, [], ◌++◌}
use native.Mathlib.Omega.{arith}
use borrow.Author.Tests.{lt-ltb}
use lib.ListN.{length, length-append}
use Rattle.laws.specs.If.{if_true}
use Rattle.laws.proofs.Facts.{untrue}
use Rattle.utf8.specs.Utf8.{scalars, size}
use Rattle.utf8.proofs.Codec.{size_append}
use Rattle.sentence.specs.Sentence.{Mark, unknown, Sentence, text, rows, tag_bytes}
use Rattle.sentence.specs.declared.Form.{Form}
use Rattle.sentence.specs.declared.Form.TheVariants.{Raw as raw, Tokenized as tokenized, Partial as partial}
use Rattle.sentence.specs.Reading.{Annotated, start, sentence, refused, read}
use Rattle.sentence.specs.Writing.{written}
use Rattle.sentence.specs.Joined.{join, JoinsBy, glue, glued, ends_lone}
use Rattle.sentence.proofs.Cells.{tag_bytes_append}
use Rattle.sentence.proofs.Shape.{read_formed}
use Rattle.sentence.proofs.Demand3.{fits_read}
use Rattle.sentence.proofs.Keys.{note_joined}
use Rattle.sentence.proofs.Joined as definitions
use Rattle.sentence.proofs.Lone.{lone_dropped, plain_end, raw_lone}
use Rattle.sentence.proofs.Apart.{lone_apart}
use Rattle.sentence.proofs.Accepted.{accepted, written_lone}
use Rattle.sheet.specs.declared.Record.{Record}
use Rattle.sheet.specs.Layout.{Buffers, record_of, Holds, spell, Sheet}
use Rattle.sheet.proofs.Held.{spelled}
use Rattle.read_load.proofs.Laws.{read_holds}
use Rattle.write.proofs.Laws.{front, took}
use Rattle.demands.proofs.Calls.{laid_is}
use Rattle.demands.proofs.Demand2.{demand_2}
use Rattle.demands.proofs.Demand3.{demand_3}
use Rattle.demands.proofs.Keys.{note_keys}
use Rattle.demands.specs.Calls.{Laid}
use Rattle.demands.specs.Demand3.{Spelt}
use Rattle.demands.specs.Joined.{Joins, Survives, Sums, JoinedLines}

-- ---- lines that a writer put, and lines that a reader took
module _ (f : Form) (an : Annotated f) {r : Record} {d : Buffers} {x : List ℕ} where
  sheet_of : Spelt f r d x → Sheet r d
  sheet_of p = (took r d false 0 p.does refl).sheet

  line_of_lem : Spelt f r d x → x ≡ written f (spell r d)
  line_of_lem p = p.line_is ∙ front r d false 0 p.does refl

  accepts : Spelt f r d x → (x ≡ [] → ⊥) → length x ≤ 4096 → (s : Sentence) × (read f x ≡ sentence s)
  accepts p some le = let i = line_of_lem p in rw i (accepted (spell r d) (sheet_of p).formed.cells_are f an (rw i at some) (rw i at le))

  ends : Spelt f r d x → ends_lone f x ≡ false
  ends p = rw (line_of_lem p) (written_lone (spell r d) (sheet_of p).formed.cells_are f an)

laid_reads : {f : Form} {x : List ℕ} {r : Record} {d : Buffers} → Laid f x r d → read f x ≡ sentence (spell r d)
laid_reads {f} {x} {r} {d} t = let k = read_holds f x t.buffers_before d _ r t.reads refl in k.reads ∙ ap sentence (sym (spelled r d k.s k.holds))

-- ---- the law
parts_fit : (f : Form) (m : Mark) (x y : List ℕ) → length (glued f m x y) ≤ 4096 → (length x ≤ 4096) × (length y ≤ 4096)
parts_fit f m x y le =
    let n = length-append x (glue f m ++ y) in
    let k = length-append (glue f m) y in
    (omega (arith, le, n), omega (arith, le, n, k))

written_lines : (f : Form) → Annotated f → (m : Mark) → JoinsBy f m → {r q : Record} {d c : Buffers} (x y : List ℕ) → Spelt f r d x → Spelt f q c y
    → (x ≡ [] → ⊥) → (y ≡ [] → ⊥) → length (glued f m x y) ≤ 4096 → Joins f m x y
written_lines f an m j x y p o u v le =
    let n = parts_fit f m x y le in
    let (s, i) = accepts f an p u n.0 in
    let (t, k) = accepts f an o v n.1 in
    record { left = s; right = t; left_is = i; right_is = k; both = definitions.joins f m j x y s t i k (ends f an p) le }

raw_lines : (x y : List ℕ) (s t : Sentence) → read raw x ≡ sentence s → read raw y ≡ sentence t → length x + length y ≤ 4096 → read raw (x ++ y) ≡ sentence (join unknown s t)
unfolding glue
raw_lines x y s t p q le = definitions.joins raw unknown refl x y s t p q (raw_lone (scalars x) start) (rw length-append le)

too_long : (f : Form) (x : List ℕ) → 4096 < length x → read f x ≡ refused 1 4096
unfolding read
too_long f x h = if_true _ _ _ (lt-ltb 4096 (length x) h)

-- a sentence that survives is what its written line reads as
own : (f : Form) {r : Record} {d : Buffers} (s : Sentence) (x : List ℕ) → Holds r d s → Survives f s → Spelt f r d x → length x ≤ 4096 → read f x ≡ sentence s
own raw s x h k p le = absurd k
own tokenized {r} {d} s x h k p le = (demand_3.sheet_survives r d s x h p le).1 k
own partial {r} {d} s x h k p le = demand_3.sheet_reads_back r d s x h p le

annotated : (f : Form) (s : Sentence) → Survives f s → Annotated f
annotated raw s k = absurd k
annotated tokenized s k = tt
annotated partial s k = tt

sheets_join : (f : Form) (m : Mark) → JoinsBy f m → {r q : Record} {d c : Buffers} (s t : Sentence) (x y : List ℕ) → Holds r d s → Holds q c t → Survives f s → Survives f t
    → Spelt f r d x → Spelt f q c y → length (glued f m x y) ≤ 4096 → read f (glued f m x y) ≡ sentence (join m s t)
sheets_join f m j s t x y h i k l p o le =
    let n = parts_fit f m x y le in
    definitions.joins f m j x y s t (own f s x h k p n.0) (own f t y i l o n.1) (ends f (annotated f s k) p) le

readable : (f : Form) (x : List ℕ) (s : Sentence) → read f x ≡ sentence s → (c : Buffers) × Laid f x (record_of s) c
readable f x s e =
    let k = demand_3.lines_respelt f partial tt x s e in
    let t : Laid f x k.the_record k.buffers_after = record { buffers_before = k.buffers_before; reads = k.reads } in
    (k.buffers_after, subst (λ (q : Record). Laid f x q k.buffers_after) (laid_is e t).record_is t)

sums : (m : Mark) (s t : Sentence) → Sums (record_of s) (record_of t) (record_of (join m s t))
unfolding record_of
sums m s t =
    let i = definitions.is_join m s t in
    let n = ap length i.texts ∙ length-append (text s) (text t) in
    record {
      characters = n;
      text_bytes = ap size i.texts ∙ size_append (text s) (text t);
      column_count = i.column_count;
      cell_count = rw (n, i.column_count);
      tag_bytes = ap tag_bytes i.tags ∙ tag_bytes_append (rows s) (rows t);
    }

pub joined_lines : JoinedLines
joined_lines = record {
  written_lines = λ f an m j r q d c x y p o u v le. written_lines f an m j x y p o u v le;
  lines = definitions.joins;
  exactly = λ f an m j x y s t p q le.
      (λ e. untrue (ends_lone f x) (λ l. lone_apart f an m j x y s t p q l e), λ h. definitions.joins f m j x y s t p q h le);
  raw_lines = raw_lines;
  many_lines = definitions.joins_all;
  too_long = λ f m x y h. too_long f (glued f m x y) h;
  leaves = λ f m j x y r q d c b e a p o h le n w.
      demand_2.reads f (glued f m x y) (join m (spell r d) (spell q c)) b e a (definitions.joins f m j x y (spell r d) (spell q c) (laid_reads p) (laid_reads o) h le) n w;
  sheets_leave = λ f m j r q d c b e s t x y a h i k l p o le n w. demand_2.reads f (glued f m x y) (join m s t) b e a (sheets_join f m j s t x y h i k l p o le) n w;
  readable = λ f m j x y s t p q h le. readable f (glued f m x y) (join m s t) (definitions.joins f m j x y s t p q h le);
  room = sums;
  written_ends = λ f an r d x p. ends f an p;
  plain_ends = plain_end;
  lone_dropped = lone_dropped;
  is_join = definitions.is_join;
  only_join = definitions.only_join;
  associates = definitions.join_associates;
  lines_associate = definitions.glued_associates;
  same_keys = λ f g m j i x y u v k l s t p q a b c d h o le ge e n w z.
      let big = definitions.joins f m j x y s t a b h le in
      let other = definitions.joins g m i u v p q c d o ge in
      let same = note_joined m s t p q (read_formed f x s a).0 (read_formed f y t b).0 (read_formed g u p c).0 (read_formed g v q d).0 e n in
      (note_keys.lines_tell f g (glued f m x y) (glued g m u v) k l (join m s t) (join m p q) big other w z).1 same;
  written_joined = λ f an x y s t p q e.
      definitions.written_joined f s t (fits_read f s.cells an (read_formed f x s p).1) (fits_read f t.cells an (read_formed f y t q).1) e;
}
