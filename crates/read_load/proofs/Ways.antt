-- The ways through a reader: what each has found, and what it answers and leaves. Assumes nothing.
use Rattle.std.specs.Prelude.{Ok, Err}
use Prim.Native.Nat.{ℕ, ◌+◌, ◌-◌}
use native.Mathlib.Numerals.{add-one}
use lib.Dec.{leb, ltb}
use mathlib.Core.Path.{◌≡◌, refl, sym, ap, ◌∙◌}
use mathlib.Core.Bool.{Bool, true, false, not, ◌&&◌}
use native.Mathlib.Omega.{arith}
use borrow.Author.Tests.{not-false, le-leb, lt-leb, leb-true, leb-false}
use lib.ListN.{length}
use Rattle.laws.specs.If.{when◌then◌else◌}
use Rattle.sentence.specs.Sentence.{Sentence}
use Rattle.sentence.specs.Reading.{Result, sentence, refused}
use Rattle.sentence.specs.Refusals.{refusal, verdict, reader_order}
use Rattle.sentence.specs.declared.Refusal.{Refusal}
use Rattle.sheet.specs.Eight.{all}
use Rattle.sheet.specs.Layout.{Buffers, Same, record_of, enough, room_for, laid}
use Rattle.sheet.proofs.Eights.{same_self}
use Rattle.sheet.specs.Answers.{Answer}
use Rattle.sheet.specs.declared.Record.{Record}
use Rattle.read_scan.specs.Scan.{scanned}
use Rattle.read_fill.specs.Fill.{Fits, filled}
use Rattle.read_load.specs.Load.{lacks, read_answer, read_leaves, ReadDoes}

-- the room that the code tests
leb_less : (n m : ℕ) → leb n (m + 1) ≡ leb (n - 1) m
leb_less n m = on (leb (n - 1) m) refl
  where
    on : (t : Bool) → leb (n - 1) m ≡ t → leb n (m + 1) ≡ leb (n - 1) m
    on true e = le-leb n (m + 1) (omega (arith, leb-true (n - 1) m e)) ∙ sym e
    on false e = lt-leb n (m + 1) (omega (arith, leb-false (n - 1) m e)) ∙ sym e

pub room_same : (r : Record) (d : Buffers)
    → (leb r.b (length d.text_buf)
    && leb r.n (length d.types_buf)
    && leb r.n (length d.boundaries_buf + 1)
    && ltb r.n (length d.char_pos_buf)
    && ltb r.b (length d.byte_pos_buf)
    && leb r.cells (length d.cell_starts_buf)
    && leb r.cells (length d.cell_lengths_buf)
    && leb r.g (length d.tag_bytes_buf)) ≡ room_for r d
unfolding room_for enough all
room_same r d = rw (leb_less r.n (length d.boundaries_buf), add-one r.n, add-one r.b)

pub lacking : (s : Sentence) (d : Buffers) (ok : Bool) (r : Record) → r ≡ record_of s → ok ≡ room_for r d → (t : Bool) → ok ≡ t → lacks d s ≡ not t
unfolding lacks
lacking s d ok r i e t h = ap not (ap (λ (q : Record). room_for q d) (sym i) ∙ sym e ∙ h)

-- ---- what a scan has found
record Found (x : Result) (r : Record) : Type 0 where
  s : Sentence
  is : x ≡ sentence s
  counts : r ≡ record_of s

found : (x : Result) (a : Answer) (r : Record) → a ≡ scanned x → a ≡ Ok r → Found x r
unfolding scanned
found (sentence s) a r e i = record { s = s; is = refl; counts = cc }
found (refused n p) a r e i = let z : ◌≡◌ {A = ℕ} 0 1 = cc in absurd (omega arith)

-- ---- a reader
pub read_refused : (x : Result) (d : Buffers) (a : Answer) (q : Refusal) → a ≡ scanned x → a ≡ Err q → ReadDoes x d (Err q) d
unfolding scanned read_answer read_leaves reader_order
read_refused (sentence s) d a q e i = let z : ◌≡◌ {A = ℕ} 0 1 = cc in absurd (omega arith)
read_refused (refused n p) d a q e i = record { answer_is = cc; buffers_are = same_self d }

served_answer : (x : Result) (d : Buffers) (s : Sentence) → x ≡ sentence s → lacks d s ≡ false → read_answer x d ≡ Ok (record_of s)
unfolding read_answer reader_order verdict when◌then◌else◌
served_answer x d s e l = rw (e, l)

served_leaves : (x : Result) (d : Buffers) (s : Sentence) → x ≡ sentence s → lacks d s ≡ false → read_leaves x d ≡ filled x d
unfolding read_leaves reader_order verdict filled when◌then◌else◌
served_leaves x d s e l = rw (e, l)

module _ (x : Result) (d : Buffers) (a : Answer) (r : Record) (ok : Bool) (e : a ≡ scanned x) (i : a ≡ Ok r) (h : ok ≡ room_for r d) where
  pub read_lacks : ok ≡ false → ReadDoes x d (Err (refusal 11 0)) d
  unfolding read_answer read_leaves reader_order verdict when◌then◌else◌
  read_lacks t =
      let g = found x a r e i in
      let l = lacking g.s d ok r g.counts h false t in
      record { answer_is = rw (g.is, l); buffers_are = rw (g.is, l) (same_self d) }

  pub read_fits : ok ≡ true → Fits x r.columns d
  unfolding lacks record_of
  read_fits t =
      let g = found x a r e i in
      rw g.is (ap (λ (q : Record). q.columns) g.counts, not-false _ (lacking g.s d ok r g.counts h true t))

  pub read_done : {b : Buffers} → ok ≡ true → Same (filled x d) b → ReadDoes x d (Ok r) b
  read_done t s =
      let g = found x a r e i in
      let l = lacking g.s d ok r g.counts h true t in
      record {
        answer_is = ap Ok g.counts ∙ sym (served_answer x d g.s g.is l);
        buffers_are = rw (served_leaves x d g.s g.is l) s;
      }

-- what a reader's answer says of what an order of refusals gives
pub order_sentence : (x : Result) (d : Buffers) (r : Record) (b : Buffers) → read_answer x d ≡ Ok r
    → reader_order (λ (q : Refusal). b) (lacks d) (λ (s : Sentence). laid s d) x ≡ read_leaves x d
unfolding read_answer read_leaves reader_order verdict when◌then◌else◌
order_sentence (sentence s) d r b e = on (lacks d s) e
  where
    on : (t : Bool) → (when t then Err (refusal 11 0) else Ok (record_of s)) ≡ Ok r → (when t then b else laid s d) ≡ (when t then d else laid s d)
    on true e = cc
    on false e = refl
order_sentence (refused n p) d r b e = cc

pub order_refused : (x : Result) (d : Buffers) (q : Refusal) (b : Buffers) → read_answer x d ≡ Err q
    → reader_order (λ (q : Refusal). b) (lacks d) (λ (s : Sentence). laid s d) x ≡ b
unfolding read_answer reader_order verdict when◌then◌else◌
order_refused (sentence s) d q b e = on (lacks d s) e
  where
    on : (t : Bool) → (when t then Err (refusal 11 0) else Ok (record_of s)) ≡ Err q → (when t then b else laid s d) ≡ b
    on true e = refl
    on false e = cc
order_refused (refused n p) d q b e = refl
