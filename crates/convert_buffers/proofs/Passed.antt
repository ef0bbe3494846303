-- How a line that was scanned is converted. Assumes nothing.
use Rattle.std.specs.Prelude.{Ok, Err}
use Prim.Native.Nat.{ℕ, ◌≤◌, ◌<◌}
use native.Mathlib.Omega.{arith}
use mathlib.Core.Path.{◌≡◌, refl, sym, ap, ◌∙◌}
use mathlib.Core.Bool.{Bool, true, false, ◌&&◌}
use mathlib.Core.List.{List}
use borrow.Author.Tests.{lt-ltb, le-ltb, ltb-false, leb-true}
use lib.Dec.{leb, ltb}
use lib.ListN.{length}
use Rattle.laws.specs.If.{when◌then◌else◌}
use Rattle.laws.proofs.Facts.{both}
use Rattle.sentence.specs.declared.Refusal.{Refusal}
use Rattle.sentence.specs.Sentence.{Sentence}
use Rattle.sentence.specs.declared.Form.{Form}
use Rattle.sentence.specs.Reading.{Result, sentence, refused, read}
use Rattle.sentence.specs.Refusals.{refusal, verdict, host_order}
use Rattle.sheet.specs.Layout.{Buffers, Same, record_of, spell}
use Rattle.sheet.specs.declared.Record.{Record}
use Rattle.sheet.specs.Answers.{Answer}
use Rattle.sheet.proofs.Held.{spelled}
use Rattle.read_scan.specs.Scan.{scanned}
use Rattle.read_fill.specs.Fill.{filled}
use Rattle.convert_buffers.specs.Between.{Outcome, refuses, overfull, between, answer_of, output_of, Converts}
use Rattle.convert_buffers.specs.Through.{Scanned, Wide, writing}
use Rattle.sheet.specs.Answers.{Number}
use Rattle.convert_buffers.proofs.Rooms.{found, fill_holds}

-- the answer as it is, at the front of the output
abbrev Passes : Outcome → List ℕ → Number → List ℕ → Type 0
Passes o out c end = Converts (λ (c : Number). c) o 0 out c end

-- ---- where the line is known to read to a sentence of few cells, or of many, or to a refusal
module _ (f g : Form) (room : ℕ) (x : List ℕ) where
  between_serves : (s : Sentence) → read f x ≡ sentence s → overfull s ≡ false → between false false f g room x ≡ writing g room s
  unfolding between writing host_order verdict when◌then◌else◌
  between_serves s e h = rw (e, h)

  between_full : (s : Sentence) → read f x ≡ sentence s → overfull s ≡ true → between false false f g room x ≡ refuses (refusal 11 0)
  unfolding between host_order verdict when◌then◌else◌
  between_full s e h = rw (e, h)

  between_refuses : (n k : ℕ) → read f x ≡ refused n k → between false false f g room x ≡ refuses (refusal n k)
  unfolding between host_order verdict when◌then◌else◌
  between_refuses n k e = rw e

not_full : (s : Sentence) {r : Record} → r ≡ record_of s → r.cells ≤ 2048 → overfull s ≡ false
unfolding overfull record_of
not_full s e h = le-ltb _ _ (rw e at h)

is_full : (s : Sentence) {r : Record} → r ≡ record_of s → 2048 < r.cells → overfull s ≡ true
unfolding overfull record_of
is_full s e h = lt-ltb _ _ (rw e at h)

-- what was laid down is what was read
module _ (f g : Form) (room : ℕ) (x : List ℕ) {r : Record} (p : Scanned (read f x) r) {d : Buffers} (w : Wide (length x) r.cells d) where
  pub through_written : {b : Buffers} {c : Number} {out end : List ℕ} → Same (filled (read f x) d) b → Passes (writing g room (spell r b)) out c end
      → Passes (between false false f g room x) out c end
  through_written {b} h q =
      let t = found (read f x) p.record_is in
      rw (between_serves f g room x t.value t.was_read (not_full t.value t.record_is p.few))
      (rw (spelled r b t.value (fill_holds f x p w h t)) at q)

-- ---- what the scan says
module _ (f : Form) (x : List ℕ) {a : Answer} (e : a ≡ scanned (read f x)) where
  pub scanned_few : {r : Record} → a ≡ Ok r → r.cells ≤ 2048 → Scanned (read f x) r
  scanned_few h k = record { record_is = sym h ∙ e; few = k }

  pub scanned_short : {r : Record} → a ≡ Ok r → length x ≤ 4096
  unfolding read scanned when◌then◌else◌
  scanned_short {r} h = on (ltb 4096 (length x)) refl
    where
      on : (b : Bool) → ltb 4096 (length x) ≡ b → length x ≤ 4096
      on true k = let y : a ≡ Err (refusal 1 4096) = rw k at e in let z : ◌≡◌ {A = ℕ} 0 1 = cc in absurd (omega arith)
      on false k = ltb-false 4096 (length x) k

  pub passed_full : (g : Form) (room : ℕ) {out : List ℕ} {r : Record} → a ≡ Ok r → 2048 < r.cells
      → Passes (between false false f g room x) out (Err (refusal 11 0)) out
  unfolding answer_of output_of
  passed_full g room {r} j k =
      let t = found (read f x) (sym j ∙ e) in
      rw (between_full f g room x t.value t.was_read (is_full t.value t.record_is k)) (record { answer = refl; output = refl })

  pub passed_refused : (g : Form) (room : ℕ) {out : List ℕ} {q : Refusal} → a ≡ Err q → Passes (between false false f g room x) out (Err q) out
  unfolding scanned answer_of output_of
  passed_refused g room {out} {q} j = on (read f x) refl
    where
      on : (y : Result) → read f x ≡ y → Passes (between false false f g room x) out (Err q) out
      on (sentence s) k = let z : ◌≡◌ {A = ℕ} 0 1 = cc (rw k at e) in absurd (omega arith)
      on (refused n l) k =
          let y : q ≡ refusal n l = cc (rw k at e) in
          rw (between_refuses f g room x n l k) (record { answer = ap Err y; output = refl })

-- the bytes and the cells that the code tests together
module _ (n m k : ℕ) (e : (leb n k && leb m k) ≡ true) where
  pub few_bytes : n ≤ k
  few_bytes = leb-true _ _ (both (leb n k) (leb m k) e).0

  pub few_cells : m ≤ k
  few_cells = leb-true _ _ (both (leb n k) (leb m k) e).1
