-- Buffers as long as a line, with as many cells as its sentence, have room for it. Assumes nothing.
use Rattle.std.specs.Prelude.{Ok}
use Prim.Native.Nat.{ℕ, ◌≤◌, ◌<◌}
use native.Mathlib.Omega.{arith}
use mathlib.Core.Path.{◌≡◌, refl, ap}
use mathlib.Core.Bool.{true}
use mathlib.Core.List.{List}
use lib.ListN.{length, replicate, length-replicate}
use Rattle.utf8.proofs.Codec.{size_long}
use Rattle.sentence.specs.Sentence.{Sentence, text}
use Rattle.sentence.specs.declared.Form.{Form}
use Rattle.sentence.specs.Reading.{Result, sentence, refused, read}
use Rattle.sentence.proofs.Shape.{read_formed, read_light}
use Rattle.sheet.specs.Layout.{Buffers, buffers, Same, record_of, room_for, Holds, Sheet}
use Rattle.sheet.specs.declared.Record.{Record}
use Rattle.sheet.proofs.Eights.{same_is}
use Rattle.sheet.proofs.Exact.{room_has}
use Rattle.sheet.proofs.Held.{laid_holds, spelled}
use Rattle.read_scan.specs.Scan.{scanned}
use Rattle.read_fill.specs.Fill.{Fits, filled}
use Rattle.convert_buffers.specs.Through.{Scanned, Wide}

wide_room : (f : Form) (x : List ℕ) (s : Sentence) (d : Buffers) → read f x ≡ sentence s → Wide (length x) (record_of s).cells d → room_for (record_of s) d ≡ true
unfolding record_of
wide_room f x s d e w = room_has (record_of s) d (omega (arith, read_light f x s e, size_long (text s), w))

-- zeros that are more than a line's bytes, and as many as its cells
pub zeros_wide : (n m p q : ℕ) → n < p → m ≤ q
    → Wide n m (buffers (replicate p 0) (replicate p 0) (replicate p 0) (replicate p 0) (replicate p 0) (replicate q 0) (replicate q 0) (replicate p 0))
zeros_wide n m p q h k =
    let a : ◌≡◌ {A = ℕ} (length (replicate {A = ℕ} p 0)) p = length-replicate p 0 in
    let b : ◌≡◌ {A = ℕ} (length (replicate {A = ℕ} q 0)) q = length-replicate q 0 in
    record {
      wide = record {
        text_is = omega arith;
        types_is = omega arith;
        boundaries_is = omega arith;
        char_pos_is = omega arith;
        byte_pos_is = omega arith;
        cell_starts_is = omega arith;
        cell_lengths_is = omega arith;
        tag_bytes_is = omega arith;
      };
    }

-- ---- the sentence of a line that was scanned
pub record Found (x : Result) (r : Record) : Type 0 where
  pub value : Sentence
  pub was_read : x ≡ sentence value
  pub record_is : r ≡ record_of value

pub found : (x : Result) {r : Record} → Ok r ≡ scanned x → Found x r
unfolding scanned
found (sentence s) e = record { value = s; was_read = refl; record_is = cc }
found (refused n k) e = let z : ◌≡◌ {A = ℕ} 0 1 = cc in absurd (omega arith)

module _ (f : Form) (x : List ℕ) {r : Record} (p : Scanned (read f x) r) {d : Buffers} (w : Wide (length x) r.cells d) where
  enough : (t : Found (read f x) r) → room_for (record_of t.value) d ≡ true
  enough t = wide_room f x t.value d t.was_read (rw t.record_is at w)

  pub fill_fits : Fits (read f x) r.columns d
  unfolding record_of
  fill_fits = let t = found (read f x) p.record_is in rw t.was_read (ap (λ (q : Record). q.columns) t.record_is, enough t)

  -- it is held where it was laid down
  pub fill_holds : {b : Buffers} → Same (filled (read f x) d) b → (t : Found (read f x) r) → Holds r b t.value
  unfolding filled
  fill_holds h t = rw (same_is (rw t.was_read at h), t.record_is) (laid_holds t.value d (read_formed f x t.value t.was_read).0 (enough t))

  pub fill_sheet : {b : Buffers} → Same (filled (read f x) d) b → Sheet r b
  fill_sheet {b} h =
      let t = found (read f x) p.record_is in
      let k = fill_holds h t in
      rw (spelled r b t.value k) k
