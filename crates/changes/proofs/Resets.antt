-- What `reset_tags` answers, check by check. Assumes nothing.
use Rattle.std.specs.Prelude.{Ok, Err}
use Prim.Native.Nat.{ℕ, ◌*◌, ◌≤◌, ◌<◌}
use native.Mathlib.Nat.{mul-le-mul_right}
use native.Mathlib.Omega.{arith}
use mathlib.Core.Path.{◌≡◌, ap}
use mathlib.Core.Bool.{Bool, true, false, ◌||◌}
use borrow.Author.Tests.{lt-ltb, le-ltb, ltb-false}
use lib.Dec.{ltb}
use lib.ListN.{length}
use Rattle.laws.specs.If.{when◌then◌else◌}
use Rattle.laws.proofs.Facts.{neither}
use Rattle.sentence.specs.declared.Refusal.{Refusal}
use Rattle.sentence.specs.Sentence.{count}
use Rattle.sentence.specs.Writing.{reset_tags_of}
use Rattle.sentence.specs.Refusals.{refusal, verdict}
use Rattle.sheet.specs.declared.Record.{Record}
use Rattle.sheet.specs.Layout.{Buffers, record_of, spell, Sheet}
use Rattle.sheet.specs.Check.{is_sheet}
use Rattle.sheet.proofs.Look.{Found}
use Rattle.changes.specs.Changes.{lack_cells, reset_answer}

pub reset_broken : (r : Record) (d : Buffers) (c : ℕ) (g : Bool) → g ≡ is_sheet r d → g ≡ false → Err (refusal 13 0) ≡ reset_answer (is_sheet r d) (spell r d) c d
unfolding reset_answer verdict when◌then◌else◌
reset_broken r d c g e h = rw (← e, h)

-- where the check found a sheet
module _ {r : Record} {d : Buffers} (f : Found r d) (c : ℕ) where
  pub reset_outside : {u : Refusal} → u ≡ refusal 14 c → 4096 < c → Err u ≡ reset_answer (is_sheet r d) (spell r d) c d
  unfolding reset_answer verdict when◌then◌else◌
  reset_outside i o = rw (f.is, lt-ltb 4096 c o) (ap Err i)

  module _ (o : c ≤ 4096) where
    pub product_few : r.n * c ≤ 16777216
    product_few = omega (arith, f.limits, mul-le-mul_right {m = r.n} {n = 4096} c (omega (arith, f.limits)))

    lacks : (t : Bool) → (ltb (length d.cell_starts_buf) (r.n * c) || ltb (length d.cell_lengths_buf) (r.n * c)) ≡ t → lack_cells d (count (spell r d) * c) ≡ t
    unfolding lack_cells
    lacks t k = rw (← f.limits.n_is) k

    pub reset_lacks : (ltb (length d.cell_starts_buf) (r.n * c) || ltb (length d.cell_lengths_buf) (r.n * c)) ≡ true → Err (refusal 11 0) ≡ reset_answer (is_sheet r d) (spell r d) c d
    unfolding reset_answer verdict when◌then◌else◌
    reset_lacks k = rw (f.is, le-ltb 4096 c o, lacks true k)

    module _ (k : (ltb (length d.cell_starts_buf) (r.n * c) || ltb (length d.cell_lengths_buf) (r.n * c)) ≡ false) where
      pub reset_served : Ok (record_of (reset_tags_of c (spell r d))) ≡ reset_answer (is_sheet r d) (spell r d) c d
      unfolding reset_answer verdict when◌then◌else◌
      reset_served = rw (f.is, le-ltb 4096 c o, lacks false k)

      pub reset_room : Sheet r d × (c ≤ 4096) × (r.n * c ≤ length d.cell_starts_buf) × (r.n * c ≤ length d.cell_lengths_buf)
      reset_room = let n = neither _ _ k in (f.sheet, o, ltb-false _ (r.n * c) n.0, ltb-false _ (r.n * c) n.1)
