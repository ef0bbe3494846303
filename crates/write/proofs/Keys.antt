-- The note key is the copy that withholds nothing. Assumes nothing.
use Prim.Native.Nat.{ℕ, ◌≤◌}
use mathlib.Core.Path.{◌≡◌}
use mathlib.Core.Logic.{◌↔◌}
use mathlib.Core.Bool.{false}
use mathlib.Core.List.{List}
use native.Mathlib.Omega.{arith}
use Rattle.sentence.specs.Sentence.{count}
use Rattle.sentence.proofs.Keys.{key_copy}
use Rattle.sheet.specs.declared.Record.{Record}
use Rattle.sheet.specs.Answers.{Number}
use Rattle.sheet.specs.Layout.{Buffers, spell}
use Rattle.write.specs.Answers.{line_order, no_range, Withholds, Keyed}
use Rattle.write.proofs.Laws.{first_unseen}
use Rattle.write.proofs.Withheld.{is_range}

-- an empty range of the sentence's withholds nothing
module _ (r : Record) (d : Buffers) (b : ℕ) (h : b ≤ count (spell r d)) where
  pub copy_key : {out out' : List ℕ} {a : Number} → Withholds r d b b out a out' ↔ Keyed r d out a out'
  unfolding line_order
  copy_key =
      let i : no_range b b (count (spell r d)) ≡ false = is_range (omega arith) h in
      rw (i, key_copy b (spell r d)) (λ w. first_unseen r d b 0 w, λ w. first_unseen r d 0 b w)

-- from the first character on there always is one
pub keyed : (r : Record) (d : Buffers) {out out' : List ℕ} {a : Number} → Withholds r d 0 0 out a out' → Keyed r d out a out'
keyed r d w = (copy_key r d 0 (omega arith)).0 w
