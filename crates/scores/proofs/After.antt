-- Where the decision answers a sentence, its record and the buffers hold the decided sentence. Assumes nothing.
use Rattle.std.specs.Prelude.{Ok}
use native.Mathlib.Omega.{arith}
use mathlib.Core.Path.{◌≡◌, ◌∙◌}
use mathlib.Core.List.{List, map}
use borrow.Author.Tests.{not-false}
use lib.IntN.{ℤ}
use Rattle.sentence.specs.Writing.{marked, reset_tags_of, decision, scored}
use Rattle.sheet.specs.declared.Record.{Record}
use Rattle.sheet.specs.Answers.{Answer}
use Rattle.sheet.specs.Layout.{Buffers, Holds, spell}
use Rattle.sheet.proofs.Exact.{is_sheet_lem}
use Rattle.changes.proofs.Changed.{text_bare, rows_bare, no_tag_bytes, text_marked, reset_formed, marked_formed}
use Rattle.changes.proofs.After.{room_kept, lays_holds}
use Rattle.scores.specs.Scores.{Predicted, score_answer}

pub predicted_holds : (r : Record) (d : Buffers) (zs : List ℤ) (a : Answer) (e : Buffers) (q : Record)
    → Predicted r d zs a e → a ≡ Ok q → Holds q e (scored zs (spell r d))
unfolding score_answer scored reset_tags_of
predicted_holds r d zs a e q l h =
    let s = spell r d in
    let ms = map decision zs in
    let t = marked ms s.cells in
    lays_holds _ (scored zs s) d a e q l h (λ p.
    let k = is_sheet_lem r d (not-false _ p.0) in (
      reset_formed 0 (record { cells = t; columns = s.columns }) (omega arith) (marked_formed ms s k.formed),
      room_kept k (scored zs s) (text_bare t ∙ text_marked ms s.cells) (omega arith) (omega arith) (rw (rows_bare t, no_tag_bytes) (omega arith)),
    ))
