-- What the calls on a sheet answer, by what they tested. Assumes nothing.
use Rattle.std.specs.Prelude.{Ok, Err}
use Prim.Native.Nat.{ℕ, ◌≤◌, ◌<◌}
use mathlib.Core.Path.{◌≡◌, sym, ap, ◌∙◌}
use mathlib.Core.Bool.{Bool, true, false}
use borrow.Author.Tests.{lt-ltb, le-ltb, not-true, not-false}
use lib.ListN.{length}
use Rattle.laws.specs.If.{when◌then◌else◌}
use Rattle.sentence.specs.declared.Refusal.{Refusal}
use Rattle.sentence.specs.Sentence.{marks}
use Rattle.sentence.specs.Writing.{tokens_from, next_token_of}
use Rattle.sentence.specs.Refusals.{refusal, verdict}
use Rattle.sheet.specs.declared.Record.{Record}
use Rattle.sheet.specs.Layout.{Buffers, spell}
use Rattle.sheet.specs.Check.{is_sheet}
use Rattle.sheet.proofs.Exact.{is_sheet_lem}
use Rattle.tokens.specs.declared.Step.{Step}
use Rattle.tokens.specs.Steps.{step_of, marks_in, Bounded, tokens_of, next_of, list_order, count_of}
use Rattle.sheet.proofs.Held.{n_held}
use Rattle.tokens.proofs.Held.{marks_held, bounded_held}

-- a check that came out b, on buffers d
module _ (r : Record) (d : Buffers) (b : Bool) (tested : b ≡ is_sheet r d) where
  pub next_13 : b ≡ false → (p : ℕ) → Err (refusal 13 0) ≡ next_of r d p
  unfolding next_of verdict when◌then◌else◌
  next_13 q p = rw (sym tested ∙ q)

  pub count_13 : b ≡ false → (room : ℕ) → Err (refusal 13 0) ≡ count_of r d room
  unfolding count_of list_order verdict when◌then◌else◌
  count_13 q room = rw (sym tested ∙ q)

  -- from here on it is a sheet
  pub is_bounded : b ≡ true → Bounded r.n d.boundaries_buf
  is_bounded q = bounded_held (is_sheet_lem r d (sym tested ∙ q))

  pub next_served : b ≡ true → (p : ℕ) (a : Step) → a ≡ step_of (next_token_of (marks_in r.n d.boundaries_buf) r.n p) → Ok a ≡ next_of r d p
  unfolding next_of verdict when◌then◌else◌
  next_served q p a e =
      let h = is_sheet_lem r d (sym tested ∙ q) in
      let z = ap (λ ms. next_token_of ms r.n p) (marks_held h) ∙ ap (λ n. next_token_of (marks (spell r d)) n p) (n_held h) in
      rw (sym tested ∙ q) (ap Ok (e ∙ ap step_of z))

  counted : b ≡ true → (k : ℕ) → k ≡ length (tokens_from (marks_in r.n d.boundaries_buf) 0) → k ≡ length (tokens_of r d)
  counted q k e = rw (marks_held (is_sheet_lem r d (sym tested ∙ q))) at e

  pub count_12 : b ≡ true → (room k : ℕ) {u : Refusal} → u ≡ refusal 12 k → k ≡ length (tokens_from (marks_in r.n d.boundaries_buf) 0) → room < k → Err u ≡ count_of r d room
  unfolding count_of list_order verdict when◌then◌else◌
  count_12 q room k i e l =
      let c = counted q k e in
      rw (sym tested ∙ q, sym c, lt-ltb room k l) (ap Err i)

  pub count_served : b ≡ true → (room k : ℕ) → k ≡ length (tokens_from (marks_in r.n d.boundaries_buf) 0) → k ≤ room → Ok k ≡ count_of r d room
  unfolding count_of list_order verdict when◌then◌else◌
  count_served q room k e l =
      let c = counted q k e in
      rw (sym tested ∙ q, sym c, le-ltb room k l)

pub ruleset answers = (next_13, count_13, is_bounded, next_served, count_12, count_served, not-true, not-false)
