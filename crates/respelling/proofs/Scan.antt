-- The bytes before the first LF. Assumes nothing.
use Rattle.std.specs.Prelude.{slice_index}
use Prim.Native.Nat.{ℕ, zero, suc, ◌≤◌, ◌<◌}
use native.Mathlib.Omega.{arith}
use mathlib.Core.Path.{◌≡◌, sym, ap, ◌∙◌}
use mathlib.Core.List.{List, [], ◌∷◌}
use borrow.Author.Tests.{eq-eqb, ne_eqb}
use lib.ListN.{length}
use Rattle.respelling.specs.Stream.{line_len}
use Rattle.respelling.proofs.Lines.{len_feed, len_byte}

-- where n bytes are none, and the one behind them is one
pub line_ends : (s : List ℕ) (n : ℕ) → n ≤ length s → ((i : ℕ) → i < n → slice_index s i ≡ 10 → ⊥) → (n < length s → slice_index s n ≡ 10) → n ≡ line_len s
unfolding line_len
line_ends [] n h b f = omega arith
line_ends (c ∷ s) zero h b f = sym (len_feed c s (eq-eqb c 10 (f (omega arith))))
line_ends (c ∷ s) (suc n) h b f =
    ap suc (line_ends s n (omega arith) (λ i k. b (suc i) (omega arith)) (λ k. f (omega arith))) ∙ sym (len_byte c s (ne_eqb c 10 (b 0 (omega arith))))
