-- Two outcomes of one of the host's calls coincide; of those that put a line `puts_once` (write, Laws) says it. Assumes nothing.
use Prim.Native.Nat.{ℕ}
use mathlib.Core.Path.{◌≡◌, sym, ◌∙◌}
use mathlib.Core.List.{List}
use Rattle.sheet.specs.Layout.{Buffers}
use Rattle.sheet.specs.declared.Record.{Record}
use Rattle.sheet.proofs.Eights.{same_is}
use Rattle.exports.specs.Exports.{HostReads, HostSteps}

pub host_read_once : {f : ℕ} {x : List ℕ} {d : Buffers} {ns : List ℕ} {a a' : ℕ} {e e' : Buffers} {m m' : List ℕ}
    → HostReads f x d ns a e m → HostReads f x d ns a' e' m' → (a ≡ a') × (e ≡ e') × (m ≡ m')
host_read_once p q = (cc, same_is p.buffers_are ∙ sym (same_is q.buffers_are), cc)

pub host_step_once : (r : Record) (d : Buffers) (p : ℕ) {span : List ℕ} {a a' : ℕ} {s s' : List ℕ}
    → HostSteps r d p span a s → HostSteps r d p span a' s' → (a ≡ a') × (s ≡ s')
host_step_once r d n p q = (cc, cc)
