-- A call's outcome is the only one. Assumes nothing.
use Prim.Native.Nat.{ℕ}
use mathlib.Core.Path.{◌≡◌}
use mathlib.Core.List.{List}
use Rattle.sheet.specs.declared.Record.{Record}
use Rattle.sheet.specs.Answers.{Number}
use Rattle.sheet.specs.Layout.{Buffers}
use Rattle.tokens.specs.declared.Token.{Token as Span}
use Rattle.tokens.specs.Steps.{Next}
use Rattle.tokens.specs.Steps.{next_of, Listed}

pub next_once : (r : Record) (d : Buffers) (p : ℕ) {a a' : Next} → a ≡ next_of r d p → a' ≡ next_of r d p → a ≡ a'
next_once r d p e e' = cc

pub listed_once : {r : Record} {d : Buffers} {l : List Span} {a a' : Number} {m m' : List Span} → Listed r d l a m → Listed r d l a' m' → (a ≡ a') × (m ≡ m')
listed_once p q = (cc, cc)
