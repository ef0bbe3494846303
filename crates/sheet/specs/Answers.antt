-- What the calls on a sheet answer: each serves, or is refused.
use Rattle.std.specs.Prelude.{ℕ, Option, Some, Result, Ok}
use Rattle.sentence.specs.declared.Refusal.{Refusal}
use Rattle.sheet.specs.declared.Record.{Record}
use Rattle.sheet.specs.declared.Span.{Span}

-- a sentence that is left in the buffers
abbrev pub Answer : Type 0
Answer = Result Record Refusal

-- a number
abbrev pub Number : Type 0
Number = Result ℕ Refusal

-- bytes of a buffer; an absent tag has none
abbrev pub Slice : Type 0
Slice = Result (Option Span) Refusal

-- the slice from one byte up to another
abbrev pub slice_of : ℕ → ℕ → Slice
slice_of b e = Ok (Some (record { start = b; end = e }))
