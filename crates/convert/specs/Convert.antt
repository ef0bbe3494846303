-- The conversion by form numbers, behind a place of an output.
use Rattle.std.specs.Prelude.{ℕ, ◌-◌, Bool, ◌||◌, List, ltb}
use Rattle.sentence.specs.Forms.{no_reader, no_writer, form_of}
use Rattle.convert_buffers.specs.Between.{Outcome, between}

-- one of two numbers is no form to read, or no form to write
unfoldable pub unknown_forms : ℕ → ℕ → Bool
unknown_forms reader writer = no_reader reader || no_writer writer

-- an output longer than 1,048,576, or a place past its end
unfoldable pub out_of_range : ℕ → ℕ → Bool
out_of_range size at = ltb 1048576 size || ltb size at

-- the conversion by form numbers, into an output of that size behind a place
unfoldable pub conversion : ℕ → ℕ → List ℕ → ℕ → ℕ → Outcome
conversion reader writer x size at = between (unknown_forms reader writer) (out_of_range size at) (form_of reader) (form_of writer) (size - at) x
