-- The bytes of a quoted text.
use Rattle.std.specs.Prelude.{ℕ, List}
use Prim.Native.String.{String}
use Rattle.laws.specs.Quoted.{quoted}
use Rattle.utf8.specs.Utf8.{encodes}

abbrev pub utf8_of : String → List ℕ
utf8_of q = encodes (quoted q)
