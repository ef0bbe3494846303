-- A quoted text as the list of its characters.
use Rattle.std.specs.Prelude.{ℕ, List, [] as none, ◌∷◌ as ◌then◌}
use Prim.Native.Char.{code}
use Prim.Native.String.{String, [], ◌∷◌}

unfoldable pub quoted : String → List ℕ
quoted [] = none
quoted (c ∷ s) = code c then quoted s
