-- Tokens one after another: each but the first of a line stands behind a space.
use Rattle.std.specs.Prelude.{ℕ, Bool, true, false, List, [], ◌∷◌, ◌++◌}
use Prim.Native.Char.{code as chr}

-- what is before a token where some were written, and where none was
unfoldable pub gap : Bool → List ℕ
gap true = chr " " ∷ []
gap false = []

-- the tokens that are left, where some were written or none was
unfoldable pub spaced : Bool → List (List ℕ) → List ℕ
spaced some [] = []
spaced some (w ∷ ws) = gap some ++ (w ++ spaced true ws)
