-- The program on a piece of input: what is done with it in one call.
use Rattle.std.specs.Prelude.{ℕ, zero, suc, ◌+◌, ◌-◌, ◌≤◌, ◌<◌, ◌≡◌, Bool, ◌&&◌, List, [], ◌∷◌, ◌++◌, eqb, ltb, length, take, drop, Option, None, Some}
use Prim.Native.Char.{code as chr}
use Rattle.laws.specs.If.{when◌then◌else◌}
use Rattle.laws.specs.Put.{over}
use Rattle.respelling.specs.Puts.{Puts}
use Rattle.respelling.specs.Respell.{answer}
use Rattle.respelling.specs.declared.Turn.{Turn}

-- the bytes before the first LF
unfoldable pub line_len : List ℕ → ℕ
line_len [] = 0
line_len (b ∷ s) = when eqb b (chr "\n") then 0 else suc (line_len s)

-- what stands behind the first LF
unfoldable pub past_line : List ℕ → List ℕ
past_line s = drop (line_len s + 1) s

-- what is done with a piece of input: the bytes used, and the bytes printed
pub record Done : Type 0 where
  pub used : ℕ
  pub prints : List ℕ

abbrev pub done : ℕ → List ℕ → Done
done u p = record { used = u; prints = p }

-- one step on a piece, the last or not, with so much room: a line whose LF is there, or that ends where the input does, has its answer; nothing is
-- done where there is no such line, or no room for the longest answer
unfoldable pub step : Bool → ℕ → List ℕ → Done
step last room s =
    when ltb room 8194 then done 0 []
    else when ltb (line_len s) (length s) then done (line_len s + 1) (answer (take (line_len s) s))
    else when last && ltb 0 (length s) then done (length s) (answer s)
    else done 0 []

-- one thing done after another
unfoldable pub and_then : Done → Done → Done
and_then d e = done (d.used + e.used) (d.prints ++ e.prints)

-- step after step, until one uses nothing; there are fewer than `more`
unfoldable pub steps : ℕ → Bool → ℕ → List ℕ → Done
steps zero last room s = done 0 []
steps (suc more) last room s =
    let d : Done = step last room s in
    when eqb d.used 0 then d else and_then d (steps more last (room - length d.prints) (drop d.used s))

-- all that is done with a piece in one call
unfoldable pub turn : Bool → ℕ → List ℕ → Done
turn last room s = steps (suc (length s)) last room s

-- the answer r to what is done, and the output after it: what is printed stands at its front, and every other byte is as it was
pub record Turned (d : Done) (out : List ℕ) (r : Turn) (out' : List ℕ) : Type 0 where
  pub answer_is : r ≡ record { used = d.used; wrote = length d.prints }
  pub output_is : out' ≡ over d.prints out

-- what an answer of one step uses, and where its bytes end
abbrev pub used_of : Option Turn → ℕ
used_of None = 0
used_of (Some t) = t.used

abbrev pub end_of : ℕ → Option Turn → ℕ
end_of at None = at
end_of at (Some t) = t.wrote

-- the same of one step, whose bytes go behind a place, and end where the answer's do; none is answered where nothing is used
pub record Stepped (d : Done) (out : List ℕ) (at : ℕ) (r : Option Turn) (out' : List ℕ) : Type 0 where
  pub used_is : used_of r ≡ d.used
  pub puts : Puts d.prints out at (end_of at r) out'
  pub fits : end_of at r ≤ length out
  pub some : (t : Turn) → r ≡ Some t → 0 < t.used
