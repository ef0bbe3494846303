-- `utf8::unchecked::char_at` meets its contract.
use Rattle.utf8.proofs.Lead.{Spans, lead_within, lead_one, lead_two, lead_three, lead_four}
use lib.ListN.{get_or}
use native.Mathlib.Omega.{arith}
use Prim.Native.Nat.{◌+◌, ◌*◌, ◌%◌}
use Rattle.utf8.proofs.unchecked.char_at.Goals as goal
use Rattle.utf8.proofs.unchecked.char_at.Goals.{Else-a-le239, Then-a-le127, Then-a-le223, Then-a-le239}

-- the character that stands there, by its lead byte
first : (c : Then-a-le127) → let a = c.args in Spans a.s.now a.at (get_or a.s.now a.at 0) 1
first c = search lead_one

second : (c : Then-a-le223) → let a = c.args in Spans a.s.now a.at (get_or a.s.now a.at 0 % 32 * 64 + get_or a.s.now (a.at + 1) 0 % 64) 2
second c = search lead_two

third : (c : Then-a-le239) → let a = c.args in Spans a.s.now a.at ((get_or a.s.now a.at 0 % 16 * 64 + get_or a.s.now (a.at + 1) 0 % 64) * 64 + get_or a.s.now (a.at + 2) 0 % 64) 3
third c = search lead_three

fourth : (c : Else-a-le239) → let a = c.args in Spans a.s.now a.at (((get_or a.s.now a.at 0 % 8 * 64 + get_or a.s.now (a.at + 1) 0 % 64) * 64 + get_or a.s.now (a.at + 2) 0 % 64) * 64 + get_or a.s.now (a.at + 3) 0 % 64) 4
fourth c = search lead_four

pub bounds-s-at : goal.bounds-s-at
bounds-s-at c = search lead_within

pub returns-then-a-le127 : goal.returns-then-a-le127
returns-then-a-le127 c = rw c.from.ensures (first (goal.at.returns-then-a-le127 c).Then-a-le127).is

pub overflow_add-at : goal.overflow_add-at
overflow_add-at c = omega (arith, second (goal.at.overflow_add-at c).Then-a-le223)

pub bounds-s-at-then-a-le223 : goal.bounds-s-at-then-a-le223
bounds-s-at-then-a-le223 c = omega (arith, second (goal.at.bounds-s-at-then-a-le223 c).Then-a-le223)

pub returns-then-a-le223 : goal.returns-then-a-le223
returns-then-a-le223 c = rw (c.behind.ensures, c.from-then-a-le223.ensures) (second (goal.at.returns-then-a-le223 c).Then-a-le223).is

pub overflow_add-at-then-a-le239 : goal.overflow_add-at-then-a-le239
overflow_add-at-then-a-le239 c = omega (arith, third (goal.at.overflow_add-at-then-a-le239 c).Then-a-le239)

pub bounds-s-at-then-a-le239 : goal.bounds-s-at-then-a-le239
bounds-s-at-then-a-le239 c = omega (arith, third (goal.at.bounds-s-at-then-a-le239 c).Then-a-le239)

pub overflow_add-at-then-a-le239-2 : goal.overflow_add-at-then-a-le239-2
overflow_add-at-then-a-le239-2 c = omega (arith, third (goal.at.overflow_add-at-then-a-le239-2 c).Then-a-le239)

pub bounds-s-at-then-a-le239-2 : goal.bounds-s-at-then-a-le239-2
bounds-s-at-then-a-le239-2 c = omega (arith, third (goal.at.bounds-s-at-then-a-le239-2 c).Then-a-le239)

pub returns-then-a-le239 : goal.returns-then-a-le239
returns-then-a-le239 c =
    rw (c.behind-then-a-le239-2.ensures, c.behind-then-a-le239.ensures, c.from-then-a-le239.ensures)
    (third (goal.at.returns-then-a-le239 c).Then-a-le239).is

pub overflow_add-at-2 : goal.overflow_add-at-2
overflow_add-at-2 c = omega (arith, fourth (goal.at.overflow_add-at-2 c).Else-a-le239)

pub bounds-s-at-2 : goal.bounds-s-at-2
bounds-s-at-2 c = omega (arith, fourth (goal.at.bounds-s-at-2 c).Else-a-le239)

pub overflow_add-at-3 : goal.overflow_add-at-3
overflow_add-at-3 c = omega (arith, fourth (goal.at.overflow_add-at-3 c).Else-a-le239)

pub bounds-s-at-3 : goal.bounds-s-at-3
bounds-s-at-3 c = omega (arith, fourth (goal.at.bounds-s-at-3 c).Else-a-le239)

pub overflow_add-at-4 : goal.overflow_add-at-4
overflow_add-at-4 c = omega (arith, fourth (goal.at.overflow_add-at-4 c).Else-a-le239)

pub bounds-s-at-4 : goal.bounds-s-at-4
bounds-s-at-4 c = omega (arith, fourth (goal.at.bounds-s-at-4 c).Else-a-le239)

pub returns : goal.returns
returns c = rw (c.behind-4.ensures, c.behind-3.ensures, c.behind-2.ensures, c.from-2.ensures) (fourth (goal.at.returns c).Else-a-le239).is
