-- The program between its calls of the system: what stands, how each call moves it, and what a run has read and written.
use Rattle.std.specs.Prelude.{ℕ, ◌+◌, ◌-◌, ◌≤◌, ◌<◌, ◌≡◌, Bool, true, false, not, ◌&&◌, ◌||◌, List, [], ◌++◌, eqb, leb, ltb, ℤ, pos, negsuc, length, take, drop}
use Rattle.std.specs.Prelude.{Option, None, Some, Result, Ok, Err}
use Rattle.std.specs.Int.Signed.{lt_z, le_z}
use Rattle.std.specs.IoError.{raw_os_error}
use Rattle.std.specs.declared.io.Error.{Error}
use Rattle.laws.specs.If.{when◌then◌else◌}
use Rattle.laws.specs.Put.{over}
use Rattle.respelling.specs.Puts.{Puts}
use Rattle.respelling.specs.Respell.{respell, whole}
use Rattle.respelling.specs.Stream.{Done, turn}
use Rattle.respelling.specs.declared.Stand.{Stand}
use Rattle.respelling.specs.declared.Call.{Call}
use Rattle.respelling.specs.declared.Call.TheVariants.{Moved, Again, Failed}

-- what stands: the bytes held, which were read and wait for their answer; the bytes due, which were answered and wait to be written; whether the
-- input has ended, whether nothing can be answered before more is read, and whether a call has failed
pub record State : Type 0 where
  pub held : List ℕ
  pub due : List ℕ
  pub ended : Bool
  pub waits : Bool
  pub failed : Bool

-- the bytes held: between two places of the input buffer
abbrev pub held_bytes : Stand → List ℕ → List ℕ
held_bytes s input = drop s.from (take s.to input)

-- they lie within it
abbrev pub HeldIn : Stand → List ℕ → Type 0
HeldIn s input = (s.from ≤ s.to) × (s.to ≤ length input)

-- the input buffer has room behind what is kept of a line that has not ended
abbrev pub TakesMore : List ℕ → Type 0
TakesMore input = 4099 < length input

-- what stands in the buffers between the places of a record
unfoldable pub state_of : Stand → List ℕ → List ℕ → State
state_of s input out = record {
  held = held_bytes s input;
  due = drop s.put (take s.wrote out);
  ended = s.last;
  waits = s.waits;
  failed = s.failed;
}

-- ---- how what stands moves
-- at first there is nothing
unfoldable pub begins : State
begins = record { held = []; due = []; ended = false; waits = true; failed = false }

-- all whole lines are answered; of one that has not ended 4,099 bytes are enough, since no more can change its answer
unfoldable pub answers : ℕ → State → State
answers room a =
    let d : Done = turn a.ended room a.held in
    record {
      held = when eqb d.used 0 then take 4099 a.held else drop d.used a.held;
      due = d.prints;
      ended = a.ended;
      waits = eqb d.used 0;
      failed = a.failed;
    }

-- bytes were read, or none, since the input has ended
unfoldable pub reads : List ℕ → State → State
reads p a = record { held = a.held ++ p; due = a.due; ended = a.ended || eqb (length p) 0; waits = false; failed = a.failed }

-- n bytes were written
unfoldable pub writes : ℕ → State → State
writes n a = record { held = a.held; due = drop n a.due; ended = a.ended; waits = a.waits; failed = a.failed }

-- a call has failed: nothing more is read, answered or written
unfoldable pub fails : State → State
fails a = record { held = a.held; due = a.due; ended = a.ended; waits = a.waits; failed = true }

-- ---- a run
-- something waits to be written
unfoldable pub is_due : State → Bool
is_due a = ltb 0 (length a.due)

-- a call of the system is to be made: to write what is due, or to read where nothing can be answered
unfoldable pub calls : State → Bool
calls a = is_due a || a.waits

-- a run goes on until a call has failed, or the input has ended and all is answered and written
unfoldable pub goes : State → Bool
goes a = not (a.failed || (a.ended && a.waits && not (is_due a)))

-- one move from what stands, with so much room for answers, which reads the bytes p and writes the bytes w; a call that was interrupted moves nothing
pub data Move (room : ℕ) : State → List ℕ → List ℕ → State → Type 0 where
  by_answer : {a : State} → calls a ≡ false → Move room a [] [] (answers room a)
  by_read : {a : State} (p : List ℕ) → is_due a ≡ false → a.waits ≡ true → a.ended ≡ false → Move room a p [] (reads p a)
  by_write : {a : State} (n : ℕ) → is_due a ≡ true → Move room a [] (take n a.due) (writes n a)
  by_nothing : {a : State} → calls a ≡ true → Move room a [] [] a
  by_failure : {a : State} → calls a ≡ true → Move room a [] [] (fails a)

-- a run: the bytes x that it has read, the bytes w that it has written, and what stands then
pub data Run (room : ℕ) : List ℕ → List ℕ → State → Type 0 where
  start : Run room [] [] begins
  moves : {x w p q : List ℕ} {a b : State} → Run room x w a → Move room a p q b → Run room (x ++ p) (w ++ q) b

-- ---- what the functions answer
-- the places lie within the buffers, and where more is to be read there is room for it
pub record Stands (s : Stand) (input out : List ℕ) : Type 0 where
  pub held_in : s.from ≤ s.to
  pub input_in : s.to ≤ length input
  pub due_in : s.put ≤ s.wrote
  pub output_in : s.wrote ≤ length out
  pub few : s.waits ≡ true → s.to ≤ s.from + 4099

-- the first record
unfoldable pub first : Stand
first = record { from = 0; to = 0; put = 0; wrote = 0; last = false; waits = true; failed = false }

-- where the bytes end that are held, after so many were answered: of a line that has not ended 4,099 are enough
unfoldable pub held_end : ℕ → ℕ → ℕ → ℕ
held_end from to used = when eqb used 0 then (when ltb 4099 (to - from) then from + 4099 else to) else to

-- what is answered of what is held, and the output after it
unfoldable pub answered_stand : Stand → Done → Stand
answered_stand s d = record {
  from = s.from + d.used;
  to = held_end s.from s.to d.used;
  put = 0;
  wrote = length d.prints;
  last = s.last;
  waits = eqb d.used 0;
  failed = s.failed;
}

pub record Answered (s : Stand) (d : Done) (out : List ℕ) (r : Stand) (out' : List ℕ) : Type 0 where
  pub answer_is : r ≡ answered_stand s d
  pub output_is : out' ≡ over d.prints out

-- what is held stands at the front of the input buffer, of which every other byte is as it was
pub record Kept (s : Stand) (input : List ℕ) (r : Stand) (input' : List ℕ) : Type 0 where
  pub end : ℕ
  pub answer_is : r ≡ record { from = 0; to = end; put = s.put; wrote = s.wrote; last = s.last; waits = s.waits; failed = s.failed }
  pub puts : Puts (held_bytes s input) input 0 end input'

-- the number of the error of a call that a signal interrupted
unfoldable pub interrupted : ℤ → Bool
interrupted (pos n) = eqb n 4
interrupted (negsuc n) = false

-- what a call came to: the bytes that it moved, or where it failed whether it is made again
unfoldable pub call_of : ℕ → Bool → Bool → Call
call_of n failed again = when failed then (when again then Again else Failed) else Moved n

-- what a read and a write say by the number that they answer, the bytes that count, and the number of their error; a write that takes nothing has failed
unfoldable pub read_told_by : ℤ → ℕ → ℤ → Call
read_told_by got n error = call_of n (lt_z got (pos 0)) (interrupted error)

unfoldable pub write_told_by : ℤ → ℕ → ℤ → Call
write_told_by got n error = call_of n (le_z got (pos 0)) (lt_z got (pos 0) && interrupted error)

-- what a call that failed is, by its error
unfoldable pub error_told : Option ℤ → Call
error_told None = Failed
error_told (Some z) = when interrupted z then Again else Failed

-- what a read and a write say by their answer; a write that takes nothing has failed
unfoldable pub read_told : Result ℕ Error → Call
read_told (Ok n) = Moved n
read_told (Err e) = error_told (raw_os_error e)

unfoldable pub write_told : Result ℕ Error → Call
write_told (Ok n) = when eqb n 0 then Failed else Moved n
write_told (Err e) = error_told (raw_os_error e)

-- the bytes that a call moved
abbrev pub moved : Call → ℕ
moved (Moved n) = n
moved Again = 0
moved Failed = 0

-- a call failed, and the run ends
abbrev pub after_failure : Stand → Stand
after_failure s = record { from = s.from; to = s.to; put = s.put; wrote = s.wrote; last = s.last; waits = s.waits; failed = true }

-- a read: bytes behind those that are held, or none, since the input has ended; it is made again, or it failed
unfoldable pub after_read : Stand → Call → Stand
after_read s (Moved n) = record { from = s.from; to = s.to + n; put = s.put; wrote = s.wrote; last = s.last || eqb n 0; waits = false; failed = s.failed }
after_read s Again = s
after_read s Failed = after_failure s

-- a write of some of the bytes that are due
unfoldable pub after_write : Stand → Call → Stand
after_write s (Moved n) = record { from = s.from; to = s.to; put = s.put + n; wrote = s.wrote; last = s.last; waits = s.waits; failed = s.failed }
after_write s Again = s
after_write s Failed = after_failure s

-- so many bytes moved into a buffer behind a place: no byte before it is altered
pub record Behind (at : ℕ) (d : List ℕ) (moved : ℕ) (d' : List ℕ) : Type 0 where
  pub front : take at d' ≡ take at d
  pub within : at + moved ≤ length d'

-- one read behind what is held, which is kept at the front of the buffer, where there is room
pub record ReadSome (s : Stand) (input : List ℕ) (r : Stand) (input' : List ℕ) : Type 0 where
  pub kept : Stand
  pub mid : List ℕ
  pub call : Call
  pub keeps : Kept s input kept mid
  pub room : kept.to < length input'
  pub behind : Behind kept.to mid (moved call) input'
  pub answer_is : r ≡ after_read kept call

-- one write of what is due
pub record WroteSome (s : Stand) (r : Stand) : Type 0 where
  pub call : Call
  pub within : s.put + moved call ≤ s.wrote
  pub answer_is : r ≡ after_write s call

-- whether the run goes on, by the record
unfoldable pub goes_on : Stand → Bool
goes_on s = not (s.failed || (s.last && s.waits && leb s.wrote s.put))

-- one move of the program in its buffers
pub record Went (s : Stand) (input out : List ℕ) (r : Stand) (input' out' : List ℕ) : Type 0 where
  pub got : List ℕ
  pub gave : List ℕ
  pub move : Move (length out) (state_of s input out) got gave (state_of r input' out')
  pub stands : Stands r input' out'

-- a run of the program in its buffers
pub record Ran (s : Stand) (input out : List ℕ) : Type 0 where
  pub got : List ℕ
  pub gave : List ℕ
  pub run : Run (length out) got gave (state_of s input out)
  pub stands : Stands s input out

-- the end of a run: where it is over and no call has failed, it has written the answers to all that it has read; where the end of the input was not seen,
-- what it has written begins the answers to the lines whose LF was read
pub record Ended (s : Stand) (input out : List ℕ) : Type 0 where
  pub ran : Ran s input out
  pub all : goes_on s ≡ false → s.failed ≡ false → ran.gave ≡ respell ran.got
  pub rest : List ℕ
  pub only : s.last ≡ false → respell (whole ran.got) ≡ ran.gave ++ rest
