-- The code's state as a state of the definitions' reader, and what a step and the line's end give as the code's enums.
use Rattle.std.specs.Prelude.{ℕ, Bool, true, false, Result, Ok, Err}
use Rattle.laws.specs.If.{when◌then◌else◌}
use Rattle.sentence.specs.Sentence as sentence
use Rattle.sentence.specs.Reading as reading
use Rattle.sentence.specs.Refusals.{reason_of}
use Rattle.sentence.specs.declared.Reason.{Reason}
use Rattle.sentence.specs.declared.Form.{Form}
use Rattle.sentence.specs.declared.Form.TheVariants.{Raw, Tokenized, Partial}
use Rattle.read_state.specs.declared.Mark.{Mark}
use Rattle.read_state.specs.declared.Mark.TheVariants.{None, Word, Unknown}
use Rattle.read_state.specs.declared.Kind as kinds
use Rattle.read_state.specs.declared.Kind.{Kind}
use Rattle.read_state.specs.declared.Kind.TheVariants.{Slash, Back, Plain}
use Rattle.read_state.specs.declared.Act.{Act}
use Rattle.read_state.specs.declared.Act.TheVariants.{Skip, Letter, Opens, OfTag}
use Rattle.read_state.specs.declared.Place.{Place}
use Rattle.read_state.specs.declared.Place.TheVariants.{Start, Behind, InTag, Gap}
use Rattle.read_state.specs.declared.State.{State}
use Rattle.read_state.specs.declared.Stepped.{Stepped}

abbrev pub mark_of : Mark → sentence.Mark
mark_of None = sentence.none
mark_of Word = sentence.word
mark_of Unknown = sentence.unknown

abbrev pub mark_in : sentence.Mark → Mark
mark_in sentence.none = None
mark_in sentence.word = Word
mark_in sentence.unknown = Unknown

abbrev pub kind_in : reading.Kind → Kind
kind_in (reading.mark m) = kinds.TheVariants.Mark (mark_in m)
kind_in reading.slash = Slash
kind_in reading.back = Back
kind_in reading.plain = Plain

abbrev pub kind_of : Kind → reading.Kind
kind_of (kinds.TheVariants.Mark m) = reading.mark (mark_of m)
kind_of Slash = reading.slash
kind_of Back = reading.back
kind_of Plain = reading.plain

abbrev pub place_of : Place → reading.Place
place_of Start = reading.start
place_of Behind = reading.behind
place_of InTag = reading.in_tag
place_of (Gap m) = reading.gap (mark_of m)

abbrev pub place_in : reading.Place → Place
place_in reading.start = Start
place_in reading.behind = Behind
place_in reading.in_tag = InTag
place_in (reading.gap m) = Gap (mark_in m)

unfoldable pub state_of : State → reading.State
state_of s = when s.escape then reading.escaped (place_of s.place) else reading.at (place_of s.place)

abbrev pub state_in : reading.State → State
state_in (reading.at p) = record { escape = false; place = place_in p }
state_in (reading.escaped p) = record { escape = true; place = place_in p }

abbrev pub act_in : reading.Act → Act
act_in reading.skip = Skip
act_in (reading.letter m c) = Letter (mark_in m)
act_in reading.opens = Opens
act_in (reading.of_tag c) = OfTag

-- what the character c does
abbrev pub act_of : ℕ → Act → reading.Act
act_of c Skip = reading.skip
act_of c (Letter m) = reading.letter (mark_of m) c
act_of c Opens = reading.opens
act_of c OfTag = reading.of_tag c

-- a refusal, as a step hands it back: beside the reason stands the state before any text
abbrev pub refuses : Reason → Stepped
refuses q = record { state = state_in (reading.at reading.start); act = Err q }

-- a step, as the code hands it back: the next state and what the character does, or why it is refused
abbrev pub stepped : reading.Step → Stepped
stepped (reading.go σ a) = record { state = state_in σ; act = Ok (act_in a) }
stepped (reading.stop e) = refuses (reason_of e)

-- the line's end: it is whole, or why it is refused
abbrev pub ended : reading.Run → Result (Unit {0}) Reason
ended (reading.whole l) = Ok tt
ended (reading.stopped e left) = Err (reason_of e)

-- a character is awaited: before any text, or behind a boundary
abbrev pub awaits : reading.Place → Bool
awaits reading.start = true
awaits (reading.gap m) = true
awaits reading.behind = false
awaits reading.in_tag = false

-- a form other than the tokenized one takes the awaited character literally
abbrev pub literal : Form → reading.Place → Bool
literal Raw p = awaits p
literal Tokenized p = false
literal Partial p = awaits p
