-- Demand 3 over the public functions: what a line becomes that is read by one of them and written by another, and what a sheet becomes that is written.
use Rattle.std.specs.Prelude.{ℕ, ◌+◌, ◌-◌, ◌*◌, ◌≤◌, ◌<◌, ◌≡◌, ◌↔◌, true, List, ◌++◌, ℤ, length, take, drop, Ok}
use Rattle.laws.specs.Put.{over}
use Rattle.sentence.specs.Sentence.{Sentence, count, Agree, NoUnknown, NoneInside}
use Rattle.sentence.specs.declared.Form.{Form}
use Rattle.sentence.specs.declared.Form.TheVariants.{Tokenized as tokenized, Partial as partial}
use Rattle.sentence.specs.Forms.{form_of}
use Rattle.sentence.specs.Reading.{Annotated, sentence, read}
use Rattle.sentence.specs.Writing.{written, set_boundary_of, reset_tags_of, scored}
use Rattle.sheet.specs.declared.Record.{Record}
use Rattle.sheet.specs.Answers.{Answer}
use Rattle.sheet.specs.Layout.{Buffers, record_of, room_for, Holds, mark_of}
use Rattle.changes.specs.Changes.{BoundarySet, TagsReset}
use Rattle.scores.specs.Scores.{Predicted}
use Rattle.read_load.specs.Load.{ReadDoes}
use Rattle.write.specs.Answers.{Written}
use Rattle.sheet.specs.Answers.{Number}
use Rattle.convert_buffers.specs.Between.{Converts}
use Rattle.convert.specs.Convert.{conversion}
use Rattle.demands.specs.Calls.{Gives}

-- writing the record r and the buffers d in the form g puts w at the front of an output, by the writers' contract
abbrev pub Spelt : Form → Record → Buffers → List ℕ → Type 0
Spelt g r d w = Gives (Written g) r d w

-- reading the line x in the form f leaves a sentence in the buffers, by the readers' contract; writing it in the form g puts w
pub record Respelt (f g : Form) (x w : List ℕ) : Type 0 where
  pub buffers_before : Buffers
  pub buffers_after : Buffers
  pub the_record : Record
  pub reads : ReadDoes (read f x) buffers_before (Ok the_record) buffers_after
  pub spelt : Spelt g the_record buffers_after w

-- a call that changes a sheet, by its contract: r and d before it, q and e after it; t is the sentence s with that change
pub data Changed (r : Record) (d : Buffers) (s : Sentence) (q : Record) (e : Buffers) (t : Sentence) : Type 0 where
  boundary_set : (i v : ℕ) → BoundarySet r d i v (Ok q) e → t ≡ set_boundary_of i (mark_of v) s → Changed r d s q e t
  tags_reset : (c : ℕ) → TagsReset r d c (Ok q) e → t ≡ reset_tags_of c s → Changed r d s q e t
  predicted : (zs : List ℤ) → Predicted r d zs (Ok q) e → t ≡ scored zs s → Changed r d s q e t

-- no unknown boundary, and no present tag inside a token
abbrev pub Tokenwise : Sentence → Type 0
Tokenwise s = NoUnknown s × NoneInside s.cells

pub record Demand3 : Type 0 where
  -- two lines that one annotated form accepts, written back in that form, are equal bytes exactly when the sentences agree
  pub canonical : (f : Form) → Annotated f → (x y u v : List ℕ) (s t : Sentence) → read f x ≡ sentence s → read f y ≡ sentence t
      → Respelt f f x u → Respelt f f y v → (u ≡ v) ↔ Agree s t
  -- a written line of at most 4,096 bytes reads back to the same sentence
  pub reads_back : (f : Form) → Annotated f → (x u : List ℕ) → Respelt f f x u → length u ≤ 4096 → read f u ≡ read f x
  -- read into buffers with room for its cells, which are N times columns, it leaves that sentence
  pub back_leaves : (f : Form) → Annotated f → (x u : List ℕ) (s : Sentence) (d e : Buffers) (a : Answer) → read f x ≡ sentence s → Respelt f f x u
      → length u ≤ 4096 → room_for (record_of s) d ≡ true → ReadDoes (read f u) d a e → (a ≡ Ok (record_of s)) × Holds (record_of s) e s
  -- and writes to itself
  pub writes_itself : (f : Form) → Annotated f → (x u w : List ℕ) → Respelt f f x u → length u ≤ 4096 → Respelt f f u w → w ≡ u
  -- so do lines of any two forms, written in the partial form
  pub partial_canonical : (f g : Form) (x y u v : List ℕ) (s t : Sentence) → read f x ≡ sentence s → read g y ≡ sentence t
      → Respelt f partial x u → Respelt g partial y v → (u ≡ v) ↔ Agree s t
  pub partial_reads_back : (f : Form) (x u : List ℕ) → Respelt f partial x u → length u ≤ 4096 → read partial u ≡ read f x
  pub partial_writes_itself : (f : Form) (x u w : List ℕ) → Respelt f partial x u → length u ≤ 4096 → Respelt partial partial u w → w ≡ u
  -- the sentence of a line of any form survives the trip through the tokenized form exactly when it has no unknown boundary
  -- and no present tag inside a token; then its line writes to itself
  pub survives : (f : Form) (x u : List ℕ) (s : Sentence) → read f x ≡ sentence s → Respelt f tokenized x u → length u ≤ 4096
      → (read tokenized u ≡ sentence s) ↔ Tokenwise s
  pub tokenized_writes_itself : (f : Form) (x u w : List ℕ) (s : Sentence) → read f x ≡ sentence s → Tokenwise s
      → Respelt f tokenized x u → length u ≤ 4096 → Respelt tokenized tokenized u w → w ≡ u
  -- a line that is written twice in one form is written the same
  pub writes_once : (f g : Form) (x u w : List ℕ) → Respelt f g x u → Respelt f g x w → w ≡ u
  -- and the conversion puts that same line behind its place
  pub converts : (reader writer : ℕ) (x u out out' : List ℕ) (at end : ℕ) → Respelt (form_of reader) (form_of writer) x u
      → Converts (λ (c : Number). c) (conversion reader writer x (length out) at) at out (Ok end) out'
      → (end ≡ at + length u) × (out' ≡ take at out ++ over u (drop at out))
  -- of any sheet, however it was made, the same holds
  pub sheet_canonical : (r q : Record) (d e : Buffers) (s t : Sentence) (u v : List ℕ) → Holds r d s → Holds q e t
      → Spelt partial r d u → Spelt partial q e v → (u ≡ v) ↔ Agree s t
  pub sheet_reads_back : (r : Record) (d : Buffers) (s : Sentence) (u : List ℕ) → Holds r d s → Spelt partial r d u → length u ≤ 4096
      → read partial u ≡ sentence s
  pub sheet_back_leaves : (r : Record) (d c e : Buffers) (s : Sentence) (u : List ℕ) (a : Answer) → Holds r d s → Spelt partial r d u → length u ≤ 4096
      → room_for (record_of s) c ≡ true → ReadDoes (read partial u) c a e → (a ≡ Ok (record_of s)) × Holds (record_of s) e s
  pub sheet_survives : (r : Record) (d : Buffers) (s : Sentence) (u : List ℕ) → Holds r d s → Spelt tokenized r d u → length u ≤ 4096
      → (read tokenized u ≡ sentence s) ↔ Tokenwise s
  pub sheet_told_apart : (r q : Record) (d e : Buffers) (s t : Sentence) (u v : List ℕ) → Holds r d s → Holds q e t → Tokenwise s → Tokenwise t
      → Spelt tokenized r d u → Spelt tokenized q e v → length u ≤ 4096 → (u ≡ v) ↔ Agree s t
  -- so of a sheet whose boundary was set, whose tags were reset, or whose boundaries were decided: it holds the changed sentence
  pub changed_holds : (r q : Record) (d e : Buffers) (s t : Sentence) → Holds r d s → Changed r d s q e t → Holds q e t
  pub changed_reads_back : (r q : Record) (d e : Buffers) (s t : Sentence) (u : List ℕ) → Holds r d s → Changed r d s q e t
      → Spelt partial q e u → length u ≤ 4096 → read partial u ≡ sentence t
  pub changed_survives : (r q : Record) (d e : Buffers) (s t : Sentence) (u : List ℕ) → Holds r d s → Changed r d s q e t
      → Spelt tokenized q e u → length u ≤ 4096 → (read tokenized u ≡ sentence t) ↔ Tokenwise t
  -- there are such changes: of every sheet, by numbers in range, and with room for the cells
  pub boundaries_set : (r : Record) (d : Buffers) (s : Sentence) (i v : ℕ) → Holds r d s → i < count s - 1 → v ≤ 2
      → (q : Record) × (e : Buffers) × Changed r d s q e (set_boundary_of i (mark_of v) s)
  pub columns_set : (r : Record) (d : Buffers) (s : Sentence) (c : ℕ) → Holds r d s → c ≤ 4096
      → count s * c ≤ length d.cell_starts_buf → count s * c ≤ length d.cell_lengths_buf
      → (q : Record) × (e : Buffers) × Changed r d s q e (reset_tags_of c s)
  pub boundaries_decided : (r : Record) (d : Buffers) (s : Sentence) (zs : List ℤ) → Holds r d s → length zs ≡ count s - 1
      → (q : Record) × (e : Buffers) × Changed r d s q e (scored zs s)
  -- there are such trips: given room, every sheet is written, and every accepted line is read and written, as its written line
  pub sheets_spelt : (g : Form) → Annotated g → (r : Record) (d : Buffers) (s : Sentence) → Holds r d s → Spelt g r d (written g s)
  pub lines_respelt : (f g : Form) → Annotated g → (x : List ℕ) (s : Sentence) → read f x ≡ sentence s → Respelt f g x (written g s)
