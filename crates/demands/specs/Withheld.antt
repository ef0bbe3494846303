-- The withheld copy over the public functions: what its line tells, and that nothing of what is hidden shows in a line, an output or a refusal.
use Rattle.std.specs.Prelude.{ℕ, ◌+◌, ◌≤◌, ◌<◌, ◌≡◌, ◌↔◌, ◌⊎◌, true, List, [], length, get_or}
use Rattle.utf8.specs.Utf8.{encodes}
use Rattle.sentence.specs.Sentence.{none, unknown, Sentence, text, marks, count, Formed}
use Rattle.sentence.specs.declared.Form.TheVariants.{Raw as raw, Partial as partial}
use Rattle.sentence.specs.Reading.{sentence, read}
use Rattle.sentence.specs.Writing.{written}
use Rattle.sentence.specs.Withheld.{in_range, trimmed, withheld, tag_in, Outside, Copy}
use Rattle.sheet.specs.declared.Record.{Record}
use Rattle.sheet.specs.Layout.{Buffers, Holds, spell, Sheet}
use Rattle.write.specs.Answers.{Withholds}
use Rattle.demands.specs.Calls.{Contract, Gives, TwoCalls, Alike, Laid}

-- withholding the characters from b up to e
abbrev pub Withholding : ℕ → ℕ → Contract
Withholding b e r d out a out' = Withholds r d b e out a out'

-- of the record r and the buffers d puts w at the front of an output
abbrev pub Copied : Record → Buffers → ℕ → ℕ → List ℕ → Type 0
Copied r d b e w = Gives (Withholding b e) r d w

-- t is the sentence s with the characters from b up to e withheld, said by their numbers
pub record InNumbers (b e : ℕ) (s t : Sentence) : Type 0 where
  -- boundary i stands between the characters i and i + 1: it is unknown where one of them is of the range, else as it was
  pub unknowns : (i k : ℕ) → i + 1 < count s → (k ≡ i) ⊎ (k ≡ i + 1) → b ≤ k → k < e → get_or (marks t) i none ≡ unknown
  pub boundaries : (i : ℕ) → (i < b) ⊎ (e ≤ i) → (i + 1 < b) ⊎ (e ≤ i + 1) → get_or (marks t) i none ≡ get_or (marks s) i none
  -- the tags of character i are absent where it is of the range, else as they were
  pub absents : (i j : ℕ) → b ≤ i → i < e → tag_in t i j ≡ []
  pub tags : (i j : ℕ) → (i < b) ⊎ (e ≤ i) → tag_in t i j ≡ tag_in s i j

-- every character of the range b..e is one of c..f
abbrev pub Within : ℕ → ℕ → ℕ → ℕ → Type 0
Within b e c f = (i : ℕ) → in_range b e i ≡ true → in_range c f i ≡ true

pub record WithheldCopy : Type 0 where
  -- there are such lines: given room, every range of every sheet is served
  pub served : (r : Record) (d : Buffers) (b e : ℕ) → Sheet r d → b ≤ e → e ≤ count (spell r d) → Copied r d b e (written partial (withheld b e (spell r d)))
  -- the line is that of the sentence withheld
  pub line_is : (r : Record) (d : Buffers) (b e : ℕ) (w : List ℕ) → Copied r d b e w → w ≡ written partial (withheld b e (spell r d))
  -- which is a copy as asked, by its boundaries, its tags and its columns
  pub is_copy : (r : Record) (d : Buffers) (b e : ℕ) → Sheet r d → Copy b e (spell r d) (withheld b e (spell r d))
  -- the same, by the numbers of the characters
  pub in_numbers : (r : Record) (d : Buffers) (b e : ℕ) → Sheet r d → InNumbers b e (spell r d) (withheld b e (spell r d))
  -- there is no other such sentence
  pub only_copy : (r : Record) (d : Buffers) (b e : ℕ) (t : Sentence) → Sheet r d → Formed t → Copy b e (spell r d) t → t ≡ withheld b e (spell r d)
  -- two sheets give the same line exactly when they agree outside the range
  pub same_line : (r q : Record) (d c : Buffers) (b e : ℕ) (u v : List ℕ) → Copied r d b e u → Copied q c b e v → (u ≡ v) ↔ Outside b e (spell r d) (spell q c)
  -- then they give, with equal room, the same answer, a refusal as well, and with equal outputs the same output
  pub alike : (r q : Record) (d c : Buffers) (b e : ℕ) (t : TwoCalls (Withholding b e) r q d c) → Outside b e (spell r d) (spell q c) → Alike t
  -- a line of at most 4,096 bytes reads back to the sentence withheld
  pub reads_back : (r : Record) (d : Buffers) (b e : ℕ) (w : List ℕ) → Copied r d b e w → length w ≤ 4096 → read partial w ≡ sentence (withheld b e (spell r d))
  -- the partial reader can read it, given room
  pub readable : (r : Record) (d : Buffers) (b e : ℕ) (w : List ℕ) → Copied r d b e w → length w ≤ 4096 → (q : Record) × (c : Buffers) × Laid partial w q c
  -- and lays that sentence down
  pub laid_back : (r q : Record) (d c : Buffers) (b e : ℕ) (w : List ℕ) → Copied r d b e w → length w ≤ 4096 → Laid partial w q c
      → Holds q c (withheld b e (spell r d))
  -- withholding a range, or a wider one, from what was read back is as withholding it from the first sheet
  pub again : (r q : Record) (d c : Buffers) (b e g h : ℕ) (w : List ℕ) → Copied r d b e w → length w ≤ 4096 → Laid partial w q c → Within b e g h
      → (t : TwoCalls (Withholding g h) r q d c) → Alike t
  -- with all characters withheld two sheets give the same line exactly when they have the same text
  pub all_same : (r q : Record) (d c : Buffers) (u v : List ℕ) → Copied r d 0 (count (spell r d)) u → Copied q c 0 (count (spell q c)) v
      → (u ≡ v) ↔ (text (spell r d) ≡ text (spell q c))
  -- and that line reads as the raw reader reads the text
  pub all_raw : (r : Record) (d : Buffers) (w : List ℕ) → Copied r d 0 (count (spell r d)) w → length w ≤ 4096
      → read partial w ≡ read raw (encodes (text (spell r d)))
  -- an empty range withholds nothing: only columns without a present tag are left out
  pub none_withheld : (r : Record) (d : Buffers) (b : ℕ) (w : List ℕ) → Copied r d b b w → w ≡ written partial (trimmed (spell r d))
