-- The note key over the public functions: what it is, and that two notes have equal keys exactly when they are the same note.
use Rattle.std.specs.Prelude.{ℕ, suc, ◌≤◌, ◌≡◌, ◌↔◌, List, [], length}
use Rattle.sentence.specs.Sentence.{Sentence, count}
use Rattle.sentence.specs.declared.Form.{Form}
use Rattle.sentence.specs.declared.Form.TheVariants.{Partial as partial}
use Rattle.sentence.specs.Reading.{sentence, read}
use Rattle.sentence.specs.Writing.{written}
use Rattle.sentence.specs.Withheld.{trimmed, tag_in, SameNote}
use Rattle.sheet.specs.declared.Record.{Record}
use Rattle.sheet.specs.Answers.{Number}
use Rattle.sheet.specs.Layout.{Buffers, spell, Sheet}
use Rattle.write.specs.Answers.{Withholds, Keyed}
use Rattle.demands.specs.Calls.{Gives, TwoCalls, Alike, Laid}
use Rattle.demands.specs.Demand3.{Spelt}

-- asking for the key of the record r and the buffers d puts k at the front of an output
abbrev pub HasKey : Record → Buffers → List ℕ → Type 0
HasKey r d k = Gives Keyed r d k

-- reading the line x in the form f, and then asking for the key of what is read, puts k
pub record LineKey (f : Form) (x k : List ℕ) : Type 0 where
  pub the_record : Record
  pub the_buffers : Buffers
  pub laid : Laid f x the_record the_buffers
  pub has_key : HasKey the_record the_buffers k

-- n columns end at the last one of s that has a present tag anywhere: none is present past it, and one is where it ends
pub record LastUsed (s : Sentence) (n : ℕ) : Type 0 where
  pub none_past : (i j : ℕ) → n ≤ j → tag_in s i j ≡ []
  pub one_last : (j : ℕ) → n ≡ suc j → (i : ℕ) × (tag_in s i j ≡ [] → ⊥)

pub record NoteKey : Type 0 where
  -- there are such keys: given room, every sheet has one, the partial line of its sentence with columns cut back
  pub served : (r : Record) (d : Buffers) → Sheet r d → HasKey r d (written partial (trimmed (spell r d)))
  pub key_is : (r : Record) (d : Buffers) (k : List ℕ) → HasKey r d k → k ≡ written partial (trimmed (spell r d))
  -- to the last column that has a present tag anywhere, or to none; nothing else is lost
  pub cut_back : (r : Record) (d : Buffers) → Sheet r d → LastUsed (spell r d) (trimmed (spell r d)).columns
  pub kept : (r : Record) (d : Buffers) → SameNote (spell r d) (trimmed (spell r d))
  -- two sheets have equal keys exactly when text, boundaries and present tags with their columns agree
  pub tells : (r q : Record) (d c : Buffers) (k l : List ℕ) → HasKey r d k → HasKey q c l → (k ≡ l) ↔ SameNote (spell r d) (spell q c)
  -- then they give, with equal room, the same answer, a refusal as well, and with equal outputs the same output
  pub alike : (r q : Record) (d c : Buffers) (t : TwoCalls Keyed r q d c) → SameNote (spell r d) (spell q c) → Alike t
  -- so of two lines of any forms: each that is accepted has a key, and the keys tell the notes apart
  pub lines_keyed : (f : Form) (x : List ℕ) (s : Sentence) → read f x ≡ sentence s → LineKey f x (written partial (trimmed s))
  pub lines_tell : (f g : Form) (x y k l : List ℕ) (s t : Sentence) → read f x ≡ sentence s → read g y ≡ sentence t
      → LineKey f x k → LineKey g y l → (k ≡ l) ↔ SameNote s t
  -- two sheets have equal partial lines exactly when they have equal keys and as many columns
  pub beside_lines : (r q : Record) (d c : Buffers) (u v k l : List ℕ) → Spelt partial r d u → Spelt partial q c v → HasKey r d k → HasKey q c l
      → (u ≡ v) ↔ ((k ≡ l) × (r.columns ≡ q.columns))
  -- it is the copy of an empty range, wherever that stands: the same answer, a refusal as well, and the same output
  pub is_copy : (r : Record) (d : Buffers) (b : ℕ) (out out' : List ℕ) (a : Number) → b ≤ count (spell r d)
      → Withholds r d b b out a out' ↔ Keyed r d out a out'
  -- a key of at most 4,096 bytes reads back to the sentence with columns cut back, and is its own key
  pub reads_back : (r : Record) (d : Buffers) (k : List ℕ) → HasKey r d k → length k ≤ 4096 → read partial k ≡ sentence (trimmed (spell r d))
  pub own_key : (r : Record) (d : Buffers) (k l : List ℕ) → HasKey r d k → length k ≤ 4096 → LineKey partial k l → l ≡ k
