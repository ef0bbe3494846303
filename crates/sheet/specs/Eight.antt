-- Eight things, one for each lent buffer: what is said of every buffer is said once.
use Rattle.std.specs.Prelude.{Bool, ◌&&◌}

-- the eight buffers by name
pub data Which : Type 0 where
  the_text : Which
  the_types : Which
  the_boundaries : Which
  the_char_pos : Which
  the_byte_pos : Which
  the_cell_starts : Which
  the_cell_lengths : Which
  the_tag_bytes : Which

-- one thing for each
pub record Eight (A : Type 0) : Type 0 where
  pub text_buf : A
  pub types_buf : A
  pub boundaries_buf : A
  pub char_pos_buf : A
  pub byte_pos_buf : A
  pub cell_starts_buf : A
  pub cell_lengths_buf : A
  pub tag_bytes_buf : A

-- that of one buffer
abbrev pub pick : {A : Type 0} → Eight A → Which → A
pick a the_text = a.text_buf
pick a the_types = a.types_buf
pick a the_boundaries = a.boundaries_buf
pick a the_char_pos = a.char_pos_buf
pick a the_byte_pos = a.byte_pos_buf
pick a the_cell_starts = a.cell_starts_buf
pick a the_cell_lengths = a.cell_lengths_buf
pick a the_tag_bytes = a.tag_bytes_buf

-- eight things, in the order of the buffers
abbrev pub eight : {A : Type 0} → A → A → A → A → A → A → A → A → Eight A
eight t y m c b w e g = record {
  text_buf = t;
  types_buf = y;
  boundaries_buf = m;
  char_pos_buf = c;
  byte_pos_buf = b;
  cell_starts_buf = w;
  cell_lengths_buf = e;
  tag_bytes_buf = g;
}

-- eight things by a rule
abbrev pub by : {A : Type 0} → (Which → A) → Eight A
by f = eight (f the_text) (f the_types) (f the_boundaries) (f the_char_pos) (f the_byte_pos) (f the_cell_starts) (f the_cell_lengths) (f the_tag_bytes)

-- a function of each, and a function of each two
abbrev pub each : {A B : Type 0} → (A → B) → Eight A → Eight B
each f a = by (λ i. f (pick a i))

abbrev pub pairwise : {A B C : Type 0} → (A → B → C) → Eight A → Eight B → Eight C
pairwise f a b = by (λ i. f (pick a i) (pick b i))

-- a test is true of every buffer
unfoldable pub all : (Which → Bool) → Bool
all t = t the_text && t the_types && t the_boundaries && t the_char_pos && t the_byte_pos && t the_cell_starts && t the_cell_lengths && t the_tag_bytes

-- something holds of every buffer
pub record Every (P : Which → Type 0) : Type 0 where
  pub text_is : P the_text
  pub types_is : P the_types
  pub boundaries_is : P the_boundaries
  pub char_pos_is : P the_char_pos
  pub byte_pos_is : P the_byte_pos
  pub cell_starts_is : P the_cell_starts
  pub cell_lengths_is : P the_cell_lengths
  pub tag_bytes_is : P the_tag_bytes

-- a relation holds of each two
abbrev pub Each : {A B : Type 0} → (A → B → Type 0) → Eight A → Eight B → Type 0
Each R a b = Every (λ i. R (pick a i) (pick b i))
