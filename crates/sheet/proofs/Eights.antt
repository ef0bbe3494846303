-- What holds of each of the eight buffers holds of every one, and back. Assumes nothing.
use mathlib.Core.Path.{◌≡◌, refl}
use mathlib.Core.Bool.{Bool, true, and-eq-true_iff}
use Rattle.sheet.specs.Eight.{Which, the_text, the_types, the_boundaries, the_char_pos, the_byte_pos, the_cell_starts, the_cell_lengths, the_tag_bytes, Eight, pick, by, each, pairwise, all, Every}
use Rattle.sheet.specs.Layout.{Buffers, Same}

-- in the order of the buffers, and by a rule
pub in_order : {P : Which → Type 0} → P the_text → P the_types → P the_boundaries → P the_char_pos → P the_byte_pos → P the_cell_starts → P the_cell_lengths → P the_tag_bytes → Every P
in_order t y m c b w e g = record {
  text_is = t;
  types_is = y;
  boundaries_is = m;
  char_pos_is = c;
  byte_pos_is = b;
  cell_starts_is = w;
  cell_lengths_is = e;
  tag_bytes_is = g;
}

pub every : {P : Which → Type 0} → ((i : Which) → P i) → Every P
every f = in_order (f the_text) (f the_types) (f the_boundaries) (f the_char_pos) (f the_byte_pos) (f the_cell_starts) (f the_cell_lengths) (f the_tag_bytes)

pub one : {P : Which → Type 0} → Every P → (i : Which) → P i
one h the_text = h.text_is
one h the_types = h.types_is
one h the_boundaries = h.boundaries_is
one h the_char_pos = h.char_pos_is
one h the_byte_pos = h.byte_pos_is
one h the_cell_starts = h.cell_starts_is
one h the_cell_lengths = h.cell_lengths_is
one h the_tag_bytes = h.tag_bytes_is

-- what a rule gives for a buffer
pick_by : {A : Type 0} (f : Which → A) (i : Which) → pick (by f) i ≡ f i
pick_by f the_text = refl
pick_by f the_types = refl
pick_by f the_boundaries = refl
pick_by f the_char_pos = refl
pick_by f the_byte_pos = refl
pick_by f the_cell_starts = refl
pick_by f the_cell_lengths = refl
pick_by f the_tag_bytes = refl

pub pick_each : {A B : Type 0} (f : A → B) (a : Eight A) (i : Which) → pick (each f a) i ≡ f (pick a i)
pick_each f a = pick_by (λ i. f (pick a i))

pub pick_pairwise : {A B C : Type 0} (f : A → B → C) (a : Eight A) (b : Eight B) (i : Which) → pick (pairwise f a b) i ≡ f (pick a i) (pick b i)
pick_pairwise f a b = pick_by (λ i. f (pick a i) (pick b i))

-- a test of every buffer
pub all_true : (t : Which → Bool) → Every (λ (i : Which). t i ≡ true) → all t ≡ true
unfolding all
all_true t h = rw (h.text_is, h.types_is, h.boundaries_is, h.char_pos_is, h.byte_pos_is, h.cell_starts_is, h.cell_lengths_is, h.tag_bytes_is)

pub true_all : (t : Which → Bool) → all t ≡ true → Every (λ (i : Which). t i ≡ true)
unfolding all
true_all t h = let (((((((a, b), c), d), e), f), g), i) = simp and-eq-true_iff at h in in_order a b c d e f g i

-- ---- buffers that are the same
pub same_self : (d : Buffers) → Same d d
same_self d = every (λ i. refl)

pub same_is : {b e : Buffers} → Same b e → e ≡ b
same_is h = λ j. by (λ i. one h i j)
