-- A written line that is not empty is accepted, also where tokens were skipped, and does not end behind a lone backslash. Assumes nothing.
use Prim.Native.Nat.{ℕ, ◌+◌, ◌-◌, ◌≤◌, ◌<◌, max}
use mathlib.Core.Path.{◌≡◌, refl, sym, ap, ◌∙◌}
use mathlib.Core.Bool.{false}
use mathlib.Core.List.{List, [], ◌∷◌, ◌++◌, map, append_assoc, append-nil}
use native.Mathlib.Omega.{arith}
use lib.ListN.{length, drop, get_or, length-take, length-drop}
use Rattle.laws.specs.All.{All, All-append, All-take, All-drop}
use Rattle.utf8.specs.Utf8.{scalar, encodes}
use Rattle.utf8.proofs.Codec.{scalars_encodes}
use Rattle.sentence.specs.Sentence.{Tag, Mark, none, word, Cells, Sentence, text, marks, rows, count, pad, Char, CellsOf}
use Rattle.sentence.specs.declared.Form.{Form}
use Rattle.sentence.specs.declared.Form.TheVariants.{Raw as raw, Tokenized as tokenized, Partial as partial}
use Rattle.sentence.specs.Reading.{Annotated, Place, at, Rest, over, next, parsed, before, add, sentence, read}
use Rattle.sentence.specs.Writing.{Token, token, tokens_from, surface, escape, write_tags, write_token, joined, line, written}
use Rattle.sentence.specs.Joined.{ends_lone}
use Rattle.sentence.proofs.Cells.{length_marks, text_chars, rows_are, row_at}
use Rattle.sentence.proofs.Runs.{got, adds, reads, Follows, follows_mark, follows_end, reads_tags}
use Rattle.sentence.proofs.Trips.{pad_shows, Takes, takes, takes_start, takes_behind, takes_gap, kind_space}
use Rattle.sentence.proofs.Demand3.{Scalars, escape_scalars, tags_scalars, partial_scalars, read_chars, read_written}
use Rattle.sentence.proofs.Tokens.{Ordered, tokens_ordered}
use Rattle.sentence.proofs.Lone.{line_lone}

-- what is read from a place with the boundary m before it, up to the line's end
abbrev Reads : Place → Mark → List ℕ → Type 0
Reads p m x = (n : ℕ) × (u : Cells) × (reads tokenized (at p) x ≡ got (parsed [] [] n (next m u)))

-- one token: its characters, its tags, and what is behind them
word_reads : {p : Place} {m : Mark} → Takes p m → (c : ℕ) (cs : List ℕ) (us : List Tag) (z : List ℕ) (k : ℕ) (r : Rest) → Char c → All Char cs → All (All Char) us
    → Follows tokenized z (parsed [] [] k r) → Reads p m (escape tokenized (c ∷ cs) ++ (write_tags tokenized us ++ z))
unfolding escape adds add
word_reads {m = m} o c [] us z k r h hs ts w =
    let e = (reads_tags tokenized tt us z ts w).from_char in
    (max (length us) k, before c us r, rw append_assoc (takes o c _ h.not_nul ∙ rw (rw append-nil at e)))
word_reads {m = m} o c (d ∷ cs) us z k r h hs ts w =
    let (n, u, e) = word_reads takes_behind d cs us z k r hs.0 hs.1 ts w in
    (max 0 n, before c [] (next none u), rw append_assoc (takes o c _ h.not_nul ∙ rw e))

ordered_within : (a n : ℕ) (ts : List Token) → Ordered a n ts → a ≤ n
ordered_within a n [] h = h
ordered_within a n (token b e ∷ ts) (x, y, v) = omega (arith, ordered_within e n ts v)

module _ (s : Sentence) (h : CellsOf s.columns s.cells) where
  surface_chars : (b e : ℕ) → All Char (surface s b e)
  surface_chars b e = All-take Char (e - b) (drop b (text s)) (All-drop Char b (text s) (text_chars s.columns s.cells h))

  tags_chars : (i : ℕ) → All (All Char) (pad s.columns (get_or (rows s) i []))
  tags_chars i = (pad_shows s.columns (get_or (rows s) i []) (row_at s.columns i (rows s) (rows_are s.columns s.cells h))).chars

  token_reads : {p : Place} {m : Mark} → Takes p m → (b e : ℕ) (z : List ℕ) (k : ℕ) (r : Rest) → b < e → e ≤ count s → Follows tokenized z (parsed [] [] k r)
      → Reads p m (write_token s (token b e) ++ z)
  unfolding write_token
  token_reads {p} {m} o b e z k r l g w = on (surface s b e) refl
    where
      on : (cs : List ℕ) → surface s b e ≡ cs → Reads p m ((escape tokenized (surface s b e) ++ write_tags tokenized (pad s.columns (get_or (rows s) (e - 1) []))) ++ z)
      on [] q = absurd (omega (arith, ap length q, length-take (e - b) (drop b (text s)), length-drop b (text s)))
      on (c ∷ cs) q = let a = rw q at (surface_chars b e) in rw (append_assoc, q) (word_reads o c cs _ z k r a.0 a.1 (tags_chars (e - 1)) w)

  tokens_read : {p : Place} {m : Mark} → Takes p m → (a : ℕ) (t : Token) (ts : List Token) → Ordered a (count s) (t ∷ ts) → Reads p m (joined (map (write_token s) (t ∷ ts)))
  unfolding joined
  tokens_read o a (token b e) [] (x, y, v) = rw append-nil at (token_reads o b e [] 0 over y v (follows_end tokenized))
  tokens_read o a (token b e) (t ∷ ts) (x, y, v) =
      let (n, u, q) = tokens_read (takes_gap word) e t ts v in
      token_reads o b e _ n (next word u) y (ordered_within e (count s) (t ∷ ts) v) (follows_mark tokenized tt word 32 _ kind_space refl q)

  token_scalars : (t : Token) → Scalars (write_token s t)
  unfolding write_token
  token_scalars (token b e) =
      All-append _ (escape tokenized (surface s b e)) _ (escape_scalars tokenized (surface s b e) (surface_chars b e))
      (tags_scalars tokenized (pad s.columns (get_or (rows s) (e - 1) [])) (tags_chars (e - 1)))

  tokens_scalars : (ts : List Token) → Scalars (joined (map (write_token s) ts))
  unfolding joined scalar
  tokens_scalars [] = tt
  tokens_scalars (t ∷ []) = token_scalars t
  tokens_scalars (t ∷ u ∷ ts) = All-append _ (write_token s t) _ (token_scalars t) (refl, tokens_scalars (u ∷ ts))

  -- a written line is of scalar values
  written_scalars : (f : Form) → Annotated f → Scalars (line f s)
  unfolding line
  written_scalars raw an = absurd an
  written_scalars tokenized an = tokens_scalars (tokens_from (marks s) 0)
  written_scalars partial an = partial_scalars s.columns s.cells h

  accepted_tokens : (written tokenized s ≡ [] → ⊥) → length (written tokenized s) ≤ 4096 → (u : Sentence) × (read tokenized (written tokenized s) ≡ sentence u)
  unfolding line encodes joined
  accepted_tokens some le = on (tokens_from (marks s) 0) refl (tokens_ordered (marks s))
    where
      on : (ts : List Token) → tokens_from (marks s) 0 ≡ ts → Ordered 0 (length (marks s) + 1) ts → (u : Sentence) × (read tokenized (written tokenized s) ≡ sentence u)
      on [] e o = absurd (some (rw e))
      on (t ∷ ts) e o =
          let n : length (marks s) + 1 ≡ count s = sym (length_marks s.cells) in
          let (k, u, q) = tokens_read takes_start 0 t ts (rw n at o) in
          (record { cells = u; columns = k }, read_chars tokenized (line tokenized s) k none u (tokens_scalars (tokens_from (marks s) 0)) le (rw e q))

  pub accepted : (f : Form) → Annotated f → (written f s ≡ [] → ⊥) → length (written f s) ≤ 4096 → (u : Sentence) × (read f (written f s) ≡ sentence u)
  accepted raw an some le = absurd an
  accepted tokenized an some le = accepted_tokens some le
  accepted partial an some le = (s, read_written partial s h tt le)

  pub written_lone : (f : Form) → Annotated f → ends_lone f (written f s) ≡ false
  written_lone f an = rw (scalars_encodes (line f s) (written_scalars f an)) (line_lone f an s)
