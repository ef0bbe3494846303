-- A backslash at a line's end that escapes nothing: what it is, and that no writer leaves one. Assumes nothing.
use Prim.Native.Nat.{ℕ, ◌-◌, ◌≤◌}
use mathlib.Core.Path.{◌≡◌, refl, sym, ap, ◌∙◌}
use mathlib.Core.Bool.{Bool, true, false, false≢true}
use mathlib.Core.List.{List, [], ◌∷◌, ◌++◌, map, append_assoc, append-nil}
use native.Mathlib.Omega.{arith}
use borrow.Author.Tests.{eqb-true}
use lib.Dec.{eqb}
use lib.ListN.{length, get_or, length-append}
use lib.Seq.{take-append_seam, get_or-append_seam}
use Rattle.laws.specs.If.{when◌then◌else◌}
use Rattle.laws.specs.All.{All, All-take}
use Rattle.laws.proofs.Facts.{untrue}
use Rattle.utf8.specs.Utf8.{scalars, encode, encodes}
use Rattle.utf8.proofs.Codec.{encodes_append, scalars_encodes, all_scalar, encodes_scalars}
use Rattle.sentence.specs.Sentence.{Tag, Mark, none, word, Cells, final, cell, Sentence, marks, pad}
use Rattle.sentence.specs.declared.Form.{Form}
use Rattle.sentence.specs.declared.Form.TheVariants.{Raw as raw, Tokenized as tokenized, Partial as partial}
use Rattle.sentence.specs.Reading.{Annotated, Kind, mark, slash, back, plain, kinds, look, kind, Place, start, behind, in_tag, gap, State, at, escaped, Act, skip, Step, go, stop, ordinary, inside, opening, step, advance, finish, run, sentence, read}
use Rattle.sentence.specs.Writing.{Token, token, tokens_from, surface, escape_as, escape, write_tags, write_token, joined, sign, shown, write_partial, line}
use Rattle.sentence.specs.Joined.{awaits, onward, lone, ends_lone}
use Rattle.sentence.proofs.Runs.{reads, adds, adds_skip, kind_back, kind_slash}
use Rattle.sentence.proofs.Trips.{kind_sign, Literal, literal_gap, literal_start, kind_space}
use Rattle.sentence.proofs.Shape.{Shown, a_letter, of_tag_lem, a_mark, a_tag, a_back, a_stop, step_shown}
use Rattle.sentence.proofs.Demand3.{Scalars, read_chars}
use Rattle.sentence.proofs.Joined.{goes_reads, found}

-- ---- only a backslash is one
abbrev Backs : ℕ × Kind → Type 0
Backs e = e.1 ≡ back → e.0 ≡ 92

mark_backs : (c : ℕ) (m : Mark) → Backs (c, mark m)
mark_backs c m e = absurd (let z : ◌≡◌ {A = ℕ} 0 1 = cc in omega arith)

slash_backs : (c : ℕ) → Backs (c, slash)
slash_backs c e = absurd (let z : ◌≡◌ {A = ℕ} 0 1 = cc in omega arith)

back_entry : (es : List (ℕ × Kind)) (c : ℕ) → All Backs es → look es c ≡ back → c ≡ 92
unfolding look when◌then◌else◌
back_entry [] c a h = absurd (let z : ◌≡◌ {A = ℕ} 0 1 = cc in omega arith)
back_entry (e ∷ es) c a h = on (eqb c e.0) refl h (back_entry es c a.1)
  where
    on : (b : Bool) → eqb c e.0 ≡ b → (when b then e.1 else look es c) ≡ back → (look es c ≡ back → c ≡ 92) → c ≡ 92
    on true q i more = eqb-true c e.0 q ∙ a.0 i
    on false q i more = more i

back_is : (f : Form) (c : ℕ) → kind f c ≡ back → c ≡ 92
unfolding kind kinds
back_is raw c h = back_entry (kinds raw) c tt h
back_is tokenized c h = back_entry (kinds tokenized) c (mark_backs _ _, (slash_backs _, (λ e. refl, tt))) h
back_is partial c h = back_entry (kinds partial) c (mark_backs _ _, (mark_backs _ _, (mark_backs _ _, (slash_backs _, (λ e. refl, tt))))) h

-- ---- a step awaits a character only from a backslash, which does nothing else
abbrev Awaits : State → Kind → Step → Type 0
Awaits σ k (go (at p) a) = Unit {0}
Awaits σ k (go (escaped p) a) = (k ≡ back) × (σ ≡ at p) × (a ≡ skip)
Awaits σ k (stop e) = Unit {0}

step_awaits : (f : Form) (σ : State) (k : Kind) (c : ℕ) → Awaits σ k (step f σ k c)
step_awaits f σ k c = on (step f σ k c) (step_shown f σ k c)
  where
    on : (s : Step) → Shown σ k c s → Awaits σ k s
    on s (a_letter m) = tt
    on s (of_tag_lem o) = tt
    on s (a_mark m) = tt
    on s (a_tag o) = tt
    on s (a_back p e i) = (e, i, refl)
    on s (a_stop n) = tt

advance_awaits : (f : Form) (σ : State) (c : ℕ) → Awaits σ (kind f c) (advance f σ c)
unfolding advance when◌then◌else◌
advance_awaits f σ c = on (eqb c 0)
  where
    on : (b : Bool) → Awaits σ (kind f c) (when b then stop 4 else step f σ (kind f c) c)
    on true = tt
    on false = step_awaits f σ (kind f c) c

-- ---- characters that end behind a lone backslash: from the state that awaits, none; else a backslash is the last of them, and without it they read the same
data LoneEnd (f : Form) (σ : State) (cs : List ℕ) : Type 0 where
  none_left : (p : Place) → σ ≡ escaped p → cs ≡ [] → LoneEnd f σ cs
  last : (ds : List ℕ) → cs ≡ ds ++ (92 ∷ []) → reads f σ cs ≡ reads f σ ds → lone f σ ds ≡ false → LoneEnd f σ cs

lone_end : (f : Form) (cs : List ℕ) (σ : State) → lone f σ cs ≡ true → LoneEnd f σ cs
unfolding lone awaits onward run finish
lone_end f [] (at p) h = absurd (false≢true h)
lone_end f [] (escaped p) h = none_left p refl refl
lone_end f (c ∷ cs) σ h = on (advance f σ c) refl h (lone_end f cs)
  where
    more : (σ' : State) (a : Act) → advance f σ c ≡ go σ' a → LoneEnd f σ' cs → LoneEnd f σ (c ∷ cs)
    more σ' a q (none_left p i j) =
        let w : (kind f c ≡ back) × (σ ≡ at p) × (a ≡ skip) = rw (q, i) at (advance_awaits f σ c) in
        last [] (rw (back_is f c w.0, j)) (rw j (goes_reads f σ c [] q ∙ rw (w.2, i, w.1) (adds_skip _))) (rw w.1)
    more σ' a q (last ds i r l) =
        last (c ∷ ds) (rw i) (goes_reads f σ c cs q ∙ ap (adds a) r ∙ sym (goes_reads f σ c ds q)) (rw q l)

    on : (s : Step) → advance f σ c ≡ s → onward s (λ σ'. lone f σ' cs) ≡ true → ((σ' : State) → lone f σ' cs ≡ true → LoneEnd f σ' cs) → LoneEnd f σ (c ∷ cs)
    on (go σ' a) q i rest = more σ' a q (rest σ' i)
    on (stop e) q i rest = absurd (false≢true i)

-- an accepted line that ends so ends in a backslash, and reads the same without it
pub lone_dropped : (f : Form) (x : List ℕ) (s : Sentence) → read f x ≡ sentence s → ends_lone f x ≡ true
    → (w : List ℕ) × (x ≡ w ++ (92 ∷ [])) × (read f w ≡ sentence s) × (ends_lone f w ≡ false)
unfolding encodes encode when◌then◌else◌
lone_dropped f x s e h = on (lone_end f (scalars x) (at start) h)
  where
    on : LoneEnd f (at start) (scalars x) → (w : List ℕ) × (x ≡ w ++ (92 ∷ [])) × (read f w ≡ sentence s) × (ends_lone f w ≡ false)
    on (none_left p i j) = absurd (let z : ◌≡◌ {A = ℕ} 0 1 = cc in omega arith)
    on (last ds i r l) =
        let o = found f x s e in
        let all : Scalars ds = rw (i, take-append_seam ds (92 ∷ [])) at (All-take _ (length ds) (scalars x) (all_scalar x)) in
        let bytes : x ≡ encodes ds ++ (92 ∷ []) = sym (encodes_scalars x o.read_is.valid) ∙ ap encodes i ∙ encodes_append ds (92 ∷ []) in
        let few : length (encodes ds) ≤ 4096 = omega (arith, o.read_is.few, ap length bytes, length-append (encodes ds) (92 ∷ [])) in
        (encodes ds, bytes, read_chars f ds s.columns none s.cells all few (sym r ∙ o.gathers), rw (scalars_encodes ds all) l)

-- so a line that does not end in a backslash does not end so
pub plain_end : (f : Form) (x : List ℕ) (s : Sentence) → read f x ≡ sentence s → (get_or x (length x - 1) 0 ≡ 92 → ⊥) → ends_lone f x ≡ false
plain_end f x s e h = untrue (ends_lone f x) (λ i. let (w, b, r, l) = lone_dropped f x s e i in h (last_is w b))
  where
    last_is : (w : List ℕ) → x ≡ w ++ (92 ∷ []) → get_or x (length x - 1) 0 ≡ 92
    last_is w b =
        let n : length x - 1 ≡ length w = omega (arith, ap length b, length-append w (92 ∷ [])) in
        rw (n, b) (get_or-append_seam w 92 [] 0)

-- ---- no written line ends behind a lone backslash
onward_if : (b : Bool) (s : Step) (more : State → Bool) → onward s more ≡ false → onward (when b then stop 4 else s) more ≡ false
unfolding onward when◌then◌else◌
onward_if true s more h = refl
onward_if false s more h = h

step_lone : (f : Form) (σ : State) (k : Kind) (c : ℕ) (x : List ℕ) → kind f c ≡ k → onward (step f σ k c) (λ σ'. lone f σ' x) ≡ false → lone f σ (c ∷ x) ≡ false
unfolding lone advance
step_lone f σ k c x e h = onward_if (eqb c 0) (step f σ (kind f c) c) (λ σ'. lone f σ' x) (rw e h)

-- nor does a raw line: its reader gives no character a meaning
pub raw_lone : (cs : List ℕ) (p : Place) → lone raw (at p) cs ≡ false
unfolding lone awaits step inside ordinary onward kind
raw_lone [] p = refl
raw_lone (c ∷ cs) start = step_lone raw (at start) plain c cs refl (raw_lone cs behind)
raw_lone (c ∷ cs) behind = step_lone raw (at behind) plain c cs refl (raw_lone cs behind)
raw_lone (c ∷ cs) in_tag = step_lone raw (at in_tag) plain c cs refl (raw_lone cs in_tag)
raw_lone (c ∷ cs) (gap m) = step_lone raw (at (gap m)) plain c cs refl (raw_lone cs behind)

module _ (f : Form) (an : Annotated f) where
  -- a character as it is escaped, where both it and a backslash go on as they should
  escape_lone : (p : Place) (c : ℕ) (x : List ℕ) → step f (at p) back 92 ≡ go (escaped p) skip
      → onward (ordinary f p c) (λ σ'. lone f σ' x) ≡ false → onward (step f (at p) plain c) (λ σ'. lone f σ' x) ≡ false
      → lone f (at p) (escape_as (kind f c) c ++ x) ≡ false
  unfolding escape_as step onward
  escape_lone p c x b h g = on (kind f c) refl
    where
      backed : lone f (at p) (92 ∷ c ∷ x) ≡ false
      backed = step_lone f (at p) back 92 (c ∷ x) (kind_back f an) (rw b (step_lone f (escaped p) (kind f c) c x refl h))

      on : (k : Kind) → kind f c ≡ k → lone f (at p) (escape_as k c ++ x) ≡ false
      on (mark m) e = backed
      on slash e = backed
      on back e = backed
      on plain e = step_lone f (at p) plain c x e g

  -- the characters of an open tag
  tag_lone : (t : Tag) (z : List ℕ) → lone f (at in_tag) z ≡ false → lone f (at in_tag) (escape f t ++ z) ≡ false
  unfolding escape step inside ordinary onward
  tag_lone [] z h = h
  tag_lone (c ∷ t) z h = let g = tag_lone t z h in rw append_assoc (escape_lone in_tag c (escape f t ++ z) refl g g)

  -- behind a character, or in its tags
  record Near (z : List ℕ) : Type 0 where
    from_char : lone f (at behind) z ≡ false
    from_tag : lone f (at in_tag) z ≡ false

  tags_near : (ts : List Tag) (z : List ℕ) → Near z → Near (write_tags f ts ++ z)
  unfolding write_tags step inside onward
  tags_near [] z h = h
  tags_near (t ∷ ts) z h =
      let g = tag_lone t (write_tags f ts ++ z) (tags_near ts z h).from_tag in
      record {
        from_char = rw append_assoc (step_lone f (at behind) slash 47 _ (kind_slash f an) g);
        from_tag = rw append_assoc (step_lone f (at in_tag) slash 47 _ (kind_slash f an) g);
      }

  mark_near : (m : Mark) (g : ℕ) (z : List ℕ) → kind f g ≡ mark m → lone f (at (gap m)) z ≡ false → Near (g ∷ z)
  unfolding step inside onward
  mark_near m g z e h = record { from_char = step_lone f (at behind) (mark m) g z e h; from_tag = step_lone f (at in_tag) (mark m) g z e h }

  end_near : Near []
  unfolding lone awaits
  end_near = record { from_char = refl; from_tag = refl }

-- the partial line, where a character is taken literally
partial_lone : (n : ℕ) (s : Cells) {p : Place} {m : Mark} → Literal p m → lone partial (at p) (write_partial n s) ≡ false
unfolding write_partial onward
partial_lone n (final c r) l =
    let h = rw append-nil at (tags_near partial tt (pad n r) [] (end_near partial tt)).from_char in
    step_lone partial _ (kind partial c) c _ refl (rw (l.literally (kind partial c) c) h)
partial_lone n (cell c r k s) l =
    let h = tags_near partial tt (shown n k r) (sign k ∷ write_partial n s) (mark_near partial tt k (sign k) _ (kind_sign k) (partial_lone n s (literal_gap k))) in
    step_lone partial _ (kind partial c) c _ refl (rw (l.literally (kind partial c) c) h.from_char)

-- the tokenized line, from any place
abbrev Ends : List ℕ → Type 0
Ends z = (p : Place) → lone tokenized (at p) z ≡ false

text_ends : (cs z : List ℕ) → Ends z → Ends (escape tokenized cs ++ z)
unfolding escape step opening inside ordinary onward
text_ends [] z h p = h p
text_ends (c ∷ cs) z h start = let g = text_ends cs z h in rw append_assoc (escape_lone tokenized tt start c _ refl (g behind) (g behind))
text_ends (c ∷ cs) z h behind = let g = text_ends cs z h in rw append_assoc (escape_lone tokenized tt behind c _ refl (g behind) (g behind))
text_ends (c ∷ cs) z h in_tag = let g = text_ends cs z h in rw append_assoc (escape_lone tokenized tt in_tag c _ refl (g in_tag) (g in_tag))
text_ends (c ∷ cs) z h (gap m) = let g = text_ends cs z h in rw append_assoc (escape_lone tokenized tt (gap m) c _ refl (g behind) (g behind))

tags_end : (ts : List Tag) (z : List ℕ) → Ends z → Ends (write_tags tokenized ts ++ z)
unfolding write_tags step opening inside onward
tags_end [] z h p = h p
tags_end (t ∷ ts) z h start = step_lone tokenized (at start) slash 47 _ (kind_slash tokenized tt) refl
tags_end (t ∷ ts) z h behind = rw append_assoc (step_lone tokenized (at behind) slash 47 _ (kind_slash tokenized tt) (text_ends t _ (tags_end ts z h) in_tag))
tags_end (t ∷ ts) z h in_tag = rw append_assoc (step_lone tokenized (at in_tag) slash 47 _ (kind_slash tokenized tt) (text_ends t _ (tags_end ts z h) in_tag))
tags_end (t ∷ ts) z h (gap m) = step_lone tokenized (at (gap m)) slash 47 _ (kind_slash tokenized tt) refl

space_ends : (z : List ℕ) → Ends z → Ends (32 ∷ z)
unfolding step opening inside onward
space_ends z h start = step_lone tokenized (at start) (mark word) 32 z kind_space refl
space_ends z h behind = step_lone tokenized (at behind) (mark word) 32 z kind_space (h (gap word))
space_ends z h in_tag = step_lone tokenized (at in_tag) (mark word) 32 z kind_space (h (gap word))
space_ends z h (gap m) = step_lone tokenized (at (gap m)) (mark word) 32 z kind_space refl

end_ends : Ends []
unfolding lone awaits
end_ends p = refl

module _ (s : Sentence) where
  token_ends : (t : Token) (z : List ℕ) → Ends z → Ends (write_token s t ++ z)
  unfolding write_token
  token_ends (token b e) z h p = rw append_assoc (text_ends (surface s b e) _ (tags_end _ z h) p)

  tokens_end : (ts : List Token) → Ends (joined (map (write_token s) ts))
  unfolding joined
  tokens_end [] = end_ends
  tokens_end (t ∷ []) = λ p. rw append-nil at (token_ends t [] end_ends p)
  tokens_end (t ∷ u ∷ ts) = token_ends t _ (space_ends _ (tokens_end (u ∷ ts)))

pub line_lone : (f : Form) → Annotated f → (s : Sentence) → lone f (at start) (line f s) ≡ false
unfolding line
line_lone raw an s = absurd an
line_lone tokenized an s = tokens_end s (tokens_from (marks s) 0) start
line_lone partial an s = partial_lone s.columns s.cells literal_start
