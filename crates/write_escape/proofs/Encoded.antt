-- What is escaped is ASCII, and no byte of a longer character is: to escape characters is to escape their bytes. Assumes nothing.
use Prim.Native.Nat.{ℕ, zero, suc, ◌-◌, ◌≤◌}
use mathlib.Core.Path.{◌≡◌, refl, sym, ◌∙◌}
use mathlib.Core.Bool.{Bool, true, false}
use mathlib.Core.List.{List, [], ◌∷◌, ◌++◌, map, append_assoc, append-nil}
use native.Mathlib.Omega.{arith}
use borrow.Author.Tests.{ne_eqb, leb-false}
use lib.Dec.{leb, eqb}
use lib.ListN.{length, replicate, length-map}
use Rattle.laws.specs.If.{when◌then◌else◌, if_false, if_cases}
use Rattle.laws.specs.All.{All}
use Rattle.utf8.specs.Utf8.{encode, encodes}
use Rattle.utf8.proofs.Codec.{encodes_append, one_encoded}
use Rattle.sentence.specs.Sentence.{Tag, pad}
use Rattle.sentence.specs.declared.Form.{Form}
use Rattle.sentence.specs.declared.Form.TheVariants.{Raw as raw, Tokenized as tokenized, Partial as partial}
use Rattle.sentence.specs.Reading.{Kind, mark, slash, back, plain, kind}
use Rattle.sentence.specs.Writing.{escape_as, escape, write_tags}
use Rattle.sentence.proofs.Trips.{escape_append}

-- ---- one character
not_key : (c k : ℕ) → 128 ≤ c → suc k ≤ 128 → eqb c k ≡ false
not_key c k h l = ne_eqb c k (λ e. omega arith)

high_plain : (f : Form) (c : ℕ) → 128 ≤ c → kind f c ≡ plain
unfolding kind when◌then◌else◌
high_plain raw c h = refl
high_plain tokenized c h = rw (not_key c 32 h (omega arith), not_key c 47 h (omega arith), not_key c 92 h (omega arith))
high_plain partial c h =
    rw (not_key c 32 h (omega arith), not_key c 45 h (omega arith), not_key c 124 h (omega arith), not_key c 47 h (omega arith), not_key c 92 h (omega arith))

escape_high : (f : Form) (bs : List ℕ) → All (λ b. 128 ≤ b) bs → escape f bs ≡ bs
unfolding escape escape_as
escape_high f [] h = refl
escape_high f (b ∷ bs) h = rw (high_plain f b h.0, escape_high f bs h.1)

encode_high : (c : ℕ) → leb c 0x7F ≡ false → All (λ b. 128 ≤ b) (encode c)
unfolding encode
encode_high c h =
    rw (if_false (leb c 0x7F) (c ∷ []) _ h)
    (if_cases (All (λ b. 128 ≤ b)) (leb c 0x7FF) _ _ (λ _. omega arith) (λ _. if_cases (All (λ b. 128 ≤ b)) (leb c 0xFFFF) _ _ (λ _. omega arith) (λ _. omega arith)))

encodes_as : (k : Kind) (c : ℕ) → encode c ≡ c ∷ [] → encodes (escape_as k c) ≡ escape_as k c
unfolding escape_as encodes
encodes_as (mark m) c e = rw (e, one_encoded 92 refl)
encodes_as slash c e = rw (e, one_encoded 92 refl)
encodes_as back c e = rw (e, one_encoded 92 refl)
encodes_as plain c e = rw e

encode_escape : (f : Form) (c : ℕ) → encodes (escape_as (kind f c) c) ≡ escape f (encode c)
unfolding escape escape_as encodes
encode_escape f c = on (leb c 0x7F) refl
  where
    on : (b : Bool) → leb c 0x7F ≡ b → encodes (escape_as (kind f c) c) ≡ escape f (encode c)
    on true e = encodes_as (kind f c) c (one_encoded c e) ∙ rw (one_encoded c e, append-nil)
    on false e = rw (high_plain f c (omega (arith, leb-false c 0x7F e)), append-nil) (sym (escape_high f (encode c) (encode_high c e)))

-- ---- a text, tags, and a row with all columns
pub encodes_escape : (f : Form) (t : List ℕ) → encodes (escape f t) ≡ escape f (encodes t)
unfolding escape encodes
encodes_escape f [] = refl
encodes_escape f (c ∷ t) =
    encodes_append (escape_as (kind f c) c) (escape f t) ∙ rw (encode_escape f c, encodes_escape f t, escape_append f (encode c) (encodes t))

pub encodes_tags : (f : Form) (ts : List Tag) → encodes (write_tags f ts) ≡ write_tags f (map encodes ts)
unfolding write_tags encodes
encodes_tags f [] = refl
encodes_tags f (t ∷ ts) = rw (one_encoded 47 refl, encodes_append (escape f t) (write_tags f ts), encodes_escape f t, encodes_tags f ts)

encodes_absent : (r : List Tag) (k : ℕ) → map encodes (r ++ replicate k []) ≡ map encodes r ++ replicate k []
unfolding encodes
encodes_absent [] zero = refl
encodes_absent [] (suc k) = rw (encodes_absent [] k)
encodes_absent (t ∷ r) k = rw (encodes_absent r k)

pub encodes_pad : (n : ℕ) (r : List Tag) → map encodes (pad n r) ≡ pad n (map encodes r)
unfolding pad
encodes_pad n r = rw length-map (encodes_absent r (n - length r))

-- ---- tags one after another, and absent ones
pub tags_append : (f : Form) (ts us : List Tag) → write_tags f (ts ++ us) ≡ write_tags f ts ++ write_tags f us
unfolding write_tags
tags_append f [] us = refl
tags_append f (t ∷ ts) us = rw (tags_append f ts us, append_assoc)

pub tags_absent : (f : Form) (k : ℕ) → write_tags f (replicate k []) ≡ replicate k 47
unfolding write_tags escape
tags_absent f zero = refl
tags_absent f (suc k) = rw (tags_absent f k)
