-- The outcome of a call: it is the only one, a refusal leaves the buffers, and what is served is laid down. Assumes nothing.
use Rattle.std.specs.Prelude.{Ok, Err}
use mathlib.Core.Path.{◌≡◌, sym, ◌∙◌}
use Rattle.sentence.specs.Sentence.{Sentence}
use Rattle.sheet.specs.Layout.{Buffers, record_of}
use Rattle.sheet.proofs.Eights.{same_self, same_is}
use Rattle.sheet.specs.Answers.{Answer}
use Rattle.sentence.specs.declared.Refusal.{Refusal}
use Rattle.changes.specs.Changes.{Lays, Laid}

pub lays_once : {a : Answer} {s : Sentence} {d : Buffers} {r r' : Answer} {e e' : Buffers} → Lays a s d r e → Lays a s d r' e' → (r ≡ r') × (e ≡ e')
lays_once p q = let z = p.answer_is ∙ sym q.answer_is in (z, same_is p.leaves ∙ rw z (sym (same_is q.leaves)))

-- a refusal leaves the buffers as they were
pub lays_refused : (a : Answer) (s : Sentence) (d : Buffers) (x : Refusal) → Err x ≡ a → Lays a s d (Err x) d
lays_refused a s d x e = record { answer_is = e; leaves = same_self d }

-- a sentence that is laid down is the answer where the checks were passed
pub lays_served : (a : Answer) (s : Sentence) (d : Buffers) (r : Answer) (e : Buffers) → Ok (record_of s) ≡ a → Laid s d r e → Lays a s d r e
lays_served a s d r e h l = rw h at l
