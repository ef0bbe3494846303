-- A printed answer, put into a slice sign by sign. Assumes nothing.
use Rattle.std.specs.Prelude.{Result, Ok, Err}
use Prim.Native.Nat.{ℕ, ◌+◌, ◌-◌, ◌≤◌, ◌<◌}
use native.Mathlib.Omega.{arith}
use mathlib.Core.Path.{◌≡◌, refl, sym, ap, ◌∙◌}
use mathlib.Core.List.{List, [], ◌∷◌, ◌++◌, append_assoc}
use lib.ListN.{length, get_or, take, drop, set, length-set, length-drop, take-append-drop}
use lib.Seq.{length-take-le}
use Rattle.sentence.specs.declared.Refusal.{Refusal}
use Rattle.convert_buffers.specs.Between.{Outcome, writes, refuses, output_of, Converts}
use Rattle.convert.specs.Convert.{conversion}
use Rattle.convert_buffers.proofs.Outcomes.{was_written, was_refused}
use Rattle.convert.proofs.Placed.{written_fits}
use Rattle.respelling.specs.Puts.{Puts, Into}
use Rattle.respelling.specs.Decimal.{decimal}
use Rattle.laws.proofs.Tail.{lent}
use Rattle.sentence.specs.Forms.{letter}
use Rattle.sentence.specs.Refusals.{refusal, number}
use Rattle.respelling.specs.Respell.{outcome, printed, answer}
use Rattle.respelling.proofs.Puts.{puts_byte, puts_then, puts_lent, puts_again, puts_long}

-- `!`, the number and a space, the place and LF
pub put_refused : (r : Refusal) {out mid end : List ℕ} {at a e : ℕ} → at + 43 ≤ length out
    → Puts (decimal (number r) ++ (32 ∷ [])) (set out at 33) (at + 1) a mid → Puts (decimal r.place ++ (10 ∷ [])) mid a e end
    → Puts (printed (refuses r)) out at e end
unfolding printed
put_refused r {out} {at} h p q =
    let f : Puts (33 ∷ []) out at (at + 1) (set out at 33) = puts_byte out at 33 (omega arith) in
    rw append_assoc at (puts_then f (omega arith) (puts_then p (omega (arith, length-set out at 33)) q))

-- ---- a conversion into the 8,192 bytes behind a place
module _ (reader writer : ℕ) (x d : List ℕ) (start : ℕ) (h : start + 8192 ≤ length d) where
  part : List ℕ
  part = take 8192 (drop start d)

  back : (o : Outcome) (e : List ℕ) → conversion reader writer x 8192 0 ≡ o → e ≡ output_of 0 o part
      → take start d ++ (e ++ drop 8192 (drop start d)) ≡ output_of start o d
  unfolding part output_of
  back (writes w) e f q = (puts_lent w d start 8192 q (written_fits reader writer x 8192 0 f) h).output
  back (refuses r) e f q = rw (q, take-append-drop, take-append-drop)

  pub into : {r : Result ℕ Refusal} {e : List ℕ} (k : ℕ) → k ≡ 8192
      → Converts (λ (c : Result ℕ Refusal). c) (conversion reader writer x (length (take k (drop start d))) 0) 0 (take k (drop start d)) r e
      → Into (conversion reader writer x 8192 0) d start r (take start d ++ (e ++ drop k (drop start d)))
  unfolding part
  into {e} k f p =
      let l : length (take 8192 (drop start d)) ≡ 8192 = length-take-le 8192 (drop start d) (omega (arith, length-drop start d)) in
      let q = rw (f, l) at p in
      record { answer = q.answer; output = rw f (back (conversion reader writer x 8192 0) e refl q.output) }

-- ---- a printed conversion
module _ (reader writer : ℕ) (x out : List ℕ) (at : ℕ) {r : Result ℕ Refusal} {mid : List ℕ}
    (p : Into (conversion reader writer x 8192 0) (set out at 61) (at + 1) r mid) (h : at + 8194 ≤ length out) where
  first : Puts (61 ∷ []) out at (at + 1) (set out at 61)
  first = puts_byte out at 61 (omega arith)

  -- the written line behind `=`
  record Line (n : ℕ) : Type 0 where
    bytes : List ℕ
    made : conversion reader writer x 8192 0 ≡ writes bytes
    few : n ≤ 8192
    puts : Puts bytes (set out at 61) (at + 1) (at + 1 + n) mid

  line : {n : ℕ} → r ≡ Ok n → Line n
  unfolding output_of
  line {n} e =
      let w = was_written (conversion reader writer x 8192 0) 0 (sym e ∙ p.answer) in
      let l : n ≡ length w.0 = omega (arith, w.2) in
      record {
        bytes = w.0;
        made = w.1;
        few = omega (arith, written_fits reader writer x 8192 0 w.1);
        puts = record { end = ap (λ k. at + 1 + k) l; output = rw w.1 at p.output };
      }

  pub line_few : {n : ℕ} → r ≡ Ok n → n ≤ 8192
  line_few e = (line e).few

  pub put_line : {n : ℕ} → r ≡ Ok n → Puts (printed (conversion reader writer x 8192 0)) out at (at + 1 + n + 1) (set mid (at + 1 + n) 10)
  unfolding printed
  put_line {n} e =
      let l : Line n = line e in
      let k : length mid ≡ length out =
      puts_long l.puts (omega (arith, length-set out at 61)) (omega (arith, length-set out at 61, l.few, l.puts.end)) ∙ length-set out at 61 in
      let f : Puts (10 ∷ []) mid (at + 1 + n) (at + 1 + n + 1) (set mid (at + 1 + n) 10) = puts_byte mid (at + 1 + n) 10 (omega (arith, l.few)) in
      rw l.made (puts_then first (omega arith) (puts_then l.puts (omega (arith, length-set out at 61)) f))

  -- what a refusal prints over `=`
  pub put_other : {q : Refusal} {e : ℕ} {end : List ℕ} → r ≡ Err q → Puts (printed (refuses q)) mid at e end
      → Puts (printed (conversion reader writer x 8192 0)) out at e end
  unfolding output_of printed
  put_other {q} f s =
      let o : conversion reader writer x 8192 0 ≡ refuses q = was_refused (conversion reader writer x 8192 0) 0 (sym f ∙ p.answer) in
      let m : mid ≡ set out at 61 = rw o at p.output in
      rw o (puts_again 61 (omega arith) (rw m at s))

-- ---- a printed answer
-- a line too short for two letters
pub put_short : (l : List ℕ) {out end : List ℕ} {at e : ℕ} → length l < 2 → Puts (printed (refuses (refusal 16 0))) out at e end → Puts (answer l) out at e end
unfolding outcome
put_short [] h p = p
put_short (a ∷ []) h p = p
put_short (a ∷ b ∷ x) h p = absurd (omega arith)

letters : (l : List ℕ) → 2 ≤ length l → answer l ≡ printed (conversion (letter (get_or l 0 0)) (letter (get_or l 1 0)) (drop 2 l) 8192 0)
unfolding outcome
letters [] h = absurd (omega arith)
letters (a ∷ []) h = absurd (omega arith)
letters (a ∷ b ∷ x) h = refl

-- two letters and a sentence line, which is lent as a slice
pub put_letters : (l : List ℕ) (f g : ℕ) {out end : List ℕ} {at e : ℕ} → 2 ≤ length l → f ≡ letter (get_or l 0 0) → g ≡ letter (get_or l 1 0)
    → Puts (printed (conversion f g (take (length l - 2) (drop 2 l)) 8192 0)) out at e end → Puts (answer l) out at e end
put_letters l f g h i j p = rw (letters l h) (rw (i, j, lent l 2 h) at p)
