-- What a call leaves in the output that it is lent, and a loop that writes item after item. Assumes nothing.
use Rattle.std.specs.Prelude.{ℕ, suc, ◌+◌, ◌≤◌, ◌≡◌, refl, List, [], ◌∷◌, ◌++◌, length, set, take, drop}
use Rattle.std.proofs.Common.{sym, ap, ◌∙◌, add-zero, add-one, arith, length-append, length-set}
use Rattle.std.proofs.lemmas.List.Edits.{sets, sets-eq}
use Rattle.laws.specs.Put.{put, length_put, over, put_front}

-- the bytes vs stand in the output from `at` on, and all else is as it was; the answer is where they end
pub record Wrote (out₀ : List ℕ) (at : ℕ) (vs out : List ℕ) (r : ℕ) : Type 0 where
  pub bytes : out ≡ put out₀ at vs
  pub end : r ≡ at + length vs

put_sets : (vs d : List ℕ) (i : ℕ) → put d i vs ≡ sets d i vs
put_sets [] d i = refl
put_sets (v ∷ vs) d i = rw add-one (put_sets vs (set d i v) (suc i))

-- the output before, the bytes, and the output behind them
pub put_is : (vs d : List ℕ) (i : ℕ) → i + length vs ≤ length d → put d i vs ≡ take i d ++ vs ++ drop (i + length vs) d
put_is vs d i h = put_sets vs d i ∙ sets-eq vs d i h

put_append : (vs ws d : List ℕ) (i : ℕ) → put d i (vs ++ ws) ≡ put (put d i vs) (i + length vs) ws
put_append [] ws d i = rw add-zero
put_append (v ∷ vs) ws d i =
    let e : i + 1 + length vs ≡ i + suc (length vs) = omega arith in
    put_append vs ws (set d i v) (i + 1) ∙ rw e

-- two items one after the other
pub wrote_both : {o₀ vs o₁ ws o₂ : List ℕ} {at i j : ℕ} → Wrote o₀ at vs o₁ i → Wrote o₁ i ws o₂ j → Wrote o₀ at (vs ++ ws) o₂ j
wrote_both {o₀} {vs} {ws = ws} {at = at} p q = record {
  bytes = q.bytes ∙ rw (p.bytes, p.end) (sym (put_append vs ws o₀ at));
  end = omega (arith, p.end, q.end, length-append vs ws);
}

pub wrote_long : {o₀ vs o : List ℕ} {at r : ℕ} → Wrote o₀ at vs o r → length o ≡ length o₀
wrote_long {o₀} {vs} {at = at} w = ap length w.bytes ∙ length_put vs o₀ at

-- the line stands at the front of the output, and all behind it is as it was; the answer is its length
pub record Lined (line out₀ out : List ℕ) (r : ℕ) : Type 0 where
  pub out_is : out ≡ over line out₀
  pub length_is : r ≡ length line

pub lined : {line out₀ out : List ℕ} {r : ℕ} → length line ≤ length out₀ → Wrote out₀ 0 line out r → Lined line out₀ out r
lined {line} {out₀} h w = record { out_is = w.bytes ∙ put_front line out₀ h; length_is = omega (arith, w.end) }

-- A loop that writes `all` into out₀ from `from` on: the output is d now, and `left` is to be written from `at` on
pub record Writing (out₀ : List ℕ) (from : ℕ) (all d : List ℕ) (at : ℕ) (left : List ℕ) : Type 0 where
  pub long : length d ≡ length out₀
  pub room : from + length all ≤ length out₀
  pub ends : at + length left ≡ from + length all
  pub same : put d at left ≡ put out₀ from all

pub write_start : (d : List ℕ) (at : ℕ) (all : List ℕ) → at + length all ≤ length d → Writing d at all d at all
write_start d at all h = record { long = refl; room = h; ends = refl; same = refl }

module _ {out₀ : List ℕ} {from : ℕ} {all d : List ℕ} {at : ℕ} {left : List ℕ} (w : Writing out₀ from all d at left) where
  -- a byte is written, or two
  pub write_byte : {v : ℕ} {rest : List ℕ} → left ≡ v ∷ rest → Writing out₀ from all (set d at v) (at + 1) rest
  write_byte {v} e = record {
    long = length-set d at v ∙ w.long;
    room = w.room;
    ends = omega (arith, w.ends, ap length e);
    same = sym (ap (put d at) e) ∙ w.same;
  }

  pub write_two : {u v : ℕ} {rest : List ℕ} → left ≡ u ∷ v ∷ rest → Writing out₀ from all (set (set d at u) (at + 1) v) (at + 1 + 1) rest
  write_two {u} {v} e = record {
    long = length-set (set d at u) (at + 1) v ∙ length-set d at u ∙ w.long;
    room = w.room;
    ends = omega (arith, w.ends, ap length e);
    same = sym (ap (put d at) e) ∙ w.same;
  }

  -- a call writes an item
  pub write_item : {vs rest d' : List ℕ} {at' : ℕ} → left ≡ vs ++ rest → Wrote d at vs d' at' → Writing out₀ from all d' at' rest
  write_item {vs} {rest} {d'} {at'} e c = record {
    long = ap length c.bytes ∙ length_put vs d at ∙ w.long;
    room = w.room;
    ends = omega (arith, w.ends, ap length e, length-append vs rest, c.end);
    same = rw (c.bytes, c.end) (sym (put_append vs rest d at)) ∙ sym (ap (put d at) e) ∙ w.same;
  }

  -- nothing is written
  pub write_keep : {rest : List ℕ} → left ≡ rest → Writing out₀ from all d at rest
  write_keep {rest} e = record { long = w.long; room = w.room; ends = rw (← e) w.ends; same = rw (← e) w.same }

  -- there is room for the first bytes of what is left
  pub write_fits : (vs rest : List ℕ) → left ≡ vs ++ rest → at + length vs ≤ length d
  write_fits vs rest e = omega (arith, w.ends, w.room, w.long, ap length e, length-append vs rest)

  -- all is written
  pub write_done : left ≡ [] → Wrote out₀ from all d at
  write_done e = record { bytes = sym (ap (put d at) e) ∙ w.same; end = omega (arith, w.ends, ap length e) }

pub ruleset writes = (write_start, write_byte, write_two, write_item, write_keep, write_done)
