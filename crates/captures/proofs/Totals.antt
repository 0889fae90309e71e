-- One line more is one more of all lines.
use Rattle.std.proofs.Common.{◌≡◌, ℕ, ◌+◌, ◌-◌, ◌≤◌, List, length, take, drop, length-drop, Ok, Result, sym, refl, ap, ◌∙◌, arith}
use Rattle.std.proofs.lemmas.List.{take_rest, drop-drop}
use Rattle.lines.specs.Format.{Line, payload, flush, delimiter, response_end}
use Rattle.lines.specs.Decoding.{complete, streamed}
use Rattle.captures.specs.declared.tally.Lines.{Lines}
use Rattle.lines.specs.declared.decode.DecodeFault.{DecodeFault}
use Rattle.captures.specs.Tallies.{total, none, with_line, Decodes, begins, goes_on, Ends}

pub total_more : (t : Lines) (l : Line) (n : ℕ) → total (with_line t l n) ≡ total t + 1
total_more t (payload d) n = omega arith
total_more t flush n = omega arith
total_more t delimiter n = omega arith
total_more t response_end n = omega arith

-- the bytes s up to their rest r are lines, and t counts them
pub record Walked (s r : List ℕ) (t : Lines) : Type 0 where
  pub n : ℕ
  pub long : n + length r ≡ length s
  pub rest : drop n s ≡ r
  pub few : total t ≤ n
  pub lines : Decodes s n t

pub begun : (s : List ℕ) (t : Lines) → t ≡ none → Walked s s t
begun s t e = record { n = 0; long = omega arith; rest = refl; few = omega (arith, ap total e); lines = begins s t e }

-- one line more
pub walks : (s r q : List ℕ) (t u : Lines) (l : Line) (m : ℕ) → Walked s r t → streamed r ≡ Ok (complete l m) → 4 ≤ m → m ≤ length r →
    u ≡ with_line t l m → q ≡ take (length r - m) (drop m r) → Walked s q u
walks s r q t u l m w h four within e is =
    let more : total u ≡ total t + 1 = ap total e ∙ total_more t l m in
    let q_is : q ≡ drop m r = is ∙ take_rest r m in
    record {
      n = w.n + m;
      long = rw (q_is, length-drop) (omega arith);
      rest = sym (drop-drop m w.n s) ∙ ap (drop m) w.rest ∙ sym q_is;
      few = omega arith;
      lines = goes_on s w.n m l t u w.lines (ap streamed w.rest ∙ h) e;
    }

-- what stands behind the walk
pub behind : (s r : List ℕ) (t : Lines) (e : Result Unit DecodeFault) → Walked s r t → Ends r e → Ends (drop (length s - length r) s) e
behind s r t e w h =
    let n_is : length s - length r ≡ w.n = let long = w.long in omega arith in
    rw (n_is, w.rest) h
