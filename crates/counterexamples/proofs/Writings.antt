-- The trial of a writer.
use Rattle.std.proofs.Common.{◌≡◌, ℕ, zero, suc, ◌<◌, List, [], ◌∷◌, ◌++◌, length, drop, map, Ok, Err, Result, sym, refl, ap, ◌∙◌, arith, length-drop, append-nil, ne_eqb}
use Rattle.std.proofs.lemmas.List.{length-map}
use Rattle.lines.specs.Refusals.{Refusal}
use Rattle.lines.specs.Format.{Line, payload, encoded}
use Rattle.links.specs.Slots.{Slot}
use Rattle.links.specs.Send.{send}
use Rattle.rules.specs.Sending.{Mode, binary, pieces_among, pieces, LinesSent, line_first, send_lines, send_planned, write, counts, Answer, done, answer_of, plan, count_if, Sender}
use Rattle.sending_law.specs.Law.{Outcome}
use Rattle.counterexamples.specs.Trials.{OneLineSent}

-- more than n bytes are more than one piece
more_pieces : (more n : ℕ) (d : List ℕ) → n < length d → 1 < more → 0 < n → 1 < length (pieces_among more n d)
more_pieces zero n d long h some = omega arith
more_pieces (suc more) n [] long h some = omega arith
more_pieces (suc more) n (b ∷ d) long h some = rest more (drop n (b ∷ d)) (omega arith) (let left = length-drop n (b ∷ d) in omega arith) where
  rest : (more : ℕ) (e : List ℕ) → 0 < more → 0 < length e → 1 < suc (length (pieces_among more n e))
  rest zero e h k = omega arith
  rest (suc more) [] h k = omega arith
  rest (suc more) (c ∷ e) h k = omega arith

-- lines are sent with no refusal only where all of them are accepted whole
whole_first : (l : Line) (ls : List Line) (bytes : List ℕ) (r : Result Unit Refusal) (slots : List Slot) (others : LinesSent) →
    (others.answer ≡ Ok tt → others.whole ≡ ls) → (line_first l bytes r slots others).answer ≡ Ok tt → (line_first l bytes r slots others).whole ≡ l ∷ ls
whole_first l ls bytes (Ok _) slots others whole is = ap (λ ms. l ∷ ms) (whole is)
whole_first l ls bytes (Err e) slots others whole is = absurd (let z : ◌≡◌ {A = ℕ} 0 1 = cc in omega arith)

all_whole : (ls : List Line) (slots : List Slot) → (send_lines ls slots).answer ≡ Ok tt → (send_lines ls slots).whole ≡ ls
all_whole [] slots is = refl
all_whole (l ∷ ls) slots is =
    let sent = send (encoded l) slots in
    whole_first l ls sent.accepted sent.answer sent.left (send_lines ls (send (encoded l) slots).left) (all_whole ls (send (encoded l) slots).left) is

-- a whole length is answered only where nothing was refused
counted : (r : Result Unit Refusal) (n : ℕ) → counts (count_if r n) ≡ counts (Ok n) → r ≡ Ok tt
counted (Ok tt) n is = refl
counted (Err e) n is = absurd (let z : ◌≡◌ {A = ℕ} 0 1 = cc in omega arith)

-- so of several lines it is not one that was accepted whole
not_one : (ls : List Line) (slots : List Slot) (l : Line) (n : ℕ) → 1 < length ls → counts (count_if (send_lines ls slots).answer n) ≡ counts (Ok n) → (send_lines ls slots).whole ++ [] ≡ l ∷ [] → ⊥
not_one ls slots l n more is one =
    let whole = all_whole ls slots (counted (send_lines ls slots).answer n is) in
    let size : length ls ≡ 1 = ap length (sym whole ∙ (sym (append-nil (send_lines ls slots).whole) ∙ one)) in
    omega arith

-- the lines of an input in binary mode
abbrev lines_of : List ℕ → List Line
lines_of d = map (λ p. payload (p ++ [])) (pieces 65516 d)

-- an input of more than one piece is sent as those
planned : (modes : List Mode) (d : List ℕ) → modes ≡ binary ∷ [] → 65516 < length d → plan modes (write 0 d) ≡ Ok (lines_of d)
planned modes d is long =
    let some = ne_eqb (length d) 0 (λ none_left. omega arith) in
    rw (is, some) refl

-- the first of the answers, if there is one
abbrev first_answer : List Answer → Answer
first_answer [] = done
first_answer (a ∷ others) = a

pub rest_only_counted : (d : List ℕ) (l : Line) (before after : Sender) → 65516 < length d → before.modes ≡ binary ∷ [] → OneLineSent d l before after → ⊥
rest_only_counted d l before after long modes law =
    let p = planned before.modes d modes long in
    let answers : answer_of before.modes (write 0 d) (send_planned (plan before.modes (write 0 d)) before.sink.room).answer ≡ counts (Ok (length d)) = ap (λ (o : Outcome). first_answer o.answers) law.bytes_accepted in
    let whole : (send_planned (plan before.modes (write 0 d)) before.sink.room).whole ++ [] ≡ l ∷ [] = ap (λ (o : Outcome). o.whole) law.bytes_accepted in
    let several : 1 < length (lines_of d) = rw (length-map (pieces 65516 d) (λ p. payload (p ++ []))) (more_pieces (length d) 65516 d long (omega arith) (omega arith)) in
    not_one (lines_of d) before.sink.room l (length d) several (rw (modes) at (rw p at answers)) (rw p at whole)
