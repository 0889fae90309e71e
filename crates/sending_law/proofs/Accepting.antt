-- What a sink accepts of lines is those lines, with parts between them.
use Rattle.std.proofs.Common.{◌≡◌, ℕ, ◌<◌, List, [], ◌∷◌, ◌++◌, length, Ok, Err, Result, sym, refl, ap, subst, append_assoc, append-nil, arith}
use Rattle.lines.specs.Refusals.{Refusal}
use Rattle.lines.specs.Format.{Line, encoded}
use Rattle.links.specs.Refusals.{takes_none}
use Rattle.links.specs.Items.{Effect, gives, passes, ends}
use Rattle.links.specs.Slots.{Slot, slot_effect}
use Rattle.links.specs.Send.{Sent, slot_by, send}
use Rattle.rules.specs.Sending.{LinesSent, line_first, send_lines, send_planned}
use Rattle.sending_law.specs.Law.{Parts, no_line, whole_line, part_of_line}

-- the bytes accepted of those sent: all of them, or a front and an answer that refuses the rest
pub data Front (bytes accepted : List ℕ) : Result Unit Refusal → Type 0 where
  all : bytes ≡ accepted → Front bytes accepted (Ok tt)
  some : (e : Refusal) (rest : List ℕ) → bytes ≡ accepted ++ rest → 0 < length rest → Front bytes accepted (Err e)

abbrev FrontOf : List ℕ → Sent → Type 0
FrontOf bytes s = Front bytes s.accepted s.answer

one_more : (b : ℕ) (bytes accepted : List ℕ) (r : Result Unit Refusal) → Front bytes accepted r → Front (b ∷ bytes) (b ∷ accepted) r
one_more b bytes accepted r (all e) = all (ap (λ l. b ∷ l) e)
one_more b bytes accepted r (some x rest e h) = some x rest (ap (λ l. b ∷ l) e) h

front_by : (effect : Effect Unit) (b : ℕ) (bytes : List ℕ) (next same : Sent) (slots : List Slot) → FrontOf bytes next → FrontOf (b ∷ bytes) same → FrontOf (b ∷ bytes) (slot_by effect b next same slots)
front_by (gives _) b bytes next same slots f g = one_more b bytes next.accepted next.answer f
front_by passes b bytes next same slots f g = g
front_by (ends e) b bytes next same slots f g = some e (b ∷ bytes) refl (omega arith)

pub sent_front : (bytes : List ℕ) (slots : List Slot) → FrontOf bytes (send bytes slots)
sent_front [] slots = all refl
sent_front (b ∷ bytes) [] = some takes_none (b ∷ bytes) refl (omega arith)
sent_front (b ∷ bytes) (slot ∷ slots) = front_by (slot_effect slot) b bytes (send bytes slots) (send (b ∷ bytes) slots) slots (sent_front bytes slots) (sent_front (b ∷ bytes) slots)

-- one line, and then others
line_parts : (l : Line) (accepted : List ℕ) (r : Result Unit Refusal) (left : List Slot) (others : LinesSent) → Front (encoded l) accepted r → Parts others.accepted others.whole →
    Parts (line_first l accepted r left others).accepted (line_first l accepted r left others).whole
line_parts l accepted r left others (all e) parts = subst (λ bytes. Parts (bytes ++ others.accepted) (l ∷ others.whole)) e (whole_line l parts)
line_parts l accepted r left others (some x rest e h) parts = subst (λ bytes. Parts bytes []) (append-nil accepted) (part_of_line l accepted rest e h no_line)

pub lines_parts : (ls : List Line) (slots : List Slot) → Parts (send_lines ls slots).accepted (send_lines ls slots).whole
lines_parts [] slots = no_line
lines_parts (l ∷ ls) slots =
    let s = send (encoded l) slots in
    line_parts l s.accepted s.answer s.left (send_lines ls (send (encoded l) slots).left) (sent_front (encoded l) slots) (lines_parts ls (send (encoded l) slots).left)

pub planned_parts : (p : Result (List Line) Refusal) (slots : List Slot) → Parts (send_planned p slots).accepted (send_planned p slots).whole
planned_parts (Ok ls) slots = lines_parts ls slots
planned_parts (Err e) slots = no_line

-- bytes of lines, and behind them bytes of other lines
pub parts_append : (a b : List ℕ) (ls ms : List Line) → Parts a ls → Parts b ms → Parts (a ++ b) (ls ++ ms)
parts_append _ b _ ms no_line q = q
parts_append _ b _ ms (whole_line {bytes} {ls} l p) q =
    subst (λ x. Parts x (l ∷ (ls ++ ms))) (sym (append_assoc (encoded l) bytes b)) (whole_line l (parts_append bytes b ls ms p q))
parts_append _ b _ ms (part_of_line {bytes} {ls} l front rest e h p) q =
    subst (λ x. Parts x (ls ++ ms)) (sym (append_assoc front bytes b)) (part_of_line l front rest e h (parts_append bytes b ls ms p q))
