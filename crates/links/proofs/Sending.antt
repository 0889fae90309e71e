-- How the sending of bytes goes on from write to write, and from sending to sending.
use Rattle.std.proofs.Common.{◌≡◌, ℕ, ◌-◌, ◌<◌, List, [], ◌∷◌, ◌++◌, length, take, drop, replicate, Ok, Err, Result, sym, refl, ap, ◌∙◌, inl, inr, arith}
use Rattle.std.proofs.lemmas.List.{append-nil, append_assoc, length-append, length-take-le, nil_from_length, take-append-drop, drop-drop, take_rest}
use Rattle.std.proofs.lemmas.Bool.{cases_lt}
use Rattle.lines.specs.Refusals.{Refusal}
use Rattle.links.specs.Refusals.{takes_none}
use Rattle.links.specs.Items.{passes, ends}
use Rattle.links.specs.Slots.{Slot, place, interrupts, slot_effect, Stand}
use Rattle.links.specs.Writes.{Takes, Spends, Writes}
use Rattle.links.specs.Send.{Sent, ceases, joined, send, stand_behind, pushed, Sends}
use Rattle.links.specs.declared.LinkFault.{LinkFault}
use Rattle.links.specs.declared.Moved.{Moved}
use Rattle.links.specs.declared.Moved.TheVariants.{Bytes, Interrupted}

-- stands with the same parts
pub same_stand : {s t : Stand} → s.home ≡ t.home → s.accepted ≡ t.accepted → s.beyond ≡ t.beyond → s.room ≡ t.room → s ≡ t
same_stand h a b r i = record { home = h i; accepted = a i; beyond = b i; room = r i }

-- what a sending comes to: its answer, and where the sink then stands
pub record Outcome : Type 0 where
  pub answer : Result Unit Refusal
  pub stand : Stand

abbrev pub comes_to : Result Unit Refusal → Stand → Outcome
comes_to r s = record { answer = r; stand = s }

abbrev pub outcome : List ℕ → Stand → Outcome
outcome bytes s = comes_to (send bytes s.room).answer (pushed bytes s)

pub sends_as : {before after : Stand} {bytes : List ℕ} {r : Result Unit Refusal} → outcome bytes before ≡ comes_to r after → Sends before bytes r after
sends_as e = record { answers = ap (λ (x : Outcome). x.answer) e; stands = ap (λ (x : Outcome). x.stand) e }

pub as_sent : {before after : Stand} {bytes : List ℕ} {r : Result Unit Refusal} → Sends before bytes r after → outcome bytes before ≡ comes_to r after
as_sent {before} {after} {bytes} {r} s = ap (λ x. comes_to x (pushed bytes before)) s.answers ∙ ap (comes_to r) s.stands

-- what a sending of bytes to s comes to, by what the list of s comes to
by_sent : (s : Stand) (bytes : List ℕ) (x : Sent) → send bytes s.room ≡ x → outcome bytes s ≡ comes_to x.answer (stand_behind s x)
by_sent s bytes x e = ap (λ (y : Sent). comes_to y.answer (stand_behind s y)) e

-- Slots by what they do

send_passes : (bytes : List ℕ) (slot : Slot) (slots : List Slot) → 0 < length bytes → slot_effect slot ≡ passes → send bytes (slot ∷ slots) ≡ send bytes slots
send_passes [] slot slots h e = absurd (omega arith)
send_passes (b ∷ bytes) slot slots h e = rw e

send_ends : (bytes : List ℕ) (slot : Slot) (slots : List Slot) (r : Refusal) → 0 < length bytes → slot_effect slot ≡ ends r → send bytes (slot ∷ slots) ≡ ceases (Err r) slots
send_ends [] slot slots r h e = absurd (omega arith)
send_ends (b ∷ bytes) slot slots r h e = rw e

send_none : (bytes : List ℕ) → 0 < length bytes → send bytes [] ≡ ceases (Err takes_none) []
send_none [] h = absurd (omega arith)
send_none (b ∷ bytes) h = refl

-- bytes in front go to the places in front
send_front : (front bytes : List ℕ) (slots : List Slot) → send (front ++ bytes) (replicate (length front) place ++ slots) ≡ joined front (send bytes slots)
send_front [] bytes slots = refl
send_front (b ∷ front) bytes slots = ap (joined (b ∷ [])) (send_front front bytes slots)

joined_stand : (s t : Stand) (front : List ℕ) (r : Sent) →
    t.home ≡ s.home → t.accepted ≡ s.accepted ++ front → t.beyond ≡ drop (length front) s.beyond → stand_behind s (joined front r) ≡ stand_behind t r
joined_stand s t front r h a b =
    same_stand (sym h)
    (sym (append_assoc s.accepted front r.accepted) ∙ ap (λ l. l ++ r.accepted) (sym a))
    (ap (λ n. drop n s.beyond) (length-append front r.accepted) ∙ (sym (drop-drop (length r.accepted) (length front) s.beyond) ∙ ap (drop (length r.accepted)) (sym b)))
    refl

-- One write

takes : (s t : Stand) (bytes : List ℕ) (n : ℕ) → Takes s bytes n t → outcome bytes s ≡ outcome (drop n bytes) t
takes s t bytes n w =
    let most = w.most in
    let long : length (take n bytes) ≡ n = length-take-le n bytes most in
    let rest = send (drop n bytes) t.room in
    let goes : send bytes s.room ≡ joined (take n bytes) (send (drop n bytes) t.room) =
    ap (λ l. send l s.room) (sym (take-append-drop n bytes))
    ∙ (ap (send (take n bytes ++ drop n bytes)) (w.used ∙ ap (λ j. replicate j place ++ t.room) (sym long)) ∙ send_front (take n bytes) (drop n bytes) t.room) in
    by_sent s bytes (joined (take n bytes) rest) goes
    ∙ ap (comes_to rest.answer) (joined_stand s t (take n bytes) rest w.at_home w.accepts (w.keeps ∙ ap (λ j. drop j s.beyond) (sym long)))

spends_passes : (slot : Slot) (s t : Stand) (bytes : List ℕ) → slot_effect slot ≡ passes → Spends slot s bytes t → outcome bytes s ≡ outcome bytes t
spends_passes slot s t bytes e w =
    by_sent s bytes (send bytes t.room) (ap (send bytes) w.spent ∙ send_passes bytes slot t.room w.handed e)
    ∙ ap (comes_to (send bytes t.room).answer) (joined_stand s t [] (send bytes t.room) w.at_home (w.accepts ∙ sym (append-nil s.accepted)) w.keeps)

-- the sink stands at t, from s, and nothing more is accepted
ceased : (s t : Stand) (r : Result Unit Refusal) → t.home ≡ s.home → t.accepted ≡ s.accepted → t.beyond ≡ s.beyond → stand_behind s (ceases r t.room) ≡ t
ceased s t r h a b = same_stand (sym h) (append-nil s.accepted ∙ sym a) (sym b) refl

spends_ends : (slot : Slot) (r : Refusal) (s t : Stand) (bytes : List ℕ) → slot_effect slot ≡ ends r → Spends slot s bytes t → outcome bytes s ≡ comes_to (Err r) t
spends_ends slot r s t bytes e w =
    by_sent s bytes (ceases (Err r) t.room) (ap (send bytes) w.spent ∙ send_ends bytes slot t.room r w.handed e)
    ∙ ap (comes_to (Err r)) (ceased s t (Err r) w.at_home w.accepts w.keeps)

takes_zero : (s t : Stand) (bytes : List ℕ) → 0 < length bytes → Takes s bytes 0 t → outcome bytes s ≡ comes_to (Err takes_none) t
takes_zero s t bytes some w =
    let none : s.room ≡ [] = nil_from_length s.room (elim (cases_lt 0 (length s.room)) [ inl h ↦ absurd (let k = w.least some h in omega arith) | inr h ↦ omega arith ]) in
    let none_after : t.room ≡ [] = sym w.used ∙ none in
    by_sent s bytes (ceases (Err takes_none) t.room) (ap (send bytes) none ∙ (send_none bytes some ∙ ap (ceases (Err takes_none)) (sym none_after)))
    ∙ ap (comes_to (Err takes_none)) (ceased s t (Err takes_none) w.at_home (w.accepts ∙ append-nil s.accepted) w.keeps)

-- A turn: `rest`, what is left of the bytes, was handed in.
module _ (total : Outcome) (s t : Stand) (rest : List ℕ) (so_far : total ≡ outcome rest s) where
  pub goes_on : (n : ℕ) → Takes s rest n t → total ≡ outcome (take (length rest - n) (drop n rest)) t
  goes_on n w = so_far ∙ (takes s t rest n w ∙ ap (λ l. outcome l t) (sym (take_rest rest n)))

  pub passes_over : (slot : Slot) → slot_effect slot ≡ passes → Spends slot s rest t → total ≡ outcome rest t
  passes_over slot e w = so_far ∙ spends_passes slot s t rest e w

  pub faults : (slot : Slot) (r : Refusal) → slot_effect slot ≡ ends r → Spends slot s rest t → total ≡ comes_to (Err r) t
  faults slot r e w = so_far ∙ spends_ends slot r s t rest e w

  pub takes_no_more : 0 < length rest → Takes s rest 0 t → total ≡ comes_to (Err takes_none) t
  takes_no_more some w = so_far ∙ takes_zero s t rest some w

-- what a write did, where its answer is known
pub writes_interrupted : {s t : Stand} {bytes : List ℕ} (r : Result Moved LinkFault) → r ≡ Ok Interrupted → Writes s bytes r t → Spends interrupts s bytes t
writes_interrupted r is w = rw is at w

pub writes_bytes : {s t : Stand} {bytes : List ℕ} (r : Result Moved LinkFault) (n : ℕ) → r ≡ Ok (Bytes n) → Writes s bytes r t → Takes s bytes n t
writes_bytes r n is w = rw is at w
