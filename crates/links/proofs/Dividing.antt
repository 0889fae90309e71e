-- The cut divides every list in order.
use Rattle.std.proofs.Common.{◌≡◌, ℕ, zero, suc, ◌+◌, ◌<◌, List, [], ◌∷◌, ◌++◌, map, length, Some, Ok, Err, Result, sym, refl, ap, ◌∙◌, append_assoc, append-nil, add-zero, arith}
use Rattle.std.proofs.lemmas.List.{map-append}
use Rattle.lines.specs.Refusals.{Refusal}
use Rattle.hex_digits.specs.Digits.{length_field}
use Rattle.lines.specs.Format.{Line, payload, flush, delimiter, response_end, Encodes}
use Rattle.lines.specs.Decoding.{Prefix, marks, wants, announced, prefix, limited}
use Rattle.links.specs.Items.{Item, byte, Effect, gives, passes, ends, effect}
use Rattle.links.specs.Collect.{Collected, behind, by_effect, collect}
use Rattle.links.specs.Cut.{UnitTaken, unit, line_if, by_prefix, by_answer, first_unit}
use Rattle.links.specs.Laws.{kept, uninterrupted}
use Rattle.hex_digits.proofs.Reading.{four_bytes}
use Rattle.lines.proofs.Decoded.{announces}
use Rattle.links.proofs.Collecting.{same_collected, collect_front}

-- A unit is a front of the list

abbrev Front : List Item → List Item → Type 0
Front items rest = (taken : List Item) × (items ≡ taken ++ rest)

then : {items rest : List Item} (item : Item) → Front items rest → Front (item ∷ items) rest
then item f = (item ∷ f.0, ap (λ l. item ∷ l) f.1)

front_by : (e : Effect ℕ) (item : Item) (next same : Collected) (items : List Item) → Front items next.rest → Front items same.rest →
    Front (item ∷ items) (by_effect e next same items).rest
front_by (gives b) item next same items f g = then item f
front_by passes item next same items f g = then item g
front_by (ends r) item next same items f g = (item ∷ [], refl)

collected_front : (n : ℕ) (items : List Item) → Front items (collect n items).rest
collected_front zero items = ([], refl)
collected_front (suc n) [] = ([], refl)
collected_front (suc n) (item ∷ items) =
    front_by (effect item) item (collect n items) (collect (suc n) items) items (collected_front n items) (collected_front (suc n) items)

prefix_front : (p : Result Prefix Refusal) (items : List Item) → Front items (by_prefix p items).rest
prefix_front (Ok (marks l)) items = ([], refl)
prefix_front (Ok (wants n)) items = collected_front n items
prefix_front (Err e) items = ([], refl)

answer_front : (r : Result Unit Refusal) (p : List ℕ) (items : List Item) → Front items (by_answer r p items).rest
answer_front (Ok _) p items = prefix_front (limited (prefix p)) items
answer_front (Err e) p items = ([], refl)

-- four bytes are more than none, so that something of a list that is not empty is taken
some_taken : (n : ℕ) (items : List Item) (item : Item) → (taken : List Item) × (item ∷ items ≡ (item ∷ taken) ++ (collect (suc n) (item ∷ items)).rest)
some_taken n items item = taken_by (effect item) where
  taken_by : (e : Effect ℕ) → (taken : List Item) × (item ∷ items ≡ (item ∷ taken) ++ (by_effect e (collect n items) (collect (suc n) items) items).rest)
  taken_by (gives b) = let f = collected_front n items in (f.0, ap (λ l. item ∷ l) f.1)
  taken_by passes = let f = collected_front (suc n) items in (f.0, ap (λ l. item ∷ l) f.1)
  taken_by (ends r) = ([], refl)

pub fronts : (items : List Item) → (taken : List Item) × (items ≡ taken ++ (first_unit items).rest) × (0 < length items → 0 < length taken)
fronts [] = ([], refl, λ h. h)
fronts (item ∷ items) =
    let f = some_taken 3 items item in
    let g = answer_front (collect 4 (item ∷ items)).answer (collect 4 (item ∷ items)).got (collect 4 (item ∷ items)).rest in
    ((item ∷ f.0) ++ g.0, f.1 ∙ (ap (λ l. (item ∷ f.0) ++ l) g.1 ∙ sym (append_assoc (item ∷ f.0) g.0 _)), λ h. omega arith)

-- Interruptions change no unit

-- what is collected, with the interruptions taken out of what is left
abbrev undisturbed : Collected → Collected
undisturbed c = record { got = c.got; answer = c.answer; rest = uninterrupted c.rest }

undisturbed_by : (e : Effect ℕ) (item : Item) (n : ℕ) (items : List Item) → effect item ≡ e →
    collect n (uninterrupted items) ≡ undisturbed (collect n items) → collect (suc n) (uninterrupted items) ≡ undisturbed (collect (suc n) items) →
    collect (suc n) (kept e item (uninterrupted items)) ≡ undisturbed (by_effect e (collect n items) (collect (suc n) items) items)
undisturbed_by (gives b) item n items h p q = rw h (ap (behind (b ∷ [])) p)
undisturbed_by passes item n items h p q = q
undisturbed_by (ends r) item n items h p q = rw h

collect_uninterrupted : (n : ℕ) (items : List Item) → collect n (uninterrupted items) ≡ undisturbed (collect n items)
collect_uninterrupted zero items = refl
collect_uninterrupted (suc n) [] = refl
collect_uninterrupted (suc n) (item ∷ items) =
    undisturbed_by (effect item) item n items refl (collect_uninterrupted n items) (collect_uninterrupted (suc n) items)

abbrev calm : UnitTaken → UnitTaken
calm u = unit u.line (uninterrupted u.rest)

prefix_uninterrupted : (p : Result Prefix Refusal) (items : List Item) → by_prefix p (uninterrupted items) ≡ calm (by_prefix p items)
prefix_uninterrupted (Ok (marks l)) items = refl
prefix_uninterrupted (Ok (wants n)) items = ap (λ (c : Collected). unit (line_if c.answer (payload c.got)) c.rest) (collect_uninterrupted n items)
prefix_uninterrupted (Err e) items = refl

answer_uninterrupted : (r : Result Unit Refusal) (p : List ℕ) (items : List Item) → by_answer r p (uninterrupted items) ≡ calm (by_answer r p items)
answer_uninterrupted (Ok _) p items = prefix_uninterrupted (limited (prefix p)) items
answer_uninterrupted (Err e) p items = refl

pub passed_over : (items : List Item) → first_unit (uninterrupted items) ≡ calm (first_unit items)
passed_over items =
    ap (λ (c : Collected). by_answer c.answer c.got c.rest) (collect_uninterrupted 4 items)
    ∙ answer_uninterrupted (collect 4 items).answer (collect 4 items).got (collect 4 items).rest

-- The bytes of a line are that line

-- bytes in front, as many as are wanted
collect_bytes : (n : ℕ) (bytes : List ℕ) (items : List Item) → length bytes ≡ n → collect n (map byte bytes ++ items) ≡ record { got = bytes; answer = Ok tt; rest = items }
collect_bytes n bytes items e =
    ap (λ k. collect k (map byte bytes ++ items)) (sym e ∙ sym (add-zero (length bytes)))
    ∙ (collect_front bytes 0 items ∙ same_collected (append-nil bytes) refl refl)

unit_of : (p : List ℕ) (items : List Item) (v : ℕ) → length_field p ≡ Some v → first_unit (map byte p ++ items) ≡ by_prefix (limited (announced v)) items
unit_of p items v h =
    ap (λ (c : Collected). by_answer c.answer c.got c.rest) (collect_bytes 4 p items (four_bytes p v h)) ∙ rw h

pub lines : (l : Line) (bs : List ℕ) (items : List Item) → Encodes l bs → first_unit (map byte bs ++ items) ≡ unit (Ok l) items
lines (payload d) bs items e =
    rw (e.1, map-append byte e.0 d, append_assoc (map byte e.0) (map byte d) items)
    (unit_of e.0 (map byte d ++ items) (length d + 4) e.2
    ∙ (ap (λ x. by_prefix x (map byte d ++ items)) (announces (length d) e.3 e.4)
    ∙ ap (λ (c : Collected). unit (line_if c.answer (payload c.got)) c.rest) (collect_bytes (length d) d items refl)))
lines flush bs items e = unit_of bs items 0 e
lines delimiter bs items e = unit_of bs items 1 e
lines response_end bs items e = unit_of bs items 2 e
