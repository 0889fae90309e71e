-- Lines that were sent, and prefixes that are refused, are cut from their bytes again.
use Rattle.std.proofs.Common.{◌≡◌, ℕ, zero, suc, ◌+◌, List, [], ◌∷◌, ◌++◌, map, length, replicate, Ok, Err, Result, sym, refl, ap, ◌∙◌, append-nil, add-zero, suc-add, zero-add}
use Rattle.std.proofs.lemmas.List.{map-append}
use Rattle.lines.specs.Refusals.{Refusal}
use Rattle.lines.specs.Format.{Line, encoded}
use Rattle.lines.specs.Decoding.{prefix, limited}
use Rattle.lines.proofs.Decoded.{writes}
use Rattle.links.specs.Refusals.{ended}
use Rattle.links.specs.Items.{Item, byte}
use Rattle.links.specs.Collect.{Collected, collect}
use Rattle.links.specs.Cut.{UnitTaken, unit, by_prefix, by_answer, first_unit, units}
use Rattle.links.specs.Laws.{uninterrupted}
use Rattle.links.proofs.Collecting.{same_collected, collect_front}
use Rattle.links.proofs.Dividing.{lines, passed_over}
use Rattle.sending_law.specs.Law.{Planted, a_line, a_prefix, bytes_of, lines_of, units_of, ArePrefixes}
use Rattle.sending_law.proofs.Sendable.{AreSendable, and}

-- the first unit of a source, where its list without interruptions is known
module _ (items calm : List Item) (is : uninterrupted items ≡ calm) where
  pub its_line : (first_unit items).line ≡ (first_unit calm).line
  its_line = sym (ap (λ (u : UnitTaken). u.line) (passed_over items)) ∙ ap (λ l. (first_unit l).line) is

  pub its_rest : uninterrupted (first_unit items).rest ≡ (first_unit calm).rest
  its_rest = sym (ap (λ (u : UnitTaken). u.rest) (passed_over items)) ∙ ap (λ l. (first_unit l).rest) is

-- four bytes that are refused as a prefix are a unit
prefix_unit : (p : List ℕ) (e : Refusal) (items : List Item) → length p ≡ 4 → limited (prefix p) ≡ Err e → first_unit (map byte p ++ items) ≡ unit (Err e) items
prefix_unit p e items four refused =
    let had : collect 4 (map byte p ++ items) ≡ record { got = p; answer = Ok tt; rest = items } =
    ap (λ n. collect n (map byte p ++ items)) (sym four ∙ sym (add-zero (length p))) ∙ (collect_front p 0 items ∙ same_collected (append-nil p) refl refl) in
    ap (λ (c : Collected). by_answer c.answer c.got c.rest) had ∙ ap (λ r. by_prefix r items) refused

-- past the end
ended_units : (more : ℕ) (items : List Item) → uninterrupted items ≡ [] → units more items ≡ replicate more (Err ended)
ended_units zero items is = refl
ended_units (suc more) items is =
    let line = its_line items [] is in
    rw line (ap (λ l. Err ended ∷ l) (ended_units more (first_unit items).rest (its_rest items [] is)))

-- a unit in front, and those behind it
front_unit : (u : Result Line Refusal) (us : List (Result Line Refusal)) (n : ℕ) (items calm rest : List Item) → uninterrupted items ≡ calm → first_unit calm ≡ unit u rest →
    (uninterrupted (first_unit items).rest ≡ rest → units n (first_unit items).rest ≡ us) → units (suc n) items ≡ u ∷ us
front_unit u us n items calm rest is first behind =
    let line = its_line items calm is ∙ ap (λ (x : UnitTaken). x.line) first in
    let left = its_rest items calm is ∙ ap (λ (x : UnitTaken). x.rest) first in
    rw line (ap (λ l. u ∷ l) (behind left))

pub return_all : (ps : List Planted) (items : List Item) (more : ℕ) → AreSendable (lines_of ps) → ArePrefixes ps → uninterrupted items ≡ map byte (bytes_of ps) →
    units (length ps + more) items ≡ units_of ps ++ replicate more (Err ended)
return_all [] items more s p is = rw (zero-add more) (ended_units more items is)
return_all (a_line l ∷ ps) items more (and s t) p is =
    let bytes : map byte (encoded l ++ bytes_of ps) ≡ map byte (encoded l) ++ map byte (bytes_of ps) = map-append byte (encoded l) (bytes_of ps) in
    rw (suc-add (length ps) more)
    (front_unit (Ok l) (units_of ps ++ replicate more (Err ended)) (length ps + more) items (map byte (encoded l) ++ map byte (bytes_of ps)) (map byte (bytes_of ps))
    (is ∙ bytes) (lines l (encoded l) (map byte (bytes_of ps)) (writes l s)) (λ left. return_all ps (first_unit items).rest more t p left))
return_all (a_prefix q e ∷ ps) items more s p is =
    let bytes : map byte (q ++ bytes_of ps) ≡ map byte q ++ map byte (bytes_of ps) = map-append byte q (bytes_of ps) in
    rw (suc-add (length ps) more)
    (front_unit (Err e) (units_of ps ++ replicate more (Err ended)) (length ps + more) items (map byte q ++ map byte (bytes_of ps)) (map byte (bytes_of ps))
    (is ∙ bytes) (prefix_unit q e (map byte (bytes_of ps)) p.0 p.1) (λ left. return_all ps (first_unit items).rest more s p.2 left))
