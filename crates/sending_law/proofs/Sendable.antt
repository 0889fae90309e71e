-- Every line that is sent has a payload of 1 to 65,516 bytes, or is a marker.
use Rattle.std.proofs.Common.{◌≡◌, ℕ, zero, suc, ◌+◌, ◌<◌, ◌≤◌, Bool, true, false, if◌then◌else◌, ◌==◌, nat_lt, List, [], ◌∷◌, ◌++◌, map, length, take, drop, Ok, Err, Result}
use Rattle.std.proofs.Common.{Option, Some, None, sym, refl, ap, subst, length-append, arith, false-eqb, codes, slice_get}
use Rattle.std.proofs.lemmas.Bool.{ltb-false}
use Rattle.std.proofs.lemmas.List.{length-take}
use Rattle.lines.specs.Meaning.{channel_of}
use Rattle.lines.specs.Refusals.{Refusal}
use Rattle.lines.specs.Format.{Line, payload, flush, delimiter, response_end, encoded, framed, most_data, payload_of}
use Rattle.lines.specs.Laws.{Sendable}
use Rattle.links.specs.Slots.{Slot}
use Rattle.links.specs.Send.{send}
use Rattle.rules.specs.Refusals.{exceeds, no_data}
use Rattle.rules.specs.Sending.{Encoding, flush_line, delimiter_line, response_end_line, data_line, text_line, error_line, band_line, framed_line, line_to_send}
use Rattle.rules.specs.Sending.{Mode, binary, text, piece_size, ending, pieces_among, pieces, input_lines, LinesSent, line_first, send_lines, send_planned}
use Rattle.rules.specs.Sending.{Call, encode, new_writer, enable, write, one_line, written_by, plan}

-- each of these lines is one
pub data AreSendable : List Line → Type 0 where
  none : AreSendable []
  and : {l : Line} {ls : List Line} → Sendable l → AreSendable ls → AreSendable (l ∷ ls)

pub both : {ls ms : List Line} → AreSendable ls → AreSendable ms → AreSendable (ls ++ ms)
both none q = q
both (and s p) q = and s (both p q)

fits : (d : List ℕ) → 0 < length d → length d ≤ 65516 → Sendable (payload d)
fits d some most e is =
    let same : d ≡ e = cc in
    let long : length d ≡ length e = ap length same in
    (omega arith, omega arith)

marker : (l : Line) → payload_of l ≡ None → Sendable l
marker l is d e = absurd (let z : ◌≡◌ {A = ℕ} 0 1 = cc in omega arith)

-- the lines of pieces of at most n bytes, each with as much behind it as there is room for
pieces_fit : (more n : ℕ) (d behind : List ℕ) → 0 < n → n + length behind ≤ 65516 → AreSendable (map (λ p. payload (p ++ behind)) (pieces_among more n d))
pieces_fit zero n d behind h most = none
pieces_fit (suc more) n [] behind h most = none
pieces_fit (suc more) n (b ∷ d) behind h most =
    let long = length-append (take n (b ∷ d)) behind in
    let piece = length-take n (b ∷ d) in
    and (fits (take n (b ∷ d) ++ behind) (omega arith) (omega arith)) (pieces_fit more n (drop n (b ∷ d)) behind h most)

size_fits : (mode : Mode) → (0 < piece_size mode) × (piece_size mode + length (ending mode) ≤ 65516)
size_fits binary = (omega arith, omega arith)
size_fits text = (omega arith, omega arith)

input_fits : (mode : Mode) (d : List ℕ) (ls : List Line) → input_lines mode d ≡ Ok ls → AreSendable ls
input_fits mode d ls is = by_length (length d == 0) is where
  by_length : (none_left : Bool) → (if none_left then Err no_data else Ok (map (λ p. payload (p ++ ending mode)) (pieces (piece_size mode) d))) ≡ Ok ls → AreSendable ls
  by_length true e = absurd (let z : ◌≡◌ {A = ℕ} 0 1 = cc in omega arith)
  by_length false e =
      let same : map (λ p. payload (p ++ ending mode)) (pieces (piece_size mode) d) ≡ ls = cc in
      subst AreSendable same (pieces_fit (length d) (piece_size mode) d (ending mode) (size_fits mode).0 (size_fits mode).1)

framed_fits : (before d behind : List ℕ) (l : Line) → framed_line before d behind ≡ Ok l → Sendable l
framed_fits before d behind l is = by_tests (nat_lt most_data total) (length d == 0) refl refl is where
  total : ℕ
  total = length before + (length d + length behind)

  by_tests : (long none_left : Bool) → nat_lt most_data total ≡ long → (length d == 0) ≡ none_left →
      (if long then Err (exceeds total) else if none_left then Err no_data else Ok (framed before d behind)) ≡ Ok l → Sendable l
  by_tests true none_left h k e = absurd (let z : ◌≡◌ {A = ℕ} 0 1 = cc in omega arith)
  by_tests false true h k e = absurd (let z : ◌≡◌ {A = ℕ} 0 1 = cc in omega arith)
  by_tests false false h k e =
      let same : framed before d behind ≡ l = cc in
      let most = ltb-false most_data total h in
      let some = false-eqb (length d) 0 (sym k) in
      let all = length-append before (d ++ behind) in
      let back = length-append d behind in
      subst Sendable same (fits (before ++ (d ++ behind)) (omega arith) (omega arith))

line_fits : (e : Encoding) (l : Line) → line_to_send e ≡ Ok l → Sendable l
line_fits flush_line l is = let same : flush ≡ l = cc in subst Sendable same (marker flush refl)
line_fits delimiter_line l is = let same : delimiter ≡ l = cc in subst Sendable same (marker delimiter refl)
line_fits response_end_line l is = let same : response_end ≡ l = cc in subst Sendable same (marker response_end refl)
line_fits (data_line d) l is = framed_fits [] d [] l is
line_fits (text_line d) l is = framed_fits [] d (10 ∷ []) l is
line_fits (error_line d) l is = framed_fits (codes "ERR ") d [] l is
line_fits (band_line k d) l is = framed_fits (channel_of k ∷ []) d [] l is

written_fits : (mode : Option Mode) (d : List ℕ) (ls : List Line) → written_by mode d ≡ Ok ls → AreSendable ls
written_fits (Some mode) d ls is = input_fits mode d ls is
written_fits None d ls is = let same : [] ≡ ls = cc in subst AreSendable same none

one_fits : (r : Result Line Refusal) (ls : List Line) → ((l : Line) → r ≡ Ok l → Sendable l) → one_line r ≡ Ok ls → AreSendable ls
one_fits (Ok l) ls fit is = let same : l ∷ [] ≡ ls = cc in subst AreSendable same (and (fit l refl) none)
one_fits (Err e) ls fit is = absurd (let z : ◌≡◌ {A = ℕ} 0 1 = cc in omega arith)

no_lines : (ls : List Line) → ◌≡◌ {A = Result (List Line) Refusal} (Ok []) (Ok ls) → AreSendable ls
no_lines ls is = let same : [] ≡ ls = cc in subst AreSendable same none

plan_fits : (modes : List Mode) (call : Call) (ls : List Line) → plan modes call ≡ Ok ls → AreSendable ls
plan_fits modes (encode e) ls is = one_fits (line_to_send e) ls (line_fits e) is
plan_fits modes new_writer ls is = no_lines ls is
plan_fits modes (enable m k) ls is = no_lines ls is
plan_fits modes (write k d) ls is = written_fits (slice_get modes k) d ls is

-- those of them that are accepted whole
first_fits : (l : Line) (bytes : List ℕ) (r : Result Unit Refusal) (slots : List Slot) (others : LinesSent) → Sendable l → AreSendable others.whole → AreSendable (line_first l bytes r slots others).whole
first_fits l bytes (Ok _) slots others s p = and s p
first_fits l bytes (Err e) slots others s p = none

whole_fits : (ls : List Line) (slots : List Slot) → AreSendable ls → AreSendable (send_lines ls slots).whole
whole_fits [] slots none = none
whole_fits (l ∷ ls) slots (and s p) =
    let sent = send (encoded l) slots in
    first_fits l sent.accepted sent.answer sent.left (send_lines ls (send (encoded l) slots).left) s (whole_fits ls (send (encoded l) slots).left p)

planned_fits : (p : Result (List Line) Refusal) (slots : List Slot) → ((ls : List Line) → p ≡ Ok ls → AreSendable ls) → AreSendable (send_planned p slots).whole
planned_fits (Ok ls) slots fit = whole_fits ls slots (fit ls refl)
planned_fits (Err e) slots fit = none

pub call_fits : (modes : List Mode) (call : Call) (slots : List Slot) → AreSendable (send_planned (plan modes call) slots).whole
call_fits modes call slots = planned_fits (plan modes call) slots (plan_fits modes call)
