-- Decoding is the inverse of the relation between lines and bytes.
use Rattle.std.proofs.Common.{◌≡◌, ℕ, ◌+◌, ◌-◌, ◌<◌, ◌≤◌, ◌⊎◌, List, ◌++◌, length, take, drop, Some, None, Ok, Err}
use Rattle.std.proofs.Common.{Option, Result, sym, refl, ap, ◌∙◌, inl, inr, append_assoc, arith, length-append, length-drop, take-append-drop, length-take-le, take_at, drop_at}
use Rattle.std.proofs.Math.Seq.{take-append_seam}
use Rattle.std.proofs.lemmas.List.{take-append-le}
use Rattle.std.proofs.lemmas.Bool.Decides.{nat_tests}
use Rattle.std.proofs.lemmas.Bool.{cases_lt, le-ltb}
use Rattle.lines.specs.Refusals.{Refusal}
use Rattle.hex_digits.specs.Digits.{hex, length_field}
use Rattle.lines.specs.Format.{Line, payload, flush, delimiter, response_end, Encodes, encoded}
use Rattle.lines.specs.Decoding.{Prefix, marks, wants, complete, incomplete, announced, announced_by, prefix, limited, streamed_by, streamed}
use Rattle.lines.specs.Laws.{Sendable}
use Rattle.hex_digits.proofs.Reading.{four_bytes, number_written}

-- Bytes by their prefix

by_prefix : (s : List ℕ) → 4 ≤ length s → streamed s ≡ streamed_by s (limited (prefix (take 4 s)))
by_prefix s h = rw (le-ltb (length s) 4 h)

by_value : (p t : List ℕ) (v : ℕ) → length_field p ≡ Some v → streamed (p ++ t) ≡ streamed_by (p ++ t) (limited (announced v))
by_value p t v h =
    let n = four_bytes p v h in
    let l : 4 ≤ length (p ++ t) = simp length-append (omega arith) in
    by_prefix (p ++ t) l ∙ rw (take_at p t 4 n, h)

pub announces : (w : ℕ) → 0 < w → w ≤ 65516 → limited (announced (w + 4)) ≡ Ok (wants w)
announces w h i = let e : w + 4 - 4 ≡ w = omega arith in grind (arith, nat_tests)

whole_line : (s : List ℕ) (w : ℕ) → w + 4 ≤ length s → streamed_by s (Ok (wants w)) ≡ Ok (complete (payload (take w (drop 4 s))) (w + 4))
whole_line s w h = grind (arith, nat_tests)

-- A line's bytes are read back

reads_payload : (p d rest : List ℕ) → length_field p ≡ Some (length d + 4) → 0 < length d → length d ≤ 65516 →
    streamed (p ++ (d ++ rest)) ≡ Ok (complete (payload d) (length d + 4))
reads_payload p d rest v h i =
    let n = four_bytes p (length d + 4) v in
    let long : length d + 4 ≤ length (p ++ (d ++ rest)) = simp length-append (omega arith) in
    by_value p (d ++ rest) (length d + 4) v
    ∙ (ap (λ x. streamed_by (p ++ (d ++ rest)) x) (announces (length d) h i)
    ∙ (whole_line (p ++ (d ++ rest)) (length d) long ∙ rw (drop_at p (d ++ rest) 4 n, take-append_seam d rest)))

pub reads : (l : Line) (bs rest : List ℕ) → Encodes l bs → streamed (bs ++ rest) ≡ Ok (complete l (length bs))
reads (payload d) bs rest e =
    let n = four_bytes e.0 (length d + 4) e.2 in
    let m : length (e.0 ++ d) ≡ length d + 4 = simp length-append (omega arith) in
    rw (e.1, m, append_assoc) (reads_payload e.0 d rest e.2 e.3 e.4)
reads flush bs rest e = let n = four_bytes bs 0 e in by_value bs rest 0 e ∙ rw n
reads delimiter bs rest e = let n = four_bytes bs 1 e in by_value bs rest 1 e ∙ rw n
reads response_end bs rest e = let n = four_bytes bs 2 e in by_value bs rest 2 e ∙ rw n

-- What is read began with a line's bytes

-- the value v gave the line l of n bytes
abbrev Gave : Line → ℕ → List ℕ → ℕ → Type 0
Gave l n s v =
    ((v ≡ 0) × (l ≡ flush) × (n ≡ 4))
    ⊎ (((v ≡ 1) × (l ≡ delimiter) × (n ≡ 4))
    ⊎ (((v ≡ 2) × (l ≡ response_end) × (n ≡ 4))
    ⊎ ((5 ≤ v) × (v ≤ 65520) × (v ≤ length s) × (l ≡ payload (take (v - 4) (drop 4 s))) × (n ≡ v))))

gave : (l : Line) (n : ℕ) (s : List ℕ) (v : ℕ) → streamed_by s (limited (announced v)) ≡ Ok (complete l n) → Gave l n s v
gave l n s v h = grind (arith, nat_tests)

abbrev Found : Line → ℕ → List ℕ → Type 0
Found l n s = (bs : List ℕ) × (rest : List ℕ) × (s ≡ bs ++ rest) × (length bs ≡ n) × Encodes l bs

found_marker : (l : Line) (n : ℕ) (s : List ℕ) → 4 ≤ length s → n ≡ 4 → Encodes l (take 4 s) → Found l n s
found_marker l n s i e k = (take 4 s, drop 4 s, sym (take-append-drop 4 s), length-take-le 4 s i ∙ sym e, k)

-- four bytes, w more, and the rest
in_three : (s : List ℕ) (w : ℕ) → (take 4 s ++ take w (drop 4 s)) ++ drop w (drop 4 s) ≡ s
in_three s w =
    append_assoc (take 4 s) (take w (drop 4 s)) (drop w (drop 4 s))
    ∙ (ap (λ t. take 4 s ++ t) (take-append-drop w (drop 4 s)) ∙ take-append-drop 4 s)

found_payload : (s : List ℕ) (v : ℕ) → 5 ≤ v → v ≤ 65520 → v ≤ length s → length_field (take 4 s) ≡ Some v →
    Found (payload (take (v - 4) (drop 4 s))) v s
found_payload s v a b c h =
    let four : length (take 4 s) ≡ 4 = length-take-le 4 s (omega arith) in
    let long : length (take (v - 4) (drop 4 s)) ≡ v - 4 = length-take-le (v - 4) (drop 4 s) (simp length-drop (omega arith)) in
    let back : v - 4 + 4 ≡ v = omega arith in (
      take 4 s ++ take (v - 4) (drop 4 s),
      drop (v - 4) (drop 4 s),
      sym (in_three s (v - 4)),
      simp length-append (omega arith),
      (take 4 s, refl, rw (long, back) h, omega arith, omega arith),
    )

found_by : (l : Line) (n : ℕ) (s : List ℕ) (o : Option ℕ) → 4 ≤ length s → length_field (take 4 s) ≡ o → streamed_by s (limited (announced_by o)) ≡ Ok (complete l n) → Found l n s
found_by l n s None i h e = absurd (grind arith)
found_by l n s (Some v) i h e =
    elim (gave l n s v e) [
      | inl w ↦ found_marker l n s i w.2 (rw w.1 (h ∙ ap (λ x. Some x) w.0))
      | inr q ↦ elim q [
        | inl w ↦ found_marker l n s i w.2 (rw w.1 (h ∙ ap (λ x. Some x) w.0))
        | inr r ↦ elim r [
          | inl w ↦ found_marker l n s i w.2 (rw w.1 (h ∙ ap (λ x. Some x) w.0))
          | inr w ↦ rw (w.3, w.4) (found_payload s v w.0 w.1 w.2 h)
        ]
      ]
    ]

short : (l : Line) (n : ℕ) (s : List ℕ) → length s < 4 → streamed s ≡ Ok (complete l n) → ⊥
short l n s h e = grind (arith, nat_tests)

pub only : (l : Line) (n : ℕ) (s : List ℕ) → streamed s ≡ Ok (complete l n) → Found l n s
only l n s e =
    elim (cases_lt (length s) 4) [
      | inl h ↦ absurd (short l n s h e)
      | inr h ↦ found_by l n s (length_field (take 4 s)) h refl (sym (by_prefix s h) ∙ e)
    ]

-- What is written is a line's bytes

pub writes : (l : Line) → Sendable l → Encodes l (encoded l)
writes (payload d) h =
    let b = h d refl in
    (hex (length d + 4), refl, number_written (length d + 4) (omega arith), b.0, b.1)
writes flush h = number_written 0 (omega arith)
writes delimiter h = number_written 1 (omega arith)
writes response_end h = number_written 2 (omega arith)

-- More bytes

more : (s t : List ℕ) → 4 ≤ length s → streamed (s ++ t) ≡ streamed_by (s ++ t) (limited (prefix (take 4 s)))
more s t h =
    let l : 4 ≤ length (s ++ t) = simp length-append (omega arith) in
    by_prefix (s ++ t) l ∙ rw (take-append-le 4 s t h)

refused_by : (s s' : List ℕ) (p : Result Prefix Refusal) (e : Refusal) → streamed_by s p ≡ Err e → streamed_by s' p ≡ Err e
refused_by s s' (Err x) e h = grind arith
refused_by s s' (Ok (marks l)) e h = absurd (grind arith)
refused_by s s' (Ok (wants w)) e h = grind (arith, nat_tests)

short_waits : (s : List ℕ) (e : Refusal) → length s < 4 → streamed s ≡ Err e → ⊥
short_waits s e h k = grind (arith, nat_tests)

pub stays_refused : (s t : List ℕ) (e : Refusal) → streamed s ≡ Err e → streamed (s ++ t) ≡ Err e
stays_refused s t e k =
    elim (cases_lt (length s) 4) [
      | inl h ↦ absurd (short_waits s e h k)
      | inr h ↦ more s t h ∙ refused_by s (s ++ t) (limited (prefix (take 4 s))) e (sym (by_prefix s h) ∙ k)
    ]

completes_by : (s s' : List ℕ) (n : ℕ) (p : Result Prefix Refusal) → streamed_by s p ≡ Ok (incomplete n) → length s' ≡ length s + n →
    (l : Line) × (streamed_by s' p ≡ Ok (complete l (length s + n)))
completes_by s s' n (Err x) h k = absurd (grind arith)
completes_by s s' n (Ok (marks l)) h k = absurd (grind arith)
completes_by s s' n (Ok (wants w)) h k = (payload (take w (drop 4 s')), grind (arith, nat_tests))

pub completes : (s t : List ℕ) (n : ℕ) → 4 ≤ length s → streamed s ≡ Ok (incomplete n) → length t ≡ n →
    (l : Line) × (streamed (s ++ t) ≡ Ok (complete l (length s + n)))
completes s t n h k m =
    let long : length (s ++ t) ≡ length s + n = simp length-append (omega arith) in
    let p = completes_by s (s ++ t) n (limited (prefix (take 4 s))) (sym (by_prefix s h) ∙ k) long in
    (p.0, more s t h ∙ p.1)
