-- Bytes put into a memory behind those that it has.
use Rattle.std.proofs.Common.{◌≡◌, ℕ, ◌+◌, ◌-◌, ◌<◌, ◌≤◌, List, ◌++◌, length, take, drop, replicate, sym, refl, ap, ◌∙◌, subst, inl, inr, add-zero, arith}
use Rattle.std.proofs.lemmas.List.{append-nil, append_assoc, length-take-le, length-append, length-drop, nil_from_length, take-append-drop, take_at, drop_at, drop-drop, replicate-append-replicate}
use Rattle.std.proofs.lemmas.Bool.{cases_lt}
use Rattle.links.specs.Slots.{Slot, place, Stand}
use Rattle.links.specs.Writes.{Takes}
use Rattle.sinks.specs.Stands.{put, filled_stand}

pub put_none : (memory : List ℕ) (at : ℕ) (bytes : List ℕ) → length bytes ≡ 0 → memory ≡ put memory at bytes
put_none memory at bytes none = rw (nil_from_length bytes none, add-zero at) (sym (take-append-drop at memory))

-- what the memory then has up to the end of the n bytes put at a place, past it, and in all
pub record Placed (memory after bytes : List ℕ) (at n : ℕ) : Type 0 where
  pub front : take (at + n) after ≡ take at memory ++ take n bytes
  pub past : drop (at + n) after ≡ drop n (drop at memory)
  pub long : length after ≡ length memory

module _ (memory after bytes : List ℕ) (at n : ℕ) (most : n ≤ length bytes) (fits : n ≤ length memory - at) (is : after ≡ put memory at (take n bytes)) where
  taken : length (take n bytes) ≡ n
  taken = length-take-le n bytes most

  -- the place stands in the memory
  inside : at ≤ length memory → Placed memory after bytes at n
  inside h =
      let first = take at memory ++ take n bytes in
      let ahead = length-take-le at memory h in
      let had = taken in
      let both : length (take at memory ++ take n bytes) ≡ at + n = length-append (take at memory) (take n bytes) ∙ omega arith in
      let others = drop (at + n) memory in
      let left = length-drop (at + n) memory in
      let whole : after ≡ (take at memory ++ take n bytes) ++ drop (at + n) memory =
      is ∙ (ap (λ k. take at memory ++ (take n bytes ++ drop (at + k) memory)) taken ∙ sym (append_assoc (take at memory) (take n bytes) others)) in
      record {
        front = ap (take (at + n)) whole ∙ take_at first others (at + n) both;
        past = ap (drop (at + n)) whole ∙ (drop_at first others (at + n) both ∙ sym (drop-drop n at memory));
        long = ap length whole ∙ (length-append first others ∙ omega arith);
      }

  -- the place stands past the memory, so that no byte is put
  over : length memory < at → Placed memory after bytes at n
  over h =
      let none : n ≡ 0 = omega arith in
      let same : after ≡ memory = is ∙ sym (put_none memory at (take n bytes) (taken ∙ none)) in
      record {
        front = ap (take (at + n)) same ∙ rw (none, add-zero at) (sym (append-nil (take at memory)));
        past = ap (drop (at + n)) same ∙ sym (drop-drop n at memory);
        long = ap length same;
      }

  pub placed : Placed memory after bytes at n
  placed = elim (cases_lt (length memory) at) [ inl h ↦ over h | inr h ↦ inside h ]

  -- a write that puts the bytes, and uses so many places, takes them
  pub takes : (home : ℕ) (room rest : List Slot) → (0 < length bytes → 0 < length room → 0 < n) → room ≡ replicate n place ++ rest →
      Takes (filled_stand home memory at room) bytes n (filled_stand home after (at + n) rest)
  takes home room rest least used = record { most = most; least = least; used = used; at_home = refl; accepts = placed.front; keeps = placed.past }

-- the first n of some places
pub uses_places : (all n rest : ℕ) → all ≡ n + rest → replicate all place ≡ replicate n place ++ replicate rest place
uses_places all n rest parts = ap (λ k. replicate k place) parts ∙ sym (replicate-append-replicate n rest place)

pub takes_same : {s s' t : Stand} {bytes : List ℕ} {n : ℕ} → s ≡ s' → Takes s bytes n t → Takes s' bytes n t
takes_same {t = t} {bytes = bytes} {n = n} same w = subst (λ x. Takes x bytes n t) same w
