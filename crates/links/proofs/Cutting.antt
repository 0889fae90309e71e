-- A prefix that was read, and the payload that it wants, are the first unit.
use Rattle.std.proofs.Common.{◌≡◌, ℕ, zero, suc, ◌≤◌, List, [], ◌∷◌, ◌++◌, length, take, drop, Ok, Err, Result, sym, refl, ap, ◌∙◌, arith}
use borrow.Rule.Slice.PartMut.{put_mid, post_of}
use Rattle.std.proofs.lemmas.List.{length-take-le, length-append, take_at, drop_at, drop_all, append-nil}
use Rattle.std.proofs.lemmas.Slice.{take-put_mid_below}
use Rattle.lines.specs.Refusals.{Refusal}
use Rattle.lines.specs.Decoding.{Prefix, marks, wants, prefix, limited, Fits}
use Rattle.lines.specs.Meaning.{decode_refusal}
use Rattle.lines.specs.declared.decode.DecodeFault.{DecodeFault}
use Rattle.links.specs.Items.{Item, Effect, gives, passes, ends, effect}
use Rattle.links.specs.Collect.{Collected, by_effect, collect, Collects}
use Rattle.links.specs.Cut.{UnitTaken, by_prefix, first_unit}
use Rattle.links.specs.Meaning.{read_refusal, marker_line, TakesUnit}
use Rattle.links.specs.declared.source.ReadFault.{ReadFault}
use Rattle.links.specs.declared.unit.Marker.{Marker}
use Rattle.links.specs.declared.unit.LineKind.TheVariants as kinds
use Rattle.links.specs.declared.unit.UnitFault.TheVariants.{Decode, Link}

-- what is collected whole has as many bytes as were wanted
length_by : (e : Effect ℕ) (n : ℕ) (u : Unit) (next same : Collected) (items : List Item) →
    (next.answer ≡ Ok u → length next.got ≡ n) → (same.answer ≡ Ok u → length same.got ≡ suc n) →
    (by_effect e next same items).answer ≡ Ok u → length (by_effect e next same items).got ≡ suc n
length_by (gives b) n u next same items p q h = ap (λ k. suc k) (p h)
length_by passes n u next same items p q h = q h
length_by (ends r) n u next same items p q h = absurd (let z : ◌≡◌ {A = ℕ} 0 1 = cc in omega arith)

pub collect_length : (n : ℕ) (items : List Item) (u : Unit) → (collect n items).answer ≡ Ok u → length (collect n items).got ≡ n
collect_length zero items u h = refl
collect_length (suc n) [] u h = absurd (let z : ◌≡◌ {A = ℕ} 0 1 = cc in omega arith)
collect_length (suc n) (item ∷ items) u h =
    length_by (effect item) n u (collect n items) (collect (suc n) items) items (collect_length n items u) (collect_length (suc n) items u) h

-- a memory that was filled holds what was collected
pub filled : {items rest : List Item} {memory after : List ℕ} {u : Unit} → Collects items memory (Ok u) rest after → (collect (length memory) items).got ≡ after
filled {items} {rest} {memory} {after} {u} read =
    let long = collect_length (length memory) items u read.answers in
    let none : drop (length (collect (length memory) items).got) memory ≡ [] = drop_all _ memory (omega arith) in
    sym (read.holds ∙ (ap (λ l. (collect (length memory) items).got ++ l) none ∙ append-nil _))

-- what stands behind the first `a` bytes after a write there
written : (a k n : ℕ) (memory ys : List ℕ) → a ≤ length memory → length ys ≡ n → take n (drop a (put_mid a k memory ys)) ≡ ys
written a k n memory ys within long =
    let start : length (take a memory) ≡ a = length-take-le a memory within in
    rw (drop_at (take a memory) (ys ++ post_of a k memory) a start, take_at ys (post_of a k memory) n long)

-- the prefix p was read into the four bytes of `front`
module _ {items between : List Item} {front p : List ℕ} {u : Unit} (four : length front ≡ 4) (read : Collects items front (Ok u) between p) where
  prefix_long : length p ≡ 4
  prefix_long = ap length (sym (filled read)) ∙ (collect_length (length front) items u read.answers ∙ four)

  first_is : first_unit items ≡ by_prefix (limited (prefix p)) between
  first_is =
      let a : (collect 4 items).answer ≡ Ok u = rw four at read.answers in
      let b : (collect 4 items).got ≡ p = rw four at (filled read) in
      let c : (collect 4 items).rest ≡ between = rw four at read.leaves in
      rw (a, b, c)

  line_is : (l : Result Prefix Refusal) → limited (prefix p) ≡ l → first_unit items ≡ by_prefix l between
  line_is l e = first_is ∙ ap (λ x. by_prefix x between) e

  pub refuses : (memory : List ℕ) (e : DecodeFault) → limited (prefix p) ≡ Err (decode_refusal e) → TakesUnit items (Err (Decode e)) between memory
  refuses memory e h =
      let w = line_is _ h in
      record { line = ap (λ (x : UnitTaken). x.line) w; leaves = ap (λ (x : UnitTaken). x.rest) w; prefixed = tt }

  pub takes_marker : (memory : List ℕ) (m : Marker) → limited (prefix p) ≡ Ok (marks (marker_line m)) → take 4 memory ≡ p → TakesUnit items (Ok (kinds.Marker m)) between memory
  takes_marker memory m h stands =
      let w = line_is _ h in
      record { line = ap (λ (x : UnitTaken). x.line) w; leaves = ap (λ (x : UnitTaken). x.rest) w; prefixed = (ap (λ l. limited (prefix l)) stands ∙ h, tt) }

  -- the n bytes that it wants were read into `part`
  module _ {rest : List Item} {part ys : List ℕ} (n : ℕ) (announces : limited (prefix p) ≡ Ok (wants n)) where
    pub cut_short : (memory : List ℕ) (e : ReadFault) → Collects between part (Err (read_refusal e)) rest ys → length part ≡ n → TakesUnit items (Err (Link e)) rest memory
    cut_short memory e more long =
        let a : (collect n between).answer ≡ Err (read_refusal e) = rw long at more.answers in
        let c : (collect n between).rest ≡ rest = rw long at more.leaves in
        let w = line_is _ announces in
        record { line = ap (λ (x : UnitTaken). x.line) w ∙ rw a; leaves = ap (λ (x : UnitTaken). x.rest) w ∙ c; prefixed = tt }

    pub takes_data : {v : Unit} → Collects between part (Ok v) rest ys → length part ≡ n → length ys ≡ n → Fits (wants n) → (k : ℕ) (past : List ℕ) →
        TakesUnit items (Ok (kinds.Data n)) rest (put_mid 4 k (p ++ past) ys)
    takes_data {v} more long full fits k past =
        let a : (collect n between).answer ≡ Ok v = rw long at more.answers in
        let b : (collect n between).got ≡ ys = rw long at (filled more) in
        let c : (collect n between).rest ≡ rest = rw long at more.leaves in
        let w = line_is _ announces in
        let within : 4 ≤ length (p ++ past) = simp length-append (omega (arith, prefix_long)) in
        let stands : take 4 (put_mid 4 k (p ++ past) ys) ≡ p = take-put_mid_below 4 k (p ++ past) ys 4 (omega arith) within ∙ take_at p past 4 prefix_long in
        record {
          line = ap (λ (x : UnitTaken). x.line) w ∙ rw (a, b, written 4 k n (p ++ past) ys within full);
          leaves = ap (λ (x : UnitTaken). x.rest) w ∙ c;
          prefixed = (ap (λ l. limited (prefix l)) stands ∙ announces, fits);
        }
