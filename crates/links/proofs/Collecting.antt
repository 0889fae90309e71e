-- How a collection goes on from read to read.
use Rattle.std.proofs.Common.{◌≡◌, ℕ, zero, suc, ◌+◌, ◌-◌, ◌<◌, ◌≤◌, List, [], ◌∷◌, ◌++◌, map, length, take}
use Rattle.std.proofs.Common.{drop, Ok, Err, Result, sym, refl, ap, ◌∙◌, inl, inr, append_assoc, suc-add, zero-add, arith}
use Rattle.std.proofs.Math.Seq.{take-append-add, drop-append-add}
use borrow.Rule.Slice.PartMut.{put_mid}
use Rattle.std.proofs.lemmas.List.{length-take-le, nil_from_length, append-nil, length-take, length-drop, drop_all, drop-drop, take_rest, take-append-drop}
use Rattle.std.proofs.lemmas.Bool.{cases_lt}
use Rattle.lines.specs.Refusals.{Refusal}
use Rattle.links.specs.Refusals.{ended}
use Rattle.links.specs.Items.{Item, byte, interruption, passes, ends, effect}
use Rattle.links.specs.Reads.{Gives, Spends, Reads}
use Rattle.links.specs.Collect.{Collected, stops, behind, collect, Collects}
use Rattle.links.specs.declared.LinkFault.{LinkFault}
use Rattle.links.specs.declared.Moved.{Moved}
use Rattle.links.specs.declared.Moved.TheVariants.{Bytes, Interrupted}

-- collections with the same parts
pub same_collected : {a b : Collected} → a.got ≡ b.got → a.answer ≡ b.answer → a.rest ≡ b.rest → a ≡ b
same_collected g a r i = record { got = g i; answer = a i; rest = r i }

behind_behind : (xs ys : List ℕ) (c : Collected) → behind xs (behind ys c) ≡ behind (xs ++ ys) c
behind_behind xs ys c = same_collected (sym (append_assoc xs ys c.got)) refl refl

-- Items by what they do

pub collect_passes : (n : ℕ) (item : Item) (items : List Item) → 0 < n → effect item ≡ passes → collect n (item ∷ items) ≡ collect n items
collect_passes zero item items h e = absurd (omega arith)
collect_passes (suc n) item items h e = rw e

pub collect_ends : (n : ℕ) (item : Item) (items : List Item) (r : Refusal) → 0 < n → effect item ≡ ends r → collect n (item ∷ items) ≡ stops (Err r) items
collect_ends zero item items r h e = absurd (omega arith)
collect_ends (suc n) item items r h e = rw e

pub collect_none : (n : ℕ) → 0 < n → collect n [] ≡ stops (Err ended) []
collect_none zero h = absurd (omega arith)
collect_none (suc n) h = refl

-- bytes in front are had first
pub collect_front : (bytes : List ℕ) (n : ℕ) (items : List Item) → collect (length bytes + n) (map byte bytes ++ items) ≡ behind bytes (collect n items)
collect_front [] n items = rw (zero-add n)
collect_front (b ∷ bytes) n items =
    rw (suc-add (length bytes) n) (ap (behind (b ∷ [])) (collect_front bytes n items) ∙ behind_behind (b ∷ []) bytes (collect n items))

-- a fill that came to `total`, of a memory that held `first`
pub record Fills (total : Collected) (first : List ℕ) (answer : Result Unit Refusal) (rest : List Item) (after : List ℕ) : Type 0 where
  pub answers : total.answer ≡ answer
  pub holds : after ≡ total.got ++ drop (length total.got) first
  pub leaves : total.rest ≡ rest

pub collects : {items rest : List Item} {first after : List ℕ} {answer : Result Unit Refusal} → Fills (collect (length first) items) first answer rest after → Collects items first answer rest after
collects f = record { answers = f.answers; holds = f.holds; leaves = f.leaves }

-- A turn of a fill: `total` is what the fill of a memory comes to, whose bytes were `first`; memory has `at` of them now,
-- and behind them what was there; a read is handed the memory from there on, which then holds `ys`.
module _ (total : Collected) (first memory ys : List ℕ) (at : ℕ) (items rest : List Item)
    (so_far : total ≡ behind (take at memory) (collect (length first - at) items))
    (unfilled : drop at memory ≡ drop at first)
    (whole : length memory ≡ length first) (open_yet : at < length memory) where
  abbrev part : List ℕ
  part = take (length memory - at) (drop at memory)

  part_length : length part ≡ length first - at
  part_length = simp (length-take, length-drop) (omega arith)

  abbrev after : List ℕ
  after = put_mid at (length memory - at) memory ys

  filled : length (take at memory) ≡ at
  filled = length-take-le at memory (omega arith)

  after_is : after ≡ take at memory ++ ys
  after_is =
      let none : drop (length memory - at) (drop at memory) ≡ [] = drop_all (length memory - at) (drop at memory) (simp length-drop (omega arith)) in
      ap (λ l. take at memory ++ (ys ++ l)) none ∙ ap (λ l. take at memory ++ l) (append-nil ys)

  -- memory from `at` on, n bytes further
  further : (n : ℕ) → drop n part ≡ drop (at + n) first
  further n = ap (drop n) (take_rest memory at ∙ unfilled) ∙ drop-drop n at first

  pub goes_on : (n : ℕ) → length ys ≡ length part → Gives items part n rest ys →
      (at + n ≤ length memory) × (total ≡ behind (take (at + n) after) (collect (length first - (at + n)) rest)) × (drop (at + n) after ≡ drop (at + n) first)
  goes_on n same given =
      let long = part_length in
      let most = given.most in
      let enough : n ≤ length ys = omega arith in
      let more : length (take n ys) ≡ n = length-take-le n ys enough in
      let parts : length first - at ≡ length (take n ys) + (length first - (at + n)) = omega arith in
      let next = collect (length first - (at + n)) rest in
      let had : collect (length first - at) items ≡ behind (take n ys) (collect (length first - (at + n)) rest) =
      rw (parts, given.given) (collect_front (take n ys) (length first - (at + n)) rest) in
      let front : take (at + n) after ≡ take at memory ++ take n ys =
      ap (take (at + n)) after_is ∙ (ap (λ k. take (k + n) (take at memory ++ ys)) (sym filled) ∙ take-append-add (take at memory) ys n) in
      let back : drop (at + n) after ≡ drop n ys =
      ap (drop (at + n)) after_is ∙ (ap (λ k. drop (k + n) (take at memory ++ ys)) (sym filled) ∙ drop-append-add (take at memory) ys n) in (
        omega arith,
        so_far ∙ (ap (behind (take at memory)) had ∙ (behind_behind (take at memory) (take n ys) next ∙ ap (λ l. behind l next) (sym front))),
        back ∙ (given.beyond ∙ further n),
      )

  -- an item that was spent left memory as it was
  unchanged : (item : Item) → Spends item items part rest ys → after ≡ memory
  unchanged item spends = after_is ∙ (ap (λ l. take at memory ++ l) (spends.kept ∙ take_rest memory at) ∙ take-append-drop at memory)

  pub passes_over : (item : Item) → effect item ≡ passes → Spends item items part rest ys →
      (total ≡ behind (take at after) (collect (length first - at) rest)) × (drop at after ≡ drop at first)
  passes_over item e spends =
      let same = unchanged item spends in
      let left : collect (length first - at) items ≡ collect (length first - at) rest =
      ap (collect (length first - at)) spends.spent ∙ collect_passes (length first - at) item rest (omega arith) e in (
        so_far ∙ (ap (behind (take at memory)) left ∙ ap (λ l. behind (take at l) (collect (length first - at) rest)) (sym same)),
        ap (drop at) same ∙ unfilled,
      )

  -- what the fill comes to where nothing more is had
  pub ends_with : (r : Refusal) → collect (length first - at) items ≡ stops (Err r) rest → after ≡ memory → Fills total first (Err r) rest after
  ends_with r e same =
      let all : total ≡ behind (take at memory) (stops (Err r) rest) = so_far ∙ ap (behind (take at memory)) e in
      let had : total.got ≡ take at memory = ap (λ (c : Collected). c.got) all ∙ append-nil (take at memory) in
      record {
        answers = ap (λ (c : Collected). c.answer) all;
        holds = same ∙ (sym (take-append-drop at memory) ∙ (ap (λ l. take at memory ++ l) unfilled ∙ rw (had, filled)));
        leaves = ap (λ (c : Collected). c.rest) all;
      }

  pub faults : (item : Item) (r : Refusal) → effect item ≡ ends r → Spends item items part rest ys → Fills total first (Err r) rest after
  faults item r e spends =
      ends_with r (ap (collect (length first - at)) spends.spent ∙ collect_ends (length first - at) item rest r (omega arith) e) (unchanged item spends)

  pub runs_out : Gives items part 0 rest ys → Fills total first (Err ended) rest after
  runs_out given =
      let long = part_length in
      let some : 0 < length part = omega arith in
      let none : items ≡ [] = nil_from_length items (elim (cases_lt 0 (length items)) [ inl h ↦ absurd (let k = given.least some h in omega arith) | inr h ↦ omega arith ]) in
      let rest_none : rest ≡ [] = sym given.given ∙ none in
      let kept : ys ≡ part = given.beyond in
      ends_with ended (ap (collect (length first - at)) none ∙ (collect_none (length first - at) (omega arith) ∙ ap (stops (Err ended)) (sym rest_none)))
      (after_is ∙ (ap (λ l. take at memory ++ l) (kept ∙ take_rest memory at) ∙ take-append-drop at memory))

-- what a read did, where its answer is known
pub reads_interrupted : {items rest : List Item} {memory after : List ℕ} (r : Result Moved LinkFault) → r ≡ Ok Interrupted → Reads items memory r rest after → Spends interruption items memory rest after
reads_interrupted r is reads = rw is at reads

pub reads_bytes : {items rest : List Item} {memory after : List ℕ} (r : Result Moved LinkFault) (n : ℕ) → r ≡ Ok (Bytes n) → Reads items memory r rest after → Gives items memory n rest after
reads_bytes r n is reads = rw is at reads
