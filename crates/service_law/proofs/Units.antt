-- The course of a reader, its source and its view under marks, and what it says of the lists of units taken, reported and viewed.
use Rattle.std.proofs.Common.{◌≡◌, ℕ, ◌<◌, List, [], ◌∷◌, ◌++◌, length, Ok, refl, ap, ap₂, subst, arith}
use Rattle.lines.specs.Format.{payload}
use Rattle.links.specs.Items.{Item}
use Rattle.links.specs.Cut.{first_unit, units, after}
use Rattle.rules.specs.Readers.{View, Phase, Reader}
use Rattle.service_law.specs.Along.{at_end, next}
use Rattle.service_law.specs.Marks.{Piece, Standing, free, has, UnitMark, took, shown, edited, reported, found, resumed, behind, released, UnitGoes, UnitsGo}
use Rattle.service_law.specs.Marks.{taken, reports_of, edit_unit, edits_on, as_edited, standing, held, standing_view, edited_view, view_at, view_behind, viewed}
use Rattle.service_law.specs.Marks as life
use Rattle.service_law.proofs.Chains.{Chain, chain_goes}

-- how a reader stands, what its source has left, and what its view shows
pub record Course : Type 0 where
  pub stands : Standing
  pub left : List Item
  pub view : View

abbrev pub course : Reader → List Item → Course
course r items = record { stands = standing r.phase; left = items; view = r.view }

abbrev pub stands_behind : Standing → UnitMark → Standing
stands_behind a (took u) = has u
stands_behind (has u) (edited position b) = has (edit_unit position b u)
stands_behind a (reported u place) = behind u place
stands_behind a resumed = released a
stands_behind a m = a

abbrev pub left_behind : List Item → UnitMark → List Item
left_behind items (took u) = (first_unit items).rest
left_behind items m = items

-- a mark fixes the course behind it, and tells how the reader stood before
abbrev pub course_behind : Course → UnitMark → Course
course_behind c m = record { stands = stands_behind c.stands m; left = left_behind c.left m; view = view_behind c.view m }

abbrev pub MayCome : Course → UnitMark → Type 0
MayCome c (took u) = (c.stands ≡ free) × (u ≡ (first_unit c.left).line)
MayCome c (shown a) = c.stands ≡ a
MayCome c (edited position b) = (d : List ℕ) × (c.stands ≡ has (Ok (payload d))) × (position < length d)
MayCome c (reported u place) = c.stands ≡ has u
MayCome c (found a) = c.stands ≡ a
MayCome c resumed = Unit {0}

abbrev pub Lives : Course → List UnitMark → Course → Type 0
Lives c us d = Chain MayCome course_behind c us d

goes : (c : Course) (m : UnitMark) → MayCome c m → UnitGoes c.stands m (stands_behind c.stands m)
goes c m h = grind (arith, life.takes, life.shows, life.edits, life.reports, life.finds, life.resumes)

pub units_go : (c : Course) (us : List UnitMark) (d : Course) → Lives c us d → UnitsGo c.stands us d.stands
units_go c us d p = chain_goes MayCome course_behind UnitGoes (λ x. x.stands) goes us c d p

-- the units taken are the first of the cut
pub taken_first : (c : Course) (us : List UnitMark) (d : Course) → Lives c us d → (taken us ≡ units (length (taken us)) c.left) × (d.left ≡ after (length (taken us)) c.left)
taken_first c [] d p = (refl, ap (λ x. x.left) p)
taken_first c (took u ∷ us) d p = let q = taken_first (course_behind c (took u)) us d p.1 in (ap₂ (λ x y. x ∷ y) p.0.1 q.0, q.1)
taken_first c (m ∷ us) d p = taken_first (course_behind c m) us d p.1

pub view_last : (c : Course) (us : List UnitMark) (d : Course) → Lives c us d → d.view ≡ viewed c.view us
view_last c [] d p = ap (λ x. x.view) p
view_last c (m ∷ us) d p = view_last (course_behind c m) us d p.1

-- Reported once, as edited

abbrev pending : Standing → List UnitMark → List Piece
pending (has u) us = edits_on u us ∷ []
pending a us = []

abbrev kept : Standing → List Piece
kept (has u) = u ∷ []
kept a = []

none_more : (a : Standing) → kept a ≡ pending a [] ++ []
none_more a = grind arith

one_more : (a : Standing) (m : UnitMark) (b : Standing) (us : List UnitMark) (k : List Piece) → UnitGoes a m b → reports_of us ++ k ≡ pending b us ++ as_edited us →
    reports_of (m ∷ us) ++ k ≡ pending a (m ∷ us) ++ as_edited (m ∷ us)
one_more a m b us k life.takes e = grind arith
one_more a m b us k life.shows e = grind arith
one_more a m b us k (life.edits h) e = grind arith
one_more a m b us k life.reports e = grind arith
one_more a m b us k life.finds e = grind arith
one_more a m b us k life.resumes e = grind arith

reports_edited : {a b : Standing} {us : List UnitMark} → UnitsGo a us b → reports_of us ++ kept b ≡ pending a us ++ as_edited us
reports_edited (at_end {a}) = none_more a
reports_edited (next {a} {b} {c} {m} {ms} g p) = one_more a m b ms (kept c) g (reports_edited p)

pub reported_as_edited : (p : Phase) (us : List UnitMark) → UnitsGo free us (standing p) → reports_of us ++ held p ≡ as_edited us
reported_as_edited p us g = grind (arith, reports_edited g)

pub reported_once : (c : Course) (us : List UnitMark) (r : Reader) (items : List Item) → c.stands ≡ free → Lives c us (course r items) → reports_of us ++ held r.phase ≡ as_edited us
reported_once c us r items f g = reported_as_edited r.phase us (subst (λ a. UnitsGo a us (standing r.phase)) f (units_go c us (course r items) g))

-- The life of units, the cut and the view tell the course

pub lives_of : {a b : Standing} {us : List UnitMark} (items : List Item) (v : View) → UnitsGo a us b → taken us ≡ units (length (taken us)) items →
    Lives (record { stands = a; left = items; view = v }) us (record { stands = b; left = after (length (taken us)) items; view = viewed v us })
lives_of items v at_end e = refl
lives_of items v (next life.takes p) e = ((refl, cc), lives_of (first_unit items).rest v p cc)
lives_of items v (next (life.shows {a}) p) e = (refl, lives_of items (standing_view a) p e)
lives_of items v (next (life.edits {d} {position} {b} h) p) e = ((d, refl, h), lives_of items (edited_view position b v) p e)
lives_of items v (next (life.reports {u} {place}) p) e = (refl, lives_of items (view_at u place) p e)
lives_of items v (next life.finds p) e = (refl, lives_of items v p e)
lives_of items v (next life.resumes p) e = (tt, lives_of items v p e)
