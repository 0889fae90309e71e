-- What one read_line and one peek_line do to units; and that the law lets them do nothing else.
use Rattle.std.proofs.Common.{◌≡◌, Bool, List, [], ◌∷◌, ◌++◌, Ok, Option, Result, refl, arith}
use Rattle.lines.specs.Refusals.{Refusal}
use Rattle.lines.specs.Format.{Line}
use Rattle.links.specs.Items.{Item}
use Rattle.links.specs.Cut.{first_unit}
use Rattle.rules.specs.Readers.{Stops, View, the_line, Phase, ready, holds, Reader, Verdict, judged, verdict_in, verdict, left_in, answer, read_phase, peek_phase, read_after, peek_after}
use Rattle.rules.specs.Readers as readers
use Rattle.rules.specs.Sessions.{Place, Way, whole, band_rule, destination}
use Rattle.service_law.specs.Marks.{Piece, free, has, UnitMark, took, shown, reported, standing, held, given_to_windows}
use Rattle.service_law.specs.Law.{ReadBy, PeekBy, peeked, answer_at}
use Rattle.service_law.specs.Law as law
use Rattle.service_law.proofs.Units.{Course, Lives, course}

-- a reader that is ready takes a unit, one that holds a line reports it or shows it, and one that is done shows that
abbrev read_by_phase : Phase → Piece → Place → List UnitMark
read_by_phase ready u place = took u ∷ reported u place ∷ []
read_by_phase (holds l) u place = reported (Ok l) place ∷ []
read_by_phase p u place = shown (standing p) ∷ []

abbrev peek_by_phase : Phase → Piece → UnitMark → List UnitMark
peek_by_phase ready u m = took u ∷ m ∷ []
peek_by_phase p u m = shown (standing p) ∷ []

abbrev pub read_place : Way → Reader → List Item → Place
read_place way r items = destination way (verdict r items)

abbrev pub read_marks : Way → Reader → List Item → List UnitMark
read_marks way r items = read_by_phase r.phase (first_unit items).line (read_place way r items)

abbrev pub peek_marks : Reader → List Item → List UnitMark
peek_marks r items = peek_by_phase r.phase (first_unit items).line (peeked (first_unit items).line (verdict r items))

-- a unit that was judged, read or peeked: behind it the reader stands as its phase says, and the view shows it, wherever it went
judged_read : (way : Way) (s : Stops) (flag : Bool) (u : Piece) (items : List Item) (v : View) →
    Lives (record { stands = has u; left = items; view = v }) (reported u (destination way (judged s flag u)) ∷ [])
    (record { stands = standing (read_phase ready (judged s flag u)); left = items; view = readers.shown (judged s flag u) })
judged_read way s flag u items v = grind arith

judged_peeked : (s : Stops) (flag : Bool) (u : Piece) (items : List Item) (v : View) →
    Lives (record { stands = has u; left = items; view = v }) (peeked u (judged s flag u) ∷ [])
    (record { stands = standing (peek_phase ready (judged s flag u)); left = items; view = readers.shown (judged s flag u) })
judged_peeked s flag u items v = grind arith

held_read : (way : Way) (l : Line) (items : List Item) (v : View) →
    Lives (record { stands = has (Ok l); left = items; view = v }) (reported (Ok l) (band_rule way l) ∷ []) (record { stands = free; left = items; view = the_line l })
held_read way l items v = grind arith

pub read_lives : (way : Way) (r : Reader) (items : List Item) → Lives (course r items) (read_marks way r items) (course (read_after r items) (left_in r.phase items))
read_lives way r items = go r.phase
  where
    go : (p : Phase) → Lives (record { stands = standing p; left = items; view = r.view }) (read_by_phase p (first_unit items).line (destination way (verdict_in r.stops r.flag p items)))
        (record { stands = standing (read_phase p (verdict_in r.stops r.flag p items)); left = left_in p items; view = readers.shown (verdict_in r.stops r.flag p items) })
    go ready = ((refl, refl), judged_read way r.stops r.flag (first_unit items).line (first_unit items).rest r.view)
    go (holds l) = held_read way l items r.view
    go p = (refl, refl)

peek_lives : (r : Reader) (items : List Item) → Lives (course r items) (peek_marks r items) (course (peek_after r items) (left_in r.phase items))
peek_lives r items = go r.phase
  where
    go : (p : Phase) → Lives (record { stands = standing p; left = items; view = r.view }) (peek_by_phase p (first_unit items).line (peeked (first_unit items).line (verdict_in r.stops r.flag p items)))
        (record { stands = standing (peek_phase p (verdict_in r.stops r.flag p items)); left = left_in p items; view = readers.shown (verdict_in r.stops r.flag p items) })
    go ready = ((refl, refl), judged_peeked r.stops r.flag (first_unit items).line (first_unit items).rest r.view)
    go p = (refl, refl)

pub read_by : (way : Way) (r : Reader) (items : List Item) → ReadBy r.stops r.flag way (read_marks way r items) (read_place way r items)
read_by way r items = grind (arith, law.ReadBy.of_new, law.ReadBy.of_held, law.ReadBy.was_done)

pub peek_by : (r : Reader) (items : List Item) → PeekBy r.stops r.flag (peek_marks r items) (answer (verdict r items))
peek_by r items = grind (arith, law.PeekBy.of_new, law.PeekBy.of_held, law.PeekBy.was_done)

-- the view shows the line that a reader holds
abbrev ShowsIn : Phase → View → Type 0
ShowsIn (holds l) v = v ≡ the_line l
ShowsIn p v = Unit {0}

abbrev pub ShowsHeld : Reader → Type 0
ShowsHeld r = ShowsIn r.phase r.view

pub read_shows : (r : Reader) (items : List Item) → ShowsHeld (read_after r items)
read_shows r items = grind arith

-- a reading leaves no line held
pub reads_none : (r : Reader) (items : List Item) → held (read_after r items).phase ≡ []
reads_none r items = grind arith

-- what a call does that gives no window a byte
pub record GivesNone (r : Reader) (items : List Item) (us : List UnitMark) (r' : Reader) (rest : List Item) : Type 0 where
  pub lives : Lives (course r items) us (course r' rest)
  pub shows_held : ShowsHeld r'
  pub gives : given_to_windows us ≡ []

pub reads_whole : (r : Reader) (items : List Item) → GivesNone r items (read_marks whole r items) (read_after r items) (left_in r.phase items)
reads_whole r items = record { lives = read_lives whole r items; shows_held = read_shows r items; gives = grind arith }

pub peeks : (r : Reader) (items : List Item) → ShowsHeld r → GivesNone r items (peek_marks r items) (peek_after r items) (left_in r.phase items)
peeks r items h = record { lives = peek_lives r items; shows_held = grind arith; gives = grind arith }

-- a call that hands on whole lines answers by the place
pub whole_answer : (v : Verdict) → answer v ≡ answer_at (destination whole v)
whole_answer v = grind arith

-- By the law one reading goes in one way only, and that is the rules'

pub read_exact : (way : Way) (r : Reader) (items : List Item) (us vs : List UnitMark) (place : Place) (x : Course) →
    ReadBy r.stops r.flag way us place → Lives (course r items) (us ++ vs) x → (us ≡ read_marks way r items) × (place ≡ read_place way r items)
read_exact way r items us vs place x law.ReadBy.was_done g = grind arith
read_exact way r items us vs place x law.ReadBy.of_held g = grind arith
read_exact way r items us vs place x law.ReadBy.of_new g = grind arith

pub peek_exact : (r : Reader) (items : List Item) (us vs : List UnitMark) (a : Option (Result Line Refusal)) (x : Course) →
    PeekBy r.stops r.flag us a → Lives (course r items) (us ++ vs) x → (us ≡ peek_marks r items) × (a ≡ answer (verdict r items))
peek_exact r items us vs a x law.PeekBy.was_done g = grind arith
peek_exact r items us vs a x law.PeekBy.of_held g = grind arith
peek_exact r items us vs a x law.PeekBy.of_new g = grind arith
