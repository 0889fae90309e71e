-- What a fill does to units and to its handler; and that the law lets it do nothing else.
use Rattle.std.proofs.Common.{◌≡◌, ℕ, Bool, true, List, [], ◌++◌, Option, Result, refl, ◌∙◌, append-nil, append_assoc, arith}
use Rattle.std.proofs.lemmas.Grind.{flat_map-append, fold-append}
use Rattle.lines.specs.Refusals.{Refusal}
use Rattle.lines.specs.Format.{Line}
use Rattle.links.specs.Items.{Item}
use Rattle.rules.specs.Handlers.{Rule}
use Rattle.rules.specs.Readers.{Stops, Reader, left_in, read_after, ReadLine}
use Rattle.rules.specs.Sessions.{Place, Way, passes, moved, Fills}
use Rattle.rules.specs.Sessions as sessions
use Rattle.service_law.specs.Marks.{UnitMark, place_bytes, given_to_windows, told}
use Rattle.service_law.specs.Law.{ReadBy, FillBy}
use Rattle.service_law.specs.Law as law
use Rattle.service_law.proofs.Chains.{chain_append, chain_behind}
use Rattle.service_law.proofs.Units.{Course, course_behind, MayCome, Lives, course}
use Rattle.service_law.proofs.Reading.{read_place, read_marks, read_lives, read_by, ShowsHeld, read_shows, read_exact}

-- what lines that were read did to the reader and the handler, d being the bytes that they gave to windows
pub record Reads {H : Type 0} (rule : Rule H) (r : Reader) (items : List Item) (h : H) (us : List UnitMark) (d : List ℕ) (r' : Reader) (rest : List Item) (h' : H) : Type 0 where
  pub lives : Lives (course r items) us (course r' rest)
  pub gives : given_to_windows us ≡ d
  pub tells : told rule h us ≡ h'
  pub keeps_stops : r'.stops ≡ r.stops
  pub keeps_flag : r'.flag ≡ r.flag
  pub shows_held : ShowsHeld r'

module _ {H : Type 0} (rule : Rule H) (way : Way) where
  one : (r : Reader) (items : List Item) (h : H) → Reads rule r items h (read_marks way r items) (place_bytes (read_place way r items)) (read_after r items) (left_in r.phase items) (moved rule h (read_place way r items))
  one r items h =
      record {
        lives = read_lives way r items;
        gives = grind (arith, append-nil);
        tells = grind arith;
        keeps_stops = refl;
        keeps_flag = refl;
        shows_held = read_shows r items;
      }

  -- one reading, as a read_line relates reader and source
  one_by : (r : Reader) (items : List Item) {r' : Reader} {rest : List Item} {h h' : H} {place : Place} {a : Option (Result Line Refusal)} → place ≡ read_place way r items → ReadLine r items a r' rest → h' ≡ moved rule h place →
      Reads rule r items h (read_marks way r items) (place_bytes place) r' rest h'
  one_by r items {h = h} e c f = rw (c.becomes, c.leaves, f, e) (one r items h)

  gives_none : (h : H) (place : Place) → passes rule h place ≡ true → place_bytes place ≡ []
  gives_none h place e = grind arith

  both : {r r' r'' : Reader} {items rest rest' : List Item} {h h' h'' : H} {us vs : List UnitMark} {d : List ℕ} →
      Reads rule r items h us [] r' rest h' → Reads rule r' rest h' vs d r'' rest' h'' → Reads rule r items h (us ++ vs) d r'' rest' h''
  both {r} {r'} {r''} {items} {rest} {rest'} {us = us} {vs = vs} p q =
      record {
        lives = chain_append MayCome course_behind us vs (course r items) (course r' rest) (course r'' rest') p.lives q.lives;
        gives = rw (flat_map-append, p.gives) q.gives;
        tells = rw (fold-append, p.tells) q.tells;
        keeps_stops = q.keeps_stops ∙ p.keeps_stops;
        keeps_flag = q.keeps_flag ∙ p.keeps_flag;
        shows_held = q.shows_held;
      }

  -- a fill by the rules goes as the law says
  pub fill_reads : {r r' : Reader} {items rest : List Item} {h h' : H} {place : Place} → Fills rule way r items h place r' rest h' →
      (us : List UnitMark) × Reads rule r items h us (place_bytes place) r' rest h' × FillBy rule r.stops r.flag way h us place
  fill_reads {r} {items = items} (sessions.Fills.ends e p c f) = (read_marks way r items, one_by r items e c f, law.FillBy.ends (rw e (read_by way r items)) p)
  fill_reads {r} {items = items} {h = h} (sessions.Fills.goes_on {place = place} e p c f more) =
      let k = fill_reads more in
      let o = one_by r items e c f in (
        read_marks way r items ++ k.0,
        both (rw (gives_none h place p) at o) k.1,
        law.FillBy.goes_on {us = read_marks way r items} (rw e (read_by way r items)) p (rw (← o.keeps_stops, ← o.keeps_flag, ← f) k.2),
      )

  -- by the law a fill goes in one way only, and that is the rules'
  pub fill_exact : (s : Stops) (flag : Bool) {h : H} {us : List UnitMark} {place : Place} (r : Reader) (items : List Item) (vs : List UnitMark) (x : Course) → r.stops ≡ s → r.flag ≡ flag →
      FillBy rule s flag way h us place → Lives (course r items) (us ++ vs) x →
      (r' : Reader) × (rest : List Item) × (h' : H) × Fills rule way r items h place r' rest h' × Reads rule r items h us (place_bytes place) r' rest h'
  fill_exact s flag {h} {us} {place} r items vs x es ef (law.FillBy.ends by e) g =
      let k = read_exact way r items us vs place x (rw (es, ef) by) g in (
        read_after r items,
        left_in r.phase items,
        moved rule h place,
        sessions.Fills.ends k.1 e (record { answers = refl; becomes = refl; leaves = refl }) refl,
        rw (k.0, k.1) (one r items h),
      )
  fill_exact s flag {h} r items vs x es ef (law.FillBy.goes_on {us = us} {vs = ws} {place = place} by e more) g =
      let g' : Lives (course r items) (us ++ (ws ++ vs)) x = rw append_assoc at g in
      let k = read_exact way r items us (ws ++ vs) place x (rw (es, ef) by) g' in
      let o : Reads rule r items h us (place_bytes place) (read_after r items) (left_in r.phase items) (moved rule h place) = rw (k.0, k.1) (one r items h) in
      let m = fill_exact s flag (read_after r items) (left_in r.phase items) vs x es ef more (chain_behind MayCome course_behind us (ws ++ vs) (course r items) (course (read_after r items) (left_in r.phase items)) x o.lives g') in
      (m.0, m.1, m.2, sessions.Fills.goes_on k.1 e (record { answers = refl; becomes = refl; leaves = refl }) refl m.3, both (rw (gives_none h place e) at o) m.4)
