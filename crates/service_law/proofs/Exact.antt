-- The law loses nothing: a log of which it holds is a service's.
use Rattle.std.proofs.Common.{◌≡◌, ℕ, true, List, [], ◌∷◌, ◌++◌, refl, ap, arith}
use Rattle.rules.specs.Handlers.{Rule}
use Rattle.rules.specs.Readers.{Phase}
use Rattle.rules.specs.Sessions.{whole, Filling}
use Rattle.service_law.specs.Along.{at_end, next}
use Rattle.service_law.specs.Calls.{Plain, Call, plain, handed, Answer, State, new_service, plain_side, side, answered, after_plain, Step, Runs}
use Rattle.service_law.specs.Calls as calls
use Rattle.service_law.specs.Marks.{UnitMark, WindowMark, standing}
use Rattle.service_law.specs.Law.{Entry, said, unit_marks, window_marks, terms_behind, terms_of, Lawful, AllLawful, Law, LawIsExact}
use Rattle.service_law.specs.Law as law
use Rattle.service_law.proofs.Chains.{chain_behind}
use Rattle.service_law.proofs.Units.{Course, course}
use Rattle.service_law.proofs.Units as units
use Rattle.service_law.proofs.Windows as windows
use Rattle.service_law.proofs.Reading.{read_exact, peek_exact, whole_answer}
use Rattle.service_law.proofs.Steps.{Sound, new_sound, Accounts, plain_units, plain_windows, plain_accounts}
use Rattle.service_law.proofs.Openings.{CalledSo, filling_exact, refused_exact}
use Rattle.service_law.proofs.Logs.{unhanded}

-- a phase stands in one way, and no other one stands so
one_phase : (p q : Phase) → standing p ≡ standing q → p ≡ q
one_phase p q e = grind arith

-- course, window and terms tell the whole state
same_state : {H : Type 0} {a b : State H} → course b.session.reader b.left ≡ course a.session.reader a.left → b.session.window ≡ a.session.window → terms_of b ≡ terms_of a → b ≡ a
same_state {a = a} {b} g k t =
    let p = one_phase b.session.reader.phase a.session.reader.phase (ap (λ c. c.stands) g) in
    λ j. record {
      inside = (t j).inside;
      session = record { reader = record { stops = (t j).stops; flag = (t j).flag; phase = p j; view = (g j).view }; bands = (t j).bands; window = k j };
      left = (g j).left;
      handlers = (t j).handlers;
    }

-- what is left of a log, in a state, leads to a state
record Ahead {H : Type 0} (a : State H) (us : List UnitMark) (ws : List WindowMark) (b : State H) : Type 0 where
  lives : units.Lives (course a.session.reader a.left) us (course b.session.reader b.left)
  goes : windows.Lives a.session.window ws b.session.window

module _ {H : Type 0} (rule : Rule H) where
  -- By the law one call goes in one way only, and that is the rules'

  -- what the rule of a call that fills nothing says of answer, units and windows
  record PlainSo (a : State H) (c : Plain) (ans : Answer) (us : List UnitMark) (ws : List WindowMark) : Type 0 where
    answers : ans ≡ answered c a.session a.left
    units_so : us ≡ plain_units c a.session a.left
    windows_so : ws ≡ plain_windows c a.session

  plain_exact : (a b : State H) {c : Plain} {ans : Answer} {us : List UnitMark} {ws : List WindowMark} (vs : List UnitMark) (zs : List WindowMark) →
      Lawful rule (terms_of a) (plain c) ans us ws → Ahead a (us ++ vs) (ws ++ zs) b → PlainSo a c ans us ws
  plain_exact a b vs zs (law.Lawful.reads {us} {place} by) g = grind (arith, whole_answer, read_exact whole a.session.reader a.left us vs place (course b.session.reader b.left) by g.lives)
  plain_exact a b vs zs (law.Lawful.peeks {us} {a = v} by) g = grind (arith, peek_exact a.session.reader a.left us vs v (course b.session.reader b.left) by g.lives)
  plain_exact a b vs zs (law.Lawful.reads_data {us} {place} e by) g =
      grind (arith, whole_answer, read_exact whole a.session.reader a.left us vs place (course b.session.reader b.left) by g.lives)
  plain_exact a b vs zs (law.Lawful.peeks_data {us} {a = v} by) g = grind (arith, peek_exact a.session.reader a.left us vs v (course b.session.reader b.left) by g.lives)
  plain_exact a b vs zs (law.Lawful.edits_nothing n) g = grind arith
  plain_exact a b vs zs (law.Lawful.reads_no_data e) g = grind arith
  plain_exact a b vs zs l g = grind arith

  handed_exact : (a b : State H) {i : ℕ} {c : Filling} {ans : Answer} {us : List UnitMark} {ws : List WindowMark} (vs : List UnitMark) (zs : List WindowMark) →
      Sound a → a.inside ≡ true → Lawful rule (terms_of a) (handed i c) ans us ws → Ahead a (us ++ vs) (ws ++ zs) b → CalledSo rule a (handed i c) ans us ws
  handed_exact a b vs zs q m (law.Lawful.names_no_handler {k = i} {c} e) g = (a, calls.Step.without_handler m e refl, unhanded rule a i c q)
  handed_exact a b vs zs q m (law.Lawful.finds_window {k = i} {c} {h} e t) g = let w = g.goes.0 in rw (← w) (refused_exact rule a i c h q m e (rw w t))
  handed_exact a b vs zs q m (law.Lawful.fills {k = i} {c} e t by n) g =
      let w = g.goes.0 in rw (← w) (filling_exact rule a i c vs (course b.session.reader b.left) q m e (rw w t) (rw w by) n g.lives)

  call_exact : (a b : State H) (call : Call) {ans : Answer} {us : List UnitMark} {ws : List WindowMark} (vs : List UnitMark) (zs : List WindowMark) →
      Sound a → calls.May a.inside (side call) → Lawful rule (terms_of a) call ans us ws → Ahead a (us ++ vs) (ws ++ zs) b → CalledSo rule a call ans us ws
  call_exact a b (plain c) vs zs q m l g =
      let o = plain_exact a b vs zs l g in
      (after_plain c a, calls.Step.plainly m o.answers refl, rw (o.units_so, o.windows_so) (plain_accounts rule c a q m))
  call_exact a b (handed i c) vs zs q m l g = handed_exact a b vs zs q m l g

  -- any list of calls
  ahead_more : (a b c : State H) (e : Entry) (log : List Entry) → Accounts rule a e.call e.units e.windows c → Ahead a (unit_marks (e ∷ log)) (window_marks (e ∷ log)) b → Ahead c (unit_marks log) (window_marks log) b
  ahead_more a b c e log o g =
      record {
        lives = chain_behind units.MayCome units.course_behind e.units (unit_marks log) (course a.session.reader a.left) (course c.session.reader c.left) (course b.session.reader b.left) o.0.lives g.lives;
        goes = chain_behind windows.MayCome windows.window_behind e.windows (window_marks log) a.session.window c.session.window b.session.window o.0.goes g.goes;
      }

  run_exact : (log : List Entry) (a b : State H) → Sound a → AllLawful rule (terms_of a) log → Ahead a (unit_marks log) (window_marks log) b → terms_of b ≡ terms_behind rule (terms_of a) log → Runs rule a (said log) b
  run_exact [] a b q l g t = rw (same_state g.lives g.goes t) at_end
  run_exact (e ∷ log) a b q l g t =
      let n = call_exact a b e.call (unit_marks log) (window_marks log) q l.0 l.1 g in
      let d = n.2.0.terms in
      next n.1 (run_exact log n.0 b n.2.1 (rw d l.2) (ahead_more a b n.0 e log n.2 g) (rw d t))

  pub is_exact : LawIsExact rule
  is_exact stops items hs log b l =
      let u = l.units_in_order in
      let g : Ahead (new_service stops items hs) (unit_marks log) (window_marks log) b = record { lives = rw (u.given, u.view_last) (units.lives_of items _ u.lives u.taken_first); goes = windows.lives_of l.band_rule.windows } in
      run_exact log (new_service stops items hs) b (new_sound stops items hs) l.band_rule.calls g l.band_rule.terms
