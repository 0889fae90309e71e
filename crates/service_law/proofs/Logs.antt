-- The law holds of every service.
use Rattle.std.proofs.Common.{◌≡◌, ℕ, List, [], ◌∷◌, sym, refl, ap, ◌∙◌}
use Rattle.std.proofs.lemmas.Grind.{flat_map-append}
use Rattle.rules.specs.Handlers.{Rule}
use Rattle.rules.specs.Sessions.{Filling, no_window}
use Rattle.service_law.specs.Along.{at_end, next}
use Rattle.service_law.specs.Calls.{Call, plain, handed, Answer, State, new_service, Step, Runs}
use Rattle.service_law.specs.Calls as calls
use Rattle.service_law.specs.Marks.{UnitMark, bytes_given, WindowMark}
use Rattle.service_law.specs.Law.{Entry, said, unit_marks, window_marks, terms_behind, terms_of, Lawful, AllLawful, Law, LawHolds}
use Rattle.service_law.specs.Law as law
use Rattle.service_law.proofs.Chains.{chain_append}
use Rattle.service_law.proofs.Units.{units_go, taken_first, view_last, reported_once, course}
use Rattle.service_law.proofs.Units as units
use Rattle.service_law.proofs.Windows.{bytes_opened, opened_bytes, windows_go, in_order}
use Rattle.service_law.proofs.Windows as windows
use Rattle.service_law.proofs.Steps.{Sound, new_sound, Does, Accounts, plain_units, plain_windows, plain_accounts, plain_lawful}
use Rattle.service_law.proofs.Openings.{unmoved, filled_accounts}

-- what a list of calls does
abbrev Logged : {H : Type 0} → Rule H → State H → List Entry → State H → Type 0
Logged rule a log b = Does a (unit_marks log) (window_marks log) (terms_behind rule (terms_of a) log) b

module _ {H : Type 0} (rule : Rule H) where
  logged_more : (a b c : State H) (e : Entry) (log : List Entry) → Accounts rule a e.call e.units e.windows b → Logged rule b log c → Logged rule a (e ∷ log) c
  logged_more a b c e log p q =
      record {
        lives = chain_append units.MayCome units.course_behind e.units (unit_marks log) (course a.session.reader a.left) (course b.session.reader b.left) (course c.session.reader c.left) p.0.lives q.lives;
        goes = chain_append windows.MayCome windows.window_behind e.windows (window_marks log) a.session.window b.session.window c.session.window p.0.goes q.goes;
        opens = rw (flat_map-append bytes_given e.units (unit_marks log), flat_map-append bytes_opened e.windows (window_marks log), p.0.opens, q.opens) refl;
        terms = q.terms ∙ ap (λ g. terms_behind rule g log) p.0.terms;
      }

  pub unhanded : (a : State H) (k : ℕ) (c : Filling) → Sound a → Accounts rule a (handed k c) [] [] a
  unhanded a k c q = (record { lives = refl; goes = refl; opens = refl; terms = ap (λ hs. record (terms_of a) { handlers = hs }) (sym (unmoved k a.handlers)) }, q)

  -- one call by the rules
  noted : {a b : State H} {call : Call} {ans : Answer} → Sound a → Step rule a call ans b →
      (us : List UnitMark) × (ws : List WindowMark) × Accounts rule a call us ws b × Lawful rule (terms_of a) call ans us ws × calls.May a.inside (calls.side call)
  noted {a} q (calls.Step.plainly {c = c} m e f) =
      (plain_units c a.session a.left, plain_windows c a.session, rw f (plain_accounts rule c a q m), rw e (plain_lawful rule c a), m)
  noted {a} q (calls.Step.with_handler {k = k} {c = c} i e t r) = let o = filled_accounts rule a k c q i e t in (o.0, o.1, rw r o.2, o.3, i)
  noted {a} q (calls.Step.without_handler {k = k} {c = c} i e r) = ([], [], rw r (unhanded a k c q), law.names_no_handler e, i)

  -- any list of calls by the rules
  run_noted : {a b : State H} {cs : List (Call × Answer)} → Sound a → Runs rule a cs b → (log : List Entry) × (said log ≡ cs) × Logged rule a log b × AllLawful rule (terms_of a) log
  run_noted q at_end = ([], refl, record { lives = refl; goes = refl; opens = refl; terms = refl }, tt)
  run_noted {a} {b} q (next {b = c} {m = call} s r) =
      let n = noted q s in
      let m = run_noted n.2.1 r in
      let e : Entry = record { call = call.0; answer = call.1; units = n.0; windows = n.1 } in
      (e ∷ m.0, ap (λ x. call ∷ x) m.1, logged_more a c b e m.0 n.2 m.2, (n.4, n.3, rw (← n.2.0.terms) m.3))

  pub holds_of_every : LawHolds rule
  holds_of_every stops items hs cs b r =
      let n = run_noted (new_sound stops items hs) r in
      let c = course (new_service stops items hs).session.reader items in
      let d = course b.session.reader b.left in
      let us = unit_marks n.0 in
      let ws = window_marks n.0 in
      let t = taken_first c us d n.2.lives in (
        n.0,
        n.1,
        record {
          units_in_order = record {
            taken_first = t.0;
            given = t.1;
            reported_once = reported_once c us b.session.reader b.left refl n.2.lives;
            lives = units_go c us d n.2.lives;
            view_last = view_last c us d n.2.lives;
          };
          band_rule = record {
            calls = n.3;
            terms = n.2.terms;
            consumed_once = sym (n.2.opens ∙ in_order no_window ws b.session.window n.2.goes);
            windows = windows_go no_window ws b.session.window n.2.goes;
          };
        },
      )
