-- What the calls that fill do to units, windows and handlers; and that the law lets them do nothing else.
use Rattle.std.proofs.Common.{◌≡◌, ℕ, zero, suc, ◌<◌, true, false, List, [], ◌∷◌, ◌++◌, length, Some, Ok, Err, Result, sym, refl, ap, append-nil, arith}
use Rattle.std.specs.Prelude.{nat_lt}
use Rattle.std.proofs.lemmas.List.{nil_from_length}
use Rattle.std.proofs.lemmas.Grind.{flat_map-append}
use Rattle.lines.specs.Refusals.{Refusal}
use Rattle.links.specs.Items.{Item}
use Rattle.rules.specs.Refusals.{window_open}
use Rattle.rules.specs.Handlers.{Rule}
use Rattle.rules.specs.Readers.{Reader}
use Rattle.rules.specs.Sessions.{Place, way_of, Window, Session, with_window, fill_answer, fill_window, FillBuf, Filling, Filled, refuses, Uses, FillingCall, stands_open}
use Rattle.rules.specs.Sessions as sessions
use Rattle.service_law.specs.Calls.{Call, Answer, handed, filled, handler_at, at_index, State, Step}
use Rattle.service_law.specs.Calls as calls
use Rattle.service_law.specs.Marks.{UnitMark, place_bytes, told, WindowMark, seen}
use Rattle.service_law.specs.Law.{Terms, terms_after, terms_of, Opens, window_mark, use_marks, Lawful}
use Rattle.service_law.specs.Law as law
use Rattle.service_law.proofs.Chains.{chain_append}
use Rattle.service_law.proofs.Units.{Course, course}
use Rattle.service_law.proofs.Units as units
use Rattle.service_law.proofs.Windows.{bytes_opened, opened_bytes}
use Rattle.service_law.proofs.Windows as windows
use Rattle.service_law.proofs.Filling.{Reads, fill_reads, fill_exact}
use Rattle.service_law.proofs.Steps.{Long, Sound, Accounts, consumed_fits, consumed_goes, consumed_long}

-- a handler is moved, and no other one
same_at : {H : Type 0} (k : ℕ) (f g : H → H) (h : H) (hs : List H) → handler_at k hs ≡ Some h → f h ≡ g h → at_index k f hs ≡ at_index k g hs
same_at k f g h [] e q = refl
same_at zero f g h (x ∷ hs) e q = grind arith
same_at (suc k) f g h (x ∷ hs) e q = ap (λ y. x ∷ y) (same_at k f g h hs e q)

pub unmoved : {H : Type 0} (k : ℕ) (hs : List H) → at_index k (λ h. h) hs ≡ hs
unmoved k [] = refl
unmoved zero (h ∷ hs) = refl
unmoved (suc k) (h ∷ hs) = ap (λ y. h ∷ y) (unmoved k hs)

-- the bytes of an answer, where it has some
abbrev BytesAre : Result (List ℕ) Refusal → List ℕ → Type 0
BytesAre (Ok u) v = u ≡ v
BytesAre (Err e) v = Unit {0}

-- the window that a fill leaves at a place
placed : (w : Window) (place : Place) → w.unread ≡ [] → Long w →
    windows.Lives w (window_mark place) (fill_window w place) × (place_bytes place ≡ opened_bytes (window_mark place)) × Long (fill_window w place) × BytesAre (fill_answer place) (fill_window w place).unread
placed w place e l = grind (arith, append-nil)

no_bytes : (w : Window) → Long w → nat_lt w.pos w.cap ≡ false → w.unread ≡ []
no_bytes w l e = nil_from_length w.unread (grind arith)

some_bytes : (w : Window) → Long w → nat_lt w.pos w.cap ≡ true → (b : ℕ) × (u : List ℕ) × (w.unread ≡ b ∷ u)
some_bytes w l e = go w.unread (grind arith)
  where
    go : (u : List ℕ) → 0 < length u → (b : ℕ) × (v : List ℕ) × (u ≡ b ∷ v)
    go [] h = absurd (omega arith)
    go (b ∷ u) h = (b, u, refl)

module _ {H : Type 0} (rule : Rule H) where
  -- what fill_buf does
  record Opening (a : State H) (h : H) (us : List UnitMark) (ws : List WindowMark) (u : Result (List ℕ) Refusal) (s : Session) (rest : List Item) (h' : H) : Type 0 where
    reads : Reads rule a.session.reader a.left h us (opened_bytes ws) s.reader rest h'
    goes : windows.Lives a.session.window ws s.window
    keeps_bands : s.bands ≡ a.session.bands
    long : Long s.window
    bytes : BytesAre u s.window.unread

  opening_none : (a : State H) (h : H) (u : Result (List ℕ) Refusal) → Sound a → BytesAre u a.session.window.unread → Opening a h [] [] u a.session a.left h
  opening_none a h u k e = grind arith

  opening_fill : (a : State H) (rest : List Item) (h h' : H) (us : List UnitMark) (place : Place) (r : Reader) → Sound a → a.session.window.unread ≡ [] →
      Reads rule a.session.reader a.left h us (place_bytes place) r rest h' →
      Opening a h us (window_mark place) (fill_answer place) (record { reader = r; bands = a.session.bands; window = fill_window a.session.window place }) rest h'
  opening_fill a rest h h' us place r k e o =
      let p = placed a.session.window place e k.long in
      record { reads = rw (← p.1) o; goes = p.0; keeps_bands = refl; long = p.2; bytes = p.3 }

  opening : (a : State H) {s : Session} {rest : List Item} {h h' : H} {u : Result (List ℕ) Refusal} → Sound a → FillBuf rule a.session a.left h u s rest h' →
      (us : List UnitMark) × (ws : List WindowMark) × Opening a h us ws u s rest h' × Opens rule (terms_of a) h a.session.window us ws u s.window
  opening a {h = h} {u = u} k (sessions.FillBuf.has_bytes e q) = ([], [], opening_none a h u k (rw q refl), rw q (law.had_bytes (some_bytes a.session.window k.long e).2))
  opening a {rest = rest} {h = h} {h' = h'} k (sessions.FillBuf.fills {place = place} {r' = r} e f q t) =
      let n = no_bytes a.session.window k.long e in
      let o = fill_reads rule (way_of a.session.bands) f in
      (o.0, window_mark place, rw (t, q) (opening_fill a rest h h' o.0 place r k n o.1), rw (t, q) (law.took_lines n o.2))

  -- what a call does with the window
  record Using (call : Filling) (u : Result (List ℕ) Refusal) (w : Window) (f : Filled) (w' : Window) : Type 0 where
    goes : windows.Lives w (use_marks call u f) w'
    long : Long w'
    opens : opened_bytes (use_marks call u f) ≡ []

  window_used : {call : Filling} {u : Result (List ℕ) Refusal} {w w' : Window} {f : Filled} → Long w → BytesAre u w.unread → Uses call u w f w' → Using call u w f w'
  window_used {w = w} l b (sessions.Uses.copies {memory = memory} {u = u} {fits = fits} e) =
      record { goes = rw (e, b, consumed_fits (length memory) w l) (consumed_goes (length memory) w l); long = consumed_long (length fits) w l; opens = refl }
  window_used l b n = grind arith

  abbrev behind_filling : State H → ℕ → H → Session → List Item → State H
  behind_filling a k h' s rest = record { inside = true; session = s; left = rest; handlers = at_index k (λ x. h') a.handlers }

  filling_accounts : (a : State H) (k : ℕ) (c : Filling) (h h' : H) (us : List UnitMark) (ws : List WindowMark) (u : Result (List ℕ) Refusal) (s : Session) (rest : List Item) (f : Filled) (w : Window) →
      a.inside ≡ true → handler_at k a.handlers ≡ Some h → Opening a h us ws u s rest h' → Using c u s.window f w →
      Accounts rule a (handed k c) us (seen a.session.window ∷ (ws ++ use_marks c u f)) (behind_filling a k h' (with_window s w) rest)
  filling_accounts a k c h h' us ws u s rest f w i e o n =
      let r = o.reads in
      let m = same_at k (λ x. h') (λ x. told rule x us) h a.handlers e (sym r.tells) in (
        record {
          lives = r.lives;
          goes = (refl, chain_append windows.MayCome windows.window_behind ws (use_marks c u f) a.session.window s.window w o.goes n.goes);
          opens = rw (flat_map-append bytes_opened ws (use_marks c u f), n.opens, append-nil) r.gives;
          terms = λ j. record { stops = r.keeps_stops j; flag = r.keeps_flag j; inside = sym i j; bands = o.keeps_bands j; handlers = m j };
        },
        record { shows_held = r.shows_held; long = n.long; shut_outside = λ x. cc },
      )

  refused_accounts : (a : State H) (k : ℕ) (c : Filling) (h : H) → Sound a → a.inside ≡ true → handler_at k a.handlers ≡ Some h →
      Accounts rule a (handed k c) [] (seen a.session.window ∷ []) (behind_filling a k h a.session a.left)
  refused_accounts a k c h q i e =
      let none : use_marks c (Err window_open) (refuses c window_open) ≡ [] = grind arith in
      let n = window_used {call = c} q.long tt (sessions.Uses.refused_fill {e = window_open} {w = a.session.window}) in
      rw none at (filling_accounts a k c h h [] [] (Err window_open) a.session a.left (refuses c window_open) a.session.window i e (opening_none a h (Err window_open) q tt) n)

  -- a call that fills, by its rule
  pub filled_accounts : (a : State H) (k : ℕ) (c : Filling) {s : Session} {rest : List Item} {h h' : H} {f : Filled} → Sound a → a.inside ≡ true → handler_at k a.handlers ≡ Some h →
      FillingCall rule c a.session a.left h f s rest h' →
      (us : List UnitMark) × (ws : List WindowMark) × Accounts rule a (handed k c) us ws (behind_filling a k h' s rest) × Lawful rule (terms_of a) (handed k c) (filled f) us ws
  filled_accounts a k c {h = h} q i e (sessions.FillingCall.finds_window t r) = ([], seen a.session.window ∷ [], refused_accounts a k c h q i e, rw r (law.finds_window e t))
  filled_accounts a k c {rest = rest} {h} {h'} {f} q i e (sessions.FillingCall.fills_first {s' = s} {u = u} {w = w} t b n r) =
      let o = opening a q b in (
        o.0,
        seen a.session.window ∷ (o.1 ++ use_marks c u f),
        rw r (filling_accounts a k c h h' o.0 o.1 u s rest f w i e o.2 (window_used o.2.long o.2.bytes n)),
        law.fills e t o.3 n,
      )

  -- by the law fill_buf goes in one way only, and that is the rules'
  open_exact : (a : State H) {h : H} {w : Window} {us : List UnitMark} {ws : List WindowMark} {u : Result (List ℕ) Refusal} (vs : List UnitMark) (x : Course) →
      Sound a → Opens rule (terms_of a) h a.session.window us ws u w → units.Lives (course a.session.reader a.left) (us ++ vs) x →
      (s : Session) × (rest : List Item) × (h' : H) × FillBuf rule a.session a.left h u s rest h' × Opening a h us ws u s rest h' × (w ≡ s.window)
  open_exact a {h} vs x q (law.Opens.had_bytes n) g =
      (a.session, a.left, h, sessions.FillBuf.has_bytes (grind (arith, ap length n)) refl, opening_none a h (Ok a.session.window.unread) q refl, refl)
  open_exact a {h} {us = us} vs x q (law.Opens.took_lines {place = place} n by) g =
      let o = fill_exact rule (way_of a.session.bands) a.session.reader.stops a.session.reader.flag a.session.reader a.left vs x refl refl by g in (
        record { reader = o.0; bands = a.session.bands; window = fill_window a.session.window place },
        o.1,
        o.2,
        sessions.FillBuf.fills (grind (arith, ap length n)) o.3 refl refl,
        opening_fill a o.1 h o.2 us place o.0 q n o.4,
        refl,
      )

  -- a call with that answer and those marks goes by the rules
  abbrev pub CalledSo : State H → Call → Answer → List UnitMark → List WindowMark → Type 0
  CalledSo a call ans us ws = (b : State H) × Step rule a call ans b × Accounts rule a call us ws b

  pub filling_exact : (a : State H) (k : ℕ) (c : Filling) {h : H} {w w' : Window} {us : List UnitMark} {ws : List WindowMark} {u : Result (List ℕ) Refusal} {f : Filled} (vs : List UnitMark) (x : Course) →
      Sound a → a.inside ≡ true → handler_at k a.handlers ≡ Some h → stands_open c a.session.window ≡ false → Opens rule (terms_of a) h a.session.window us ws u w → Uses c u w f w' →
      units.Lives (course a.session.reader a.left) (us ++ vs) x → CalledSo a (handed k c) (filled f) us (seen a.session.window ∷ (ws ++ use_marks c u f))
  filling_exact a k c {h} {w' = w'} {us} {ws} {u} {f} vs x q i e t by n g =
      let o = open_exact a vs x q by g in
      let n' : Uses c u o.0.window f w' = rw (← o.5) n in (
        behind_filling a k o.2 (with_window o.0 w') o.1,
        calls.Step.with_handler i e (sessions.FillingCall.fills_first t o.3 n' refl) refl,
        filling_accounts a k c h o.2 us ws u o.0 o.1 f w' i e o.4 (window_used o.4.long o.4.bytes n'),
      )

  pub refused_exact : (a : State H) (k : ℕ) (c : Filling) (h : H) → Sound a → a.inside ≡ true → handler_at k a.handlers ≡ Some h → stands_open c a.session.window ≡ true →
      CalledSo a (handed k c) (filled (refuses c window_open)) [] (seen a.session.window ∷ [])
  refused_exact a k c h q i e t = (
    behind_filling a k h a.session a.left,
    calls.Step.with_handler i e (sessions.FillingCall.finds_window t refl) refl,
    refused_accounts a k c h q i e,
  )
