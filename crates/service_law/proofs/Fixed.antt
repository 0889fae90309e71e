-- The calls are deterministic: from equal beginnings, equal answers and ends.
use Rattle.std.proofs.Common.{◌≡◌, ℕ, List, map, Result, refl, ap, arith}
use Rattle.lines.specs.Refusals.{Refusal}
use Rattle.links.specs.Items.{Item}
use Rattle.rules.specs.Handlers.{Rule}
use Rattle.rules.specs.Readers.{Reader}
use Rattle.rules.specs.Sessions.{Place, Way, Window, Session, Fills, FillBuf, Filling, Filled, Uses, FillingCall}
use Rattle.rules.specs.Sessions as sessions
use Rattle.service_law.specs.Calls.{State, Call, Answer, handler_at, at_index, Step, Runs}
use Rattle.service_law.specs.Calls as calls
use Rattle.service_law.specs.Along as along
use Rattle.service_law.specs.Law.{CallsFixed, RunsFixed}

-- pairs with the same parts
same_pair : {X Y : Type 0} {p q : X × Y} → p.0 ≡ q.0 → p.1 ≡ q.1 → p ≡ q
same_pair x y i = (x i, y i)

-- what is done with the answer of fill_buf: text or not, with room or not, and never two of these
uses_fixed : {call : Filling} {u v : Result (List ℕ) Refusal} {w x w' x' : Window} {f g : Filled} → u ≡ v → w ≡ x → Uses call u w f w' → Uses call v x g x' → (f ≡ g) × (w' ≡ x')
uses_fixed e d sessions.Uses.refused_fill sessions.Uses.refused_fill = (cc, d)
uses_fixed e d sessions.Uses.shows_window sessions.Uses.shows_window = (cc, d)
uses_fixed e d (sessions.Uses.copies p) (sessions.Uses.copies q) = (cc, cc)
uses_fixed e d (sessions.Uses.finds_no_text n) (sessions.Uses.finds_no_text m) = (refl, d)
uses_fixed e d (sessions.Uses.finds_no_text n) (sessions.Uses.finds_no_room o l) = grind arith
uses_fixed e d (sessions.Uses.finds_no_text n) (sessions.Uses.appends o l) = grind arith
uses_fixed e d (sessions.Uses.finds_no_room o l) (sessions.Uses.finds_no_text n) = grind arith
uses_fixed e d (sessions.Uses.finds_no_room o l) (sessions.Uses.finds_no_room p m) = (refl, d)
uses_fixed e d (sessions.Uses.finds_no_room o l) (sessions.Uses.appends p m) = grind arith
uses_fixed e d (sessions.Uses.appends o l) (sessions.Uses.finds_no_text n) = grind arith
uses_fixed e d (sessions.Uses.appends o l) (sessions.Uses.finds_no_room p m) = grind arith
uses_fixed e d (sessions.Uses.appends o l) (sessions.Uses.appends p m) = (cc, cc)
uses_fixed e d p q = cc

module _ {H : Type 0} (rule : Rule H) where
  -- lines are read up to one place: the first that the fill does not pass
  fills_fixed : {way way' : Way} {r r' q q' : Reader} {items rest more left : List Item} {h h' k k' : H} {place last : Place} → way ≡ way' → r ≡ q → items ≡ more → h ≡ k →
      Fills rule way r items h place r' rest h' → Fills rule way' q more k last q' left k' → (place ≡ last) × (r' ≡ q') × (rest ≡ left) × (h' ≡ k')
  fills_fixed w e d f (sessions.Fills.ends p g c m) (sessions.Fills.ends p' g' c' m') = (cc, cc, cc, cc)
  fills_fixed w e d f (sessions.Fills.goes_on p g c m n) (sessions.Fills.goes_on p' g' c' m' n') = fills_fixed w (cc) (cc) (cc) n n'
  fills_fixed w e d f (sessions.Fills.ends p g c m) (sessions.Fills.goes_on p' g' c' m' n') = cc
  fills_fixed w e d f (sessions.Fills.goes_on p g c m n) (sessions.Fills.ends p' g' c' m') = cc

  -- either the window has bytes, or a fill is made
  fill_buf_fixed : {s s' t t' : Session} {items rest more left : List Item} {h h' k k' : H} {u v : Result (List ℕ) Refusal} → s ≡ t → items ≡ more → h ≡ k →
      FillBuf rule s items h u s' rest h' → FillBuf rule t more k v t' left k' → (u ≡ v) × (s' ≡ t') × (rest ≡ left) × (h' ≡ k')
  fill_buf_fixed e d f (sessions.FillBuf.has_bytes b u) (sessions.FillBuf.has_bytes b' u') = (cc, cc, cc, cc)
  fill_buf_fixed e d f (sessions.FillBuf.fills b p u r) (sessions.FillBuf.fills b' p' u' r') = let i = fills_fixed (cc) (cc) d f p p' in (cc, cc, cc, cc)
  fill_buf_fixed e d f (sessions.FillBuf.has_bytes b u) (sessions.FillBuf.fills b' p' u' r') = cc
  fill_buf_fixed e d f (sessions.FillBuf.fills b p u r) (sessions.FillBuf.has_bytes b' u') = cc

  -- either the window stands against the call, or fill_buf comes first
  filling_fixed : {c : Filling} {s s' t t' : Session} {items rest more left : List Item} {h h' k k' : H} {u v : Filled} → s ≡ t → items ≡ more → h ≡ k →
      FillingCall rule c s items h u s' rest h' → FillingCall rule c t more k v t' left k' → (u ≡ v) × (s' ≡ t') × (rest ≡ left) × (h' ≡ k')
  filling_fixed e d f (sessions.FillingCall.finds_window b u) (sessions.FillingCall.finds_window b' u') = (cc, cc, cc, cc)
  filling_fixed e d f (sessions.FillingCall.fills_first b p u r) (sessions.FillingCall.fills_first b' p' u' r') =
      let i = fill_buf_fixed e d f p p' in
      let j = uses_fixed i.0 (cc) u u' in (cc, cc, cc, cc)
  filling_fixed e d f (sessions.FillingCall.finds_window b u) (sessions.FillingCall.fills_first b' p' u' r') = cc
  filling_fixed e d f (sessions.FillingCall.fills_first b p u r) (sessions.FillingCall.finds_window b' u') = cc

  -- one call: an index names a handler, or none
  step_fixed : {a a' b b' : State H} {call : Call} {x y : Answer} → a ≡ a' → Step rule a call x b → Step rule a' call y b' → (x ≡ y) × (b ≡ b')
  step_fixed d (calls.Step.plainly m e f) (calls.Step.plainly m' e' f') = (cc, cc)
  step_fixed {a' = a} d (calls.Step.with_handler {k = k} i e p r) (calls.Step.with_handler i' e' p' r') =
      let j = filling_fixed (cc) (cc) (cc) p p' in
      let l = ap (λ h. at_index k (λ x. h) a.handlers) j.3 in (cc, cc)
  step_fixed d (calls.Step.without_handler i e r) (calls.Step.without_handler i' e' r') = (refl, cc)
  step_fixed d (calls.Step.with_handler i e p r) (calls.Step.without_handler i' e' r') = cc
  step_fixed d (calls.Step.without_handler i e r) (calls.Step.with_handler i' e' p' r') = cc

  pub calls_fixed : CallsFixed rule
  calls_fixed a b c call x y p q = step_fixed refl p q

  -- any list of calls
  run_fixed : {a a' b b' : State H} {xs ys : List (Call × Answer)} → a ≡ a' → map (λ x. x.0) xs ≡ map (λ y. y.0) ys → Runs rule a xs b → Runs rule a' ys b' → (xs ≡ ys) × (b ≡ b')
  run_fixed d e along.Along.at_end along.Along.at_end = (refl, d)
  run_fixed d e (along.Along.next {m = m} s r) (along.Along.next {m = m'} s' r') =
      let i : m.0 ≡ m'.0 = cc in
      let j = step_fixed d s (rw (← i) at s') in
      let k = run_fixed j.1 (cc) r r' in
      let same = same_pair i j.0 in (cc, k.1)
  run_fixed d e p q = cc

  pub runs_fixed : RunsFixed rule
  runs_fixed a b c xs ys e p q = run_fixed refl e p q
