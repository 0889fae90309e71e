-- A log is told apart from the service that was made with the same calls.
use Rattle.std.proofs.Common.{◌≡◌, ℕ, false, List, [], ◌∷◌, map, Some, Ok, ◌==◌, slice_index, refl, sym, ◌∙◌, ap, subst, false-eqb}
use Rattle.lines.specs.Format.{payload}
use Rattle.links.specs.Items.{byte}
use Rattle.rules.specs.Handlers.{quiet}
use Rattle.rules.specs.Sessions.{shows}
use Rattle.rules.specs.Examples.{at_nothing}
use Rattle.service_law.specs.Calls.{Call, Answer, line, filled, State, new_service, Runs}
use Rattle.service_law.proofs.Exact.{is_exact}
use Rattle.service_law.proofs.Fixed.{runs_fixed}
use Rattle.service_law.proofs.Logs.{holds_of_every}
use Rattle.counterexamples.specs.Trials.{Lawful, Distinguishes, NeverEnds}

-- where a trial begins
abbrev start : List ℕ → State ℕ
start bytes = new_service at_nothing (map byte bytes) (0 ∷ [])

-- a service by the rules of these calls and answers, at whose end `part` of the state is x
pub record Made {X : Type 0} (bytes : List ℕ) (calls : List (Call × Answer)) (part : State ℕ → X) (x : X) : Type 0 where
  pub end : State ℕ
  pub runs : Runs quiet (start bytes) calls end
  pub ends : part end ≡ x

-- a trial with the calls of a service that was made has its answers and its end
as_made : (bytes : List ℕ) (made calls : List (Call × Answer)) (b c : State ℕ) → map (λ x. x.0) made ≡ map (λ x. x.0) calls →
    Runs quiet (start bytes) made c → Lawful bytes calls b → (made ≡ calls) × (c ≡ b)
as_made bytes made calls b c same run l =
    runs_fixed quiet (start bytes) c b made calls same run
    (subst (λ x. Runs quiet (start bytes) x b) l.1 (is_exact quiet at_nothing (map byte bytes) (0 ∷ []) l.0 b l.2))

-- the law holds of it
lawful : {X : Type 0} {bytes : List ℕ} {calls : List (Call × Answer)} {part : State ℕ → X} {x : X} → Made bytes calls part x → (b : State ℕ) × Lawful bytes calls b
lawful {bytes} {calls} m = (m.end, holds_of_every quiet at_nothing (map byte bytes) (0 ∷ []) calls m.end m.runs)

-- the first byte that an answer shows, which is 0 where it shows none
abbrev pub shown_first : Answer → ℕ
shown_first (line (Some (Ok (payload (b ∷ d))))) = b
shown_first (filled (shows (Ok (b ∷ d)))) = b
shown_first a = 0

abbrev pub shown_at : ℕ → List (Call × Answer) → ℕ
shown_at k calls = slice_index (map (λ x. shown_first x.1) calls) k

-- where the k-th answer shows another byte, there is no account
pub distinguishes : {X : Type 0} {bytes : List ℕ} {right wrong : List (Call × Answer)} {part : State ℕ → X} {x : X} (k : ℕ) → Made bytes right part x →
    map (λ x. x.0) right ≡ map (λ x. x.0) wrong → false ≡ (shown_at k right == shown_at k wrong) → Distinguishes bytes right wrong
distinguishes {bytes} {right} {wrong} k m same apart =
    record {
      same_calls = same;
      right_one = lawful m;
      no_wrong_one = λ b l. false-eqb (shown_at k right) (shown_at k wrong) apart (ap (shown_at k) (as_made bytes right wrong b m.end same m.runs l).0);
    }

-- where the service that was made ends otherwise, as a number of that part shows, so does every account
pub never_ends : {X : Type 0} {bytes : List ℕ} {calls : List (Call × Answer)} {part : State ℕ → X} {x y : X} (number : X → ℕ) → Made bytes calls part x →
    false ≡ (number x == number y) → NeverEnds bytes calls part y
never_ends {bytes} {calls} {part} {x} {y} number m apart =
    record {
      right_one = lawful m;
      no_wrong_one = λ b l w. false-eqb (number x) (number y) apart (ap number (sym m.ends ∙ (ap part (as_made bytes calls calls b m.end refl m.runs l).1 ∙ w)));
    }
