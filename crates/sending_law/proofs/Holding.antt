-- The law holds behind every call.
use Rattle.std.proofs.Common.{◌≡◌, ℕ, List, [], ◌∷◌, ◌++◌, map, sym, refl, ap, ◌∙◌, subst, append_assoc, append-nil}
use Rattle.lines.specs.Format.{Line}
use Rattle.rules.specs.Sending.{Call, Answer, Sender, answer_of, plan, send_planned, Sends, SendsAll, at_end, next}
use Rattle.sending_law.specs.Law.{call_first, outcome, Parts, no_line, SendingLawHolds}
use Rattle.sending_law.proofs.Accepting.{planned_parts, parts_append}
use Rattle.sending_law.proofs.Sendable.{AreSendable, none, both, call_fits}
use Rattle.sending_law.proofs.Returning.{return_all}

-- bytes accepted behind those before, and the lines that they are
abbrev InOrder : Sender → List Line → Sender → Type 0
InOrder before whole after = (bytes : List ℕ) × (after.sink.accepted ≡ before.sink.accepted ++ bytes) × Parts bytes whole

-- what is carried from call to call
record Holds (before : Sender) (calls : List (Call × Answer)) (whole : List Line) (after : Sender) : Type 0 where
  fixed : outcome before (map (λ c. c.0) calls) ≡ record { answers = map (λ c. c.1) calls; whole = whole; after = after }
  in_order : InOrder before whole after
  sendable : AreSendable whole

-- one call, and then others
one_first : (s t u : Sender) (call : Call) (a : Answer) (ls ms : List Line) (calls : List (Call × Answer)) → Sends s call a ls t → Holds t calls ms u → Holds s ((call, a) ∷ calls) (ls ++ ms) u
one_first s t u call a ls ms calls one h =
    let sent = send_planned (plan s.modes call) s.sink.room in
    let answered = answer_of s.modes call sent.answer in
    let bytes = h.in_order.0 in
    let now : t.sink.accepted ≡ s.sink.accepted ++ (send_planned (plan s.modes call) s.sink.room).accepted = ap (λ (x : Sender). x.sink.accepted) one.becomes in
    let parts : Parts (sent.accepted ++ bytes) (sent.whole ++ ms) = parts_append sent.accepted bytes sent.whole ms (planned_parts (plan s.modes call) s.sink.room) h.in_order.2 in
    record {
      fixed =
          ap (λ x. call_first answered sent.whole (outcome x (map (λ c. c.0) calls))) (sym one.becomes)
          ∙ (ap (call_first answered sent.whole) h.fixed
          ∙ (ap (λ x. record { answers = x ∷ map (λ c. c.1) calls; whole = sent.whole ++ ms; after = u }) (sym one.answers)
          ∙ ap (λ l. record { answers = a ∷ map (λ c. c.1) calls; whole = l ++ ms; after = u }) (sym one.accepts)));
      in_order = (
        sent.accepted ++ bytes,
        h.in_order.1 ∙ (ap (λ l. l ++ bytes) now ∙ append_assoc s.sink.accepted sent.accepted bytes),
        subst (λ l. Parts (sent.accepted ++ bytes) (l ++ ms)) (sym one.accepts) parts,
      );
      sendable = subst (λ l. AreSendable (l ++ ms)) (sym one.accepts) (both (call_fits s.modes call s.sink.room) h.sendable);
    }

carried : {before after : Sender} {calls : List (Call × Answer)} {whole : List Line} → SendsAll before calls whole after → Holds before calls whole after
carried {before} at_end = record { fixed = refl; in_order = ([], sym (append-nil before.sink.accepted), no_line); sendable = none }
carried (next {s} {t} {u} {call} {a} {ls} {ms} {calls} one others) = one_first s t u call a ls ms calls one (carried others)

pub sending_law : SendingLawHolds
sending_law before after calls whole sends =
    let h = carried sends in
    record {
      bytes_accepted = h.fixed;
      in_order = h.in_order;
      lines_return = λ ps is prefixes items bytes more. return_all ps items more (subst AreSendable (sym is) h.sendable) prefixes bytes;
    }
