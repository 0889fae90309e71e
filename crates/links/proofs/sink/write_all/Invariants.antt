use Rattle.std.proofs.Common.{◌≡◌, length}
use Rattle.links.proofs.Sending.{outcome}
use Rattle.links.proofs.sink.write_all.Given as goal

-- what is left comes to what the whole comes to
abbrev pub invariant-push : goal.invariant-push
invariant-push g l =
    let stand = g.K.Sink.stand in
    outcome l.initial.bytes (stand l.initial.sink) ≡ outcome l.rest (stand l.sink)

abbrev pub decreases-push : goal.decreases-push
decreases-push g l = length (g.K.Sink.stand l.sink).room
