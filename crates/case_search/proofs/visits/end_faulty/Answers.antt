use Rattle.std.proofs.Common.{◌≡◌, ◌+◌, ◌-◌, ◌<◌, Bool, true, false, cond, refl, ap, ◌∙◌, subst}
use mir.Val.{bool_byte}
use Rattle.case_search.proofs.VisitLemmas.{fault-refuted, fault-spent}
use Rattle.case_search.proofs.visits.end_faulty.Goals as goal

byte : (b : Bool) → bool_byte b ≡ cond b 1 0
byte true = refl
byte false = refl

pub returns-then-turns-used-clause-visit : goal.returns-then-turns-used-clause-visit
returns-then-turns-used-clause-visit g c =
    let r = g.T.Track.rules (g.T.Track.deck c.args.track.now) in
    let cost : bool_byte c.counts_faulty-cost.result ≡ cond r.counts_faulty 1 0 = byte c.counts_faulty-cost.result ∙ ap (λ b. cond b 1 0) c.counts_faulty-cost.ensures in
    fault-spent r (g.T.Track.case c.args.track.now) c.requires.reached c.args.used.now c.args.turns c.requires.used (subst (λ n. c.args.turns - c.args.used.now < n) cost c.if-turns-used.true)

pub returns-clause-visit : goal.returns-clause-visit
returns-clause-visit g c =
    let r = g.T.Track.rules (g.T.Track.deck c.args.track.now) in
    let cost : bool_byte c.counts_faulty-cost.result ≡ cond r.counts_faulty 1 0 = byte c.counts_faulty-cost.result ∙ ap (λ b. cond b 1 0) c.counts_faulty-cost.ensures in
    fault-refuted r (g.T.Track.case c.args.track.now) (g.met.T.Track.lawful (g.T.Track.deck c.args.track.now)) c.requires.reached c.args.fault.now c.requires.fault c.args.used.now (c.args.used.now + bool_byte c.counts_faulty-cost.result) c.args.marks.now c.write_fault.new.marks (ap (λ n. c.args.used.now + n) cost) c.in_ok-write_fault.ensures
