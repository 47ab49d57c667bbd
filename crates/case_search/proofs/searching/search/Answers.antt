use Rattle.std.proofs.Common.{subst}
use Rattle.case_search.specs.Visits.{IsVisit}
use Rattle.case_search.proofs.FoundLemmas.{first-found, none-found, more-found}
use Rattle.case_search.proofs.searching.search.Goals as goal

pub returns-in-Whole-clause-found : goal.returns-in-Whole-clause-found
returns-in-Whole-clause-found g c =
    let visit = subst (IsVisit (g.T.Track.rules (g.T.Track.deck c.args.track.now)) (g.T.Track.case c.args.track.now) c.args.turns 0 c.explore.new.used c.new-marks.result c.explore.new.marks (g.T.Track.case c.explore.new.track)) c.in-Whole.is c.in_ok-explore.ensures.visit in
    first-found (g.T.Track.rules (g.T.Track.deck c.args.track.now)) (g.T.Track.case c.args.track.now) c.requires c.explore.new.used c.args.turns (g.T.Track.case c.explore.new.track) c.in_ok-explore.ensures.few visit

pub returns-in-Refuted-clause-found : goal.returns-in-Refuted-clause-found
returns-in-Refuted-clause-found g c =
    let visit = subst (IsVisit (g.T.Track.rules (g.T.Track.deck c.args.track.now)) (g.T.Track.case c.args.track.now) c.args.turns 0 c.explore.new.used c.new-marks.result c.explore.new.marks (g.T.Track.case c.explore.new.track)) c.in-Refuted.is c.in_ok-explore.ensures.visit in
    none-found (g.T.Track.rules (g.T.Track.deck c.args.track.now)) (g.T.Track.case c.args.track.now) c.requires c.explore.new.used c.args.turns c.new-marks.result c.explore.new.marks (g.T.Track.case c.explore.new.track) c.new-marks.ensures c.in_ok-explore.ensures.few visit

pub returns-in-Spent-clause-found : goal.returns-in-Spent-clause-found
returns-in-Spent-clause-found g c =
    let visit = subst (IsVisit (g.T.Track.rules (g.T.Track.deck c.args.track.now)) (g.T.Track.case c.args.track.now) c.args.turns 0 c.explore.new.used c.new-marks.result c.explore.new.marks (g.T.Track.case c.explore.new.track)) c.in-Spent.is c.in_ok-explore.ensures.visit in
    more-found (g.T.Track.rules (g.T.Track.deck c.args.track.now)) (g.T.Track.case c.args.track.now) c.requires c.args.turns visit
