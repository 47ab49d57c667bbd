use Rattle.std.proofs.Common.{◌≡◌, ◌-◌, length}
use Rattle.case_search.specs.Visits.{IsPassed}
use Rattle.case_search.proofs.visits.+explore.Given as goal

abbrev pub decreases-explore : goal.decreases-explore
decreases-explore g l = length (g.T.Track.rules (g.T.Track.deck l.track.now)).decisions - length (g.T.Track.case l.track.now)

abbrev pub invariant-loop-option : goal.invariant-loop-option
invariant-loop-option g l = record {
  deck : g.T.Track.deck l.track ≡ g.T.Track.deck l.fn.track;
  case : g.T.Track.case l.track ≡ g.T.Track.case l.fn.track;
  passed : IsPassed (g.T.Track.rules (g.T.Track.deck l.fn.track)) (g.T.Track.case l.fn.track) l.fn.turns l.fn.used l.used l.fn.marks l.marks l.option;
}
