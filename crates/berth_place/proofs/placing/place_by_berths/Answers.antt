use Rattle.std.proofs.Common.{rules, subst}
use Rattle.lock_model.specs.Deck.{IsDeck}
use Rattle.refute_rules.specs.BerthTrees.{IsBerthTree}
use Rattle.refute_rules.proofs.BerthLaw.{berth_tree-unfit}
use Rattle.berth_place.specs.declared.search.Search.{Search}
use Rattle.berth_place.specs.Visits.{GrewByTree, IsClosed, IsVisit}
use Rattle.berth_place.proofs.VisitLemmas.{grew_whole}
use Rattle.berth_place.proofs.placing.place_by_berths.Goals as goal

pub returns-in-Closed-clause-answer : goal.returns-in-Closed-clause-answer
returns-in-Closed-clause-answer c =
    let d = c.args.deck.now in
    let closed : IsClosed d c.begin-search.result c.decide.new.search = subst (IsVisit d c.begin-search.result c.decide.new.search) c.in-Closed.is c.in_ok-decide.ensures in
    grew_whole d c.decide.new.search.marks (subst (λ (s : Search). GrewByTree d s.case s.marks c.decide.new.search.marks) c.begin-search.ensures closed.grew)

pub returns-in-Closed-clause-refutes : goal.returns-in-Closed-clause-refutes
returns-in-Closed-clause-refutes c =
    let d = c.args.deck.now in
    let limits : IsDeck d = search rules in
    let closed : IsClosed d c.begin-search.result c.decide.new.search = subst (IsVisit d c.begin-search.result c.decide.new.search) c.in-Closed.is c.in_ok-decide.ensures in
    let tree : IsBerthTree d c.decide.new.search.marks = grew_whole d c.decide.new.search.marks (subst (λ (s : Search). GrewByTree d s.case s.marks c.decide.new.search.marks) c.begin-search.ensures closed.grew) in
    berth_tree-unfit d c.decide.new.search.marks limits tree
