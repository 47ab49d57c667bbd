use Rattle.std.proofs.Common.{◌≡◌, ◌<◌, ℕ, [], length, sym, ap, ◌∙◌, subst, inr}
use Rattle.lock_model.specs.Deck.{Deck}
use Rattle.refute_rules.specs.Listing.{IsFirstWithin, HasMore}
use Rattle.refute_rules.specs.Cases.{IsConsistent, IsWhole, IsHard, AreSpotsOf, cases_of}
use Rattle.case_search.specs.Found.{IsFound, IsRefutedBy}
use Rattle.chamber_place.specs.OnItsWay.{Progress, case_rules}
use Rattle.chamber_place.specs.Spotting.{IsBerthDecided}
use Rattle.chamber_place.proofs.PlaceLemmas.{whole-decided, case-fits, first-refutes_not, first-hard_not, none-hard_not, more-refutes_not, marks-refute}
use Rattle.chamber_place.proofs.placing.place_by_cases.Goals as goal

deck_is : (p : Progress) (d : Deck) → p ≡ record { deck = d; case = [] } → p.deck ≡ d
deck_is p d e = ap (λ (q : Progress). q.deck) e

pub spots-requires-clause-decided : goal.spots-requires-clause-decided
spots-requires-clause-decided c =
    let d = c.args.deck.now in
    let case = c.search.new.track.case in
    let same = deck_is c.new-case.result d c.new-case.ensures in
    let found = subst (IsFound (case_rules c.new-case.result.deck) c.args.turns case) c.in-Whole.is c.in_ok-search.ensures.found in
    let first = subst (λ e. IsFirstWithin (IsConsistent e) (IsWhole e) c.args.turns (cases_of e) case) same found in
    subst (λ (e : Deck). (i : ℕ) → i < length e.ships → IsBerthDecided case i) (sym (c.in_ok-search.ensures.deck ∙ same)) (whole-decided d c.args.turns case first)

pub hard-requires : goal.hard-requires
hard-requires c =
    let d = c.args.deck.now in
    let same = deck_is c.new-case.result d c.new-case.ensures in
    let found = subst (IsFound (case_rules c.new-case.result.deck) c.args.turns c.search.new.track.case) c.in-Spent.is c.in_ok-search.ensures.found in
    let more = subst (λ e. HasMore (IsConsistent e) (IsWhole e) c.args.turns (cases_of e)) same found in
    subst (λ e. IsHard e c.args.turns) (sym c.copy.ensures) (record { reasonless = c.requires; more = more })

pub returns-in-Whole-clause-answer : goal.returns-in-Whole-clause-answer
returns-in-Whole-clause-answer c =
    let d = c.args.deck.now in
    let case = c.search.new.track.case in
    let same = deck_is c.new-case.result d c.new-case.ensures in
    let found = subst (IsFound (case_rules c.new-case.result.deck) c.args.turns case) c.in-Whole.is c.in_ok-search.ensures.found in
    let first = subst (λ e. IsFirstWithin (IsConsistent e) (IsWhole e) c.args.turns (cases_of e) case) same found in
    case-fits d c.args.turns c.requires case first c.spots.result (subst (λ e. AreSpotsOf e case c.spots.result) (c.in_ok-search.ensures.deck ∙ same) c.spots.ensures)

pub returns-in-Whole-clause-refutes : goal.returns-in-Whole-clause-refutes
returns-in-Whole-clause-refutes c =
    let d = c.args.deck.now in
    let case = c.search.new.track.case in
    let same = deck_is c.new-case.result d c.new-case.ensures in
    let found = subst (IsFound (case_rules c.new-case.result.deck) c.args.turns case) c.in-Whole.is c.in_ok-search.ensures.found in
    let first = subst (λ e. IsFirstWithin (IsConsistent e) (IsWhole e) c.args.turns (cases_of e) case) same found in
    first-refutes_not d c.args.turns c.requires case first

pub returns-in-Whole-clause-spends : goal.returns-in-Whole-clause-spends
returns-in-Whole-clause-spends c =
    let d = c.args.deck.now in
    let case = c.search.new.track.case in
    let same = deck_is c.new-case.result d c.new-case.ensures in
    let found = subst (IsFound (case_rules c.new-case.result.deck) c.args.turns case) c.in-Whole.is c.in_ok-search.ensures.found in
    first-hard_not d c.args.turns case (subst (λ e. IsFirstWithin (IsConsistent e) (IsWhole e) c.args.turns (cases_of e) case) same found)

pub returns-in-Refuted-clause-answer : goal.returns-in-Refuted-clause-answer
returns-in-Refuted-clause-answer c =
    let d = c.args.deck.now in
    let same = deck_is c.new-case.result d c.new-case.ensures in
    let found = subst (IsFound (case_rules c.new-case.result.deck) c.args.turns c.search.new.track.case) c.in-Refuted.is c.in_ok-search.ensures.found in
    marks-refute d c.args.turns c.requires c.in-Refuted.marks (subst (λ e. IsRefutedBy (case_rules e) c.args.turns c.in-Refuted.marks) same found)

pub returns-in-Refuted-clause-refutes : goal.returns-in-Refuted-clause-refutes
returns-in-Refuted-clause-refutes c =
    let d = c.args.deck.now in
    let same = deck_is c.new-case.result d c.new-case.ensures in
    let found = subst (IsFound (case_rules c.new-case.result.deck) c.args.turns c.search.new.track.case) c.in-Refuted.is c.in_ok-search.ensures.found in
    let refuted = marks-refute d c.args.turns c.requires c.in-Refuted.marks (subst (λ e. IsRefutedBy (case_rules e) c.args.turns c.in-Refuted.marks) same found) in
    (refuted.tree, inr refuted.none)

pub returns-in-Refuted-clause-spends : goal.returns-in-Refuted-clause-spends
returns-in-Refuted-clause-spends c =
    let d = c.args.deck.now in
    let same = deck_is c.new-case.result d c.new-case.ensures in
    let found = subst (IsFound (case_rules c.new-case.result.deck) c.args.turns c.search.new.track.case) c.in-Refuted.is c.in_ok-search.ensures.found in
    none-hard_not d c.args.turns c.in-Refuted.marks (marks-refute d c.args.turns c.requires c.in-Refuted.marks (subst (λ e. IsRefutedBy (case_rules e) c.args.turns c.in-Refuted.marks) same found))

pub returns-in-Spent-clause-spends : goal.returns-in-Spent-clause-spends
returns-in-Spent-clause-spends c =
    let d = c.args.deck.now in
    let same = deck_is c.new-case.result d c.new-case.ensures in
    let found = subst (IsFound (case_rules c.new-case.result.deck) c.args.turns c.search.new.track.case) c.in-Spent.is c.in_ok-search.ensures.found in
    record { reasonless = c.requires; more = subst (λ e. HasMore (IsConsistent e) (IsWhole e) c.args.turns (cases_of e)) same found }

pub returns-in-Spent-clause-refutes : goal.returns-in-Spent-clause-refutes
returns-in-Spent-clause-refutes c =
    let d = c.args.deck.now in
    let same = deck_is c.new-case.result d c.new-case.ensures in
    let found = subst (IsFound (case_rules c.new-case.result.deck) c.args.turns c.search.new.track.case) c.in-Spent.is c.in_ok-search.ensures.found in
    more-refutes_not d c.args.turns c.requires (subst (λ e. HasMore (IsConsistent e) (IsWhole e) c.args.turns (cases_of e)) same found)
