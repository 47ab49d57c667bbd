use Rattle.std.proofs.Common.{◌≡◌, ◌+◌, ◌<◌, ◌∙◌, length, ap, subst, arith, slice_index_or, slice_set}
use Rattle.sweep_arcs.specs.declared.lane.Lane.{Lane}
use Rattle.sweep_arcs.specs.Lanes.{ask_of, IsLane, IsSameLane, HasArcs}
use Rattle.sweep.specs.Bounds.{AreSameLanes, AreArcsAsked}
use Rattle.sweep.proofs.BoundLemmas.{lanes_set, lane_arcs}
use Rattle.sweep.proofs.JudgeLemmas.{same-at, value_more}
use Rattle.sweep.proofs.sweeper.arcs_of.Goals as goal

pub arcs-requires : goal.arcs-requires
arcs-requires c =
    let lane = c.index-lanes-chamber.result in
    let place : 0 + c.args.chamber ≡ c.args.chamber = omega arith in
    subst (λ n. IsLane (slice_index_or c.args.lanes.now n lane)) place (c.requires.lanes.each c.args.chamber lane c.requires.chamber).is

pub returns-clause-same : goal.returns-clause-same
returns-clause-same c =
    let lanes = c.args.lanes.now in
    let k = c.args.chamber in
    let read = c.index-lanes-chamber.result in
    let old = slice_index_or lanes k read in
    let new = c.arcs.new.self in
    let room = c.requires.lanes.within in
    let known = c.requires.chamber in
    let within : k < length lanes = omega (arith, room, known) in
    value_more (λ _. IsSameLane old new) (λ _. AreSameLanes lanes (slice_set lanes k new)) c.arcs.result (λ _ same. lanes_set lanes k old new within (λ d. same-at lanes k d read within) same) c.arcs.ensures.same

pub returns-clause-arcs : goal.returns-clause-arcs
returns-clause-arcs c =
    let case = c.args.case.now in
    let lanes = c.args.lanes.now in
    let k = c.args.chamber in
    let read = c.index-lanes-chamber.result in
    let old = slice_index_or lanes k read in
    let asked = c.args.asked.now in
    let room = c.requires.lanes.within in
    let known = c.requires.chamber in
    let within : k < length lanes = omega (arith, room, known) in
    let place : 0 + k ≡ k = omega arith in
    let here = λ (d : Lane). ap (λ n. slice_index_or lanes n d) place ∙ same-at lanes k d read within in
    value_more (λ arcs. HasArcs (ask_of old) asked arcs.items) (λ arcs. AreArcsAsked case k asked arcs.items) c.arcs.result (λ arcs. lane_arcs case lanes 0 k old c.requires.lanes known here asked arcs.items) c.arcs.ensures.arcs
