use Rattle.std.proofs.Common.{◌+◌, ◌<◌, length, arith, slice_index_or, slice_set}
use Rattle.sweep_labels.specs.Arcs.{IsGainBehind}
use Rattle.sweep_arcs.specs.Lanes.{ask_of, IsSameLane, HasGain}
use Rattle.sweep.specs.Bounds.{cuts_of, AreSameLanes}
use Rattle.sweep.proofs.BoundLemmas.{lanes_set, lane_gain}
use Rattle.sweep.proofs.JudgeLemmas.{same-at, value_more}
use Rattle.sweep.proofs.origin.gain_by.Goals as goal

pub gain-requires : goal.gain-requires
gain-requires c = (c.requires.lanes.each c.args.chamber c.index-lanes-first.result c.requires.chamber).is

pub returns-clause-same : goal.returns-clause-same
returns-clause-same c =
    let lanes = c.args.lanes.now in
    let k = c.args.first + c.args.chamber in
    let read = c.index-lanes-first.result in
    let old = slice_index_or lanes k read in
    let new = c.gain.new.self in
    let room = c.requires.lanes.within in
    let known = c.requires.chamber in
    let within : k < length lanes = omega (arith, room, known) in
    value_more (λ _. IsSameLane old new) (λ _. AreSameLanes lanes (slice_set lanes k new)) c.gain.result (λ _ same. lanes_set lanes k old new within (λ d. same-at lanes k d read within) same) c.gain.ensures.same

pub returns-clause-gain : goal.returns-clause-gain
returns-clause-gain c =
    let case = c.args.case.now in
    let lanes = c.args.lanes.now in
    let k = c.args.first + c.args.chamber in
    let read = c.index-lanes-first.result in
    let old = slice_index_or lanes k read in
    let times = c.args.times.now in
    let room = c.requires.lanes.within in
    let known = c.requires.chamber in
    let within : k < length lanes = omega (arith, room, known) in
    value_more (λ gain. HasGain (ask_of old) times gain) (λ gain. IsGainBehind case.instance.now (cuts_of case) case.prices.now c.args.chamber times gain) c.gain.result
    (lane_gain case lanes c.args.first c.args.chamber old c.requires.lanes known (λ d. same-at lanes k d read within) times) c.gain.ensures.gain
