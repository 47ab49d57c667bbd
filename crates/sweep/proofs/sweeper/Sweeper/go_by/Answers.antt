use Rattle.std.proofs.Common.{◌≡◌, SFits, w64, length, refl, subst, rules}
use Rattle.std.proofs.lemmas.Int.{to_z-of_z}
use Rattle.sweep_labels.specs.Arcs.{AreArcs}
use Rattle.sweep_labels.specs.Labels.{ready_by, times_at}
use Rattle.sweep.specs.Bounds.{cuts_of}
use Rattle.sweep.specs.Going.{AreArcsLed}
use Rattle.sweep.proofs.GrownLemmas.{guided_on, sound_same, further_same, further_more}
use Rattle.sweep.proofs.GoingLemmas.{way_led}
use Rattle.sweep.proofs.JudgeLemmas.{no_value}
use Rattle.sweep.proofs.sweeper.Sweeper.go_by.Goals as goal

pub returns-clause-led : goal.returns-clause-led
returns-clause-led c =
    let case = c.args.case.now in
    let from = c.args.from.now in
    let arcs = c.in_ok-arcs.arcs.items in
    let room = c.in_ok-room.room in
    let fits : SFits w64 room = search rules in
    let further = further_more case _ _ _ (further_same case _ _ c.requires.sound (guided_on case _ _ _ c.requires.sound.guided c.in_ok-arcs.ensures.same) refl refl) c.in_ok-go_by_arcs.ensures.further in
    let minute : c.by-minute.result ≡ ready_by (times_at from.label.ready c.args.chamber) c.args.way = search rules in
    let listed : c.deref.result.now ≡ arcs = search rules in
    way_led case c.args.self.now.made c.go_by_arcs.new.self.made from c.args.chamber c.args.way room arcs further.grown c.requires.origin c.in_ok-room.ensures
    (subst (λ minute. AreArcs case.instance.now (cuts_of case) case.prices.now c.args.chamber c.args.way minute from.label.served.bits room arcs) minute
    (subst (λ room. AreArcs case.instance.now (cuts_of case) case.prices.now c.args.chamber c.args.way c.by-minute.result from.label.served.bits room arcs) (to_z-of_z w64 room fits) c.in_ok-arcs.ensures.arcs))
    (subst (λ arcs. AreArcsLed case c.go_by_arcs.new.self.made from.label c.args.chamber c.args.way (length arcs) arcs) listed c.in_ok-go_by_arcs.ensures.led)

pub returns-in_err-room-clause-further : goal.returns-in_err-room-clause-further
returns-in_err-room-clause-further c = no_value _ c.from_residual.result c.from_residual.ensures.0

pub returns-in_err-room-clause-led : goal.returns-in_err-room-clause-led
returns-in_err-room-clause-led c = no_value _ c.from_residual.result c.from_residual.ensures.0

pub returns-in_err-arcs-clause-further : goal.returns-in_err-arcs-clause-further
returns-in_err-arcs-clause-further c = no_value _ c.from_residual-in_err-arcs.result c.from_residual-in_err-arcs.ensures.0

pub returns-in_err-arcs-clause-led : goal.returns-in_err-arcs-clause-led
returns-in_err-arcs-clause-led c = no_value _ c.from_residual-in_err-arcs.result c.from_residual-in_err-arcs.ensures.0

pub returns-in_err-go_by_arcs-clause-further : goal.returns-in_err-go_by_arcs-clause-further
returns-in_err-go_by_arcs-clause-further c = no_value _ c.from_residual-in_err-go_by_arcs.result c.from_residual-in_err-go_by_arcs.ensures.0

pub returns-in_err-go_by_arcs-clause-led : goal.returns-in_err-go_by_arcs-clause-led
returns-in_err-go_by_arcs-clause-led c = no_value _ c.from_residual-in_err-go_by_arcs.result c.from_residual-in_err-go_by_arcs.ensures.0

pub go_by_arcs-requires-clause-sound : goal.go_by_arcs-requires-clause-sound
go_by_arcs-requires-clause-sound c =
    let case = c.args.case.now in
    let old = c.args.self.now in
    sound_same case old _ c.requires.sound (guided_on case old.lanes.now _ old.known c.requires.sound.guided c.in_ok-arcs.ensures.same) refl

pub returns-clause-further : goal.returns-clause-further
returns-clause-further c =
    let case = c.args.case.now in
    let old = c.args.self.now in
    further_more case old _ _ (further_same case old _ c.requires.sound (guided_on case old.lanes.now _ old.known c.requires.sound.guided c.in_ok-arcs.ensures.same) refl refl) c.in_ok-go_by_arcs.ensures.further

pub room_of-requires : goal.room_of-requires
room_of-requires c = c.requires.chamber

pub arcs_of-requires-clause-lanes : goal.arcs_of-requires-clause-lanes
arcs_of-requires-clause-lanes c = c.requires.sound.guided.lanes.own

pub arcs_of-requires-clause-chamber : goal.arcs_of-requires-clause-chamber
arcs_of-requires-clause-chamber c = c.requires.chamber

pub go_by_arcs-requires-clause-origin : goal.go_by_arcs-requires-clause-origin
go_by_arcs-requires-clause-origin c = c.requires.origin

pub go_by_arcs-requires-clause-chamber : goal.go_by_arcs-requires-clause-chamber
go_by_arcs-requires-clause-chamber c = c.requires.chamber
