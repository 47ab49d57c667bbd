use Rattle.std.proofs.Common.{◌≡◌, refl, sym, ap, ◌∙◌, subst}
use Rattle.mooring_rules.specs.declared.breaks.BrokenPlan.{BrokenPlan}
use Rattle.closing_rules.specs.declared.grounds.Ground.TheVariants as by
use Rattle.book_rules.specs.Book.{Book, best_cost}
use Rattle.book_rules.specs.Events as machine
use Rattle.book_rules.specs.Events.{close}
use Rattle.book_rules.specs.Step.{may_close, refusal_of, cheaper_than}
use Rattle.book_core.specs.declared.reply.Reply.TheVariants as reply
use Rattle.book_core.specs.declared.reply.Refusal.TheVariants as refusing
use Rattle.book_core.specs.Keeps.{IsSound}
use Rattle.book_core.specs.Replies.{Answers}
use Rattle.book_core.proofs.CloseLemmas.{missed, refused, probe-absent, probe-asked}
use Rattle.book_core.proofs.book.Book.close_probe.Goals as goal

pub returns-then-not-may_close : goal.returns-then-not-may_close
returns-then-not-may_close c = missed c.args.self.now c.args.id (by.Probe c.args.ship) (sym c.may_close.ensures.value ∙ c.if-not-may_close.true)

pub shut_from-requires-clause-held : goal.shut_from-requires-clause-held
shut_from-requires-clause-held c = ap (λ (u : Book). may_close u c.args.id) c.probe_with.ensures.same ∙ sym c.may_close.ensures.value ∙ c.if-not-may_close.false

pub shut_from-requires-clause-asked : goal.shut_from-requires-clause-asked
shut_from-requires-clause-asked c =
    subst (λ (u : Book). refusal_of {Break = BrokenPlan} u c.args.id (by.Probe c.args.ship) ≡ cheaper_than (best_cost u) c.in-Some.least) (sym c.probe_with.ensures.same)
    (probe-asked c.args.self.now c.args.id c.args.ship c.in-Some.least c.in-Some.ensures.some.0 c.in-Some.ensures.some.1)

pub shut_from-requires-clause-sound : goal.shut_from-requires-clause-sound
shut_from-requires-clause-sound c = subst IsSound (sym c.probe_with.ensures.same) c.may_close.ensures.sound

pub returns-in-Some : goal.returns-in-Some
returns-in-Some c = subst (λ u. Answers u (close c.args.id (by.Probe c.args.ship)) c.shut_from.result c.shut_from.new.self) c.probe_with.ensures.same c.shut_from.ensures

pub returns-in-None : goal.returns-in-None
returns-in-None c =
    subst (λ u. Answers c.args.self.now (close c.args.id (by.Probe c.args.ship)) (reply.Refused (refusing.Absent c.args.ship)) u) (sym c.probe_with.ensures.same)
    (refused c.args.self.now c.args.id (by.Probe c.args.ship) (reply.Refused (refusing.Absent c.args.ship)) (machine.Absent c.args.ship) refl (sym c.may_close.ensures.value ∙ c.if-not-may_close.false)
    (probe-absent c.args.self.now c.args.id c.args.ship c.in-None.ensures.none))
