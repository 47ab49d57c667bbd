use Rattle.std.proofs.Common.{ap, ◌∙◌, subst, Some, None}
use Rattle.lock_rules.specs.Plan.{cost_of}
use Rattle.book_core.specs.Replies.{IsJudged}
use Rattle.book_core.proofs.OutdoneLemmas.{replace-broken, replace-dear, replace-sound, replace-done}
use Rattle.book_core.proofs.book.Book.replace.Goals as goal

pub returns-in-Some : goal.returns-in-Some
returns-in-Some c =
    replace-broken c.args.self.now c.args.plan c.in-Some.found
    (subst (λ I. IsJudged I c.args.plan (Some c.in-Some.found)) c.instance.ensures (record { none = c.in-Some.ensures.none; some = c.in-Some.ensures.some }))

pub returns-then-cost-best : goal.returns-then-cost-best
returns-then-cost-best c =
    let b = c.args.self.now in
    let judged : IsJudged b.case.instance c.args.plan None = subst (λ I. IsJudged I c.args.plan None) c.instance.ensures (record { none = c.in_default.ensures.none; some = c.in_default.ensures.some }) in
    let cost = c.cost_of_legal-cost.ensures ∙ ap (λ I. cost_of I c.args.plan) c.instance-2.ensures in
    replace-dear b c.args.plan judged c.cost_of_legal-cost.result c.best_cost-best.result cost c.best_cost-best.ensures c.if-cost-best.true

pub put_plan-requires-clause-sound : goal.put_plan-requires-clause-sound
put_plan-requires-clause-sound c =
    let b = c.args.self.now in
    let judged : IsJudged b.case.instance c.args.plan None = subst (λ I. IsJudged I c.args.plan None) c.instance.ensures (record { none = c.in_default.ensures.none; some = c.in_default.ensures.some }) in
    let cost = c.cost_of_legal-cost.ensures ∙ ap (λ I. cost_of I c.args.plan) c.instance-2.ensures in
    replace-sound b c.args.plan judged c.cost_of_legal-cost.result c.best_cost-best.result cost c.best_cost-best.ensures c.keeps.ensures c.if-cost-best.false

pub returns-in-Ok : goal.returns-in-Ok
returns-in-Ok c =
    let b = c.args.self.now in
    let judged : IsJudged b.case.instance c.args.plan None = subst (λ I. IsJudged I c.args.plan None) c.instance.ensures (record { none = c.in_default.ensures.none; some = c.in_default.ensures.some }) in
    let cost = c.cost_of_legal-cost.ensures ∙ ap (λ I. cost_of I c.args.plan) c.instance-2.ensures in
    replace-done b c.args.plan judged c.cost_of_legal-cost.result c.best_cost-best.result cost c.best_cost-best.ensures c.put_plan.new.self c.if-cost-best.false c.in-Ok.ensures.some
