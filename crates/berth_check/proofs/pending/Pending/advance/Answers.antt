use Rattle.std.proofs.Common.{◌≡◌, [], ◌∷◌, ◌++◌, length, take, ◌+◌, sym, ap, ◌∙◌, arith}
use Rattle.std.proofs.lemmas.List.{length-take-le, length-append}
use Rattle.berth_check.specs.Pending.{Ahead}
use Rattle.berth_check.proofs.PendingLemmas.{branch_below, branch_left, branch_taken}
use Rattle.berth_check.proofs.pending.Pending.advance.Goals as goal

pub invariant_of-self-in-Some : goal.invariant_of-self-in-Some
invariant_of-self-in-Some c =
    let i = c.self.inside in
    let b = c.in-Some.branch in
    let left = c.pop.new.self.items in
    let below = branch_below i.case left i.branches.items b c.in-Some.ensures.items c.self.invariant in
    let size : length c.push.new.self ≡ length (take b.kept i.case) + 1 = ap length (c.in_ok-push-in-Some.ensures.ok ∙ ap (λ cs. cs ++ b.choice ∷ []) c.truncate.ensures) ∙ length-append (take b.kept i.case) (b.choice ∷ []) in
    let kept : length (take b.kept i.case) ≡ b.kept = length-take-le b.kept i.case below in
    branch_left i.case left i.branches.items b c.in-Some.ensures.items (length c.push.new.self) c.self.invariant (omega (arith, size, kept))

pub returns-in_ok-push-in-Some : goal.returns-in_ok-push-in-Some
returns-in_ok-push-in-Some c =
    let i = c.self.inside in
    let b = c.in-Some.branch in
    let next = c.in_ok-push-in-Some.ensures.ok ∙ ap (λ cs. cs ++ b.choice ∷ []) c.truncate.ensures in
    ap (λ (p : Ahead). p.others) (sym c.self.view_is) ∙ branch_taken i.case c.pop.new.self.items i.branches.items b c.in-Some.ensures.items c.push.new.self c.self.invariant next
