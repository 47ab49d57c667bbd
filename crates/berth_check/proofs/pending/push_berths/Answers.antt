use Rattle.std.proofs.Common.{◌≡◌, ◌∷◌, ap, ◌∙◌}
use Rattle.lock_model.specs.declared.placement.Rank.TheVariants.{Left, Right}
use Rattle.lock_model.specs.declared.placement.Moor.TheVariants.{Quay}
use Rattle.berth_check.specs.Pending.{with_berth}
use Rattle.berth_check.proofs.PendingLemmas.{berths_pushed}
use Rattle.berth_check.proofs.pending.push_berths.Goals as goal

pub returns : goal.returns
returns c =
    let old = c.args.pending.now in
    let hosts = c.push_hosts.new.pending in
    let right = c.push_berth.new.self in
    let same : hosts.case ≡ old.case = c.in_ok-push_hosts.ensures.case in
    let then : right.case ≡ old.case = c.in_ok-push_berth.ensures.case ∙ same in
    berths_pushed old.case c.args.ship c.args.deck.now old.others hosts.others right.others c.push_berth-2.new.self.others c.in_ok-push_hosts.ensures.others
    (c.in_ok-push_berth.ensures.others ∙ ap (λ cs. with_berth cs c.args.ship Right Quay ∷ hosts.others) same)
    (c.in_ok-push_berth-2.ensures.others ∙ ap (λ cs. with_berth cs c.args.ship Left Quay ∷ right.others) then)
