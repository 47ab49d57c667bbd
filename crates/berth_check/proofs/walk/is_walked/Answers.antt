use Rattle.std.proofs.Common.{◌≡◌, [], ◌∷◌, rules, subst}
use Rattle.berth_check.specs.Pending.{IsReadingStep, IsRead}
use Rattle.berth_check.proofs.StepLemmas.{walk_read, walk_ends}
use Rattle.berth_check.proofs.walk.is_walked.Goals as goal

pub returns-then-not-branch : goal.returns-then-not-branch
returns-then-not-branch c =
    let d = c.args.deck.now in
    let marks = c.args.marks.now in
    let old = c.loop-pending.pending.case ∷ c.loop-pending.pending.others in
    let left = c.step.new.pending.others in
    let read : IsRead d old left marks c.loop-pending.at c.in-Some.end = subst (IsReadingStep d old left marks c.loop-pending.at) c.in-Some.is c.in_ok-end.ensures in
    let empty : left ≡ [] = search rules in
    walk_ends d marks left c.in-Some.end empty (walk_read d marks old left c.loop-pending.at c.in-Some.end c.loop-pending.invariant read)
