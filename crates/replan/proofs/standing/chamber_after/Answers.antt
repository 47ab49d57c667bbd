use Rattle.std.proofs.Common.{◌≡◌, ◌<◌, length, ap, ◌∙◌, arith}
use Rattle.replan.specs.Last.{EndsWith}
use Rattle.replan.proofs.StandingLemmas.{after_read}
use Rattle.replan.proofs.standing.chamber_after.Goals as goal

pub returns-in-Some : goal.returns-in-Some
returns-in-Some c =
    let K = c.args.kept.now in
    let ls = c.as_slice-in-Some.result.now in
    let same : ls ≡ K.lockages = c.as_slice-in-Some.ensures.value in
    let ends : EndsWith K c.args.chamber 0 c.in-Some.p = c.in-Some.ensures in
    let within : c.in-Some.p < length ls = omega (arith, ends.within, ap length same) in
    c.left_by.ensures ∙ after_read c.args.instance.now K c.args.chamber c.in-Some.p c.index-as_slice-p.result ls same within c.index-as_slice-p.is ends
