use Rattle.std.proofs.Common.{◌≡◌, ◌+◌, ◌<◌, length, sym, subst, ap, ◌∙◌, arith}
use Rattle.lock_model.specs.declared.plan.Lockage.{Lockage}
use Rattle.replan.specs.Last.{EndsWith, IsLastFrom}
use Rattle.replan.proofs.KeptLemmas.{read_at}
use Rattle.replan.proofs.StandingLemmas.{last_kept, last_behind}
use Rattle.replan.proofs.standing.later.Goals as goal

pub returns-then-lockages-place-2 : goal.returns-then-lockages-place-2
returns-then-lockages-place-2 c =
    let P = c.args.plan.now in
    let ls = c.as_slice-lockages.result.now in
    let same : ls ≡ P.lockages = c.as_slice-lockages.ensures.value in
    let long : length ls ≡ length P.lockages = ap length same in
    let behind : EndsWith P c.args.chamber (c.args.place + 1) c.in-Some.other = subst (IsLastFrom P c.args.chamber (c.args.place + 1)) c.in-Some.is c.requires.behind in
    let within : c.args.place < length ls = omega (arith, c.requires.place_in, long) in
    let inside : c.in-Some.other < length ls = omega (arith, behind.within, long) in
    let here = read_at P c.args.place c.index-lockages-place.result ls same within c.index-lockages-place.is in
    let again = read_at P c.args.place c.index-lockages-place-in-Some.result ls same within c.index-lockages-place-in-Some.is in
    let there = read_at P c.in-Some.other c.index-lockages-other.result ls same inside c.index-lockages-other.is in
    last_kept P c.args.chamber c.args.place c.requires.place_in c.in-Some.other
    (sym (ap (λ (l : Lockage). l.chamber) here) ∙ c.if-lockages-place.false)
    (omega (arith, c.if-lockages-place-2.true, ap (λ (l : Lockage). l.start) again, ap (λ (l : Lockage). l.start) there))
    behind

pub returns-else-lockages-place-2 : goal.returns-else-lockages-place-2
returns-else-lockages-place-2 c =
    let P = c.args.plan.now in
    let ls = c.as_slice-lockages.result.now in
    let same : ls ≡ P.lockages = c.as_slice-lockages.ensures.value in
    let long : length ls ≡ length P.lockages = ap length same in
    let behind : EndsWith P c.args.chamber (c.args.place + 1) c.in-Some.other = subst (IsLastFrom P c.args.chamber (c.args.place + 1)) c.in-Some.is c.requires.behind in
    let within : c.args.place < length ls = omega (arith, c.requires.place_in, long) in
    let inside : c.in-Some.other < length ls = omega (arith, behind.within, long) in
    let here = read_at P c.args.place c.index-lockages-place.result ls same within c.index-lockages-place.is in
    let again = read_at P c.args.place c.index-lockages-place-in-Some.result ls same within c.index-lockages-place-in-Some.is in
    let there = read_at P c.in-Some.other c.index-lockages-other.result ls same inside c.index-lockages-other.is in
    last_behind P c.args.chamber c.args.place c.requires.place_in c.in-Some.other
    (sym (ap (λ (l : Lockage). l.chamber) here) ∙ c.if-lockages-place.false)
    (omega (arith, c.if-lockages-place-2.false, ap (λ (l : Lockage). l.start) again, ap (λ (l : Lockage). l.start) there))
    behind
