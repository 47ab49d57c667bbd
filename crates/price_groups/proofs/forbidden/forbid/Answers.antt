use Rattle.std.proofs.Common.{rules, ◌≡◌, ◌∷◌, ◌++◌, [], sym, subst, ◌∙◌, ap}
use Rattle.std.proofs.lemmas.Result.{on_ok_weaker}
use Rattle.price_terms.specs.Cuts.{plain_cut}
use Rattle.price_groups.specs.Sparing.{Bears, AreForbidden}
use Rattle.price_groups.proofs.ForbiddenLemmas.{forbid-same, forbid-more}
use Rattle.price_groups.proofs.forbidden.forbid.Goals as goal

pub returns-then-bears : goal.returns-then-bears
returns-then-bears c =
    let I = c.args.case.now.instance.now in
    let bears : Bears I c.args.case.now.index c.args.cut.now = search rules in
    let copied : c.copy.result ≡ c.args.cut.now.ships = search rules in
    on_ok_weaker c.append.result (λ pushed cuts are.
    subst (AreForbidden I c.args.case.now.index (cuts ++ plain_cut I c.args.cut.now ∷ [])) (sym (pushed ∙ ap (λ ships. c.args.sets.now.items ++ ships ∷ []) copied))
    (forbid-more I c.args.case.now.index c.args.case.now.chamber_in cuts c.args.sets.now.items c.args.cut.now bears are)) c.append.ensures

pub returns : goal.returns
returns c = λ cuts are.
    let idle : ¬ Bears c.args.case.now.instance.now c.args.case.now.index c.args.cut.now = search rules in
    forbid-same c.args.case.now.instance.now c.args.case.now.index c.args.case.now.chamber_in cuts c.args.sets.now.items c.args.cut.now idle are
