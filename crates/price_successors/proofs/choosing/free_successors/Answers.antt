use Rattle.std.proofs.Common.{◌≡◌, [], sym, ap, ◌∙◌, subst, None}
use Rattle.std.proofs.lemmas.List.Elements.{All-nil}
use Rattle.lock_model.specs.declared.way.Way.TheVariants.{Up, Down}
use Rattle.price_groups.specs.declared.grown_lists.GrownList.{GrownList}
use Rattle.price_terms.specs.Cuts.{plain_cuts}
use Rattle.price_groups.specs.Asked.{line_asked, group_asked}
use Rattle.price_groups.specs.GrownLists.{IsGrownList}
use Rattle.price_successors.specs.Successors.{IsSuccessor}
use Rattle.price_successors.specs.Dominance.{AreLate}
use Rattle.price_successors.specs.Enough.{HaveEarly}
use Rattle.price_successors.proofs.SuccessorLemmas.{some-none}
use Rattle.price_successors.proofs.LateLemmas.{late-none}
use Rattle.price_successors.proofs.choosing.free_successors.Goals as goal

pub put_grown-requires-clause-list : goal.put_grown-requires-clause-list
put_grown-requires-clause-list c =
    let case = c.args.extension.now.case.now in
    subst (IsGrownList (group_asked c.args.extension.now)) (sym c.index.ensures) (c.in_ok-up.ensures.lists c.in_ok-up.up c.index.result.now c.in_ok-up.ensures.place)

pub put_grown-requires-2-clause-list : goal.put_grown-requires-2-clause-list
put_grown-requires-2-clause-list c =
    let case = c.args.extension.now.case.now in
    subst (IsGrownList (group_asked c.args.extension.now)) (sym c.index-2.ensures) (c.in_ok-down.ensures.lists c.in_ok-down.down c.index-2.result.now c.in_ok-down.ensures.place)

pub returns-clause-some : goal.returns-clause-some
returns-clause-some c =
    let case = c.args.extension.now.case.now in
    let I = case.instance.now in
    let cuts = plain_cuts I case.cuts.now in
    let none = subst (AreLate (line_asked case) 0 []) (sym c.new-successors.ensures.items) (late-none (line_asked case) 0) in
    let first : c.index.result.now.base ≡ record { way = Up; ships = [] } = ap (λ (l : GrownList). l.base) c.index.ensures ∙ c.in_ok-up.ensures.base c.index.result.now ∙ c.empty.ensures in
    let second : c.index-2.result.now.base ≡ record { way = Down; ships = [] } = ap (λ (l : GrownList). l.base) c.index-2.ensures ∙ c.in_ok-down.ensures.base c.index-2.result.now ∙ c.empty-2.ensures in
    let up = subst (λ base. HaveEarly (line_asked case) None base [] c.put_grown.new.successors.items) first
    (c.in_ok-put_grown.ensures [] (All-nil (IsSuccessor (line_asked case))) none) in
    let down = subst (λ base. HaveEarly (line_asked case) None base up.more c.put_grown-2.new.successors.items) second
    (c.in_ok-put_grown-2.ensures up.more up.have.each up.early) in
    record { successors = down.more; some = some-none (line_asked case) up.more down.more up.have down.have; early = down.early }
