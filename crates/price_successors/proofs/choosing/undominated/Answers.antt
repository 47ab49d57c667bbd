use Rattle.std.proofs.Common.{◌≡◌, [], All, sym, subst, rules}
use Rattle.std.proofs.lemmas.List.Elements.{All-nil}
use Rattle.price_successors.specs.declared.successor.Successor.{Successor}
use Rattle.price_terms.specs.Cuts.{plain_cuts}
use Rattle.price_groups.specs.Asked.{line_asked}
use Rattle.price_successors.specs.Successors.{IsSuccessor}
use Rattle.price_successors.specs.Enough.{HaveMore}
use Rattle.price_successors.proofs.SuccessorLemmas.{put-done, more-ordered}
use Rattle.price_successors.proofs.choosing.undominated.Goals as goal

pub put_each-requires-clause-each : goal.put_each-requires-clause-each
put_each-requires-clause-each c =
    let case = c.args.extension.now.case.now in
    let I = case.instance.now in
    let is : Successor → Type 0 = IsSuccessor (line_asked case) in
    subst (All is) (sym c.new-successors.ensures.items) (All-nil is)

pub put_each-requires-clause-others : goal.put_each-requires-clause-others
put_each-requires-clause-others c =
    let case = c.args.extension.now.case.now in
    let I = case.instance.now in
    let same : c.deref.result.now ≡ c.in_ok-more.more.items = search rules in
    subst (All (IsSuccessor (line_asked case))) (sym same) c.in_ok-more.ensures.each

pub returns : goal.returns
returns c =
    let case = c.args.extension.now.case.now in
    let I = case.instance.now in
    let cuts = plain_cuts I case.cuts.now in
    let same : c.deref.result.now ≡ c.in_ok-more.more.items = search rules in
    let more = subst (HaveMore (line_asked case) c.args.joins c.args.list.now.base []) (sym same) c.in_ok-more.ensures in
    let put = c.put_each.new.successors.items in
    let done = put-done (line_asked case) c.args.joins c.args.list.now.base c.deref.result.now c.new-successors.result.items put more c.in_ok-put_each.ensures in
    let all = subst (λ old. HaveMore (line_asked case) c.args.joins c.args.list.now.base old put) c.new-successors.ensures.items done in
    more-ordered (line_asked case) c.args.joins c.args.list.now.base [] put c.short_first.new.successors.items c.in_ok-short_first.ensures all
