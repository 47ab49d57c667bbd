use Rattle.std.proofs.Common.{rules, ◌≡◌, refl, ◌∙◌}
use Rattle.search_book.proofs.GoingLemmas.{rest-all, went-all, went-on}
use Rattle.search_book.proofs.going.go_ahead.Goals as goal

pub returns-in-Err-clause-steps : goal.returns-in-Err-clause-steps
returns-in-Err-clause-steps g c =
    let l = c.loop-ahead in
    went-all c.args.worker c.args.kept.now.book.value c.args.id c.args.stretch.now.nodes.items l.kept.book.value l.held l.ahead.now l.place l.invariant.0 l.invariant.1
    c.one-item.result c.one-item.is _ refl c.ending_of-ending.result c.ending_of-ending.ensures.value c.lay.new.book (c.lay.ensures ∙ c.deref_mut.ensures.value)
    c.in-Err.next c.pass.new.kept.book.value c.in-Err.ensures.off

pub loop-ahead-preserved : goal.loop-ahead-preserved
loop-ahead-preserved g c =
    let l = c.loop-ahead in (
      went-on c.args.worker c.args.kept.now.book.value c.args.id c.args.stretch.now.nodes.items l.kept.book.value l.held l.ahead.now l.place l.invariant.0 l.invariant.1
          c.one-item.result c.one-item.is _ refl c.ending_of-ending.result c.ending_of-ending.ensures.value c.lay.new.book (c.lay.ensures ∙ c.deref_mut.ensures.value)
          c.in-Ok.taken c.pass.new.kept.book.value c.in-Ok.ensures.on,
      search rules,
      search rules,
      rest-all (λ a. a.foreseen.instance.now ≡ c.args.stretch.now.instance.now) l.ahead.now l.invariant.3,
      search rules,
      search rules,
      search rules,
      search rules,
      search rules,
    )
