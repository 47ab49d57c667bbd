use Rattle.std.proofs.Common.{◌≡◌, ◌+◌, ◌++◌, ◌∷◌, [], length, take, sym, ap, ◌∙◌, arith, slice_index_or, append_assoc}
use Rattle.std.proofs.lemmas.List.{take_more, length-take-le}
use Rattle.book_core.specs.Growing.{stored_child, stored_children}
use Rattle.book_core.proofs.GrowLemmas.{children-more}
use Rattle.book_core.proofs.splitting.push_children.Goals as goal

pub loop-number-preserved : goal.loop-number-preserved
loop-number-preserved c =
    let i = c.loop-number.number in
    let xs = c.args.bounds.now in
    let x = slice_index_or xs i 0 in
    let more = take_more xs i 0 c.loop-number-test.true in
    let long = length-take-le i xs (omega arith) in
    let child : c.stored_child.result ≡ stored_child c.args.cost c.args.parent (0 + length (take i xs)) x =
    c.stored_child.ensures ∙ ap (λ n. stored_child c.args.cost c.args.parent n x) (omega (arith, long)) in
    let old = c.args.slots.now.items in
    record {
      items =
          c.push_reserved.ensures.items ∙ (λ j. c.loop-number.invariant.items j ++ child j ∷ [])
          ∙ append_assoc old (stored_children c.args.cost c.args.parent 0 (take i xs)) (stored_child c.args.cost c.args.parent (0 + length (take i xs)) x ∷ [])
          ∙ ap (λ l. old ++ l) (sym (children-more c.args.cost c.args.parent 0 (take i xs) x) ∙ ap (stored_children c.args.cost c.args.parent 0) (sym more));
      len = omega (arith, c.push_reserved.ensures.len, c.loop-number.invariant.len);
      capacity = c.push_reserved.ensures.capacity ∙ c.loop-number.invariant.capacity;
    }
