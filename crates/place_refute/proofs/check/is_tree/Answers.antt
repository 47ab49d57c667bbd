use Rattle.std.proofs.Common.{rules, ◌≡◌, IsTrue, nat_eq, length, ap, []}
use Rattle.place_refute.specs.Drawn.{Drawn}
use Rattle.place_refute.proofs.ReadLemmas.{whole_tree}
use Rattle.place_refute.proofs.check.is_tree.Goals as goal

pub returns-in-Some : goal.returns-in-Some
returns-in-Some c =
    let marks = c.args.reading.now.marks.now in
    let empty : c.of-case.result.choices ≡ [] = ap (λ (u : Drawn). u.choices) c.of-case.ensures in
    let no : IsTrue (nat_eq c.in-Some.end (length marks)) → c.in-Some.end ≡ length marks = search rules in
    let yes : c.in-Some.end ≡ length marks → IsTrue (nat_eq c.in-Some.end (length marks)) = search rules in
    whole_tree c.args.reading.now.deck.now c.args.reading.now.trees c.args.reading.now.decisions.now c.of-case.result.choices marks c.in-Some.end (nat_eq c.in-Some.end (length marks)) empty no yes c.in-Some.ensures.some
