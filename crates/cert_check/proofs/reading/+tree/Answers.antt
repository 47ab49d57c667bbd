use Rattle.std.proofs.Common.{◌≡◌, ◌∙◌, ◌<◌, ◌≤◌, ◌∷◌, length, sym, ap, subst, arith, rules, suc, inl, inr}
use Rattle.std.proofs.lemmas.Bool.Decides.{leb_tells}
use Rattle.std.proofs.lemmas.Result.{IfOk-weaker, IfErr-weaker}
use Rattle.certificate_rules.specs.declared.certificate.Mark.TheVariants as mark
use Rattle.certificate_rules.specs.Certificates.{EndsNode}
use Rattle.master_branch.specs.Node.{children}
use Rattle.certificate_rules.proofs.TreeLemmas.{not-true}
use Rattle.cert_check.specs.Reading.{IsStuck, IsChildStuck}
use Rattle.cert_check.proofs.ReadLemmas.{child-stuck, more-stuck, split-stuck, leaf-stuck}
use Rattle.cert_check.specs.Reading.{IsChildReadLow}
use Rattle.cert_check.proofs.LowLemmas.{bound-low, bound-stuck, child-low, more-low, split-low, leaf-low}
use Rattle.cert_check.proofs.reading.+tree.Goals as goal

pub read_child-returns-then-child_reaches-clause-read : goal.read_child-returns-then-child_reaches-clause-read
read_child-returns-then-child_reaches-clause-read n c =
    bound-low c.args.claim.now c.args.parent.now.node.now c.args.i c.args.low c.args.marks.now c.in-Some.rest.now c.in-Some.ensures (c.child_reaches.ensures.0 c.if-child_reaches.true)

pub read_child-returns-in-Some-clause-stuck : goal.read_child-returns-in-Some-clause-stuck
read_child-returns-in-Some-clause-stuck n c =
    bound-stuck c.args.claim.now c.args.parent.now.node.now c.args.i c.args.marks.now c.in-Some.rest.now c.in-Some.ensures
    (λ high. absurd (not-true c.child_reaches.result c.if-child_reaches.false (c.child_reaches.ensures.1 high)))

pub read_made_child-returns-clause-read : goal.read_made_child-returns-clause-read
read_made_child-returns-clause-read n c =
    IfOk-weaker c.read_tree.result _ _
    (λ reading. IfOk-weaker reading _ _
    (λ read h. child-low c.args.claim.now c.args.parent.now.node.now c.child_of.result c.args.i c.args.low c.args.marks.now read.marks.now read.low c.requires.within c.child_of.ensures.depth c.child_of.ensures.lines h))
    c.read_tree.ensures.read

pub read_made_child-returns-clause-stuck : goal.read_made_child-returns-clause-stuck
read_made_child-returns-clause-stuck n c =
    IfOk-weaker c.read_tree.result _ _
    (λ reading. IfErr-weaker reading _ _
    (λ stuck h. child-stuck c.args.claim.now c.args.parent.now.node.now c.child_of.result c.args.i c.args.marks.now stuck.marks.now stuck.reason c.requires.within c.child_of.ensures.depth c.child_of.ensures.lines h))
    c.read_tree.ensures.stuck

pub read_children-returns-in-Err-clause-stuck : goal.read_children-returns-in-Err-clause-stuck
read_children-returns-in-Err-clause-stuck n c =
    let claim = c.args.claim.now in
    let node : c.split-parent.result.node.now ≡ c.args.node.now = c.split-parent.ensures.node in
    let within : c.loop-i.i < length (children claim.instance.now c.args.node.now) = omega (arith, c.loop-i-test.true, c.count_children-i-end.ensures, ap (λ n. length (children claim.instance.now n)) node) in
    let own : IsChildStuck claim c.split-parent.result.node.now c.loop-i.i c.loop-i.rest.now c.in-Err.stuck.marks.now c.in-Err.stuck.reason = search rules in
    more-stuck claim c.args.node.now c.loop-i.i c.args.marks.now c.loop-i.rest.now _ _ within c.loop-i.invariant.read
    (subst (λ n. IsChildStuck claim n c.loop-i.i c.loop-i.rest.now c.in-Err.stuck.marks.now c.in-Err.stuck.reason) node own)

pub read_children-loop-i-preserved : goal.read_children-loop-i-preserved
read_children-loop-i-preserved n c =
    let claim = c.args.claim.now in
    let node : c.split-parent.result.node.now ≡ c.args.node.now = c.split-parent.ensures.node in
    let within : c.loop-i.i < length (children claim.instance.now c.args.node.now) = omega (arith, c.loop-i-test.true, c.count_children-i-end.ensures, ap (λ n. length (children claim.instance.now n)) node) in
    let own : IsChildReadLow claim c.split-parent.result.node.now c.loop-i.i c.loop-i.least c.loop-i.rest.now c.in-Ok.read.marks.now c.in-Ok.read.low = search rules in
    more-low claim c.args.node.now c.loop-i.i c.args.low c.args.marks.now c.loop-i.rest.now c.in-Ok.read.marks.now c.loop-i.least c.in-Ok.read.low within c.loop-i.invariant
    (subst (λ n. IsChildReadLow claim n c.loop-i.i c.loop-i.least c.loop-i.rest.now c.in-Ok.read.marks.now c.in-Ok.read.low) node own)

pub read_tree-returns-then-splits-clause-read : goal.read_tree-returns-then-splits-clause-read
read_tree-returns-then-splits-clause-read n c =
    let split : (c.in-Some.mark ≡ mark.Split) × (c.args.node.now.depth < length c.args.claim.now.instance.now.ships) = search rules in
    let front : c.args.marks.now ≡ mark.Split ∷ c.in-Some.rest.now = c.in-Some.ensures.some ∙ ap (λ m. m ∷ c.in-Some.rest.now) split.0 in
    IfOk-weaker c.read_children.result _ _
    (λ reading. IfOk-weaker reading _ _
    (λ read h. split-low c.args.claim.now c.args.node.now c.args.low c.args.marks.now c.in-Some.rest.now read.marks.now read.low split.1 front h))
    c.read_children.ensures.read

pub read_tree-returns-then-splits-clause-stuck : goal.read_tree-returns-then-splits-clause-stuck
read_tree-returns-then-splits-clause-stuck n c =
    let split : (c.in-Some.mark ≡ mark.Split) × (c.args.node.now.depth < length c.args.claim.now.instance.now.ships) = search rules in
    let front : c.args.marks.now ≡ mark.Split ∷ c.in-Some.rest.now = c.in-Some.ensures.some ∙ ap (λ m. m ∷ c.in-Some.rest.now) split.0 in
    IfOk-weaker c.read_children.result _ _
    (λ reading. IfErr-weaker reading _ _
    (λ stuck h. split-stuck c.args.claim.now c.args.node.now c.args.marks.now c.in-Some.rest.now stuck.marks.now stuck.reason split.1 front h))
    c.read_children.ensures.stuck

pub read_tree-returns-then-branch-clause-read : goal.read_tree-returns-then-branch-clause-read
read_tree-returns-then-branch-clause-read n c =
    let claim = c.args.claim.now in
    let node = c.args.node.now in
    let ended : EndsNode claim.instance.now claim.cost claim.cuts.now claim.prices.now node.depth node.lines c.in-Some.mark = search rules in
    leaf-low claim node c.args.low c.in-Some.mark c.args.marks.now c.in-Some.rest.now c.in_ok-least.least c.in-Some.ensures.some ended c.in_ok-least.ensures

pub read_tree-returns-clause-stuck : goal.read_tree-returns-clause-stuck
read_tree-returns-clause-stuck n c =
    let I = c.args.claim.now.instance.now in
    let node = c.args.node.now in
    let open' : EndsNode I c.args.claim.now.cost c.args.claim.now.cuts.now c.args.claim.now.prices.now node.depth node.lines c.in-Some.mark → ⊥ = search rules in
    let whole : c.in-Some.mark ≡ mark.Split → length I.ships ≤ node.depth =
    λ e. elim (leb_tells (suc node.depth) (length I.ships)) [
      | inl less ↦ absurd (not-true c.splits.result c.if-splits.false (c.splits.ensures.1 (e, less.1)))
      | inr held ↦ omega (arith, held.1)
    ] in
    subst (λ r. IsStuck c.args.claim.now node c.args.marks.now c.args.marks.now r) (sym c.reason_against.ensures)
    (leaf-stuck c.args.claim.now node c.in-Some.mark c.args.marks.now c.in-Some.rest.now c.in-Some.ensures.some open' whole)
