use Rattle.std.proofs.Common.{◌≡◌, ◌+◌, ◌∙◌, ap, nat_le, false, length, arith, slice_index_or}
use Rattle.std.proofs.lemmas.List.{get_or-map, length-map}
use Rattle.lock_rules.specs.Bound.{bound_of}
use Rattle.lock_rules.specs.Node.{root_lines}
use Rattle.master_branch.specs.Node.{children, child_lines}
use Rattle.cert_check.specs.Splitting.{reached_below}
use Rattle.cert_check.proofs.ReadLemmas.{told-reached}
use Rattle.cert_check.proofs.splitting.child_reaches.Goals as goal

pub bounds-as_slice-i : goal.bounds-as_slice-i
bounds-as_slice-i c =
    let claim = c.args.claim.now in
    let node = c.args.parent.now.node.now in
    omega (
      arith,
      c.requires.within,
      ap length (c.as_slice.ensures.value ∙ c.requires.split.told),
      length-map (children claim.instance.now node) (λ lines. nat_le claim.cost (bound_of claim.instance.now (node.depth + 1) lines)),
    )

pub returns : goal.returns
returns c =
    let claim = c.args.claim.now in
    let I = claim.instance.now in
    let node = c.args.parent.now.node.now in
    let told : c.as_slice.result.now ≡ reached_below claim node = c.as_slice.ensures.value ∙ c.requires.split.told in
    told-reached claim.cost (bound_of I (node.depth + 1) (child_lines I node c.args.i)) _
    (ap (λ xs. slice_index_or xs c.args.i false) told ∙ get_or-map (λ lines. nat_le claim.cost (bound_of I (node.depth + 1) lines)) (children I node) c.args.i root_lines false c.requires.within)
