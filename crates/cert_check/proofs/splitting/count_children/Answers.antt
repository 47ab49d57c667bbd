use Rattle.std.proofs.Common.{◌∙◌, ap, length, arith}
use Rattle.master_branch.proofs.ChildSteps.{length-steps}
use Rattle.cert_check.proofs.splitting.count_children.Goals as goal

pub returns : goal.returns
returns c =
    let node = c.args.parent.now.node.now in
    omega (
      arith,
      ap length (c.as_slice.ensures.value ∙ c.requires.listed),
      length-steps c.args.claim.now.instance.now node.depth c.args.parent.now.ship node.lines c.requires.next,
      c.as_slice.ensures.fits,
    )
