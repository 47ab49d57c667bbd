use Rattle.std.proofs.Common.{◌≡◌, ◌+◌, ◌*◌, ◌<◌, length, arith, ap, ◌∙◌}
use Rattle.lock_rules.specs.Size.{tree_width, node_limit}
use Rattle.lock_rules.proofs.SizeLemmas.{nodes-law}
use Rattle.master_branch.proofs.LawLemmas.{limit-step}
use Rattle.master_branch.proofs.laws.node_limit.Goals as goal

pub returns-in_default-clause-value : goal.returns-in_default-clause-value
returns-in_default-clause-value c = λ fits.
    let m = length c.as_slice.result.now in
    let k = c.loop-depth.depth in
    let n = length c.args.instance.now.ships in
    let less : k < n = omega (arith, c.loop-depth-test.true, ap length c.as_slice-depth-end.ensures.value) in
    let same : c.loop-depth.width * (2 * k + m) ≡ tree_width m k * (2 * k + m) = ap (λ w. w * (2 * k + m)) c.loop-depth.invariant.width in
    let chambers : node_limit n m ≡ node_limit n (length c.args.instance.now.chambers) = ap (λ xs. node_limit n (length xs)) c.as_slice.ensures.value in
    c.in_default.ensures (omega (arith, fits, same, limit-step m k n less, chambers))

pub returns-in_default-checked_add-clause-value : goal.returns-in_default-checked_add-clause-value
returns-in_default-checked_add-clause-value c = λ fits.
    let m = length c.as_slice.result.now in
    let k = c.loop-depth.depth in
    let n = length c.args.instance.now.ships in
    let less : k < n = omega (arith, c.loop-depth-test.true, ap length c.as_slice-depth-end.ensures.value) in
    let same : c.loop-depth.width * (2 * k + m) ≡ tree_width m k * (2 * k + m) = ap (λ w. w * (2 * k + m)) c.loop-depth.invariant.width in
    let chambers : node_limit n m ≡ node_limit n (length c.args.instance.now.chambers) = ap (λ xs. node_limit n (length xs)) c.as_slice.ensures.value in
    c.in_default-checked_add.ensures (omega (arith, fits, same, c.in-Some.ensures.1, c.loop-depth.invariant.limit, limit-step m k n less, chambers))

pub returns-clause-value : goal.returns-clause-value
returns-clause-value c =
    let m : length c.as_slice.result.now ≡ length c.args.instance.now.chambers = ap length c.as_slice.ensures.value in
    let n : c.loop-depth.depth ≡ length c.args.instance.now.ships = omega (arith, ap length c.as_slice-depth-end.ensures.value) in
    let limit : c.loop-depth.limit ≡ node_limit (length c.args.instance.now.ships) (length c.args.instance.now.chambers) = c.loop-depth.invariant.limit ∙ (λ i. node_limit (n i) (m i)) in
    (omega (arith, limit, c.loop-depth.invariant.fits), limit)

pub returns-clause-law : goal.returns-clause-law
returns-clause-law c =
    let m : length c.as_slice.result.now ≡ length c.args.instance.now.chambers = ap length c.as_slice.ensures.value in
    let n : c.loop-depth.depth ≡ length c.args.instance.now.ships = omega (arith, ap length c.as_slice-depth-end.ensures.value) in
    let limit : c.loop-depth.limit ≡ node_limit (length c.args.instance.now.ships) (length c.args.instance.now.chambers) = c.loop-depth.invariant.limit ∙ (λ i. node_limit (n i) (m i)) in
    omega (arith, limit, nodes-law c.args.instance.now)
