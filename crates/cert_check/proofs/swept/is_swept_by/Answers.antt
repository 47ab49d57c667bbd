use Rattle.std.proofs.Common.{◌≡◌, ◌<◌, length, arith}
use Rattle.std.proofs.lemmas.Result.{IfOk-weaker}
use Rattle.std.proofs.lemmas.Option.{slice_get-get_or}
use Rattle.closing_rules.specs.ListedPrices.{no_prices}
use Rattle.cert_check.proofs.swept.is_swept_by.Goals as goal

pub returns : goal.returns
returns c =
    let claim = c.args.claim.now in
    let root : c.args.node.now.depth ≡ 0 = omega (arith, c.if-depth-gt0.false, c.depth.ensures.value) in
    let within : c.args.number < length claim.prices.now = omega (arith, c.if-number-claim.false) in
    IfOk-weaker c.is_cost_swept.result _ _
    (λ swept told. (λ t. record { root = root; own = _; there = slice_get-get_or claim.prices.now c.args.number no_prices within; swept = told.0 t }, λ h. told.1 h.swept))
    c.is_cost_swept.ensures
