use Rattle.std.proofs.Common.{◌∙◌, sym}
use Rattle.cert_text.specs.Prices.{prices_in}
use Rattle.cert_text.proofs.ListLemmas.{read_more, read_none, read_all}
use Rattle.cert_text.proofs.prices.all_in.Goals as goal

pub loop-value-preserved : goal.loop-value-preserved
loop-value-preserved c =
    read_more (prices_in c.args.most c.args.version) c.args.list.now c.loop-value.found c.loop-value.value-index c.loop-value.invariant
    c.value-item.result c.in-Some.prices c.push.new.self c.loop-value-test.true c.value-item.is (sym c.in-Some.is ∙ c.in_ok-prices.ensures) c.in_ok-push-in-Some.ensures.ok

pub returns-in-None : goal.returns-in-None
returns-in-None c =
    read_none (prices_in c.args.most c.args.version) c.args.list.now c.loop-value.found c.loop-value.value-index c.loop-value.invariant
    c.value-item.result c.loop-value-test.true c.value-item.is (sym c.in-None.is ∙ c.in_ok-prices.ensures)

pub returns : goal.returns
returns c = read_all (prices_in c.args.most c.args.version) c.args.list.now c.loop-value.found c.loop-value.value-index c.loop-value.invariant c.loop-value-test.false
