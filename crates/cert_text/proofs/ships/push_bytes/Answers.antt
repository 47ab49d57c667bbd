use Rattle.cert_text.specs.Fields.{number_data}
use Rattle.cert_text.proofs.ValueLemmas.{one_more}
use Rattle.cert_text.proofs.FieldLemmas.{bytes_back}
use Rattle.cert_text.proofs.ships.push_bytes.Goals as goal

pub returns-clause-bytes : goal.returns-clause-bytes
returns-clause-bytes c = bytes_back c.args.numbers.now c.type_inv.numbers

pub loop-number-preserved : goal.loop-number-preserved
loop-number-preserved c =
    one_more number_data c.args.numbers.now c.loop-number.list.items c.push.new.self.items c.from.result _ c.loop-number.number-index 0
    c.loop-number-test.true c.in_ok-push.ensures.items c.from.ensures c.loop-number.invariant
