use Rattle.cert_text.proofs.TripleLemmas.{read_to_end}
use Rattle.cert_text.proofs.triples.read_triples.Goals as goal

pub returns : goal.returns
returns c =
    read_to_end c.args.prices.now c.args.list.now c.loop-value.triples.items c.as_slice.result.now c.loop-value.value-index c.with_triples.result
    c.requires.some c.loop-value-test.false c.loop-value.invariant.whole c.as_slice.ensures.value c.with_triples.ensures.valid c.with_triples.ensures.value
