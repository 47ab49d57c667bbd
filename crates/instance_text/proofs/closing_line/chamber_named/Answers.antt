use Rattle.std.proofs.Common.{◌≡◌, get_or, sym, ap, ◌∙◌}
use Rattle.std.proofs.lemmas.List.{get_or_read}
use Rattle.std.specs.Str.{bytes_eq}
use Rattle.lock_model.specs.Fleet.{no_chamber}
use Rattle.lock_model.specs.declared.chamber.Chamber.{Chamber}
use Rattle.instance_text.proofs.ClosingLemmas.{named_at, named_nowhere}
use Rattle.instance_text.proofs.closing_line.chamber_named.Goals as goal

pub returns-then-eq-clause-value : goal.returns-then-eq-clause-value
returns-then-eq-clause-value c =
    let chamber : c.index-chambers-place.result ≡ get_or c.args.chambers.now c.loop-place.place no_chamber = get_or_read c.args.chambers.now c.loop-place.place c.index-chambers-place.result c.loop-place-test.true c.index-chambers-place.is no_chamber in
    let name = c.as_slice.ensures.value ∙ ap (λ (x : Chamber). x.name) chamber in
    named_at c.args.chambers.now c.args.word.now c.loop-place.place c.loop-place-test.true c.loop-place.invariant (ap (bytes_eq c.args.word.now) (sym name) ∙ sym c.eq.ensures ∙ c.if-eq.true)

pub returns-clause-value : goal.returns-clause-value
returns-clause-value c = named_nowhere c.args.chambers.now c.args.word.now c.loop-place.place c.loop-place-test.false c.loop-place.auto.place-end c.loop-place.invariant
