use Rattle.std.proofs.Common.{◌<◌, length, sym, ap, ◌∙◌, arith}
use Rattle.std.proofs.lemmas.List.{get_or_default}
use Rattle.std.specs.Str.{bytes_eq}
use Rattle.lock_model.specs.Fleet.{no_chamber}
use Rattle.lock_model.specs.declared.chamber.Chamber.{Chamber}
use Rattle.plan_text.specs.Words.{chamber_named}
use Rattle.plan_text.proofs.NamedLemmas.{chamber_at_name, no_chamber_named}
use Rattle.plan_text.proofs.named.chamber_named.Goals as goal

pub returns-then-eq : goal.returns-then-eq
returns-then-eq c =
    let chambers = c.as_slice-chambers.result.now in
    let within : c.loop-place.place < length chambers = omega arith in
    let chamber = get_or_default chambers c.loop-place.place c.index-chambers-place.result no_chamber within in
    let name = c.as_slice.ensures.value ∙ ap (λ (x : Chamber). x.name) chamber in
    sym (ap (λ cs. chamber_named cs c.args.word.now) (sym c.as_slice-chambers.ensures.value)
    ∙ chamber_at_name chambers c.args.word.now c.loop-place.place within c.loop-place.invariant (ap (bytes_eq c.args.word.now) (sym name) ∙ sym c.eq.ensures ∙ c.if-eq.true))

pub returns : goal.returns
returns c =
    let chambers = c.as_slice-chambers.result.now in
    sym (ap (λ cs. chamber_named cs c.args.word.now) (sym c.as_slice-chambers.ensures.value)
    ∙ no_chamber_named chambers c.args.word.now c.loop-place.place (omega arith) (omega arith) c.loop-place.invariant)
