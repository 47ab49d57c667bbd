use Rattle.std.proofs.Common.{◌≡◌, get_or, decimal, ap, ◌∙◌, sym, subst, length, ◌<◌}
use Rattle.std.proofs.lemmas.List.{get_or_read}
use Rattle.std.proofs.lemmas.Result.{IfOk-equal}
use Rattle.lock_model.specs.Fleet.{no_chamber, chamber_at}
use Rattle.lock_model.specs.declared.chamber.Chamber.{Chamber}
use Rattle.instance_text.specs.Canonical.{way_word}
use Rattle.plan_text.specs.Printing.{head_words}
use Rattle.plan_text.proofs.PrintLemmas.{head_line}
use Rattle.plan_text.proofs.printing.put_head.Goals as goal

pub returns : goal.returns
unfolding head_words
returns c =
    let l = c.args.lockage.now in
    let chamber : c.index-as_slice-lockage.result ≡ chamber_at c.args.instance.now l.chamber =
    get_or_read c.as_slice.result.now l.chamber c.index-as_slice-lockage.result (subst (λ cs. l.chamber < length cs) (sym c.as_slice.ensures.value) c.requires.chamber) c.index-as_slice-lockage.is no_chamber ∙ ap (λ cs. get_or cs l.chamber no_chamber) c.as_slice.ensures.value in
    let name = c.as_slice-2.ensures.value ∙ ap (λ (x : Chamber). x.name) chamber in
    IfOk-equal c.put-2.result _ _ _ c.put-2.ensures
    (rw (c.in_ok-put_named.ensures, c.from.ensures, c.in_ok-put_word-2.ensures, c.way_word.ensures, c.in_ok-put_word.ensures, name, c.in_ok-put.ensures)
    (head_line c.args.out.now.items (chamber_at c.args.instance.now l.chamber).name (way_word l.way) (decimal l.start)))
