use Rattle.std.proofs.Common.{◌≡◌, ◌∙◌, ap, get_or, append_assoc}
use Rattle.std.proofs.lemmas.List.{get_or_default}
use Rattle.std.proofs.lemmas.Result.{IfOk-equal}
use Rattle.lock_model.specs.Fleet.{chamber_at}
use Rattle.lock_model.specs.declared.chamber.Chamber.{Chamber}
use Rattle.picture_page.specs.ShipRows.{row}
use Rattle.picture_page.proofs.ship_rows.put_row.Goals as goal

pub returns : goal.returns
unfolding row
returns c =
    let I = c.args.instance.now in
    let number = c.args.passage.now.chamber in
    let own = c.index-as_slice-passage.result in
    let same : own ≡ chamber_at I number =
    c.index-as_slice-passage.is ∙ ap (λ cs. get_or cs number own) c.as_slice.ensures.value ∙ get_or_default I.chambers number own _ c.requires in
    IfOk-equal c.put_number_between.result _ _ _ c.put_number_between.ensures
    (rw (
      c.in_ok-put_row_picture.ensures,
      c.in_ok-put_row_passage.ensures,
      c.in_ok-put_row_wait.ensures,
      c.in_ok-put_row_name.ensures,
      c.saturating_sub-flow.ensures,
      c.end.ensures.value,
      c.clock-2.ensures,
      c.clock.ensures,
      c.as_slice-2.ensures.value ∙ ap (λ (k : Chamber). k.name) same,
    ) (simp append_assoc))
