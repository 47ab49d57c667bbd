use Rattle.std.proofs.Common.{◌≡◌, get_or, decimal, ap, ◌∙◌, sym, subst, length, ◌<◌}
use Rattle.std.proofs.lemmas.List.{get_or_default}
use Rattle.std.proofs.lemmas.Result.{IfOk-equal}
use Rattle.lock_model.specs.Fleet.{no_ship, ship_at}
use Rattle.lock_model.specs.declared.ship.Ship.{Ship}
use Rattle.plan_text.specs.Printing.{berth_words, host_word}
use Rattle.plan_print.specs.Words.{rank_word}
use Rattle.plan_text.proofs.PrintLemmas.{berth_line}
use Rattle.plan_text.proofs.printing.put_berth.Goals as goal

pub returns : goal.returns
unfolding berth_words
returns c =
    let p = c.args.spot.now in
    let s = c.args.ship in
    let ship : get_or c.as_slice.result.now s c.index-as_slice-ship.result ≡ ship_at c.args.instance.now s =
    get_or_default c.as_slice.result.now s c.index-as_slice-ship.result no_ship (subst (λ ss. s < length ss) (sym c.as_slice.ensures.value) c.requires.ship) ∙ ap (λ ss. get_or ss s no_ship) c.as_slice.ensures.value in
    let name = c.as_slice-2.ensures.value ∙ ap (λ (x : Ship). x.name) ship in
    IfOk-equal c.put-2.result _ _ _ c.put-2.ensures
    (rw (c.in_ok-put_word-2.ensures, c.host_word.ensures, c.in_ok-put_place.ensures, c.in_ok-put_word.ensures, name, c.in_ok-put.ensures)
    (berth_line c.args.out.now.items (ship_at c.args.instance.now s).name (decimal p.x) (decimal p.y) (rank_word p.rank) (host_word c.args.instance.now c.args.ships.now p.moor)))
