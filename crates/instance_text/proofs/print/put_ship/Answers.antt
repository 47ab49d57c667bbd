use Rattle.std.proofs.Common.{◌==◌}
use Rattle.std.proofs.lemmas.Result.{IfOk-equal}
use Rattle.instance_text.specs.Canonical.{ship_words, way_word}
use Rattle.instance_text.proofs.PrintLemmas.{ship_line}
use Rattle.instance_text.proofs.print.put_ship.Goals as goal

pub returns : goal.returns
unfolding ship_words
returns c =
    let s = c.args.ship.now in
    IfOk-equal c.put-5.result _ _ _ c.put-5.ensures
    (rw (c.in_ok-put_cargo.ensures, c.in_ok-put_fields.ensures, c.in_ok-put-4.ensures, c.way_word.ensures, c.in_ok-put-3.ensures, c.in_ok-put-2.ensures, c.as_slice.ensures.value, c.in_ok-put.ensures)
    (ship_line c.args.out.now.items s.name (way_word s.way) s.length s.width s.arrival s.handling s.cargo (s.cargo == 0)))
