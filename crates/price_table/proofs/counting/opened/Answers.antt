use Rattle.std.proofs.Common.{◌<◌, ◌≤◌, length, to_z, of_z, w64, sym, subst, arith}
use Rattle.price_groups.specs.Asked.{line_asked}
use Rattle.price_table.specs.Values.{IsBest}
use Rattle.price_table.proofs.FrameLemmas.{best-alone, rounded}
use Rattle.price_table.proofs.counting.opened.Goals as goal

pub returns : goal.returns
returns c =
    let table = c.args.table.now in
    let case = table.case.now in
    let I = case.instance.now in
    let state = c.args.state in
    let told = c.alone.ensures in
    let same = sym c.new.ensures.same in
    let best = subst (IsBest (line_asked case) table.horizon state.place state.stand state.minute) (sym (rounded c.alone.result told.low told.high))
    (best-alone (line_asked case) case.chamber_in table.horizon table.uncut case.kept state.place state.stand state.minute c.alone.result told.value told.low told.high) in
    record {
      ready = c.new.ensures.is;
      place = subst (λ state. state.place ≤ length case.line.now) same c.requires.place;
      early = subst (λ state. state.minute < table.horizon) same c.requires.early;
      best = subst (λ state. IsBest (line_asked case) table.horizon state.place state.stand state.minute (to_z w64 (of_z w64 c.alone.result))) same best;
      counted = λ j d e none here. absurd (omega (arith, none));
    }
