use Rattle.std.proofs.Common.{◌≤ℤ◌, pos, neg_ℤ, sym, subst}
use Rattle.lock_rules.specs.Lawful.{stand_after}
use Rattle.price_groups.specs.Asked.{line_asked}
use Rattle.price_groups.specs.Worth.{end_after}
use Rattle.price_successors.specs.Counted.{IsCounted}
use Rattle.price_table.specs.Values.{IsValue, IsBest}
use Rattle.price_table.proofs.FrameLemmas.{best-counted, counted-value, value-far, worth-far, far-rounded, lesser-rounded, lesser-less}
use Rattle.price_table.proofs.counting.count_to.Goals as goal

pub lesser-requires-clause-behind_low : goal.lesser-requires-clause-behind_low
lesser-requires-clause-behind_low c =
    let told = c.in-Some.ensures.some in
    let far = value-far c.in-Some.value c.args.table.now.horizon c.serve-served.result.end c.args.table.now.small told.low told.high in
    subst (λ v. neg_ℤ (pos 1000000000000000) ≤ℤ v) (sym (far-rounded c.in-Some.value far)) far.0

pub lesser-requires-clause-behind_high : goal.lesser-requires-clause-behind_high
lesser-requires-clause-behind_high c =
    let told = c.in-Some.ensures.some in
    let far = value-far c.in-Some.value c.args.table.now.horizon c.serve-served.result.end c.args.table.now.small told.low told.high in
    subst (λ v. v ≤ℤ pos 1000000000000000) (sym (far-rounded c.in-Some.value far)) far.1

pub returns-in-Some-clause-less : goal.returns-in-Some-clause-less
returns-in-Some-clause-less c =
    let table = c.args.table.now in
    let told = c.in-Some.ensures.some in
    let served = c.serve-served.ensures in
    let best = c.requires.best in
    let same = lesser-rounded c.lesser.result c.args.best.now c.serve-served.result.worth c.in-Some.value (value-far c.args.best.now table.horizon c.args.ready.now.state.minute table.small best.low best.high) (worth-far c.serve-served.result.worth served.low served.high)
    (value-far c.in-Some.value table.horizon c.serve-served.result.end table.small told.low told.high) c.lesser.ensures in
    subst (λ v. v ≤ℤ c.args.best.now) same (lesser-less c.args.best.now c.serve-served.result.worth c.in-Some.value)

pub returns-in-Some-clause-best : goal.returns-in-Some-clause-best
returns-in-Some-clause-best c =
    let table = c.args.table.now in
    let case = table.case.now in
    let I = case.instance.now in
    let state = c.args.ready.now.state in
    let successor = c.args.successor.now in
    let told = c.in-Some.ensures.some in
    let served = c.serve-served.ensures in
    let value : IsValue (line_asked case) table.horizon c.args.place (stand_after successor.group.way) (end_after I case.index state.stand state.minute successor.group) c.in-Some.value =
    subst (λ stand. IsValue (line_asked case) table.horizon c.args.place stand (end_after I case.index state.stand state.minute successor.group) c.in-Some.value) c.stand_after.ensures
    (subst (λ end. IsValue (line_asked case) table.horizon c.args.place c.stand_after.result end c.in-Some.value) served.end told) in
    let best = c.requires.best in
    let same = lesser-rounded c.lesser.result c.args.best.now c.serve-served.result.worth c.in-Some.value (value-far c.args.best.now table.horizon state.minute table.small best.low best.high) (worth-far c.serve-served.result.worth served.low served.high)
    (value-far c.in-Some.value table.horizon c.serve-served.result.end table.small told.low told.high) c.lesser.ensures in
    subst (IsBest (line_asked case) table.horizon state.place state.stand state.minute) same
    (best-counted (line_asked case) case.chamber_in table.horizon case.kept state.place state.stand state.minute successor c.requires.is c.args.place c.requires.leads c.args.best.now c.serve-served.result.worth c.in-Some.value c.requires.early served.worth served.low value best)

pub returns-in-Some-clause-none : goal.returns-in-Some-clause-none
returns-in-Some-clause-none c =
    let table = c.args.table.now in
    let case = table.case.now in
    let I = case.instance.now in
    let state = c.args.ready.now.state in
    let successor = c.args.successor.now in
    let told = c.in-Some.ensures.some in
    let served = c.serve-served.ensures in
    let value : IsValue (line_asked case) table.horizon c.args.place (stand_after successor.group.way) (end_after I case.index state.stand state.minute successor.group) c.in-Some.value =
    subst (λ stand. IsValue (line_asked case) table.horizon c.args.place stand (end_after I case.index state.stand state.minute successor.group) c.in-Some.value) c.stand_after.ensures
    (subst (λ end. IsValue (line_asked case) table.horizon c.args.place c.stand_after.result end c.in-Some.value) served.end told) in
    let best = c.requires.best in
    let same = lesser-rounded c.lesser.result c.args.best.now c.serve-served.result.worth c.in-Some.value (value-far c.args.best.now table.horizon state.minute table.small best.low best.high) (worth-far c.serve-served.result.worth served.low served.high)
    (value-far c.in-Some.value table.horizon c.serve-served.result.end table.small told.low told.high) c.lesser.ensures in
    subst (λ best. IsCounted (line_asked case) state.stand state.minute state.place best successor) same
    (counted-value (line_asked case) case.chamber_in table.horizon case.kept state.place state.stand state.minute successor c.requires.is c.args.place c.requires.leads c.args.best.now c.serve-served.result.worth c.in-Some.value c.requires.early served.worth served.low value)
