use Rattle.std.proofs.Common.{◌≡◌, ◌+◌, ◌≤◌, max, ◌≤ℤ◌, ◌+ℤ◌, pos, ◌∷◌, drop, sym, ◌∙◌, subst, arith}
use Rattle.std.proofs.lemmas.Int.{ints}
use Rattle.lock_rules.specs.Lawful.{stand_after}
use Rattle.price_rules.specs.Prices.{IsLoose}
use Rattle.price_terms.specs.Cuts.{plain_cuts}
use Rattle.price_groups.specs.Asked.{line_asked}
use Rattle.price_groups.specs.Worth.{end_after, worth_of, worth_from}
use Rattle.price_table.specs.Values.{IsValue}
use Rattle.price_table.proofs.FrameLemmas.{counted-idle, counted-more, successor-goes, successor-least, value-far, value-rounded, worth-far, far-rounded}
use Rattle.price_table.proofs.walking.next_to.Goals as goal

pub returns-then-is_idle-clause-none : goal.returns-then-is_idle-clause-none
returns-then-is_idle-clause-none c =
    let table = c.args.table.now in
    let case = table.case.now in
    let I = case.instance.now in
    let from = c.args.from.now in
    let served = c.serve-served.ensures in
    let same = c.new-ready.ensures.same in
    let ends : c.serve-served.result.end ≡ end_after I case.index from.state.stand from.state.minute c.args.successor.now.group = subst (λ state. c.serve-served.result.end ≡ end_after I case.index state.stand state.minute c.args.successor.now.group) same served.end in
    let worth : c.serve-served.result.worth ≡ worth_of I case.index case.depth case.prices.now from.state.stand from.state.minute c.args.successor.now.group = subst (λ state. c.serve-served.result.worth ≡ worth_of I case.index case.depth case.prices.now state.stand state.minute c.args.successor.now.group) same served.worth in
    let idle = c.is_idle.ensures c.if-is_idle.true in
    let plain = far-rounded c.serve-served.result.worth (worth-far c.serve-served.result.worth served.low served.high) in
    counted-idle (line_asked case) case.chamber_in table.horizon case.kept from.state.place from.state.stand from.state.minute c.args.successor.now c.requires.is c.args.place c.requires.leads (from.value +ℤ pos 1) idle.0 (subst (λ w. pos 0 ≤ℤ w) (plain ∙ worth) idle.1)

pub value_of-requires-clause-minute : goal.value_of-requires-clause-minute
value_of-requires-clause-minute c = omega (arith, subst (λ state. c.serve-served.result.end ≤ max state.minute 1000000 + 12000000) c.new-ready.ensures.same c.serve-served.ensures.small, c.requires.early, c.args.table.now.small)

pub returns-then-is_above-clause-none : goal.returns-then-is_above-clause-none
returns-then-is_above-clause-none c =
    let table = c.args.table.now in
    let case = table.case.now in
    let I = case.instance.now in
    let from = c.args.from.now in
    let successor = c.args.successor.now in
    let served = c.serve-served.ensures in
    let same = c.new-ready.ensures.same in
    let ends : c.serve-served.result.end ≡ end_after I case.index from.state.stand from.state.minute c.args.successor.now.group = subst (λ state. c.serve-served.result.end ≡ end_after I case.index state.stand state.minute c.args.successor.now.group) same served.end in
    let worth : c.serve-served.result.worth ≡ worth_of I case.index case.depth case.prices.now from.state.stand from.state.minute c.args.successor.now.group = subst (λ state. c.serve-served.result.worth ≡ worth_of I case.index case.depth case.prices.now state.stand state.minute c.args.successor.now.group) same served.worth in
    let w = c.serve-served.result.worth in
    let told = c.in_ok-value.ensures.value in
    let v = c.in_ok-value.value in
    let far-w = worth-far w served.low served.high in
    let far-v = value-far v table.horizon c.serve-served.result.end table.small told.low told.high in
    let far-u = value-far from.value table.horizon from.state.minute table.small c.requires.value.low c.requires.value.high in
    let value : IsValue (line_asked case) table.horizon c.args.place (stand_after successor.group.way) (end_after I case.index from.state.stand from.state.minute successor.group) v =
    subst (λ stand. IsValue (line_asked case) table.horizon c.args.place stand (end_after I case.index from.state.stand from.state.minute successor.group) v) c.stand_after.ensures
    (subst (λ end. IsValue (line_asked case) table.horizon c.args.place c.stand_after.result end v) ends told) in
    let more : (from.value +ℤ pos 1) ≤ℤ (w +ℤ v) = omega (arith, ints, c.is_above.ensures.above c.if-is_above.true, far-w.0, far-w.1, far-v.0, far-v.1, far-u.0, far-u.1) in
    counted-more (line_asked case) case.chamber_in table.horizon case.kept from.state.place from.state.stand from.state.minute successor c.requires.is c.args.place c.requires.leads (from.value +ℤ pos 1) w v c.requires.early worth served.low value more

pub returns-clause-some : goal.returns-clause-some
returns-clause-some c =
    let table = c.args.table.now in
    let case = table.case.now in
    let I = case.instance.now in
    let from = c.args.from.now in
    let successor = c.args.successor.now in
    let served = c.serve-served.ensures in
    let same = c.new-ready.ensures.same in
    let ends : c.serve-served.result.end ≡ end_after I case.index from.state.stand from.state.minute c.args.successor.now.group = subst (λ state. c.serve-served.result.end ≡ end_after I case.index state.stand state.minute c.args.successor.now.group) same served.end in
    let worth : c.serve-served.result.worth ≡ worth_of I case.index case.depth case.prices.now from.state.stand from.state.minute c.args.successor.now.group = subst (λ state. c.serve-served.result.worth ≡ worth_of I case.index case.depth case.prices.now state.stand state.minute c.args.successor.now.group) same served.worth in
    let w = c.serve-served.result.worth in
    let told = c.in_ok-value.ensures.value in
    let v = c.in_ok-value.value in
    let far-w = worth-far w served.low served.high in
    let far-v = value-far v table.horizon c.serve-served.result.end table.small told.low told.high in
    let far-u = value-far from.value table.horizon from.state.minute table.small c.requires.value.low c.requires.value.high in
    let value : IsValue (line_asked case) table.horizon c.args.place (stand_after successor.group.way) (end_after I case.index from.state.stand from.state.minute successor.group) v =
    subst (λ stand. IsValue (line_asked case) table.horizon c.args.place stand (end_after I case.index from.state.stand from.state.minute successor.group) v) c.stand_after.ensures
    (subst (λ end. IsValue (line_asked case) table.horizon c.args.place c.stand_after.result end v) ends told) in
    let least = successor-least (line_asked case) case.chamber_in table.horizon case.kept from.state.place from.state.stand from.state.minute successor c.requires.is c.args.place c.requires.leads from.value w v c.requires.early worth served.low value from.value c.requires.value in
    let comes : (w +ℤ v) ≡ from.value = omega (arith, ints, least, c.is_above.ensures.least c.if-is_above.false, far-w.0, far-w.1, far-v.0, far-v.1, far-u.0, far-u.1) in
    record {
      place = c.requires.within;
      minute = omega (arith, subst (λ state. c.serve-served.result.end ≤ max state.minute 1000000 + 12000000) same served.small, c.requires.early, table.small);
      value = value-rounded (line_asked case) case.chamber_in table.horizon c.args.place c.stand_after.result c.serve-served.result.end v table.small told;
      goes_on = λ gs loose behind.
          let here = (λ i. worth_from I case.index case.depth case.prices.now (sym c.stand_after.ensures i) (sym ends i) gs) ∙ behind ∙ far-rounded v far-v in
          let goes = successor-goes (line_asked case) case.chamber_in table.horizon case.kept from.state.place from.state.stand from.state.minute successor c.requires.is c.args.place c.requires.leads from.value w v c.requires.early worth served.low value gs loose here in
          subst (λ g. IsLoose I case.index (plain_cuts I case.cuts.now) case.depth (drop from.state.place case.line.now) (g ∷ gs) × (worth_from I case.index case.depth case.prices.now from.state.stand from.state.minute (g ∷ gs) ≡ from.value)) (sym c.copy.ensures) (goes.0, goes.1 ∙ comes);
    }
