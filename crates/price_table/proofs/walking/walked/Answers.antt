use Rattle.std.proofs.Common.{◌≡◌, ◌-◌, ◌++◌, length, take, drop, ap, ◌∙◌, arith, IfNone, IfSome, to_z, of_z, w64, sym, subst}
use Rattle.std.proofs.lemmas.List.{take_all, length-drop}
use Rattle.price_groups.specs.Asked.{line_asked}
use Rattle.price_groups.specs.Worth.{worth_from}
use Rattle.price_table.specs.Lines.{IsLineWorth, IsBegun, IsNext}
use Rattle.price_table.proofs.FrameLemmas.{value-far, far-rounded}
use Rattle.price_table.proofs.WalkLemmas.{begun-last, begun-next}
use Rattle.price_table.proofs.walking.walked.Goals as goal

pub returns-in-None : goal.returns-in-None
returns-in-None c =
    let table = c.args.table.now in
    let case = table.case.now in
    let I = case.instance.now in
    let at = c.loop.at in
    let before = c.loop.invariant in
    let told = c.in_ok-next.ensures in
    let plain = far-rounded c.args.first.value (value-far c.args.first.value table.horizon c.args.first.state.minute table.small c.requires.value.low c.requires.value.high) in
    let total = to_z w64 (of_z w64 c.args.first.value) in
    let none = subst (λ o. IfNone o (worth_from I case.index case.depth case.prices.now at.state.stand at.state.minute (drop at.state.place case.line.now) ≡ at.value)) c.in-None.is told.none in
    let rest = drop at.state.place case.line.now in
    let own : take (length case.line.now - at.state.place) rest ≡ rest = take_all (length case.line.now - at.state.place) rest (omega (arith, length-drop at.state.place case.line.now)) in
    subst (λ gs. IsLineWorth (line_asked case) gs c.args.first.value) (sym (c.in_ok-append_all-in-None.ensures ∙ ap (λ gs. c.loop.groups.items ++ gs) own)) (subst (IsLineWorth (line_asked case) _) plain (begun-last (line_asked case) case.chamber_in table.uncut case.kept c.loop.groups.items at total none before.begun))

pub loop-preserved : goal.loop-preserved
loop-preserved c =
    let table = c.args.table.now in
    let case = table.case.now in
    let I = case.instance.now in
    let at = c.loop.at in
    let before = c.loop.invariant in
    let told = c.in_ok-next.ensures in
    let total = to_z w64 (of_z w64 c.args.first.value) in
    let next = c.in-Some.next in
    let is = subst (λ o. IfSome o (IsNext (line_asked case) table.horizon at)) c.in-Some.is told.some in
    record {
      values = told.values;
      place = is.place;
      minute = is.minute;
      value = is.value;
      begun = subst (λ gs. IsBegun (line_asked case) gs next.behind total) (sym c.in_ok-append-in-Some.ensures) (begun-next (line_asked case) case.chamber_in table.horizon c.loop.groups.items at next total is before.begun);
    }
