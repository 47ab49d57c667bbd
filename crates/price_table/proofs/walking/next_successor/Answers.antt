use Rattle.std.proofs.Common.{◌≡◌, ◌≤ℤ◌, ◌<ℤ◌, pos, ◌+ℤ◌, IfNone, All, Contains, sym, ◌∙◌, subst, arith}
use Rattle.std.proofs.lemmas.Int.{ints}
use Rattle.price_groups.specs.Asked.{line_asked}
use Rattle.price_successors.specs.Successors.{IsSuccessor}
use Rattle.price_successors.specs.Counted.{IsCounted}
use Rattle.price_table.proofs.FrameLemmas.{value-far}
use Rattle.price_successors.specs.declared.successor.Successor.{Successor}
use Rattle.price_successors.proofs.SuccessorListLemmas.{some-successor_list, successor_list-each, counted-successor_list}
use Rattle.price_table.proofs.WalkLemmas.{value-below, none-more, counted-next}
use Rattle.price_table.proofs.walking.next_successor.Goals as goal

pub returns-then-alone-from-clause-none : goal.returns-then-alone-from-clause-none
returns-then-alone-from-clause-none c =
    let table = c.args.table.now in
    let case = table.case.now in
    let I = case.instance.now in
    let from = c.args.from.now in
    let told = c.alone.ensures in
    let v = from.value in
    let far = value-far v table.horizon from.state.minute table.small c.requires.value.low c.requires.value.high in
    let below = value-below (line_asked case) case.chamber_in table.uncut case.kept table.horizon from.state.place from.state.stand from.state.minute v c.requires.value in
    let here : v ≤ℤ c.alone.result = subst (λ x. v ≤ℤ x) (sym told.value) below in
    let same : c.alone.result ≡ v = omega (arith, ints, here, c.if-alone-from.true, told.low, told.high, far.0, far.1) in
    sym told.value ∙ same

pub next_by-requires-clause-is : goal.next_by-requires-clause-is
next_by-requires-clause-is c =
    let table = c.args.table.now in
    let case = table.case.now in
    let I = case.instance.now in
    let from = c.args.from.now in
    let e = some-successor_list (line_asked case) table.successor_lists.now c.requires.successor_lists in
    let each = successor_list-each (line_asked case) case.chamber_in table.successor_lists.now c.requires.successor_lists from.state.place from.state.minute c.requires.place e in
    let own = subst (All (IsSuccessor (line_asked case))) (sym (c.list-successor-items.ensures e)) each in
    subst (IsSuccessor (line_asked case)) (sym c.successor-item.is) (own c.loop-successor.successor-index c.successor-item.result c.loop-successor-test.true)

pub loop-successor-init : goal.loop-successor-init
loop-successor-init c = record { values = c.requires.values; counted = λ j d none here. absurd (omega (arith, none)) }

pub loop-successor-preserved : goal.loop-successor-preserved
loop-successor-preserved c =
    let table = c.args.table.now in
    let case = table.case.now in
    let I = case.instance.now in
    let from = c.args.from.now in
    let i = c.loop-successor.successor-index in
    let counted = subst (λ o. IfNone o (IsCounted (line_asked case) from.state.stand from.state.minute from.state.place (from.value +ℤ pos 1) c.successor-item.result)) c.in-None.is c.in_ok-next.ensures.none in
    record {
      values = c.in_ok-next.ensures.values;
      counted = counted-next (line_asked case) case.chamber_in from.state.stand from.state.minute from.state.place (from.value +ℤ pos 1) c.list-successor-items.result.now i c.successor-item.result c.loop-successor-test.true c.successor-item.is counted c.loop-successor.invariant.counted;
    }

pub returns-clause-none : goal.returns-clause-none
returns-clause-none c =
    let table = c.args.table.now in
    let case = table.case.now in
    let I = case.instance.now in
    let from = c.args.from.now in
    let told = c.alone.ensures in
    let v = from.value in
    let far = value-far v table.horizon from.state.minute table.small c.requires.value.low c.requires.value.high in
    let over : v <ℤ c.alone.result = omega (arith, ints, c.if-alone-from.false, told.low, told.high, far.0, far.1) in
    let e = some-successor_list (line_asked case) table.successor_lists.now c.requires.successor_lists in
    absurd (none-more (line_asked case) case.chamber_in table.uncut case.kept table.horizon c.requires.successor_lists.listed.successors c.requires.successor_lists.listed.enough from.state.place from.state.stand from.state.minute v c.requires.value
    (subst (λ x. v <ℤ x) told.value over)
    (counted-successor_list (line_asked case) case.chamber_in table.successor_lists.now c.requires.successor_lists from.state.place from.state.minute c.requires.place e from.state.stand (v +ℤ pos 1)
    (subst (λ hs. (h : Successor) → Contains hs h → IsCounted (line_asked case) from.state.stand from.state.minute from.state.place (v +ℤ pos 1) h) (c.list-successor-items.ensures e)
    (λ h held. subst (IsCounted (line_asked case) from.state.stand from.state.minute from.state.place (v +ℤ pos 1)) held.2 (c.loop-successor.invariant.counted held.0 h (omega (arith, held.1, c.loop-successor-test.false, c.loop-successor.auto.successor-index-end)) held.1)))))
