use Rattle.std.proofs.Common.{rules, arith, lit<, ◌≡◌, ◌<◌, List, length, take, subst, sym, ap, ◌∙◌, slice_index_or}
use Rattle.diff_system.specs.PathTree.{PathTree, AreLongest}
use Rattle.refute_rules.specs.Cases.{IsCaseFault, vars_of}
use Rattle.chamber_place.specs.Faults.{fault_of}
use Rattle.chamber_place.specs.OnItsWay.{IsSettled}
use Rattle.chamber_place.proofs.EnterLemmas.{enter-less, enter-fits, enter-bounds, enter-room, enter-known, enter-option, enter-chosen, enter-last, enter-case, enter-edges, enter-longest, enter-faulty, enter-good}
use Rattle.chamber_place.proofs.deck_case.DeckCaseTrack.enter.Goals as goal

pub at-decision-requires : goal.at-decision-requires
at-decision-requires c =
    let i = c.self.inside in
    let taken : c.len-taken.result ≡ length i.choices.items = search rules in
    enter-less i.deck i.decisions i.choices.items i.edges i.paths.items i.fault c.self.invariant c.args.self.now c.self.view_is c.args.option c.requires.good c.requires.option c.len-taken.result taken

pub push-requires : goal.push-requires
push-requires c =
    let i = c.self.inside in
    let taken : c.len-taken.result ≡ length i.choices.items = search rules in
    (lit< tt, enter-fits i.deck i.decisions i.choices.items i.edges i.paths.items i.fault c.self.invariant c.args.self.now c.self.view_is c.args.option c.requires.good c.requires.option c.len-taken.result taken)

pub option_at-last-requires-clause-asked : goal.option_at-last-requires-clause-asked
option_at-last-requires-clause-asked c =
    let i = c.self.inside in
    let taken : c.len-taken.result ≡ length i.choices.items = search rules in
    enter-known i.deck i.decisions i.choices.items i.edges i.paths.items i.fault c.self.invariant c.args.self.now c.self.view_is c.args.option c.requires.good c.requires.option c.len-taken.result taken c.at-decision.result c.at-decision.ensures

pub option_at-last-requires-clause-number : goal.option_at-last-requires-clause-number
option_at-last-requires-clause-number c =
    let i = c.self.inside in
    let taken : c.len-taken.result ≡ length i.choices.items = search rules in
    enter-option i.deck i.decisions i.choices.items i.edges i.paths.items i.fault c.self.invariant c.args.self.now c.self.view_is c.args.option c.requires.good c.requires.option c.len-taken.result taken c.at-decision.result c.at-decision.ensures

pub push_choice-requires-clause-room : goal.push_choice-requires-clause-room
push_choice-requires-clause-room c =
    let i = c.self.inside in
    let taken : c.len-taken.result ≡ length i.choices.items = search rules in
    let room = enter-room i.deck i.decisions i.choices.items i.edges i.paths.items i.fault c.self.invariant c.args.self.now c.self.view_is c.args.option c.requires.good c.requires.option c.len-taken.result taken in
    omega (arith, room)

pub bounds-as_slice-taken : goal.bounds-as_slice-taken
bounds-as_slice-taken c =
    let i = c.self.inside in
    let taken : c.len-taken.result ≡ length i.choices.items = search rules in
    subst (λ (ts : List PathTree). c.len-taken.result < length ts) (sym c.as_slice-2.ensures.value) (enter-bounds i.deck i.decisions i.choices.items i.edges i.paths.items i.fault c.self.invariant c.args.self.now c.self.view_is c.args.option c.requires.good c.requires.option c.len-taken.result taken)

pub solve-solved-requires-clause-chosen : goal.solve-solved-requires-clause-chosen
solve-solved-requires-clause-chosen c =
    let i = c.self.inside in
    let taken : c.len-taken.result ≡ length i.choices.items = search rules in
    enter-chosen i.deck i.decisions i.choices.items i.edges i.paths.items i.fault c.self.invariant c.args.self.now c.self.view_is c.args.option c.requires.good c.requires.option c.len-taken.result taken c.at-decision.result c.at-decision.ensures c.option_at-last.result c.option_at-last.ensures.known c.option_at-last.ensures.value c.as_slice.result.now (c.as_slice.ensures.value ∙ c.push.ensures.items)

pub solve-solved-requires-clause-last : goal.solve-solved-requires-clause-last
solve-solved-requires-clause-last c =
    let i = c.self.inside in
    let taken : c.len-taken.result ≡ length i.choices.items = search rules in
    enter-last i.deck i.decisions i.choices.items i.edges i.paths.items i.fault c.self.invariant c.args.self.now c.self.view_is c.args.option c.requires.good c.requires.option c.len-taken.result taken c.at-decision.result c.at-decision.ensures c.option_at-last.result c.option_at-last.ensures.known c.option_at-last.ensures.value c.as_slice.result.now (c.as_slice.ensures.value ∙ c.push.ensures.items)

pub solve-solved-requires-clause-edges : goal.solve-solved-requires-clause-edges
solve-solved-requires-clause-edges c =
    let i = c.self.inside in
    let taken : c.len-taken.result ≡ length i.choices.items = search rules in
    c.all.ensures ∙ enter-edges i.deck i.decisions i.choices.items i.edges i.paths.items i.fault c.self.invariant c.args.self.now c.self.view_is c.args.option c.requires.good c.requires.option c.len-taken.result taken c.at-decision.result c.at-decision.ensures c.option_at-last.result c.option_at-last.ensures.known c.option_at-last.ensures.value c.as_slice.result.now (c.as_slice.ensures.value ∙ c.push.ensures.items) c.push_choice.new.edges c.push_choice.ensures

pub solve-solved-requires-clause-longest : goal.solve-solved-requires-clause-longest
solve-solved-requires-clause-longest c =
    let i = c.self.inside in
    let taken : c.len-taken.result ≡ length i.choices.items = search rules in
    subst (λ es. AreLongest (take c.len-known.result es) (vars_of i.deck) c.index-as_slice-taken.result) (sym c.all.ensures) (enter-longest i.deck i.decisions i.choices.items i.edges i.paths.items i.fault c.self.invariant c.args.self.now c.self.view_is c.args.option c.requires.good c.requires.option c.len-taken.result taken c.at-decision.result c.at-decision.ensures c.option_at-last.result c.option_at-last.ensures.known c.option_at-last.ensures.value c.as_slice.result.now (c.as_slice.ensures.value ∙ c.push.ensures.items) c.push_choice.new.edges c.push_choice.ensures c.len-known.result c.len-known.ensures c.index-as_slice-taken.result (sym (c.index-as_slice-taken.is ∙ ap (λ (ts : List PathTree). slice_index_or ts c.len-taken.result c.index-as_slice-taken.result) c.as_slice-2.ensures.value)))

pub invariant_of-self : goal.invariant_of-self
invariant_of-self c =
    let i = c.self.inside in
    let taken : c.len-taken.result ≡ length i.choices.items = search rules in
    enter-good i.deck i.decisions i.choices.items i.edges i.paths.items i.fault c.self.invariant c.args.self.now c.self.view_is c.args.option c.requires.good c.requires.option c.len-taken.result taken c.at-decision.result c.at-decision.ensures c.option_at-last.result c.option_at-last.ensures.known c.option_at-last.ensures.value c.push.new.self.items c.push.ensures.items c.push_choice.new.edges c.push_choice.ensures c.in-Ok.paths c.push-in-Ok.new.self.items c.push-in-Ok.ensures.items (subst (λ ps. IsSettled i.deck ps c.in-Ok.paths) c.as_slice.ensures.value c.in-Ok.ensures.settled)

pub invariant_of-self-in-Err : goal.invariant_of-self-in-Err
invariant_of-self-in-Err c =
    let i = c.self.inside in
    let taken : c.len-taken.result ≡ length i.choices.items = search rules in
    enter-faulty i.deck i.decisions i.choices.items i.edges i.paths.items i.fault c.self.invariant c.args.self.now c.self.view_is c.args.option c.requires.good c.requires.option c.len-taken.result taken c.at-decision.result c.at-decision.ensures c.option_at-last.result c.option_at-last.ensures.known c.option_at-last.ensures.value c.push.new.self.items c.push.ensures.items c.push_choice.new.edges c.push_choice.ensures c.in-Err.fault (subst (λ ps. IsCaseFault i.deck ps (fault_of c.in-Err.fault)) c.as_slice.ensures.value c.in-Err.ensures.fault)

pub returns-in-Ok-clause-case : goal.returns-in-Ok-clause-case
returns-in-Ok-clause-case c =
    let i = c.self.inside in
    let taken : c.len-taken.result ≡ length i.choices.items = search rules in
    enter-case i.deck i.decisions i.choices.items i.edges i.paths.items i.fault c.self.invariant c.args.self.now c.self.view_is c.args.option c.requires.good c.requires.option c.len-taken.result taken c.at-decision.result c.at-decision.ensures c.option_at-last.result c.option_at-last.ensures.known c.option_at-last.ensures.value c.push.new.self.items c.push.ensures.items

pub returns-in-Err-clause-case : goal.returns-in-Err-clause-case
returns-in-Err-clause-case c =
    let i = c.self.inside in
    let taken : c.len-taken.result ≡ length i.choices.items = search rules in
    enter-case i.deck i.decisions i.choices.items i.edges i.paths.items i.fault c.self.invariant c.args.self.now c.self.view_is c.args.option c.requires.good c.requires.option c.len-taken.result taken c.at-decision.result c.at-decision.ensures c.option_at-last.result c.option_at-last.ensures.known c.option_at-last.ensures.value c.push.new.self.items c.push.ensures.items
