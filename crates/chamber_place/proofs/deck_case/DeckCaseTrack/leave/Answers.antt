use Rattle.std.proofs.Common.{rules, ◌≡◌, ◌≤◌, ◌-◌, ◌∙◌, length, take, ap, sym, subst, refl}
use Rattle.lock_model.specs.declared.placement.Rank.TheVariants.{Left}
use Rattle.lock_model.specs.declared.placement.Moor.TheVariants.{Quay}
use Rattle.refute_rules.specs.declared.choices.Choice.TheVariants.{Lies}
use Rattle.chamber_place.proofs.EnterLemmas.{leave-fits, leave-way, leave-case}
use Rattle.chamber_place.proofs.deck_case.DeckCaseTrack.leave.Goals as goal

pub overflow_sub-len : goal.overflow_sub-len
overflow_sub-len c =
    let i = c.self.inside in
    let taken : c.len-left.result ≡ length i.choices.items = search rules in
    subst (λ n. c.edge_count-count.result ≤ n) (sym c.len.ensures) (leave-fits i.deck i.decisions i.choices.items i.edges i.paths.items i.fault c.self.invariant c.args.self.now c.self.view_is c.requires c.len-left.result taken c.as_slice.result.now c.as_slice.ensures.value (Lies 0 (record { rank = Left; moor = Quay })) c.edge_count-count.result c.edge_count-count.ensures i.edges refl)

pub invariant_of-self : goal.invariant_of-self
invariant_of-self c =
    let i = c.self.inside in
    let taken : c.len-left.result ≡ length i.choices.items = search rules in
    leave-way i.deck i.decisions i.choices.items i.edges i.paths.items i.fault c.self.invariant c.args.self.now c.self.view_is c.requires c.len-left.result taken c.as_slice.result.now c.as_slice.ensures.value (Lies 0 (record { rank = Left; moor = Quay })) c.edge_count-count.result c.edge_count-count.ensures i.edges refl c.truncate-2.new.self.items c.truncate-2.ensures.items c.truncate.new.self (c.truncate.ensures ∙ ap (λ n. take (n - c.edge_count-count.result) i.edges) c.len.ensures) c.truncate-3.new.self.items c.truncate-3.ensures.items

pub returns-clause-case : goal.returns-clause-case
returns-clause-case c =
    let i = c.self.inside in
    let taken : c.len-left.result ≡ length i.choices.items = search rules in
    leave-case i.deck i.decisions i.choices.items i.edges i.paths.items i.fault c.self.invariant c.args.self.now c.self.view_is c.requires c.len-left.result taken c.as_slice.result.now c.as_slice.ensures.value (Lies 0 (record { rank = Left; moor = Quay })) c.edge_count-count.result c.edge_count-count.ensures i.edges refl c.truncate-2.new.self.items c.truncate-2.ensures.items
