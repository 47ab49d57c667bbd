use Rattle.std.proofs.Common.{rules, ◌≡◌, ℕ, ◌<◌, [], ◌∷◌, ◌++◌, length, ap, subst, ◌∙◌, Some, None, IfNone}
use Rattle.std.specs.declared.option.Option.{Option}
use Rattle.refute_rules.specs.Decided.{HasOtherRank}
use Rattle.chamber_place.proofs.WayLemmas.{ranks-all, ranks-before, ranks-below, ranks-at}
use Rattle.chamber_place.proofs.solving.new_other_rank.Goals as goal

weaker : {A B : Type 0} (o : Option ℕ) → (A → B) → IfNone o A → IfNone o B
weaker None f h = f h
weaker (Some i) f h = h

pub returns-in-Lies-clause-none : goal.returns-in-Lies-clause-none
returns-in-Lies-clause-none c =
    let ships : length c.as_slice.result.now ≡ length c.args.deck.now.ships = search rules in
    weaker c.first_other_rank.result (λ (ranks : (i : ℕ) → i < length c.as_slice.result.now → HasOtherRank c.args.choices.now i → ⊥). ranks-all c.args.deck.now c.args.choices.now c.requires.chosen (subst (λ n. (i : ℕ) → i < n → HasOtherRank c.args.choices.now i → ⊥) ships ranks)) c.first_other_rank.ensures.none

pub returns-in-Before-clause-none : goal.returns-in-Before-clause-none
returns-in-Before-clause-none c = ranks-before c.args.choices.now c.requires.last.0 c.in-Before.field-0 c.in-Before.field-1 (c.requires.last.1 ∙ ap (λ p. c.requires.last.0 ++ p ∷ []) c.in-Before.is) c.requires.last.2

pub returns-in-Below-clause-none : goal.returns-in-Below-clause-none
returns-in-Below-clause-none c = ranks-below c.args.choices.now c.requires.last.0 c.in-Below.field-0 c.in-Below.field-1 (c.requires.last.1 ∙ ap (λ p. c.requires.last.0 ++ p ∷ []) c.in-Below.is) c.requires.last.2

pub returns-in-LiesAt-clause-none : goal.returns-in-LiesAt-clause-none
returns-in-LiesAt-clause-none c = ranks-at c.args.choices.now c.requires.last.0 c.in-LiesAt.field-0 c.in-LiesAt.field-1 (c.requires.last.1 ∙ ap (λ p. c.requires.last.0 ++ p ∷ []) c.in-LiesAt.is) c.requires.last.2
