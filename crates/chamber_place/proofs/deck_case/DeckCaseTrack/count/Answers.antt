use Rattle.std.proofs.Common.{rules, ◌≡◌, ◌<◌, length, sym, ap, ◌∙◌, slice_index_or}
use Rattle.std.proofs.lemmas.List.{get_or_default}
use Rattle.refute_rules.specs.declared.choices.Decision.{Decision}
use Rattle.refute_rules.specs.declared.choices.Decision.TheVariants.{BerthOf}
use Rattle.refute_rules.specs.Choices.{options_of}
use Rattle.case_search.specs.Rules.{options_at}
use Rattle.chamber_place.specs.OnItsWay.{case_rules}
use Rattle.chamber_place.proofs.WayLemmas.{asked-next}
use Rattle.chamber_place.proofs.EnterLemmas.{options-next}
use Rattle.chamber_place.proofs.deck_case.DeckCaseTrack.count.Goals as goal

pub option_count-requires : goal.option_count-requires
option_count-requires c =
    let i = c.self.inside in
    let less : c.len-taken.result < length i.decisions = search rules in
    asked-next i.deck i.decisions c.len-taken.result c.at-decision.result c.self.invariant.in_order less
    (ap (slice_index_or i.decisions c.len-taken.result) c.at-decision.ensures ∙ get_or_default i.decisions c.len-taken.result (slice_index_or i.decisions c.len-taken.result (BerthOf 0)) (BerthOf 0) less ∙ sym c.at-decision.ensures)

pub returns-then-taken-len : goal.returns-then-taken-len
returns-then-taken-len c =
    let i = c.self.inside in
    let taken : c.len-taken.result ≡ length i.choices.items = search rules in
    let less : length i.choices.items < length i.decisions = search rules in
    let x = slice_index_or i.decisions (length i.choices.items) (BerthOf 0) in
    c.option_count.ensures.count
    ∙ ap (λ (x : Decision). length (options_of i.deck x)) (c.at-decision.ensures ∙ ap (λ n. slice_index_or i.decisions n (BerthOf 0)) taken)
    ∙ sym (ap length (options-next i.deck i.decisions i.choices.items c.self.invariant.in_order x less (get_or_default i.decisions (length i.choices.items) (slice_index_or i.decisions (length i.choices.items) (BerthOf 0)) (BerthOf 0) less)))
    ∙ ap (λ v. length (options_at (case_rules v.deck) v.case)) c.self.view_is
