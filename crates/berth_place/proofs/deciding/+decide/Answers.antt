use Rattle.std.proofs.Common.{◌≡◌, ◌<◌, ◌≤◌, ◌∷◌, [], ◌++◌, List, length, take, rules, refl, sym, ap, ◌∙◌, subst, arith}
use Rattle.refute_rules.specs.declared.choices.Choice.{Choice}
use Rattle.refute_rules.specs.BerthTrees.{OfBerth, split_options}
use Rattle.berth_check.specs.Raises.{AreKnown}
use Rattle.berth_place.specs.declared.search.Search.{Search}
use Rattle.berth_place.specs.declared.search.Visit.TheVariants.{Closed}
use Rattle.berth_place.specs.Known.{AreBerths}
use Rattle.berth_place.specs.Visits.{IsClosed, IsOptionClosed, IsVisit, IsVisitOf}
use Rattle.berth_place.proofs.VisitLemmas.{option_at, option_closed, under_begun, under_more, under_whole, visit_over}
use Rattle.berth_place.proofs.OptionLemmas.{option_count, known_more, berths_more}
use Rattle.berth_place.proofs.deciding.+decide.Goals as goal

pub split_berth-loop-option-preserved : goal.split_berth-loop-option-preserved
split_berth-loop-option-preserved t c =
    let d = c.args.deck.now in
    let split = OfBerth c.args.ship in
    let k = c.loop-option.option in
    let ships : length c.as_slice.result.now ≡ length d.ships = search rules in
    let count = option_count d c.args.ship c.requires.left_open.0 in
    let test = c.loop-option-test.true in
    let less : k < length (split_options d split) = omega (arith, ships, count, test) in
    let closed : c.in_ok-visit.visit ≡ Closed = search rules in
    let visit : IsOptionClosed d (option_at d c.args.search.now.case split k) c.loop-option.search c.try_berth.new.search = subst (IsVisitOf d (option_at d c.args.search.now.case split k) c.loop-option.search c.try_berth.new.search) closed c.in_ok-visit.ensures in
    under_more d c.args.search.now split k c.loop-option.search c.try_berth.new.search less c.loop-option.invariant visit

pub split_berth-returns : goal.split_berth-returns
split_berth-returns t c =
    let d = c.args.deck.now in
    let split = OfBerth c.args.ship in
    let ships : length c.as_slice.result.now ≡ length d.ships = search rules in
    let count = option_count d c.args.ship c.requires.left_open.0 in
    let test = c.loop-option-test.false in
    let long : length (split_options d split) ≤ c.loop-option.option = omega (arith, ships, count, test) in
    under_whole d c.args.search.now split c.loop-option.option c.loop-option.search c.requires.left_open long c.loop-option.invariant

pub try_berth-decide-requires : goal.try_berth-decide-requires
try_berth-decide-requires t c =
    let d = c.args.deck.now in
    let case = c.args.search.now.case in
    let split = OfBerth c.args.ship in
    let choice = option_at d case split c.args.option in
    let counted = c.if-not-try_option.ensures in
    let count = option_count d c.args.ship c.requires.left_open.0 in
    let asked = c.requires.option in
    let less : c.args.option < length (split_options d split) = omega (arith, count, asked) in
    let whole : c.take_berth.new.case ≡ case ++ choice ∷ [] = c.in_ok-take_berth.ensures ∙ ap (λ (cs : List Choice). cs ++ choice ∷ []) counted.0.case in (
      search rules,
      record {
        known = subst (AreKnown d) (sym whole) (known_more d case split c.args.option c.requires.berthing.known c.requires.left_open less);
        berths = subst AreBerths (sym whole) (berths_more d case c.args.ship c.args.option c.requires.berthing.berths less);
        edges = counted.0.edges ∙ c.requires.berthing.edges;
        few = counted.1;
      },
    )

pub split_berth-loop-option-init : goal.split_berth-loop-option-init
split_berth-loop-option-init t c = under_begun c.args.deck.now c.args.search.now (OfBerth c.args.ship) _ refl refl refl refl c.requires.berthing.few c.in_ok-write_split.ensures

pub split_berth-returns-then-ne : goal.split_berth-returns-then-ne
split_berth-returns-then-ne t c =
    let d = c.args.deck.now in
    let split = OfBerth c.args.ship in
    let k = c.loop-option.option in
    let ships : length c.as_slice.result.now ≡ length d.ships = search rules in
    let count = option_count d c.args.ship c.requires.left_open.0 in
    let test = c.loop-option-test.true in
    let less : k < length (split_options d split) = omega (arith, ships, count, test) in
    let differ : c.in_ok-visit.visit ≡ Closed → ⊥ = search rules in
    visit_over d split k c.args.search.now c.loop-option.search c.try_berth.new.search c.in_ok-visit.visit differ c.requires.left_open less c.loop-option.invariant c.in_ok-visit.ensures

pub try_berth-returns : goal.try_berth-returns
try_berth-returns t c =
    let d = c.args.deck.now in
    let old = c.args.search.now in
    let choice = option_at d old.case (OfBerth c.args.ship) c.args.option in
    let counted = c.if-not-try_option.ensures.0 in
    let before = c.try_option.new.search in
    let inner : Search = record { case = c.take_berth.new.case; edges = before.edges; turns = before.turns; tried = before.tried; marks = before.marks; spots = before.spots } in
    let after = c.decide.new.search in
    let whole : c.take_berth.new.case ≡ old.case ++ choice ∷ [] = c.in_ok-take_berth.ensures ∙ ap (λ (cs : List Choice). cs ++ choice ∷ []) counted.case in
    let over : c.in_ok-visit.visit ≡ Closed = search rules in
    let closed : IsClosed d inner after = subst (IsVisit d inner after) over c.in_ok-visit.ensures in
    let back : c.truncate.new.self ≡ take (length old.case) after.case = c.truncate.ensures ∙ ap (λ n. take n after.case) (c.len-taken.ensures ∙ ap length counted.case) in
    option_closed d choice old inner after _ whole counted.marks counted.turns counted.tried closed back (closed.on.edges ∙ counted.edges) refl refl refl
