use Rattle.std.proofs.Common.{rules, ◌≡◌, ◌<◌, ◌≤◌, length, slice_index_or, refl, arith, ◌∙◌, subst}
use Rattle.case_search.specs.declared.visits.Visit.TheVariants.{Refuted}
use Rattle.case_search.specs.Rules.{options_at, with_option}
use Rattle.case_search.specs.Visits.{IsVisit, IsRefuted}
use Rattle.refute_rules.specs.declared.choices.Choice.TheVariants.{Before}
use Rattle.case_search.proofs.VisitLemmas.{good-spent, whole-first, passed-begin, passed-more, passed-end, visit-below, entered-visit}
use Rattle.case_search.proofs.visits.+explore.Goals as goal

pub returns-then-used-turns-clause-visit : goal.returns-then-used-turns-clause-visit
returns-then-used-turns-clause-visit g t c =
    let few = c.requires.used in
    let all = c.if-used-turns.true in
    good-spent (g.T.Track.rules (g.T.Track.deck c.args.track.now)) (g.T.Track.case c.args.track.now) c.requires.reached c.in_default.ensures c.args.used.now c.args.turns (omega (arith, few, all))

pub returns-then-is_whole-clause-visit : goal.returns-then-is_whole-clause-visit
returns-then-is_whole-clause-visit g t c =
    let whole : length (g.T.Track.case c.args.track.now) ≡ length (g.T.Track.rules (g.T.Track.deck c.args.track.now)).decisions = search rules in
    whole-first (g.T.Track.rules (g.T.Track.deck c.args.track.now)) (g.T.Track.case c.args.track.now) (g.met.T.Track.lawful (g.T.Track.deck c.args.track.now)) c.requires.reached c.in_default.ensures whole c.args.used.now

pub loop-option-init : goal.loop-option-init
loop-option-init g t c =
    let unfinished : length (g.T.Track.case c.args.track.now) ≡ length (g.T.Track.rules (g.T.Track.deck c.args.track.now)).decisions → ⊥ = search rules in
    record {
      deck = refl;
      case = refl;
      passed = passed-begin (g.T.Track.rules (g.T.Track.deck c.args.track.now)) (g.T.Track.case c.args.track.now) (g.met.T.Track.lawful (g.T.Track.deck c.args.track.now)) c.requires.reached c.in_default.ensures unfinished c.args.used.now c.args.turns c.if-used-turns.false c.args.marks.now c.push.new.self c.in_ok-push.ensures.ok;
    }

pub returns-then-ne-clause-visit : goal.returns-then-ne-clause-visit
returns-then-ne-clause-visit g t c =
    let r = g.T.Track.rules (g.T.Track.deck c.args.track.now) in
    let case = g.T.Track.case c.args.track.now in
    let k = c.loop-option.option in
    let end = g.T.Track.case c.explore.new.track in
    let less : k < length (options_at r case) = search rules in
    let other : c.in_ok-inner.inner ≡ Refuted → ⊥ = search rules in
    let inner : IsVisit r (with_option r case k) c.args.turns c.loop-option.used c.explore.new.used c.loop-option.marks c.explore.new.marks end c.in_ok-inner.inner =
    entered-visit g.T.Track.rules (g.T.Track.deck c.args.track.now) (g.T.Track.deck c.loop-option.track) (g.T.Track.deck c.enter.new.self) case (g.T.Track.case c.loop-option.track) (g.T.Track.case c.enter.new.self) c.args.turns k c.loop-option.used c.explore.new.used c.loop-option.marks c.explore.new.marks end c.in_ok-inner.inner c.loop-option.invariant.deck c.loop-option.invariant.case c.enter.ensures.deck c.enter.ensures.case c.in_ok-inner.ensures.visit in
    visit-below r case c.args.used.now c.loop-option.used c.explore.new.used c.args.turns k c.args.marks.now c.loop-option.marks c.explore.new.marks c.explore.new.marks end c.in_ok-inner.inner less other c.loop-option.invariant.passed inner

pub loop-option-preserved : goal.loop-option-preserved
loop-option-preserved g t c =
    let r = g.T.Track.rules (g.T.Track.deck c.args.track.now) in
    let case = g.T.Track.case c.args.track.now in
    let k = c.loop-option.option in
    let end = g.T.Track.case c.explore.new.track in
    let less : k < length (options_at r case) = search rules in
    let refuted : c.in_ok-inner.inner ≡ Refuted = search rules in
    let inner : IsVisit r (with_option r case k) c.args.turns c.loop-option.used c.explore.new.used c.loop-option.marks c.explore.new.marks end c.in_ok-inner.inner =
    entered-visit g.T.Track.rules (g.T.Track.deck c.args.track.now) (g.T.Track.deck c.loop-option.track) (g.T.Track.deck c.enter.new.self) case (g.T.Track.case c.loop-option.track) (g.T.Track.case c.enter.new.self) c.args.turns k c.loop-option.used c.explore.new.used c.loop-option.marks c.explore.new.marks end c.in_ok-inner.inner c.loop-option.invariant.deck c.loop-option.invariant.case c.enter.ensures.deck c.enter.ensures.case c.in_ok-inner.ensures.visit in
    let below : IsRefuted r (with_option r case k) c.loop-option.used c.explore.new.used c.loop-option.marks c.explore.new.marks end =
    subst (IsVisit r (with_option r case k) c.args.turns c.loop-option.used c.explore.new.used c.loop-option.marks c.explore.new.marks end) refuted inner in
    record {
      deck = c.leave.ensures.deck ∙ c.in_ok-inner.ensures.deck ∙ c.enter.ensures.deck ∙ c.loop-option.invariant.deck;
      case = c.leave.ensures.case case (slice_index_or (options_at r case) k (Before 0 0)) below.back;
      passed = passed-more r case c.args.used.now c.loop-option.used c.explore.new.used c.args.turns k c.args.marks.now c.loop-option.marks c.explore.new.marks end less c.in_ok-inner.ensures.few c.loop-option.invariant.passed below;
    }

pub returns-clause-visit : goal.returns-clause-visit
returns-clause-visit g t c =
    let r = g.T.Track.rules (g.T.Track.deck c.args.track.now) in
    let case = g.T.Track.case c.args.track.now in
    let long : length (options_at r case) ≤ c.loop-option.option = search rules in
    let unfinished : length case ≡ length r.decisions → ⊥ = search rules in
    passed-end r case c.args.used.now c.loop-option.used c.args.turns c.loop-option.option c.args.marks.now c.loop-option.marks (g.T.Track.case c.loop-option.track) c.requires.room unfinished long c.loop-option.invariant.case c.loop-option.invariant.passed
