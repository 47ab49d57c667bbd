-- What every event keeps.
use Rattle.std.proofs.Common.{◌≡◌, List, [], ◌∷◌, refl, sym, ap, subst, Bool, true, false, cond, Some, None, nat_le, leb-false}
use Rattle.std.specs.declared.option.Option.{Option}
use Rattle.lock_model.specs.declared.instance.Instance.{Instance}
use Rattle.lock_model.specs.declared.plan.Plan.{Plan}
use Rattle.lock_rules.specs.Plan.{IsLegal, cost_of}
use Rattle.mooring_rules.specs.declared.breaks.BrokenPlan.{BrokenPlan}
use Rattle.mooring_rules.specs.declared.breaks.BrokenPlan.TheVariants.{Double}
use Rattle.book_rules.specs.Book.{Case, Book, best_cost, opening_book}
use Rattle.book_rules.specs.Events as machine
use Rattle.book_rules.specs.Events.{Event, IsOwed, take, split, close, post, post_prices, close_price, close_swept, show_low, park, replace, release}
use Rattle.book_rules.specs.Step
use Rattle.book_rules.specs.Step.{step}
use Rattle.closing_rules.specs.Laws.{TreeLaws}
use Rattle.book_rules.specs.Cover.{KeepsBook}
use Rattle.book_rules.proofs.CoverLemmas.{event-keeps, replaced-keeps, opening-keeps}
use Rattle.book_rules.specs.Replay.{IsReplayed}
use Rattle.book_rules.proofs.ReplayLemmas.{event-replayed, opening-replayed}
use Rattle.closing_rules.proofs.LawLemmas.{tree-laws}
use Rattle.deck_laws.proofs.HeredityLemmas.{hereditary}
use Rattle.deck_laws.proofs.NormalLemmas.{has-normal}
use Rattle.book_rules.proofs.StepLemmas.{Refused, Accepted, each-step}
use Rattle.book_rules.proofs.PartLemmas.{parts-step, opening-parts}
use Rattle.std.specs.List.{AllByRecursion}
use Rattle.book_core.specs.Laws.{RunsTo, IsJudgeable}
use Rattle.book_core.specs.Case.{IsCase}
use Rattle.book_core.specs.Replies.{IsJudged, IsFirstOf}
use Rattle.book_core.specs.Keeps.{PassesLegal, Replays, IsSound}

pub laws : (I : Instance) → TreeLaws I
laws I = tree-laws hereditary has-normal I

-- ---- the cover

abbrev always : Instance → Plan → Option BrokenPlan
always I P = Some (Double 0)

always-sound : (I : Instance) (P : Plan) → always I P ≡ None → IsLegal I P
always-sound I P e = absurd (clash e)
  where
    clash : Some (Double 0) ≡ None → ⊥
    clash h = cc

by_test : (t : Bool) (a c : Book × machine.Reply BrokenPlan) → KeepsBook a.0 → (t ≡ false → KeepsBook c.0) → KeepsBook (cond t a c).0
by_test true a c kept otherwise = kept
by_test false a c kept otherwise = otherwise refl

replace-keeps : (b : Book) (plan : Plan) (found : Option BrokenPlan) → KeepsBook b → IsJudged b.case.instance plan found → KeepsBook (Step.replace_by b plan found).0
replace-keeps b plan (Some broken) keeps judged = keeps
replace-keeps b plan None keeps judged =
    by_test (nat_le (best_cost b) (cost_of b.case.instance plan)) (b, machine.NotCheaper (cost_of b.case.instance plan) (best_cost b)) (Step.replaced b plan, machine.Replaced (cost_of b.case.instance plan)) keeps
    (λ e. replaced-keeps always always-sound b (laws b.case.instance) keeps plan (judged.none.0 refl) (leb-false (best_cost b) (cost_of b.case.instance plan) e))

pub step-keeps : (b : Book) (e : Event) (found : Option BrokenPlan) → KeepsBook b → IsOwed e → IsFirstOf b.case.instance e found → KeepsBook (step (λ _ _. found) b e).0
step-keeps b (take w) found keeps owed judged = event-keeps always always-sound b (laws b.case.instance) keeps (take w) owed
step-keeps b (split id) found keeps owed judged = event-keeps always always-sound b (laws b.case.instance) keeps (split id) owed
step-keeps b (close id why) found keeps owed judged = event-keeps always always-sound b (laws b.case.instance) keeps (close id why) owed
step-keeps b (post cut) found keeps owed judged = event-keeps always always-sound b (laws b.case.instance) keeps (post cut) owed
step-keeps b (post_prices prices) found keeps owed judged = event-keeps always always-sound b (laws b.case.instance) keeps (post_prices prices) owed
step-keeps b (close_price id number shown) found keeps owed judged = event-keeps always always-sound b (laws b.case.instance) keeps (close_price id number shown) owed
step-keeps b (close_swept id number swept) found keeps owed judged = event-keeps always always-sound b (laws b.case.instance) keeps (close_swept id number swept) owed
step-keeps b (show_low id number shown) found keeps owed judged = event-keeps always always-sound b (laws b.case.instance) keeps (show_low id number shown) owed
step-keeps b (park id c p deck turns) found keeps owed judged = event-keeps always always-sound b (laws b.case.instance) keeps (park id c p deck turns) owed
step-keeps b (replace plan) found keeps owed judged = replace-keeps b plan found keeps judged
step-keeps b (release w) found keeps owed judged = event-keeps always always-sound b (laws b.case.instance) keeps (release w) owed

same-case : (b : Book) (e : Event) (found : Option BrokenPlan) → (step (λ _ _. found) b e).0.case ≡ b.case
same-case b e found = elim (each-step (λ _ _. found) b e) [ Refused r same ↦ ap (λ (u : Book). u.case) same | Accepted new ↦ new.case ]

-- ---- the replay

-- a step by a function that finds no break of a legal plan
same-found : (f : Instance → Plan → Option BrokenPlan) → PassesLegal f → (b : Book) (plan : Plan) (found : Option BrokenPlan) → IsJudged b.case.instance plan found → IsReplayed f b → IsReplayed f (Step.replace_by b plan found).0
same-found f passes b plan (Some broken) judged old = old
same-found f passes b plan None judged old =
    let legal : IsLegal b.case.instance plan = judged.none.0 refl in
    subst (λ (o : Option BrokenPlan). IsReplayed f (Step.replace_by b plan o).0) (passes.passes b.case.instance plan legal) (event-replayed f b (replace plan) old)

pub step-replays : (b : Book) (e : Event) (found : Option BrokenPlan) → Replays b → IsFirstOf b.case.instance e found → Replays (step (λ _ _. found) b e).0
step-replays b (take w) found old judged = record { replay = λ f passes. event-replayed f b (take w) (old.replay f passes) }
step-replays b (split id) found old judged = record { replay = λ f passes. event-replayed f b (split id) (old.replay f passes) }
step-replays b (close id why) found old judged = record { replay = λ f passes. event-replayed f b (close id why) (old.replay f passes) }
step-replays b (post cut) found old judged = record { replay = λ f passes. event-replayed f b (post cut) (old.replay f passes) }
step-replays b (post_prices prices) found old judged = record { replay = λ f passes. event-replayed f b (post_prices prices) (old.replay f passes) }
step-replays b (close_price id number shown) found old judged = record { replay = λ f passes. event-replayed f b (close_price id number shown) (old.replay f passes) }
step-replays b (close_swept id number swept) found old judged = record { replay = λ f passes. event-replayed f b (close_swept id number swept) (old.replay f passes) }
step-replays b (show_low id number shown) found old judged = record { replay = λ f passes. event-replayed f b (show_low id number shown) (old.replay f passes) }
step-replays b (park id c p deck turns) found old judged = record { replay = λ f passes. event-replayed f b (park id c p deck turns) (old.replay f passes) }
step-replays b (replace plan) found old judged = record { replay = λ f passes. same-found f passes b plan found judged (old.replay f passes) }
step-replays b (release w) found old judged = record { replay = λ f passes. event-replayed f b (release w) (old.replay f passes) }

pub opening-replays : (case : Case) (plan : Plan) → Replays (opening_book case plan)
opening-replays case plan = record { replay = λ f passes. opening-replayed f case plan }

pub step-sound : (b : Book) (e : Event) (found : Option BrokenPlan) → IsSound b → IsOwed e → IsFirstOf b.case.instance e found → IsSound (step (λ _ _. found) b e).0
step-sound b e found old owed judged = record {
  case = subst IsCase (sym (same-case b e found)) old.case;
  keeps = step-keeps b e found old.keeps owed judged;
  replays = step-replays b e found old.replays judged;
  parts = parts-step (λ _ _. found) b old.keeps old.parts e owed;
}

pub opening-sound : (case : Case) (plan : Plan) → IsCase case → IsLegal case.instance plan → IsSound (opening_book case plan)
opening-sound case plan good legal = record {
  case = good;
  keeps = opening-keeps case plan (laws case.instance) legal;
  replays = opening-replays case plan;
  parts = opening-parts case plan;
}

-- ---- every list of events

pub all-sound : (b : Book) (es : List Event) (end : Book) → IsSound b → AllByRecursion IsOwed es → RunsTo b es end → IsSound end
all-sound b [] end old owed runs = subst IsSound runs old
all-sound b (e ∷ es) end old owed runs = all-sound (step (λ _ _. runs.0) b e).0 es end (step-sound b e runs.0 old owed.0 runs.1) owed.1 runs.2

pub all-run : (b : Book) (es : List Event) → AllByRecursion (IsJudgeable b.case.instance) es → (end : Book) × RunsTo b es end
all-run b [] told = (b, refl)
all-run b (e ∷ es) told =
    let found : Option BrokenPlan = told.0.found in
    let rest = all-run (step (λ _ _. found) b e).0 es (subst (λ (k : Case). AllByRecursion (IsJudgeable k.instance) es) (sym (same-case b e found)) told.1) in
    (rest.0, (found, told.0.first, rest.1))

pub legal-judgeable : (I : Instance) (P : Plan) → IsLegal I P → IsJudgeable I (replace P)
legal-judgeable I P legal = record { found = None; first = record { none = (λ _. legal, λ _. refl); some = tt } }
