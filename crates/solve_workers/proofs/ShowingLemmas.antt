-- A book of which costs are shown ends as well as before.
use Rattle.std.proofs.Common.{◌≡◌, ℕ, ◌≤◌, ◌⊎◌, inl, inr, refl, sym, ap, ◌∙◌, subst, arith, Bool, true, false, not, cond, Some, None, slice_get}
use Rattle.std.specs.declared.option.Option.{Option}
use Rattle.std.proofs.lemmas.List.{length-set}
use Rattle.lock_rules.specs.Plan.{cost_of}
use Rattle.price_rules.specs.Prices.{PriceList}
use Rattle.book_rules.specs.declared.book.ShownLow.{ShownLow}
use Rattle.book_rules.specs.declared.book.SlotState.{SlotState}
use Rattle.book_rules.specs.declared.book.SlotState.TheVariants as slot
use Rattle.book_rules.specs.Book.{Book, Case, Slot, slot_at, best_cost, is_back, is_held, is_live}
use Rattle.book_rules.specs.Cheap.{opening_cost}
use Rattle.book_rules.specs.Ends.{HasNone, HasNothingOpen, HasSpentNodes, EndsWell, is_open}
use Rattle.book_rules.specs.Events as machine
use Rattle.book_rules.specs.Events.{show_low, post_prices}
use Rattle.book_rules.specs.Shown.{Shown}
use Rattle.book_rules.specs.Step
use Rattle.book_rules.specs.Tests.{has_shape}
use Rattle.book_rules.proofs.TurnLemmas.{low-at}
use Rattle.book_core.specs.declared.reply.Reply.{Reply}
use Rattle.book_core.specs.Replies.{Does, Steps, Stays}
use Rattle.solve_workers.specs.Showing.{IsOnlyShown}
use Rattle.solve_workers.proofs.OpeningLemmas.{ends_within}
use Rattle.solve_workers.proofs.ToldLemmas.{Answer}

abbrev Out : Type 0
Out = Book × Answer

pub shown_none : (b : Book) → IsOnlyShown b b
shown_none b = record { case = refl; opening = refl; best = refl; used = refl; count = refl; states = λ id. refl; bounds = λ id. refl }

pub shown_then : (a b c : Book) → IsOnlyShown a b → IsOnlyShown b c → IsOnlyShown a c
shown_then a b c first next = record {
  case = next.case ∙ first.case;
  opening = next.opening ∙ first.opening;
  best = next.best ∙ first.best;
  used = next.used ∙ first.used;
  count = next.count ∙ first.count;
  states = λ id. next.states id ∙ first.states id;
  bounds = λ id. next.bounds id ∙ first.bounds id;
}

module _ (b : Book) where
  shown-cond : (t : Bool) (x y : Out) → IsOnlyShown b x.0 → IsOnlyShown b y.0 → IsOnlyShown b (cond t x y).0
  shown-cond true x y p q = p
  shown-cond false x y p q = q

  low-only : (id : ℕ) (low : ShownLow) → IsOnlyShown b (Step.low_shown b id low)
  low-only id low = record {
    case = refl;
    opening = refl;
    best = refl;
    used = refl;
    count = length-set b.slots id (record (slot_at b id) { shown = Some low });
    states = λ other. ap (λ (s : Slot). s.state) (low-at b id low other);
    bounds = λ other. ap (λ (s : Slot). s.bound) (low-at b id low other);
  }

  unless-only : (id : ℕ) (low : ShownLow) (o : Option Answer) → IsOnlyShown b (Step.show_unless b id low o).0
  unless-only id low (Some refusal) = shown_none b
  unless-only id low None = low-only id low

  -- a cost that is shown of a slot
  pub low_only : (id number : ℕ) (shown : Shown) (r : Reply) (new : Book) → Does b (show_low id number shown) r new → IsOnlyShown b new
  low_only id number shown r new (Stays wants) = subst (IsOnlyShown b) (sym wants.same) (shown_none b)
  low_only id number shown r new (Steps answers) =
      let low : ShownLow = record { prices = number; cost = shown.cost } in
      let refusal : Option Answer = Step.low_refusal b id number shown (slice_get b.prices number) in
      subst (IsOnlyShown b) (ap (λ (o : Out). o.0) answers.same)
      (shown-cond (not (is_live (slot_at b id).state)) (b, machine.NotHeld id) (Step.show_unless b id low refusal) (shown_none b) (unless-only id low refusal))

  -- prices that are posted
  pub prices_only : (prices : PriceList) (r : Reply) (new : Book) → Does b (post_prices prices) r new → IsOnlyShown b new
  prices_only prices r new (Stays wants) = subst (IsOnlyShown b) (sym wants.same) (shown_none b)
  prices_only prices r new (Steps answers) =
      subst (IsOnlyShown b) (ap (λ (o : Out). o.0) answers.same)
      (shown-cond (not (has_shape b.case.instance prices)) (b, machine.OtherPrices) (Step.priced b prices) (shown_none b)
      (record { case = refl; opening = refl; best = refl; used = refl; count = refl; states = λ id. refl; bounds = λ id. refl }))

-- THE BOOK ENDS AS WELL AS BEFORE.
module _ (old new : Book) (only : IsOnlyShown old new) where
  shown_opening : opening_cost new ≡ opening_cost old
  shown_opening = λ j. cost_of (only.case j).instance (only.opening j)

  best-same : best_cost new ≡ best_cost old
  best-same = λ j. cost_of (only.case j).instance (only.best j)

  -- a test that fails of every slot still does
  still : (test : SlotState → Bool) → HasNone old test → HasNone new test
  still test has = record { none = λ id known. ap test (only.states id) ∙ has.none id (let same = only.count in omega (arith, known, same)) }

  still-done : HasNothingOpen old ⊎ HasSpentNodes old → HasNothingOpen new ⊎ HasSpentNodes new
  still-done (inl none) = inl (still is_open none)
  still-done (inr spent) = inr (record {
    used = only.used ∙ spent.used ∙ sym (ap (λ (k : Case). k.nodes) only.case);
    back = still is_back spent.back;
    id = spent.id;
    known = let same = only.count in let k = spent.known in omega (arith, k, same);
    fresh = only.states spent.id ∙ spent.fresh;
  })

  shown_ends : (limit : ℕ) → EndsWell limit old → EndsWell limit new
  shown_ends limit ends = record {
    free = still is_held ends.free;
    opening = let most = ends.opening in omega (arith, most, shown_opening);
    parked = record {
      low = λ id c p less is. let cheap = ends.parked.low id c p (let same = only.count in omega (arith, less, same)) (sym (only.states id) ∙ is) in omega (arith, cheap, only.bounds id, best-same);
    };
    left = still-done ends.left;
  }

-- and with a higher limit
pub shown_within : (low high : ℕ) (old new : Book) → low ≤ high → IsOnlyShown old new → EndsWell low old → EndsWell high new
shown_within low high old new less only ends = ends_within low high new less (shown_ends old new only low ends)
