-- A history played again.
use Rattle.std.specs.Prelude.{ℕ, ◌≡◌, List, [], ◌∷◌, Bool, true, false, length, map, count_by, slice_index_or}
use Rattle.std.specs.declared.option.Option.{Option}
use Rattle.lock_model.specs.Fitting.{deck_of}
use Rattle.lock_model.specs.declared.instance.Instance.{Instance}
use Rattle.lock_model.specs.declared.plan.Plan.{Plan}
use Rattle.price_rules.specs.Prices.{PriceList}
use Rattle.refute_rules.specs.Cuts.{Cut}
use Rattle.closing_rules.specs.ListedPrices.{no_prices}
use Rattle.closing_rules.specs.declared.grounds.Ground.{Ground}
use Rattle.closing_rules.specs.declared.grounds.Ground.TheVariants as by
use Rattle.book_rules.specs.declared.book.Entry.{Entry}
use Rattle.book_rules.specs.declared.book.Entry.TheVariants as entry
use Rattle.book_rules.specs.Book.{Case, Book, slot_at, best_cost, ships_at, opening_book}
use Rattle.book_rules.specs.Events.{Event, take, split, close, post, post_prices, close_price, close_swept, show_low, park, replace, release}
use Rattle.book_rules.specs.Shown.{Shown, Swept, chamber_cut}
use Rattle.book_rules.specs.Step.{step}

-- what the book itself says of slot id, the prices of a number and a cost: by its own cuts
abbrev pub own_shown : Book → ℕ → ℕ → ℕ → Shown
own_shown b id number cost = record {
  instance = b.case.instance;
  node = (slot_at b id).node;
  prices = slice_index_or b.prices number no_prices;
  cuts = map chamber_cut b.cuts;
  cost = cost;
}

-- what the book itself says is swept: its best cost, by its own cuts
abbrev pub own_swept : Book → Swept
own_swept b = record { instance = b.case.instance; cuts = map chamber_cut b.cuts; cost = best_cost b }

-- the event that closes slot id so
abbrev pub closing_of : Book → ℕ → Ground → Event
closing_of b id (by.Price number) = close_price id number (own_shown b id number (best_cost b))
closing_of b id (by.Swept number) = close_swept id number (own_swept b)
closing_of b id why = close id why

-- The book after the entries; a post takes the next cut or prices, a replace the next plan, a park the group's deck and the case's
-- turns, and a closing by prices or by a sweep, or a cost that is shown, what the book itself says.
abbrev pub replay_from :
    {Break : Type 0} → (Instance → Plan → Option Break) → Book → List Entry → List Cut → List Plan → List PriceList → Book
replay_from broken b [] cuts plans prices = b
replay_from broken b (entry.Take w ∷ es) cuts plans prices = replay_from broken (step broken b (take w)).0 es cuts plans prices
replay_from broken b (entry.Split id ∷ es) cuts plans prices = replay_from broken (step broken b (split id)).0 es cuts plans prices
replay_from broken b (entry.Close id why ∷ es) cuts plans prices = replay_from broken (step broken b (closing_of b id why)).0 es cuts plans prices
replay_from broken b (entry.ShowLow id low ∷ es) cuts plans prices =
    replay_from broken (step broken b (show_low id low.prices (own_shown b id low.prices low.cost))).0 es cuts plans prices
replay_from broken b (entry.Post ∷ es) [] plans prices = b
replay_from broken b (entry.Post ∷ es) (cut ∷ cuts) plans prices = replay_from broken (step broken b (post cut)).0 es cuts plans prices
replay_from broken b (entry.Prices ∷ es) cuts plans [] = b
replay_from broken b (entry.Prices ∷ es) cuts plans (own ∷ prices) = replay_from broken (step broken b (post_prices own)).0 es cuts plans prices
replay_from broken b (entry.Park id c p ∷ es) cuts plans prices =
    replay_from broken (step broken b (park id c p (deck_of b.case.instance c (ships_at (slot_at b id).node c p)) b.case.turns)).0 es cuts plans prices
replay_from broken b (entry.Replace ∷ es) cuts [] prices = b
replay_from broken b (entry.Replace ∷ es) cuts (plan ∷ plans) prices = replay_from broken (step broken b (replace plan)).0 es cuts plans prices
replay_from broken b (entry.Release w ∷ es) cuts plans prices = replay_from broken (step broken b (release w)).0 es cuts plans prices

-- the book that a case and an opening plan give, after this history
abbrev pub replay :
    {Break : Type 0} → (Instance → Plan → Option Break) → Case → Plan → List Entry → List Cut → List Plan → List PriceList → Book
replay broken case plan history cuts plans prices = replay_from broken (opening_book case plan) history cuts plans prices

-- the entries that take a cut, a plan, or prices
abbrev pub is_post : Entry → Bool
is_post entry.Post = true
is_post _ = false

abbrev pub is_replace : Entry → Bool
is_replace entry.Replace = true
is_replace _ = false

abbrev pub is_pricing : Entry → Bool
is_pricing entry.Prices = true
is_pricing _ = false

-- The book is the replay of its history, which takes all its cuts, plans and prices.
pub record IsReplayed {Break : Type 0} (broken : Instance → Plan → Option Break) (b : Book) : Type 0 where
  pub same : replay broken b.case b.opening b.history b.cuts b.plans b.prices ≡ b
  pub posts : count_by is_post b.history ≡ length b.cuts
  pub replaces : count_by is_replace b.history ≡ length b.plans
  pub pricings : count_by is_pricing b.history ≡ length b.prices
