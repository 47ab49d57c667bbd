-- Posting, of cuts and prices, and parking.
use Rattle.std.proofs.Common.{◌≡◌, ℕ, zero, suc, ◌<◌, List, [], ◌∷◌, length, refl, sym, ap, ◌∙◌, subst, arith, Bool, true, false, not, cond, nat_lt, slice_get, slice_index_or, Some, None, All}
use Rattle.std.proofs.lemmas.Bool.{not_from_false, not_from_true, false≢true}
use Rattle.std.specs.declared.option.Option.{Option}
use Rattle.std.specs.List.{list_all}
use Rattle.std.specs.Bool.{Decides}
use Rattle.std.proofs.lemmas.Bool.Decides.{Decides-ltb, Decides-by_and, Decides-like, same_from_decides}
use Rattle.lock_model.specs.Deck.{Deck}
use Rattle.lock_model.specs.declared.group.Group.{Group}
use Rattle.lock_model.specs.declared.instance.Instance.{Instance}
use Rattle.lock_rules.specs.Node.{Node as TreeNode, line_at}
use Rattle.refute_rules.specs.Cuts.{Cut, IsCut}
use Rattle.refute_rules.specs.Spots.{IsSpent}
use Rattle.mooring_rules.specs.declared.breaks.BrokenPlan.{BrokenPlan}
use Rattle.price_rules.specs.Prices.{PriceList}
use Rattle.price_rules.specs.declared.triple.Triple.{Triple}
use Rattle.closing_rules.specs.ListedPrices.{ArePrices}
use Rattle.book_rules.specs.declared.book.SlotState.TheVariants as slot
use Rattle.book_rules.specs.declared.book.Entry.TheVariants as entry
use Rattle.book_rules.specs.Book.{Book, slot_at, is_held, group_at}
use Rattle.book_rules.specs.Events as machine
use Rattle.book_rules.specs.Events.{post, post_prices, park}
use Rattle.book_rules.specs.Tests.{has_clash, is_own_cut, has_shape}
use Rattle.book_rules.specs.Step.{step, noted, with_state, posted, priced, parked, park_group, is_lent}
use Rattle.book_rules.proofs.TestLemmas.{has_shape-decides}
use Rattle.book_core.specs.declared.reply.Reply.TheVariants as reply
use Rattle.book_core.specs.declared.reply.Refusal.TheVariants as refusing
use Rattle.book_core.specs.Parking.{group_lent, names_lent}
use Rattle.book_core.specs.Growing.{kept_cut, with_prices}
use Rattle.book_core.specs.Keeps.{IsSound}
use Rattle.book_core.specs.Replies.{Answers, Does, Steps}
use Rattle.book_core.proofs.CloseLemmas.{Out, none, pick-true, pick-false}
use Rattle.book_core.proofs.SoundLemmas.{step-sound}

pub known_ships : (r : Bool) (n : ℕ) (ships : List ℕ) → Decides r (All (λ s. s < n) ships) → r ≡ list_all (λ s. nat_lt s n) ships
known_ships r n ships decides = same_from_decides r (list_all (λ s. nat_lt s n) ships) decides (Decides-by_and (λ s. nat_lt s n) (λ s. s < n) (list_all (λ s. nat_lt s n)) (λ s. Decides-ltb s n) refl (λ _ _. refl) ships)

-- ---- post

pub post-other : (b : Book) (cut : Cut) → is_own_cut b.case.instance cut ≡ false → Does b (post cut) (reply.Refused refusing.OtherDeck) b
post-other b cut e = Steps (record {
  found = None;
  judged = tt;
  answer = machine.OtherDeck;
  said = refl;
  same = pick-true (not (is_own_cut b.case.instance cut)) (b, machine.OtherDeck) (posted {Break = BrokenPlan} b cut) (not_from_false (is_own_cut b.case.instance cut) e);
})

way-post : (b : Book) (cut : Cut) → is_own_cut b.case.instance cut ≡ true → step (λ _ _. none) b (post cut) ≡ posted b cut
way-post b cut e = pick-false (not (is_own_cut b.case.instance cut)) (b, machine.OtherDeck) (posted {Break = BrokenPlan} b cut) (not_from_true (is_own_cut b.case.instance cut) e)

pub post-sound : (b : Book) (cut : Cut) → IsSound b → IsCut cut → is_own_cut b.case.instance cut ≡ true → IsSound (kept_cut b cut)
post-sound b cut sound good e = subst IsSound (ap (λ (o : Out). o.0) (way-post b cut e)) (step-sound b (post cut) None sound good tt)

pub post-done : (b : Book) (cut : Cut) (number : ℕ) (new : Book) → is_own_cut b.case.instance cut ≡ true → number ≡ length b.cuts → new ≡ kept_cut b cut → Does b (post cut) (reply.Posted number) new
post-done b cut number new e number_is is = Steps (record {
  found = None;
  judged = tt;
  answer = machine.Posted number;
  said = refl;
  same = way-post b cut e ∙ (λ i. (sym is i, machine.Posted (sym number_is i)));
})

-- ---- post_prices

pub told-shape : (r : Bool) (I : Instance) (prices : PriceList) (n : ℕ)
    → n ≡ length I.ships → Decides r ((length prices.ships ≡ n) × All (λ (t : Triple). t.third < n) prices.triples) → r ≡ has_shape I prices
told-shape r I prices n count decides =
    let of_ships : Decides r ((length prices.ships ≡ length I.ships) × All (λ (t : Triple). t.third < length I.ships) prices.triples) =
    subst (λ m. Decides r ((length prices.ships ≡ m) × All (λ (t : Triple). t.third < m) prices.triples)) count decides in
    same_from_decides r (has_shape I prices) (Decides-like r (λ h. record { count = h.0; known = h.1 }) (λ s. (s.count, s.known)) of_ships) (has_shape-decides I prices)

module _ (b : Book) (prices : PriceList) where
  abbrev kept_so : Out
  kept_so = priced {Break = BrokenPlan} b prices

  pub prices-other : has_shape b.case.instance prices ≡ false → Does b (post_prices prices) (reply.Refused refusing.OtherPrices) b
  prices-other e = Steps (record {
    found = None;
    judged = tt;
    answer = machine.OtherPrices;
    said = refl;
    same = pick-true (not (has_shape b.case.instance prices)) (b, machine.OtherPrices) kept_so (not_from_false (has_shape b.case.instance prices) e);
  })

  way-prices : has_shape b.case.instance prices ≡ true → step (λ _ _. none) b (post_prices prices) ≡ kept_so
  way-prices e = pick-false (not (has_shape b.case.instance prices)) (b, machine.OtherPrices) kept_so (not_from_true (has_shape b.case.instance prices) e)

  pub prices-sound : IsSound b → ArePrices prices → has_shape b.case.instance prices ≡ true → IsSound (with_prices b prices)
  prices-sound sound good e = subst IsSound (ap (λ (o : Out). o.0) (way-prices e)) (step-sound b (post_prices prices) None sound good tt)

  pub prices-done : (number : ℕ) (new : Book) → has_shape b.case.instance prices ≡ true → number ≡ length b.prices → new ≡ with_prices b prices → Does b (post_prices prices) (reply.Priced number) new
  prices-done number new e number_is is = Steps (record {
    found = None;
    judged = tt;
    answer = machine.Priced number;
    said = refl;
    same = way-prices e ∙ (λ i. (sym is i, machine.Priced (sym number_is i)));
  })

-- ---- park

got-some : (xs : List Group) (k : ℕ) (x : Group) → k < length xs → x ≡ slice_index_or xs k x → slice_get xs k ≡ Some x
got-some [] k x known is = absurd (omega (arith, known))
got-some (y ∷ ys) zero x known is = ap Some (sym is)
got-some (y ∷ ys) (suc k) x known is = got-some ys k x (omega (arith, known)) is

module _ (b : Book) (id c p : ℕ) (deck : Deck) (turns : ℕ) where
  -- the line of the slot's node
  module _ (lines : List (List Group)) (node : TreeNode) (same : node ≡ (slot_at b id).node) (line : List Group) (line_is : line ≡ line_at node.lines c) where
    at-node : group_at (slot_at b id).node c p ≡ slice_get line p
    at-node = sym (ap (λ (n : TreeNode). slice_get (line_at n.lines c) p) same) ∙ ap (λ l. slice_get l p) (sym line_is)

    pub lent-some : (g : Group) → p < length line → g ≡ slice_index_or line p g → names_lent b id c p deck turns ≡ is_lent b c g deck turns
    lent-some g known is = ap (group_lent b c deck turns) (at-node ∙ got-some line p g known is)

  abbrev rest : Out
  rest = park_group b id c p deck turns (group_at (slot_at b id).node c p)

  past-held : is_held (slot_at b id).state ≡ true → step (λ _ _. none) b (park id c p deck turns) ≡ rest
  past-held e = pick-false (not (is_held (slot_at b id).state)) (b, machine.NotHeld id) rest (not_from_true (is_held (slot_at b id).state) e)

  pub park-missed : is_held (slot_at b id).state ≡ false → Answers b (park id c p deck turns) (reply.Refused (refusing.NotHeld id)) b
  park-missed e = record { found = None; judged = tt; answer = machine.NotHeld id; said = refl; same = pick-true (not (is_held (slot_at b id).state)) (b, machine.NotHeld id) rest (not_from_false (is_held (slot_at b id).state) e) }

  by-other : (o : Option Group) → group_lent b c deck turns o ≡ false → park_group {Break = BrokenPlan} b id c p deck turns o ≡ (b, machine.OtherDeck)
  by-other None e = refl
  by-other (Some g) e = pick-true (not (is_lent b c g deck turns)) (b, machine.OtherDeck) (cond (has_clash deck.ships) (b, machine.Clashes id) (parked b id c p)) (not_from_false (is_lent b c g deck turns) e)

  by-lent : (o : Option Group) → group_lent b c deck turns o ≡ true → park_group {Break = BrokenPlan} b id c p deck turns o ≡ cond (has_clash deck.ships) (b, machine.Clashes id) (parked b id c p)
  by-lent None e = absurd (false≢true e)
  by-lent (Some g) e = pick-false (not (is_lent b c g deck turns)) (b, machine.OtherDeck) (cond (has_clash deck.ships) (b, machine.Clashes id) (parked b id c p)) (not_from_true (is_lent b c g deck turns) e)

  pub park-other : is_held (slot_at b id).state ≡ true → names_lent b id c p deck turns ≡ false → Answers b (park id c p deck turns) (reply.Refused refusing.OtherDeck) b
  park-other e m = record { found = None; judged = tt; answer = machine.OtherDeck; said = refl; same = past-held e ∙ by-other (group_at (slot_at b id).node c p) m }

  pub park-clashes : is_held (slot_at b id).state ≡ true → names_lent b id c p deck turns ≡ true → has_clash deck.ships ≡ true → Answers b (park id c p deck turns) (reply.Refused (refusing.Clashes id)) b
  park-clashes e m h = record {
    found = None;
    judged = tt;
    answer = machine.Clashes id;
    said = refl;
    same = past-held e ∙ by-lent (group_at (slot_at b id).node c p) m ∙ pick-true (has_clash deck.ships) (b, machine.Clashes id) (parked b id c p) h;
  }

  way-park : is_held (slot_at b id).state ≡ true → names_lent b id c p deck turns ≡ true → has_clash deck.ships ≡ false → step (λ _ _. none) b (park id c p deck turns) ≡ parked b id c p
  way-park e m h = past-held e ∙ by-lent (group_at (slot_at b id).node c p) m ∙ pick-false (has_clash deck.ships) (b, machine.Clashes id) (parked b id c p) h

  module _ (sound : IsSound b) (spent : IsSpent deck turns) (e : is_held (slot_at b id).state ≡ true) (m : names_lent b id c p deck turns ≡ true) (h : has_clash deck.ships ≡ false) where
    pub park-sound : IsSound (noted (with_state b id (slot.Parked c p)) (entry.Park id c p))
    park-sound = subst IsSound (ap (λ (o : Out). o.0) (way-park e m h)) (step-sound b (park id c p deck turns) None sound spent tt)

    pub park-done : (new : Book) → new ≡ noted (with_state b id (slot.Parked c p)) (entry.Park id c p) → Answers b (park id c p deck turns) reply.Parked new
    park-done new is = record { found = None; judged = tt; answer = machine.Parked; said = refl; same = way-park e m h ∙ ap (λ u. (u, machine.Parked)) (sym is) }
