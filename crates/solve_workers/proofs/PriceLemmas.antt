-- What prices find, carried out while a slot is held.
use Rattle.std.proofs.Common.{◌≡◌, ℕ, ◌<◌, length, refl, sym, ap, ◌∙◌, subst, Bool, true, false, not, cond, slice_get, slice_index_or}
use Rattle.mooring_rules.specs.declared.breaks.BrokenPlan.{BrokenPlan}
use Rattle.price_rules.specs.Prices.{PriceList}
use Rattle.refute_rules.specs.Cuts.{Cut}
use Rattle.std.specs.declared.option.Option.{Option}
use Rattle.closing_rules.specs.declared.grounds.Ground.{Ground}
use Rattle.closing_rules.specs.declared.grounds.Ground.TheVariants as by
use Rattle.book_rules.specs.Book.{Book, no_slot, is_held}
use Rattle.lock_rules.specs.Node.{Node}
use Rattle.book_rules.specs.Ends.{HoldsNothing}
use Rattle.book_rules.specs.Events as machine
use Rattle.book_rules.specs.Events.{Event, post, post_prices, close_price, close_swept}
use Rattle.book_rules.specs.Shown.{Shown, Swept}
use Rattle.book_rules.specs.Step
use Rattle.book_rules.specs.Tests.{is_own_cut, has_shape}
use Rattle.book_rules.proofs.ClosingLemmas.{MayRefuse, may-refuse_price, may-refuse_sweep}
use Rattle.book_core.specs.declared.reply.Reply.{Reply}
use Rattle.book_core.specs.Replies.{Answers, Does, Steps, Stays}
use Rattle.solve_workers.specs.Holding.{HoldsOnly}
use Rattle.solve_workers.specs.Told.{is_closed}
use Rattle.solve_workers.proofs.ToldLemmas.{Answer, told-closed}
use Rattle.solve_workers.proofs.CloseLemmas.{CloseOut, Kept, Leaves, leaves-answer, unless-out}

abbrev Out : Type 0
Out = Book × Answer

-- ---- the slots stay

same-cond : (b : Book) (t : Bool) (x y : Out) → x.0.slots ≡ b.slots → y.0.slots ≡ b.slots → (cond t x y).0.slots ≡ b.slots
same-cond b true x y p q = p
same-cond b false x y p q = q

post-slots : (b : Book) (cut : Cut) → (Step.post_step {Break = BrokenPlan} b cut).0.slots ≡ b.slots
post-slots b cut = same-cond b (not (is_own_cut b.case.instance cut)) (b, machine.OtherDeck) (Step.posted b cut) refl refl

prices-slots : (b : Book) (prices : PriceList) → (Step.post_prices_step {Break = BrokenPlan} b prices).0.slots ≡ b.slots
prices-slots b prices = same-cond b (not (has_shape b.case.instance prices)) (b, machine.OtherPrices) (Step.priced b prices) refl refl

pub posted_slots : (b : Book) (cut : Cut) (r : Reply) (new : Book) → Does b (post cut) r new → new.slots ≡ b.slots
posted_slots b cut r new (Stays wants) = ap (λ (x : Book). x.slots) wants.same
posted_slots b cut r new (Steps answers) = ap (λ (o : Out). o.0.slots) (sym answers.same) ∙ post-slots b cut

pub priced_slots : (b : Book) (prices : PriceList) (r : Reply) (new : Book) → Does b (post_prices prices) r new → new.slots ≡ b.slots
priced_slots b prices r new (Stays wants) = ap (λ (x : Book). x.slots) wants.same
priced_slots b prices r new (Steps answers) = ap (λ (o : Out). o.0.slots) (sym answers.same) ∙ prices-slots b prices

-- so the slot is still held
pub still_holds : (b new : Book) (id : ℕ) (node : Node) → new.slots ≡ b.slots → HoldsOnly b id node → HoldsOnly new id node
still_holds b new id node same holds = record {
  held = ap (λ xs. (slice_index_or xs id no_slot).state) same ∙ holds.held;
  others = λ k other. ap (λ xs. is_held (slice_index_or xs k no_slot).state) same ∙ holds.others k other;
  node_is = ap (λ xs. (slice_index_or xs id no_slot).node) same ∙ holds.node_is;
}

pub still_nothing : (b new : Book) → new.slots ≡ b.slots → HoldsNothing b → HoldsNothing new
still_nothing b new same free = record { none = λ id known. ap (λ xs. is_held (slice_index_or xs id no_slot).state) same ∙ free.none id (subst (λ n. id < n) (ap length same) known) }

-- ---- closing by what was shown or swept

-- an event that closes slot id so, unless it is refused
module _ (b : Book) (id : ℕ) (node : Node) (why : Ground) (e : Event) (refusal : Option Answer) (refuses : MayRefuse refusal) (r : Reply) (new : Book) where
  abbrev closing : Out
  closing = cond (not (Step.may_close b id)) (b, machine.NotHeld id) (Step.close_unless b id why refusal)

  closing-out : CloseOut b id closing
  closing-out = by_test (Step.may_close b id)
    where
      by_test : (t : Bool) → CloseOut b id (cond (not t) (b, machine.NotHeld id) (Step.close_unless b id why refusal))
      by_test true = unless-out b id why refusal refuses
      by_test false = Kept refl refl

  module _ (answers : Answers b e r new) (is : closing ≡ Step.step (λ _ _. answers.found) b e) (holds : HoldsOnly b id node) where
    leaves : Leaves b new (is_closed r)
    leaves = leaves-answer b id node closing r new answers.answer holds closing-out (is ∙ answers.same) (told-closed r answers.answer answers.said)

    closing_shut : is_closed r ≡ true → HoldsNothing new
    closing_shut closed = leaves.shut closed

    closing_kept : is_closed r ≡ false → HoldsOnly new id node
    closing_kept off = subst (λ (x : Book). HoldsOnly x id node) (sym (leaves.kept off)) holds

module _ (b : Book) (id : ℕ) (node : Node) (number : ℕ) (shown : Shown) (r : Reply) (new : Book) (answers : Answers b (close_price id number shown) r new) where
  abbrev price_refusal : Option Answer
  price_refusal = Step.price_refusal b id number shown (slice_get b.prices number)

  price_refuses : MayRefuse price_refusal
  price_refuses = may-refuse_price b id BrokenPlan number shown (slice_get b.prices number)

  pub price_shut : is_closed r ≡ true → HoldsOnly b id node → HoldsNothing new
  price_shut closed holds = closing_shut b id node (by.Price number) (close_price id number shown) price_refusal price_refuses r new answers refl holds closed

  pub price_kept : is_closed r ≡ false → HoldsOnly b id node → HoldsOnly new id node
  price_kept off holds = closing_kept b id node (by.Price number) (close_price id number shown) price_refusal price_refuses r new answers refl holds off

module _ (b : Book) (id : ℕ) (node : Node) (number : ℕ) (swept : Swept) (r : Reply) (new : Book) (answers : Answers b (close_swept id number swept) r new) where
  abbrev sweep_refusal : Option Answer
  sweep_refusal = Step.sweep_refusal b id number swept (slice_get b.prices number)

  sweep_refuses : MayRefuse sweep_refusal
  sweep_refuses = may-refuse_sweep b id BrokenPlan number swept (slice_get b.prices number)

  pub swept_shut : is_closed r ≡ true → HoldsOnly b id node → HoldsNothing new
  swept_shut closed holds = closing_shut b id node (by.Swept number) (close_swept id number swept) sweep_refusal sweep_refuses r new answers refl holds closed

  pub swept_kept : is_closed r ≡ false → HoldsOnly b id node → HoldsOnly new id node
  swept_kept off holds = closing_kept b id node (by.Swept number) (close_swept id number swept) sweep_refusal sweep_refuses r new answers refl holds off
