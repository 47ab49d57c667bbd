-- What was shown beside a book, compared with the book.
use Rattle.std.proofs.Common.{◌≡◌, ℕ, ◌<◌, ◌≤◌, List, [], ◌∷◌, length, map, take, refl, sym, ap, ◌∙◌, subst, arith, Bool, true, false, not, cond, ◌&&◌, slice_get, nat_eq, Some, None}
use Rattle.std.specs.declared.option.Option.{Option}
use Rattle.std.specs.Bool.{Decides}
use Rattle.std.specs.Cmp.Lexicographic.{pointwise}
use Rattle.std.proofs.lemmas.Bool.Decides.{Decides-like, same_from_decides}
use Rattle.lock_model.specs.declared.instance.Instance.{Instance}
use Rattle.lock_rules.specs.Node.{Node}
use Rattle.mooring_rules.specs.declared.breaks.BrokenPlan.{BrokenPlan}
use Rattle.price_rules.specs.Prices.{PriceList, Reaches}
use Rattle.price_terms.specs.Claim.{Claim, IsReached}
use Rattle.price_terms.specs.Cuts.{plain_cut, plain_cuts, same_cut}
use Rattle.price_terms.specs.declared.cut.ChamberCut.{ChamberCut}
use Rattle.refute_rules.specs.Cuts.{Cut}
use Rattle.closing_rules.specs.declared.grounds.Ground.TheVariants as by
use Rattle.book_rules.specs.Book.{Book, best_cost}
use Rattle.book_rules.specs.Events as machine
use Rattle.book_rules.specs.Events.{close_price}
use Rattle.book_rules.specs.Same.{same_instance, same_node}
use Rattle.book_rules.specs.Shown.{Shown, shown_cuts, IsShown, are_first_cuts}
use Rattle.book_rules.specs.Step.{may_close, is_shown, price_refusal, cheaper_than, closed}
use Rattle.lock_model.proofs.SameLemmas.{instance_decides}
use Rattle.book_rules.proofs.SameLemmas.{same_node-decides}
use Rattle.book_core.specs.declared.reply.Reply.{Reply}
use Rattle.book_core.specs.Keeps.{IsSound}
use Rattle.book_core.specs.Replies.{Answers, IsShutAt}
use Rattle.book_core.specs.Telling.{told_cut, bare_cut, told_shown}
use Rattle.book_core.proofs.CloseLemmas.{asked-sound, asked-answers}

-- ---- what is claimed of a node is shown of it

pub told-cuts : (I : Instance) (cuts : List ChamberCut) → shown_cuts I (map told_cut cuts) ≡ plain_cuts I cuts
told-cuts I [] = refl
told-cuts I (c ∷ cs) = ap (λ l. plain_cut I c ∷ l) (told-cuts I cs)

pub reached-shown : (claim : Claim) → IsReached claim → IsShown (told_shown claim)
reached-shown claim reached = subst (λ cuts. Reaches claim.instance cuts claim.node.depth claim.node.lines claim.prices claim.cost) (sym (told-cuts claim.instance claim.cuts)) reached

-- ---- cuts

neither : (t : Bool) {u : Bool} → u ≡ false → (t && u) ≡ false
neither true e = e
neither false e = refl

pub first-more : (shown : List ChamberCut) (cuts : List Cut) → length cuts < length shown → are_first_cuts (map told_cut shown) cuts ≡ false
first-more [] cuts more = absurd (omega (arith, more))
first-more (x ∷ xs) [] more = refl
first-more (x ∷ xs) (d ∷ ds) more = neither (nat_eq x.chamber d.chamber && pointwise nat_eq x.ships d.ships) (first-more xs ds (omega (arith, more)))

pub first-told : (shown : List ChamberCut) (cuts : List Cut) → length shown ≤ length cuts → pointwise same_cut shown (take (length shown) (map bare_cut cuts)) ≡ are_first_cuts (map told_cut shown) cuts
first-told [] cuts within = refl
first-told (x ∷ xs) [] within = absurd (omega (arith, within))
first-told (x ∷ xs) (d ∷ ds) within = ap (λ rest. nat_eq x.chamber d.chamber && pointwise nat_eq x.ships d.ships && rest) (first-told xs ds (omega (arith, within)))

-- ---- instances and nodes

pub told-instance : (r : Bool) (I J : Instance) → Decides r (I ≡ J) → r ≡ same_instance I J
told-instance r I J decides = same_from_decides r (same_instance I J) decides (instance_decides I J)

pub told-node : (r : Bool) (m n : Node) (t : Node) → Decides r (m ≡ n) → n ≡ t → r ≡ same_node m t
told-node r m n t decides is =
    same_from_decides r (same_node m t) decides
    (Decides-like (same_node m t) (λ e. e ∙ sym is) (λ e. e ∙ is) (same_node-decides m t))

-- ---- the four tests, one after the other

abbrev pub all_four : Bool → Bool → Bool → Bool → Bool
all_four i n p f = i && n && p && f

-- ---- why a slot isn't closed by prices

module _ (b : Book) (id number : ℕ) (shown : Shown) where
  abbrev pub refusal : Option (machine.Reply BrokenPlan)
  refusal = price_refusal b id number shown (slice_get b.prices number)

  pub no-prices : slice_get b.prices number ≡ None → refusal ≡ Some (machine.NoPrices number)
  no-prices none = ap (price_refusal b id number shown) none

  module _ (prices : PriceList) (there : slice_get b.prices number ≡ Some prices) where
    abbrev tested : Bool → Option (machine.Reply BrokenPlan)
    tested t = cond (not t) (Some machine.NotShown) (cheaper_than (best_cost b) shown.cost)

    pub not-shown : is_shown b id prices shown ≡ false → refusal ≡ Some machine.NotShown
    not-shown e = ap (price_refusal b id number shown) there ∙ ap tested e

    was-shown : is_shown b id prices shown ≡ true → refusal ≡ cheaper_than (best_cost b) shown.cost
    was-shown e = ap (price_refusal b id number shown) there ∙ ap tested e

    module _ (shown_is : is_shown b id prices shown ≡ true) (may : may_close b id ≡ true) (cost : ℕ) (cost_is : cost ≡ shown.cost) where
      asked : refusal ≡ cheaper_than (best_cost b) cost
      asked = was-shown shown_is ∙ ap (cheaper_than (best_cost b)) (sym cost_is)

      pub shown-sound : IsShown shown → IsSound b → best_cost b ≤ cost → IsSound (closed b id (by.Price number))
      shown-sound owed sound = asked-sound b id (by.Price number) (close_price id number shown) refusal refl tt may cost asked sound owed

      pub shown-answers : (r : Reply) (new : Book) → IsShutAt b id (by.Price number) cost r new → Answers b (close_price id number shown) r new
      shown-answers = asked-answers b id (by.Price number) (close_price id number shown) refusal refl tt may cost asked
