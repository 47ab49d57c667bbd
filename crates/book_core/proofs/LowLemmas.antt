-- A cost that was shown of a slot is kept.
use Rattle.std.proofs.Common.{◌≡◌, ℕ, ◌<◌, refl, sym, ap, ◌∙◌, subst, Bool, true, false, not, cond, slice_get, nat_le, Some, None}
use Rattle.std.proofs.lemmas.Bool.{le-leb, lt-leb, not_from_false, not_from_true}
use Rattle.std.specs.declared.option.Option.{Option}
use Rattle.mooring_rules.specs.declared.breaks.BrokenPlan.{BrokenPlan}
use Rattle.price_rules.specs.Prices.{PriceList}
use Rattle.book_rules.specs.declared.book.ShownLow.{ShownLow}
use Rattle.book_rules.specs.Book.{Book, slot_at, slot_low, is_live}
use Rattle.book_rules.specs.Events as machine
use Rattle.book_rules.specs.Events.{show_low}
use Rattle.book_rules.specs.Shown.{Shown, IsShown}
use Rattle.book_rules.specs.Step.{step, is_shown, low_refusal, low_shown, show_unless}
use Rattle.book_core.specs.declared.reply.Reply.{Reply}
use Rattle.book_core.specs.declared.reply.Reply.TheVariants as reply
use Rattle.book_core.specs.declared.reply.Refusal.TheVariants as refusing
use Rattle.book_core.specs.Keeps.{IsSound}
use Rattle.book_core.specs.Replies.{told, Does, Steps, Stays, IsLowAt, IsLower, IsHigher, IsUnkept}
use Rattle.book_core.proofs.CloseLemmas.{Out, none, pick-true, pick-false}
use Rattle.book_core.proofs.SoundLemmas.{step-sound}

module _ (b : Book) (id number : ℕ) (shown : Shown) where
  abbrev low : ShownLow
  low = record { prices = number; cost = shown.cost }

  abbrev known : ℕ
  known = slot_low (slot_at b id)

  abbrev refusal : Option (machine.Reply BrokenPlan)
  refusal = low_refusal b id number shown (slice_get b.prices number)

  abbrev not_held : Out
  not_held = (b, machine.NotHeld id)

  pub low-missed : is_live (slot_at b id).state ≡ false → Does b (show_low id number shown) (reply.Refused (refusing.NotHeld id)) b
  low-missed missing = Steps (record {
    found = None;
    judged = tt;
    answer = machine.NotHeld id;
    said = refl;
    same = pick-true (not (is_live (slot_at b id).state)) not_held (show_unless b id low refusal) (not_from_false (is_live (slot_at b id).state) missing);
  })

  module _ (live : is_live (slot_at b id).state ≡ true) where
    past-live : step (λ _ _. none) b (show_low id number shown) ≡ show_unless b id low refusal
    past-live = pick-false (not (is_live (slot_at b id).state)) not_held (show_unless b id low refusal) (not_from_true (is_live (slot_at b id).state) live)

    refused-so : (r : Reply) (o : machine.Reply BrokenPlan) (new : Book) → told r ≡ Some o → refusal ≡ Some o → new ≡ b → Does b (show_low id number shown) r new
    refused-so r o new said why same = Steps (record {
      found = None;
      judged = tt;
      answer = o;
      said = said;
      same = past-live ∙ ap (show_unless b id low) why ∙ ap (λ (u : Book). (u, o)) (sym same);
    })

    pub low-unpriced : slice_get b.prices number ≡ None → Does b (show_low id number shown) (reply.Refused (refusing.NoPrices number)) b
    low-unpriced without = refused-so (reply.Refused (refusing.NoPrices number)) (machine.NoPrices number) b refl (ap (low_refusal b id number shown) without) refl

    module _ (prices : PriceList) (there : slice_get b.prices number ≡ Some prices) where
      abbrev compared : Bool → Option (machine.Reply BrokenPlan)
      compared t = cond t (Some (machine.Lower shown.cost known)) None

      abbrev tested : Bool → Option (machine.Reply BrokenPlan)
      tested t = cond (not t) (Some machine.NotShown) (compared (nat_le shown.cost known))

      pub low-unshown : is_shown b id prices shown ≡ false → Does b (show_low id number shown) (reply.Refused refusing.NotShown) b
      low-unshown e = refused-so (reply.Refused refusing.NotShown) machine.NotShown b refl (ap (low_refusal b id number shown) there ∙ ap tested e) refl

      module _ (shown_is : is_shown b id prices shown ≡ true) where
        asked : refusal ≡ compared (nat_le shown.cost known)
        asked = ap (low_refusal b id number shown) there ∙ ap tested shown_is

        accepted : known < shown.cost → step (λ _ _. none) b (show_low id number shown) ≡ (low_shown b id low, machine.LowShown)
        accepted higher = past-live ∙ ap (show_unless b id low) (asked ∙ ap compared (lt-leb shown.cost known higher))

        own-sound : IsShown shown → IsSound b → known < shown.cost → IsSound (low_shown b id low)
        own-sound owed sound higher = subst IsSound (ap (λ (o : Out). o.0) (accepted higher)) (step-sound b (show_low id number shown) None sound owed tt)

        own-answers : (r : Reply) (new : Book) → IsLowAt b id low r new → Does b (show_low id number shown) r new
        own-answers r new (IsLower lower is same) =
            refused-so r (machine.Lower shown.cost known) new (ap told is) (asked ∙ ap compared (le-leb shown.cost known lower)) same
        own-answers r new (IsHigher higher is same) = Steps (record {
          found = None;
          judged = tt;
          answer = machine.LowShown;
          said = ap told is;
          same = accepted higher ∙ ap (λ (u : Book). (u, machine.LowShown)) (sym same);
        })
        own-answers r new (IsUnkept is same) = Stays (record { want = is; same = same })

        module _ (cost : ℕ) (cost_is : cost ≡ shown.cost) where
          abbrev low_of_cost : ℕ → ShownLow
          low_of_cost n = record { prices = number; cost = n }

          pub low-sound : IsShown shown → IsSound b → known < cost → IsSound (low_shown b id (low_of_cost cost))
          low-sound owed sound = subst (λ n. known < n → IsSound (low_shown b id (low_of_cost n))) (sym cost_is) (own-sound owed sound)

          pub low-answers : (r : Reply) (new : Book) → IsLowAt b id (low_of_cost cost) r new → Does b (show_low id number shown) r new
          low-answers r new h = own-answers r new (subst (λ n. IsLowAt b id (low_of_cost n) r new) cost_is h)
