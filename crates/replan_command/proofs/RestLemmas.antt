-- The rest that is asked for, and the kept plan that serves all ships.
use Rattle.std.proofs.Common.{◌≡◌, ◌↔◌, ℕ, ◌<◌, ◌≤◌, [], length, IfSome, IsNone, not, get_or, All, nat_eq, inl, inr, refl, sym, ap, ◌∙◌, subst, arith, sum_by}
use Rattle.std.proofs.lemmas.Bool.Decides.{leb_tells}
use Rattle.std.proofs.lemmas.List.Filters.{sum_by-filter_both}
use Rattle.lock_model.specs.Fleet.{ship_at, chamber_at, no_ship}
use Rattle.lock_model.specs.Fitting.{FitsAlone}
use Rattle.lock_model.specs.declared.chamber.Chamber.{Chamber}
use Rattle.lock_model.specs.declared.instance.Instance.{Instance}
use Rattle.lock_model.specs.declared.plan.Plan.{Plan}
use Rattle.lock_rules.specs.Arrival.{numbers_from}
use Rattle.lock_rules.specs.Lines.{line_of}
use Rattle.lock_rules.specs.Plan.{times_in, served_in, IsLegal, IsCheapest, flow_in, cost_of}
use Rattle.lock_rules.specs.Unfit.{HasNoUnfit}
use Rattle.lock_rules.proofs.CountLemmas.{times_in-between}
use Rattle.lock_rules.proofs.LineLemmas.{sum_by-each, sum_by-lines, All-line}
use Rattle.lock_rules.proofs.LegalLemmas.{legal-chambers}
use Rattle.command_words.specs.declared.commands.DayRest.{DayRest}
use Rattle.command_words.specs.declared.commands.DayRest.TheVariants.{Known, Lived}
use Rattle.replan.specs.declared.remainder.Residual.{Residual}
use Rattle.replan.specs.GoingOn.{StayCheapestAsLived}
use Rattle.replan.specs.Kept.{starts_before, kept_of, CanBeKept}
use Rattle.replan.specs.Lived.{CanBeLived, IsLivedRest}
use Rattle.replan.specs.Rest.{ships_left, from_minute, added_of, IsRest}
use Rattle.replan.specs.Together.{number_of, joined, Keeps, StayCheapest}
use Rattle.replan.proofs.AheadLemmas.{gone-on, kept-goes_on}
use Rattle.replan.proofs.LeftLemmas.{left-known}
use Rattle.replan.proofs.LivedLemmas.{lived-count, ships-count, known_rest, is-known_rest, known-ships, known-count, known-lived}
use Rattle.replan.proofs.RenumberLemmas.{times_in-filter, rest-chambers, rest-ships, chamber-rest, ship-rest}
use Rattle.replan.proofs.JoinLemmas.{all-before, kept-early, legal-joined, keeps-joined}
use Rattle.replan_command.specs.Keeping.{IsCheapestKeeping}
use Rattle.replan_command.specs.Rests.{minute_of, kept_for, CanKeep, IsRestFor, IsLeftFor}

-- each ship of the rest fits some chamber, since chambers and ships keep their sizes
rest_fits : (I R : Instance) (K : Plan) (M : ℕ) → IsRest I K M R → HasNoUnfit I → HasNoUnfit R
rest_fits I R K M rest fit = record {
  fit = λ s known.
      let n : ℕ = number_of (ships_left I K) s in
      let here : s < length (ships_left I K) = subst (λ n. s < n) (rest-ships I R K M rest) known in
      let own = fit.fit n (left-known I K s 0 here) in
      let whole : FitsAlone (chamber_at R own.chamber) (from_minute M (ship_at I n)) = subst (λ (c : Chamber). FitsAlone c (from_minute M (ship_at I n))) (sym (chamber-rest I R K M rest own.chamber own.known)) own.fits in
      record {
        chamber = own.chamber;
        known = subst (λ n. own.chamber < n) (sym (rest-chambers I R K M rest)) own.known;
        fits = subst (FitsAlone (chamber_at R own.chamber)) (sym (ship-rest I R K M rest s here)) whole;
      };
}

-- ---- the kept plan serves all ships

all_served : (I : Instance) (K : Plan) → CanBeKept I K → ships_left I K ≡ [] → (s : ℕ) → s < length I.ships → served_in K.lockages s ≡ 1
all_served I K can done s known = elim (leb_tells 1 (served_in K.lockages s)) [
  | inl some ↦ omega (arith, some.1, can.legal.once s known)
  | inr none ↦
      let zero : served_in K.lockages s ≡ 0 = omega (arith, none.1) in
      let found : times_in (ships_left I K) s ≡ 1 = times_in-filter (λ s. nat_eq (served_in K.lockages s) 0) (numbers_from 0 (length I.ships)) s (ap (λ n. nat_eq n 0) zero) ∙ times_in-between 0 (length I.ships) s (omega arith) (omega (arith, known)) in
      absurd (omega (arith, found, ap (λ ns. times_in ns s) done))
]

all_kept_legal : (I : Instance) (K : Plan) → CanBeKept I K → ships_left I K ≡ [] → IsLegal I K
all_kept_legal I K can done = record { once = all_served I K can done; lockage = can.legal.lockage; timely = can.legal.timely }

-- a plan that keeps the kept plan costs no less than that
costs_no_less : (I : Instance) (K P : Plan) (M : ℕ) → IsLegal I K → IsLegal I P → Keeps K M P → cost_of I K ≤ cost_of I P
costs_no_less I K P M kept legal keeps =
    let m = length I.chambers in
    omega (
      arith,
      sum_by-lines (flow_in I) m K (legal-chambers I K kept),
      sum_by-lines (flow_in I) m P (legal-chambers I P legal),
      sum_by-each (λ c. sum_by (flow_in I) (line_of K c)) (λ c. sum_by (flow_in I) (line_of P c)) (numbers_from 0 m) (λ k d within. on_line (get_or (numbers_from 0 m) k d)),
    )
  where
    on_line : (c : ℕ) → sum_by (flow_in I) (line_of K c) ≤ sum_by (flow_in I) (line_of P c)
    on_line c = omega (arith, ap (sum_by (flow_in I)) (keeps.lines c), sum_by-filter_both (starts_before M) (λ l. not (starts_before M l)) (λ l. refl) (flow_in I) (line_of P c))

keeps_itself : (K : Plan) (M : ℕ) → All (λ l. l.start < M) K.lockages → Keeps K M K
keeps_itself K M early = record { lines = λ c. all-before M (line_of K c) (All-line (λ l. l.start < M) K c early) }

-- ---- the rest that is asked for

module _ (I : Instance) (G : Plan) where
  pub for_chambers : (D : DayRest) (R : Instance) → CanKeep I G D → IsRestFor I G D R → length R.chambers ≡ length I.chambers
  for_chambers (Known M) R can rest = rest-chambers I R (kept_of G M) M rest
  for_chambers (Lived M) R can rest = lived-count I R G M can rest

  pub for_ships : (D : DayRest) (R : Instance) → CanKeep I G D → IsRestFor I G D R → length R.ships ≡ length (ships_left I (kept_for G D))
  for_ships (Known M) R can rest = rest-ships I R (kept_of G M) M rest
  for_ships (Lived M) R can rest = ships-count I R G M can rest

  lived_fits : (M : ℕ) (R : Instance) → CanBeLived I G M → IsLivedRest I G M R → HasNoUnfit I → HasNoUnfit R
  lived_fits M R can rest fit =
      let J = known_rest I R G M can rest in
      let there : HasNoUnfit J = rest_fits I J (kept_of G M) M (is-known_rest I R G M can rest) fit in
      record {
        fit = λ s known.
            let own = there.fit s (subst (λ xs. s < length xs) (known-ships I R G M can rest) known) in
            let ship : FitsAlone (chamber_at J own.chamber) (ship_at R s) = subst (λ xs. FitsAlone (chamber_at J own.chamber) (get_or xs s no_ship)) (sym (known-ships I R G M can rest)) own.fits in
            record {
              chamber = own.chamber;
              known = subst (λ n. own.chamber < n) (sym (known-count I R G M can rest)) own.known;
              fits = subst (λ (c : Chamber). FitsAlone c (ship_at R s)) (known-lived I R G M can rest own.chamber own.known) ship;
            };
      }

  -- each ship of the rest fits some chamber
  pub for_fits : (D : DayRest) (R : Instance) → CanKeep I G D → IsRestFor I G D R → HasNoUnfit I → HasNoUnfit R
  for_fits (Known M) R can rest fit = rest_fits I R (kept_of G M) M rest fit
  for_fits (Lived M) R can rest fit = lived_fits M R can rest fit

  -- the kept plan is cheapest of those that go on, where it serves all ships
  pub done_cheapest : (D : DayRest) → CanKeep I G D → ships_left I (kept_for G D) ≡ [] → IsCheapestKeeping I G D (kept_for G D)
  done_cheapest (Known M) can done =
      let legal = all_kept_legal I (kept_of G M) can done in
      record {
        legal = legal;
        goes_on = keeps_itself (kept_of G M) M (kept-early G M);
        least = λ P whole keeps. costs_no_less I (kept_of G M) P M legal whole keeps;
      }
  done_cheapest (Lived M) can done =
      let legal = all_kept_legal I (kept_of G M) can.kept done in
      record {
        legal = legal;
        goes_on = kept-goes_on I G M can legal (keeps_itself (kept_of G M) M (kept-early G M));
        least = λ P whole go. costs_no_less I (kept_of G M) P M legal whole go.keeps;
      }

  -- ---- a plan of the rest is put together with the kept plan

  -- a cheapest plan of the rest makes a cheapest one
  pub joined_cheapest : StayCheapest → StayCheapestAsLived → (D : DayRest) (R : Instance) (Q : Plan) → CanKeep I G D → IsRestFor I G D R → IsCheapest R Q
      → IsCheapestKeeping I G D (joined (kept_for G D) (ships_left I (kept_for G D)) Q)
  joined_cheapest law as_lived (Known M) R Q can rest cheapest = record {
    legal = legal-joined I R (kept_of G M) M rest can.legal (kept-early G M) Q cheapest.legal;
    goes_on = keeps-joined I R (kept_of G M) M rest can.legal (kept-early G M) Q cheapest.legal;
    least = λ P legal keeps. law I R G M can rest Q P cheapest legal keeps;
  }
  joined_cheapest law as_lived (Lived M) R Q can rest cheapest =
      let gone = gone-on I R G M can rest Q cheapest.legal in
      record { legal = gone.legal; goes_on = gone.can; least = λ P legal go. as_lived I R G M can rest Q P cheapest legal go }

  -- ---- what is left

  module _ (r : Residual) where
    pub left_can : (D : DayRest) → IsLeftFor I G D r → CanKeep I G D
    left_can (Known M) left = left.can
    left_can (Lived M) left = left.can

    pub left_kept : (D : DayRest) → IsLeftFor I G D r → r.kept ≡ kept_for G D
    left_kept (Known M) left = left.kept
    left_kept (Lived M) left = left.kept

    pub left_numbers : (D : DayRest) → IsLeftFor I G D r → r.numbers ≡ ships_left I (kept_for G D)
    left_numbers (Known M) left = left.numbers
    left_numbers (Lived M) left = left.numbers

    pub left_rest : (D : DayRest) → IsLeftFor I G D r → IfSome r.rest (IsRestFor I G D)
    left_rest (Known M) left = left.rest
    left_rest (Lived M) left = left.rest

    pub left_done : (D : DayRest) → IsLeftFor I G D r → IsNone r.rest ↔ (ships_left I (kept_for G D) ≡ [])
    left_done (Known M) left = left.done
    left_done (Lived M) left = left.done

    pub left_added : (D : DayRest) → IsLeftFor I G D r → r.added ≡ added_of I (kept_for G D) (minute_of D)
    left_added (Known M) left = left.added
    left_added (Lived M) left = left.added
