-- What is left of an instance, and what a search of it shows of the whole plan.
use Rattle.std.proofs.Common.{◌≡◌, ℕ, ◌+◌, ◌<◌, ◌≤◌, List, [], ◌∷◌, length, map, get_or, All, Bool, true, false, true≢false, Option, Some, None, IfSome, IsNone, is_some, nat_eq, inl, inr, refl, sym, ap, ◌∙◌, subst, arith}
use Rattle.std.specs.List.Sorted.{IsStrictlyIncreasing}
use Rattle.std.proofs.lemmas.List.Elements.{All-map}
use Rattle.lock_model.specs.declared.instance.Instance.{Instance}
use Rattle.lock_model.specs.declared.plan.Plan.{Plan}
use Rattle.lock_model.specs.declared.verdict.Verdict.{Verdict}
use Rattle.lock_model.specs.declared.verdict.Verdict.TheVariants.{Optimal, OpenNodes, OpenTurns}
use Rattle.lock_rules.specs.Plan.{served_in, IsLegal, IsCheapest, cost_of}
use Rattle.lock_rules.specs.Singles.{singles_of}
use Rattle.lock_rules.specs.Unfit.{HasNoUnfit}
use Rattle.book_rules.specs.Book.{Book}
use Rattle.book_rules.specs.Ends.{IsEnd}
use Rattle.book_rules.specs.Verdict.{verdict_of}
use Rattle.book_core.specs.Keeps.{IsSound}
use Rattle.plan_print.specs.Report.{IsOfInstance, report}
use Rattle.command_words.specs.declared.commands.DayRest.{DayRest}
use Rattle.command_words.specs.declared.commands.ReplanOptions.{ReplanOptions}
use Rattle.replan.specs.declared.remainder.Residual.{Residual}
use Rattle.replan.specs.GoingOn.{StayCheapestAsLived}
use Rattle.replan.specs.Rest.{ships_left, added_of}
use Rattle.replan.specs.Together.{number_of, joined, StayCheapest}
use Rattle.replan.proofs.LeftLemmas.{left-known}
use Rattle.replan.proofs.ListLemmas.{filtered-rise}
use Rattle.run_answers.specs.declared.status.Status.{Status}
use Rattle.solve_commands.specs.Searching.{PrintsDossier, Ended, status_of}
use Rattle.solve_commands.specs.Solving.{search_of}
use Rattle.replan_command.specs.Keeping.{IsCheapestKeeping, PrintsKeeping, PrintsRestDossier, PrintsBestAs, PrintsBestKeeping, prints_dossier, IsPutTogether, in_whole}
use Rattle.replan_command.specs.Searches.{IsLeftOf, HasSearched, IsToldBelow}
use Rattle.replan_command.specs.Replanning.{AnswersKept}
use Rattle.replan_command.specs.Rests.{minute_of, kept_for, CanKeep, IsRestFor, IsLeftFor, GoesOnFrom}
use Rattle.replan_command.proofs.RestLemmas.{for_chambers, for_ships, for_fits, done_cheapest, joined_cheapest, left_can, left_kept, left_numbers, left_rest, left_done, left_added}

-- what is left of some plan is left
pub left_is : (I : Instance) (G : Plan) (D : DayRest) (r : Residual) → IsLeftFor I G D r → IsLeftOf I D r
left_is I G D r left = record { given = G; left = left }

-- ---- no ship is left

module _ (I : Instance) (G : Plan) (D : DayRest) (r : Residual) (left : IsLeftFor I G D r) (none : r.rest ≡ None) where
  no_ships : ships_left I (kept_for G D) ≡ []
  no_ships =
      let here : IsNone r.rest = subst IsNone (sym none) refl in
      (left_done I G r D left).0 here

  kept_cheapest : IsCheapestKeeping I G D (kept_for G D)
  kept_cheapest = done_cheapest I G D (left_can I G r D left) no_ships

  kept_legal : IsLegal I r.kept
  kept_legal = subst (IsLegal I) (sym (left_kept I G r D left)) kept_cheapest.legal

  -- the report of the kept plan is printed, whether a dossier is asked for or not
  pub done_prints : (asked : Bool) (text : List ℕ) → text ≡ report I r.kept Optimal → PrintsBestKeeping asked I G D text
  done_prints asked text shown =
      subst (λ ns. PrintsBestAs (prints_dossier asked ns) I G D text) (sym no_ships) (record {
        plan = kept_for G D;
        cheapest = kept_cheapest;
        shown = shown ∙ ap (λ K. report I K Optimal) (left_kept I G r D left);
      })

pub done_legal : (I : Instance) (D : DayRest) (r : Residual) → IsLeftOf I D r → r.rest ≡ None → IsLegal I r.kept
done_legal I D r of none = kept_legal I of.given D r of.left none

-- ---- a rest is left

rest_in : (I : Instance) (G : Plan) (D : DayRest) (o : Option Instance) (R : Instance) → o ≡ Some R → IfSome o (IsRestFor I G D) → IsRestFor I G D R
rest_in I G D o R is rest = subst (λ o. IfSome o (IsRestFor I G D)) is rest

some_not_none : (o : Option Instance) (R : Instance) → o ≡ Some R → IsNone o → ⊥
some_not_none o R is none = true≢false (sym (ap is_some is) ∙ none)

module _ (I : Instance) (G : Plan) (D : DayRest) (r : Residual) (left : IsLeftFor I G D r) (R : Instance) (is : r.rest ≡ Some R) where
  the_rest : IsRestFor I G D R
  the_rest = rest_in I G D r.rest R is (left_rest I G r D left)

  -- a dossier is printed where one is asked for
  by_asked : (asked : Bool) (ns : List ℕ) → (ns ≡ [] → ⊥) → prints_dossier asked ns ≡ asked
  by_asked asked [] some = absurd (some refl)
  by_asked asked (n ∷ ns) some = refl

  pub asked_dossier : (asked : Bool) → prints_dossier asked (ships_left I (kept_for G D)) ≡ asked
  asked_dossier asked = by_asked asked (ships_left I (kept_for G D)) (λ empty. some_not_none r.rest R is ((left_done I G r D left).1 empty))

  left_cheapest : StayCheapest → StayCheapestAsLived → (Q : Plan) → IsCheapest R Q → IsCheapestKeeping I G D (joined (kept_for G D) (ships_left I (kept_for G D)) Q)
  left_cheapest law as_lived Q cheapest = joined_cheapest I G law as_lived D R Q (left_can I G r D left) the_rest cheapest

  pub left_prints : StayCheapest → StayCheapestAsLived → (text : List ℕ) → PrintsDossier R text → PrintsRestDossier I G D text
  left_prints law as_lived text prints = record { rest = R; is_rest = the_rest; prints = prints; cheapest = left_cheapest law as_lived prints.certificate.plan prints.cheapest }

-- of some plan
module _ (I : Instance) (D : DayRest) (r : Residual) (of : IsLeftOf I D r) (R : Instance) (is : r.rest ≡ Some R) where
  numbers_left : r.numbers ≡ ships_left I (kept_for of.given D)
  numbers_left = left_numbers I of.given r D of.left

  rest_left : IsRestFor I of.given D R
  rest_left = the_rest I of.given D r of.left R is

  can_left : CanKeep I of.given D
  can_left = left_can I of.given r D of.left

  pub left_fits : HasNoUnfit I → HasNoUnfit R
  left_fits fit = for_fits I of.given D R can_left rest_left fit

  pub left_rising : IsStrictlyIncreasing r.numbers
  left_rising = subst IsStrictlyIncreasing (sym numbers_left) (filtered-rise (λ s. nat_eq (served_in (kept_for of.given D).lockages s) 0) (length I.ships))

  -- the ships that the verdict names have numbers, and its lower bound is below the cost
  pub told_below : (nodes turns limit : ℕ) (Q P : Plan) (V : Verdict) → cost_of I P ≡ cost_of R Q + r.added → IsEnd R nodes turns limit Q V → IsOfInstance R V → IsToldBelow (cost_of I P) r.numbers r.added V
  told_below nodes turns limit Q P Optimal cost end known = tt
  told_below nodes turns limit Q P (OpenNodes used low) cost end known = omega (arith, cost, end.lower.below)
  told_below nodes turns limit Q P (OpenTurns chamber ships given low) cost end known =
      (subst (λ n. All (λ s. s < n) ships) (for_ships I of.given D R can_left rest_left ∙ ap length (sym numbers_left)) known.1, omega (arith, cost, end.lower.below))

  -- the chamber and the ships are in the instance
  pub whole_known : (V : Verdict) → IsOfInstance R V → IsOfInstance I (in_whole r.numbers r.added V)
  whole_known Optimal known = tt
  whole_known (OpenNodes used low) known = tt
  whole_known (OpenTurns chamber ships given low) known = (
    subst (λ n. chamber < n) (for_chambers I of.given D R can_left rest_left) known.0,
    subst (λ ns. All (λ s. s < length I.ships) (map (number_of ns) ships)) (sym numbers_left)
        (All-map (λ s. s < length I.ships) (number_of (ships_left I (kept_for of.given D))) ships (λ k d within. left-known I (kept_for of.given D) (get_or ships k d) 0 (subst (λ n. get_or ships k d < n) (for_ships I of.given D R can_left rest_left) (known.1 k d within)))),
  )

-- the search of the rest that ended
abbrev pub rest_ended : (options : ReplanOptions) (b : Book) → IsSound b → HasSearched options b → Ended (search_of options.nodes options.turns b.case.instance)
rest_ended options b sound searched = record {
  book = b;
  sound = sound;
  well = searched.well;
  of = ap (λ nodes. search_of nodes b.case.turns b.case.instance) searched.nodes ∙ ap (λ turns. search_of options.nodes turns b.case.instance) searched.turns;
}

-- what is answered to its verdict on its best plan
module _ (I : Instance) (options : ReplanOptions) (r : Residual) (G : Plan) (left : IsLeftFor I G options.rest r) (R : Instance) (is : r.rest ≡ Some R) (law : StayCheapest) (as_lived : StayCheapestAsLived) where
  abbrev K : Plan
  K = kept_for G options.rest

  pub whole_answers : (e : Ended (search_of options.nodes options.turns R)) (P : Plan) (V : Verdict) (status : Status) (text : List ℕ)
      → verdict_of e.book ≡ V → IsEnd R options.nodes options.turns (singles_of R) e.book.best V
      → IsLegal I P → GoesOnFrom I G options.rest P → cost_of I P ≡ cost_of R e.book.best + r.added → P ≡ joined r.kept r.numbers e.book.best
      → status ≡ status_of V → text ≡ report I P (in_whole r.numbers r.added V) → AnswersKept (PrintsKeeping I G options.rest) options I G status text
  whole_answers e P V status text is_verdict end legal goes_on cost same shows shown =
      let D = options.rest in
      subst (λ s. AnswersKept (PrintsKeeping I G D) options I G s text) (sym shows)
      (by_verdict V is_verdict end (shown ∙ (λ i. report I P (in_whole (left_numbers I G r D left i) (left_added I G r D left i) V))))
    where
      whole : P ≡ joined K (ships_left I K) e.book.best
      whole = same ∙ (λ i. joined (left_kept I G r options.rest left i) (left_numbers I G r options.rest left i) e.book.best)

      together : IsPutTogether I G options.rest R e.book.best P
      together = record {
        is_rest = the_rest I G options.rest r left R is;
        same = whole;
        legal = legal;
        goes_on = goes_on;
        cost = cost ∙ ap (λ n. cost_of R e.book.best + n) (left_added I G r options.rest left);
      }

      by_verdict : (V : Verdict) → verdict_of e.book ≡ V → IsEnd R options.nodes options.turns (singles_of R) e.book.best V
          → text ≡ report I P (in_whole (ships_left I K) (added_of I K (minute_of options.rest)) V)
          → AnswersKept (PrintsKeeping I G options.rest) options I G (status_of V) text
      by_verdict Optimal told end shown =
          record { plan = P; cheapest = subst (IsCheapestKeeping I G options.rest) (sym whole) (left_cheapest I G options.rest r left R is law as_lived e.book.best end.cheapest); shown = shown }
      by_verdict (OpenNodes used low) told end shown = inl (record { rest = R; ended = e; plan = P; together = together; used = used; low = low; verdict = told; left = end; shown = shown })
      by_verdict (OpenTurns chamber ships given low) told end shown =
          inr (record { rest = R; ended = e; plan = P; together = together; chamber = chamber; ships = ships; spent = given; low = low; verdict = told; left = end; shown = shown })

-- a number below a small bound can be raised
pub told_more : (less more : ℕ) (ns : List ℕ) (added : ℕ) (V : Verdict) → less ≤ more → IsToldBelow less ns added V → IsToldBelow more ns added V
told_more less more ns added Optimal small told = told
told_more less more ns added (OpenNodes used low) small told = omega (arith, told, small)
told_more less more ns added (OpenTurns chamber ships given low) small told = (told.0, omega (arith, told.1, small))
