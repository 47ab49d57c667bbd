-- What a plan that is put together costs, and how many lockages it has.
use Rattle.std.proofs.Common.{◌≡◌, ℕ, ◌+◌, ◌-◌, ◌<◌, ◌≤◌, List, [], ◌∷◌, length, map, All, inl, inr, refl, sym, ap, ◌∙◌, subst, arith, sum_by}
use Rattle.std.proofs.lemmas.Bool.Decides.{leb_tells}
use Rattle.std.proofs.lemmas.List.Elements.{All-head, All-tail, All-weaker}
use Rattle.std.proofs.lemmas.List.Sums.{sum_by-cons, sum_by-append}
use Rattle.lock_model.specs.Fleet.{ship_at}
use Rattle.lock_model.specs.declared.ship.Ship.{Ship}
use Rattle.lock_model.specs.declared.instance.Instance.{Instance}
use Rattle.lock_model.specs.declared.plan.Lockage.{Lockage}
use Rattle.lock_model.specs.declared.plan.Plan.{Plan}
use Rattle.lock_rules.specs.Arrival.{numbers_from}
use Rattle.lock_rules.specs.Lines.{end_of}
use Rattle.lock_rules.specs.Plan.{IsLegal, flow_in, cost_of}
use Rattle.lock_rules.proofs.CountLemmas.{ships_in, times_in-ships_in, served_in-outside, times_in-between, times_in-above, sum_by-counts}
use Rattle.lock_rules.proofs.LineLemmas.{length-numbers}
use Rattle.lock_rules.proofs.LegalLemmas.{legal-chambers, legal-ships, legal-arrived}
use Rattle.lock_rules.proofs.ThroughputLemmas.{few_lockages, sum_by-numbers, length-sum}
use Rattle.replan.specs.Rest.{ships_left, delay_of, added_of, IsRest}
use Rattle.replan.specs.Together.{number_of, renumbered, joined}
use Rattle.replan.proofs.RenumberLemmas.{rest-chambers, rest-ships, ship-rest, duration-rest}

sum_by-ships : (f : ℕ → ℕ) (ls : List Lockage) → sum_by (λ l. sum_by f l.ships) ls ≡ sum_by f (ships_in ls)
sum_by-ships f [] = refl
sum_by-ships f (l ∷ ls) = omega (arith, sum_by-cons (λ (l : Lockage). sum_by f l.ships) l ls, sum_by-ships f ls, sum_by-append f l.ships (ships_in ls))

-- a sum over the ships that a legal plan serves
sum_by-legal : (f : ℕ → ℕ) (I : Instance) (P : Plan) → IsLegal I P → sum_by (λ l. sum_by f l.ships) P.lockages ≡ sum_by f (numbers_from 0 (length I.ships))
sum_by-legal f I P legal =
    sum_by-ships f P.lockages
    ∙ sum_by-counts f (ships_in P.lockages) (numbers_from 0 (length I.ships)) (λ s. elim (leb_tells (length I.ships) s) [
      | inl past ↦ times_in-ships_in P.lockages s ∙ served_in-outside (length I.ships) P.lockages s (legal-ships I P legal) past.1 ∙ sym (times_in-above 0 (length I.ships) s (omega (arith, past.1)))
      | inr here ↦ times_in-ships_in P.lockages s ∙ legal.once s here.1 ∙ sym (times_in-between 0 (length I.ships) s (omega arith) (omega (arith, here.1)))
    ])

-- a legal plan has no more lockages than ships
pub few : (I : Instance) (P : Plan) → IsLegal I P → length P.lockages ≤ length I.ships
few I P legal =
    let one : ℕ → ℕ = λ s. 1 in
    let ships : sum_by (λ l. length l.ships) P.lockages ≡ sum_by (λ l. sum_by one l.ships) P.lockages = λ i. sum_by (λ (l : Lockage). length-sum l.ships i) P.lockages in
    omega (
      arith,
      few_lockages I P.lockages legal.lockage,
      ships,
      sum_by-legal one I P legal,
      sym (length-sum (numbers_from 0 (length I.ships))),
      length-numbers 0 (length I.ships),
    )

module _ (I R : Instance) (K : Plan) (M : ℕ) (rest : IsRest I K M R) where
  flow-ships : (end : ℕ) (ss : List ℕ) → All (λ s. s < length (ships_left I K)) ss → All (λ s. (ship_at R s).arrival ≤ end) ss
      → sum_by (λ s. end - (ship_at I s).arrival) (map (number_of (ships_left I K)) ss) ≡ sum_by (λ s. end - (ship_at R s).arrival) ss + sum_by (λ s. delay_of I M (number_of (ships_left I K) s)) ss
  flow-ships end [] known arrived = refl
  flow-ships end (s ∷ ss) known arrived =
      let n = number_of (ships_left I K) s in
      omega (
        arith,
        sum_by-cons (λ s. end - (ship_at I s).arrival) n (map (number_of (ships_left I K)) ss),
        sum_by-cons (λ s. end - (ship_at R s).arrival) s ss,
        sum_by-cons (λ s. delay_of I M (number_of (ships_left I K) s)) s ss,
        ap (λ (x : Ship). x.arrival) (ship-rest I R K M rest s (All-head (λ s. s < length (ships_left I K)) s ss known)),
        All-head (λ s. (ship_at R s).arrival ≤ end) s ss arrived,
        flow-ships end ss (All-tail (λ s. s < length (ships_left I K)) s ss known) (All-tail (λ s. (ship_at R s).arrival ≤ end) s ss arrived),
      )

  flow-lockages : (ls : List Lockage) → All (λ l. l.chamber < length I.chambers) ls → All (λ l. All (λ s. s < length (ships_left I K)) l.ships) ls → All (λ l. All (λ s. (ship_at R s).arrival ≤ l.start) l.ships) ls
      → sum_by (flow_in I) (map (renumbered (ships_left I K)) ls) ≡ sum_by (flow_in R) ls + sum_by (λ l. sum_by (λ s. delay_of I M (number_of (ships_left I K) s)) l.ships) ls
  flow-lockages [] chambers ships arrived = refl
  flow-lockages (l ∷ ls) chambers ships arrived =
      let known = All-head (λ (l : Lockage). All (λ s. s < length (ships_left I K)) l.ships) l ls ships in
      let own = All-head (λ (l : Lockage). All (λ s. (ship_at R s).arrival ≤ l.start) l.ships) l ls arrived in
      let end : end_of R l ≡ end_of I (renumbered (ships_left I K) l) =
      ap (λ n. l.start + n) (duration-rest I R K M rest l.chamber l.ships (All-head (λ (l : Lockage). l.chamber < length I.chambers) l ls chambers) known) in
      let ends : All (λ s. (ship_at R s).arrival ≤ end_of R l) l.ships = All-weaker (λ s. (ship_at R s).arrival ≤ l.start) (λ s. (ship_at R s).arrival ≤ end_of R l) (λ s h. omega (arith, h)) l.ships own in
      let same : flow_in I (renumbered (ships_left I K) l) ≡ sum_by (λ s. end_of R l - (ship_at I s).arrival) (map (number_of (ships_left I K)) l.ships) =
      ap (λ e. sum_by (λ s. e - (ship_at I s).arrival) (map (number_of (ships_left I K)) l.ships)) (sym end) in
      let here : flow_in I (renumbered (ships_left I K) l) ≡ flow_in R l + sum_by (λ s. delay_of I M (number_of (ships_left I K) s)) l.ships = same ∙ flow-ships (end_of R l) l.ships known ends in
      omega (
        arith,
        sum_by-cons (flow_in I) (renumbered (ships_left I K) l) (map (renumbered (ships_left I K)) ls),
        sum_by-cons (flow_in R) l ls,
        sum_by-cons (λ (l : Lockage). sum_by (λ s. delay_of I M (number_of (ships_left I K) s)) l.ships) l ls,
        here,
        flow-lockages ls (All-tail (λ (l : Lockage). l.chamber < length I.chambers) l ls chambers) (All-tail (λ (l : Lockage). All (λ s. s < length (ships_left I K)) l.ships) l ls ships) (All-tail (λ (l : Lockage). All (λ s. (ship_at R s).arrival ≤ l.start) l.ships) l ls arrived),
      )

  -- what the plan that is put together costs
  pub cost-joined : (Q : Plan) → IsLegal R Q → cost_of I (joined K (ships_left I K) Q) ≡ cost_of R Q + added_of I K M
  cost-joined Q legal =
      let ns = ships_left I K in
      let chambers : All (λ l. l.chamber < length I.chambers) Q.lockages = subst (λ n. All (λ (l : Lockage). l.chamber < n) Q.lockages) (rest-chambers I R K M rest) (legal-chambers R Q legal) in
      let ships : All (λ l. All (λ s. s < length ns) l.ships) Q.lockages = subst (λ n. All (λ (l : Lockage). All (λ s. s < n) l.ships) Q.lockages) (rest-ships I R K M rest) (legal-ships R Q legal) in
      let delays : sum_by (λ l. sum_by (λ s. delay_of I M (number_of ns s)) l.ships) Q.lockages ≡ sum_by (delay_of I M) ns =
      sum_by-legal (λ s. delay_of I M (number_of ns s)) R Q legal
      ∙ ap (λ n. sum_by (λ s. delay_of I M (number_of ns s)) (numbers_from 0 n)) (rest-ships I R K M rest)
      ∙ sum_by-numbers (delay_of I M) 0 ns in
      omega (
        arith,
        sum_by-append (flow_in I) K.lockages (map (renumbered ns) Q.lockages),
        flow-lockages Q.lockages chambers ships (legal-arrived R Q legal),
        delays,
      )
