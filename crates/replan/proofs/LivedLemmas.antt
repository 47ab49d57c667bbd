-- The rest as lived beside the rest of a day that is known beforehand: its chambers differ in their sides and openings alone, and its legal plans are legal there.
use Rattle.std.proofs.Common.{◌≡◌, ℕ, ◌<◌, ◌≤◌, List, [], ◌∷◌, length, map, max, get_or, Option, Some, None, refl, sym, ap, ◌∙◌, subst, arith}
use Rattle.std.proofs.lemmas.List.{length-map, get_or-map}
use Rattle.lock_model.specs.declared.limits.TheConstants.{CHAMBERS}
use Rattle.lock_model.specs.Instance.{IsInstance, IsChamber}
use Rattle.lock_model.specs.Fleet.{ship_at, chamber_at, no_ship, no_chamber}
use Rattle.lock_model.specs.declared.chamber.Chamber.{Chamber}
use Rattle.lock_model.specs.declared.ship.Ship.{Ship}
use Rattle.lock_model.specs.declared.way.Way.{Way}
use Rattle.lock_model.specs.declared.way.Way.TheVariants.{Up, Down}
use Rattle.lock_model.specs.declared.way.Stand.{Stand}
use Rattle.lock_model.specs.declared.way.Stand.TheVariants.{Low, High}
use Rattle.lock_model.specs.declared.group.Group.{Group}
use Rattle.lock_model.specs.declared.instance.Instance.{Instance}
use Rattle.lock_model.specs.declared.plan.Plan.{Plan}
use Rattle.lock_rules.specs.Arrival.{numbers_from}
use Rattle.lock_rules.specs.Lawful.{HasTurn, HasTurned, IsLawfulStart, AreLawfulFrom}
use Rattle.lock_rules.specs.Lines.{line_of, groups_of}
use Rattle.lock_rules.specs.Plan.{IsLegal, cost_of}
use Rattle.lock_rules.specs.Timetable.{turned_at}
use Rattle.lock_rules.proofs.FreeLemmas.{AreClosuresFrom, first_free-from, first_free-free}
use Rattle.lock_rules.proofs.LegalLemmas.{legal-chambers}
use Rattle.lock_rules.proofs.LineLemmas.{length-numbers}
use Rattle.lock_rules.proofs.TimetableLemmas.{closures_kept}
use Rattle.replan.specs.Begun.{turn_minute, turned_where, begun_turn, chamber_begun}
use Rattle.replan.specs.Kept.{kept_of}
use Rattle.replan.specs.Lived.{opened_from, chambers_lived, IsLivedRest, CanBeLived}
use Rattle.replan.specs.Rest.{chamber_after, chambers_after, ships_left, ships_from, from_minute, IsRest}
use Rattle.replan.proofs.AlikeLemmas.{legal-alike, lawful-alike, cost-alike}
use Rattle.replan.proofs.LeftLemmas.{count-after, after_at, from_at, count-from, chamber-limits, rest-limits}
use Rattle.replan.proofs.ListLemmas.{get_or-numbers}

-- a turn and an opening change a chamber's side and opening alone
moved : (M : ℕ) (o : Option ℕ) (k : Chamber) → opened_from M (turned_where o k) ≡ record k { stands = (opened_from M (turned_where o k)).stands; opens = (opened_from M (turned_where o k)).opens }
moved M None k = refl
moved M (Some p) k = refl

back-moved : (M : ℕ) (o : Option ℕ) (k : Chamber) → k ≡ record (opened_from M (turned_where o k)) { stands = k.stands; opens = k.opens }
back-moved M None k = refl
back-moved M (Some p) k = refl

module _ (I : Instance) (P : Plan) (M : ℕ) where
  pub count-lived : length (chambers_lived I P M) ≡ length I.chambers
  count-lived = length-map (numbers_from 0 (length I.chambers)) (λ c. opened_from M (chamber_begun I P M c)) ∙ length-numbers 0 (length I.chambers)

  pub lived_at : (c : ℕ) (d : Chamber) → c < length I.chambers → get_or (chambers_lived I P M) c d ≡ opened_from M (chamber_begun I P M c)
  lived_at c d known =
      let count = length-numbers 0 (length I.chambers) in
      get_or-map (λ c. opened_from M (chamber_begun I P M c)) (numbers_from 0 (length I.chambers)) c 0 d (omega (arith, known, count))
      ∙ ap (λ c. opened_from M (chamber_begun I P M c)) (omega (arith, get_or-numbers 0 (length I.chambers) c 0 known))

-- a chamber within the limits stays so, if it opens in time
chamber-limits_moved : (M : ℕ) (o : Option ℕ) (k : Chamber) → M ≤ 1000000 → (turned_where o k).opens ≤ 1000000 → IsChamber k → IsChamber (opened_from M (turned_where o k))
chamber-limits_moved M None k early in_time h = record {
  name = h.name;
  length = h.length;
  width = h.width;
  end = h.end;
  gap = h.gap;
  side = h.side;
  most = h.most;
  pass = h.pass;
  turn = h.turn;
  opens = omega (arith, early, in_time);
  closures = h.closures;
}
chamber-limits_moved M (Some p) k early in_time h = record {
  name = h.name;
  length = h.length;
  width = h.width;
  end = h.end;
  gap = h.gap;
  side = h.side;
  most = h.most;
  pass = h.pass;
  turn = h.turn;
  opens = omega (arith, early, in_time);
  closures = h.closures;
}

-- the rest as lived is an instance where ships are left
pub lived-limits : (I : Instance) (P : Plan) (M : ℕ) → CanBeLived I P M → M ≤ 1000000 → 1 ≤ length (ships_left I (kept_of P M)) → IsInstance (chambers_lived I P M) (ships_from I M (ships_left I (kept_of P M)))
lived-limits I P M can early some =
    let known = rest-limits I (kept_of P M) M can.kept early some in
    let name : (c : ℕ) (d : Chamber) → c < length I.chambers → (get_or (chambers_lived I P M) c d).name ≡ (chamber_at I c).name =
    λ c d here. ap (λ (k : Chamber). k.name) (lived_at I P M c d here ∙ moved M (begun_turn I P M c) (chamber_after I (kept_of P M) c)) in
    record {
      chamber_count = subst (λ n. (1 ≤ n) × (n ≤ CHAMBERS)) (sym (count-lived I P M)) I.limits.chamber_count;
      ship_count = known.ship_count;
      chamber = λ c d within.
          let here : c < length I.chambers = subst (λ n. c < n) (count-lived I P M) within in
          subst IsChamber (sym (lived_at I P M c d here))
          (chamber-limits_moved M (begun_turn I P M c) (chamber_after I (kept_of P M) c) early (can.turns c here).opens (chamber-limits I (kept_of P M) can.kept c here));
      ship = known.ship;
      chamber_names = λ i j d less within same.
          let there : j < length I.chambers = subst (λ n. j < n) (count-lived I P M) within in
          I.limits.chamber_names i j no_chamber less there (sym (name i d (omega (arith, less, there))) ∙ same ∙ name j d there);
      ship_names = known.ship_names;
    }

module _ (I R : Instance) (P : Plan) (M : ℕ) (can : CanBeLived I P M) (rest : IsLivedRest I P M R) where
  pub lived-count : length R.chambers ≡ length I.chambers
  lived-count = ap length rest.chambers ∙ count-lived I P M

  pub chamber-lived : (c : ℕ) → c < length I.chambers → chamber_at R c ≡ opened_from M (chamber_begun I P M c)
  chamber-lived c known = ap (λ cs. get_or cs c no_chamber) rest.chambers ∙ lived_at I P M c no_chamber known

  pub ships-count : length R.ships ≡ length (ships_left I (kept_of P M))
  ships-count = ap length rest.ships ∙ count-from I M (ships_left I (kept_of P M))

  pub some-left : 1 ≤ length (ships_left I (kept_of P M))
  some-left = omega (arith, ships-count, R.limits.ship_count.0)

  -- the first ship that is left arrives at the minute or later
  pub minute-early : M ≤ 1000000
  minute-early =
      let first : ship_at R 0 ≡ from_minute M (ship_at I (get_or (ships_left I (kept_of P M)) 0 0)) = ap (λ ss. get_or ss 0 no_ship) rest.ships ∙ from_at I M (ships_left I (kept_of P M)) 0 no_ship some-left in
      let small : (ship_at R 0).arrival ≤ 1000000 = (R.limits.ship 0 no_ship (omega (arith, ships-count, some-left))).arrival in
      omega (arith, small, ap (λ (s : Ship). s.arrival) first)

  -- the rest of a day that is known beforehand, after the same lockages
  abbrev pub known_rest : Instance
  known_rest = record {
    chambers = chambers_after I (kept_of P M);
    ships = ships_from I M (ships_left I (kept_of P M));
    limits = rest-limits I (kept_of P M) M can.kept minute-early some-left;
  }

  pub is-known_rest : IsRest I (kept_of P M) M known_rest
  is-known_rest = record { chambers = refl; ships = refl }

  pub known-ships : R.ships ≡ known_rest.ships
  known-ships = rest.ships

  pub known-count : length R.chambers ≡ length known_rest.chambers
  known-count = lived-count ∙ sym (count-after I (kept_of P M))

  pub known-chamber : (c : ℕ) → c < length I.chambers → chamber_at known_rest c ≡ chamber_after I (kept_of P M) c
  known-chamber c known = after_at I (kept_of P M) c no_chamber known

  -- the chambers of the two rests are alike
  pub lived-known : (c : ℕ) → c < length R.chambers → chamber_at R c ≡ record (chamber_at known_rest c) { stands = (chamber_at R c).stands; opens = (chamber_at R c).opens }
  lived-known c within =
      let here : c < length I.chambers = subst (λ n. c < n) lived-count within in
      let lived = chamber-lived c here in
      let known = known-chamber c here in
      lived ∙ moved M (begun_turn I P M c) (chamber_after I (kept_of P M) c) ∙ (λ i. record (sym known i) { stands = (sym lived i).stands; opens = (sym lived i).opens })

  pub known-lived : (c : ℕ) → c < length known_rest.chambers → chamber_at known_rest c ≡ record (chamber_at R c) { stands = (chamber_at known_rest c).stands; opens = (chamber_at known_rest c).opens }
  known-lived c within =
      let here : c < length I.chambers = subst (λ n. c < n) (count-after I (kept_of P M)) within in
      let lived = chamber-lived c here in
      let known = known-chamber c here in
      known ∙ back-moved M (begun_turn I P M c) (chamber_after I (kept_of P M) c) ∙ (λ i. record (sym lived i) { stands = (sym known i).stands; opens = (sym known i).opens })

-- ---- what starts lawfully in a chamber as lived starts lawfully behind the begun lockages

turned-sooner : (k : Chamber) (stand : Stand) (way : Way) (from less to : ℕ) → less ≤ from → HasTurned k stand way from to → HasTurned k stand way less to
turned-sooner k Low Up from less to below h = h
turned-sooner k Low Down from less to below h = record { at = h.at; after = omega (arith, h.after, below); before = h.before; free = h.free }
turned-sooner k High Up from less to below h = record { at = h.at; after = omega (arith, h.after, below); before = h.before; free = h.free }
turned-sooner k High Down from less to below h = h

-- a turn has room, so the way may need it or not
either-turned : (k : Chamber) (stand : Stand) (way : Way) (from to : ℕ) → HasTurn k from to → HasTurned k stand way from to
either-turned k Low Up from to h = tt
either-turned k Low Down from to h = h
either-turned k High Up from to h = h
either-turned k High Down from to h = tt

module _ (J : Instance) (c M : ℕ) (k : Chamber) (is : chamber_at J c ≡ k) (known : c < length J.chambers) where
  -- the begun turn had room
  begun-room : (to : ℕ) → turned_at k k.opens ≤ to → HasTurn (chamber_at J c) k.opens to
  begun-room to over =
      let closures : AreClosuresFrom 0 k.closures = subst (λ (x : Chamber). AreClosuresFrom 0 x.closures) is (closures_kept J c known) in
      subst (λ (x : Chamber). HasTurn x k.opens to) (sym is) (record {
        at = turn_minute k;
        after = first_free-from k.closures k.turn k.opens;
        before = over;
        free = first_free-free 0 k.closures k.turn k.opens closures;
      })

  turned-from : (o : Option ℕ) (way : Way) (to : ℕ) → (opened_from M (turned_where o k)).opens ≤ to
      → HasTurned (chamber_at J c) (opened_from M (turned_where o k)).stands way (opened_from M (turned_where o k)).opens to → HasTurned (chamber_at J c) k.stands way k.opens to
  turned-from None way to later h = turned-sooner (chamber_at J c) k.stands way (max k.opens M) k.opens to (omega arith) h
  turned-from (Some p) way to later h = either-turned (chamber_at J c) k.stands way k.opens to (begun-room to (omega (arith, later)))

  opens-sooner : (o : Option ℕ) → k.opens ≤ (opened_from M (turned_where o k)).opens
  opens-sooner None = omega arith
  opens-sooner (Some p) = let from = first_free-from k.closures k.turn k.opens in omega (arith, from)

  start-sooner : (o : Option ℕ) (g : Group) (start : ℕ) → IsLawfulStart J c (opened_from M (turned_where o k)).stands (opened_from M (turned_where o k)).opens g start → IsLawfulStart J c k.stands k.opens g start
  start-sooner o g start h = record {
    arrived = h.arrived;
    later = (let sooner = opens-sooner o in omega (arith, sooner, h.later));
    turned = turned-from o g.way start h.later h.turned;
    free = h.free;
  }

  lawful-sooner : (o : Option ℕ) (gs : List Group) (starts : List ℕ)
      → AreLawfulFrom J c (opened_from M (turned_where o k)).stands (opened_from M (turned_where o k)).opens gs starts → AreLawfulFrom J c k.stands k.opens gs starts
  lawful-sooner o [] [] lawful = tt
  lawful-sooner o [] (s ∷ ss) lawful = absurd lawful
  lawful-sooner o (g ∷ gs) [] lawful = absurd lawful
  lawful-sooner o (g ∷ gs) (s ∷ ss) lawful = (start-sooner o g s lawful.0, lawful.1)

module _ (I R : Instance) (P : Plan) (M : ℕ) (can : CanBeLived I P M) (rest : IsLivedRest I P M R) where
  -- A LEGAL PLAN OF THE REST AS LIVED is legal for the rest of a day that is known beforehand.
  pub known-legal : (Q : Plan) → IsLegal R Q → IsLegal (known_rest I R P M can rest) Q
  known-legal Q legal =
      let J = known_rest I R P M can rest in
      record {
        once = λ s within. legal.once s (subst (λ ss. s < length ss) (sym (known-ships I R P M can rest)) within);
        lockage = λ k d within. legal-alike R J (known-ships I R P M can rest) (known-count I R P M can rest) (lived-known I R P M can rest) (get_or Q.lockages k d) (legal.lockage k d within);
        timely = λ c within.
            let mine : c < length R.chambers = subst (λ n. c < n) (sym (known-count I R P M can rest)) within in
            let own : c < length I.chambers = subst (λ n. c < n) (count-after I (kept_of P M)) within in
            let k = chamber_after I (kept_of P M) c in
            let starts = map (λ l. l.start) (line_of Q c) in
            let there : AreLawfulFrom J c (chamber_at R c).stands (chamber_at R c).opens (groups_of Q c) starts =
            lawful-alike R J (known-ships I R P M can rest) (known-count I R P M can rest) (lived-known I R P M can rest) c (chamber_at R c).stands (chamber_at R c).opens (groups_of Q c) starts mine (legal.timely c mine).lawful in
            let so : AreLawfulFrom J c (opened_from M (turned_where (begun_turn I P M c) k)).stands (opened_from M (turned_where (begun_turn I P M c) k)).opens (groups_of Q c) starts =
            subst (λ (x : Chamber). AreLawfulFrom J c x.stands x.opens (groups_of Q c) starts) (chamber-lived I R P M can rest c own) there in
            let is = known-chamber I R P M can rest c own in
            record { lawful = subst (λ (x : Chamber). AreLawfulFrom J c x.stands x.opens (groups_of Q c) starts) (sym is) (lawful-sooner J c M k is within (begun_turn I P M c) (groups_of Q c) starts so) };
      }

  pub known-cost : (Q : Plan) → IsLegal R Q → cost_of R Q ≡ cost_of (known_rest I R P M can rest) Q
  known-cost Q legal = cost-alike R (known_rest I R P M can rest) (known-ships I R P M can rest) (known-count I R P M can rest) (lived-known I R P M can rest) Q (legal-chambers R Q legal)
