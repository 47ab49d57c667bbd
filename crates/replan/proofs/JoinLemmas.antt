-- The lines of a plan that is put together: the kept lockages, and then those of the rest.
use Rattle.std.proofs.Common.{◌≡◌, ℕ, ◌+◌, ◌<◌, ◌≤◌, List, [], ◌∷◌, ◌++◌, length, map, filter, get_or, All, cond, true, false, nat_eq, nat_le, refl, sym, ap, ◌∙◌, subst, arith}
use Rattle.std.proofs.lemmas.Bool.{le-leb, lt-ltb, le-ltb, ltb-true}
use Rattle.std.proofs.lemmas.List.{append-nil}
use Rattle.std.proofs.lemmas.List.Elements.{All-head, All-tail, All-map, All-weaker, All-append, All-filter, filter_passes, filter-append}
use Rattle.lock_model.specs.Fleet.{ship_at, chamber_at}
use Rattle.lock_model.specs.declared.chamber.Chamber.{Chamber}
use Rattle.lock_model.specs.declared.ship.Ship.{Ship}
use Rattle.lock_model.specs.declared.way.Way.{Way}
use Rattle.lock_model.specs.declared.way.Way.TheVariants.{Up, Down}
use Rattle.lock_model.specs.declared.way.Stand.{Stand}
use Rattle.lock_model.specs.declared.way.Stand.TheVariants.{Low, High}
use Rattle.lock_model.specs.declared.instance.Instance.{Instance}
use Rattle.lock_model.specs.declared.plan.Lockage.{Lockage}
use Rattle.lock_model.specs.declared.plan.Plan.{Plan}
use Rattle.lock_rules.specs.Lawful.{duration_of, stand_after, HasTurned, IsFree, IsLawfulStart, AreLawfulFrom}
use Rattle.lock_rules.specs.Lines.{insert_by_start, sorted_by_start, line_of, group_of}
use Rattle.lock_rules.specs.Plan.{IsLegalLockage, IsLegal, IsLegalPart, IsTimely}
use Rattle.lock_rules.proofs.LineLemmas.{All-line, All-sorted_by_start}
use Rattle.lock_rules.proofs.LegalLemmas.{legal-arrived, legal-ships}
use Rattle.chamber_times.specs.FirstBreak.{stand_after_all, done_after_all}
use Rattle.replan.specs.Kept.{starts_before, kept_of}
use Rattle.replan.specs.Rest.{chamber_after, ships_left, IsRest}
use Rattle.replan.specs.Together.{number_of, renumbered, joined, Keeps}
use Rattle.replan.proofs.RenumberLemmas.{rest-chambers, rest-ships, chamber-rest, ship-rest, duration-rest, legal-renumbered, once-joined}

-- a list of lockages before a minute, and one of others
pub all-before : (M : ℕ) (ls : List Lockage) → All (λ l. l.start < M) ls → filter (starts_before M) ls ≡ ls
all-before M [] all = refl
all-before M (l ∷ ls) all =
    ap (λ b. cond b (l ∷ filter (starts_before M) ls) (filter (starts_before M) ls)) (lt-ltb l.start M (All-head (λ (l : Lockage). l.start < M) l ls all))
    ∙ ap (λ rest. l ∷ rest) (all-before M ls (All-tail (λ (l : Lockage). l.start < M) l ls all))

pub none-before : (M : ℕ) (ls : List Lockage) → All (λ l. M ≤ l.start) ls → filter (starts_before M) ls ≡ []
none-before M [] all = refl
none-before M (l ∷ ls) all =
    ap (λ b. cond b (l ∷ filter (starts_before M) ls) (filter (starts_before M) ls)) (le-ltb l.start M (All-head (λ (l : Lockage). M ≤ l.start) l ls all))
    ∙ none-before M ls (All-tail (λ (l : Lockage). M ≤ l.start) l ls all)

-- lockages that start no later than others are sorted before them
pub insert-append : (l : Lockage) (ls ms : List Lockage) → All (λ m. l.start ≤ m.start) ms → insert_by_start l (ls ++ ms) ≡ insert_by_start l ls ++ ms
insert-append l [] [] later = refl
insert-append l [] (m ∷ ms) later =
    ap (λ b. cond b (l ∷ m ∷ ms) (m ∷ insert_by_start l ms)) (le-leb l.start m.start (All-head (λ (m : Lockage). l.start ≤ m.start) m ms later))
insert-append l (k ∷ ls) ms later =
    elim (nat_le l.start k.start) as (λ b. cond b (l ∷ k ∷ (ls ++ ms)) (k ∷ insert_by_start l (ls ++ ms)) ≡ cond b (l ∷ k ∷ ls) (k ∷ insert_by_start l ls) ++ ms) [
      | true ↦ refl
      | false ↦ ap (λ rest. k ∷ rest) (insert-append l ls ms later)
    ]

sorted-append : (M : ℕ) (ls ms : List Lockage) → All (λ l. l.start < M) ls → All (λ m. M ≤ m.start) ms → sorted_by_start (ls ++ ms) ≡ sorted_by_start ls ++ sorted_by_start ms
sorted-append M [] ms early late = refl
sorted-append M (l ∷ ls) ms early late =
    let here : l.start < M = All-head (λ (l : Lockage). l.start < M) l ls early in
    ap (insert_by_start l) (sorted-append M ls ms (All-tail (λ (l : Lockage). l.start < M) l ls early) late)
    ∙ insert-append l (sorted_by_start ls) (sorted_by_start ms)
    (All-sorted_by_start (λ m. l.start ≤ m.start) ms (All-weaker (λ (m : Lockage). M ≤ m.start) (λ m. l.start ≤ m.start) (λ m h. omega (arith, h, here)) ms late))

-- numbers of ships change no order
insert-renumbered : (ns : List ℕ) (l : Lockage) (ls : List Lockage) → insert_by_start (renumbered ns l) (map (renumbered ns) ls) ≡ map (renumbered ns) (insert_by_start l ls)
insert-renumbered ns l [] = refl
insert-renumbered ns l (m ∷ ms) =
    elim (nat_le l.start m.start) as (λ b. cond b (renumbered ns l ∷ renumbered ns m ∷ map (renumbered ns) ms) (renumbered ns m ∷ insert_by_start (renumbered ns l) (map (renumbered ns) ms)) ≡ map (renumbered ns) (cond b (l ∷ m ∷ ms) (m ∷ insert_by_start l ms))) [
      | true ↦ refl
      | false ↦ ap (λ rest. renumbered ns m ∷ rest) (insert-renumbered ns l ms)
    ]

pub sorted-renumbered : (ns : List ℕ) (ls : List Lockage) → sorted_by_start (map (renumbered ns) ls) ≡ map (renumbered ns) (sorted_by_start ls)
sorted-renumbered ns [] = refl
sorted-renumbered ns (l ∷ ls) = ap (insert_by_start (renumbered ns l)) (sorted-renumbered ns ls) ∙ insert-renumbered ns l (sorted_by_start ls)

pub filter-renumbered : (ns : List ℕ) (c : ℕ) (ls : List Lockage) → filter (λ l. nat_eq l.chamber c) (map (renumbered ns) ls) ≡ map (renumbered ns) (filter (λ l. nat_eq l.chamber c) ls)
filter-renumbered ns c [] = refl
filter-renumbered ns c (l ∷ ls) =
    elim (nat_eq l.chamber c) as (λ b. cond b (renumbered ns l ∷ filter (λ l. nat_eq l.chamber c) (map (renumbered ns) ls)) (filter (λ l. nat_eq l.chamber c) (map (renumbered ns) ls)) ≡ map (renumbered ns) (cond b (l ∷ filter (λ l. nat_eq l.chamber c) ls) (filter (λ l. nat_eq l.chamber c) ls))) [
      | true ↦ ap (λ rest. renumbered ns l ∷ rest) (filter-renumbered ns c ls)
      | false ↦ filter-renumbered ns c ls
    ]

pub line-joined : (K Q : Plan) (M : ℕ) (ns : List ℕ) (c : ℕ) → All (λ l. l.start < M) K.lockages → All (λ l. M ≤ l.start) Q.lockages
    → line_of (joined K ns Q) c ≡ line_of K c ++ map (renumbered ns) (line_of Q c)
line-joined K Q M ns c early late =
    let own = λ (l : Lockage). nat_eq l.chamber c in
    ap sorted_by_start (filter-append own K.lockages (map (renumbered ns) Q.lockages) ∙ ap (λ ms. filter own K.lockages ++ ms) (filter-renumbered ns c Q.lockages))
    ∙ sorted-append M (filter own K.lockages) (map (renumbered ns) (filter own Q.lockages)) (All-filter own (λ l. l.start < M) K.lockages early)
    (All-map (λ (l : Lockage). M ≤ l.start) (renumbered ns) (filter own Q.lockages) (All-filter own (λ l. M ≤ l.start) Q.lockages late))
    ∙ ap (λ ms. sorted_by_start (filter own K.lockages) ++ ms) (sorted-renumbered ns (filter own Q.lockages))

-- two parts of a line, one after the other
lawful-append : (I : Instance) (c : ℕ) (stand : Stand) (from : ℕ) (ls ms : List Lockage)
    → AreLawfulFrom I c stand from (map group_of ls) (map (λ l. l.start) ls)
    → AreLawfulFrom I c (stand_after_all stand ls) (done_after_all I c from ls) (map group_of ms) (map (λ l. l.start) ms)
    → AreLawfulFrom I c stand from (map group_of (ls ++ ms)) (map (λ l. l.start) (ls ++ ms))
lawful-append I c stand from [] ms first then = then
lawful-append I c stand from (l ∷ ls) ms first then = (first.0, lawful-append I c (stand_after l.way) (l.start + duration_of I c l.ships) ls ms first.1 then)

-- the same turns in a chamber that opens at another minute
turned-after : (I : Instance) (K : Plan) (c : ℕ) (stand : Stand) (way : Way) (from to : ℕ) → HasTurned (chamber_after I K c) stand way from to → HasTurned (chamber_at I c) stand way from to
turned-after I K c Low Up from to h = h
turned-after I K c Low Down from to h = record { at = h.at; after = h.after; before = h.before; free = h.free }
turned-after I K c High Up from to h = record { at = h.at; after = h.after; before = h.before; free = h.free }
turned-after I K c High Down from to h = h

module _ (I R : Instance) (K : Plan) (M : ℕ) (rest : IsRest I K M R) where
  arrival-rest : (s start : ℕ) → s < length (ships_left I K) → (ship_at R s).arrival ≤ start → (ship_at I (number_of (ships_left I K) s)).arrival ≤ start
  arrival-rest s start known arrived = omega (arith, ap (λ (x : Ship). x.arrival) (ship-rest I R K M rest s known), arrived)

  arrival-from : (s start : ℕ) → s < length (ships_left I K) → (ship_at R s).arrival ≤ start → M ≤ start
  arrival-from s start known arrived = omega (arith, ap (λ (x : Ship). x.arrival) (ship-rest I R K M rest s known), arrived)

  start-rest : (c : ℕ) (stand : Stand) (from : ℕ) (l : Lockage) → c < length I.chambers → All (λ s. s < length (ships_left I K)) l.ships
      → IsLawfulStart R c stand from (group_of l) l.start → IsLawfulStart I c stand from (group_of (renumbered (ships_left I K) l)) l.start
  start-rest c stand from l known ships lawful = record {
    arrived = All-map (λ s. (ship_at I s).arrival ≤ l.start) (number_of (ships_left I K)) l.ships (λ k d within. arrival-rest (get_or l.ships k d) l.start (ships k d within) (lawful.arrived k d within));
    later = lawful.later;
    turned = turned-after I K c stand l.way from l.start (subst (λ (x : Chamber). HasTurned x stand l.way from l.start) (chamber-rest I R K M rest c known) lawful.turned);
    free =
        subst (λ n. IsFree (chamber_at I c).closures l.start (l.start + n)) (duration-rest I R K M rest c l.ships known ships)
        (subst (λ (x : Chamber). IsFree x.closures l.start (l.start + duration_of R c l.ships)) (chamber-rest I R K M rest c known) lawful.free);
  }

  pub lawful-rest : (c : ℕ) (stand : Stand) (from : ℕ) (ls : List Lockage) → c < length I.chambers → All (λ l. All (λ s. s < length (ships_left I K)) l.ships) ls
      → AreLawfulFrom R c stand from (map group_of ls) (map (λ l. l.start) ls)
      → AreLawfulFrom I c stand from (map group_of (map (renumbered (ships_left I K)) ls)) (map (λ l. l.start) (map (renumbered (ships_left I K)) ls))
  lawful-rest c stand from [] known ships lawful = tt
  lawful-rest c stand from (l ∷ ls) known ships lawful =
      let here = All-head (λ (l : Lockage). All (λ s. s < length (ships_left I K)) l.ships) l ls ships in
      let tail = lawful-rest c (stand_after l.way) (l.start + duration_of R c l.ships) ls known (All-tail (λ (l : Lockage). All (λ s. s < length (ships_left I K)) l.ships) l ls ships) lawful.1 in (
        start-rest c stand from l known here lawful.0,
        subst (λ n. AreLawfulFrom I c (stand_after l.way) (l.start + n) (map group_of (map (renumbered (ships_left I K)) ls)) (map (λ l. l.start) (map (renumbered (ships_left I K)) ls))) (duration-rest I R K M rest c l.ships known here) tail,
      )

  module _ (part : IsLegalPart I K) (early : All (λ l. l.start < M) K.lockages) (Q : Plan) (legal : IsLegal R Q) where
    pub joined-ships : All (λ l. All (λ s. s < length (ships_left I K)) l.ships) Q.lockages
    joined-ships = subst (λ n. All (λ l. All (λ s. s < n) l.ships) Q.lockages) (rest-ships I R K M rest) (legal-ships R Q legal)

    pub joined-late : All (λ l. M ≤ l.start) Q.lockages
    joined-late = λ k d within.
        let l : Lockage = get_or Q.lockages k d in
        let own : IsLegalLockage R l = legal.lockage k d within in
        let some : 0 < length l.ships = omega (arith, own.count.0) in
        arrival-from (get_or l.ships 0 0) l.start (joined-ships k d within 0 0 some) (legal-arrived R Q legal k d within 0 0 some)

    timely-joined : (c : ℕ) → c < length I.chambers → IsTimely I (joined K (ships_left I K) Q) c
    timely-joined c known =
        let line = line-joined K Q M (ships_left I K) c early joined-late in
        let after : AreLawfulFrom R c (chamber_after I K c).stands (chamber_after I K c).opens (map group_of (line_of Q c)) (map (λ l. l.start) (line_of Q c)) =
        subst (λ (x : Chamber). AreLawfulFrom R c x.stands x.opens (map group_of (line_of Q c)) (map (λ l. l.start) (line_of Q c))) (chamber-rest I R K M rest c known)
        (legal.timely c (subst (λ n. c < n) (sym (rest-chambers I R K M rest)) known)).lawful in
        let rests = lawful-rest c (chamber_after I K c).stands (chamber_after I K c).opens (line_of Q c) known (All-line (λ l. All (λ s. s < length (ships_left I K)) l.ships) Q c joined-ships) after in
        let whole = lawful-append I c (chamber_at I c).stands (chamber_at I c).opens (line_of K c) (map (renumbered (ships_left I K)) (line_of Q c)) (part.timely c known).lawful rests in
        record {
          lawful = subst (λ ls. AreLawfulFrom I c (chamber_at I c).stands (chamber_at I c).opens (map group_of ls) (map (λ l. l.start) ls)) (sym line) whole;
        }

    -- the plan that is put together is legal
    pub legal-joined : IsLegal I (joined K (ships_left I K) Q)
    legal-joined = record {
      once = once-joined I R K M rest Q part legal;
      lockage =
          All-append (IsLegalLockage I) K.lockages (map (renumbered (ships_left I K)) Q.lockages) part.lockage
          (All-map (IsLegalLockage I) (renumbered (ships_left I K)) Q.lockages (λ k d within. legal-renumbered I R K M rest (get_or Q.lockages k d) (legal.lockage k d within)));
      timely = timely-joined;
    }

    -- and keeps the kept plan
    pub keeps-joined : Keeps K M (joined K (ships_left I K) Q)
    keeps-joined = record {
      lines = λ c.
          ap (filter (starts_before M)) (line-joined K Q M (ships_left I K) c early joined-late)
          ∙ filter-append (starts_before M) (line_of K c) (map (renumbered (ships_left I K)) (line_of Q c))
          ∙ ap (λ ls. ls ++ filter (starts_before M) (map (renumbered (ships_left I K)) (line_of Q c))) (all-before M (line_of K c) (All-line (λ l. l.start < M) K c early))
          ∙ ap (λ ms. line_of K c ++ ms) (none-before M (map (renumbered (ships_left I K)) (line_of Q c)) (All-map (λ (l : Lockage). M ≤ l.start) (renumbered (ships_left I K)) (line_of Q c) (All-line (λ l. M ≤ l.start) Q c joined-late)))
          ∙ append-nil (line_of K c);
    }

-- the kept lockages start before the minute
pub kept-early : (P : Plan) (M : ℕ) → All (λ l. l.start < M) (kept_of P M).lockages
kept-early P M =
    All-weaker (λ (l : Lockage). starts_before M l ≡ true) (λ l. l.start < M) (λ l h. ltb-true l.start M h) (filter (starts_before M) P.lockages) (filter_passes (starts_before M) P.lockages)
