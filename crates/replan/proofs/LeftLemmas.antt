-- The rest is within the limits.
use Rattle.std.proofs.Common.{◌↔◌, Option, IsSome, IsNone, is_some, Bool, true≢false, ◌≡◌, ℕ, ◌+◌, ◌<◌, ◌≤◌, List, [], ◌∷◌, length, get_or, All, true, false, nat_eq, refl, sym, ap, ◌∙◌, subst, arith}
use Rattle.std.proofs.lemmas.List.{length-map, get_or-map}
use Rattle.std.proofs.lemmas.List.Elements.{All-head, All-tail, All-weaker, All-filter}
use Rattle.std.proofs.lemmas.List.Kept.{AllPairs-from_increasing}
use Rattle.list_laws.proofs.Counts.{filter-shorter}
use Rattle.lock_model.specs.declared.limits.TheConstants.{CHAMBERS, SHIPS}
use Rattle.lock_model.specs.Instance.{IsInstance, IsChamber, IsShip}
use Rattle.lock_model.specs.Fleet.{ship_at, chamber_at, no_ship, no_chamber}
use Rattle.lock_model.specs.declared.chamber.Chamber.{Chamber}
use Rattle.lock_model.specs.declared.ship.Ship.{Ship}
use Rattle.lock_model.specs.declared.instance.Instance.{Instance}
use Rattle.lock_model.specs.declared.plan.Lockage.{Lockage}
use Rattle.lock_model.specs.declared.plan.Plan.{Plan}
use Rattle.lock_rules.specs.Arrival.{numbers_from}
use Rattle.lock_rules.specs.Lawful.{duration_of}
use Rattle.lock_rules.specs.Lines.{line_of}
use Rattle.lock_rules.specs.Plan.{served_in}
use Rattle.lock_rules.proofs.LineLemmas.{numbers-below, length-numbers, All-line, line-chamber}
use Rattle.chamber_times.specs.FirstBreak.{done_after_all}
use Rattle.replan.specs.Kept.{EndsInTime, CanBeKept}
use Rattle.replan.specs.Rest.{chamber_after, chambers_after, ships_left, from_minute, ships_from}
use Rattle.replan.proofs.ListLemmas.{get_or-numbers, filtered-rise}

pub left-known : (I : Instance) (K : Plan) → All (λ s. s < length I.ships) (ships_left I K)
left-known I K =
    let n = length I.ships in
    All-filter (λ s. nat_eq (served_in K.lockages s) 0) (λ s. s < n) (numbers_from 0 n)
    (All-weaker (λ s. s < 0 + n) (λ s. s < n) (λ s h. omega (arith, h)) (numbers_from 0 n) (numbers-below 0 n))

module _ (I : Instance) (K : Plan) where
  pub count-after : length (chambers_after I K) ≡ length I.chambers
  count-after = length-map (numbers_from 0 (length I.chambers)) (chamber_after I K) ∙ length-numbers 0 (length I.chambers)

  pub after_at : (c : ℕ) (d : Chamber) → c < length I.chambers → get_or (chambers_after I K) c d ≡ chamber_after I K c
  after_at c d known =
      let count = length-numbers 0 (length I.chambers) in
      get_or-map (chamber_after I K) (numbers_from 0 (length I.chambers)) c 0 d (omega (arith, known, count))
      ∙ ap (chamber_after I K) (omega (arith, get_or-numbers 0 (length I.chambers) c 0 known))

module _ (I : Instance) (M : ℕ) (ss : List ℕ) where
  pub from_at : (k : ℕ) (d : Ship) → k < length ss → get_or (ships_from I M ss) k d ≡ from_minute M (ship_at I (get_or ss k 0))
  from_at k d within = get_or-map (λ s. from_minute M (ship_at I s)) ss k 0 d within

  pub count-from : length (ships_from I M ss) ≡ length ss
  count-from = length-map ss (λ s. from_minute M (ship_at I s))

opens-small : (I : Instance) (c from : ℕ) (ls : List Lockage) → from ≤ 1000000 → All (λ l. l.chamber ≡ c) ls → All (EndsInTime I) ls → done_after_all I c from ls ≤ 1000000
opens-small I c from [] small own in_time = small
opens-small I c from (l ∷ ls) small own in_time =
    let here : l.chamber ≡ c = All-head (λ (l : Lockage). l.chamber ≡ c) l ls own in
    let ends = All-head (EndsInTime I) l ls in_time in
    opens-small I c (l.start + duration_of I c l.ships) ls (subst (λ c. l.start + duration_of I c l.ships ≤ 1000000) here ends.ends)
    (All-tail (λ (l : Lockage). l.chamber ≡ c) l ls own) (All-tail (EndsInTime I) l ls in_time)

module _ (I : Instance) (K : Plan) (can : CanBeKept I K) where
  pub chamber-limits : (c : ℕ) → c < length I.chambers → IsChamber (chamber_after I K c)
  chamber-limits c known =
      let h : IsChamber (chamber_at I c) = I.limits.chamber c no_chamber known in
      record {
        name = h.name;
        length = h.length;
        width = h.width;
        end = h.end;
        gap = h.gap;
        side = h.side;
        most = h.most;
        pass = h.pass;
        turn = h.turn;
        opens = opens-small I c (chamber_at I c).opens (line_of K c) h.opens (line-chamber K c) (All-line (EndsInTime I) K c can.in_time);
        closures = h.closures;
      }

module _ (I : Instance) (K : Plan) (M : ℕ) (can : CanBeKept I K) (early : M ≤ 1000000) where
  ship-limits : (s : ℕ) → s < length I.ships → IsShip (from_minute M (ship_at I s))
  ship-limits s known =
      let h : IsShip (ship_at I s) = I.limits.ship s no_ship known in
      record { name = h.name; length = h.length; width = h.width; arrival = omega (arith, h.arrival, early); handling = h.handling; cargo = h.cargo }

  left : List ℕ
  left = ships_left I K

  left-count : length (ships_left I K) ≤ SHIPS
  left-count =
      let limits = I.limits in
      omega (arith, filter-shorter (λ s. nat_eq (served_in K.lockages s) 0) (numbers_from 0 (length I.ships)), length-numbers 0 (length I.ships), limits.ship_count.1)

  -- the rest is an instance where ships are left
  pub rest-limits : 1 ≤ length (ships_left I K) → IsInstance (chambers_after I K) (ships_from I M (ships_left I K))
  rest-limits some = record {
    chamber_count = subst (λ n. (1 ≤ n) × (n ≤ CHAMBERS)) (sym (count-after I K)) I.limits.chamber_count;
    ship_count = subst (λ n. (1 ≤ n) × (n ≤ SHIPS)) (sym (count-from I M (ships_left I K))) (some, left-count);
    chamber = λ c d within.
        let known : c < length I.chambers = subst (λ n. c < n) (count-after I K) within in
        subst IsChamber (sym (after_at I K c d known)) (chamber-limits I K can c known);
    ship = λ k d within.
        let known : k < length (ships_left I K) = subst (λ n. k < n) (count-from I M (ships_left I K)) within in
        subst IsShip (sym (from_at I M (ships_left I K) k d known)) (ship-limits (get_or (ships_left I K) k 0) (left-known I K k 0 known));
    chamber_names = λ i j d less within same.
        let known : j < length I.chambers = subst (λ n. j < n) (count-after I K) within in
        I.limits.chamber_names i j no_chamber less known
        (sym (ap (λ (c : Chamber). c.name) (after_at I K i d (omega (arith, less, known)))) ∙ same ∙ ap (λ (c : Chamber). c.name) (after_at I K j d known));
    ship_names = λ i j d less within same.
        let known : j < length (ships_left I K) = subst (λ n. j < n) (count-from I M (ships_left I K)) within in
        let rises : get_or (ships_left I K) i 0 < get_or (ships_left I K) j 0 =
        AllPairs-from_increasing (ships_left I K) (filtered-rise (λ s. nat_eq (served_in K.lockages s) 0) (length I.ships)) i j 0 less known in
        I.limits.ship_names (get_or (ships_left I K) i 0) (get_or (ships_left I K) j 0) no_ship rises (left-known I K j 0 known)
        (sym (ap (λ (s : Ship). s.name) (from_at I M (ships_left I K) i d (omega (arith, less, known)))) ∙ same ∙ ap (λ (s : Ship). s.name) (from_at I M (ships_left I K) j d known));
  }

-- There is no rest exactly where no ship is left, if it is within the limits with these chambers where some are.
module _ (I : Instance) (K : Plan) (M : ℕ) (chambers : List Chamber) (limits : 1 ≤ length (ships_left I K) → IsInstance chambers (ships_from I M (ships_left I K))) where
  rest-empty : (o : Option Instance) (cs : List Chamber) (ships : List Ship) (ns : List ℕ) → (IsSome o ↔ IsInstance cs ships) → cs ≡ chambers → ns ≡ ships_left I K → ships ≡ ships_from I M ns → IsNone o → ns ≡ []
  rest-empty o cs ships [] valid made left from none = refl
  rest-empty o cs ships (n ∷ ns) valid made left from none =
      let some : 1 ≤ length (ships_left I K) = subst (λ xs. 1 ≤ length xs) left (omega arith) in
      let whole : IsInstance cs ships = subst (λ cs. IsInstance cs ships) (sym made) (subst (IsInstance chambers) (sym (from ∙ ap (ships_from I M) left)) (limits some)) in
      absurd (true≢false (sym (valid.1 whole) ∙ none))

  pub none_left : (o : Option Instance) (cs : List Chamber) (ships : List Ship) (ns : List ℕ) → (IsSome o ↔ IsInstance cs ships) → cs ≡ chambers → ns ≡ ships_left I K → ships ≡ ships_from I M ns → IsNone o ↔ (ns ≡ [])
  none_left o cs ships ns valid made left from = (rest-empty o cs ships ns valid made left from, λ empty. by (is_some o) refl empty)
    where
      by : (b : Bool) → is_some o ≡ b → ns ≡ [] → is_some o ≡ false
      by true e empty =
          let whole : IsInstance cs ships = valid.0 e in
          absurd (omega (arith, whole.ship_count.0, ap length from, count-from I M ns, ap length empty))
      by false e empty = e

pub rest_none : (I : Instance) (K : Plan) (M : ℕ) → CanBeKept I K → M ≤ 1000000 → (o : Option Instance) (cs : List Chamber) (ships : List Ship) (ns : List ℕ) → (IsSome o ↔ IsInstance cs ships) → cs ≡ chambers_after I K → ns ≡ ships_left I K → ships ≡ ships_from I M ns → IsNone o ↔ (ns ≡ [])
rest_none I K M can early = none_left I K M (chambers_after I K) (rest-limits I K M can early)
