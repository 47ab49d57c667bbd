-- Two instances with the same ships, whose chambers differ in their sides and openings alone.
use Rattle.std.proofs.Common.{◌≡◌, ℕ, ◌+◌, ◌-◌, ◌<◌, ◌≤◌, List, [], ◌∷◌, length, map, get_or, All, refl, sym, ap, ◌∙◌, subst, sum_by}
use Rattle.std.proofs.lemmas.List.Elements.{All-head, All-tail}
use Rattle.std.proofs.lemmas.List.Sums.{sum_by-cons}
use Rattle.lock_model.specs.Limits.{Within}
use Rattle.lock_model.specs.Cargo.{HasNoClash}
use Rattle.lock_model.specs.Placement.{IsLegalPlacement}
use Rattle.lock_model.specs.Fitting.{size_of, deck_of}
use Rattle.lock_model.specs.Fleet.{chamber_at, no_ship}
use Rattle.lock_model.specs.declared.chamber.Chamber.{Chamber}
use Rattle.lock_model.specs.declared.group.Group.{Group}
use Rattle.lock_model.specs.declared.way.Way.{Way}
use Rattle.lock_model.specs.declared.way.Way.TheVariants.{Up, Down}
use Rattle.lock_model.specs.declared.way.Stand.{Stand}
use Rattle.lock_model.specs.declared.way.Stand.TheVariants.{Low, High}
use Rattle.lock_model.specs.declared.instance.Instance.{Instance}
use Rattle.lock_model.specs.declared.plan.Lockage.{Lockage}
use Rattle.lock_model.specs.declared.plan.Plan.{Plan}
use Rattle.lock_rules.specs.Lawful.{duration_of, stand_after, HasTurned, IsFree, IsLawfulStart, AreLawfulFrom}
use Rattle.lock_rules.specs.Plan.{IsLegalLockage, flow_in, cost_of}

-- a turn has room whatever the side and the opening
turned-moved : (k : Chamber) (side : Stand) (opens : ℕ) (stand : Stand) (way : Way) (from to : ℕ) → HasTurned (record k { stands = side; opens = opens }) stand way from to → HasTurned k stand way from to
turned-moved k side opens Low Up from to h = h
turned-moved k side opens Low Down from to h = record { at = h.at; after = h.after; before = h.before; free = h.free }
turned-moved k side opens High Up from to h = record { at = h.at; after = h.after; before = h.before; free = h.free }
turned-moved k side opens High Down from to h = h

module _ (A B : Instance) (ships : A.ships ≡ B.ships) (count : length A.chambers ≡ length B.chambers)
    (same : (c : ℕ) → c < length A.chambers → chamber_at A c ≡ record (chamber_at B c) { stands = (chamber_at A c).stands; opens = (chamber_at A c).opens }) where
  deck-alike : (c : ℕ) (ss : List ℕ) → c < length A.chambers → deck_of A c ss ≡ deck_of B c ss
  deck-alike c ss known =
      let e = same c known in
      λ i. record { length = (e i).length; width = (e i).width; end = (e i).end; gap = (e i).gap; side = (e i).side; ships = map (λ s. size_of (get_or (ships i) s no_ship)) ss }

  pub duration-alike : (c : ℕ) (ss : List ℕ) → c < length A.chambers → duration_of A c ss ≡ duration_of B c ss
  duration-alike c ss known = let e = same c known in λ i. (e i).pass + sum_by (λ s. (get_or (ships i) s no_ship).handling) ss

  pub legal-alike : (l : Lockage) → IsLegalLockage A l → IsLegalLockage B l
  legal-alike l h =
      let deck = deck-alike l.chamber l.ships h.chamber in
      record {
        chamber = subst (λ n. l.chamber < n) count h.chamber;
        known = subst (λ xs. All (λ s. s < length xs) l.ships) ships h.known;
        rising = h.rising;
        count = subst (λ (x : Chamber). Within 1 x.most (length l.ships)) (same l.chamber h.chamber) h.count;
        way = λ k d within. ap (λ xs. (get_or xs (get_or l.ships k d) no_ship).way) (sym ships) ∙ h.way k d within;
        placed = subst (λ d. IsLegalPlacement d l.spots) deck h.placed;
        clear = subst HasNoClash deck h.clear;
      }

  pub start-alike : (c : ℕ) (stand : Stand) (from : ℕ) (g : Group) (start : ℕ) → c < length A.chambers → IsLawfulStart A c stand from g start → IsLawfulStart B c stand from g start
  start-alike c stand from g start known h = record {
    arrived = subst (λ xs. All (λ s. (get_or xs s no_ship).arrival ≤ start) g.ships) ships h.arrived;
    later = h.later;
    turned =
        turned-moved (chamber_at B c) (chamber_at A c).stands (chamber_at A c).opens stand g.way from start
        (subst (λ (x : Chamber). HasTurned x stand g.way from start) (same c known) h.turned);
    free =
        subst (λ n. IsFree (chamber_at B c).closures start (start + n)) (duration-alike c g.ships known)
        (subst (λ (x : Chamber). IsFree x.closures start (start + duration_of A c g.ships)) (same c known) h.free);
  }

  pub lawful-alike : (c : ℕ) (stand : Stand) (from : ℕ) (gs : List Group) (starts : List ℕ) → c < length A.chambers → AreLawfulFrom A c stand from gs starts → AreLawfulFrom B c stand from gs starts
  lawful-alike c stand from [] [] known lawful = tt
  lawful-alike c stand from [] (s ∷ ss) known lawful = absurd lawful
  lawful-alike c stand from (g ∷ gs) [] known lawful = absurd lawful
  lawful-alike c stand from (g ∷ gs) (s ∷ ss) known lawful = (
    start-alike c stand from g s known lawful.0,
    subst (λ n. AreLawfulFrom B c (stand_after g.way) (s + n) gs ss) (duration-alike c g.ships known) (lawful-alike c (stand_after g.way) (s + duration_of A c g.ships) gs ss known lawful.1),
  )

  flow-alike : (l : Lockage) → l.chamber < length A.chambers → flow_in A l ≡ flow_in B l
  flow-alike l known = let e = duration-alike l.chamber l.ships known in λ i. sum_by (λ s. (l.start + e i) - (get_or (ships i) s no_ship).arrival) l.ships

  flows-alike : (ls : List Lockage) → All (λ l. l.chamber < length A.chambers) ls → sum_by (flow_in A) ls ≡ sum_by (flow_in B) ls
  flows-alike [] known = refl
  flows-alike (l ∷ ls) known =
      sum_by-cons (flow_in A) l ls
      ∙ (λ i. flow-alike l (All-head (λ (l : Lockage). l.chamber < length A.chambers) l ls known) i + flows-alike ls (All-tail (λ (l : Lockage). l.chamber < length A.chambers) l ls known) i)
      ∙ sym (sum_by-cons (flow_in B) l ls)

  pub cost-alike : (Q : Plan) → All (λ l. l.chamber < length A.chambers) Q.lockages → cost_of A Q ≡ cost_of B Q
  cost-alike Q known = flows-alike Q.lockages known
