-- The berths that printed berth lines make, and the lockage of these.
use Rattle.std.proofs.Common.{◌≡◌, ℕ, zero, suc, ◌+◌, ◌<◌, ◌≤◌, ◌==◌, ◌∙◌, ◌||◌, Bool, true, false, cond, List, [], ◌∷◌, length, map, filter, get_or, All, Ok, refl, sym, ap, subst, arith, ⊎_elim}
use Rattle.std.proofs.Math.Bool.{or-true}
use Rattle.std.specs.List.{list_any}
use Rattle.std.specs.List.Sorted.{IsStrictlyIncreasing}
use Rattle.std.proofs.lemmas.Bool.{ne_eqb, eq-eqb, cases_lt}
use Rattle.std.proofs.lemmas.List.Elements.{All-head, All-tail}
use Rattle.lock_model.specs.Ships.{RisesFrom}
use Rattle.lock_model.specs.declared.instance.Instance.{Instance}
use Rattle.lock_model.specs.declared.placement.Moor.{Moor}
use Rattle.lock_model.specs.declared.placement.Moor.TheVariants.{Quay, Ship}
use Rattle.lock_model.specs.declared.placement.Spot.{Spot}
use Rattle.lock_model.specs.declared.plan.Lockage.{Lockage}
use Rattle.lock_rules.specs.Arrival.{numbers_from}
use Rattle.lock_rules.proofs.SplitLemmas.{RisesFrom-increasing}
use Rattle.plan_text.specs.declared.berth.Berth.{Berth}
use Rattle.plan_text.specs.declared.berth.Head.{Head}
use Rattle.plan_text.specs.declared.berth.Host.{Host}
use Rattle.plan_text.specs.declared.berth.Host.TheVariants.{Quay as AtQuay, Ship as AtShip}
use Rattle.plan_text.specs.Berths.{has_berth, is_hosted_by, check_hosts, ships_of, berth_of, place_of, moor_of, spot_of, spots_of, lockage_of}
use Rattle.plan_text.specs.Writable.{IsWritableMoor, IsWritableSpot, IsWritable}

-- a host by its number in the instance
abbrev pub host_at : List ℕ → Moor → Host
host_at ships Quay = AtQuay
host_at ships (Ship k) = AtShip (get_or ships k 0)

abbrev pub made_berth : List ℕ → ℕ → ℕ → Spot → Berth
made_berth ships n s p = record { line = n; ship = s; x = p.x; y = p.y; rank = p.rank; host = host_at ships p.moor }

-- the berths of some ships of a lockage, from line n on
abbrev pub made : List ℕ → ℕ → List ℕ → List Spot → List Berth
made ships n [] ps = []
made ships n (s ∷ ss) [] = []
made ships n (s ∷ ss) (p ∷ ps) = made_berth ships n s p ∷ made ships (n + 1) ss ps

abbrev is_in : ℕ → List ℕ → Bool
is_in s ss = list_any (λ t. t == s) ss

made-has : (ships : List ℕ) (n : ℕ) (ss : List ℕ) (ps : List Spot) (s : ℕ) → length ps ≡ length ss → has_berth s (made ships n ss ps) ≡ is_in s ss
made-has ships n [] ps s count = refl
made-has ships n (t ∷ ss) [] s count = absurd (omega (arith, count))
made-has ships n (t ∷ ss) (p ∷ ps) s count = ap (λ b. (t == s) || b) (made-has ships (n + 1) ss ps s (omega (arith, count)))

-- ---- rising ships

not_in : (low s : ℕ) (ss : List ℕ) → RisesFrom low ss → s < low → is_in s ss ≡ false
not_in low s [] rises under = refl
not_in low s (t ∷ ts) rises under =
    let first = rises.0 in
    let other : (t == s) ≡ false = ne_eqb t s (λ same. absurd (omega (arith, same, under, first))) in
    ap (λ b. b || is_in s ts) other ∙ not_in (suc t) s ts rises.1 (omega (arith, under, first))

filter_none : (xs : List ℕ) → filter (λ s. false) xs ≡ []
filter_none [] = refl
filter_none (x ∷ xs) = filter_none xs

-- a ship below all numbers makes no difference
filter_skip : (t low n : ℕ) (ts : List ℕ) → t < low → filter (λ s. (t == s) || is_in s ts) (numbers_from low n) ≡ filter (λ s. is_in s ts) (numbers_from low n)
filter_skip t low zero ts under = refl
filter_skip t low (suc n) ts under =
    let other : (t == low) ≡ false = ne_eqb t low (λ same. absurd (omega (arith, same, under))) in
    ap (λ b. cond (b || is_in low ts) (low ∷ filter (λ s. (t == s) || is_in s ts) (numbers_from (suc low) n)) (filter (λ s. (t == s) || is_in s ts) (numbers_from (suc low) n))) other
    ∙ ap (λ xs. cond (is_in low ts) (low ∷ xs) xs) (filter_skip t (suc low) n ts (omega (arith, under)))

-- the numbers that are among rising ones are these
pub filter_rising : (low n : ℕ) (ss : List ℕ) → RisesFrom low ss → All (λ s. s < low + n) ss → filter (λ s. is_in s ss) (numbers_from low n) ≡ ss
filter_rising low n [] rises below = filter_none (numbers_from low n)
filter_rising low zero (t ∷ ts) rises below = let first = rises.0 in let last = All-head (λ s. s < low + zero) t ts below in absurd (omega (arith, first, last))
filter_rising low (suc n) (t ∷ ts) rises below =
    let first = rises.0 in
    let within : All (λ s. s < suc low + n) (t ∷ ts) = λ k d inside. let h = below k d inside in omega (arith, h) in
    ⊎_elim
    (λ (later : low < t).
    let none : is_in low (t ∷ ts) ≡ false = not_in t low (t ∷ ts) (omega arith, rises.1) later in
    ap (λ b. cond b (low ∷ filter (λ s. is_in s (t ∷ ts)) (numbers_from (suc low) n)) (filter (λ s. is_in s (t ∷ ts)) (numbers_from (suc low) n))) none
    ∙ filter_rising (suc low) n (t ∷ ts) (omega (arith, later), rises.1) within)
    (λ (not_later : t ≤ low).
    let same : t ≡ low = omega (arith, not_later, first) in
    let hit : (t == low) ≡ true = eq-eqb t low same in
    ap (λ b. cond (b || is_in low ts) (low ∷ filter (λ s. is_in s (t ∷ ts)) (numbers_from (suc low) n)) (filter (λ s. is_in s (t ∷ ts)) (numbers_from (suc low) n))) hit
    ∙ ap (λ xs. low ∷ xs) (filter_skip t (suc low) n ts (omega (arith, same)) ∙ filter_rising (suc low) n ts (subst (λ k. RisesFrom (suc k) ts) same rises.1) (All-tail (λ s. s < suc low + n) t ts within))
    ∙ ap (λ k. k ∷ ts) (sym same))
    (cases_lt low t)

pub made-ships : (I : Instance) (n : ℕ) (ships : List ℕ) (ps : List Spot) → length ps ≡ length ships → IsStrictlyIncreasing ships → All (λ s. s < length I.ships) ships → ships_of I (made ships n ships ps) ≡ ships
made-ships I n ships ps count rising known =
    same_filter (numbers_from 0 (length I.ships)) ∙ filter_rising 0 (length I.ships) ships (RisesFrom-increasing ships rising) (λ k d inside. let h = known k d inside in omega (arith, h))
  where
    same_filter : (xs : List ℕ) → filter (λ s. has_berth s (made ships n ships ps)) xs ≡ filter (λ s. is_in s ships) xs
    same_filter [] = refl
    same_filter (x ∷ xs) =
        ap (λ b. cond b (x ∷ filter (λ s. has_berth s (made ships n ships ps)) xs) (filter (λ s. has_berth s (made ships n ships ps)) xs)) (made-has ships n ships ps x count)
        ∙ ap (λ ys. cond (is_in x ships) (x ∷ ys) ys) (same_filter xs)

-- ---- the spots

-- the berth of a ship below all of these makes no difference
skip_first : (all : List ℕ) (b : Berth) (bs : List Berth) (low : ℕ) (ss : List ℕ) → RisesFrom low ss → b.ship < low → map (λ s. spot_of all (cond (b.ship == s) b (berth_of s bs))) ss ≡ map (λ s. spot_of all (berth_of s bs)) ss
skip_first all b bs low [] rises under = refl
skip_first all b bs low (s ∷ ss) rises under =
    let first = rises.0 in
    let other : (b.ship == s) ≡ false = ne_eqb b.ship s (λ same. absurd (omega (arith, same, under, first))) in
    ap (λ t. spot_of all (cond t b (berth_of s bs)) ∷ map (λ s. spot_of all (cond (b.ship == s) b (berth_of s bs))) ss) other
    ∙ ap (λ xs. spot_of all (berth_of s bs) ∷ xs) (skip_first all b bs (suc s) ss rises.1 (omega (arith, under, first)))

place_at : (low : ℕ) (ships : List ℕ) (k : ℕ) → RisesFrom low ships → k < length ships → place_of (get_or ships k 0) ships ≡ k
place_at low [] k rises within = absurd (omega (arith, within))
place_at low (s ∷ ss) zero rises within = ap (λ b. cond b zero (suc (place_of s ss))) (eq-eqb s s refl)
place_at low (s ∷ ss) (suc k) rises within =
    let later : s < get_or ss k 0 = later_at (suc s) ss k rises.1 (omega (arith, within)) in
    let other : (s == get_or ss k 0) ≡ false = ne_eqb s (get_or ss k 0) (λ same. absurd (omega (arith, same, later))) in
    ap (λ b. cond b zero (suc (place_of (get_or ss k 0) ss))) other ∙ ap suc (place_at (suc s) ss k rises.1 (omega (arith, within)))
  where
    later_at : (low : ℕ) (xs : List ℕ) (k : ℕ) → RisesFrom low xs → k < length xs → low ≤ get_or xs k 0
    later_at low [] k rises within = absurd (omega (arith, within))
    later_at low (x ∷ xs) zero rises within = rises.0
    later_at low (x ∷ xs) (suc k) rises within = let first = rises.0 in let rest = later_at (suc x) xs k rises.1 (omega (arith, within)) in omega (arith, first, rest)

moor_back : (ships : List ℕ) (m : Moor) → RisesFrom 0 ships → IsWritableMoor (length ships) m → moor_of ships (host_at ships m) ≡ m
moor_back ships Quay rises within = refl
moor_back ships (Ship k) rises within = ap Ship (place_at 0 ships k rises within)

spot_back : (ships : List ℕ) (n s : ℕ) (p : Spot) → RisesFrom 0 ships → IsWritableSpot (length ships) p → spot_of ships (made_berth ships n s p) ≡ p
spot_back ships n s p rises good = ap (λ m. record { x = p.x; y = p.y; rank = p.rank; moor = m }) (moor_back ships p.moor rises good.moor)

spots_back : (all : List ℕ) (n low : ℕ) (ss : List ℕ) (ps : List Spot) → RisesFrom 0 all → RisesFrom low ss → length ps ≡ length ss → All (IsWritableSpot (length all)) ps → map (λ s. spot_of all (berth_of s (made all n ss ps))) ss ≡ ps
spots_back all n low [] [] whole rises count good = refl
spots_back all n low [] (p ∷ ps) whole rises count good = absurd (omega (arith, count))
spots_back all n low (s ∷ ss) [] whole rises count good = absurd (omega (arith, count))
spots_back all n low (s ∷ ss) (p ∷ ps) whole rises count good =
    let b : Berth = made_berth all n s p in
    let bs = made all (n + 1) ss ps in
    ap (λ t. spot_of all (cond t b (berth_of s bs)) ∷ map (λ r. spot_of all (cond (s == r) b (berth_of r bs))) ss) (eq-eqb s s refl)
    ∙ ap (λ q. q ∷ map (λ r. spot_of all (cond (s == r) b (berth_of r bs))) ss) (spot_back all n s p whole (All-head (IsWritableSpot (length all)) p ps good))
    ∙ ap (λ qs. p ∷ qs) (skip_first all b bs (suc s) ss rises.1 (omega arith) ∙ spots_back all (n + 1) (suc s) ss ps whole rises.1 (omega (arith, count)) (All-tail (IsWritableSpot (length all)) p ps good))

-- ---- the hosts

is_in_at : (ships : List ℕ) (k : ℕ) → k < length ships → is_in (get_or ships k 0) ships ≡ true
is_in_at [] k within = absurd (omega (arith, within))
is_in_at (s ∷ ss) zero within = ap (λ b. b || is_in s ss) (eq-eqb s s refl)
is_in_at (s ∷ ss) (suc k) within = ap (λ b. (s == get_or ss k 0) || b) (is_in_at ss k (omega (arith, within))) ∙ or-true (s == get_or ss k 0)

host_back : (ships : List ℕ) (bs : List Berth) (m : Moor) → ((s : ℕ) → has_berth s bs ≡ is_in s ships) → IsWritableMoor (length ships) m → is_hosted_by bs (host_at ships m) ≡ true
host_back ships bs Quay same within = refl
host_back ships bs (Ship k) same within = same (get_or ships k 0) ∙ is_in_at ships k within

hosts_back : (ships : List ℕ) (bs : List Berth) (n : ℕ) (ss : List ℕ) (ps : List Spot) → ((s : ℕ) → has_berth s bs ≡ is_in s ships) → All (IsWritableSpot (length ships)) ps → check_hosts bs (made ships n ss ps) ≡ Ok tt
hosts_back ships bs n [] ps same good = refl
hosts_back ships bs n (s ∷ ss) [] same good = refl
hosts_back ships bs n (s ∷ ss) (p ∷ ps) same good =
    rw (host_back ships bs p.moor same (All-head (IsWritableSpot (length ships)) p ps good).moor) (hosts_back ships bs (n + 1) ss ps same (All-tail (IsWritableSpot (length ships)) p ps good))

pub made-hosts : (I : Instance) (l : Lockage) (n : ℕ) → IsWritable I l → check_hosts (made l.ships n l.ships l.spots) (made l.ships n l.ships l.spots) ≡ Ok tt
made-hosts I l n good = hosts_back l.ships (made l.ships n l.ships l.spots) n l.ships l.spots (λ s. made-has l.ships n l.ships l.spots s good.count) good.spots

-- ---- the lockage

abbrev pub head_of : Lockage → Head
head_of l = record { chamber = l.chamber; way = l.way; start = l.start }

pub made-lockage : (I : Instance) (l : Lockage) (n : ℕ) → IsWritable I l → lockage_of I (head_of l) (made l.ships n l.ships l.spots) ≡ l
unfolding lockage_of
made-lockage I l n good =
    let bs = made l.ships n l.ships l.spots in
    let ships : ships_of I bs ≡ l.ships = made-ships I n l.ships l.spots good.count good.rising good.known in
    let rises = RisesFrom-increasing l.ships good.rising in
    let spots : spots_of l.ships bs ≡ l.spots = spots_back l.ships n 0 l.ships l.spots rises rises good.count good.spots in
    ap (λ ss. record { chamber = l.chamber; way = l.way; ships = ss; start = l.start; spots = spots_of ss bs }) ships
    ∙ ap (λ ps. record { chamber = l.chamber; way = l.way; ships = l.ships; start = l.start; spots = ps }) spots
