-- What groups are charged: fewer ships no more, and where groups have each ship once, for each triple at most once.
use Rattle.std.proofs.Common.{◌≡◌, ℕ, ◌+◌, ◌*◌, ◌<◌, ◌≤◌, Bool, true, false, ◌&&◌, ◌||◌, cond, List, [], ◌∷◌, length, map, All, sum_by, filter, nat_eq, inl, inr, refl, ap, arith}
use Rattle.std.proofs.lemmas.Bool.Decides.{leb_tells}
use Rattle.std.proofs.lemmas.List.Sums.{sum_by-cons}
use Rattle.std.proofs.lemmas.List.Elements.{All-head, All-tail}
use Rattle.lock_model.specs.declared.instance.Instance.{Instance}
use Rattle.lock_model.specs.declared.plan.Lockage.{Lockage}
use Rattle.lock_model.specs.declared.plan.Plan.{Plan}
use Rattle.lock_rules.specs.Lines.{group_of, line_of, groups_of}
use Rattle.lock_rules.specs.Plan.{times_in, served_in, IsLegal}
use Rattle.lock_rules.specs.Arrival.{numbers_from}
use Rattle.lock_rules.specs.Trace.{has_number}
use Rattle.lock_rules.proofs.CountLemmas.{times_in-outside}
use Rattle.lock_rules.proofs.LeafLemmas.{has_number-some}
use Rattle.lock_rules.proofs.LegalLemmas.{legal-chambers, legal-ships}
use Rattle.lock_rules.proofs.LineLemmas.{sum_by-plus, sum_by-zero, sum_by-lines}
use Rattle.lock_rules.proofs.SplitLemmas.{has_number-none}
use Rattle.price_rules.specs.declared.triple.Triple.{Triple}
use Rattle.price_rules.specs.Prices.{PriceList, two_of, has_triple, charged_on, charged_in, charged_of, triples_among, triple_prices}

-- 1 where it is so
abbrev pub one : Bool → ℕ
one b = cond b 1 0

-- the price of the triple where the ships have it
abbrev charge : List ℕ → Triple → ℕ
charge ships t = cond (has_triple ships t) t.price 0

-- how many ships of the triple are among them
abbrev count_of : (ℕ → Bool) → Triple → ℕ
count_of among t = one (among t.first) + one (among t.second) + one (among t.third)

-- two of three
two-below : (among : ℕ → Bool) (t : Triple) → 2 * one (two_of among t) ≤ count_of among t
two-below among t = three (among t.first) (among t.second) (among t.third)
  where
    three : (a b c : Bool) → 2 * one (cond a (b || c) (b && c)) ≤ one a + one b + one c
    three true true c = omega arith
    three true false true = omega arith
    three true false false = omega arith
    three false true true = omega arith
    three false true false = omega arith
    three false false c = omega arith

two-above : (among : ℕ → Bool) (t : Triple) → count_of among t ≤ 1 + 2 * one (two_of among t)
two-above among t = three (among t.first) (among t.second) (among t.third)
  where
    three : (a b c : Bool) → one a + one b + one c ≤ 1 + 2 * one (cond a (b || c) (b && c))
    three true true true = omega arith
    three true true false = omega arith
    three true false true = omega arith
    three true false false = omega arith
    three false true true = omega arith
    three false true false = omega arith
    three false false true = omega arith
    three false false false = omega arith

-- what counts no more in ones comes to no more
weigh-parts : (w : ℕ) (a b c : Bool) → one a + one b ≤ one c → cond a w 0 + cond b w 0 ≤ cond c w 0
weigh-parts w true true true less = absurd (omega (arith, less))
weigh-parts w true true false less = absurd (omega (arith, less))
weigh-parts w true false true less = omega arith
weigh-parts w true false false less = absurd (omega (arith, less))
weigh-parts w false true true less = omega arith
weigh-parts w false true false less = absurd (omega (arith, less))
weigh-parts w false false c less = omega arith

weigh-once : {X : Type 0} (w : ℕ) (q : X → Bool) (xs : List X) (c : Bool) → sum_by (λ x. one (q x)) xs ≤ one c → sum_by (λ x. cond (q x) w 0) xs ≤ cond c w 0
weigh-once w q [] c less = omega arith
weigh-once w q (x ∷ xs) c less =
    step (q x) c (sum_by-cons (λ x. one (q x)) x xs) (sum_by-cons (λ x. cond (q x) w 0) x xs) less (weigh-once w q xs)
  where
    step : (a c : Bool) → sum_by (λ x. one (q x)) (x ∷ xs) ≡ one a + sum_by (λ x. one (q x)) xs → sum_by (λ x. cond (q x) w 0) (x ∷ xs) ≡ cond a w 0 + sum_by (λ x. cond (q x) w 0) xs
        → sum_by (λ x. one (q x)) (x ∷ xs) ≤ one c → ((d : Bool) → sum_by (λ x. one (q x)) xs ≤ one d → sum_by (λ x. cond (q x) w 0) xs ≤ cond d w 0)
        → sum_by (λ x. cond (q x) w 0) (x ∷ xs) ≤ cond c w 0
    step true true ones all less rest = omega (arith, ones, all, less, rest false (omega (arith, ones, less)))
    step true false ones all less rest = absurd (omega (arith, ones, less))
    step false c ones all less rest = omega (arith, ones, all, less, rest c (omega (arith, ones, less)))

-- a list has a ship no oftener than it names it
pub has-times : (ss : List ℕ) (s : ℕ) → one (has_number ss s) ≤ times_in ss s
has-times ss s =
    elim (leb_tells 1 (times_in ss s)) [
      | inl some ↦ omega (arith, some.1, ap one (has_number-some ss s some.1))
      | inr none ↦ omega (arith, ap one (has_number-none ss s (omega (arith, none.1))))
    ]

module _ {X : Type 0} (ships : X → List ℕ) (xs : List X) (among : ℕ → Bool) (each : (s : ℕ) → sum_by (λ x. one (has_number (ships x) s)) xs ≤ one (among s)) where
  -- how often ship s stands in them
  abbrev stands : ℕ → List X → ℕ
  stands s ys = sum_by (λ x. one (has_number (ships x) s)) ys

  having-below : (t : Triple) (ys : List X) → 2 * sum_by (λ x. one (has_triple (ships x) t)) ys ≤ stands t.first ys + stands t.second ys + stands t.third ys
  having-below t [] = omega arith
  having-below t (y ∷ ys) =
      omega (
        arith,
        having-below t ys,
        two-below (has_number (ships y)) t,
        sum_by-cons (λ x. one (has_triple (ships x) t)) y ys,
        sum_by-cons (λ x. one (has_number (ships x) t.first)) y ys,
        sum_by-cons (λ x. one (has_number (ships x) t.second)) y ys,
        sum_by-cons (λ x. one (has_number (ships x) t.third)) y ys,
      )

  -- at most one has the triple, and none where fewer than two of its ships may stand in them
  charged-once : (t : Triple) → sum_by (λ x. charge (ships x) t) xs ≤ cond (two_of among t) t.price 0
  charged-once t =
      weigh-once t.price (λ x. has_triple (ships x) t) xs (two_of among t)
      (omega (arith, having-below t xs, two-above among t, each t.first, each t.second, each t.third))

  charged-all : (ts : List Triple) → sum_by (λ x. sum_by (charge (ships x)) ts) xs ≤ sum_by (λ t. cond (two_of among t) t.price 0) ts
  charged-all [] = omega (arith, sum_by-zero xs)
  charged-all (t ∷ ts) =
      let parts : sum_by (λ x. sum_by (charge (ships x)) (t ∷ ts)) xs ≡ sum_by (λ x. charge (ships x) t + sum_by (charge (ships x)) ts) xs =
      λ i. sum_by (λ x. sum_by-cons (charge (ships x)) t ts i) xs in
      omega (
        arith,
        parts,
        sum_by-plus (λ x. charge (ships x) t) (λ x. sum_by (charge (ships x)) ts) xs,
        charged-once t,
        charged-all ts,
        sum_by-cons (λ t. cond (two_of among t) t.price 0) t ts,
      )

  -- WHERE GROUPS HAVE EACH SHIP AT MOST ONCE they are charged for each triple at most once, and only where two of its ships stand in them.
  pub charged-among : (prices : PriceList) → sum_by (λ x. charged_on prices (ships x)) xs ≤ triples_among prices among
  charged-among prices = charged-all prices.triples

-- Ships that are divided in two are charged no more than together.
pub charged-parts : (prices : PriceList) (some others all : ℕ → Bool) → ((s : ℕ) → one (some s) + one (others s) ≤ one (all s))
    → triples_among prices some + triples_among prices others ≤ triples_among prices all
charged-parts prices some others all each = parts prices.triples
  where
    parts : (ts : List Triple) → sum_by (λ t. cond (two_of some t) t.price 0) ts + sum_by (λ t. cond (two_of others t) t.price 0) ts ≤ sum_by (λ t. cond (two_of all t) t.price 0) ts
    parts [] = omega arith
    parts (t ∷ ts) =
        omega (
          arith,
          parts ts,
          weigh-parts t.price (two_of some t) (two_of others t) (two_of all t)
              (omega (arith, two-below some t, two-below others t, two-above all t, each t.first, each t.second, each t.third)),
          sum_by-cons (λ t. cond (two_of some t) t.price 0) t ts,
          sum_by-cons (λ t. cond (two_of others t) t.price 0) t ts,
          sum_by-cons (λ t. cond (two_of all t) t.price 0) t ts,
        )

-- FEWER SHIPS are charged no more.
pub charged-fewer : (prices : PriceList) (few all : List ℕ) → ((s : ℕ) → one (has_number few s) ≤ one (has_number all s)) → charged_on prices few ≤ charged_on prices all
charged-fewer prices few all each =
    omega (arith, charged-parts prices (has_number few) (λ s. false) (has_number all) (λ s. omega (arith, each s)))

-- some of the ships have no other ship
filter-has : (p : ℕ → Bool) (xs : List ℕ) (s : ℕ) → one (has_number (filter p xs) s) ≤ one (has_number xs s)
filter-has p [] s = omega arith
filter-has p (x ∷ xs) s =
    elim (p x) as (λ b. one (has_number (cond b (x ∷ filter p xs) (filter p xs)) s) ≤ one (has_number (x ∷ xs) s)) [
      | true ↦ both (nat_eq x s) (has_number (filter p xs) s) (has_number xs s) (filter-has p xs s)
      | false ↦ more (nat_eq x s) (has_number (filter p xs) s) (has_number xs s) (filter-has p xs s)
    ]
  where
    both : (e a b : Bool) → one a ≤ one b → one (e || a) ≤ one (e || b)
    both true a b less = omega arith
    both false a b less = less

    more : (e a b : Bool) → one a ≤ one b → one a ≤ one (e || b)
    more true true b less = omega arith
    more true false b less = omega arith
    more false a b less = less

pub charged-filter : (prices : PriceList) (p : ℕ → Bool) (ships : List ℕ) → charged_on prices (filter p ships) ≤ charged_on prices ships
charged-filter prices p ships = charged-fewer prices (filter p ships) ships (filter-has p ships)

module _ (I : Instance) (P : Plan) (legal : IsLegal I P) where
  -- the lockages of a legal plan have each ship at most once
  once-stands : (s : ℕ) → sum_by (λ (l : Lockage). one (has_number l.ships s)) P.lockages ≤ 1
  once-stands s =
      elim (leb_tells (length I.ships) s) [
        | inl past ↦ omega (arith, served P.lockages, outside P.lockages (legal-ships I P legal) past.1)
        | inr known ↦ omega (arith, served P.lockages, legal.once s known.1)
      ]
    where
      served : (ls : List Lockage) → sum_by (λ (l : Lockage). one (has_number l.ships s)) ls ≤ served_in ls s
      served [] = omega arith
      served (l ∷ ls) = omega (arith, served ls, has-times l.ships s, sum_by-cons (λ (l : Lockage). one (has_number l.ships s)) l ls)

      outside : (ls : List Lockage) → All (λ (l : Lockage). All (λ x. x < length I.ships) l.ships) ls → length I.ships ≤ s → served_in ls s ≡ 0
      outside [] all past = refl
      outside (l ∷ ls) all past =
          omega (
            arith,
            times_in-outside (length I.ships) l.ships s (All-head (λ (l : Lockage). All (λ x. x < length I.ships) l.ships) l ls all) past,
            outside ls (All-tail (λ (l : Lockage). All (λ x. x < length I.ships) l.ships) l ls all) past,
          )

  charged-groups : (prices : PriceList) (ls : List Lockage) → charged_in prices (map group_of ls) ≡ sum_by (λ l. charged_on prices l.ships) ls
  charged-groups prices [] = refl
  charged-groups prices (l ∷ ls) = omega (arith, charged-groups prices ls, sum_by-cons (λ (l : Lockage). charged_on prices l.ships) l ls)

  -- A LEGAL PLAN IS CHARGED for each triple at most once.
  pub plan-charged : (prices : PriceList) → charged_of I prices (groups_of P) ≤ triple_prices prices
  plan-charged prices =
      let m = length I.chambers in
      let lines : charged_of I prices (groups_of P) ≡ sum_by (λ c. sum_by (λ (l : Lockage). charged_on prices l.ships) (line_of P c)) (numbers_from 0 m) =
      λ i. sum_by (λ c. charged-groups prices (line_of P c) i) (numbers_from 0 m) in
      omega (
        arith,
        lines,
        sum_by-lines (λ (l : Lockage). charged_on prices l.ships) m P (legal-chambers I P legal),
        charged-among (λ (l : Lockage). l.ships) P.lockages (λ s. true) once-stands prices,
      )
