-- A lot is within the limits of an instance.
use Rattle.std.proofs.Common.{◌≡◌, ◌≢◌, ℕ, zero, suc, ◌+◌, ◌-◌, ◌*◌, ◌%◌, ◌<◌, ◌≤◌, ◌^◌, min, Bool, true, false, ◌&&◌, ◌||◌, nat_eq, List, [], ◌∷◌, ◌++◌, length, take, get_or, All, AllPairs, codes, decimal, sym, ap, refl, subst, ◌∙◌, arith, lit≤, lit<}
use Rattle.std.proofs.lemmas.List.{length-take, get_or-take, append_cancel_left, append_assoc, take_more, length-append}
use Rattle.std.proofs.lemmas.List.Elements.{All-nil, All-cons, All-take, All-push, All-append}
use Rattle.std.proofs.lemmas.List.Sums.{AllPass-from_list_all}
use Rattle.std.proofs.lemmas.Bool.Decides.{nat_tests}
use Rattle.std.proofs.lemmas.Fmt.{decimal_injective, length-decimal-le, decimal_by_steps}
use Rattle.lock_model.specs.declared.limits.TheConstants.{CHAMBERS, SHIPS, SHIPS_AND_ROOT}
use Rattle.lock_model.specs.Limits.{IsName, is_name_byte, is_between}
use Rattle.lock_model.specs.Fleet.{no_chamber}
use Rattle.lock_model.specs.Instance.{IsChamber, IsShip, IsInstance}
use Rattle.lock_model.specs.Closures.{AreClosures, IsClosure}
use Rattle.lock_model.specs.declared.chamber.Chamber.{Chamber}
use Rattle.lock_model.specs.declared.ship.Ship.{Ship}
use Rattle.lock_model.specs.declared.way.Stand.{Stand}
use Rattle.lock_model.specs.declared.way.Stand.TheVariants.{Low, High}
use Rattle.instance_text.specs.Lot.{draw, after_draws, lot_ship, lot_ships, lot_chamber, lot_chambers}

pub limits_of : (cs cs' : List Chamber) (ss ss' : List Ship) → cs ≡ cs' → ss ≡ ss' → IsInstance cs' ss' → IsInstance cs ss
limits_of cs cs' ss ss' p q limits = subst (λ xs. IsInstance xs ss) (sym p) (subst (λ ys. IsInstance cs' ys) (sym q) limits)

length-lot_chambers : length lot_chambers ≡ 4
unfolding lot_chambers
length-lot_chambers = refl

pub one_more_chamber : (so_far new : List Chamber) (chamber : Chamber) (i : ℕ) → i < CHAMBERS → so_far ≡ take i lot_chambers → chamber ≡ get_or lot_chambers i no_chamber → new ≡ so_far ++ chamber ∷ [] → new ≡ take (i + 1) lot_chambers
one_more_chamber so_far new chamber i low is here next =
    let inside : i < length lot_chambers = omega (arith, length-lot_chambers) in
    next ∙ ap (λ xs. xs ++ chamber ∷ []) is ∙ ap (λ c. take i lot_chambers ++ c ∷ []) here ∙ sym (take_more lot_chambers i no_chamber inside)

-- one more ship of those that are left
pub one_more_ship : (so_far new all : List Ship) (ship : Ship) (n i state state' arrival : ℕ) → i < n → so_far ++ lot_ships (n - i) (i + 1) state arrival ≡ all → ship ≡ lot_ship (i + 1) state arrival → state' ≡ after_draws 5 state → new ≡ so_far ++ ship ∷ [] → new ++ lot_ships (n - (i + 1)) (i + 1 + 1) state' ship.arrival ≡ all
one_more_ship so_far new all ship n i state state' arrival low whole is later next =
    let left : n - i ≡ suc (n - (i + 1)) = omega arith in
    ap (λ xs. xs ++ lot_ships (n - (i + 1)) (i + 1 + 1) state' ship.arrival) next
    ∙ append_assoc so_far (ship ∷ []) (lot_ships (n - (i + 1)) (i + 1 + 1) state' ship.arrival)
    ∙ ap (λ s. so_far ++ ship ∷ lot_ships (n - (i + 1)) (i + 1 + 1) s ship.arrival) later
    ∙ ap (λ (s : Ship). so_far ++ s ∷ lot_ships (n - (i + 1)) (i + 1 + 1) (after_draws 5 state) s.arrival) is
    ∙ ap (λ k. so_far ++ lot_ships k (i + 1) state arrival) (sym left)
    ∙ whole

-- the chambers
no_closures : AreClosures []
no_closures = record { few = lit≤ tt; each = All-nil IsClosure; rising = λ i j d lt low. absurd (omega arith) }

two_byte_name : (a b : ℕ) → (is_name_byte a && (is_name_byte b && true)) ≡ true → IsName (a ∷ b ∷ [])
two_byte_name a b allowed = record { count = (lit≤ tt, lit≤ tt); allowed = AllPass-from_list_all is_name_byte (a ∷ b ∷ []) allowed }

lot_chamber_good : (b length width most pass turn : ℕ) (stands : Stand) → (is_name_byte 99 && (is_name_byte b && true)) ≡ true → (1 ≤ length) × (length ≤ 100000) → (1 ≤ width) × (width ≤ 100000) → (1 ≤ most) × (most ≤ 8) → (1 ≤ pass) × (pass ≤ 1000000) → turn ≤ pass → IsChamber (lot_chamber (99 ∷ b ∷ []) length width most pass turn stands)
lot_chamber_good b length width most pass turn stands allowed l w m p t = record { name = two_byte_name 99 b allowed; length = l; width = w; end = lit≤ tt; gap = lit≤ tt; side = lit≤ tt; most = m; pass = p; turn = t; opens = lit≤ tt; closures = no_closures }

abbrev c1 : Chamber
c1 = lot_chamber (codes "c1") 2000 240 6 30 15 Low

abbrev c2 : Chamber
c2 = lot_chamber (codes "c2") 1360 160 4 20 10 High

abbrev c3 : Chamber
c3 = lot_chamber (codes "c3") 1900 180 4 25 12 Low

abbrev c4 : Chamber
c4 = lot_chamber (codes "c4") 1200 125 2 20 10 High

lot_chambers_good : All IsChamber lot_chambers
unfolding lot_chambers
lot_chambers_good =
    All-cons IsChamber c1 (c2 ∷ c3 ∷ c4 ∷ []) (lot_chamber_good 49 2000 240 6 30 15 Low refl (lit≤ tt, lit≤ tt) (lit≤ tt, lit≤ tt) (lit≤ tt, lit≤ tt) (lit≤ tt, lit≤ tt) (lit≤ tt))
    (All-cons IsChamber c2 (c3 ∷ c4 ∷ []) (lot_chamber_good 50 1360 160 4 20 10 High refl (lit≤ tt, lit≤ tt) (lit≤ tt, lit≤ tt) (lit≤ tt, lit≤ tt) (lit≤ tt, lit≤ tt) (lit≤ tt))
    (All-cons IsChamber c3 (c4 ∷ []) (lot_chamber_good 51 1900 180 4 25 12 Low refl (lit≤ tt, lit≤ tt) (lit≤ tt, lit≤ tt) (lit≤ tt, lit≤ tt) (lit≤ tt, lit≤ tt) (lit≤ tt))
    (All-cons IsChamber c4 [] (lot_chamber_good 52 1200 125 2 20 10 High refl (lit≤ tt, lit≤ tt) (lit≤ tt, lit≤ tt) (lit≤ tt, lit≤ tt) (lit≤ tt, lit≤ tt) (lit≤ tt))
    (All-nil IsChamber))))

AllPairs-cons : {X : Type 0} (R : X → X → Type 0) (x : X) (xs : List X) → All (R x) xs → AllPairs R xs → AllPairs R (x ∷ xs)
AllPairs-cons R x xs first rest zero zero d lt low = absurd (omega arith)
AllPairs-cons R x xs first rest zero (suc j) d lt low = first j d (omega arith)
AllPairs-cons R x xs first rest (suc i) zero d lt low = absurd (omega arith)
AllPairs-cons R x xs first rest (suc i) (suc j) d lt low = rest i j d (omega arith) (omega arith)

AllPairs-take : {X : Type 0} (R : X → X → Type 0) (n : ℕ) (xs : List X) → AllPairs R xs → AllPairs R (take n xs)
AllPairs-take R n xs pairs i j d lt low =
    let inside : j < min n (length xs) = subst (λ k. j < k) (length-take n xs) low in
    subst (λ y. R (get_or (take n xs) i d) y) (sym (get_or-take n xs j d (omega arith))) (subst (λ y. R y (get_or xs j d)) (sym (get_or-take n xs i d (omega arith))) (pairs i j d lt (omega arith)))

abbrev Differ : Chamber → Chamber → Type 0
Differ a b = a.name ≢ b.name

second_differs : (a b : ℕ) → a ≢ b → (99 ∷ a ∷ []) ≢ (99 ∷ b ∷ [])
second_differs a b differ same = differ (ap (λ xs. get_or xs 1 0) same)

lot_names : AllPairs Differ lot_chambers
unfolding lot_chambers
lot_names =
    AllPairs-cons Differ c1 (c2 ∷ c3 ∷ c4 ∷ []) (All-cons (Differ c1) c2 (c3 ∷ c4 ∷ []) (second_differs 49 50 (λ e. omega arith)) (All-cons (Differ c1) c3 (c4 ∷ []) (second_differs 49 51 (λ e. omega arith)) (All-cons (Differ c1) c4 [] (second_differs 49 52 (λ e. omega arith)) (All-nil (Differ c1)))))
    (AllPairs-cons Differ c2 (c3 ∷ c4 ∷ []) (All-cons (Differ c2) c3 (c4 ∷ []) (second_differs 50 51 (λ e. omega arith)) (All-cons (Differ c2) c4 [] (second_differs 50 52 (λ e. omega arith)) (All-nil (Differ c2))))
    (AllPairs-cons Differ c3 (c4 ∷ []) (All-cons (Differ c3) c4 [] (second_differs 51 52 (λ e. omega arith)) (All-nil (Differ c3)))
    (AllPairs-cons Differ c4 [] (All-nil (Differ c4)) (λ i j d lt low. absurd (omega arith)))))

-- the ships
draw_below : (state k n : ℕ) → 0 < n → draw state k n < n
unfolding draw
draw_below state k n some = omega arith

third_of : (x y z w : Bool) → (x || y || true || z || w) ≡ true
third_of true true z w = refl
third_of true false z w = refl
third_of false true z w = refl
third_of false false z w = refl

digit_in_name : (b : ℕ) → 48 ≤ b → b ≤ 57 → is_name_byte b ≡ true
digit_in_name b low high =
    let digit : is_between 48 57 b ≡ true = grind (arith, nat_tests) in
    ap (λ t. is_between 65 90 b || is_between 97 122 b || t || nat_eq b 45 || nat_eq b 95) digit ∙ third_of (is_between 65 90 b) (is_between 97 122 b) (nat_eq b 45) (nat_eq b 95)

pub name_digits : (i : ℕ) → i < 2 ^ 64 → All (λ b. is_name_byte b ≡ true) (decimal i)
name_digits i small = decimal_by_steps (λ m ds. All (λ b. is_name_byte b ≡ true) ds)
    (λ m low. All-cons (λ b. is_name_byte b ≡ true) (48 + m) [] (digit_in_name (48 + m) (omega arith) (omega arith)) (All-nil (λ b. is_name_byte b ≡ true)))
    (λ m ds high all. All-push (λ b. is_name_byte b ≡ true) ds (48 + m % 10) all (digit_in_name (48 + m % 10) (omega arith) (omega arith)))
    i small

lot_ship_good : (i state arrival : ℕ) → i ≤ SHIPS → arrival ≤ SHIPS * 40 → IsShip (lot_ship i state arrival)
unfolding lot_ship
lot_ship_good i state arrival few early = record {
  name = record {
    count = let short = length-decimal-le 2 i (lit< tt) (omega arith) (omega arith) in let whole = length-append (codes "s") (decimal i) in (omega arith, omega arith);
    allowed = All-append (λ b. is_name_byte b ≡ true) (codes "s") (decimal i) (AllPass-from_list_all is_name_byte (codes "s") refl) (name_digits i (omega arith));
  };
  length = let d = draw_below state 2 73 (lit< tt) in (omega arith, omega arith);
  width = let d = draw_below state 3 65 (lit< tt) in (omega arith, omega arith);
  arrival = let d = draw_below state 4 40 (lit< tt) in omega arith;
  handling = let d = draw_below state 5 6 (lit< tt) in omega arith;
  cargo = lit≤ tt;
}

lot_ship_arrival : (i state arrival : ℕ) → (lot_ship i state arrival).arrival ≤ arrival + 39
unfolding lot_ship
lot_ship_arrival i state arrival = let d = draw_below state 4 40 (lit< tt) in omega arith

lot_ship_name : (i state arrival : ℕ) → (lot_ship i state arrival).name ≡ codes "s" ++ decimal i
unfolding lot_ship
lot_ship_name i state arrival = refl

length-lot_ships : (n i state arrival : ℕ) → length (lot_ships n i state arrival) ≡ n
length-lot_ships zero i state arrival = refl
length-lot_ships (suc n) i state arrival = ap suc (length-lot_ships n (i + 1) (after_draws 5 state) (lot_ship i state arrival).arrival)

lot_ships_good : (n i state arrival : ℕ) → i + n ≤ SHIPS_AND_ROOT → arrival + 39 * n ≤ SHIPS * 40 → All IsShip (lot_ships n i state arrival)
lot_ships_good zero i state arrival few early = All-nil IsShip
lot_ships_good (suc n) i state arrival few early =
    let later = lot_ship_arrival i state arrival in
    All-cons IsShip (lot_ship i state arrival) (lot_ships n (i + 1) (after_draws 5 state) (lot_ship i state arrival).arrival) (lot_ship_good i state arrival (omega arith) (omega arith)) (lot_ships_good n (i + 1) (after_draws 5 state) (lot_ship i state arrival).arrival (omega arith) (omega arith))

abbrev ShipsDiffer : Ship → Ship → Type 0
ShipsDiffer a b = a.name ≢ b.name

later_names : (n i j state arrival : ℕ) (name : List ℕ) → name ≡ codes "s" ++ decimal j → j < i → i + n ≤ SHIPS_AND_ROOT → All (λ s. name ≢ s.name) (lot_ships n i state arrival)
later_names zero i j state arrival name is low few = All-nil (λ s. name ≢ s.name)
later_names (suc n) i j state arrival name is low few =
    All-cons (λ s. name ≢ s.name) (lot_ship i state arrival) (lot_ships n (i + 1) (after_draws 5 state) (lot_ship i state arrival).arrival)
    (λ same. let number : j ≡ i = decimal_injective j i (omega arith) (omega arith) (append_cancel_left (codes "s") (decimal j) (decimal i) (sym is ∙ same ∙ lot_ship_name i state arrival)) in omega arith)
    (later_names n (i + 1) j (after_draws 5 state) (lot_ship i state arrival).arrival name is (omega arith) (omega arith))

lot_ship_names : (n i state arrival : ℕ) → i + n ≤ SHIPS_AND_ROOT → AllPairs ShipsDiffer (lot_ships n i state arrival)
lot_ship_names zero i state arrival few = λ a b d lt low. absurd (omega arith)
lot_ship_names (suc n) i state arrival few =
    AllPairs-cons ShipsDiffer (lot_ship i state arrival) (lot_ships n (i + 1) (after_draws 5 state) (lot_ship i state arrival).arrival)
    (later_names n (i + 1) i (after_draws 5 state) (lot_ship i state arrival).arrival (lot_ship i state arrival).name (lot_ship_name i state arrival) (omega arith) (omega arith))
    (lot_ship_names n (i + 1) (after_draws 5 state) (lot_ship i state arrival).arrival (omega arith))

pub lot_limits : (number ships chambers : ℕ) → 1 ≤ ships → ships ≤ SHIPS → 1 ≤ chambers → chambers ≤ CHAMBERS → IsInstance (take chambers lot_chambers) (lot_ships ships 1 number 0)
lot_limits number ships chambers some_ships few_ships some_chambers few_chambers =
    let c = length-take chambers lot_chambers in
    let four = length-lot_chambers in
    let s = length-lot_ships ships 1 number 0 in
    record {
      chamber_count = (omega arith, omega arith);
      ship_count = (omega arith, omega arith);
      chamber = All-take IsChamber chambers lot_chambers lot_chambers_good;
      ship = lot_ships_good ships 1 number 0 (omega arith) (omega arith);
      chamber_names = AllPairs-take Differ chambers lot_chambers lot_names;
      ship_names = lot_ship_names ships 1 number 0 (omega arith);
    }
