-- The chamber or the ship that a name stands for.
use Rattle.std.proofs.Common.{◌≡◌, ℕ, ◌<◌, ◌≤◌, Bool, true, false, List, Ok, Err, Some, None, cond, nat_lt, length, get_or, ap, ◌∙◌, arith}
use Rattle.std.specs.Str.{bytes_eq}
use Rattle.std.specs.List.{position_or_len}
use Rattle.std.specs.Option.{ok_or}
use Rattle.std.proofs.lemmas.Bool.Decides.{nat_tests}
use Rattle.std.proofs.lemmas.List.Sums.{position_or_len_is}
use Rattle.lock_model.specs.Fleet.{no_chamber, no_ship}
use Rattle.lock_model.specs.declared.chamber.Chamber.{Chamber}
use Rattle.lock_model.specs.declared.ship.Ship.{Ship}
use Rattle.plan_text.specs.declared.kinds.PlanKind.{PlanKind}
use Rattle.plan_text.specs.declared.kinds.PlanKind.TheVariants.{Unknown}
use Rattle.plan_text.specs.Words.{chamber_named, ship_named}

found_at : (n size : ℕ) → n < size → ok_or {E = PlanKind} (cond (nat_lt n size) (Some n) None) Unknown ≡ Ok n
found_at n size low = let test : nat_lt n size ≡ true = grind (arith, nat_tests) in ap (λ b. ok_or {E = PlanKind} (cond b (Some n) None) Unknown) test

found_nowhere : (n size : ℕ) → size ≤ n → ok_or {E = PlanKind} (cond (nat_lt n size) (Some n) None) Unknown ≡ Err Unknown
found_nowhere n size high = let test : nat_lt n size ≡ false = grind (arith, nat_tests) in ap (λ b. ok_or {E = PlanKind} (cond b (Some n) None) Unknown) test

-- of any things with names
first_at : {X : Type 0} (is : X → Bool) (xs : List X) (i : ℕ) (d : X) → i < length xs → ((k : ℕ) → k < i → is (get_or xs k d) ≡ false) → is (get_or xs i d) ≡ true → ok_or {E = PlanKind} (cond (nat_lt (position_or_len is xs) (length xs)) (Some (position_or_len is xs)) None) Unknown ≡ Ok i
first_at is xs i d low before here =
    let place : position_or_len is xs ≡ i = position_or_len_is is xs i d (omega arith) before (λ _. here) in
    ap (λ n. ok_or {E = PlanKind} (cond (nat_lt n (length xs)) (Some n) None) Unknown) place ∙ found_at i (length xs) low

first_nowhere : {X : Type 0} (is : X → Bool) (xs : List X) (i : ℕ) (d : X) → length xs ≤ i → i ≤ length xs → ((k : ℕ) → k < i → is (get_or xs k d) ≡ false) → ok_or {E = PlanKind} (cond (nat_lt (position_or_len is xs) (length xs)) (Some (position_or_len is xs)) None) Unknown ≡ Err Unknown
first_nowhere is xs i d high low before =
    let place : position_or_len is xs ≡ i = position_or_len_is is xs i d low before (λ more. absurd (omega arith)) in
    ap (λ n. ok_or {E = PlanKind} (cond (nat_lt n (length xs)) (Some n) None) Unknown) place ∙ found_nowhere i (length xs) high

pub chamber_at_name : (chambers : List Chamber) (word : List ℕ) (i : ℕ) → i < length chambers → ((k : ℕ) → k < i → bytes_eq word (get_or chambers k no_chamber).name ≡ false) → bytes_eq word (get_or chambers i no_chamber).name ≡ true → chamber_named chambers word ≡ Ok i
unfolding chamber_named
chamber_at_name chambers word i low before here = first_at (λ (c : Chamber). bytes_eq word c.name) chambers i no_chamber low before here

pub no_chamber_named : (chambers : List Chamber) (word : List ℕ) (i : ℕ) → length chambers ≤ i → i ≤ length chambers → ((k : ℕ) → k < i → bytes_eq word (get_or chambers k no_chamber).name ≡ false) → chamber_named chambers word ≡ Err Unknown
unfolding chamber_named
no_chamber_named chambers word i high low before = first_nowhere (λ (c : Chamber). bytes_eq word c.name) chambers i no_chamber high low before

pub ship_at_name : (ships : List Ship) (word : List ℕ) (i : ℕ) → i < length ships → ((k : ℕ) → k < i → bytes_eq word (get_or ships k no_ship).name ≡ false) → bytes_eq word (get_or ships i no_ship).name ≡ true → ship_named ships word ≡ Ok i
unfolding ship_named
ship_at_name ships word i low before here = first_at (λ (s : Ship). bytes_eq word s.name) ships i no_ship low before here

pub no_ship_named : (ships : List Ship) (word : List ℕ) (i : ℕ) → length ships ≤ i → i ≤ length ships → ((k : ℕ) → k < i → bytes_eq word (get_or ships k no_ship).name ≡ false) → ship_named ships word ≡ Err Unknown
unfolding ship_named
no_ship_named ships word i high low before = first_nowhere (λ (s : Ship). bytes_eq word s.name) ships i no_ship high low before
