-- Lines that were printed read back.
use Rattle.std.proofs.Common.{◌≡◌, ◌≢◌, ℕ, ◌<◌, ◌≤◌, ◌==◌, Bool, true, false, cond, nat_lt, nat_le, List, [], ◌∷◌, ◌++◌, length, map, get_or, set, All, Result, Ok, decimal, codes, sym, ap, refl, subst, ◌∙◌, arith}
use Rattle.std.specs.List.{list_any, insert, position_or_len}
use Rattle.std.specs.Str.{bytes_eq}
use Rattle.std.proofs.lemmas.Bool.Decides.{nat_tests}
use Rattle.std.proofs.lemmas.List.{length-append, get_or_at, get_or_append_left, set_at, length_push}
use Rattle.std.proofs.lemmas.List.Edits.{insert_end}
use Rattle.std.proofs.lemmas.List.Folds.{list_any_none}
use Rattle.std.proofs.lemmas.List.Sums.{position_or_len_is}
use Rattle.std.proofs.lemmas.Slice.Eq.{bytes_eq-Decides}
use Rattle.lock_model.specs.declared.limits.TheConstants.{CHAMBERS, CLOSURES, MOST}
use Rattle.lock_model.specs.Limits.{IsName}
use Rattle.lock_model.specs.Closures.{IsClosure, AreClosures}
use Rattle.lock_model.specs.Fleet.{no_chamber}
use Rattle.lock_model.specs.Instance.{IsChamber, IsShip}
use Rattle.lock_model.specs.declared.chamber.Chamber.{Chamber}
use Rattle.lock_model.specs.declared.closure.Closure.{Closure}
use Rattle.lock_model.specs.declared.ship.Ship.{Ship}
use Rattle.instance_text.specs.declared.bad.Kind.{Kind}
use Rattle.instance_text.specs.declared.bad.Kind.TheVariants.{Range, Overlap}
use Rattle.instance_text.specs.declared.format.Format.{Format}
use Rattle.instance_text.specs.declared.format.Format.TheVariants.{First, Second, Third}
use Rattle.line_text.specs.declared.progress.Progress.TheVariants.{More, Ended}
use Rattle.line_text.specs.Steps.{◌>>=◌, ◌>>◌, check}
use Rattle.instance_text.specs.Words.{number}
use Rattle.instance_text.specs.Draft.{Draft}
use Rattle.instance_text.specs.Chamber.{read_chamber}
use Rattle.instance_text.specs.Ship.{read_ship, cargo, is_ship_count, most_ships}
use Rattle.instance_text.specs.Closing.{has_closures, read_closing, chamber_named, with_closure, closures_of, put_closure, share_a_minute, is_free}
use Rattle.instance_text.specs.Reading.{read_line, read_end, add_chamber, add_ship, add_closure}
use Rattle.instance_text.specs.Canonical.{chamber_words, closing_words, ship_words, way_word}
use Rattle.instance_text.proofs.ClosingLemmas.{named_at}
use Rattle.instance_text.proofs.ClosureLemmas.{closures_at}
use Rattle.instance_text.proofs.WordBackLemmas.{number_back, name_back, new_name_back, way_back, stand_back}

-- a chamber without its closures, as its own line gives it
abbrev pub bare : Chamber → Chamber
bare c = record c { closures = [] }

read_chamber_back : (earlier : List Chamber) (c : Chamber) → length earlier < CHAMBERS → IsChamber c → All (λ e. e ≢ c.name) (map (λ o. o.name) earlier) → read_chamber earlier (chamber_words c) ≡ Ok (bare c)
unfolding read_chamber chamber_words
read_chamber_back earlier c room good new =
    let free : nat_lt (length earlier) CHAMBERS ≡ true = grind (arith, nat_tests) in
    let turns : nat_le c.turn c.pass ≡ true = let t = good.turn in grind (arith, nat_tests) in
    let most = good.most in
    let long = good.length in
    let wide = good.width in
    let pass = good.pass in
    let turn = good.turn in
    rw (
      free,
      new_name_back (map (λ o. o.name) earlier) c.name good.name new,
      number_back 1 100000 c.length long.0 long.1 (omega arith),
      number_back 1 100000 c.width wide.0 wide.1 (omega arith),
      number_back 0 10000 c.end (omega arith) good.end (let h = good.end in omega arith),
      number_back 0 10000 c.gap (omega arith) good.gap (let h = good.gap in omega arith),
      number_back 0 10000 c.side (omega arith) good.side (let h = good.side in omega arith),
      number_back 1 MOST c.most most.0 most.1 (omega arith),
      number_back 1 1000000 c.pass pass.0 pass.1 (omega arith),
      number_back 0 1000000 c.turn (omega arith) (omega arith) (omega arith),
      stand_back c.stands,
      number_back 0 1000000 c.opens (omega arith) good.opens (let h = good.opens in omega arith),
      turns,
    ) refl

pub chamber_line_back : (format : Format) (d : Draft) (c : Chamber) → length d.chambers < CHAMBERS → IsChamber c → All (λ e. e ≢ c.name) (map (λ o. o.name) d.chambers) → read_line format d (chamber_words c) ≡ Ok (More, record d { chambers = d.chambers ++ bare c ∷ [] })
unfolding read_line add_chamber chamber_words
chamber_line_back format d c room good new = rw (read_chamber_back d.chambers c room good new) refl

-- a ship in a format that has room for its class
seven : Ship → List (List ℕ)
seven s = codes "ship" ∷ s.name ∷ way_word s.way ∷ decimal s.length ∷ decimal s.width ∷ decimal s.arrival ∷ decimal s.handling ∷ []

counted : (format : Format) → is_ship_count format 7 ≡ true
counted First = refl
counted Second = refl
counted Third = refl

ship_back : (format : Format) (earlier : List Ship) (s : Ship) (harmless : Bool) → (s.cargo == 0) ≡ harmless → (harmless ≡ false → is_ship_count format 8 ≡ true) → length earlier < most_ships format → IsShip s → All (λ e. e ≢ s.name) (map (λ o. o.name) earlier) → read_ship format earlier (seven s ++ cond harmless [] (decimal s.cargo ∷ [])) ≡ Ok s
unfolding read_ship cargo seven
ship_back format earlier s true is fits room good new =
    let free : nat_lt (length earlier) (most_ships format) ≡ true = grind (arith, nat_tests) in
    let none : s.cargo ≡ 0 = grind (arith, nat_tests) in
    let long = good.length in
    let wide = good.width in
    rw (
      counted format,
      free,
      new_name_back (map (λ o. o.name) earlier) s.name good.name new,
      way_back s.way,
      number_back 1 100000 s.length long.0 long.1 (omega arith),
      number_back 1 100000 s.width wide.0 wide.1 (omega arith),
      number_back 0 1000000 s.arrival (omega arith) good.arrival (let h = good.arrival in omega arith),
      number_back 0 1000000 s.handling (omega arith) good.handling (let h = good.handling in omega arith),
    )
    (ap (λ n. Ok (record { name = s.name; way = s.way; length = s.length; width = s.width; arrival = s.arrival; handling = s.handling; cargo = n })) (sym none))
ship_back format earlier s false is fits room good new =
    let free : nat_lt (length earlier) (most_ships format) ≡ true = grind (arith, nat_tests) in
    let long = good.length in
    let wide = good.width in
    rw (
      fits refl,
      free,
      new_name_back (map (λ o. o.name) earlier) s.name good.name new,
      way_back s.way,
      number_back 1 100000 s.length long.0 long.1 (omega arith),
      number_back 1 100000 s.width wide.0 wide.1 (omega arith),
      number_back 0 1000000 s.arrival (omega arith) good.arrival (let h = good.arrival in omega arith),
      number_back 0 1000000 s.handling (omega arith) good.handling (let h = good.handling in omega arith),
      number_back 0 9 s.cargo (omega arith) good.cargo (let h = good.cargo in omega arith),
    ) refl

pub ship_line_back : (format : Format) (d : Draft) (s : Ship) → ((s.cargo == 0) ≡ false → is_ship_count format 8 ≡ true) → length d.ships < most_ships format → IsShip s → All (λ e. e ≢ s.name) (map (λ o. o.name) d.ships) → read_line format d (ship_words s) ≡ Ok (More, record d { ships = d.ships ++ s ∷ [] })
unfolding read_line add_ship ship_words seven
ship_line_back format d s fits room good new = by_class (s.cargo == 0) refl
  where
    by_class : (harmless : Bool) → (s.cargo == 0) ≡ harmless → read_line format d (seven s ++ cond harmless [] (decimal s.cargo ∷ [])) ≡ Ok (More, record d { ships = d.ships ++ s ∷ [] })
    by_class true is = rw (ship_back format d.ships s true is (λ no_cargo. fits (is ∙ no_cargo)) room good new) refl
    by_class false is = rw (ship_back format d.ships s false is (λ no_cargo. fits (is ∙ no_cargo)) room good new) refl

pub end_line_back : (format : Format) (d : Draft) → 0 < length d.chambers → 0 < length d.ships → read_line format d (codes "end" ∷ []) ≡ Ok (Ended, d)
unfolding read_line read_end
end_line_back format d chambers ships =
    let some : nat_lt 0 (length d.chambers) ≡ true = grind (arith, nat_tests) in
    let more : nat_lt 0 (length d.ships) ≡ true = grind (arith, nat_tests) in
    rw (some, more) refl

-- the next closure of the chamber behind these
named_back : (front : List Chamber) (x : Chamber) (back : List Chamber) → All (λ c. c.name ≢ x.name) front → chamber_named (front ++ x ∷ back) x.name ≡ Ok (length front)
named_back front x back new =
    let long = length-append front (x ∷ back) in
    sym (named_at (front ++ x ∷ back) x.name (length front) (omega arith)
    (λ k low. subst (λ (c : Chamber). bytes_eq x.name c.name ≡ false) (sym (get_or_append_left front (x ∷ back) no_chamber k low)) (differs (get_or front k no_chamber).name (new k no_chamber low)))
    (subst (λ (c : Chamber). bytes_eq x.name c.name ≡ true) (sym (get_or_at front x back no_chamber (length front) refl)) ((bytes_eq-Decides x.name x.name).1 refl)))
  where
    differs : (other : List ℕ) → other ≢ x.name → bytes_eq x.name other ≡ false
    differs other new = by_test (bytes_eq x.name other) (bytes_eq-Decides x.name other).0
      where
        by_test : (b : Bool) → (b ≡ true → x.name ≡ other) → b ≡ false
        by_test true same = absurd (new (sym (same refl)))
        by_test false same = refl

free_after : (k : Closure) (before : List Closure) → IsClosure k → All (λ o. o.to ≤ k.from) before → is_free k before ≡ true
free_after k before good earlier =
    let some : nat_lt k.from k.to ≡ true = let s = good.span in grind (arith, nat_tests) in
    let none : list_any (share_a_minute k) before ≡ false = list_any_none (share_a_minute k) before (λ i d low. apart (get_or before i d) (earlier i d low)) in
    rw (some, none) refl
  where
    apart : (o : Closure) → o.to ≤ k.from → share_a_minute k o ≡ false
    apart o early = grind (arith, nat_tests)

put_last : (k : Closure) (before : List Closure) → All IsClosure before → All (λ o. o.to ≤ k.from) before → put_closure k before ≡ before ++ k ∷ []
put_last k before good earlier =
    let place : position_or_len (λ (other : Closure). nat_lt k.from other.from) before ≡ length before = position_or_len_is (λ other. nat_lt k.from other.from) before (length before) (record { from = 0; to = 0 }) (omega arith) (λ i low. begun (get_or before i (record { from = 0; to = 0 })) (good i (record { from = 0; to = 0 }) low) (earlier i (record { from = 0; to = 0 }) low)) (λ more. absurd (omega arith)) in
    ap (λ n. insert before n k) place ∙ insert_end before k
  where
    begun : (o : Closure) → IsClosure o → o.to ≤ k.from → nat_lt k.from o.from ≡ false
    begun o good early = let s = good.span in grind (arith, nat_tests)

-- a close line from the closures that the chamber has
abbrev after_name : ℕ → List Closure → List ℕ → List ℕ → Result (ℕ × Closure) Kind
after_name place others from_word to_word = do
  check (nat_lt (length others) CLOSURES) Range
  from ← number 0 1000000 from_word
  to ← number 0 1000000 to_word
  check (is_free (record { from = from; to = to }) others) Overlap
  Ok (place, record { from = from; to = to })

closure_back : (place : ℕ) (others : List Closure) (k : Closure) → AreClosures (others ++ k ∷ []) → after_name place others (decimal k.from) (decimal k.to) ≡ Ok (place, k)
closure_back place others k are =
    let step = closures_at others k [] are in
    let room : nat_lt (length others) CLOSURES ≡ true = let few = step.0 in grind (arith, nat_tests) in
    let span = step.1.span in
    let limit = step.1.limit in
    rw (room, number_back 0 1000000 k.from (omega arith) (omega arith) (omega arith), number_back 0 1000000 k.to (omega arith) limit (omega arith), free_after k others step.1 step.2) refl

read_closing_back : (chambers front : List Chamber) (x : Chamber) (back : List Chamber) (k : Closure) → chambers ≡ front ++ x ∷ back → IsName x.name → All (λ c. c.name ≢ x.name) front → AreClosures (x.closures ++ k ∷ []) → read_closing chambers (closing_words x.name k) ≡ Ok (length front, k)
unfolding read_closing closing_words
read_closing_back chambers front x back k is good new are =
    let here : get_or chambers (length front) no_chamber ≡ x = ap (λ cs. get_or cs (length front) no_chamber) is ∙ get_or_at front x back no_chamber (length front) refl in
    let before : closures_of chambers (length front) ≡ x.closures = ap (λ (c : Chamber). c.closures) here in
    let named : chamber_named chambers x.name ≡ Ok (length front) = ap (λ cs. chamber_named cs x.name) is ∙ named_back front x back new in
    rw (name_back x.name good, named) (ap (λ others. after_name (length front) others (decimal k.from) (decimal k.to)) before ∙ closure_back (length front) x.closures k are)

with_closure_back : (chambers front : List Chamber) (x : Chamber) (back : List Chamber) (k : Closure) → chambers ≡ front ++ x ∷ back → AreClosures (x.closures ++ k ∷ []) → with_closure chambers (length front) k ≡ front ++ record x { closures = x.closures ++ k ∷ [] } ∷ back
unfolding with_closure
with_closure_back chambers front x back k is are =
    let step = closures_at x.closures k [] are in
    let here : get_or chambers (length front) no_chamber ≡ x = ap (λ cs. get_or cs (length front) no_chamber) is ∙ get_or_at front x back no_chamber (length front) refl in
    let earlier_good : All IsClosure x.closures = λ i e low. subst IsClosure (get_or_append_left x.closures (k ∷ []) e i low) (are.each i e (omega (arith, length_push x.closures k))) in
    ap (λ (c : Chamber). set chambers (length front) (record c { closures = put_closure k c.closures })) here
    ∙ ap (λ ks. set chambers (length front) (record x { closures = ks })) (put_last k x.closures earlier_good step.2)
    ∙ ap (λ cs. set cs (length front) (record x { closures = x.closures ++ k ∷ [] })) is
    ∙ set_at front x back (record x { closures = x.closures ++ k ∷ [] }) (length front) refl

pub closing_line_back : (format : Format) (d : Draft) (front : List Chamber) (x : Chamber) (back : List Chamber) (k : Closure) → d.chambers ≡ front ++ x ∷ back → IsName x.name → All (λ c. c.name ≢ x.name) front → AreClosures (x.closures ++ k ∷ []) → has_closures format ≡ true → read_line format d (closing_words x.name k) ≡ Ok (More, record d { chambers = front ++ record x { closures = x.closures ++ k ∷ [] } ∷ back })
unfolding read_line add_closure closing_words
closing_line_back format d front x back k is good new are has =
    rw (has, read_closing_back d.chambers front x back k is good new are) (ap (λ cs. Ok (More, record d { chambers = cs })) (with_closure_back d.chambers front x back k is are))
