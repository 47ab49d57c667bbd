-- A canonical text means its instance.
use Rattle.std.proofs.Common.{◌≡◌, ◌≢◌, ℕ, ◌+◌, ◌<◌, ◌≤◌, ◌==◌, Bool, true, false, cond, List, [], ◌∷◌, ◌++◌, length, map, get_or, All, AllPairs, Result, Ok, codes, sym, ap, refl, subst, ◌∙◌, arith}
use Rattle.std.proofs.lemmas.Bool.{and_parts}
use Rattle.std.specs.List.{flat_map, list_all}
use Rattle.std.proofs.lemmas.Bool.Decides.{nat_tests}
use Rattle.std.proofs.lemmas.List.{append_assoc, append-nil, length_push, map-append, nil_from_length}
use Rattle.std.proofs.lemmas.List.Elements.{All-nil, All-cons, All-head, All-tail, All-push}
use Rattle.std.proofs.lemmas.List.Sums.{AllPass-from_list_all}
use Rattle.list_laws.proofs.Lists.{AllPairs-tail, AllPairs-head}
use Rattle.lock_model.specs.declared.limits.TheConstants.{CHAMBERS, FEW_SHIPS}
use Rattle.lock_model.specs.Limits.{IsName}
use Rattle.lock_model.specs.Closures.{AreClosures}
use Rattle.lock_model.specs.Instance.{IsChamber, IsShip}
use Rattle.lock_model.specs.declared.chamber.Chamber.{Chamber}
use Rattle.lock_model.specs.declared.closure.Closure.{Closure}
use Rattle.lock_model.specs.declared.ship.Ship.{Ship}
use Rattle.lock_model.specs.declared.instance.Instance.{Instance}
use Rattle.instance_text.specs.declared.bad.Bad.{Bad}
use Rattle.instance_text.specs.declared.format.Format.{Format}
use Rattle.instance_text.specs.declared.format.Format.TheVariants.{First, Second, Third}
use Rattle.line_text.specs.declared.progress.Progress.TheVariants.{More}
use Rattle.lock_model.specs.Fleet.{is_large}
use Rattle.instance_text.specs.Ship.{is_ship_count, most_ships}
use Rattle.instance_text.specs.Closing.{has_closures}
use Rattle.instance_text.specs.Draft.{Draft, no_draft, draft_of}
use Rattle.instance_text.specs.Reading.{reading, Means, read_lines, read_body, read_line, format_of}
use Rattle.instance_text.specs.Canonical.{chamber_words, closing_words, closings, ship_words, is_plain, header_words, canonical, canonical_words}
use Rattle.instance_text.proofs.ClosureLemmas.{closures_front}
use Rattle.line_text.proofs.LayoutLemmas.{words_of_text, is_utf8-text}
use Rattle.instance_text.proofs.PlainLemmas.{canonical_plain}
use Rattle.instance_text.proofs.LineBackLemmas.{bare, chamber_line_back, ship_line_back, closing_line_back, end_line_back}

-- chambers and ships with names that none of these and no earlier one has
abbrev NewChambers : List (List ℕ) → List Chamber → Type 0
NewChambers names [] = Unit {0}
NewChambers names (c ∷ cs) = IsChamber c × All (λ e. e ≢ c.name) names × NewChambers (names ++ c.name ∷ []) cs

abbrev NewShips : List (List ℕ) → List Ship → Type 0
NewShips names [] = Unit {0}
NewShips names (s ∷ ss) = IsShip s × All (λ e. e ≢ s.name) names × NewShips (names ++ s.name ∷ []) ss

-- each of the later ones differs from the names and from the one before
push_name : {X : Type 0} (name_of : X → List ℕ) (names : List (List ℕ)) (x : X) (xs : List X) → All (λ y. All (λ e. e ≢ name_of y) names) xs → All (λ y. name_of x ≢ name_of y) xs → All (λ y. All (λ e. e ≢ name_of y) (names ++ name_of x ∷ [])) xs
push_name name_of names x xs new first k d low = All-push (λ e. e ≢ name_of (get_or xs k d)) names (name_of x) (new k d low) (first k d low)

new_chambers : (names : List (List ℕ)) (cs : List Chamber) → All IsChamber cs → All (λ c. All (λ e. e ≢ c.name) names) cs → AllPairs (λ a b. a.name ≢ b.name) cs → NewChambers names cs
new_chambers names [] good new pairs = tt
new_chambers names (c ∷ cs) good new pairs = (
  All-head IsChamber c cs good,
  All-head (λ x. All (λ e. e ≢ x.name) names) c cs new,
  new_chambers (names ++ c.name ∷ []) cs (All-tail IsChamber c cs good) (push_name (λ x. x.name) names c cs (All-tail (λ x. All (λ e. e ≢ x.name) names) c cs new) (AllPairs-head (λ a b. a.name ≢ b.name) c cs pairs)) (AllPairs-tail (λ a b. a.name ≢ b.name) c cs pairs),
)

new_ships : (names : List (List ℕ)) (ss : List Ship) → All IsShip ss → All (λ s. All (λ e. e ≢ s.name) names) ss → AllPairs (λ a b. a.name ≢ b.name) ss → NewShips names ss
new_ships names [] good new pairs = tt
new_ships names (s ∷ ss) good new pairs = (
  All-head IsShip s ss good,
  All-head (λ x. All (λ e. e ≢ x.name) names) s ss new,
  new_ships (names ++ s.name ∷ []) ss (All-tail IsShip s ss good) (push_name (λ x. x.name) names s ss (All-tail (λ x. All (λ e. e ≢ x.name) names) s ss new) (AllPairs-head (λ a b. a.name ≢ b.name) s ss pairs)) (AllPairs-tail (λ a b. a.name ≢ b.name) s ss pairs),
)

-- a line that goes on
goes_on : (format : Format) (n : ℕ) (d next : Draft) (ws : List (List ℕ)) (more : List (List (List ℕ))) (r : Result Draft Bad) → read_line format d ws ≡ Ok (More, next) → read_body format (n + 1) next more ≡ r → read_body format n d (ws ∷ more) ≡ r
goes_on format n d next ws more r step rest = rw step rest

chambers_back : (format : Format) (n : ℕ) (d : Draft) (cs : List Chamber) (more : List (List (List ℕ))) (r : Result Draft Bad) → length d.chambers + length cs ≤ CHAMBERS → NewChambers (map (λ c. c.name) d.chambers) cs → ((m : ℕ) → read_body format m (record d { chambers = d.chambers ++ map bare cs }) more ≡ r) → read_body format n d (map chamber_words cs ++ more) ≡ r
chambers_back format n d [] more r few new rest = subst (λ xs. read_body format n (record d { chambers = xs }) more ≡ r) (append-nil d.chambers) (rest n)
chambers_back format n d (c ∷ cs) more r few new rest =
    let next : Draft = record d { chambers = d.chambers ++ bare c ∷ [] } in
    goes_on format n d next (chamber_words c) (map chamber_words cs ++ more) r
    (chamber_line_back format d c (omega arith) new.0 new.1)
    (chambers_back format (n + 1) next cs more r (omega (arith, length_push d.chambers (bare c)))
    (subst (λ names. NewChambers names cs) (sym (map-append (λ (x : Chamber). x.name) d.chambers (bare c ∷ []))) new.2)
    (λ m. subst (λ xs. read_body format m (record d { chambers = xs }) more ≡ r) (sym (append_assoc d.chambers (bare c ∷ []) (map bare cs))) (rest m)))

-- ships in a format that has room for their cargo
ships_back : (format : Format) (n : ℕ) (d : Draft) (ss : List Ship) (more : List (List (List ℕ))) (r : Result Draft Bad) → All (λ s. (s.cargo == 0) ≡ false → is_ship_count format 8 ≡ true) ss → length d.ships + length ss ≤ most_ships format → NewShips (map (λ s. s.name) d.ships) ss → ((m : ℕ) → read_body format m (record d { ships = d.ships ++ ss }) more ≡ r) → read_body format n d (map ship_words ss ++ more) ≡ r
ships_back format n d [] more r fits few new rest = subst (λ xs. read_body format n (record d { ships = xs }) more ≡ r) (append-nil d.ships) (rest n)
ships_back format n d (s ∷ ss) more r fits few new rest =
    let next : Draft = record d { ships = d.ships ++ s ∷ [] } in
    goes_on format n d next (ship_words s) (map ship_words ss ++ more) r
    (ship_line_back format d s (All-head (λ x. (x.cargo == 0) ≡ false → is_ship_count format 8 ≡ true) s ss fits) (omega arith) new.0 new.1)
    (ships_back format (n + 1) next ss more r (All-tail (λ x. (x.cargo == 0) ≡ false → is_ship_count format 8 ≡ true) s ss fits) (omega (arith, length_push d.ships s))
    (subst (λ names. NewShips names ss) (sym (map-append (λ (x : Ship). x.name) d.ships (s ∷ []))) new.2)
    (λ m. subst (λ xs. read_body format m (record d { ships = xs }) more ≡ r) (sym (append_assoc d.ships (s ∷ []) ss)) (rest m)))

-- the closures of one chamber, behind others whose closures are read
closures_back : (format : Format) → has_closures format ≡ true → (n : ℕ) (d : Draft) (front : List Chamber) (x : Chamber) (back : List Chamber) (ks : List Closure) (more : List (List (List ℕ))) (r : Result Draft Bad) → d.chambers ≡ front ++ x ∷ back → IsName x.name → All (λ c. c.name ≢ x.name) front → AreClosures (x.closures ++ ks) → ((m : ℕ) → read_body format m (record d { chambers = front ++ record x { closures = x.closures ++ ks } ∷ back }) more ≡ r) → read_body format n d (map (closing_words x.name) ks ++ more) ≡ r
closures_back format has n d front x back [] more r is good new are rest =
    subst (λ cs. read_body format n (record d { chambers = cs }) more ≡ r) (ap (λ ks. front ++ record x { closures = ks } ∷ back) (append-nil x.closures) ∙ sym is) (rest n)
closures_back format has n d front x back (k ∷ ks) more r is good new are rest =
    let whole = append_assoc x.closures (k ∷ []) ks in
    let next : Chamber = record x { closures = x.closures ++ k ∷ [] } in
    let front_are : AreClosures (x.closures ++ k ∷ []) = closures_front (x.closures ++ k ∷ []) ks (subst AreClosures (sym whole) are) in
    goes_on format n d (record d { chambers = front ++ next ∷ back }) (closing_words x.name k) (map (closing_words x.name) ks ++ more) r
    (closing_line_back format d front x back k is good new front_are has)
    (closures_back format has (n + 1) (record d { chambers = front ++ next ∷ back }) front next back ks more r refl good new (subst AreClosures (sym whole) are)
    (λ m. subst (λ xs. read_body format m (record d { chambers = front ++ record x { closures = xs } ∷ back }) more ≡ r) (sym whole) (rest m)))

-- the closures of all chambers
closings_back : (format : Format) → has_closures format ≡ true → (n : ℕ) (d : Draft) (front cs : List Chamber) (more : List (List (List ℕ))) (r : Result Draft Bad) → d.chambers ≡ front ++ map bare cs → NewChambers (map (λ c. c.name) front) cs → ((m : ℕ) → read_body format m (record d { chambers = front ++ cs }) more ≡ r) → read_body format n d (flat_map closings cs ++ more) ≡ r
closings_back format has n d front [] more r is new rest = subst (λ cs. read_body format n (record d { chambers = cs }) more ≡ r) (sym is) (rest n)
closings_back format has n d front (c ∷ cs) more r is new rest =
    let own = new.0.closures in
    let next : Draft = record d { chambers = front ++ c ∷ map bare cs } in
    subst (λ lines. read_body format n d lines ≡ r) (sym (append_assoc (closings c) (flat_map closings cs) more))
    (closures_back format has n d front (bare c) (map bare cs) c.closures (flat_map closings cs ++ more) r is new.0.name (names_differ front new.1) own
    (λ m. closings_back format has m next (front ++ c ∷ []) cs more r (sym (append_assoc front (c ∷ []) (map bare cs)))
    (subst (λ names. NewChambers names cs) (sym (map-append (λ (x : Chamber). x.name) front (c ∷ []))) new.2)
    (λ m'. subst (λ xs. read_body format m' (record d { chambers = xs }) more ≡ r) (sym (append_assoc front (c ∷ []) cs)) (rest m'))))
  where
    names_differ : (xs : List Chamber) → All (λ e. e ≢ c.name) (map (λ x. x.name) xs) → All (λ x. x.name ≢ c.name) xs
    names_differ [] all = All-nil (λ x. x.name ≢ c.name)
    names_differ (x ∷ xs) all = All-cons (λ y. y.name ≢ c.name) x xs (All-head (λ e. e ≢ c.name) x.name (map (λ y. y.name) xs) all) (names_differ xs (All-tail (λ e. e ≢ c.name) x.name (map (λ y. y.name) xs) all))

end_back : (format : Format) (n : ℕ) (d : Draft) → 0 < length d.chambers → 0 < length d.ships → read_body format n d ((codes "end" ∷ []) ∷ [] ∷ []) ≡ Ok d
end_back format n d chambers ships = rw (end_line_back format d chambers ships) refl

-- where no chamber has a closure
none_closed : (cs : List Chamber) → All (λ c. (length c.closures == 0) ≡ true) cs → (flat_map closings cs ≡ []) × (map bare cs ≡ cs)
none_closed [] none = (refl, refl)
none_closed (c ∷ cs) none =
    let first = All-head (λ x. (length x.closures == 0) ≡ true) c cs none in
    let rest = none_closed cs (All-tail (λ x. (length x.closures == 0) ≡ true) c cs none) in
    let closed : c.closures ≡ [] = nil_from_length c.closures (grind (arith, nat_tests)) in (
      ap (λ ks. map (closing_words c.name) ks ++ flat_map closings cs) closed ∙ rest.0,
      ap (λ ks. record c { closures = ks } ∷ map bare cs) (sym closed) ∙ ap (λ xs. c ∷ xs) rest.1,
    )

grouped : (a b c d e : List (List (List ℕ))) → a ++ b ++ c ++ d ++ e ≡ a ++ (b ++ (c ++ (d ++ e)))
grouped a b c d e = simp append_assoc

abbrev body : Instance → List (List (List ℕ))
body I = map chamber_words I.chambers ++ (flat_map closings I.chambers ++ (map ship_words I.ships ++ (codes "end" ∷ []) ∷ [] ∷ []))

fresh_chambers : (I : Instance) → NewChambers [] I.chambers
fresh_chambers I = new_chambers [] I.chambers I.limits.chamber (λ k d low. All-nil (λ e. e ≢ (get_or I.chambers k d).name)) I.limits.chamber_names

fresh_ships : (I : Instance) → NewShips [] I.ships
fresh_ships I = new_ships [] I.ships I.limits.ship (λ k d low. All-nil (λ e. e ≢ (get_or I.ships k d).name)) I.limits.ship_names

tail_back : (I : Instance) (format : Format) (m : ℕ) → length I.ships ≤ most_ships format → All (λ s. (s.cargo == 0) ≡ false → is_ship_count format 8 ≡ true) I.ships → read_body format m (record { chambers = I.chambers; ships = [] }) (map ship_words I.ships ++ (codes "end" ∷ []) ∷ [] ∷ []) ≡ Ok (draft_of I)
tail_back I format m few fits =
    let chambers = I.limits.chamber_count.0 in
    let ships = I.limits.ship_count.0 in
    ships_back format m (record { chambers = I.chambers; ships = [] }) I.ships ((codes "end" ∷ []) ∷ [] ∷ []) (Ok (draft_of I)) fits (omega arith) (fresh_ships I) (λ m'. end_back format m' (draft_of I) (omega arith) (omega arith))

-- in a format that takes closures and classes
rich_back : (I : Instance) (format : Format) → has_closures format ≡ true → is_ship_count format 8 ≡ true → length I.ships ≤ most_ships format → read_body format 1 no_draft (body I) ≡ Ok (draft_of I)
rich_back I format has counted few_ships =
    let few = I.limits.chamber_count.1 in
    chambers_back format 1 no_draft I.chambers (flat_map closings I.chambers ++ (map ship_words I.ships ++ (codes "end" ∷ []) ∷ [] ∷ [])) (Ok (draft_of I)) (omega arith) (fresh_chambers I)
    (λ m. closings_back format has m (record { chambers = map bare I.chambers; ships = [] }) [] I.chambers (map ship_words I.ships ++ (codes "end" ∷ []) ∷ [] ∷ []) (Ok (draft_of I)) refl (fresh_chambers I)
    (λ m'. tail_back I format m' few_ships (λ k d low no_cargo. counted)))

plain_back : (I : Instance) → length I.ships ≤ FEW_SHIPS → list_all (λ (c : Chamber). length c.closures == 0) I.chambers ≡ true → list_all (λ (s : Ship). s.cargo == 0) I.ships ≡ true → read_body First 1 no_draft (body I) ≡ Ok (draft_of I)
plain_back I few_ships never_closed harmless =
    let few = I.limits.chamber_count.1 in
    let none = none_closed I.chambers (AllPass-from_list_all (λ (c : Chamber). length c.closures == 0) I.chambers never_closed) in
    let safe = AllPass-from_list_all (λ (s : Ship). s.cargo == 0) I.ships harmless in
    subst (λ ls. read_body First 1 no_draft (map chamber_words I.chambers ++ (ls ++ (map ship_words I.ships ++ (codes "end" ∷ []) ∷ [] ∷ []))) ≡ Ok (draft_of I)) (sym none.0)
    (chambers_back First 1 no_draft I.chambers (map ship_words I.ships ++ (codes "end" ∷ []) ∷ [] ∷ []) (Ok (draft_of I)) (omega arith) (fresh_chambers I)
    (λ m. subst (λ cs. read_body First m (record { chambers = cs; ships = [] }) (map ship_words I.ships ++ (codes "end" ∷ []) ∷ [] ∷ []) ≡ Ok (draft_of I)) (sym none.1)
    (tail_back I First m few_ships (λ k d low no_cargo. let h = safe k d low in contradiction (get_or I.ships k d).cargo h no_cargo))))
  where
    contradiction : (n : ℕ) → (n == 0) ≡ true → (n == 0) ≡ false → is_ship_count First 8 ≡ true
    contradiction n yes_it no_it = cc

-- the lines of a canonical text under this header are read
abbrev ReadsBack : Instance → Format → Type 0
ReadsBack I format = read_lines 0 (((header_words format ∷ map chamber_words I.chambers) ++ flat_map closings I.chambers ++ map ship_words I.ships ++ (codes "end" ∷ []) ∷ []) ++ [] ∷ []) ≡ Ok (draft_of I)

few_where_not_large : (I : Instance) → is_large I.ships ≡ false → length I.ships ≤ FEW_SHIPS
unfolding is_large
few_where_not_large I is = grind (arith, nat_tests)

lines_back : (I : Instance) → read_lines 0 (canonical_words I ++ [] ∷ []) ≡ Ok (draft_of I)
unfolding canonical_words format_of
lines_back I = by_size (is_large I.ships) refl
  where
    parts : (header : List (List ℕ)) → ((header ∷ map chamber_words I.chambers) ++ flat_map closings I.chambers ++ map ship_words I.ships ++ (codes "end" ∷ []) ∷ []) ++ [] ∷ [] ≡ header ∷ body I
    parts header = grouped (header ∷ map chamber_words I.chambers) (flat_map closings I.chambers) (map ship_words I.ships) ((codes "end" ∷ []) ∷ []) ([] ∷ [])

    by_plain : (plain : Bool) → is_plain I ≡ plain → length I.ships ≤ FEW_SHIPS → ReadsBack I (cond plain First Second)
    by_plain true is few =
        let holds = and_parts (list_all (λ (c : Chamber). length c.closures == 0) I.chambers) (list_all (λ (s : Ship). s.cargo == 0) I.ships) is in
        ap (read_lines 0) (parts (header_words First)) ∙ plain_back I few holds.0 holds.1
    by_plain false is few = ap (read_lines 0) (parts (header_words Second)) ∙ rich_back I Second refl refl few

    by_size : (large : Bool) → is_large I.ships ≡ large → ReadsBack I (cond large Third (cond (is_plain I) First Second))
    by_size true is = ap (read_lines 0) (parts (header_words Third)) ∙ rich_back I Third refl refl I.limits.ship_count.1
    by_size false is = by_plain (is_plain I) refl (few_where_not_large I is)

-- the canonical text of an instance means that instance
pub canonical_means : (I : Instance) → Means (canonical I) I
unfolding Means reading canonical
canonical_means I = rw (is_utf8-text (canonical_words I) (canonical_plain I), words_of_text (canonical_words I) (canonical_plain I)) (lines_back I)
