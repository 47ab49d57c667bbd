-- What a plan text names is writable.
use Rattle.std.proofs.Common.{◌≡◌, ℕ, zero, suc, ◌+◌, ◌<◌, ◌≤◌, ◌==◌, ◌||◌, Bool, true, false, not, cond, nat_lt, List, [], ◌∷◌, ◌++◌, length, map, filter, Option, None, Some, IfSome, All, Result, Ok, Err, IfOk, codes, refl, ap, subst, arith}
use Rattle.std.specs.List.{list_all}
use Rattle.std.specs.Option.{ok_or, is_some}
use Rattle.std.specs.Str.{bytes_eq, is_utf8}
use Rattle.std.proofs.lemmas.Bool.{eqb-true, false≢true}
use Rattle.std.proofs.lemmas.Bool.Decides.{nat_tests}
use Rattle.std.proofs.lemmas.List.{length_push, length-map}
use Rattle.std.proofs.lemmas.List.Elements.{All-head, All-tail, All-nil, All-cons, All-push, filter_passes}
use Rattle.lock_model.specs.declared.limits.TheConstants.{MOST}
use Rattle.lock_model.specs.Fleet.{most_lockages}
use Rattle.lock_model.specs.Limits.{is_between}
use Rattle.lock_model.specs.declared.instance.Instance.{Instance}
use Rattle.lock_model.specs.declared.placement.Rank.{Rank}
use Rattle.lock_model.specs.declared.plan.Lockage.{Lockage}
use Rattle.lock_model.specs.declared.plan.Plan.{Plan}
use Rattle.lock_model.specs.declared.way.Way.{Way}
use Rattle.lock_rules.specs.Arrival.{numbers_from}
use Rattle.lock_rules.proofs.NodeLemmas.{increasing-RisesFrom}
use Rattle.deck_laws.proofs.MemberLemmas.{filter-rises}
use Rattle.line_text.specs.Filled.{Filled, first_words}
use Rattle.line_text.specs.Lines.{lines, words, word_at, is_only, line_of_fault}
use Rattle.line_text.specs.Numbers.{is_digit, value, number as number_in}
use Rattle.line_text.specs.Steps.{◌>>=◌, ◌>>◌, check, proceed}
use Rattle.plan_text.specs.declared.berth.Berth.{Berth}
use Rattle.plan_text.specs.declared.berth.Head.{Head}
use Rattle.plan_text.specs.declared.berth.Host.{Host}
use Rattle.plan_text.specs.declared.berth.Host.TheVariants.{Quay as AtQuay, Ship as AtShip}
use Rattle.plan_text.specs.declared.kinds.BadPlan.{BadPlan}
use Rattle.plan_text.specs.declared.kinds.PlanKind.{PlanKind}
use Rattle.plan_text.specs.declared.kinds.PlanKind.TheVariants.{NotUtf8, NoMark, NoEnd, Word, Count, Number, Range, Unknown, Twice, Loose, Host as LostHost}
use Rattle.line_text.specs.declared.progress.Progress.{Progress}
use Rattle.line_text.specs.declared.progress.Progress.TheVariants.{More, Ended}
use Rattle.plan_text.specs.Faults.{at_line, bad}
use Rattle.plan_text.specs.Words.{number, way, rank, chamber_named, ship_named, host}
use Rattle.plan_text.specs.Berths.{has_berth, is_hosted_by, check_hosts, ships_of, berth_of, place_of, moor_of, spot_of, lockage_of}
use Rattle.plan_text.specs.Draft.{Draft, no_draft, close, close_by}
use Rattle.plan_text.specs.Lines.{read_head, new_ship, read_berth, add_berth, add_lockage, read_end, read_other, read_line}
use Rattle.plan_text.specs.Reading.{ended, read_rest, without_end, read_body, read_from, read_lines, reading, IsPlanText, HasPlanText}
use Rattle.plan_text.specs.Writable.{IsWritableMoor, IsWritableSpot, IsWritable, AreWritable}
use Rattle.plan_text.proofs.BerthLemmas.{few_berthed, ships_below}

-- ---- one step after the other

bind : {A B E : Type 0} (r : Result A E) (next : A → Result B E) (P : A → Type 0) (Q : B → Type 0) → IfOk r P → ((a : A) → P a → IfOk (next a) Q) → IfOk (r >>= next) Q
bind (Ok a) next P Q first rest = rest a first
bind (Err e) next P Q first rest = tt

after : {A B E : Type 0} (r : Result A E) (next : Result B E) (P : A → Type 0) (Q : B → Type 0) → IfOk r P → ((a : A) → P a → IfOk next Q) → IfOk (r >> next) Q
after (Ok a) next P Q first rest = rest a first
after (Err e) next P Q first rest = tt

choose : {A E : Type 0} (test : Bool) (x y : Result A E) (Q : A → Type 0) → IfOk x Q → IfOk y Q → IfOk (cond test x y) Q
choose true x y Q first second = first
choose false x y Q first second = second

on_line : {A : Type 0} (n : ℕ) (r : Result A PlanKind) (Q : A → Type 0) → IfOk r Q → IfOk (at_line n r) Q
on_line n (Ok a) Q h = h
on_line n (Err kind) Q h = tt

-- ---- words

number_within : (high : ℕ) (word : List ℕ) → IfOk (number high word) (λ n. n ≤ high)
unfolding number_in
number_within high word = by_tests (list_all is_digit word) (is_between 0 high (value word)) (value word) (λ within. below (value word) within)
  where
    below : (n : ℕ) → is_between 0 high n ≡ true → n ≤ high
    below n h = grind (arith, nat_tests)

    by_tests : (digits within : Bool) (n : ℕ) → (within ≡ true → n ≤ high) → IfOk (check digits Number >> (check within Range >> Ok n)) (λ n. n ≤ high)
    by_tests true true n low = low refl
    by_tests true false n low = tt
    by_tests false within n low = tt

found_within : (n size : ℕ) → IfOk (ok_or {E = PlanKind} (cond (nat_lt n size) (Some n) None) Unknown) (λ k. k < size)
found_within n size = by_test (nat_lt n size) refl
  where
    by_test : (b : Bool) → nat_lt n size ≡ b → IfOk (ok_or {E = PlanKind} (cond b (Some n) None) Unknown) (λ k. k < size)
    by_test true is = let low : n < size = grind (arith, nat_tests) in low
    by_test false is = tt

module _ (I : Instance) where
  chamber_known : (word : List ℕ) → IfOk (chamber_named I.chambers word) (λ c. c < length I.chambers)
  unfolding chamber_named
  chamber_known word = found_within _ _

  ship_known : (word : List ℕ) → IfOk (ship_named I.ships word) (λ s. s < length I.ships)
  unfolding ship_named
  ship_known word = found_within _ _

  -- ---- lines

  record IsGoodHead (h : Head) : Type 0 where
    chamber : h.chamber < length I.chambers
    start : h.start ≤ 1000000000

  record IsGoodBerth (b : Berth) : Type 0 where
    ship : b.ship < length I.ships
    x : b.x ≤ 100000
    y : b.y ≤ 100000

  head_good : (count : ℕ) (ws : List (List ℕ)) → IfOk (read_head I count ws) (λ h. IsGoodHead h × (count < most_lockages I.ships))
  unfolding read_head
  head_good count ws =
      steps (length ws == 4) (nat_lt count (most_lockages I.ships)) (chamber_named I.chambers (word_at ws 1)) (way (word_at ws 2)) (number 1000000000 (word_at ws 3)) room (chamber_known (word_at ws 1)) (number_within 1000000000 (word_at ws 3))
    where
      room : nat_lt count (most_lockages I.ships) ≡ true → count < most_lockages I.ships
      room free = grind (arith, nat_tests)

      steps : (counted free : Bool) (c : Result ℕ PlanKind) (w : Result Way PlanKind) (s : Result ℕ PlanKind) → (free ≡ true → count < most_lockages I.ships) → IfOk c (λ c. c < length I.chambers) → IfOk s (λ n. n ≤ 1000000000)
          → IfOk (check counted Count >> (check free Range >> (c >>= λ chamber. w >>= λ way. s >>= λ start. Ok (record { chamber = chamber; way = way; start = start })))) (λ h. IsGoodHead h × (count < most_lockages I.ships))
      steps true true (Ok c) (Ok w) (Ok s) room known low = (record { chamber = known; start = low }, room refl)
      steps true true (Ok c) (Ok w) (Err e) room known low = tt
      steps true true (Ok c) (Err e) s room known low = tt
      steps true true (Err e) w s room known low = tt
      steps true false c w s room known low = tt
      steps false free c w s room known low = tt

  new_ship_good : (bs : List Berth) (word : List ℕ) → IfOk (new_ship I bs word) (λ s. s < length I.ships)
  unfolding new_ship
  new_ship_good bs word = steps (ship_named I.ships word) (ship_known word)
    where
      no_second : (b : Bool) (s : ℕ) → s < length I.ships → IfOk (check b Twice >> Ok s) (λ s. s < length I.ships)
      no_second true s known = known
      no_second false s known = tt

      steps : (r : Result ℕ PlanKind) → IfOk r (λ s. s < length I.ships) → IfOk (r >>= λ ship. check (not (has_berth ship bs)) Twice >> Ok ship) (λ s. s < length I.ships)
      steps (Ok s) known = no_second (not (has_berth s bs)) s known
      steps (Err e) known = tt

  berth_good : (n : ℕ) (bs : List Berth) (ws : List (List ℕ)) → IfOk (read_berth I n bs ws) (λ b. IsGoodBerth b × (length bs < MOST))
  unfolding read_berth
  berth_good n bs ws =
      steps (length ws == 6) (nat_lt (length bs) MOST) (new_ship I bs (word_at ws 1)) (number 100000 (word_at ws 2)) (number 100000 (word_at ws 3)) (rank (word_at ws 4)) (host I.ships (word_at ws 5)) room (new_ship_good bs (word_at ws 1)) (number_within 100000 (word_at ws 2)) (number_within 100000 (word_at ws 3))
    where
      room : nat_lt (length bs) MOST ≡ true → length bs < MOST
      room free = grind (arith, nat_tests)

      steps : (counted free : Bool) (s x y : Result ℕ PlanKind) (r : Result Rank PlanKind) (h : Result Host PlanKind) → (free ≡ true → length bs < MOST) → IfOk s (λ s. s < length I.ships) → IfOk x (λ n. n ≤ 100000) → IfOk y (λ n. n ≤ 100000)
          → IfOk (check counted Count >> (check free Range >> (s >>= λ ship. x >>= λ x. y >>= λ y. r >>= λ rank. h >>= λ host. Ok (record { line = n; ship = ship; x = x; y = y; rank = rank; host = host })))) (λ b. IsGoodBerth b × (length bs < MOST))
      steps true true (Ok s) (Ok x) (Ok y) (Ok r) (Ok h) room known x_low y_low = (record { ship = known; x = x_low; y = y_low }, room refl)
      steps true true (Ok s) (Ok x) (Ok y) (Ok r) (Err e) room known x_low y_low = tt
      steps true true (Ok s) (Ok x) (Ok y) (Err e) h room known x_low y_low = tt
      steps true true (Ok s) (Ok x) (Err e) r h room known x_low y_low = tt
      steps true true (Ok s) (Err e) y r h room known x_low y_low = tt
      steps true true (Err e) x y r h room known x_low y_low = tt
      steps true false s x y r h room known x_low y_low = tt
      steps false free s x y r h room known x_low y_low = tt

  -- ---- the lockage of berths whose hosts have berths

  hosts_good : (all bs : List Berth) → IfOk (check_hosts all bs) (λ _. All (λ b. is_hosted_by all b.host ≡ true) bs)
  hosts_good all [] = All-nil (λ b. is_hosted_by all b.host ≡ true)
  hosts_good all (b ∷ bs) = by_test (is_hosted_by all b.host) refl (hosts_good all bs)
    where
      by_test : (t : Bool) → is_hosted_by all b.host ≡ t → IfOk (check_hosts all bs) (λ _. All (λ b. is_hosted_by all b.host ≡ true) bs) → IfOk (cond t (check_hosts all bs) (Err (bad b.line LostHost))) (λ _. All (λ b. is_hosted_by all b.host ≡ true) (b ∷ bs))
      by_test true is rest = more (check_hosts all bs) rest
        where
          more : (r : Result (Unit {0}) BadPlan) → IfOk r (λ _. All (λ b. is_hosted_by all b.host ≡ true) bs) → IfOk r (λ _. All (λ b. is_hosted_by all b.host ≡ true) (b ∷ bs))
          more (Ok u) h = All-cons (λ b. is_hosted_by all b.host ≡ true) b bs is h
          more (Err e) h = tt
      by_test false is rest = tt

  -- the berth of a ship that has one is among all
  berth_found : (P : Berth → Type 0) (s : ℕ) (bs : List Berth) → has_berth s bs ≡ true → All P bs → P (berth_of s bs)
  berth_found P s [] has all = absurd (false≢true has)
  berth_found P s (b ∷ bs) has all = by_test (b.ship == s) (berth_found P s bs) has
    where
      by_test : (t : Bool) → (has_berth s bs ≡ true → All P bs → P (berth_of s bs)) → (t || has_berth s bs) ≡ true → P (cond t b (berth_of s bs))
      by_test true rest h = All-head P b bs all
      by_test false rest h = rest h (All-tail P b bs all)

  place_next : (p : ℕ → Bool) (t low : ℕ) (rest : List ℕ) → low ≤ t → p t ≡ true → (suc low ≤ t → place_of t rest < length rest) → place_of t (cond (p low) (low ∷ rest) rest) < length (cond (p low) (low ∷ rest) rest)
  place_next p t low rest from passes more = by_tests (low == t) refl (p low) refl
    where
      contradiction : p low ≡ false → p low ≡ p t → ⊥
      contradiction fails same = cc

      later : (low == t) ≡ false → suc low ≤ t
      later other = grind (arith, nat_tests)

      by_tests : (e : Bool) → (low == t) ≡ e → (q : Bool) → p low ≡ q → place_of t (cond q (low ∷ rest) rest) < length (cond q (low ∷ rest) rest)
      by_tests true same true here = rw same (omega arith)
      by_tests true same false here = absurd (contradiction here (ap p (eqb-true low t same)))
      by_tests false other true here = let h = more (later other) in rw other (omega (arith, h))
      by_tests false other false here = more (later other)

  place_among : (p : ℕ → Bool) (t low n : ℕ) → low ≤ t → t < low + n → p t ≡ true → place_of t (filter p (numbers_from low n)) < length (filter p (numbers_from low n))
  place_among p t low zero from below passes = absurd (omega (arith, from, below))
  place_among p t low (suc n) from below passes = place_next p t low (filter p (numbers_from (suc low) n)) from passes (λ later. place_among p t (suc low) n later (omega (arith, below)) passes)

  moor_good : (bs : List Berth) (h : Host) → All IsGoodBerth bs → is_hosted_by bs h ≡ true → IsWritableMoor (length (ships_of I bs)) (moor_of (ships_of I bs) h)
  moor_good bs AtQuay good hosted = tt
  moor_good bs (AtShip t) good hosted =
      let known : t < length I.ships = subst (λ s. s < length I.ships) (berth_ship t bs hosted) (berth_found IsGoodBerth t bs hosted good).ship in
      place_among (λ s. has_berth s bs) t 0 (length I.ships) (omega arith) (omega (arith, known)) hosted
    where
      berth_ship : (s : ℕ) (bs : List Berth) → has_berth s bs ≡ true → (berth_of s bs).ship ≡ s
      berth_ship s [] has = cc
      berth_ship s (b ∷ bs) has = by_test (b.ship == s) refl (berth_ship s bs) has
        where
          by_test : (t : Bool) → (b.ship == s) ≡ t → (has_berth s bs ≡ true → (berth_of s bs).ship ≡ s) → (t || has_berth s bs) ≡ true → (cond t b (berth_of s bs)).ship ≡ s
          by_test true is rest h = eqb-true b.ship s is
          by_test false is rest h = rest h

  map_all : {A B : Type 0} (f : A → B) (P : A → Type 0) (Q : B → Type 0) (xs : List A) → ((a : A) → P a → Q (f a)) → All P xs → All Q (map f xs)
  map_all f P Q [] each all = All-nil Q
  map_all f P Q (x ∷ xs) each all = All-cons Q (f x) (map f xs) (each x (All-head P x xs all)) (map_all f P Q xs each (All-tail P x xs all))

  lockage_good : (h : Head) (bs : List Berth) → IsGoodHead h → length bs ≤ MOST → All IsGoodBerth bs → All (λ b. is_hosted_by bs b.host ≡ true) bs → IsWritable I (lockage_of I h bs)
  unfolding lockage_of
  lockage_good h bs head few good hosted = record {
    chamber = head.chamber;
    start = head.start;
    few = let fits = few_berthed bs 0 (length I.ships) in omega (arith, fits, few);
    known = ships_below bs (ships_of I bs) (length I.ships) refl;
    rising = increasing-RisesFrom 0 (ships_of I bs) (filter-rises (λ s. has_berth s bs) 0 (length I.ships));
    count = length-map (ships_of I bs) (λ s. spot_of (ships_of I bs) (berth_of s bs));
    spots = map_all (λ s. spot_of (ships_of I bs) (berth_of s bs)) (λ s. has_berth s bs ≡ true) (IsWritableSpot (length (ships_of I bs))) (ships_of I bs)
        (λ s has. let own = berth_found IsGoodBerth s bs has good in record { x = own.x; y = own.y; moor = moor_good bs (berth_of s bs).host good (berth_found (λ b. is_hosted_by bs b.host ≡ true) s bs has hosted) })
        (filter_passes (λ s. has_berth s bs) (numbers_from 0 (length I.ships)));
  }

  -- ---- drafts

  record IsGood (d : Draft) : Type 0 where
    few : length d.lockages ≤ most_lockages I.ships
    each : All (IsWritable I) d.lockages
    head : IfSome d.head (λ h. IsGoodHead h × (length d.lockages < most_lockages I.ships))
    berths : length d.berths ≤ MOST
    good : All IsGoodBerth d.berths

  close_good : (d : Draft) → IsGood d → IfOk (close I d) IsGood
  unfolding close
  close_good d is = by_head d.head is.head refl
    where
      by_head : (head : Option Head) → IfSome head (λ h. IsGoodHead h × (length d.lockages < most_lockages I.ships)) → head ≡ d.head → IfOk (close_by I d head) IsGood
      by_head None good same = is
      by_head (Some h) good same =
          after (check_hosts d.berths d.berths) (Ok (record { lockages = d.lockages ++ lockage_of I h d.berths ∷ []; head = None; berths = [] })) (λ _. All (λ b. is_hosted_by d.berths b.host ≡ true) d.berths) IsGood (hosts_good d.berths d.berths) (λ _ hosted. record {
            few = let room = good.1 in let longer = length_push d.lockages (lockage_of I h d.berths) in omega (arith, room, longer);
            each = All-push (IsWritable I) d.lockages (lockage_of I h d.berths) is.each (lockage_good h d.berths good.0 is.berths is.good hosted);
            head = tt;
            berths = omega arith;
            good = All-nil IsGoodBerth;
          })

  add_berth_good : (n : ℕ) (d : Draft) (ws : List (List ℕ)) → IsGood d → IfOk (add_berth I n d ws) (λ r. IsGood r.1)
  unfolding add_berth
  add_berth_good n d ws is =
      steps (is_some d.head) (read_berth I n d.berths ws) (berth_good n d.berths ws)
    where
      more : (b : Berth) → IsGoodBerth b × (length d.berths < MOST) → IsGood (record d { berths = d.berths ++ b ∷ [] })
      more b own = record {
        few = is.few;
        each = is.each;
        head = is.head;
        berths = let room = own.1 in let longer = length_push d.berths b in omega (arith, room, longer);
        good = All-push IsGoodBerth d.berths b is.good own.0;
      }

      steps : (begun : Bool) (r : Result Berth PlanKind) → IfOk r (λ b. IsGoodBerth b × (length d.berths < MOST)) → IfOk {T = Progress × Draft} (check begun Loose >> (r >>= λ berth. Ok (More, record d { berths = d.berths ++ berth ∷ [] }))) (λ r. IsGood r.1)
      steps true (Ok b) own = more b own
      steps true (Err e) own = tt
      steps false r own = tt

  add_lockage_good : (d : Draft) (ws : List (List ℕ)) → IsGood d → IfOk (add_lockage I d ws) (λ r. IsGood r.1)
  unfolding add_lockage
  add_lockage_good d ws is =
      steps (read_head I (length d.lockages) ws) (head_good (length d.lockages) ws)
    where
      steps : (r : Result Head PlanKind) → IfOk r (λ h. IsGoodHead h × (length d.lockages < most_lockages I.ships)) → IfOk {T = Progress × Draft} (r >>= λ head. Ok (More, record { lockages = d.lockages; head = Some head; berths = [] })) (λ r. IsGood r.1)
      steps (Ok h) own = record { few = is.few; each = is.each; head = own; berths = omega arith; good = All-nil IsGoodBerth }
      steps (Err e) own = tt

  read_end_good : (d : Draft) (ws : List (List ℕ)) → IsGood d → IfOk (read_end d ws) (λ r. IsGood r.1)
  unfolding read_end
  read_end_good d ws is = steps (length ws == 1)
    where
      steps : (counted : Bool) → IfOk {T = Progress × Draft} (check counted Count >> Ok (Ended, d)) (λ r. IsGood r.1)
      steps true = is
      steps false = tt

  read_other_good : (d : Draft) (ws : List (List ℕ)) → IsGood d → IfOk (read_other I d ws) (λ r. IsGood r.1)
  unfolding read_other
  read_other_good d ws is =
      choose (bytes_eq (word_at ws 0) (codes "lockage")) (add_lockage I d ws) (cond (bytes_eq (word_at ws 0) (codes "end")) (read_end d ws) (Err Word)) (λ r. IsGood r.1) (add_lockage_good d ws is)
      (choose (bytes_eq (word_at ws 0) (codes "end")) (read_end d ws) (Err Word) (λ r. IsGood r.1) (read_end_good d ws is) tt)

  read_line_good : (n : ℕ) (d : Draft) (ws : List (List ℕ)) → IsGood d → IfOk (read_line I n d ws) (λ r. IsGood r.1)
  unfolding read_line
  read_line_good n d ws is =
      choose (length ws == 0) (Ok (More, d)) (cond (bytes_eq (word_at ws 0) (codes "berth")) (at_line n (add_berth I n d ws)) (close I d >>= λ whole. at_line n (read_other I whole ws))) (λ r. IsGood r.1) is
      (choose (bytes_eq (word_at ws 0) (codes "berth")) (at_line n (add_berth I n d ws)) (close I d >>= λ whole. at_line n (read_other I whole ws)) (λ r. IsGood r.1)
      (on_line n (add_berth I n d ws) (λ r. IsGood r.1) (add_berth_good n d ws is))
      (bind (close I d) (λ whole. at_line n (read_other I whole ws)) IsGood (λ r. IsGood r.1) (close_good d is) (λ w whole. on_line n (read_other I w ws) (λ r. IsGood r.1) (read_other_good w ws whole))))

  -- ---- the whole text

  abbrev AreGood : List Lockage → Type 0
  AreGood ls = (length ls ≤ most_lockages I.ships) × All (IsWritable I) ls

  read_rest_good : (n : ℕ) (ls : List Lockage) (lines : List (List (List ℕ))) → AreGood ls → IfOk (read_rest n ls lines) AreGood
  read_rest_good n ls lines good = by_rest (first_words n lines)
    where
      by_rest : (rest : Result (Filled (List (List ℕ))) ℕ) → IfOk (ended ls rest) AreGood
      by_rest (Ok filled) = tt
      by_rest (Err last) = good

  read_body_good : (n : ℕ) (d : Draft) (lines : List (List (List ℕ))) → IsGood d → IfOk (read_body I n d lines) AreGood
  unfolding without_end
  read_body_good n d [] is = bind (close I d) (λ whole. Err (bad n NoEnd)) IsGood AreGood (close_good d is) (λ _ _. tt)
  read_body_good n d (ws ∷ more) is =
      bind (read_line I (n + 1) d ws) (λ read. proceed read.0 (read_body I (n + 1) read.1 more) (read_rest (n + 1) read.1.lockages more)) (λ r. IsGood r.1) AreGood (read_line_good (n + 1) d ws is) (λ r good. by_progress r.0 (read_body I (n + 1) r.1 more) (read_rest (n + 1) r.1.lockages more) (read_body_good (n + 1) r.1 more good) (read_rest_good (n + 1) r.1.lockages more (good.few, good.each)))
    where
      by_progress : (p : Progress) (x y : Result (List Lockage) BadPlan) → IfOk x AreGood → IfOk y AreGood → IfOk (proceed p x y) AreGood
      by_progress More x y first second = first
      by_progress Ended x y first second = second

  no_draft_good : IsGood no_draft
  no_draft_good = record { few = omega arith; each = All-nil (IsWritable I); head = tt; berths = omega arith; good = All-nil IsGoodBerth }

  read_lines_good : (n : ℕ) (lines : List (List (List ℕ))) → IfOk (read_lines I n lines) AreGood
  read_lines_good n lines = by_mark (first_words n lines)
    where
      by_mark : (mark : Result (Filled (List (List ℕ))) ℕ) → IfOk (read_from I mark) AreGood
      by_mark (Ok mark) = choose (is_only (codes "plan") mark.line) (read_body I mark.number no_draft mark.more) (Err (bad mark.number NoMark)) AreGood (read_body_good mark.number no_draft mark.more no_draft_good) tt
      by_mark (Err last) = tt

  reading_good : (text : List ℕ) → IfOk (reading I text) AreGood
  unfolding reading
  reading_good text = choose (is_utf8 text) (read_lines I 0 (map words (lines text))) (Err (bad (line_of_fault text) NotUtf8)) AreGood (read_lines_good 0 (map words (lines text))) tt

  -- a plan with a text is writable
  pub written : (P : Plan) → HasPlanText I P → AreWritable I P
  unfolding IsPlanText
  written P has = let good = at_ok (reading I has.text) has.is (reading_good has.text) in record { few = good.0; each = good.1 }
    where
      at_ok : (r : Result (List Lockage) BadPlan) → r ≡ Ok P.lockages → IfOk r AreGood → AreGood P.lockages
      at_ok r is good = subst (λ x. IfOk x AreGood) is good
