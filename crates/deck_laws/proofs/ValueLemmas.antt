-- The rounds of the search give the spot values.
use Rattle.std.proofs.Common.{◌≡◌, ◌≢◌, ℕ, zero, suc, ◌+◌, ◌-◌, ◌<◌, ◌≤◌, List, [], ◌∷◌, ◌++◌, length, filter, flat_map, cond, Bool, true, false, not, ◌&&◌, Option, Some, None, IsSome, is_some, Result, Ok, Err, IfOk, ◌⊎◌, inl, inr, refl, sym, ap, ◌∙◌, subst, arith, nat_eq, nat_le, replicate, slice_set}
use Rattle.std.proofs.lemmas.Bool.{le-leb, leb-true, false≢true, and_parts}
use Rattle.std.proofs.lemmas.Bool.Decides.{eqb_tells}
use Rattle.std.proofs.lemmas.List.{get_or-set_same, get_or-set_other, get_or-replicate, length-set, length-replicate}
use Rattle.std.proofs.lemmas.Option.{none-some, same_Some}
use Rattle.lock_model.specs.Deck.{Deck, IsDeck, no_size}
use Rattle.lock_model.specs.Ships.{RisesFrom}
use Rattle.lock_rules.specs.Arrival.{numbers_from}
use Rattle.refute_rules.specs.Reasons.{length_at}
use Rattle.refute_rules.specs.Values.{others, is_kept, shifts_by, shifts_of, values_after, spot_values}
use Rattle.lock_rules.proofs.TreeLemmas.{contains-among}
use Rattle.list_laws.specs.Among.{IsAmong}
use Rattle.refute_rules.proofs.Among.{IsAmong-right, IsAmong-filter, IsAmong-flat_map, IsAmong-numbers, among-append, among-flat_map, among-numbers}
use Rattle.lock_rules.proofs.AmongLemmas.{among-filter}
use Rattle.refute_rules.proofs.CaseLemmas.{others-among}
use Rattle.refute_rules.proofs.AnchorLemmas.{rising-among, values-later, anchored-spot_value}
use Rattle.deck_laws.specs.Laws.{HoldNormalPlaces}
use Rattle.deck_laws.specs.Reach.{round_at, least_length, IsStepBy, IsStepOf, IsNextOf, AreReached, HasReached, reached_of}
use Rattle.deck_laws.proofs.MemberLemmas.{among-rising, rising-rises, filter-rises, same-rising}
use Rattle.deck_laws.proofs.ReachLemmas.{some-by, still-some}

-- the number that is there
some-of : (o : Option ℕ) → IsSome o → (r : ℕ) × (o ≡ Some r)
some-of None h = cc
some-of (Some r) h = (r, refl)

-- a round is noted inside the table
inside : (rounds : List (Option ℕ)) (t r : ℕ) → round_at rounds t ≡ Some r → t < length rounds
inside [] t r e = cc
inside (o ∷ rounds) zero r e = omega arith
inside (o ∷ rounds) (suc t) r e = let rest = inside rounds t r e in omega (arith, rest)

-- ---- kept numbers
kept-by : (d : Deck) (t : ℕ) → d.end ≤ t → t + least_length d + d.end ≤ d.length → is_kept d t ≡ true
kept-by d t near far = ap (λ b. b && nat_le (t + least_length d + d.end) d.length) (le-leb d.end t near) ∙ le-leb (t + least_length d + d.end) d.length far

by-kept : (d : Deck) (t : ℕ) → is_kept d t ≡ true → (d.end ≤ t) × (t + least_length d + d.end ≤ d.length)
by-kept d t e =
    let both = and_parts (nat_le d.end t) (nat_le (t + least_length d + d.end) d.length) e in
    (leb-true d.end t both.0, leb-true (t + least_length d + d.end) d.length both.1)

-- ---- steps
of-others : (n i k : ℕ) → IsAmong (others n i) k → (k < n) × (k ≢ i)
of-others n i k h =
    let both = among-filter (λ u. not (nat_eq u i)) (numbers_from 0 n) k h in
    let low = among-numbers 0 n k both.0 in
    (omega (arith, low), differ both.1)
  where
    differ : not (nat_eq k i) ≡ true → k ≢ i
    differ e = elim (eqb_tells k i) [ inl y ↦ (let bad : false ≡ true = sym (ap not y.0) ∙ e in absurd (false≢true bad)) | inr n ↦ n.1 ]

shift-among : (d : Deck) (v i j t : ℕ) → i < length d.ships → j < length d.ships → j ≢ i → IsAmong (shifts_by d v i j) t → IsAmong (shifts_of d v) t
shift-among d v i j t ki kj differ h =
    IsAmong-flat_map (λ i. flat_map (shifts_by d v i) (others (length d.ships) i)) (numbers_from 0 (length d.ships)) i t (IsAmong-numbers 0 (length d.ships) i (omega arith) (omega (arith, ki)))
    (IsAmong-flat_map (shifts_by d v i) (others (length d.ships) i) j t (others-among (length d.ships) i j kj differ) h)

flush-among : (d : Deck) (v i j t : ℕ) → t + length_at d i ≡ v + length_at d j → IsAmong (shifts_by d v i j) t
flush-among d v i j t flush =
    let room : nat_le (length_at d i) (v + length_at d j) ≡ true = le-leb (length_at d i) (v + length_at d j) (omega (arith, flush)) in
    let is : v + length_at d j - length_at d i ≡ t = omega (arith, flush) in
    inr (subst (λ b. IsAmong (cond b ((v + length_at d j - length_at d i) ∷ []) []) t) (sym room) (inl is))

-- a ship beside ship j
beside : (n j : ℕ) → 2 ≤ n → (i : ℕ) × (i < n) × (j ≢ i)
beside n zero two = (1, omega (arith, two), λ e. absurd (omega (arith, e)))
beside n (suc j) two = (0, omega (arith, two), λ e. absurd (omega (arith, e)))

step-among : (d : Deck) (v t : ℕ) → 2 ≤ length d.ships → IsStepOf d v (length d.ships) t → IsAmong (shifts_of d v) t
step-among d v t two h = go h.2
  where
    go : IsStepBy d v h.0 t → IsAmong (shifts_of d v) t
    go (inl b) = let other = beside (length d.ships) h.0 two in shift-among d v other.0 h.0 t other.1 h.1 other.2 (inl (sym b.tight))
    go (inr f) = shift-among d v f.0 h.0 t f.1 h.1 (λ e. f.2.differ (sym e)) (flush-among d v f.0 h.0 t f.2.flush)

step-near : (d : Deck) (v t : ℕ) → IsStepOf d v (length d.ships) t → d.end ≤ t
step-near d v t h = go h.2
  where
    go : IsStepBy d v h.0 t → d.end ≤ t
    go (inl b) = b.near
    go (inr f) = f.2.near

among-step : (d : Deck) (v t : ℕ) → d.end ≤ t → IsAmong (shifts_of d v) t → IsStepOf d v (length d.ships) t
among-step d v t near h =
    let first = among-flat_map (λ i. flat_map (shifts_by d v i) (others (length d.ships) i)) (numbers_from 0 (length d.ships)) t h in
    let second = among-flat_map (shifts_by d v first.0) (others (length d.ships) first.0) t first.2 in
    let ki = among-numbers 0 (length d.ships) first.0 first.1 in
    let kj = of-others (length d.ships) first.0 second.0 second.1 in
    (second.0, kj.0, go first.0 second.0 (omega (arith, ki)) kj.1 second.2)
  where
    flush : (i j : ℕ) → i < length d.ships → j ≢ i → (b : Bool) → nat_le (length_at d i) (v + length_at d j) ≡ b → IsAmong (cond b ((v + length_at d j - length_at d i) ∷ []) []) t → IsStepBy d v j t
    flush i j ki differ true room (inl e) =
        let less = leb-true (length_at d i) (v + length_at d j) room in
        inr (i, ki, record { differ = λ s. differ (sym s); near = near; flush = omega (arith, less, e) })
    flush i j ki differ true room (inr bad) = absurd bad
    flush i j ki differ false room bad = absurd bad

    go : (i j : ℕ) → i < length d.ships → j ≢ i → IsAmong (shifts_by d v i j) t → IsStepBy d v j t
    go i j ki differ (inl e) = inl (record { near = near; tight = sym e })
    go i j ki differ (inr g) = flush i j ki differ (nat_le (length_at d i) (v + length_at d j)) refl g

-- ---- values
values-step : (d : Deck) (k v t : ℕ) → IsAmong (values_after d k) v → IsAmong (shifts_of d v) t → is_kept d t ≡ true → IsAmong (values_after d (suc k)) t
values-step d k v t h step kept =
    rising-among (values_after d k ++ filter (is_kept d) (flat_map (shifts_of d) (values_after d k))) t
    (IsAmong-right (values_after d k) (filter (is_kept d) (flat_map (shifts_of d) (values_after d k))) t
    (IsAmong-filter (is_kept d) (flat_map (shifts_of d) (values_after d k)) t kept (IsAmong-flat_map (shifts_of d) (values_after d k) v t h step)))

-- a value of the next round, and where it comes from
pub record IsStepped (d : Deck) (k t : ℕ) : Type 0 where
  pub from : ℕ
  pub value : IsAmong (values_after d k) from
  pub step : IsAmong (shifts_of d from) t
  pub kept : is_kept d t ≡ true

values-from : (d : Deck) (k t : ℕ) → IsAmong (values_after d (suc k)) t → IsAmong (values_after d k) t ⊎ IsStepped d k t
values-from d k t h =
    elim (among-append (values_after d k) (filter (is_kept d) (flat_map (shifts_of d) (values_after d k))) t (among-rising (values_after d k ++ filter (is_kept d) (flat_map (shifts_of d) (values_after d k))) t h)) [
      | inl old ↦ inl old
      | inr new ↦ inr (stepped (among-filter (is_kept d) (flat_map (shifts_of d) (values_after d k)) t new))
    ]
  where
    stepped : IsAmong (flat_map (shifts_of d) (values_after d k)) t × (is_kept d t ≡ true) → IsStepped d k t
    stepped both = let by = among-flat_map (shifts_of d) (values_after d k) t both.0 in record { from = by.0; value = by.1; step = by.2; kept = both.1 }

-- ---- one round more
pub next_reached : (d : Deck) (k : ℕ) (a b : List (Option ℕ)) → k + 1 < length d.ships → HasReached d k a → AreReached a b (k + 1) (IsNextOf d a k (length a)) → HasReached d (k + 1) b
next_reached d k a b more old next = record {
  table = record {
    near = (let near = old.table.near in let size = next.size in omega (arith, near, size));
    far = λ t h. old.table.far t (let size = next.size in omega (arith, h, size));
    whole = λ t h. (let here = old.table.whole t h in let size = next.size in omega (arith, here, size));
  };
  sound = λ t r e. sound t r e (next.adds t r e);
  complete = λ t h. complete t (values-from d k t (subst (λ m. IsAmong (values_after d m) t) step-is h));
}
  where
    step-is : k + 1 ≡ suc k
    step-is = omega arith

    sound : (t r : ℕ) → round_at b t ≡ Some r → (round_at a t ≡ Some r) ⊎ ((r ≡ k + 1) × IsNextOf d a k (length a) t) → (r ≤ k + 1) × IsAmong (values_after d r) t
    sound t r e (inl was) = let before = old.sound t r was in (let less = before.0 in omega (arith, less), before.1)
    sound t r e (inr new) =
        let here = inside b t r e in
        let size = next.size in
        let value = (old.sound new.1.0 k new.1.2.0).1 in
        let kept = kept-by d t (step-near d new.1.0 t new.1.2.1) (old.table.far t (omega (arith, here, size))) in
        let same : suc k ≡ r = (let is = new.0 in omega (arith, is)) in
        (let is = new.0 in omega (arith, is), subst (λ m. IsAmong (values_after d m) t) same (values-step d k new.1.0 t value (step-among d new.1.0 t (omega (arith, more)) new.1.2.1) kept))

    by-round : (t : ℕ) (s : IsStepped d k t) (r : ℕ) → round_at a s.from ≡ Some r → IsSome (round_at b t)
    by-round t s r e =
        let before = old.sound s.from r e in
        let place = by-kept d t s.kept in
        elim (eqb_tells r k) [
          | inl y ↦ next.all t (s.from, inside a s.from r e, (e ∙ ap Some y.1, among-step d s.from t place.0 s.step)) (old.table.whole t place.1)
          | inr n ↦ (
              let less = before.0 in
              let differ = n.1 in
              still-some a b (k + 1) (IsNextOf d a k (length a)) next t (old.complete t (values-later d (suc r) k t (omega (arith, less, differ)) (values-step d r s.from t before.1 s.step s.kept)))
              )
        ]

    complete : (t : ℕ) → IsAmong (values_after d k) t ⊎ IsStepped d k t → IsSome (round_at b t)
    complete t (inl was) = still-some a b (k + 1) (IsNextOf d a k (length a)) next t (old.complete t was)
    complete t (inr s) = let some = some-of (round_at a s.from) (old.complete s.from s.value) in by-round t s some.0 some.1

-- ---- the near end alone
abbrev blank_table : ℕ → List (Option ℕ)
blank_table last = replicate (last + 1) None

abbrev first_table : ℕ → ℕ → List (Option ℕ)
first_table last end = slice_set (blank_table last) end (Some 0)

pub first_reached : (d : Deck) (last : ℕ) (fresh rounds : List (Option ℕ)) → d.end ≤ last → last + least_length d + d.end ≡ d.length → fresh ≡ blank_table last → rounds ≡ slice_set fresh d.end (Some 0) → HasReached d 0 rounds
first_reached d last fresh rounds near room empty is =
    subst (HasReached d 0) (sym (is ∙ ap (λ xs. slice_set xs d.end (Some 0)) empty)) (record {
      table = record {
        near = omega (arith, size, near);
        far = λ t h. omega (arith, size, h, room);
        whole = λ t h. omega (arith, size, h, room);
      };
      sound = λ t r e. sound t r e;
      complete = λ t h. complete t (among-filter (is_kept d) (d.end ∷ []) t h);
    })
  where
    size : length (first_table last d.end) ≡ last + 1
    size = length-set (blank_table last) d.end (Some 0) ∙ length-replicate (last + 1) None

    at-end : round_at (first_table last d.end) d.end ≡ Some 0
    at-end = get_or-set_same (blank_table last) d.end (Some 0) None (let long = length-replicate {A = Option ℕ} (last + 1) None in omega (arith, near, long))

    kept-end : is_kept d d.end ≡ true
    kept-end = kept-by d d.end (omega arith) (omega (arith, near, room))

    sound : (t r : ℕ) → round_at (first_table last d.end) t ≡ Some r → (r ≤ 0) × IsAmong (values_after d r) t
    sound t r e =
        elim (eqb_tells t d.end) [
          | inl y ↦ (
              let zero-is : 0 ≡ r = same_Some 0 r (sym at-end ∙ ap (round_at (first_table last d.end)) (sym y.1) ∙ e) in
              (omega (arith, zero-is), subst (λ m. IsAmong (values_after d m) t) zero-is (subst (IsAmong (values_after d 0)) (sym y.1) (IsAmong-filter (is_kept d) (d.end ∷ []) d.end kept-end (inl refl))))
              )
          | inr n ↦ absurd (none-some r (sym (blank t (inside (first_table last d.end) t r e)) ∙ sym (get_or-set_other (blank_table last) d.end t (Some 0) None n.1) ∙ e))
        ]
      where
        blank : (t : ℕ) → t < length (first_table last d.end) → round_at (blank_table last) t ≡ None
        blank t h = get_or-replicate (last + 1) t None None (omega (arith, h, size))

    complete : (t : ℕ) → IsAmong (d.end ∷ []) t × (is_kept d t ≡ true) → IsSome (round_at (first_table last d.end) t)
    complete t (inl e, kept) = some-by (round_at (first_table last d.end) t) 0 (ap (round_at (first_table last d.end)) (sym e) ∙ at-end)
    complete t (inr bad, kept) = absurd bad

-- ---- all rounds
values-rise : (d : Deck) (k : ℕ) → RisesFrom 0 (values_after d k)
values-rise d zero = one (is_kept d d.end)
  where
    one : (b : Bool) → RisesFrom 0 (cond b (d.end ∷ []) [])
    one true = (omega arith, tt)
    one false = tt
values-rise d (suc k) = rising-rises (values_after d k ++ filter (is_kept d) (flat_map (shifts_of d) (values_after d k)))

pub reached_values : (d : Deck) (rounds : List (Option ℕ)) → HasReached d (length d.ships - 1) rounds → reached_of rounds (length rounds) ≡ spot_values d
reached_values d rounds done =
    same-rising 0 (reached_of rounds (length rounds)) (spot_values d) (filter-rises (λ t. is_some (round_at rounds t)) 0 (length rounds)) (values-rise d (length d.ships - 1)) to from
  where
    to : (t : ℕ) → IsAmong (reached_of rounds (length rounds)) t → IsAmong (spot_values d) t
    to t h =
        let both = among-filter (λ t. is_some (round_at rounds t)) (numbers_from 0 (length rounds)) t h in
        let some = some-of (round_at rounds t) both.1 in
        let sound = done.sound t some.0 some.1 in
        values-later d some.0 (length d.ships - 1) t sound.0 sound.1

    from : (t : ℕ) → IsAmong (spot_values d) t → IsAmong (reached_of rounds (length rounds)) t
    from t h =
        let is = done.complete t h in
        let some = some-of (round_at rounds t) is in
        let here = inside rounds t some.0 some.1 in
        IsAmong-filter (λ t. is_some (round_at rounds t)) (numbers_from 0 (length rounds)) t is (IsAmong-numbers 0 (length rounds) t (omega arith) (omega (arith, here)))

-- where no ship has room there are none
pub no_values : (d : Deck) → d.length < d.end + least_length d + d.end → spot_values d ≡ []
no_values d short = same-rising 0 (spot_values d) [] (values-rise d (length d.ships - 1)) tt (λ t h. none (length d.ships - 1) t h) (λ t h. absurd h)
  where
    end-none : (t : ℕ) → IsAmong (d.end ∷ []) t × (is_kept d t ≡ true) → ⊥
    end-none t both = let room = by-kept d t both.1 in omega (arith, room, short)

    none : (k t : ℕ) → IsAmong (values_after d k) t → ⊥
    none zero t h = end-none t (among-filter (is_kept d) (d.end ∷ []) t h)
    none (suc k) t h = elim (values-from d k t h) [ inl old ↦ none k t old | inr s ↦ none k s.from s.value ]

-- the x of a ship of a normal placement is a spot value
pub normal_places : (d : Deck) → IsDeck d → HoldNormalPlaces d (spot_values d)
normal_places d limits = record { each = λ spots i normal known. contains-among (spot_values d) _ (anchored-spot_value d spots normal.legal (λ j here. (limits.sizes j no_size here).long.0) i known (normal.anchored i known)) }

-- what holds of the value if there is one
pub ok_weaker : {T E : Type 0} (r : Result T E) (P Q : T → Type 0) → ((v : T) → P v → Q v) → IfOk r P → IfOk r Q
ok_weaker (Ok v) P Q f h = f v h
ok_weaker (Err e) P Q f h = h

-- the same of a list that is known to be the spot values
pub normal_of : (d : Deck) (values : List ℕ) → IsDeck d → values ≡ spot_values d → HoldNormalPlaces d values
normal_of d values limits is = subst (HoldNormalPlaces d) (sym is) (normal_places d limits)
