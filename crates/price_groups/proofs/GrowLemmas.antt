-- Growing groups by one ship more lists all that have it.
use Rattle.std.proofs.Common.{◌≡◌, ◌≢◌, ℕ, suc, ◌<◌, ◌≤◌, Bool, true, false, not, cond, nat_eq, nat_lt, ◌⊎◌, inl, inr, List, [], ◌∷◌, ◌++◌, length, filter, All, Contains, refl, sym, ap, ◌∙◌, subst, arith, slice_index_or}
use Rattle.std.proofs.Math.Seq.{get_or-append_seam}
use Rattle.std.proofs.lemmas.Bool.{false≢true, not-true}
use Rattle.std.proofs.lemmas.Bool.Decides.{eqb_tells, leb_tells}
use Rattle.std.proofs.lemmas.List.{get_or_append_left, get_or_default, length-append}
use Rattle.std.proofs.lemmas.List.Elements.{All-head, All-tail, All-cons, All-nil, All-push, All-weaker, All-filter, All-contains, Contains-get_or, filter_passes}
use Rattle.std.specs.List.Sorted.{IsStrictlyIncreasing}
use Rattle.list_laws.proofs.Counts.{filter-shorter}
use Rattle.list_laws.proofs.Lists.{filter-all, Contains-before_push}
use Rattle.lock_model.specs.Ships.{RisesFrom}
use Rattle.lock_model.specs.Fleet.{ship_at}
use Rattle.lock_model.specs.declared.instance.Instance.{Instance}
use Rattle.lock_model.specs.declared.group.Group.{Group}
use Rattle.lock_rules.specs.Plan.{times_in}
use Rattle.lock_rules.specs.Arrival.{first_ships}
use Rattle.lock_rules.specs.Trace.{has_number}
use Rattle.lock_rules.specs.Children.{insert_number, with_ship}
use Rattle.lock_rules.proofs.TreeLemmas.{RisesFrom-filter, length-insert_number, low-times_in, times_in-hit, times_in-miss, filter-present}
use Rattle.lock_rules.proofs.SplitLemmas.{RisesFrom-increasing, All-times, times_in-at}
use Rattle.lock_rules.proofs.NodeLemmas.{RisesFrom-insert, All-insert_number, increasing-RisesFrom}
use Rattle.price_rules.specs.Prices.{PriceList, is_missing}
use Rattle.price_groups.specs.Asks.{GroupAsk, group_ask}
use Rattle.price_groups.specs.Growing.{IsAllowed, IsGrown, HasIdler, AreGrown, MayJoin, AreJoining, IsBase, IsNew, IsJoined}
use Rattle.price_groups.specs.Sparing.{LacksSome}
use Rattle.price_groups.proofs.IdleLemmas.{idler-more}

-- a number stands once at most among rising numbers
rising-once : (low s : ℕ) (xs : List ℕ) → RisesFrom low xs → times_in xs s ≤ 1
rising-once low s [] r = omega arith
rising-once low s (x ∷ xs) r =
    elim (eqb_tells x s) [
      | inl y ↦ elim (leb_tells 1 (times_in xs s)) [
        | inl some ↦ absurd (omega (arith, y.1, low-times_in s (suc x) xs r.1 some.1))
        | inr none ↦ omega (arith, times_in-hit s x xs y.0, none.1)
      ]
      | inr n ↦ omega (arith, times_in-miss s x xs n.0, rising-once (suc x) s xs r.1)
    ]

module _ (n : ℕ) where
  abbrev pub is_other : ℕ → Bool
  is_other t = not (nat_eq t n)

  other-itself : is_other n ≡ false
  other-itself = elim (eqb_tells n n) [ inl y ↦ ap not y.0 | inr m ↦ absurd (m.1 refl) ]

  other-else : (t : ℕ) → t ≢ n → true ≡ is_other t
  other-else t differ = elim (eqb_tells t n) [ inl y ↦ absurd (differ y.1) | inr m ↦ ap not (sym m.0) ]

  -- a number that is taken out of rising numbers and put in again
  pub again : (xs : List ℕ) → IsStrictlyIncreasing xs → 1 ≤ times_in xs n → insert_number n (filter is_other xs) ≡ xs
  again xs rising some =
      let rises = RisesFrom-increasing xs rising in
      sym (filter-present is_other (λ _. true) n other-itself refl other-else 0 xs rises (omega (arith, some, rising-once 0 n xs rises))) ∙ filter-all xs

  -- what a test keeps that n doesn't pass
  module _ (p : ℕ → Bool) (fresh : p n ≡ false) where
    keeps-without : (xs : List ℕ) → filter p (filter is_other xs) ≡ filter p xs
    keeps-without [] = refl
    keeps-without (x ∷ xs) =
        elim (eqb_tells x n) [
          | inl y ↦
              let gone : is_other x ≡ false = ap not y.0 in
              let miss : p x ≡ false = ap p y.1 ∙ fresh in
              (λ i. filter p (cond (gone i) (x ∷ filter is_other xs) (filter is_other xs))) ∙ keeps-without xs ∙ (λ i. cond (sym miss i) (x ∷ filter p xs) (filter p xs))
          | inr m ↦
              let here : is_other x ≡ true = ap not m.0 in
              (λ i. filter p (cond (here i) (x ∷ filter is_other xs) (filter is_other xs))) ∙ (λ i. cond (p x) (x ∷ keeps-without xs i) (keeps-without xs i))
        ]

    pub keeps-insert : (xs : List ℕ) → filter p (insert_number n xs) ≡ filter p xs
    keeps-insert [] = λ i. cond (fresh i) (n ∷ []) []
    keeps-insert (x ∷ xs) =
        elim (nat_lt n x) as (λ b. filter p (cond b (n ∷ x ∷ xs) (x ∷ insert_number n xs)) ≡ filter p (x ∷ xs)) [
          | true ↦ λ i. cond (fresh i) (n ∷ filter p (x ∷ xs)) (filter p (x ∷ xs))
          | false ↦ λ i. cond (p x) (x ∷ keeps-insert xs i) (keeps-insert xs i)
        ]

  absent-other : (xs : List ℕ) → times_in xs n ≡ 0 → All (λ s. s ≢ n) xs
  absent-other xs none = All-weaker (λ s. 1 ≤ times_in xs s) (λ s. s ≢ n) (λ s some same. let here : 1 ≤ times_in xs n = subst (λ s. 1 ≤ times_in xs s) same some in absurd (omega (arith, here, none))) xs (times_in-at xs)

-- ships that are all among the first are all kept
kept-first : (p : ℕ → Bool) (x : ℕ) (xs ys : List ℕ) → (p x ≡ true) ⊎ (x < 0) → ys ≡ xs → cond (p x) (x ∷ ys) ys ≡ x ∷ xs
kept-first p x xs ys (inl h) e = λ i. cond (h i) (x ∷ e i) (e i)
kept-first p x xs ys (inr h) e = absurd (omega (arith, h))

all-kept : (I : Instance) (k : ℕ) (xs : List ℕ) → All (IsAllowed I k 0) xs → filter (has_number (first_ships I k)) xs ≡ xs
all-kept I k [] all = refl
all-kept I k (x ∷ xs) all =
    kept-first (has_number (first_ships I k)) x xs (filter (has_number (first_ships I k)) xs) (All-head (IsAllowed I k 0) x xs all) (all-kept I k xs (All-tail (IsAllowed I k 0) x xs all))

-- fewer ships hold no more sets
misses-fewer : (xs ys : List ℕ) (sets : List (List ℕ)) → All (Contains ys) xs → All (LacksSome ys) sets → All (LacksSome xs) sets
misses-fewer xs ys sets among misses =
    All-weaker (LacksSome ys) (LacksSome xs) (λ set miss within. miss (record { among = All-weaker (Contains xs) (Contains ys) (λ s h. All-contains (Contains ys) xs s among h) set within.among })) sets misses

before : (i j : ℕ) → j < suc i → j ≢ i → j < i
before i j less m = elim (leb_tells (suc j) i) [ inl y ↦ y.1 | inr q ↦ absurd (m (omega (arith, less, q.1))) ]

same-place : (gs : List Group) (i j : ℕ) (e d : Group) → i < length gs → j ≡ i → slice_index_or gs j e ≡ slice_index_or gs i d
same-place gs i j e d here same = ap (λ j. slice_index_or gs j e) same ∙ get_or_default gs i e d here

module _ (I : Instance) (c k : ℕ) (prices : PriceList) (sets : List (List ℕ)) (base : Group) where
  abbrev A : GroupAsk
  A = group_ask I c k prices sets

  abbrev kept : ℕ → Bool
  kept = has_number (first_ships I k)

  -- at first the base alone
  pub grown-first : IsGrown I c k sets base 0 base → AreGrown A base 0 (base ∷ [])
  grown-first is = record {
    each = All-cons (IsGrown I c k sets base 0) base [] is (All-nil (IsGrown I c k sets base 0));
    whole = λ g h. inl (0, omega arith, same g h);
  }
    where
      same : (g : Group) → IsGrown I c k sets base 0 g → base ≡ g
      same g h = λ i. record { way = sym h.way i; ships = (sym h.keeps ∙ all-kept I k g.ships h.allowed) i }

  -- none where a forbidden set is in the base
  pub grown-none : (n : ℕ) → ¬ All (LacksSome base.ships) sets → AreGrown A base n []
  grown-none n hit = record {
    each = All-nil (IsGrown I c k sets base n);
    whole = λ g h. absurd (hit (misses-fewer base.ships g.ships sets (subst (All (Contains g.ships)) h.keeps (All-filter kept (Contains g.ships) g.ships (λ j d here. Contains-get_or g.ships j d here))) h.missed));
  }

  grown-more : (n : ℕ) (g : Group) → IsGrown I c k sets base n g → IsGrown I c k sets base (suc n) g
  grown-more n g h = record {
    rising = h.rising;
    known = h.known;
    few = h.few;
    way = h.way;
    ways = h.ways;
    missed = h.missed;
    keeps = h.keeps;
    allowed = All-weaker (IsAllowed I k n) (IsAllowed I k (suc n)) (λ s a. step s a) g.ships h.allowed;
  }
    where
      step : (s : ℕ) → IsAllowed I k n s → IsAllowed I k (suc n) s
      step s (inl h) = inl h
      step s (inr h) = inr (omega (arith, h))

  -- without a missing ship it was grown too
  pub grown-fewer : (n s : ℕ) (g : Group) → kept s ≡ false → IsGrown I c k sets base n g → IsGrown I c k sets base n (record { way = g.way; ships = filter (is_other s) g.ships })
  grown-fewer n s g fresh h =
      let less = filter (is_other s) g.ships in
      let among : All (Contains g.ships) less = All-filter (is_other s) (Contains g.ships) g.ships (λ j d here. Contains-get_or g.ships j d here) in
      record {
        rising = increasing-RisesFrom 0 less (RisesFrom-filter (is_other s) 0 g.ships (RisesFrom-increasing g.ships h.rising));
        known = All-filter (is_other s) (λ t. t < length I.ships) g.ships h.known;
        few = omega (arith, h.few, filter-shorter (is_other s) g.ships);
        way = h.way;
        ways = All-filter (is_other s) (λ t. (ship_at I t).way ≡ base.way) g.ships h.ways;
        missed = misses-fewer less g.ships sets among h.missed;
        keeps = keeps-without s kept fresh g.ships ∙ h.keeps;
        allowed = All-filter (is_other s) (IsAllowed I k n) g.ships h.allowed;
      }

  module _ (n : ℕ) (fresh : kept n ≡ false) where
    -- a grown group doesn't have the ship yet
    pub grown-absent : (g : Group) → IsGrown I c k sets base n g → times_in g.ships n ≡ 0
    grown-absent g h =
        elim (leb_tells 1 (times_in g.ships n)) [
          | inl some ↦ absurd (step (All-times (IsAllowed I k n) n g.ships h.allowed some.1))
          | inr none ↦ omega (arith, none.1)
        ]
      where
        step : IsAllowed I k n n → ⊥
        step (inl h) = false≢true (sym fresh ∙ h)
        step (inr h) = omega (arith, h)

    -- with the ship it is grown by one more
    pub grown-with : (g : Group) → n < length I.ships → (ship_at I n).way ≡ base.way → IsGrown I c k sets base n g → MayJoin I c sets n g → IsGrown I c k sets base (suc n) (with_ship n g)
    grown-with g known way h may = record {
      rising = increasing-RisesFrom 0 (insert_number n g.ships) (RisesFrom-insert 0 n g.ships (omega arith) (grown-absent g h) (RisesFrom-increasing g.ships h.rising));
      known = All-insert_number (λ s. s < length I.ships) n g.ships known h.known;
      few = omega (arith, may.room, length-insert_number n g.ships);
      way = h.way;
      ways = All-insert_number (λ s. (ship_at I s).way ≡ base.way) n g.ships way h.ways;
      missed = may.missed;
      keeps = keeps-insert n kept fresh g.ships ∙ h.keeps;
      allowed = All-insert_number (IsAllowed I k (suc n)) n g.ships (inr (omega arith)) (grown-more n g h).allowed;
    }

    -- without the ship it was grown before, and the ship may join it
    grown-without : (g : Group) → IsGrown I c k sets base (suc n) g → 1 ≤ times_in g.ships n
        → IsGrown I c k sets base n (record { way = g.way; ships = filter (is_other n) g.ships }) × MayJoin I c sets n (record { way = g.way; ships = filter (is_other n) g.ships })
    grown-without g h some =
        let less = filter (is_other n) g.ships in
        let back : insert_number n less ≡ g.ships = again n g.ships h.rising some in
        let among : All (Contains g.ships) less = All-filter (is_other n) (Contains g.ships) g.ships (λ j d here. Contains-get_or g.ships j d here) in (
          record {
            rising = increasing-RisesFrom 0 less (RisesFrom-filter (is_other n) 0 g.ships (RisesFrom-increasing g.ships h.rising));
            known = All-filter (is_other n) (λ s. s < length I.ships) g.ships h.known;
            few = omega (arith, h.few, filter-shorter (is_other n) g.ships);
            way = h.way;
            ways = All-filter (is_other n) (λ s. (ship_at I s).way ≡ base.way) g.ships h.ways;
            missed = misses-fewer less g.ships sets among h.missed;
            keeps = keeps-without n kept fresh g.ships ∙ h.keeps;
            allowed = λ j d here. lower (slice_index_or less j d) (filter_passes (is_other n) g.ships j d here) (All-filter (is_other n) (IsAllowed I k (suc n)) g.ships h.allowed j d here);
          },
          record { room = omega (arith, h.few, length-insert_number n less, ap length back); missed = subst (λ ships. All (LacksSome ships) sets) (sym back) h.missed },
        )
      where
        lower : (s : ℕ) → is_other n s ≡ true → IsAllowed I k (suc n) s → IsAllowed I k n s
        lower s other (inl h) = inl h
        lower s other (inr h) =
            elim (eqb_tells s n) [
              | inl y ↦ absurd (false≢true (sym (ap not y.0) ∙ other))
              | inr m ↦ inr (below s h m.1)
            ]
          where
            below : (s : ℕ) → s < suc n → s ≢ n → s < n
            below s h m = elim (leb_tells (suc s) n) [ inl y ↦ y.1 | inr q ↦ absurd (m (omega (arith, h, q.1))) ]

    grown-same : (g : Group) → IsGrown I c k sets base (suc n) g → times_in g.ships n ≡ 0 → IsGrown I c k sets base n g
    grown-same g h none = record {
      rising = h.rising;
      known = h.known;
      few = h.few;
      way = h.way;
      ways = h.ways;
      missed = h.missed;
      keeps = h.keeps;
      allowed = λ j d here. lower (slice_index_or g.ships j d) (absent-other n g.ships none j d here) (h.allowed j d here);
    }
      where
        lower : (s : ℕ) → s ≢ n → IsAllowed I k (suc n) s → IsAllowed I k n s
        lower s other (inl h) = inl h
        lower s other (inr h) = elim (leb_tells (suc s) n) [ inl y ↦ inr y.1 | inr q ↦ absurd (other (omega (arith, h, q.1))) ]

    module _ (old : List Group) (were : AreGrown A base n old) where
      pub joining-start : AreJoining A base n old 0 old
      joining-start = record {
        each = All-weaker (IsGrown I c k sets base n) (IsGrown I c k sets base (suc n)) (grown-more n) old were.each;
        long = omega arith;
        first = λ j d here. refl;
        done = λ j d none here may. absurd (omega (arith, none));
      }

      -- WHAT WAS GROWN and all that may join: the groups with one ship more.
      pub joining-done : (groups : List Group) → AreJoining A base n old (length old) groups → AreGrown A base (suc n) groups
      joining-done groups are = record {
        each = are.each;
        whole = λ g h. elim (leb_tells 1 (times_in g.ships n)) [
          | inl some ↦
              let parts = grown-without g h some.1 in
              let less : Group = record { way = g.way; ships = filter (is_other n) g.ships } in
              let back : with_ship n less ≡ g = λ i. record { way = g.way; ships = again n g.ships h.rising some.1 i } in
              elim (were.whole less parts.0) [
                | inl at ↦
                    let may : MayJoin I c sets n (slice_index_or old at.0 less) = subst (MayJoin I c sets n) (sym at.2) parts.1 in
                    subst (λ g. (Contains groups g) ⊎ HasIdler I c k prices g) (ap (with_ship n) at.2 ∙ back) (are.done at.0 less at.1 at.1 may)
                | inr idler ↦ inr (idler-more I c k prices (is_other n) g idler)
              ]
          | inr none ↦ elim (were.whole g (grown-same g h (omega (arith, none.1)))) [
            | inl at ↦ inl (at.0, omega (arith, at.1, are.long), are.first at.0 g at.1 ∙ at.2)
            | inr idler ↦ inr idler
          ]
        ];
      }

      -- what is held or has a ship that gains nothing stays so with a group more
      still : (gs : List Group) (x g : Group) → (Contains gs g) ⊎ HasIdler I c k prices g → (Contains (gs ++ x ∷ []) g) ⊎ HasIdler I c k prices g
      still gs x g (inl held) = inl (Contains-before_push gs x g held)
      still gs x g (inr idler) = inr idler

      left : (g joined : Group) (groups : List Group) → (¬ MayJoin I c sets n g) ⊎ HasIdler I c k prices (with_ship n g) → MayJoin I c sets n g → with_ship n g ≡ joined → (Contains groups joined) ⊎ HasIdler I c k prices joined
      left g joined groups (inl never) may same = absurd (never may)
      left g joined groups (inr idler) may same = inr (subst (HasIdler I c k prices) same idler)

      pub joining-next : (i : ℕ) (d : Group) (groups new : List Group) → i < length old → n < length I.ships → (ship_at I n).way ≡ base.way → AreJoining A base n old i groups
          → IsJoined A n (slice_index_or old i d) groups new → AreJoining A base n old (suc i) new
      joining-next i d groups new here known way are (inl joined) =
          let g = slice_index_or old i d in
          let grown = grown-with g known way (were.each i d here) joined.0 in
          let longer = length-append groups (with_ship n g ∷ []) in
          subst (AreJoining A base n old (suc i)) (sym joined.1) (record {
            each = All-push (IsGrown I c k sets base (suc n)) groups (with_ship n g) are.each grown;
            long = omega (arith, are.long, longer);
            first = λ j e inside. get_or_append_left groups (with_ship n g ∷ []) e j (omega (arith, inside, are.long)) ∙ are.first j e inside;
            done = λ j e less inside may. elim (eqb_tells j i) [
              | inl y ↦ inl (subst (Contains (groups ++ with_ship n g ∷ [])) (ap (with_ship n) (sym (same-place old i j e d here y.1))) (length groups, omega (arith, longer), get_or-append_seam groups (with_ship n g) [] (with_ship n g)))
              | inr m ↦ still groups (with_ship n g) (with_ship n (slice_index_or old j e)) (are.done j e (before i j less m.1) inside may)
            ];
          })
      joining-next i d groups new here known way are (inr not) =
          subst (AreJoining A base n old (suc i)) (sym not.1) (record {
            each = are.each;
            long = are.long;
            first = are.first;
            done = λ j e less inside may. elim (eqb_tells j i) [
              | inl y ↦ left (slice_index_or old i d) (with_ship n (slice_index_or old j e)) groups not.0 (subst (MayJoin I c sets n) (same-place old i j e d here y.1) may) (ap (with_ship n) (sym (same-place old i j e d here y.1)))
              | inr m ↦ are.done j e (before i j less m.1) inside may
            ];
          })

  -- a ship that may not join any group changes nothing
  pub grown-skip : (n : ℕ) (groups : List Group) → ¬ IsNew I k base n → AreGrown A base n groups → AreGrown A base (suc n) groups
  grown-skip n groups old are = record {
    each = All-weaker (IsGrown I c k sets base n) (IsGrown I c k sets base (suc n)) (grown-more n) groups are.each;
    whole = λ g h. are.whole g (record {
      rising = h.rising;
      known = h.known;
      few = h.few;
      way = h.way;
      ways = h.ways;
      missed = h.missed;
      keeps = h.keeps;
      allowed = λ j d here. lower (slice_index_or g.ships j d) (h.ways j d here) (h.allowed j d here);
    });
  }
    where
      whether : (s : ℕ) → (ship_at I s).way ≡ base.way → s ≡ n → (b : Bool) → kept s ≡ b → IsAllowed I k n s
      whether s way same true e = inl e
      whether s way same false e = absurd (old (record { missing = ap not (ap kept (sym same) ∙ e); way = subst (λ s. (ship_at I s).way ≡ base.way) same way }))

      lower : (s : ℕ) → (ship_at I s).way ≡ base.way → IsAllowed I k (suc n) s → IsAllowed I k n s
      lower s way (inl h) = inl h
      lower s way (inr h) = elim (eqb_tells s n) [ inl y ↦ whether s way y.1 (kept s) refl | inr m ↦ inr (before n s h m.1) ]

  -- the base itself is grown by no ship
  pub base-grown : IsBase I c k base → All (LacksSome base.ships) sets → IsGrown I c k sets base 0 base
  base-grown is misses = record {
    rising = is.rising;
    known = is.known;
    few = is.few;
    way = refl;
    ways = is.ways;
    missed = misses;
    keeps = is.keeps;
    allowed = subst (All (IsAllowed I k 0)) is.keeps (All-weaker (λ s. kept s ≡ true) (IsAllowed I k 0) (λ s h. inl h) (filter kept base.ships) (filter_passes kept base.ships));
  }

pub missing-fresh : (I : Instance) (k s : ℕ) → is_missing I k s ≡ true → has_number (first_ships I k) s ≡ false
missing-fresh I k s e = not-true (has_number (first_ships I k) s) e

-- a ship that all others are before comes last
pub insert-last : (n : ℕ) (xs : List ℕ) → All (λ x. x < n) xs → insert_number n xs ≡ xs ++ n ∷ []
insert-last n [] before = refl
insert-last n (x ∷ xs) before =
    let here : x < n = All-head (λ x. x < n) x xs before in
    elim (leb_tells (suc n) x) [
      | inl y ↦ absurd (omega (arith, here, y.1))
      | inr m ↦ (λ i. cond (m.0 i) (n ∷ x ∷ xs) (x ∷ insert_number n xs)) ∙ ap (λ ys. x ∷ ys) (insert-last n xs (All-tail (λ x. x < n) x xs before))
    ]
