-- What has grown is kept as more sets are forbidden: the groups that hold none of these are left.
use Rattle.std.proofs.Common.{◌≡◌, ℕ, suc, ◌+◌, ◌<◌, ◌≤◌, inl, inr, List, [], ◌∷◌, ◌++◌, length, All, Contains, refl, sym, ap, ◌∙◌, subst, arith, slice_index_or, bit_and}
use Rattle.std.proofs.Math.Seq.{get_or-append_seam}
use Rattle.std.proofs.lemmas.Bool.Decides.{eqb_tells, leb_tells}
use Rattle.std.proofs.lemmas.List.{get_or_append_left, get_or_default, length-append}
use Rattle.std.proofs.lemmas.List.Elements.{All-append, All-contains, All-nil, All-push, All-weaker, Contains-append_left, Contains-append_right, Contains-get_or, Contains-push}
use Rattle.list_laws.proofs.Lists.{Contains-before_push}
use Rattle.lock_model.specs.declared.limits.TheConstants.{SHIPS}
use Rattle.lock_model.specs.declared.instance.Instance.{Instance}
use Rattle.lock_model.specs.declared.group.Group.{Group}
use Rattle.price_rules.specs.Prices.{PriceList, PlainCut, Spares}
use Rattle.price_groups.specs.declared.grown_lists.GrownGroup.{GrownGroup}
use Rattle.price_groups.specs.declared.grown_lists.GrownList.{GrownList}
use Rattle.price_groups.specs.Asks.{group_ask}
use Rattle.price_groups.specs.Growing.{IsGrown}
use Rattle.price_groups.specs.GrownLists.{IsGrownGroup, HasGroup, IsGrownList}
use Rattle.price_groups.specs.Masks.{IsMask, AreMarks}
use Rattle.price_groups.specs.Sparing.{LacksSome, AreForbidden}
use Rattle.price_bound.specs.KeptGroups.{IsApart, IsPutSpared, AreSpared, IsSparedList, AreSparedLists}
use Rattle.price_groups.proofs.MaskLemmas.{earlier, mask-in, in-mask}

-- the first half of a list, and the second
all-left : {X : Type 0} (P : X → Type 0) (xs ys : List X) → All P (xs ++ ys) → All P xs
all-left P xs ys all = λ j d here. All-contains P (xs ++ ys) (slice_index_or xs j d) all (Contains-append_left xs ys (slice_index_or xs j d) (Contains-get_or xs j d here))

all-right : {X : Type 0} (P : X → Type 0) (xs ys : List X) → All P (xs ++ ys) → All P ys
all-right P xs ys all = λ j d here. All-contains P (xs ++ ys) (slice_index_or ys j d) all (Contains-append_right xs ys (slice_index_or ys j d) (Contains-get_or ys j d here))

-- those of the groups that hold none of the masks' sets, one group after another
module _ (masks : List ℕ) (groups : List GrownGroup) where
  pub spared-first : AreSpared masks groups 0 []
  spared-first = record {
    each = All-nil (Contains groups);
    apart = All-nil (λ (one : GrownGroup). IsApart masks one.sums.mask);
    whole = λ j d none here. absurd (omega (arith, none));
  }

  pub spared-next : (i : ℕ) (one : GrownGroup) (old new : List GrownGroup) → i < length groups → one ≡ slice_index_or groups i one → IsPutSpared masks one old new → AreSpared masks groups i old → AreSpared masks groups (i + 1) new
  spared-next i one old new here is put are = record {
    each = elim put [
      | inl more ↦ subst (All (Contains groups)) (sym more.1) (All-push (Contains groups) old one are.each (i, here, sym is))
      | inr left ↦ subst (All (Contains groups)) (sym left.1) are.each
    ];
    apart = elim put [
      | inl more ↦ subst (All (λ (one : GrownGroup). IsApart masks one.sums.mask)) (sym more.1) (All-push (λ (one : GrownGroup). IsApart masks one.sums.mask) old one are.apart more.0)
      | inr left ↦ subst (All (λ (one : GrownGroup). IsApart masks one.sums.mask)) (sym left.1) are.apart
    ];
    whole = λ j d less inside apart. elim (eqb_tells j i) [
      | inl y ↦
          let same : one ≡ slice_index_or groups j d = is ∙ get_or_default groups i one d here ∙ ap (λ i. slice_index_or groups i d) (sym y.1) in
          subst (Contains new) same (last put (subst (λ (one : GrownGroup). IsApart masks one.sums.mask) (sym same) apart))
      | inr m ↦ kept put (slice_index_or groups j d) (are.whole j d (earlier i j m.1 less) inside apart)
    ];
  }
    where
      last : IsPutSpared masks one old new → IsApart masks one.sums.mask → Contains new one
      last (inl more) apart = subst (λ xs. Contains xs one) (sym more.1) (Contains-push old one)
      last (inr left) apart = absurd (left.0 apart)

      kept : IsPutSpared masks one old new → (g : GrownGroup) → Contains old g → Contains new g
      kept (inl more) g held = subst (λ xs. Contains xs g) (sym more.1) (Contains-before_push old one g held)
      kept (inr left) g held = subst (λ xs. Contains xs g) (sym left.1) held

-- one list more
module _ (masks : List ℕ) (lists : List GrownList) where
  pub lists-first : AreSparedLists masks lists 0 []
  lists-first = record { count = refl; each = λ j d e none. absurd (omega (arith, none)) }

  pub lists-next : (n : ℕ) (spared : List GrownList) (list one : GrownList) → n < length lists → slice_index_or lists n list ≡ list → IsSparedList masks list one → AreSparedLists masks lists n spared → AreSparedLists masks lists (n + 1) (spared ++ one ∷ [])
  lists-next n spared list one here at is are = record {
    count = omega (arith, are.count, length-append spared (one ∷ []));
    each = λ j d e less. elim (leb_tells (suc j) n) [
      | inl y ↦ subst (IsSparedList masks (slice_index_or lists j d)) (sym (get_or_append_left spared (one ∷ []) e j (omega (arith, y.1, are.count)))) (are.each j d e y.1)
      | inr q ↦
          let same : n ≡ j = omega (arith, less, q.1) in
          let last : slice_index_or (spared ++ one ∷ []) n e ≡ one = (λ i. slice_index_or (spared ++ one ∷ []) (sym are.count i) e) ∙ get_or-append_seam spared one [] e in
          subst (λ j. IsSparedList masks (slice_index_or lists j d) (slice_index_or (spared ++ one ∷ []) j e)) same
          (subst (λ l. IsSparedList masks l (slice_index_or (spared ++ one ∷ []) n e)) (sym at ∙ get_or_default lists n list d here) (subst (IsSparedList masks list) (sym last) is))
    ];
  }

-- Ships miss sets just where they are apart from the masks of these.
module _ (I : Instance) (added : List (List ℕ)) (masks : List ℕ) (marks : AreMarks I added (length added) masks) (mask : ℕ) (ships : List ℕ) (is : IsMask mask ships) where
  apart-missed : All (λ s. s < length I.ships) ships → IsApart masks mask → All (LacksSome ships) added
  apart-missed known apart = λ j d here within.
      let set = slice_index_or added j d in
      let mine = All-weaker (Contains ships) (λ s. s < length I.ships) (λ s h. All-contains (λ s. s < length I.ships) ships s known h) set within.among in
      let own = marks.whole j d here here mine in
      All-contains (λ m. ¬ (bit_and m mask ≡ m)) masks own.mask apart own.held (in-mask own.mask mask set ships own.is is within)

  missed-apart : length I.ships ≤ SHIPS → All (LacksSome ships) added → IsApart masks mask
  missed-apart few missed = λ j d here same.
      let own = marks.each j d here in
      All-contains (LacksSome ships) added own.set missed own.held
      (mask-in (slice_index_or masks j d) mask own.set ships (All-weaker (λ s. s < length I.ships) (λ s. s < 128) (λ s h. omega (arith, h, few)) own.set own.known) own.is is same)

module _ (I : Instance) (c k : ℕ) (sets added : List (List ℕ)) (base : Group) (n : ℕ) (g : Group) where
  -- a group has grown under more sets where it misses these too
  more-missed : All (LacksSome g.ships) added → IsGrown I c k sets base n g → IsGrown I c k (sets ++ added) base n g
  more-missed missed is = record {
    rising = is.rising;
    known = is.known;
    few = is.few;
    way = is.way;
    ways = is.ways;
    missed = All-append (LacksSome g.ships) sets added is.missed missed;
    keeps = is.keeps;
    allowed = is.allowed;
  }

  fewer-missed : IsGrown I c k (sets ++ added) base n g → IsGrown I c k sets base n g
  fewer-missed is = record {
    rising = is.rising;
    known = is.known;
    few = is.few;
    way = is.way;
    ways = is.ways;
    missed = all-left (LacksSome g.ships) sets added is.missed;
    keeps = is.keeps;
    allowed = is.allowed;
  }

-- WHAT IS LEFT of a list is what grows under all the sets.
pub spared-grown : (I : Instance) (c k : ℕ) (prices : PriceList) (sets added : List (List ℕ)) (masks : List ℕ) (list spared : GrownList) → length I.ships ≤ SHIPS → AreMarks I added (length added) masks → IsSparedList masks list spared
    → IsGrownList (group_ask I c k prices sets) list → IsGrownList (group_ask I c k prices (sets ++ added)) spared
spared-grown I c k prices sets added masks list spared few marks is grown = record {
  each = λ j d here.
      let one = slice_index_or spared.groups.items j d in
      let was : IsGrownGroup I c k sets list.base one = All-contains (IsGrownGroup I c k sets list.base) list.groups.items one grown.each (is.groups.each j d here) in
      let missed = apart-missed I added masks marks one.sums.mask one.group.ships was.sums.mask was.grown.known (is.groups.apart j d here) in
      record {
        grown = subst (λ b. IsGrown I c k (sets ++ added) b (length I.ships) one.group) (sym is.base) (more-missed I c k sets added list.base (length I.ships) one.group missed was.grown);
        sums = was.sums;
      };
  whole = λ g h.
      let all = subst (λ b. IsGrown I c k (sets ++ added) b (length I.ships) g) is.base h in
      elim (grown.whole g (fewer-missed I c k sets added list.base (length I.ships) g all)) [
        | inl has ↦ inl (kept g has (all-right (LacksSome g.ships) sets added all.missed))
        | inr idle ↦ inr idle
      ];
}
  where
    kept : (g : Group) → HasGroup list.groups.items g → All (LacksSome g.ships) added → HasGroup spared.groups.items g
    kept g has missed =
        let was : IsGrownGroup I c k sets list.base has.one = All-contains (IsGrownGroup I c k sets list.base) list.groups.items has.one grown.each has.held in
        let own = subst (λ (g : Group). All (LacksSome g.ships) added) (sym has.is) missed in
        let apart = missed-apart I added masks marks has.one.sums.mask has.one.group.ships was.sums.mask few own in
        let at = has.held.2 in
        let held = is.groups.whole has.held.0 has.one has.held.1 has.held.1 (subst (λ (one : GrownGroup). IsApart masks one.sums.mask) (sym at) apart) in
        record { one = has.one; held = subst (Contains spared.groups.items) at held; is = has.is }

-- the same of all lists
pub spared-all : (I : Instance) (c k : ℕ) (prices : PriceList) (sets added : List (List ℕ)) (masks : List ℕ) (lists spared : List GrownList) → length I.ships ≤ SHIPS → AreMarks I added (length added) masks → AreSparedLists masks lists (length lists) spared
    → All (IsGrownList (group_ask I c k prices sets)) lists → All (IsGrownList (group_ask I c k prices (sets ++ added))) spared
spared-all I c k prices sets added masks lists spared few marks are grown = λ j d here.
    let less : j < length lists = omega (arith, here, are.count) in
    spared-grown I c k prices sets added masks (slice_index_or lists j d) (slice_index_or spared j d) few marks (are.each j d d less) (grown j d less)

-- WHAT CUTS FORBID and what more cuts forbid is what they forbid together.
pub forbidden-both : (I : Instance) (c : ℕ) (some others : List PlainCut) (sets added : List (List ℕ)) → AreForbidden I c some sets → AreForbidden I c others added → AreForbidden I c (some ++ others) (sets ++ added)
forbidden-both I c some others sets added first second = record {
  spared = λ ships known missed. All-append (Spares I c ships) some others (first.spared ships known (all-left (LacksSome ships) sets added missed)) (second.spared ships known (all-right (LacksSome ships) sets added missed));
  missed = λ ships known spared. All-append (LacksSome ships) sets added (first.missed ships known (all-left (Spares I c ships) some others spared)) (second.missed ships known (all-right (Spares I c ships) some others spared));
}
