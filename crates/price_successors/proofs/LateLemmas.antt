-- Successors that are enough once all ships have arrived.
use Rattle.std.proofs.Common.{◌≡◌, ℕ, suc, ◌+◌, ◌*◌, ◌<◌, ◌≤◌, ◌⊎◌, ℤ, pos, ◌≤ℤ◌, cond, inl, inr, List, [], ◌∷◌, ◌++◌, length, All, Contains, refl, sym, ◌∙◌, subst, arith, slice_index_or}
use Rattle.std.specs.declared.option.Option.{Option}
use Rattle.std.proofs.Math.Seq.{get_or-append_seam}
use Rattle.std.proofs.lemmas.Int.{ints}
use Rattle.std.proofs.lemmas.Bool.Decides.{leb_tells}
use Rattle.std.proofs.lemmas.List.{length-append}
use Rattle.std.proofs.lemmas.List.Elements.{All-nil, All-append, All-contains, All-head, All-tail, All-push, All-weaker, Contains-append_left, Contains-append_right}
use Rattle.list_laws.proofs.Lists.{Contains-before_push}
use Rattle.lock_model.specs.declared.instance.Instance.{Instance}
use Rattle.lock_model.specs.declared.group.Group.{Group}
use Rattle.lock_model.specs.declared.way.Stand.{Stand}
use Rattle.price_successors.specs.declared.successor.Successor.{Successor}
use Rattle.price_successors.specs.declared.late_list.LateList.{LateList}
use Rattle.price_rules.specs.Prices.{PriceList, charged_by}
use Rattle.price_groups.specs.Asks.{LineAsk}
use Rattle.price_groups.specs.Worth.{paid_on, arrivals_of, worth_of, soonest_of, ServeFrom}
use Rattle.price_successors.specs.Successors.{IsSuccessor, Leads}
use Rattle.price_successors.specs.Counted.{IsBelow, IsCounted}
use Rattle.price_successors.specs.Dominance.{soonest, DominatesLate, IsDominatedLate, IsCoveredLate, AreLate, HasLate}
use Rattle.price_successors.specs.Enough.{HaveMore, AreEnoughSuccessors, HaveEarly}
use Rattle.price_successors.specs.LateLists.{IsLateList, list_at, AreListed}
use Rattle.price_successors.proofs.ServeLemmas.{later-more, serve-line, serve-worth}
use Rattle.price_successors.proofs.SuccessorLemmas.{rates-sum, more-together}

module _ (L : LineAsk) (known : L.chamber < length L.instance.chambers) where
  abbrev I : Instance
  I = L.instance

  abbrev c : ℕ
  c = L.chamber

  abbrev k : ℕ
  k = L.depth

  abbrev prices : PriceList
  prices = L.prices

  -- what serves late serves from each later minute on
  late-from : (late from : ℕ) (other h : Successor) → late ≤ from → DominatesLate late other h → IsSuccessor L other → IsSuccessor L h → ServeFrom I c k prices from other.group.ships h.group.ships
  late-from late from other h past serves first second = record {
    count = serves.count;
    early = omega (arith, past, serves.last, first.sums.last, second.sums.last);
    quick = omega (arith, serves.duration, first.sums.duration, second.sums.duration);
    pays =
        let n = length other.group.ships in
        let m = length h.group.ships in
        let soon : soonest late h ≤ soonest_of I c from h.group.ships = omega (arith, past, second.sums.last, second.sums.duration) in
        later (n * soonest late h) (m * soonest late h) (n * soonest_of I c from h.group.ships) (m * soonest_of I c from h.group.ships) other.pays h.pays
        (paid_on I k prices other.group.ships) (100 * arrivals_of I other.group.ships) (paid_on I k prices h.group.ships) (100 * arrivals_of I h.group.ships) other.charged h.charged (charged_by prices other.group) (charged_by prices h.group)
        (first.sums.pays ∙ rates-sum L other.group.ships) (second.sums.pays ∙ rates-sum L h.group.ships) first.sums.charged second.sums.charged serves.pays (later-more n m (soonest late h) (soonest_of I c from h.group.ships) serves.count soon);
  }
    where
      later : (u v m n p q x a y b d g few all : ℕ) → p ≡ x + a → q ≡ y + b → d ≡ few → g ≡ all → q + d + 100 * u ≤ p + g + 100 * v → m + v ≤ n + u → y + few + b + 100 * m ≤ x + all + a + 100 * n
      later u v m n p q x a y b d g few all e f own others h j = omega (arith, e, f, own, others, h, j)

  -- with the successor that serves for it a successor is counted
  pub counted-late : (stand : Stand) (from p : ℕ) (best : ℤ) (late : ℕ) (other h : Successor) → late ≤ from → DominatesLate late other h → IsSuccessor L other → IsSuccessor L h
      → IsCounted L stand from p best other → IsCounted L stand from p best h
  counted-late stand from p best late other h past serves first second counted = λ q leads.
      let g : Group = record { way = h.group.way; ships = other.group.ships } in
      let same : other.group ≡ g = λ i. record { way = serves.way i; ships = other.group.ships } in
      let well = late-from late from other h past serves first second in
      elim (counted q (subst (λ to. Leads to p q) (sym serves.joins) leads)) [
        | inl below ↦ inl (λ gs loose. under best _ _ (subst (IsBelow L stand from q best) same below gs loose) (serve-line I c known k prices h.group.way other.group.ships h.group.ships stand from well gs))
        | inr idle ↦ inr (sym serves.joins ∙ idle.0, above _ _ (subst (λ g. pos 0 ≤ℤ worth_of I c k prices stand from g) same idle.1) (serve-worth I c known k prices h.group.way other.group.ships h.group.ships stand from well))
      ]
    where
      under : (b u v : ℤ) → b ≤ℤ u → u ≤ℤ v → b ≤ℤ v
      under b u v h j = omega (arith, ints)

      above : (u v : ℤ) → pos 0 ≤ℤ u → u ≤ℤ v → pos 0 ≤ℤ v
      above u v h j = omega (arith, ints)

  -- Successors are counted where those are that cover them.
  pub counted-covered : (stand : Stand) (from p : ℕ) (best : ℤ) (late : ℕ) (successors lates : List Successor) → late ≤ from → All (IsSuccessor L) successors → AreLate L late successors lates
      → ((h : Successor) → Contains lates h → IsCounted L stand from p best h) → (h : Successor) → Contains successors h → IsCounted L stand from p best h
  counted-covered stand from p best late successors lates past each are counted h held = elim (All-contains (IsCoveredLate L late lates) successors h are.covered held) [
    | inl served ↦
        counted-late stand from p best late served.other h past served.serves (All-contains (IsSuccessor L) lates served.other are.each served.held) (All-contains (IsSuccessor L) successors h each held)
        (counted served.other served.held)
    | inr vain ↦ λ q leads. inr (vain.alone, vain.gainless stand from past)
  ]

  -- some late list's successors, or the first ones, are looked at
  abbrev Covers : List Successor → ℕ → List Successor → Type 0
  Covers successors from now = (late : ℕ) × (late ≤ from) × AreLate L late successors now

  covers-at : (successors : List Successor) (from : ℕ) (now : List Successor) (late_lists : List LateList) → Covers successors from now → All (IsLateList L successors) late_lists → Covers successors from (list_at now late_lists from)
  covers-at successors from now [] covers all = covers
  covers-at successors from now (late_list ∷ late_lists) covers all =
      let rest = All-tail (IsLateList L successors) late_list late_lists all in
      elim (leb_tells (suc from) late_list.from) [
        | inl early ↦ subst (λ b. Covers successors from (list_at (cond b now late_list.successors.items) late_lists from)) (sym early.0) (covers-at successors from now late_lists covers rest)
        | inr past ↦
            subst (λ b. Covers successors from (list_at (cond b now late_list.successors.items) late_lists from)) (sym past.0)
            (covers-at successors from late_list.successors.items late_lists (late_list.from, omega (arith, past.1), All-head (IsLateList L successors) late_list late_lists all) rest)
      ]

  module _ (earlies : List Successor) (late_lists : List LateList) (are : AreListed L earlies late_lists) where
    listed-covers : (from : ℕ) → Covers are.successors from (list_at earlies late_lists from)
    listed-covers from = covers-at are.successors from earlies late_lists (0, omega arith, are.early_enough) are.late_enough

    -- ALL CHOICES ARE COUNTED where those are that are looked at.
    pub counted-listed : (stand : Stand) (from p : ℕ) (best : ℤ) → ((h : Successor) → Contains (list_at earlies late_lists from) h → IsCounted L stand from p best h) → (h : Successor) → Contains are.successors h → IsCounted L stand from p best h
    counted-listed stand from p best counted =
        let covers = listed-covers from in
        counted-covered stand from p best covers.0 are.successors (list_at earlies late_lists from) covers.1 are.enough.each covers.2 counted

    pub listed-each : (minute : ℕ) → All (IsSuccessor L) (list_at earlies late_lists minute)
    listed-each minute = (listed-covers minute).2.each

  -- WHAT COVERS CHOICES that cover others from an earlier minute on covers these.
  pub late-through : (early late : ℕ) (successors earlies lates : List Successor) → early ≤ late → All (IsSuccessor L) successors → AreLate L early successors earlies → AreLate L late earlies lates → AreLate L late successors lates
  late-through early late successors earlies lates before each first second = record {
    each = second.each;
    covered = λ j d here. through (slice_index_or successors j d) (each j d here) (first.covered j d here);
  }
    where
      chain : (other mid h : Successor) → DominatesLate late other mid → DominatesLate early mid h → DominatesLate late other h
      chain other mid h far near = record {
        joins = far.joins ∙ near.joins;
        way = far.way ∙ near.way;
        count = omega (arith, far.count, near.count);
        last = omega (arith, before, far.last, near.last);
        duration = omega (arith, far.duration, near.duration);
        pays =
            let s = soonest late h in
            let n = length other.group.ships in
            let m = length mid.group.ships in
            let l = length h.group.ships in
            let first = later-more m l (soonest early h) s near.count (omega (arith, before)) in
            let second = later-more n m (soonest late mid) s far.count (omega (arith, before, near.last, near.duration)) in
            omega (arith, near.pays, far.pays, first, second);
      }

      through : (h : Successor) → IsSuccessor L h → IsCoveredLate L early earlies h → IsCoveredLate L late lates h
      through h is (inr vain) = inr (record { alone = vain.alone; gainless = λ stand from past. vain.gainless stand from (omega (arith, before, past)) })
      through h is (inl near) =
          let mid = near.other in
          let own : IsSuccessor L mid = All-contains (IsSuccessor L) earlies mid first.each near.held in
          elim (All-contains (IsCoveredLate L late lates) earlies mid second.covered near.held) [
            | inl far ↦ inl (record { other = far.other; held = far.held; serves = chain far.other mid h far.serves near.serves })
            | inr vain ↦ inr (record {
              alone = sym near.serves.joins ∙ vain.alone;
              gainless = λ stand from past.
                  let g : Group = record { way = h.group.way; ships = mid.group.ships } in
                  let same : mid.group ≡ g = λ i. record { way = near.serves.way i; ships = mid.group.ships } in
                  above _ _ (subst (λ g. pos 0 ≤ℤ worth_of I c k prices stand from g) same (vain.gainless stand from past))
                  (serve-worth I c known k prices h.group.way mid.group.ships h.group.ships stand from (late-from early from mid h (omega (arith, before, past)) near.serves own is));
            })
          ]
        where
          above : (u v : ℤ) → pos 0 ≤ℤ u → u ≤ℤ v → pos 0 ≤ℤ v
          above u v h j = omega (arith, ints)

  pub listed-by : (successors earlies : List Successor) (late_lists : List LateList) → AreEnoughSuccessors L successors → AreLate L 0 successors earlies → All (IsLateList L earlies) late_lists → AreListed L earlies late_lists
  listed-by successors earlies late_lists enough early all = record {
    successors = successors;
    enough = enough;
    early_enough = early;
    late_enough = All-weaker (IsLateList L earlies) (IsLateList L successors) (λ late_list is. late-through 0 late_list.from successors earlies late_list.successors.items (omega arith) enough.each early is) late_lists all;
  }

-- more successors serve what fewer do
later-served : (late : ℕ) (h : Successor) (old new : List Successor) → (new ≡ old) ⊎ (new ≡ old ++ h ∷ []) → (g : Successor) → IsDominatedLate late old g → IsDominatedLate late new g
later-served late h old new more g served = elim more [
  | inl same ↦ subst (λ hs. IsDominatedLate late hs g) (sym same) served
  | inr more ↦ subst (λ hs. IsDominatedLate late hs g) (sym more) (record { other = served.other; held = Contains-before_push old h served.other served.held; serves = served.serves })
]

module _ (L : LineAsk) (late : ℕ) where
  pub late-next : (successors : List Successor) (h : Successor) (old new : List Successor) → IsSuccessor L h → HasLate L late h old new → AreLate L late successors old → AreLate L late (successors ++ h ∷ []) new
  late-next successors h old new is has are = record {
    each = elim has.more [
      | inl same ↦ subst (All (IsSuccessor L)) (sym same) are.each
      | inr more ↦ subst (All (IsSuccessor L)) (sym more) (All-push (IsSuccessor L) old h are.each is)
    ];
    covered = All-push (IsCoveredLate L late new) successors h (All-weaker (IsCoveredLate L late old) (IsCoveredLate L late new) later successors are.covered) has.covered;
  }
    where
      later : (g : Successor) → IsCoveredLate L late old g → IsCoveredLate L late new g
      later g covered = elim covered [ inl served ↦ inl (later-served late h old new has.more g served) | inr vain ↦ inr vain ]

  -- a successor serves for itself
  pub late-itself : (h : Successor) (old : List Successor) → HasLate L late h old (old ++ h ∷ [])
  late-itself h old = record {
    covered = inl (record {
      other = h;
      held = (length old, omega (arith, length-append old (h ∷ [])), get_or-append_seam old h [] h);
      serves = record { joins = refl; way = refl; count = omega arith; last = omega arith; duration = omega arith; pays = omega arith };
    });
    more = inr refl;
  }

module _ (L : LineAsk) where
  pub late-none : (late : ℕ) → AreLate L late [] []
  late-none late = record { each = All-nil (IsSuccessor L); covered = All-nil (IsCoveredLate L late []) }

  covered-among : (late : ℕ) (old new : List Successor) → ((h : Successor) → Contains old h → Contains new h) → (g : Successor) → IsCoveredLate L late old g → IsCoveredLate L late new g
  covered-among late old new more g (inl served) = inl (record { other = served.other; held = more served.other served.held; serves = served.serves })
  covered-among late old new more g (inr vain) = inr vain

  -- what covers two lists of successors
  pub late-together : (late : ℕ) (successors more lates others : List Successor) → AreLate L late successors lates → AreLate L late more others → AreLate L late (successors ++ more) (lates ++ others)
  late-together late successors more lates others first second = record {
    each = All-append (IsSuccessor L) lates others first.each second.each;
    covered = All-append (IsCoveredLate L late (lates ++ others)) successors more
        (All-weaker (IsCoveredLate L late lates) (IsCoveredLate L late (lates ++ others)) (covered-among late lates (lates ++ others) (λ h at. Contains-append_left lates others h at)) successors first.covered)
        (All-weaker (IsCoveredLate L late others) (IsCoveredLate L late (lates ++ others)) (covered-among late others (lates ++ others) (λ h at. Contains-append_right lates others h at)) more second.covered);
  }

  -- successors put to others, and what covers both
  pub early-together : (to : Option ℕ) (base : Group) (all more earlies others : List Successor) → All (IsSuccessor L) all → HaveMore L to base [] more
      → AreLate L 0 all earlies → AreLate L 0 more others → HaveEarly L to base all (earlies ++ others)
  early-together to base all more earlies others each have first second = record {
    more = all ++ more;
    have = more-together L to base all more each have;
    early = late-together 0 all more earlies others first second;
  }
