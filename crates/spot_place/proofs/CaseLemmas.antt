-- What a spot case that is kept as berths and places has decided.
use Rattle.std.proofs.Common.{◌≡◌, ◌≢◌, ℕ, zero, suc, ◌+◌, ◌<◌, ◌≤◌, List, [], ◌∷◌, length, cond, inl, inr, refl, sym, ap, ◌∙◌, subst, arith, nat_eq, slice_index_or, Some, None, Contains, Bool, true, false, IsTrue, ◌↔◌}
use Rattle.std.proofs.lemmas.Bool.{false≢true}
use Rattle.std.proofs.lemmas.Bool.Decides.{eqb_tells}
use Rattle.std.proofs.lemmas.Option.{same_Some, none-some}
use Rattle.lock_model.specs.declared.placement.Moor.{Moor}
use Rattle.lock_model.specs.declared.placement.Moor.TheVariants.{Quay, Ship}
use Rattle.refute_rules.specs.declared.choices.Berth.{Berth}
use Rattle.refute_rules.specs.declared.choices.Choice.{Choice}
use Rattle.refute_rules.specs.declared.choices.Choice.TheVariants.{Lies, LiesAt}
use Rattle.refute_rules.specs.Decided.{berth_in, x_in, HasOtherRank}
use Rattle.refute_rules.specs.Known.{moor_host, host_of, host_and_more, hosts_within}
use Rattle.spot_place.specs.OnWay.{berth_at, case_from, case_of, lying, IsHostWithin}

lies-here : (k j : ℕ) (b : Berth) (cs : List Choice) → j ≡ k → berth_in (Lies k b ∷ cs) j ≡ Some b
lies-here k j b cs e = elim (eqb_tells k j) [ inl y ↦ ap (λ t. cond t (Some b) (berth_in cs j)) y.0 | inr n ↦ absurd (n.1 (sym e)) ]

lies-there : (k j : ℕ) (b : Berth) (cs : List Choice) → j ≢ k → berth_in (Lies k b ∷ cs) j ≡ berth_in cs j
lies-there k j b cs d = elim (eqb_tells k j) [ inl y ↦ absurd (d (sym y.1)) | inr n ↦ ap (λ t. cond t (Some b) (berth_in cs j)) n.0 ]

stands-here : (k j x : ℕ) (cs : List Choice) → j ≡ k → x_in (LiesAt k x ∷ cs) j ≡ Some x
stands-here k j x cs e = elim (eqb_tells k j) [ inl y ↦ ap (λ t. cond t (Some x) (x_in cs j)) y.0 | inr n ↦ absurd (n.1 (sym e)) ]

stands-there : (k j x : ℕ) (cs : List Choice) → j ≢ k → x_in (LiesAt k x ∷ cs) j ≡ x_in cs j
stands-there k j x cs d = elim (eqb_tells k j) [ inl y ↦ absurd (d (sym y.1)) | inr n ↦ ap (λ t. cond t (Some x) (x_in cs j)) n.0 ]

berth-from : (k : ℕ) (ms : List Berth) (xs : List ℕ) (i j : ℕ) → j ≡ k + i → i < length ms → berth_in (case_from k ms xs) j ≡ Some (berth_at ms i)
berth-from k [] xs i j e h = absurd (omega (arith, h))
berth-from k (m ∷ ms) [] zero j e h = lies-here k j m (case_from (suc k) ms []) (omega (arith, e))
berth-from k (m ∷ ms) [] (suc i) j e h = lies-there k j m (case_from (suc k) ms []) (omega (arith, e)) ∙ berth-from (suc k) ms [] i j (omega (arith, e)) (omega (arith, h))
berth-from k (m ∷ ms) (x ∷ xs) zero j e h = lies-here k j m (LiesAt k x ∷ case_from (suc k) ms xs) (omega (arith, e))
berth-from k (m ∷ ms) (x ∷ xs) (suc i) j e h = lies-there k j m (LiesAt k x ∷ case_from (suc k) ms xs) (omega (arith, e)) ∙ berth-from (suc k) ms xs i j (omega (arith, e)) (omega (arith, h))

no_berth-from : (k : ℕ) (ms : List Berth) (xs : List ℕ) (j : ℕ) → k + length ms ≤ j → berth_in (case_from k ms xs) j ≡ None
no_berth-from k [] xs j h = refl
no_berth-from k (m ∷ ms) [] j h = lies-there k j m (case_from (suc k) ms []) (omega (arith, h)) ∙ no_berth-from (suc k) ms [] j (omega (arith, h))
no_berth-from k (m ∷ ms) (x ∷ xs) j h = lies-there k j m (LiesAt k x ∷ case_from (suc k) ms xs) (omega (arith, h)) ∙ no_berth-from (suc k) ms xs j (omega (arith, h))

place-from : (k : ℕ) (ms : List Berth) (xs : List ℕ) (i j : ℕ) → j ≡ k + i → length xs ≤ length ms → i < length xs → x_in (case_from k ms xs) j ≡ Some (slice_index_or xs i 0)
place-from k [] [] i j e l h = absurd (omega (arith, h))
place-from k [] (x ∷ xs) i j e l h = absurd (omega (arith, l))
place-from k (m ∷ ms) [] i j e l h = absurd (omega (arith, h))
place-from k (m ∷ ms) (x ∷ xs) zero j e l h = stands-here k j x (case_from (suc k) ms xs) (omega (arith, e))
place-from k (m ∷ ms) (x ∷ xs) (suc i) j e l h = stands-there k j x (case_from (suc k) ms xs) (omega (arith, e)) ∙ place-from (suc k) ms xs i j (omega (arith, e)) (omega (arith, l)) (omega (arith, h))

no_places : (k : ℕ) (ms : List Berth) (j : ℕ) → x_in (case_from k ms []) j ≡ None
no_places k [] j = refl
no_places k (m ∷ ms) j = no_places (suc k) ms j

no_place-from : (k : ℕ) (ms : List Berth) (xs : List ℕ) (j : ℕ) → k + length xs ≤ j → x_in (case_from k ms xs) j ≡ None
no_place-from k [] xs j h = refl
no_place-from k (m ∷ ms) [] j h = no_places (suc k) ms j
no_place-from k (m ∷ ms) (x ∷ xs) j h = stands-there k j x (case_from (suc k) ms xs) (omega (arith, h)) ∙ no_place-from (suc k) ms xs j (omega (arith, h))

-- ---- the whole list

pub berth-hit : (ms : List Berth) (xs : List ℕ) (i : ℕ) → i < length ms → berth_in (case_of ms xs) i ≡ Some (berth_at ms i)
berth-hit ms xs i h = berth-from 0 ms xs i i (omega arith) h

pub berth-miss : (ms : List Berth) (xs : List ℕ) (i : ℕ) → length ms ≤ i → berth_in (case_of ms xs) i ≡ None
berth-miss ms xs i h = no_berth-from 0 ms xs i (omega (arith, h))

pub place-hit : (ms : List Berth) (xs : List ℕ) (i : ℕ) → length xs ≤ length ms → i < length xs → x_in (case_of ms xs) i ≡ Some (slice_index_or xs i 0)
place-hit ms xs i l h = place-from 0 ms xs i i (omega arith) l h

pub place-miss : (ms : List Berth) (xs : List ℕ) (i : ℕ) → length xs ≤ i → x_in (case_of ms xs) i ≡ None
place-miss ms xs i h = no_place-from 0 ms xs i (omega (arith, h))

pub host_hit : (ms : List Berth) (i : ℕ) → i < length ms → host_of (berth_in (lying ms) i) ≡ moor_host (berth_at ms i).moor
host_hit ms i h = ap host_of (berth-hit ms [] i h)

pub host_miss : (ms : List Berth) (i : ℕ) → length ms ≤ i → host_of (berth_in (lying ms) i) ≡ None
host_miss ms i h = ap host_of (berth-miss ms [] i h)

-- ---- tests

pub when_true : (b : Bool) (P : Type 0) → b ≡ true → P → IsTrue b ↔ P
when_true b P e h = ((λ _. h), λ _. e)

pub when_false : (b : Bool) (P : Type 0) → b ≡ false → (P → ⊥) → IsTrue b ↔ P
when_false b P e n = ((λ t. absurd (false≢true (sym e ∙ t))), λ h. absurd (n h))

pub eq_tells : (a b : ℕ) (P : Type 0) → (a ≡ b → P) → (P → a ≡ b) → IsTrue (nat_eq a b) ↔ P
eq_tells a b P f g = elim (eqb_tells a b) [
  | inl y ↦ when_true (nat_eq a b) P y.0 (f y.1)
  | inr n ↦ when_false (nat_eq a b) P n.0 (λ p. n.1 (g p))
]

-- ---- hosts of the other rank

pub ship-of : (m : Moor) (k : ℕ) → moor_host m ≡ Some k → m ≡ Ship k
ship-of Quay k e = absurd (none-some k e)
ship-of (Ship j) k e = ap Ship (same_Some j k e)

module _ (ms : List Berth) (i : ℕ) where
  pub rank-quay : host_of (berth_in (lying ms) i) ≡ None → HasOtherRank (lying ms) i → ⊥
  rank-quay e h = none-some h.host (sym e ∙ ap host_of h.lies)

  same-host : (k : ℕ) → host_of (berth_in (lying ms) i) ≡ Some k → (h : HasOtherRank (lying ms) i) → h.host ≡ k
  same-host k e h = same_Some h.host k (sym (ap host_of h.lies) ∙ e)

  pub rank-undecided : (k : ℕ) → host_of (berth_in (lying ms) i) ≡ Some k → length ms ≤ k → HasOtherRank (lying ms) i → ⊥
  rank-undecided k e late h = none-some h.berth (sym (berth-miss ms [] k late) ∙ ap (berth_in (lying ms)) (sym (same-host k e h)) ∙ h.decided)

  module _ (known : i < length ms) (k : ℕ) (host : host_of (berth_in (lying ms) i) ≡ Some k) (decided : k < length ms) where
    pub ranks-differ : (berth_at ms k).rank ≢ (berth_at ms i).rank → HasOtherRank (lying ms) i
    ranks-differ d = record {
      host = k;
      own = (berth_at ms i).rank;
      berth = berth_at ms k;
      lies = berth-hit ms [] i known ∙ ap (λ m. Some (record { rank = (berth_at ms i).rank; moor = m })) (ship-of (berth_at ms i).moor k (sym (host_hit ms i known) ∙ host));
      decided = berth-hit ms [] k decided;
      differ = d;
    }

    pub ranks-same : (berth_at ms k).rank ≡ (berth_at ms i).rank → HasOtherRank (lying ms) i → ⊥
    ranks-same e h =
        let own = ap (λ (b : Berth). b.rank) (same_Some _ _ (sym (berth-hit ms [] i known) ∙ h.lies)) in
        let other = ap (λ (b : Berth). b.rank) (same_Some _ _ (sym (berth-hit ms [] k decided) ∙ ap (berth_in (lying ms)) (sym (same-host k host h)) ∙ h.decided)) in
        h.differ (sym other ∙ e ∙ own)

    pub rank-tells : (b : Bool) → (IsTrue b ↔ (berth_at ms k).rank ≢ (berth_at ms i).rank) → IsTrue b ↔ HasOtherRank (lying ms) i
    rank-tells b t = ((λ h. ranks-differ (t.0 h)), λ h. t.1 (λ e. ranks-same e h))

-- ---- chains of hosts

module _ (case : List Choice) (i x : ℕ) where
  pub leads-nowhere : (steps : ℕ) → steps ≡ 0 → IsHostWithin case steps i x → ⊥
  leads-nowhere steps e h = go (subst (λ n. Contains (hosts_within case n i) x) e h.among)
    where
      go : Contains [] x → ⊥
      go h = omega (arith, h.1)

  pub leads-quay : (steps : ℕ) → host_of (berth_in case i) ≡ None → IsHostWithin case steps i x → ⊥
  leads-quay zero e h = let g = h.among.1 in omega (arith, g)
  leads-quay (suc steps) e h = go (subst (λ o. Contains (host_and_more o (hosts_within case steps)) x) e h.among)
    where
      go : Contains [] x → ⊥
      go h = omega (arith, h.1)

  module _ (steps k fewer : ℕ) (s : steps ≡ suc fewer) (host : host_of (berth_in case i) ≡ Some k) where
    leads-host : Contains (k ∷ hosts_within case fewer k) x → IsHostWithin case steps i x
    leads-host h = record { among = subst (λ n. Contains (hosts_within case n i) x) (sym s) (subst (λ o. Contains (host_and_more o (hosts_within case fewer)) x) (sym host) h) }

    host-leads : IsHostWithin case steps i x → Contains (k ∷ hosts_within case fewer k) x
    host-leads h = subst (λ o. Contains (host_and_more o (hosts_within case fewer)) x) host (subst (λ n. Contains (hosts_within case n i) x) s h.among)

    pub leads-first : k ≡ x → IsHostWithin case steps i x
    leads-first e = leads-host (0, omega arith, e)

    pub leads-later : IsHostWithin case fewer k x → IsHostWithin case steps i x
    leads-later h = let g = h.among.1 in leads-host (suc h.among.0, omega (arith, g), h.among.2)

    pub leads-only_later : k ≢ x → IsHostWithin case steps i x → IsHostWithin case fewer k x
    leads-only_later d h = tail (host-leads h)
      where
        tail : Contains (k ∷ hosts_within case fewer k) x → IsHostWithin case fewer k x
        tail (zero, h, e) = absurd (d e)
        tail (suc n, h, e) = record { among = (n, omega (arith, h), e) }
