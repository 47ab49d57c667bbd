-- The steps of the search for the first jam.
use Rattle.std.proofs.Common.{◌≡◌, ℕ, suc, ◌+◌, ◌<◌, ◌≤◌, List, [], ◌∷◌, ◌++◌, length, All, ◌⊎◌, inl, inr, refl, sym, ap, ◌∙◌, subst, arith, slice_index_or, Some, None, IfSome, IfNone}
use Rattle.std.specs.declared.option.Option.{Option}
use Rattle.std.proofs.lemmas.List.{append_assoc}
use Rattle.std.proofs.lemmas.List.Elements.{All-from_recursion, recursion_from_All, All-from_get_or, All-weaker}
use Rattle.std.specs.List.{AllByRecursion}
use Rattle.lock_model.specs.Ships.{RisesFrom}
use Rattle.lock_rules.proofs.NodeLemmas.{RisesFrom-each}
use Rattle.lock_rules.proofs.TreeLemmas.{RisesFrom-less}
use Rattle.ship_shapes.specs.Lanes.{Passage, AreCrowded, along_at, along_of, IsJam}
use Rattle.ship_shapes.specs.Jams.{number_of, AreBefore, AreChosen, IsCrowdedBy, HasNoJam, IsFirstJam, along_before}
use Rattle.ship_shapes.proofs.SetLemmas.{EndsIn, split-last, number-append, number-less, along-append, along-most, crowded-behind, before-none, few-above}

-- what is chosen is a jam by itself, or none
pub chosen_jam : (lane : Passage) (T : List ℕ) (along : ℕ) → AreChosen lane 0 T → along ≡ along_of lane T → 1 ≤ length T → lane.reach < along + lane.spare → IsFirstJam lane 0 T T
chosen_jam lane T along chosen e some long =
    record {
      is = record { some = some; rising = chosen.rising; known = chosen.known; crowded = chosen.crowded; long = omega (arith, e, long) };
      lower = [];
      before = record { rising = tt; below = tt };
      joined = refl;
      first = λ S before less jam. absurd (omega (arith, less));
    }

own-jam : (lane : Passage) (S T : List ℕ) → AreBefore 0 S → IsJam lane (S ++ T) → IsJam lane T
own-jam lane S T before jam = subst (λ U. IsJam lane (U ++ T)) (before-none S before) jam

pub chosen_empty : (lane : Passage) (T : List ℕ) → length T ≡ 0 → HasNoJam lane 0 T
chosen_empty lane T e = record { none = λ S before jam. let own = own-jam lane S T before jam in absurd (omega (arith, e, own.some)) }

-- too little is left for a jam
pub none_short : (lane : Passage) (b : ℕ) (T : List ℕ) (along most : ℕ) → along ≡ along_of lane T → most ≡ along_before lane b → along + most + lane.spare ≤ lane.reach → HasNoJam lane b T
none_short lane b T along most e m short = record {
  none = λ S before jam. absurd (omega (arith, e, m, short, jam.long, along-append lane S T, along-most lane b 0 S before.rising before.below));
}

pub chosen_short : (lane : Passage) (T : List ℕ) (along : ℕ) → along ≡ along_of lane T → along + lane.spare ≤ lane.reach → HasNoJam lane 0 T
chosen_short lane T along e short = none_short lane 0 T along 0 e refl (omega (arith, short))

-- the next ship is no longer before what is chosen, or it is chosen
pub chosen_less : (lane : Passage) (b c : ℕ) (T : List ℕ) → c ≡ b + 1 → AreChosen lane c T → AreChosen lane b T
chosen_less lane b c T e chosen = record { rising = RisesFrom-less b c T (omega (arith, e)) chosen.rising; known = chosen.known; crowded = chosen.crowded }

pub chosen_more : (lane : Passage) (b c : ℕ) (T : List ℕ) → c ≡ b + 1 → b < length lane.needs → AreChosen lane c T → IsCrowdedBy lane b T → AreChosen lane b (b ∷ T)
chosen_more lane b c T e known chosen by = record {
  rising = (omega arith, RisesFrom-less (suc b) c T (omega (arith, e)) chosen.rising);
  known = (known, chosen.known);
  crowded = (recursion_from_All (AreCrowded lane b) T (All-from_get_or (AreCrowded lane b) T 0 by.each), chosen.crowded);
}

pub chosen_after : (lane : Passage) (b c : ℕ) (T : List ℕ) → c ≡ b + 1 → AreChosen lane c T → All (λ i. b < i) T
chosen_after lane b c T e chosen = All-weaker (λ x. c ≤ x) (λ x. b < x) (λ x h. omega (arith, e, h)) T (RisesFrom-each c T chosen.rising)

pub chosen_few : (lane : Passage) (c : ℕ) (T : List ℕ) → AreChosen lane c T → c ≤ length lane.needs → c + length T ≤ length lane.needs
chosen_few lane c T chosen less = few-above (length lane.needs) c T less chosen.rising chosen.known

pub before_step : (lane : Passage) (b c : ℕ) → c ≡ b + 1 → along_before lane c ≡ along_before lane b + along_at lane b
before_step lane b c e = ap (along_before lane) (let same : c ≡ suc b = omega (arith, e) in same)

-- sets up to ship b, without it and with it
module _ (lane : Passage) (b c : ℕ) (T : List ℕ) (e : c ≡ b + 1) where
  next : c ≡ suc b
  next = omega (arith, e)

  both : (S : List ℕ) → AreBefore c S → AreBefore b S ⊎ EndsIn 0 b S
  both S before =
      elim (split-last 0 b S before.rising (subst (λ n. AllByRecursion (λ i. i < n) S) next before.below)) [
        | inl h ↦ inl (record { rising = before.rising; below = h })
        | inr h ↦ inr h
      ]

  -- with it, the others stand before it
  behind : (S : List ℕ) (h : EndsIn 0 b S) → IsJam lane (S ++ T) → IsJam lane (h.others ++ b ∷ T)
  behind S h jam = subst (IsJam lane) (ap (λ U. U ++ T) h.joined ∙ append_assoc h.others (b ∷ []) T) jam

  others : (S : List ℕ) (h : EndsIn 0 b S) → AreBefore b h.others
  others S h = record { rising = h.rising; below = h.below }

  pub none_step : HasNoJam lane b T → HasNoJam lane b (b ∷ T) → HasNoJam lane c T
  none_step without with = record {
    none = λ S before jam. elim (both S before) [
      | inl h ↦ without.none S h jam
      | inr h ↦ with.none h.others (others S h) (behind S h jam)
    ];
  }

  pub none_apart : HasNoJam lane b T → (IsCrowdedBy lane b T → ⊥) → HasNoJam lane c T
  none_apart without apart = none_step without (record { none = λ S before jam. apart (record { each = λ k known. recursion-at (crowded-behind lane S (b ∷ T) jam.crowded).0 k known }) })
    where
      recursion-at : AllByRecursion (AreCrowded lane b) T → (k : ℕ) → k < length T → AreCrowded lane b (slice_index_or T k 0)
      recursion-at h k known = All-from_recursion (AreCrowded lane b) T h k 0 known

  wider : (S : List ℕ) → AreBefore b S → AreBefore c S
  wider S h = record { rising = h.rising; below = weaker S h.below }
    where
      weaker : (S : List ℕ) → AllByRecursion (λ i. i < b) S → AllByRecursion (λ i. i < c) S
      weaker [] a = tt
      weaker (x ∷ S) a = (omega (arith, e, a.0), weaker S a.1)

  pub first_without : (jam : List ℕ) → IsFirstJam lane b T jam → IsFirstJam lane c T jam
  first_without jam found = record {
    is = found.is;
    lower = found.lower;
    before = wider found.lower found.before;
    joined = found.joined;
    first = λ S before less made. elim (both S before) [
      | inl h ↦ found.first S h less made
      | inr h ↦ absurd (omega (arith, less, ap number_of h.joined, number-append h.others (b ∷ []), number-less b 0 found.lower found.before.rising found.before.below))
    ];
  }

  pub first_with : (jam : List ℕ) → HasNoJam lane b T → IsFirstJam lane b (b ∷ T) jam → IsFirstJam lane c T jam
  first_with jam without found = record {
    is = found.is;
    lower = found.lower ++ b ∷ [];
    before = record { rising = rising-end 0 found.lower found.before.rising found.before.below (omega arith); below = below-end found.lower found.before.below };
    joined = found.joined ∙ sym (append_assoc found.lower (b ∷ []) T);
    first = λ S before less made. elim (both S before) [
      | inl h ↦ without.none S h made
      | inr h ↦ found.first h.others (others S h) (omega (arith, less, ap number_of h.joined, number-append h.others (b ∷ []), number-append found.lower (b ∷ []))) (behind S h made)
    ];
  }
    where
      rising-end : (low : ℕ) (S : List ℕ) → RisesFrom low S → AllByRecursion (λ i. i < b) S → low ≤ b → RisesFrom low (S ++ b ∷ [])
      rising-end low [] r a less = (less, tt)
      rising-end low (x ∷ S) r a less = (r.0, rising-end (suc x) S r.1 a.1 (omega (arith, a.0)))

      below-end : (S : List ℕ) → AllByRecursion (λ i. i < b) S → AllByRecursion (λ i. i < c) (S ++ b ∷ [])
      below-end [] a = (omega (arith, e), tt)
      below-end (x ∷ S) a = (omega (arith, e, a.0), below-end S a.1)

  -- what the search among the sets with it tells of all sets
  pub none_by : (U : List ℕ) (r : Option (List ℕ)) → U ≡ b ∷ T → HasNoJam lane b T → IfNone r (HasNoJam lane b U) → IfNone r (HasNoJam lane c T)
  none_by U None same without with = none_step without (subst (HasNoJam lane b) same with)
  none_by U (Some jam) same without with = tt

  pub first_by : (U : List ℕ) (r : Option (List ℕ)) → U ≡ b ∷ T → HasNoJam lane b T → IfSome r (IsFirstJam lane b U) → IfSome r (IsFirstJam lane c T)
  first_by U None same without with = tt
  first_by U (Some jam) same without with = first_with jam without (subst (λ V. IsFirstJam lane b V jam) same with)
