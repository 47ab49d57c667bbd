-- From tests place by place to jams.
use Rattle.std.proofs.Common.{◌≡◌, ℕ, ◌+◌, ◌<◌, ◌≤◌, List, [], ◌∷◌, length, take, AllPairs, ap, ◌∙◌, subst, arith, get_or}
use Rattle.std.proofs.lemmas.List.{get_or_default, take_more}
use Rattle.std.proofs.lemmas.List.Elements.{All-from_recursion, recursion_from_All, All-from_get_or}
use Rattle.std.proofs.lemmas.List.Kept.{AllPairs-cons}
use Rattle.std.specs.List.Sorted.{IsStrictlyIncreasing}
use Rattle.lock_rules.proofs.SplitLemmas.{RisesFrom-increasing}
use Rattle.refute_rules.proofs.Packing.{Each}
use Rattle.refute_rules.proofs.ReasonLemmas.{each-from_pairs}
use Rattle.ship_shapes.specs.Lanes.{Passage, AreCrowded, AreAllCrowded, along_at, along_of, IsJam}
use Rattle.ship_shapes.specs.Jams.{AreKnown, IsCrowdedAfter}
use Rattle.ship_shapes.proofs.SetLemmas.{along-append}

pub pairs_told : (lane : Passage) (S : List ℕ) → ((i : ℕ) → i < length S → IsCrowdedAfter lane S i) → AllPairs (AreCrowded lane) S
pairs_told lane S h i j d less here =
    let k : i < length S = omega (arith, less, here) in
    subst (λ a. AreCrowded lane a (get_or S j d)) (get_or_default S i 0 d k) (subst (λ a. AreCrowded lane (get_or S i 0) a) (get_or_default S j 0 d here) ((h i k).later j less here))

pub along_more : (lane : Passage) (S : List ℕ) (i : ℕ) → i < length S → along_of lane (take (i + 1) S) ≡ along_of lane (take i S) + along_at lane (get_or S i 0)
along_more lane S i here = ap (along_of lane) (take_more S i 0 here) ∙ along-append lane (take i S) (get_or S i 0 ∷ []) ∙ omega arith

each-all : (lane : Passage) (S : List ℕ) → Each (AreCrowded lane) S → AreAllCrowded lane S
each-all lane [] h = tt
each-all lane (i ∷ S) h = (h.0, each-all lane S h.1)

all-pairs : (lane : Passage) (S : List ℕ) → AreAllCrowded lane S → AllPairs (AreCrowded lane) S
all-pairs lane [] h = λ i j u less here. absurd (omega arith)
all-pairs lane (i ∷ S) h = AllPairs-cons (AreCrowded lane) i S (All-from_recursion (AreCrowded lane i) S h.0) (all-pairs lane S h.1)

pub jam_whole : (lane : Passage) (S : List ℕ) (along : ℕ) → IsStrictlyIncreasing S → 1 ≤ length S → AreKnown lane S → AllPairs (AreCrowded lane) S → along ≡ along_of lane S → lane.reach < along + lane.spare → IsJam lane S
jam_whole lane S along rising some known pairs e long = record {
  some = some;
  rising = RisesFrom-increasing S rising;
  known = recursion_from_All (λ i. i < length lane.needs) S (All-from_get_or (λ i. i < length lane.needs) S 0 known.each);
  crowded = each-all lane S (each-from_pairs (AreCrowded lane) S pairs);
  long = omega (arith, e, long);
}

pub jam_known : (lane : Passage) (S : List ℕ) → IsJam lane S → AreKnown lane S
jam_known lane S jam = record { each = λ k here. All-from_recursion (λ i. i < length lane.needs) S jam.known k 0 here }

pub jam_pairs : (lane : Passage) (S : List ℕ) → IsJam lane S → AllPairs (AreCrowded lane) S
jam_pairs lane S jam = all-pairs lane S jam.crowded

pub jam_some : (lane : Passage) (S : List ℕ) → IsJam lane S → 1 ≤ length S
jam_some lane S jam = jam.some

pub jam_long : (lane : Passage) (S : List ℕ) (along : ℕ) → along ≡ along_of lane S → IsJam lane S → lane.reach < along + lane.spare
jam_long lane S along e jam = let long = jam.long in omega (arith, e, long)

-- what `is_jam` goes by
pub ruleset of_jams = (jam_whole, jam_some, jam_known, jam_pairs, jam_long)
