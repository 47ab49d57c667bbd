-- The order in which the ships of a lockage come in.
use Rattle.std.proofs.Common.{◌≡◌, ℕ, ◌<◌, Bool, true, false, ◌&&◌, ◌||◌, List, [], length, ◌⊎◌, inl, inr, refl, ap, sym, ◌∙◌, arith, eq-eqb, true≢false}
use Rattle.std.proofs.lemmas.Bool.{eqb-true, leb-true, ltb-true, le-leb, lt-ltb, and_parts, and_from, or_left, or_right}
use Rattle.lock_model.specs.declared.instance.Instance.{Instance}
use Rattle.lock_model.specs.declared.placement.Moor.{Moor}
use Rattle.lock_model.specs.declared.placement.Moor.TheVariants.{Quay, Ship}
use Rattle.lock_model.specs.declared.plan.Lockage.{Lockage}
use Rattle.lock_model.specs.declared.way.Way.{Way}
use Rattle.lock_model.specs.declared.way.Way.TheVariants.{Up, Down}
use Rattle.lock_model.specs.Placement.{spot_at}
use Rattle.lock_rules.specs.Arrival.{numbers_from}
use Rattle.lock_rules.proofs.AmongLemmas.{among-numbers}
use Rattle.lock_rules.proofs.BoundLemmas.{IsAmong-numbers}
use Rattle.lock_rules.proofs.LineLemmas.{length-numbers}
use Rattle.list_laws.specs.Among.{IsAmong}
use Rattle.day_play.specs.ComingIn.{IsGuest, LiesBefore, Blocks, CanComeIn, hosted_by, begins_within, lies_before, blocks, comes_after, end_distance, by_depth}
use Rattle.day_play.specs.Playing.{moor_order}
use Rattle.day_play.proofs.OrderLemmas.{length-put_each, put_each-among, put_each-from}
use Rattle.day_play.proofs.InTurnLemmas.{After, respects-weaker, respects-either, length-in_turn, in_turn-from, in_turn-among, in_turn-respects}

hosted-is : (moor : Moor) (j : ℕ) → hosted_by moor j ≡ true → moor ≡ Ship j
hosted-is Quay j h = absurd (true≢false (sym h))
hosted-is (Ship h) j same = ap Ship (eqb-true h j same)

either-true : (a b : Bool) → (a || b) ≡ true → (a ≡ true) ⊎ (b ≡ true)
either-true true b h = inl refl
either-true false b h = inr h

module _ (I : Instance) (l : Lockage) where
  -- what the tests tell
  lies-before : (way : Way) (k j : ℕ) → lies_before I l way k j ≡ true → LiesBefore I l way k j
  lies-before Up k j h = leb-true _ _ h
  lies-before Down k j h = leb-true _ _ h

  before-lies : (way : Way) (k j : ℕ) → LiesBefore I l way k j → lies_before I l way k j ≡ true
  before-lies Up k j h = le-leb _ _ h
  before-lies Down k j h = le-leb _ _ h

  blocks-is : (k j : ℕ) → blocks I l k j ≡ true → Blocks I l k j
  blocks-is k j h =
      let along = and_parts (lies_before I l l.way k j) (begins_within I l k j && begins_within I l j k) h in
      let across = and_parts (begins_within I l k j) (begins_within I l j k) along.1 in
      record { before = lies-before l.way k j along.0; begins = ltb-true _ _ across.0; other = ltb-true _ _ across.1 }

  is-blocks : (k j : ℕ) → Blocks I l k j → blocks I l k j ≡ true
  is-blocks k j h =
      and_from (lies_before I l l.way k j) (begins_within I l k j && begins_within I l j k) (before-lies l.way k j h.before)
      (and_from (begins_within I l k j) (begins_within I l j k) (lt-ltb _ _ h.begins) (lt-ltb _ _ h.other))

  after-either : (k j : ℕ) → After (comes_after I l) k j → IsGuest l k j ⊎ Blocks I l k j
  after-either k j h =
      elim (either-true (hosted_by (spot_at l.spots k).moor j) (blocks I l k j) h) [
        | inl guest ↦ inl (hosted-is (spot_at l.spots k).moor j guest)
        | inr blocked ↦ inr (blocks-is k j blocked)
      ]

  guest-after : (k j : ℕ) → IsGuest l k j → After (comes_after I l) k j
  guest-after k j same = or_left (hosted_by (spot_at l.spots k).moor j) (blocks I l k j) (ap (λ moor. hosted_by moor j) same ∙ eq-eqb j j refl)

  blocked-after : (k j : ℕ) → Blocks I l k j → After (comes_after I l) k j
  blocked-after k j h = or_right (hosted_by (spot_at l.spots k).moor j) (blocks I l k j) (is-blocks k j h)

  -- each place of the deck once
  pub depth-long : length (by_depth I l) ≡ length l.ships
  depth-long = omega (arith, length-put_each (end_distance I l l.way) [] (numbers_from 0 (length l.ships)), length-numbers 0 (length l.ships))

  depth-among : (k : ℕ) → k < length l.ships → IsAmong (by_depth I l) k
  depth-among k inside = put_each-among (end_distance I l l.way) [] (numbers_from 0 (length l.ships)) k (IsAmong-numbers 0 (length l.ships) k (omega arith) (omega (arith, inside)))

  pub depth-from : (k : ℕ) → IsAmong (by_depth I l) k → k < length l.ships
  depth-from k among =
      elim (put_each-from (end_distance I l l.way) [] (numbers_from 0 (length l.ships)) k among) [
        | inl none ↦ absurd none
        | inr number ↦ omega (arith, (among-numbers 0 (length l.ships) k number).1)
      ]

  pub order-among : (k : ℕ) → k < length l.ships → IsAmong (moor_order I l) k
  order-among k inside = in_turn-among I l (length l.ships) (by_depth I l) depth-long k (depth-among k inside)

  pub order-from : (k : ℕ) → IsAmong (moor_order I l) k → k < length l.ships
  order-from k among = depth-from k (in_turn-from I l (length l.ships) (by_depth I l) depth-long k among)

  -- WHERE ALL SHIPS CAN COME IN in some order, they can in this one.
  pub order-comes : (ks : List ℕ) → CanComeIn I l ks → CanComeIn I l (moor_order I l)
  order-comes ks can =
      let kept = respects-either (IsGuest l) (Blocks I l) (After (comes_after I l)) after-either ks can.hosts can.room in
      let own = in_turn-respects I l ks kept (length l.ships) (by_depth I l) depth-long (λ k among. can.all k (depth-from k among)) in
      record {
        count = length-in_turn I l (length l.ships) (by_depth I l);
        all = order-among;
        hosts = respects-weaker (IsGuest l) (After (comes_after I l)) guest-after (moor_order I l) own;
        room = respects-weaker (Blocks I l) (After (comes_after I l)) blocked-after (moor_order I l) own;
      }
