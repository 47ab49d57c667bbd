-- The edges of a case are what the solver asks for.
use Rattle.std.proofs.Common.{◌≡◌, ◌≢◌, ℕ, zero, suc, ◌+◌, ◌-◌, ◌*◌, ◌/◌, ◌%◌, ◌<◌, ◌≤◌, ℤ, pos, negsuc, ◌≤ℤ◌, List, [], ◌∷◌, length, flat_map, Contains, inl, inr, refl, sym, ◌∙◌, arith, length-append}
use Rattle.std.proofs.lemmas.Int.{ints}
use Rattle.std.proofs.lemmas.Bool.Decides.{eqb_tells}
use Rattle.std.proofs.lemmas.List.Elements.{All-from_recursion}
use Rattle.std.specs.List.{AllByRecursion}
use Rattle.lock_model.specs.declared.limits.TheConstants.{MOST}
use Rattle.list_laws.proofs.ByRecursion.{all-append}
use Rattle.lock_model.specs.Deck.{Deck, IsDeck, no_size}
use Rattle.lock_model.specs.declared.placement.Rank.{Rank}
use Rattle.lock_model.specs.declared.placement.Rank.TheVariants.{Left, Right}
use Rattle.lock_model.specs.declared.placement.Moor.{Moor}
use Rattle.lock_model.specs.declared.placement.Moor.TheVariants.{Quay, Ship}
use Rattle.lock_rules.specs.Arrival.{numbers_from}
use Rattle.diff_rules.specs.declared.edges.Edge.{Edge}
use Rattle.diff_rules.specs.Differences.{IsSystem, IsPositiveCycle, no_edge}
use Rattle.refute_rules.specs.declared.choices.Decision.{Decision}
use Rattle.refute_rules.specs.declared.choices.Choice.{Choice}
use Rattle.refute_rules.specs.declared.choices.Choice.TheVariants.{Lies, Before, Below, LiesAt}
use Rattle.refute_rules.specs.Choices.{decisions}
use Rattle.refute_rules.specs.Edges.{x_var, y_var, edge, ship_edges, berth_edges, choice_edges, case_edges}
use Rattle.refute_rules.specs.Cases.{vars_of}
use Rattle.list_laws.specs.Among.{IsAmong}
use Rattle.refute_rules.proofs.Among.{IsAmong-left, IsAmong-flat_map, IsAmong-numbers, all-flat_map, all-weaker, all-numbers}
use Rattle.lock_rules.proofs.TreeLemmas.{contains-among}
use Rattle.deck_cases.specs.Asked.{IsMoorOfOthers, IsOfDeck}
use Rattle.chamber_place.specs.OnItsWay.{most_edges, AreChosen}
use Rattle.lock_rules.proofs.LineLemmas.{length-numbers}

-- its ends are variables and differ, and its weight is within the limits
record IsGoodEdge (vars : ℕ) (e : Edge) : Type 0 where
  pub from : e.from < vars
  pub to : e.to < vars
  pub low : negsuc 999999 ≤ℤ e.weight
  pub high : e.weight ≤ℤ pos 1000000
  pub differ : e.from ≢ e.to

module _ (d : Deck) (limits : IsDeck d) where
  abbrev Good : Edge → Type 0
  Good = IsGoodEdge (vars_of d)

  ship-good : (i : ℕ) → i < length d.ships → AllByRecursion Good (ship_edges d i)
  ship-good i h =
      let size = limits.sizes i no_size h in
      let long = size.long in
      let wide = size.wide in
      let far = limits.long in
      let across = limits.wide in
      let clear = limits.clear in (
        record { from = omega (arith, h); to = omega (arith, h); low = omega (arith, ints, clear.0); high = omega (arith, ints, clear.0); differ = λ e. omega (arith, e) },
        (
          record { from = omega (arith, h); to = omega (arith, h); low = omega (arith, ints, clear.0, long.1, far.1); high = omega (arith, ints, clear.0, long.1, far.1); differ = λ e. omega (arith, e) },
          (
            record { from = omega (arith, h); to = omega (arith, h); low = omega (arith, ints); high = omega (arith, ints); differ = λ e. omega (arith, e) },
            (record { from = omega (arith, h); to = omega (arith, h); low = omega (arith, ints, wide.1, across.1); high = omega (arith, ints, wide.1, across.1); differ = λ e. omega (arith, e) }, tt),
          ),
        ),
      )

  one-edge : (u v : ℕ) (w : ℤ) → u < vars_of d → v < vars_of d → u ≢ v → negsuc 999999 ≤ℤ w → w ≤ℤ pos 1000000 → Good (edge u v w)
  one-edge u v w a b n low high = record { from = a; to = b; low = low; high = high; differ = n }

  berth-good : (i : ℕ) (r : Rank) (m : Moor) → i < length d.ships → IsMoorOfOthers d i m → AllByRecursion Good (berth_edges d i r m)
  berth-good i Left Quay h k = (one-edge (y_var i) 0 (pos 0) (omega (arith, h)) (omega (arith, h)) (λ e. omega (arith, e)) (omega (arith, ints)) (omega (arith, ints)), tt)
  berth-good i Right Quay h k =
      let wide = (limits.sizes i no_size h).wide in
      let across = limits.wide in
      (record { from = omega (arith, h); to = omega (arith, h); low = omega (arith, ints, wide.1, across.1); high = omega (arith, ints, wide.1, across.1); differ = λ e. omega (arith, e) }, tt)
  berth-good i Left (Ship j) h k =
      let own = limits.sizes i no_size h in
      let other = limits.sizes j no_size k.0 in
      let ol = own.long in
      let tl = other.long in
      let tw = other.wide in
      let side = limits.clear.2 in
      let known = k.0 in
      let n = k.1 in (
        record { from = omega (arith, known); to = omega (arith, h); low = omega (arith, ints, tw.1, side); high = omega (arith, ints, tw.1, side); differ = λ e. n (omega (arith, e)) },
        (
          record { from = omega (arith, h); to = omega (arith, known); low = omega (arith, ints, tw.1, side); high = omega (arith, ints, tw.1, side); differ = λ e. n (omega (arith, e)) },
          (
            record { from = omega (arith, known); to = omega (arith, h); low = omega (arith, ints); high = omega (arith, ints); differ = λ e. n (omega (arith, e)) },
            (record { from = omega (arith, h); to = omega (arith, known); low = omega (arith, ints, ol.1, tl.1); high = omega (arith, ints, ol.1, tl.1); differ = λ e. n (omega (arith, e)) }, tt),
          ),
        ),
      )
  berth-good i Right (Ship j) h k =
      let own = limits.sizes i no_size h in
      let other = limits.sizes j no_size k.0 in
      let ol = own.long in
      let tl = other.long in
      let ow = own.wide in
      let side = limits.clear.2 in
      let known = k.0 in
      let n = k.1 in (
        record { from = omega (arith, h); to = omega (arith, known); low = omega (arith, ints, ow.1, side); high = omega (arith, ints, ow.1, side); differ = λ e. n (omega (arith, e)) },
        (
          record { from = omega (arith, known); to = omega (arith, h); low = omega (arith, ints, ow.1, side); high = omega (arith, ints, ow.1, side); differ = λ e. n (omega (arith, e)) },
          (
            record { from = omega (arith, known); to = omega (arith, h); low = omega (arith, ints); high = omega (arith, ints); differ = λ e. n (omega (arith, e)) },
            (record { from = omega (arith, h); to = omega (arith, known); low = omega (arith, ints, ol.1, tl.1); high = omega (arith, ints, ol.1, tl.1); differ = λ e. n (omega (arith, e)) }, tt),
          ),
        ),
      )

  pick-good : (p : Choice) → IsOfDeck d p → AllByRecursion Good (choice_edges d p)
  pick-good (Lies i b) k = berth-good i b.rank b.moor k.0 k.1
  pick-good (Before i j) k =
      let long = (limits.sizes i no_size k.0).long in
      let gap = limits.clear.1 in
      let i_in = k.0 in
      let j_in = k.1 in
      let n = k.2 in
      (record { from = omega (arith, i_in); to = omega (arith, j_in); low = omega (arith, ints, long.1, gap); high = omega (arith, ints, long.1, gap); differ = λ e. n (omega (arith, e)) }, tt)
  pick-good (Below i j) k =
      let wide = (limits.sizes i no_size k.0).wide in
      let side = limits.clear.2 in
      let i_in = k.0 in
      let j_in = k.1 in
      let n = k.2 in
      (record { from = omega (arith, i_in); to = omega (arith, j_in); low = omega (arith, ints, wide.1, side); high = omega (arith, ints, wide.1, side); differ = λ e. n (omega (arith, e)) }, tt)
  pick-good (LiesAt i x) k = tt

  picks-good : (ds : List Decision) (ps : List Choice) → AreChosen d ds ps → AllByRecursion Good (flat_map (choice_edges d) ps)
  picks-good ds [] chosen = tt
  picks-good [] (p ∷ ps) chosen = absurd chosen
  picks-good (x ∷ ds) (p ∷ ps) chosen = all-append Good (choice_edges d p) (flat_map (choice_edges d) ps) (pick-good p chosen.0) (picks-good ds ps chosen.2)

  case-good : (ps : List Choice) → AreChosen d (decisions (length d.ships)) ps → AllByRecursion Good (case_edges d ps)
  case-good ps chosen =
      all-append Good (flat_map (ship_edges d) (numbers_from 0 (length d.ships))) (flat_map (choice_edges d) ps)
      (all-flat_map Good (ship_edges d) (numbers_from 0 (length d.ships)) (all-weaker (λ k. (0 ≤ k) × (k < 0 + length d.ships)) (λ k. AllByRecursion Good (ship_edges d k)) (λ k b. ship-good k (omega (arith, b.1))) (numbers_from 0 (length d.ships)) (all-numbers 0 (length d.ships))))
      (picks-good (decisions (length d.ships)) ps chosen)

  ship-among : (ps : List Choice) (i : ℕ) (e : Edge) → i < length d.ships → IsAmong (ship_edges d i) e → Contains (case_edges d ps) e
  ship-among ps i e h a =
      contains-among (case_edges d ps) e
      (IsAmong-left (flat_map (ship_edges d) (numbers_from 0 (length d.ships))) (flat_map (choice_edges d) ps) e
      (IsAmong-flat_map (ship_edges d) (numbers_from 0 (length d.ships)) i e (IsAmong-numbers 0 (length d.ships) i (omega arith) (omega (arith, h))) a))

  reached : (ps : List Choice) (v : ℕ) → 1 ≤ v → v < vars_of d → (e : Edge) × Contains (case_edges d ps) e × (e.from ≡ 0) × (e.to ≡ v) × (pos 0 ≤ℤ e.weight)
  reached ps v some h = elim (eqb_tells (v % 2) 1) [
    | inl y ↦
        let i : ℕ = v / 2 in
        let odd = y.1 in
        (edge 0 (x_var i) (pos d.end), ship-among ps i (edge 0 (x_var i) (pos d.end)) (omega (arith, h, odd)) (inl refl), refl, omega (arith, odd), omega (arith, ints))
    | inr n ↦
        let i : ℕ = v / 2 - 1 in
        let even = n.1 in
        (edge 0 (y_var i) (pos 0), ship-among ps i (edge 0 (y_var i) (pos 0)) (omega (arith, h, some, even)) (inr (inr (inl refl))), refl, omega (arith, some, even), omega (arith, ints))
  ]

  -- the edges of a case are a system
  pub case-system : (ps : List Choice) → AreChosen d (decisions (length d.ships)) ps → IsSystem (case_edges d ps) (vars_of d)
  case-system ps chosen =
      let few = limits.count.1 in
      let good = case-good ps chosen in
      record {
        some = omega arith;
        few = omega (arith, few);
        ends = All-from_recursion (λ (e : Edge). (e.from < vars_of d) × (e.to < vars_of d)) (case_edges d ps) (all-weaker Good (λ (e : Edge). (e.from < vars_of d) × (e.to < vars_of d)) (λ e g. (g.from, g.to)) (case_edges d ps) good);
        weights = All-from_recursion (λ (e : Edge). (negsuc 999999 ≤ℤ e.weight) × (e.weight ≤ℤ pos 1000000)) (case_edges d ps) (all-weaker Good (λ (e : Edge). (negsuc 999999 ≤ℤ e.weight) × (e.weight ≤ℤ pos 1000000)) (λ e g. (g.low, g.high)) (case_edges d ps) good);
        reached = reached ps;
      }

  -- no edge leads from a variable to itself, so a closed walk has two edges or more
  pub case-walk : (ps : List Choice) → AreChosen d (decisions (length d.ships)) ps → (numbers : List ℕ) → IsPositiveCycle (case_edges d ps) numbers → 1 < length numbers
  case-walk ps chosen [] cycle = absurd (let positive = cycle.positive in omega (arith, ints, positive))
  case-walk ps chosen (k ∷ []) cycle =
      let differ = All-from_recursion (λ (e : Edge). e.from ≢ e.to) (case_edges d ps) (all-weaker Good (λ (e : Edge). e.from ≢ e.to) (λ e g. g.differ) (case_edges d ps) (case-good ps chosen)) in
      absurd (differ k no_edge cycle.closed.0 (cycle.closed.1 ∙ sym cycle.closed.2))
  case-walk ps chosen (k ∷ j ∷ ks) cycle = omega arith

-- ---- how many edges there are
module _ (d : Deck) where
  pub ships-length : (ks : List ℕ) → length (flat_map (ship_edges d) ks) ≡ 4 * length ks
  ships-length [] = refl
  ships-length (k ∷ ks) = let rest = ships-length ks in omega (arith, rest)

  abbrev most_sum : List Decision → ℕ
  most_sum [] = 0
  most_sum (x ∷ ds) = most_edges x + most_sum ds

  chosen-length : (ds : List Decision) (ps : List Choice) → AreChosen d ds ps → length (flat_map (choice_edges d) ps) ≤ most_sum ds
  chosen-length ds [] chosen = omega arith
  chosen-length [] (p ∷ ps) chosen = absurd chosen
  chosen-length (x ∷ ds) (p ∷ ps) chosen =
      let l = length-append (choice_edges d p) (flat_map (choice_edges d) ps) in
      let here = chosen.1 in
      let rest = chosen-length ds ps chosen.2 in
      omega (arith, l, here, rest)

  most-few : (n : ℕ) → n ≤ MOST → most_sum (decisions n) ≤ 60
  most-few zero h = omega arith
  most-few (suc zero) h = omega arith
  most-few (suc (suc zero)) h = omega arith
  most-few (suc (suc (suc zero))) h = omega arith
  most-few (suc (suc (suc (suc zero)))) h = omega arith
  most-few (suc (suc (suc (suc (suc zero))))) h = omega arith
  most-few (suc (suc (suc (suc (suc (suc zero)))))) h = omega arith
  most-few (suc (suc (suc (suc (suc (suc (suc zero))))))) h = omega arith
  most-few (suc (suc (suc (suc (suc (suc (suc (suc zero)))))))) h = omega arith
  most-few (suc (suc (suc (suc (suc (suc (suc (suc (suc n))))))))) h = absurd (omega (arith, h))

  pub case-edges-few : (ps : List Choice) → length d.ships ≤ MOST → AreChosen d (decisions (length d.ships)) ps → length (case_edges d ps) ≤ 92
  case-edges-few ps few chosen =
      let a = length-append (flat_map (ship_edges d) (numbers_from 0 (length d.ships))) (flat_map (choice_edges d) ps) in
      let s = ships-length (numbers_from 0 (length d.ships)) in
      let n = length-numbers 0 (length d.ships) in
      let c = chosen-length (decisions (length d.ships)) ps chosen in
      let most = most-few (length d.ships) few in
      omega (arith, few, a, s, n, c, most)

  pub first-edges-few : (n : ℕ) → n < MOST → length (flat_map (ship_edges d) (numbers_from 0 n)) ≤ 92
  first-edges-few n h =
      let s = ships-length (numbers_from 0 n) in
      let l = length-numbers 0 n in
      omega (arith, h, s, l)
