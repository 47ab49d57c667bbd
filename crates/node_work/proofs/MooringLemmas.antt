-- Finding the mooring of a group, and that it is legal.
use Rattle.std.proofs.Common.{◌≡◌, ◌≢◌, ℕ, zero, suc, ◌+◌, ◌<◌, List, [], ◌∷◌, length, All, Bool, true, false, nat_eq, ◌&&◌, cond, refl, sym, ap, ◌∙◌, subst, arith, drop, slice_index_or, true≢false}
use Rattle.std.proofs.lemmas.Bool.{ne_eqb, eq-eqb, eqb-true}
use Rattle.std.proofs.lemmas.List.Elements.{All-head, All-tail}
use Rattle.lock_model.specs.Fitting.{deck_of}
use Rattle.lock_model.specs.Placement.{IsLegalPlacement}
use Rattle.lock_model.specs.Cargo.{HasNoClash}
use Rattle.lock_model.specs.declared.instance.Instance.{Instance}
use Rattle.lock_model.specs.declared.group.Group.{Group}
use Rattle.lock_model.specs.declared.placement.Spot.{Spot}
use Rattle.lock_rules.specs.Node.{line_at}
use Rattle.lock_rules.specs.Leaf.{AllFit}
use Rattle.node_work.specs.declared.moorings.Mooring.{Mooring}
use Rattle.node_work.specs.Moorings.{same_ships, spots_in, spots_by, IsLegallyMoored, HasMooring, AreMoored}

-- lists of other lengths differ
pub same_length : (ss ts : List ℕ) → length ss ≢ length ts → false ≡ same_ships ss ts
same_length [] [] other = absurd (other refl)
same_length [] (t ∷ ts) other = refl
same_length (s ∷ ss) [] other = refl
same_length (s ∷ ss) (t ∷ ts) other =
    elim (nat_eq s t) as (λ b. false ≡ (b && same_ships ss ts)) [
      | true ↦ same_length ss ts (λ e. other (ap suc e))
      | false ↦ refl
    ]

-- lists that differ at a place differ
pub same_differ : (ss ts : List ℕ) (i : ℕ) → i < length ss → i < length ts → slice_index_or ss i 0 ≢ slice_index_or ts i 0 → false ≡ same_ships ss ts
same_differ [] ts i here there other = absurd (omega (arith, here))
same_differ (s ∷ ss) [] i here there other = refl
same_differ (s ∷ ss) (t ∷ ts) zero here there other = ap (λ b. b && same_ships ss ts) (sym (ne_eqb s t other))
same_differ (s ∷ ss) (t ∷ ts) (suc i) here there other =
    elim (nat_eq s t) as (λ b. false ≡ (b && same_ships ss ts)) [
      | true ↦ same_differ ss ts i (omega (arith, here)) (omega (arith, there)) other
      | false ↦ refl
    ]

-- lists that agree at each place are the same
pub same_all : (ss ts : List ℕ) → length ss ≡ length ts → ((i : ℕ) → i < length ss → slice_index_or ss i 0 ≡ slice_index_or ts i 0) → true ≡ same_ships ss ts
same_all [] [] long each = refl
same_all [] (t ∷ ts) long each = absurd (omega (arith, long))
same_all (s ∷ ss) [] long each = absurd (omega (arith, long))
same_all (s ∷ ss) (t ∷ ts) long each =
    same_all ss ts (omega (arith, long)) (λ i here. each (suc i) (omega (arith, here)))
    ∙ ap (λ b. b && same_ships ss ts) (sym (eq-eqb s t (each 0 (omega arith))))

-- and then they are one list
pub same-one : (ss ts : List ℕ) → same_ships ss ts ≡ true → ss ≡ ts
same-one [] [] same = refl
same-one [] (t ∷ ts) same = absurd (true≢false (sym same))
same-one (s ∷ ss) [] same = absurd (true≢false (sym same))
same-one (s ∷ ss) (t ∷ ts) same = by (nat_eq s t) refl (same-one ss ts)
  where
    by : (b : Bool) → nat_eq s t ≡ b → (same_ships ss ts ≡ true → ss ≡ ts) → s ∷ ss ≡ t ∷ ts
    by true e rest = ap (λ x. x ∷ ss) (eqb-true s t e) ∙ ap (λ xs. t ∷ xs) (rest (ap (λ b. b && same_ships ss ts) (sym e) ∙ same))
    by false e rest = absurd (true≢false (sym same ∙ ap (λ b. b && same_ships ss ts) e))

pub one-same : (ss : List ℕ) → same_ships ss ss ≡ true
one-same [] = refl
one-same (s ∷ ss) = ap (λ b. b && same_ships ss ss) (eq-eqb s s refl) ∙ one-same ss

-- the test of a mooring
abbrev is_of : ℕ → List ℕ → Mooring → Bool
is_of c S m = nat_eq m.chamber c && same_ships m.ships S

-- the first mooring that is of the chamber and the ships has their spots, and the others are passed
pub spots_hit : (ms : List Mooring) (i c : ℕ) (S : List ℕ) (d : Mooring) → i < length ms → (nat_eq (slice_index_or ms i d).chamber c && same_ships (slice_index_or ms i d).ships S) ≡ true → (slice_index_or ms i d).spots ≡ spots_in (drop i ms) c S
spots_hit [] i c S d here hit = absurd (omega (arith, here))
spots_hit (m ∷ ms) zero c S d here hit = ap (λ b. cond b m.spots (spots_in ms c S)) (sym hit)
spots_hit (m ∷ ms) (suc i) c S d here hit = spots_hit ms i c S d (omega (arith, here)) hit

spots-passed : (ms : List Mooring) (i c : ℕ) (S : List ℕ) (d : Mooring) → i < length ms → is_of c S (slice_index_or ms i d) ≡ false → spots_in (drop (suc i) ms) c S ≡ spots_in (drop i ms) c S
spots-passed [] i c S d here miss = absurd (omega (arith, here))
spots-passed (m ∷ ms) zero c S d here miss = ap (λ b. cond b m.spots (spots_in ms c S)) (sym miss)
spots-passed (m ∷ ms) (suc i) c S d here miss = spots-passed ms i c S d (omega (arith, here)) miss

pub spots_miss : (ms : List Mooring) (i c : ℕ) (S : List ℕ) (d : Mooring) → i < length ms → (nat_eq (slice_index_or ms i d).chamber c && same_ships (slice_index_or ms i d).ships S) ≡ false → spots_in (drop (i + 1) ms) c S ≡ spots_in (drop i ms) c S
spots_miss ms i c S d here miss =
    let next : i + 1 ≡ suc i = omega arith in
    ap (λ n. spots_in (drop n ms) c S) next ∙ spots-passed ms i c S d here miss

-- legal spots of a chamber and ships of which no two clash
record IsPlacedWell (I : Instance) (c : ℕ) (S : List ℕ) (spots : List Spot) : Type 0 where
  placed : IsLegalPlacement (deck_of I c S) spots
  clear : HasNoClash (deck_of I c S)

module _ (I : Instance) where
  moored : (m : Mooring) (c : ℕ) (S : List ℕ) → IsLegallyMoored I m → m.chamber ≡ c → m.ships ≡ S → IsPlacedWell I c S m.spots
  moored m c S legal chamber ships =
      subst (λ c. IsPlacedWell I c S m.spots) chamber (subst (λ S. IsPlacedWell I m.chamber S m.spots) ships (record { placed = legal.placed; clear = legal.clear }))

  found : (ms : List Mooring) (at c : ℕ) (S : List ℕ) (d : Mooring) → All (IsLegallyMoored I) ms → at < length ms → (slice_index_or ms at d).chamber ≡ c → (slice_index_or ms at d).ships ≡ S → IsPlacedWell I c S (spots_in ms c S)
  found [] at c S d legal here chamber ships = absurd (omega (arith, here))
  found (m ∷ ms) at c S d legal here chamber ships = by (is_of c S m) refl (λ at here chamber ships. found ms at c S d (All-tail (IsLegallyMoored I) m ms legal) here chamber ships)
    where
      own : IsLegallyMoored I m
      own = All-head (IsLegallyMoored I) m ms legal

      Rest : Type 0
      Rest = (at : ℕ) → at < length ms → (slice_index_or ms at d).chamber ≡ c → (slice_index_or ms at d).ships ≡ S → IsPlacedWell I c S (spots_in ms c S)

      passed : (at : ℕ) → at < length (m ∷ ms) → (slice_index_or (m ∷ ms) at d).chamber ≡ c → (slice_index_or (m ∷ ms) at d).ships ≡ S → is_of c S m ≡ false → Rest → IsPlacedWell I c S (spots_in ms c S)
      passed zero here chamber ships miss rest =
          absurd (true≢false (sym ((λ i. nat_eq (chamber i) c && same_ships (ships i) S) ∙ (ap (λ b. b && same_ships S S) (eq-eqb c c refl) ∙ one-same S)) ∙ miss))
      passed (suc at) here chamber ships miss rest = rest at (omega (arith, here)) chamber ships

      same-chamber : is_of c S m ≡ true → m.chamber ≡ c
      same-chamber hit = parts (nat_eq m.chamber c) refl
        where
          parts : (b : Bool) → nat_eq m.chamber c ≡ b → m.chamber ≡ c
          parts true e = eqb-true m.chamber c e
          parts false e = absurd (true≢false (sym hit ∙ ap (λ b. b && same_ships m.ships S) e))

      same-ships : is_of c S m ≡ true → m.ships ≡ S
      same-ships hit = parts (nat_eq m.chamber c) refl
        where
          parts : (b : Bool) → nat_eq m.chamber c ≡ b → m.ships ≡ S
          parts true e = same-one m.ships S (ap (λ b. b && same_ships m.ships S) (sym e) ∙ hit)
          parts false e = absurd (true≢false (sym hit ∙ ap (λ b. b && same_ships m.ships S) e))

      by : (b : Bool) → is_of c S m ≡ b → Rest → IsPlacedWell I c S (spots_in (m ∷ ms) c S)
      by true e rest = subst (IsPlacedWell I c S) (ap (λ b. cond b m.spots (spots_in ms c S)) (sym e)) (moored m c S own (same-chamber e) (same-ships e))
      by false e rest = subst (IsPlacedWell I c S) (ap (λ b. cond b m.spots (spots_in ms c S)) (sym e)) (passed at here chamber ships e rest)

  placed-by : (ms : List Mooring) (c : ℕ) (g : Group) → All (IsLegallyMoored I) ms → HasMooring ms c g.ships → IsPlacedWell I c g.ships (spots_by ms c g)
  placed-by ms c g legal has =
      found ms has.at c g.ships has.mooring legal has.known (ap (λ (m : Mooring). m.chamber) has.is ∙ has.chamber) (ap (λ (m : Mooring). m.ships) has.is ∙ has.ships)

  -- WHERE EACH GROUP HAS A MOORING AND ALL ARE LEGAL, ALL GROUPS FIT
  pub moored_fit : (ms : List Mooring) (lines : List (List Group)) → AreMoored I ms lines → AllFit I (spots_by ms) lines
  moored_fit ms lines all = record {
    placed = λ c known j d here. (placed-by ms c (slice_index_or (line_at lines c) j d) all.legal (all.each c known j d here)).placed;
    clear = λ c known j d here. (placed-by ms c (slice_index_or (line_at lines c) j d) all.legal (all.each c known j d here)).clear;
  }
