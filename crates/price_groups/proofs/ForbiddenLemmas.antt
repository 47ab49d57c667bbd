-- What the cuts forbid a chamber, cut by cut.
use Rattle.std.proofs.Common.{◌≡◌, ℕ, suc, ◌+◌, ◌<◌, ◌≤◌, inl, inr, List, [], ◌∷◌, ◌++◌, length, take, All, Contains, refl, sym, ap, ◌∙◌, subst, arith, slice_index_or}
use Rattle.std.proofs.Math.Seq.{take-suc}
use Rattle.std.proofs.lemmas.Bool.Decides.{leb_tells}
use Rattle.std.proofs.lemmas.List.{get_or_past, map-append, take_all}
use Rattle.std.proofs.lemmas.List.Elements.{All-push, All-nil, All-cons, All-weaker, All-contains, All-head, All-tail}
use Rattle.lock_model.specs.Fitting.{IsNoRoomier, deck_of}
use Rattle.lock_model.specs.Fleet.{chamber_at, no_chamber}
use Rattle.lock_model.specs.declared.chamber.Chamber.{Chamber}
use Rattle.lock_model.specs.declared.instance.Instance.{Instance}
use Rattle.lock_rules.specs.Cut.{Hits}
use Rattle.price_rules.specs.Prices.{PlainCut, Spares}
use Rattle.price_terms.specs.Cuts.{plain_cut, plain_cuts}
use Rattle.price_groups.specs.Sparing.{Bears, AreIn, LacksSome, AreForbidden}
use Rattle.price_terms.specs.declared.cut.ChamberCut.{ChamberCut}

pub All-before : {X : Type 0} (P : X → Type 0) (xs : List X) (x : X) → All P (xs ++ x ∷ []) → All P xs
All-before P [] x all = All-nil P
All-before P (y ∷ ys) x all = All-cons P y ys (All-head P y (ys ++ x ∷ []) all) (All-before P ys x (All-tail P y (ys ++ x ∷ []) all))

pub All-end : {X : Type 0} (P : X → Type 0) (xs : List X) (x : X) → All P (xs ++ x ∷ []) → P x
All-end P [] x all = All-head P x [] all
All-end P (y ∷ ys) x all = All-end P ys x (All-tail P y (ys ++ x ∷ []) all)

-- what holds of all holds of what a `pop` left and of what it gave
pub popped-all : {X : Type 0} (P : X → Type 0) (old new : List X) (x : X) → old ≡ new ++ x ∷ [] → All P old → All P new × P x
popped-all P old new x is all = let whole = subst (All P) is all in (All-before P new x whole, All-end P new x whole)

module _ (I : Instance) where
  -- one cut more
  pub cuts-next : (cuts : List ChamberCut) (i : ℕ) (cut : ChamberCut) → i < length cuts → cut ≡ slice_index_or cuts i cut → plain_cuts I (take i cuts) ++ plain_cut I cut ∷ [] ≡ plain_cuts I (take (i + 1) cuts)
  cuts-next cuts i cut here is =
      let up : suc i ≡ i + 1 = omega arith in
      let more : take i cuts ++ cut ∷ [] ≡ take (i + 1) cuts = (λ j. take i cuts ++ is j ∷ []) ∙ sym (take-suc cuts i cut here) ∙ ap (λ n. take n cuts) up in
      sym (map-append (plain_cut I) (take i cuts) (cut ∷ [])) ∙ ap (plain_cuts I) more

  pub cuts-all : (cuts : List ChamberCut) (i : ℕ) → length cuts ≤ i → plain_cuts I (take i cuts) ≡ plain_cuts I cuts
  cuts-all cuts i past = ap (plain_cuts I) (take_all i cuts past)

module _ (I : Instance) (c : ℕ) (known : c < length I.chambers) where
  -- the chamber of a deck that c is no roomier than is one of the instance
  tight-held : (cut : ChamberCut) → IsNoRoomier (chamber_at I c) (deck_of I cut.chamber cut.ships) → cut.chamber < length I.chambers
  tight-held cut tight = elim (leb_tells (length I.chambers) cut.chamber) [
    | inl past ↦
        let none : (chamber_at I cut.chamber).length ≡ 0 = ap (λ (l : Chamber). l.length) (get_or_past I.chambers cut.chamber no_chamber past.1) in
        absurd (omega (arith, none, tight.long, (I.limits.chamber c no_chamber known).length.0))
    | inr here ↦ here.1
  ]

  -- a cut that hits known ships bears on the chamber
  hit-bears : (cut : ChamberCut) (ships : List ℕ) → All (λ s. s < length I.ships) ships → Hits cut.ships (deck_of I cut.chamber cut.ships) I c ships → Bears I c cut
  hit-bears cut ships numbers hits = record {
    held = tight-held cut hits.tight;
    tight = record { end = hits.tight.end; gap = hits.tight.gap; side = hits.tight.side; long = hits.tight.long; wide = hits.tight.wide };
    known = All-weaker (Contains ships) (λ s. s < length I.ships) (λ s h. All-contains (λ s. s < length I.ships) ships s numbers h) cut.ships hits.among;
  }

  bears-hits : (cut : ChamberCut) (ships : List ℕ) → Bears I c cut → AreIn ships cut.ships → Hits cut.ships (deck_of I cut.chamber cut.ships) I c ships
  bears-hits cut ships bears within = record {
    among = within.among;
    sizes = refl;
    tight = record { end = bears.tight.end; gap = bears.tight.gap; side = bears.tight.side; long = bears.tight.long; wide = bears.tight.wide };
  }

  pub forbid-none : AreForbidden I c [] []
  forbid-none = record { spared = λ ships known misses. All-nil (Spares I c ships); missed = λ ships known spares. All-nil (LacksSome ships) }

  pub forbid-same : (cuts : List PlainCut) (sets : List (List ℕ)) (cut : ChamberCut) → ¬ Bears I c cut → AreForbidden I c cuts sets → AreForbidden I c (cuts ++ plain_cut I cut ∷ []) sets
  forbid-same cuts sets cut idle are = record {
    spared = λ ships known misses. All-push (Spares I c ships) cuts (plain_cut I cut) (are.spared ships known misses) (record { spared = λ hits. idle (hit-bears cut ships known hits) });
    missed = λ ships known spares. are.missed ships known (All-before (Spares I c ships) cuts (plain_cut I cut) spares);
  }

  pub forbid-more : (cuts : List PlainCut) (sets : List (List ℕ)) (cut : ChamberCut) → Bears I c cut → AreForbidden I c cuts sets → AreForbidden I c (cuts ++ plain_cut I cut ∷ []) (sets ++ cut.ships ∷ [])
  forbid-more cuts sets cut bears are = record {
    spared = λ ships known misses. All-push (Spares I c ships) cuts (plain_cut I cut) (are.spared ships known (All-before (LacksSome ships) sets cut.ships misses))
        (record { spared = λ hits. All-end (LacksSome ships) sets cut.ships misses (record { among = hits.among }) });
    missed = λ ships known spares. All-push (LacksSome ships) sets cut.ships (are.missed ships known (All-before (Spares I c ships) cuts (plain_cut I cut) spares))
        (λ within. (All-end (Spares I c ships) cuts (plain_cut I cut) spares).spared (bears-hits cut ships bears within));
  }
