-- The cut of some ships of a refuted deck hits the ships.
use Rattle.std.proofs.Common.{◌≡◌, ℕ, ◌<◌, ◌≤◌, List, [], ◌∷◌, length, map, refl, sym, ap, ◌∙◌, subst, arith, All, Contains, slice_index_or}
use Rattle.std.proofs.lemmas.List.{get_or-map, length-map}
use Rattle.std.proofs.lemmas.List.Elements.{All-map, All-head, All-tail, Contains-get_or}
use Rattle.lock_model.specs.Deck.{Deck, size_at, no_size}
use Rattle.lock_model.specs.Fitting.{size_of, deck_of, IsNoRoomier}
use Rattle.lock_model.specs.Fleet.{ship_at, chamber_at}
use Rattle.lock_model.specs.declared.deck.Size.{Size}
use Rattle.lock_model.specs.declared.instance.Instance.{Instance}
use Rattle.refute_rules.specs.declared.refutation.Refutation.{Refutation}
use Rattle.refute_rules.specs.Refutes.{IsRefuted}
use Rattle.refute_rules.specs.Cuts.{Cut, IsCut}
use Rattle.chamber_place.specs.Parts.{IsShrunk}
use Rattle.node_work.specs.declared.first_placer.FirstPlacer.{FirstPlacer}
use Rattle.node_work.specs.Settling.{IsCutOf, IsPartOf, IsCutOfPart, shrink_turns}

module _ (I : Instance) (c : ℕ) (S : List ℕ) where
  abbrev d : Deck
  d = deck_of I c S

  abbrev at : ℕ → ℕ
  at k = slice_index_or S k 0

  abbrev size : ℕ → Size
  size s = size_of (ship_at I s)

  -- the sizes of some ships of the deck
  sizes : (kept : List ℕ) → All (λ k. k < length d.ships) kept → map (size_at d) kept ≡ map size (map at kept)
  sizes [] known = refl
  sizes (k ∷ ks) known =
      let here : k < length d.ships = All-head (λ k. k < length d.ships) k ks known in
      let own : k < length S = omega (arith, here, length-map S size) in
      (λ j. get_or-map size S k 0 no_size own j ∷ sizes ks (All-tail (λ k. k < length d.ships) k ks known) j)

  -- they are ships of the list
  all-own : (P : ℕ → Type 0) → All P S → (kept : List ℕ) → All (λ k. k < length d.ships) kept → All P (map at kept)
  all-own P all kept known =
      All-map P at kept (λ i e here. let less = known i e here in all (slice_index_or kept i e) 0 (omega (arith, less, length-map S size)))

  all-among : (kept : List ℕ) → All (λ k. k < length d.ships) kept → All (Contains S) (map at kept)
  all-among kept known =
      All-map (Contains S) at kept (λ i e here. let less = known i e here in Contains-get_or S (slice_index_or kept i e) 0 (omega (arith, less, length-map S size)))

  pub shrunk-hits : (r : Refutation) (turns : ℕ) (cut : Cut) → c < length I.chambers → All (λ s. s < length I.ships) S → IsShrunk c S d r turns cut → IsCut cut → IsCutOf I c S cut
  shrunk-hits r turns cut inside ships shrunk proved =
      let own : cut.deck ≡ deck_of I c cut.ships =
      shrunk.deck_is ∙ (λ j. record { length = d.length; width = d.width; end = d.end; gap = d.gap; side = d.side; ships = (sizes shrunk.kept shrunk.places.known ∙ sym (ap (map size) shrunk.ships_are)) j }) in
      record {
        proved = proved;
        own = record {
          chamber = subst (λ n. n < length I.chambers) (sym shrunk.chamber_is) inside;
          ships = subst (All (λ s. s < length I.ships)) (sym shrunk.ships_are) (all-own (λ s. s < length I.ships) ships shrunk.kept shrunk.places.known);
          deck = own ∙ ap (λ n. deck_of I n cut.ships) (sym shrunk.chamber_is);
        };
        hits = record {
          among = subst (All (Contains S)) (sym shrunk.ships_are) (all-among shrunk.kept shrunk.places.known);
          sizes = ap (λ (e : Deck). e.ships) own;
          tight = subst (IsNoRoomier (chamber_at I c)) (sym shrunk.deck_is) (record { end = refl; gap = refl; side = refl; long = omega arith; wide = omega arith });
        };
      }

-- there are as many ships as sizes
pub as_many : (I : Instance) (c : ℕ) (S : List ℕ) (d : Deck) → d ≡ deck_of I c S → length S ≡ length d.ships
as_many I c S d is = sym (ap (λ (e : Deck). length e.ships) is ∙ length-map S (size I c S))

-- ships among known ones are known
pub known_among : (I : Instance) (S part : List ℕ) → All (λ s. s < length I.ships) S → All (Contains S) part → All (λ s. s < length I.ships) part
known_among I S part known among k z here =
    let found = among k z here in
    subst (λ s. s < length I.ships) found.2 (known found.0 (slice_index_or part k z) found.1)

pub fewer_among : (S part fewer : List ℕ) → All (Contains S) part → All (Contains part) fewer → All (Contains S) fewer
fewer_among S part fewer among within k z here =
    let found = within k z here in
    subst (Contains S) found.2 (among found.0 (slice_index_or fewer k z) found.1)

-- all of the ships are a part
pub whole_is : (I : Instance) (c : ℕ) (S part : List ℕ) (r : Refutation) → part ≡ S → 1 ≤ length S → IsRefuted (deck_of I c S) r → IsPartOf I c S part r
whole_is I c S part r same some refuted = record {
  among = subst (λ ps. All (Contains S) ps) (sym same) (λ k z here. Contains-get_or S k z here);
  some = let e = ap length same in omega (arith, e, some);
  refuted = subst (λ ps. IsRefuted (deck_of I c ps) r) (sym same) refuted;
}

-- a part with its berth tree
pub part_is : (I : Instance) (c : ℕ) (S part : List ℕ) (d : Deck) (r : Refutation) → d ≡ deck_of I c part → All (Contains S) part → 1 ≤ length part → IsRefuted d r → IsPartOf I c S part r
part_is I c S part d r is among some refuted = record { among = among; some = some; refuted = subst (λ e. IsRefuted e r) is refuted }

-- a cut that was shrunk from a part
pub cut_from : (first : FirstPlacer) (I : Instance) (c : ℕ) (S part : List ℕ) (d : Deck) (r : Refutation) (turns few : ℕ) (cut : Cut) → IsPartOf I c S part r → d ≡ deck_of I c part → few ≡ shrink_turns first turns r → IsShrunk c part d r few cut → IsCut cut → IsCutOfPart first I c S turns cut
cut_from first I c S part d r turns few cut is_part is same shrunk proved = record {
  proved = proved;
  part = part;
  refutation = r;
  is_part = is_part;
  shrunk = subst (λ e. IsShrunk c part e r (shrink_turns first turns r) cut) is (subst (λ n. IsShrunk c part d r n cut) same shrunk);
}

-- it hits all of the ships
pub cut_settles : (first : FirstPlacer) (I : Instance) (c : ℕ) (S : List ℕ) (turns : ℕ) (cut : Cut) → c < length I.chambers → All (λ s. s < length I.ships) S → IsCutOfPart first I c S turns cut → IsCutOf I c S cut
cut_settles first I c S turns cut inside ships from =
    let own = shrunk-hits I c from.part from.refutation (shrink_turns first turns from.refutation) cut inside (known_among I S from.part ships from.is_part.among) from.shrunk from.proved in
    record {
      proved = own.proved;
      own = own.own;
      hits = record {
        among = fewer_among S from.part cut.ships from.is_part.among own.hits.among;
        sizes = own.hits.sizes;
        tight = own.hits.tight;
      };
    }
