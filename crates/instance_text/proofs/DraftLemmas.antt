-- What has been read stays within the limits of an instance.
use Rattle.std.proofs.Common.{◌≡◌, ◌≢◌, ℕ, ◌<◌, List, [], ◌∷◌, ◌++◌, length, get_or, set, All, sym, ap, refl, subst, ◌∙◌, ⊎_elim, arith}
use Rattle.std.proofs.lemmas.Bool.{cases_eq}
use Rattle.std.proofs.lemmas.List.{length_push, length-set, get_or_default, get_or-set_same, get_or-set_other}
use Rattle.std.proofs.lemmas.List.Elements.{All-nil, All-push, All-set}
use Rattle.std.proofs.lemmas.List.Quantifiers.{all_pairs_push}
use Rattle.lock_model.specs.declared.limits.TheConstants.{CHAMBERS, SHIPS}
use Rattle.lock_model.specs.Instance.{IsChamber, IsShip, IsInstance}
use Rattle.lock_model.specs.Fleet.{no_chamber}
use Rattle.lock_model.specs.declared.chamber.Chamber.{Chamber}
use Rattle.lock_model.specs.declared.closure.Closure.{Closure}
use Rattle.lock_model.specs.declared.ship.Ship.{Ship}
use Rattle.instance_text.specs.Draft.{IsDraft, IsWholeDraft}
use Rattle.instance_text.specs.Closing.{CanClose, with_closure, put_closure}
use Rattle.instance_text.proofs.ClosureLemmas.{put_closure-kept}

pub nothing : IsDraft [] []
nothing = record {
  few_chambers = omega arith;
  few_ships = omega arith;
  chamber = All-nil IsChamber;
  ship = All-nil IsShip;
  chamber_names = λ i j d lt low. absurd (omega arith);
  ship_names = λ i j d lt low. absurd (omega arith);
}

pub one_more_chamber : (cs : List Chamber) (ss : List Ship) (c : Chamber) → IsDraft cs ss → length cs < CHAMBERS → IsChamber c → All (λ other. other.name ≢ c.name) cs → IsDraft (cs ++ c ∷ []) ss
one_more_chamber cs ss c draft room good new = record {
  few_chambers = omega (arith, length_push cs c);
  few_ships = draft.few_ships;
  chamber = All-push IsChamber cs c draft.chamber good;
  ship = draft.ship;
  chamber_names = all_pairs_push (λ a b. a.name ≢ b.name) cs c draft.chamber_names new;
  ship_names = draft.ship_names;
}

pub one_more_ship : (cs : List Chamber) (ss : List Ship) (s : Ship) → IsDraft cs ss → length ss < SHIPS → IsShip s → All (λ other. other.name ≢ s.name) ss → IsDraft cs (ss ++ s ∷ [])
one_more_ship cs ss s draft room good new = record {
  few_chambers = draft.few_chambers;
  few_ships = omega (arith, length_push ss s);
  chamber = draft.chamber;
  ship = All-push IsShip ss s draft.ship good;
  chamber_names = draft.chamber_names;
  ship_names = all_pairs_push (λ a b. a.name ≢ b.name) ss s draft.ship_names new;
}

-- a write that keeps the name keeps all names
names_kept : (cs : List Chamber) (i k : ℕ) (c d : Chamber) → i < length cs → c.name ≡ (get_or cs i no_chamber).name → k < length cs → (get_or (set cs i c) k d).name ≡ (get_or cs k no_chamber).name
names_kept cs i k c d low same inside = ⊎_elim
    (λ (here : k ≡ i). subst (λ n. (get_or (set cs i c) n d).name ≡ (get_or cs n no_chamber).name) (sym here) (ap (λ (x : Chamber). x.name) (get_or-set_same cs i c d low) ∙ same))
    (λ (there : k ≢ i). ap (λ (x : Chamber). x.name) (get_or-set_other cs i k c d there ∙ get_or_default cs k d no_chamber inside))
    (cases_eq k i)

pub one_more_closure : (cs : List Chamber) (ss : List Ship) (place : ℕ) (closure : Closure) → IsDraft cs ss → CanClose cs place closure → IsDraft (with_closure cs place closure) ss
unfolding with_closure
one_more_closure cs ss place closure draft can =
    let old = get_or cs place no_chamber in
    let good = draft.chamber place no_chamber can.known in
    let new : Chamber = record old { closures = put_closure closure old.closures } in
    record {
      few_chambers = rw (length-set cs place new) draft.few_chambers;
      few_ships = draft.few_ships;
      chamber = All-set IsChamber cs place new (record { name = good.name; length = good.length; width = good.width; end = good.end; gap = good.gap; side = good.side; most = good.most; pass = good.pass; turn = good.turn; opens = good.opens; closures = put_closure-kept closure old.closures good.closures can.room can.good can.apart }) draft.chamber;
      ship = draft.ship;
      chamber_names = λ i j d lt low same.
          let inside : j < length cs = rw (length-set cs place new) at low in
          draft.chamber_names i j no_chamber lt inside (sym (names_kept cs place i new d can.known refl (omega arith)) ∙ same ∙ names_kept cs place j new d can.known refl inside);
      ship_names = draft.ship_names;
    }

pub whole : (cs : List Chamber) (ss : List Ship) → IsDraft cs ss → IsWholeDraft (record { chambers = cs; ships = ss }) → IsInstance cs ss
whole cs ss draft enough = record {
  chamber_count = (enough.chamber, draft.few_chambers);
  ship_count = (enough.ship, draft.few_ships);
  chamber = draft.chamber;
  ship = draft.ship;
  chamber_names = draft.chamber_names;
  ship_names = draft.ship_names;
}
