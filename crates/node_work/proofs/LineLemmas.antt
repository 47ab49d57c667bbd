-- Mooring the lines of a node, one group after the other.
use Rattle.std.proofs.Common.{◌≡◌, ℕ, suc, ◌+◌, ◌<◌, ◌≤◌, List, [], ◌∷◌, ◌++◌, length, refl, sym, ap, ◌∙◌, subst, arith, All, slice_index_or, inl, inr}
use Rattle.std.proofs.Math.ListN.{get_or-append}
use Rattle.std.proofs.lemmas.Bool.Decides.{leb_tells, eqb_tells}
use Rattle.std.proofs.lemmas.List.{get_or-append-add, length-append, get_or_default}
use Rattle.lock_model.specs.declared.limits.TheConstants.{SHIPS}
use Rattle.lock_model.specs.Fitting.{deck_of}
use Rattle.lock_model.specs.declared.instance.Instance.{Instance}
use Rattle.lock_model.specs.declared.group.Group.{Group}
use Rattle.lock_model.specs.declared.placement.Spot.{Spot}
use Rattle.lock_rules.specs.Node.{line_at, IsNode}
use Rattle.book_rules.specs.Book.{no_group}
use Rattle.node_work.specs.declared.moorings.Mooring.{Mooring}
use Rattle.node_work.specs.Moorings.{IsLegallyMoored, HasMooring, AreMoored}
use Rattle.node_work.proofs.LeafLemmas.{sizes_step, room_for}
use Rattle.node_work.specs.Settling.{AreMooredAt}
use Rattle.node_work.specs.Lines.{IsMooredUpTo, AreMooredBelow}

-- one mooring more
pub has-more : (ms : List Mooring) (m : Mooring) (c : ℕ) (S : List ℕ) → HasMooring ms c S → HasMooring (ms ++ m ∷ []) c S
has-more ms m c S has = record {
  at = has.at;
  known = let long = length-append ms (m ∷ []) in let here = has.known in omega (arith, long, here);
  mooring = has.mooring;
  is = get_or-append ms (m ∷ []) has.mooring has.at has.known ∙ has.is;
  chamber = has.chamber;
  ships = has.ships;
}

pub has-last : (ms : List Mooring) (m : Mooring) → HasMooring (ms ++ m ∷ []) m.chamber m.ships
has-last ms m = record {
  at = length ms + 0;
  known = let long = length-append ms (m ∷ []) in omega (arith, long);
  mooring = m;
  is = get_or-append-add ms (m ∷ []) 0 m;
  chamber = refl;
  ships = refl;
}

legal-more : (I : Instance) (ms : List Mooring) (m : Mooring) → All (IsLegallyMoored I) ms → IsLegallyMoored I m → All (IsLegallyMoored I) (ms ++ m ∷ [])
legal-more I ms m all is k d here = elim (leb_tells (suc k) (length ms)) [
  | inl y ↦ subst (IsLegallyMoored I) (sym (get_or-append ms (m ∷ []) d k y.1)) (all k d y.1)
  | inr n ↦
      let long = length-append ms (m ∷ []) in
      let last : k ≡ length ms + 0 = let past = n.1 in omega (arith, past, here, long) in
      subst (λ j. IsLegallyMoored I (slice_index_or (ms ++ m ∷ []) j d)) (sym last) (subst (IsLegallyMoored I) (sym (get_or-append-add ms (m ∷ []) 0 d)) is)
]

-- nothing of a line is moored yet
pub moored_none : (I : Instance) (c : ℕ) (line : List Group) (ms : List Mooring) → IsMooredUpTo I c line 0 ms ms
moored_none I c line ms = record { count = omega arith; legal = λ all. all; kept = λ d S has. has; each = λ k less. absurd (omega (arith, less)) }

-- one group of a line more
pub moored_more : (I : Instance) (c : ℕ) (line gs : List Group) (n : ℕ) (old ms new : List Mooring) (g : Group) (S T : List ℕ) (spots : List Spot)
    → gs ≡ line → n < length line → S ≡ (slice_index_or gs n g).ships → T ≡ S → AreMooredAt (deck_of I c S) spots
    → IsMooredUpTo I c line n old ms → new ≡ ms ++ record { chamber = c; ships = T; spots = spots } ∷ [] → IsMooredUpTo I c line (n + 1) old new
moored_more I c line gs n old ms new g S T spots same here ships copied placed before pushed =
    let m : Mooring = record { chamber = c; ships = T; spots = spots } in
    let own : T ≡ (slice_index_or line n no_group).ships = copied ∙ ships ∙ ap (λ l. (slice_index_or l n g).ships) same ∙ ap (λ (x : Group). x.ships) (get_or_default line n g no_group here) in
    let moored : AreMooredAt (deck_of I c T) spots = subst (λ U. AreMooredAt (deck_of I c U) spots) (sym copied) placed in
    subst (IsMooredUpTo I c line (n + 1) old) (sym pushed) (record {
      count = let long = length-append ms (m ∷ []) in let count = before.count in omega (arith, long, count);
      legal = λ all. legal-more I ms m (before.legal all) (record { placed = moored.placed; clear = moored.clear });
      kept = λ d U has. has-more ms m d U (before.kept d U has);
      each = λ k less. elim (eqb_tells k n) [
        | inl y ↦ subst (HasMooring (ms ++ m ∷ []) c) (own ∙ ap (λ j. (slice_index_or line j no_group).ships) (sym y.1)) (has-last ms m)
        | inr other ↦ has-more ms m c (slice_index_or line k no_group).ships (before.each k (let differ = other.1 in omega (arith, less, differ)))
      ];
    })

pub moored_room : (I : Instance) (c : ℕ) (line : List Group) (n : ℕ) (old new : List Mooring) → IsMooredUpTo I c line n old new → n < length line → length old + length line ≤ SHIPS → length new < SHIPS
moored_room I c line n old new moored here room = let count = moored.count in omega (arith, count, here, room)

-- the lines of one chamber more
pub below_none : (I : Instance) (lines : List (List Group)) (ms : List Mooring) → ms ≡ [] → AreMooredBelow I lines 0 ms
below_none I lines ms e = subst (AreMooredBelow I lines 0) (sym e) (record { count = refl; legal = λ k d here. absurd (omega (arith, here)); each = λ c k less. absurd (omega (arith, less)) })

pub below_more : (I : Instance) (lines : List (List Group)) (m : ℕ) (ms new : List Mooring) → AreMooredBelow I lines m ms → IsMooredUpTo I m (line_at lines m) (length (line_at lines m)) ms new → AreMooredBelow I lines (m + 1) new
below_more I lines m ms new below moored = record {
  count = let step = sizes_step lines m in let count = moored.count in let sum = below.count in omega (arith, step, count, sum);
  legal = moored.legal below.legal;
  each = λ c k less here. elim (eqb_tells c m) [
    | inl y ↦ subst (λ j. k < length (line_at lines j) → HasMooring new j (slice_index_or (line_at lines j) k no_group).ships) (sym y.1) (λ own. moored.each k own) here
    | inr other ↦ moored.kept c (slice_index_or (line_at lines c) k no_group).ships (below.each c k (let differ = other.1 in omega (arith, less, differ)) here)
  ];
}

pub below_room : (I : Instance) (k : ℕ) (lines : List (List Group)) (m : ℕ) (ms : List Mooring) → IsNode I k lines → k ≡ length I.ships → m < length I.chambers → AreMooredBelow I lines m ms → length ms + length (line_at lines m) ≤ SHIPS
below_room I k lines m ms node whole inside below =
    let few = room_for I k lines node m inside in
    let count = below.count in
    let ships = I.limits.ship_count.1 in
    omega (arith, few, count, ships, whole)

pub below_all : (I : Instance) (lines : List (List Group)) (m : ℕ) (ms : List Mooring) → m ≡ length I.chambers → AreMooredBelow I lines m ms → AreMoored I ms lines
below_all I lines m ms all below = record {
  legal = below.legal;
  each = λ c inside k d here.
      subst (λ (g : Group). HasMooring ms c g.ships) (get_or_default (line_at lines c) k no_group d here) (below.each c k (omega (arith, inside, all)) here);
}
