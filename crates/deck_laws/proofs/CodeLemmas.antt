-- What the code needs.
use Rattle.std.proofs.Common.{◌≡◌, ℕ, ◌-◌, ◌<◌, ◌≤◌, List, length, map, take, ap, ◌∙◌, sym, subst, arith, slice_index_or}
use Rattle.std.proofs.lemmas.List.{take_all}
use Rattle.std.specs.List.{remove}
use Rattle.std.proofs.lemmas.Grind.{common_steps}
use Rattle.std.proofs.lemmas.List.Edits.{length-remove}
use Rattle.lock_model.specs.Deck.{Deck, IsDeck, IsSize}
use Rattle.lock_model.specs.Placement.{IsLegalPlacement, spot_at}
use Rattle.lock_model.specs.declared.placement.Spot.{Spot}
use Rattle.deck_laws.specs.Thin.{thin_spot, thin_deck}
use Rattle.deck_laws.specs.Widen.{IsRoomier, wide_spot}
use Rattle.deck_laws.proofs.WidenLemmas.{widen-legal}
use Rattle.deck_laws.proofs.ThinLemmas.{raised, raised-known, removed-at, thin-legal}

pub spot_small : (d : Deck) (spots : List Spot) → IsLegalPlacement d spots → IsDeck d → (i : ℕ) (p : Spot) → i < length spots → (slice_index_or spots i p).y ≤ 100000
spot_small d spots legal limits i p known =
    let counts = legal.count in
    let inside = (legal.inside i (omega (arith, known, counts))).2 in
    let wide = limits.wide.1 in
    let same = get_or-same spots i p known in
    let y = ap (λ (q : Spot). q.y) same in
    omega (arith, inside, wide, y)
  where
    get_or-same : (spots : List Spot) (i : ℕ) (p : Spot) → i < length spots → slice_index_or spots i p ≡ spot_at spots i
    get_or-same spots i p known = grind (arith, common_steps)

-- what the loop of `widen` has made
pub widen_at : (d e : Deck) (spots items moved : List Spot) (i : ℕ) → IsDeck d → IsRoomier d e → IsLegalPlacement d spots → items ≡ spots → moved ≡ map (wide_spot (e.width - d.width)) (take i items) → length items ≤ i → IsLegalPlacement e moved
widen_at d e spots items moved i limits more legal same made done =
    let all : take i items ≡ items = take_all i items done in
    subst (IsLegalPlacement e) (sym (made ∙ ap (map (wide_spot (e.width - d.width))) (all ∙ same))) (widen-legal d e spots limits more legal)

-- and of `thin_out`
pub thin_at : (d : Deck) (b : ℕ) (spots items moved : List Spot) (i : ℕ) → IsDeck d → b < length d.ships → IsLegalPlacement d spots → items ≡ remove spots b → moved ≡ map (thin_spot d spots b) (take i items) → length items ≤ i → IsLegalPlacement (thin_deck d b) moved
thin_at d b spots items moved i limits known legal same made done =
    let all : take i items ≡ items = take_all i items done in
    subst (IsLegalPlacement (thin_deck d b)) (sym (made ∙ ap (map (thin_spot d spots b)) (all ∙ same))) (thin-legal d spots legal limits b known)

pub thin_small : (d : Deck) (b : ℕ) (spots items : List Spot) (i : ℕ) (p : Spot) → IsDeck d → b < length d.ships → IsLegalPlacement d spots → items ≡ remove spots b → i < length items → (slice_index_or items i p).y ≤ 100000
thin_small d b spots items i p limits known legal same here =
    let counts = legal.count in
    let known' : b < length spots = omega (arith, known, counts) in
    let fewer = length-remove spots b known' in
    let size = ap length same in
    let small = spot_small d spots legal limits (raised b i) p (raised-known b i (length spots) known' (omega (arith, fewer, size, here))) in
    let at = ap (λ (q : Spot). q.y) (ap (λ xs. slice_index_or xs i p) same ∙ removed-at spots b i p known') in
    omega (arith, small, at)

pub thin_limits : (d : Deck) (b : ℕ) → IsDeck d → b < length d.ships → 2 ≤ length d.ships → IsDeck (thin_deck d b)
thin_limits d b limits known two =
    let fewer = length-remove d.ships b known in
    let most = limits.count.1 in
    record {
      long = limits.long;
      wide = limits.wide;
      clear = limits.clear;
      count = (omega (arith, fewer, two), omega (arith, fewer, most));
      sizes = λ i z here. subst IsSize (sym (removed-at d.ships b i z known)) (limits.sizes (raised b i) z (raised-known b i (length d.ships) known (omega (arith, fewer, here))));
    }
