-- What the derived comparison of decks tells.
use Rattle.std.proofs.Common.{◌≡◌, refl, sym, ap, Bool, true, false, ◌&&◌, nat_eq}
use Rattle.std.specs.Bool.{Decides, OnTrue}
use Rattle.std.specs.Cmp.Lexicographic.{pointwise}
use Rattle.std.proofs.lemmas.Bool.Decides.{Decides-and, Decides-eqb, Decides-like}
use Rattle.std.proofs.lemmas.Slice.Eq.{slice_eq-Decides}
use Rattle.lock_model.specs.Deck.{Deck}
use Rattle.lock_model.specs.declared.deck.Size.{Size}

abbrev alike : Size → Size → Bool
alike a b = nat_eq a.length b.length && (nat_eq a.width b.width && nat_eq a.cargo b.cargo)

alike-decides : (a b : Size) → Decides (alike a b) (a ≡ b)
alike-decides a b =
    Decides-like (alike a b) (λ h i. record { length = h.0 i; width = h.1.0 i; cargo = h.1.1 i }) (λ e. (ap (λ s. s.length) e, (ap (λ s. s.width) e, ap (λ s. s.cargo) e)))
    (Decides-and (nat_eq a.length b.length) _ (Decides-eqb a.length b.length)
    (Decides-and (nat_eq a.width b.width) (nat_eq a.cargo b.cargo) (Decides-eqb a.width b.width) (Decides-eqb a.cargo b.cargo)))

-- decks that compare equal are the same
pub deck_eq : (a b : Deck) (test : Bool)
    → test ≡ (nat_eq a.length b.length && (nat_eq a.width b.width && (nat_eq a.end b.end && (nat_eq a.gap b.gap && (nat_eq a.side b.side && pointwise alike a.ships b.ships)))))
    → OnTrue test (a ≡ b)
deck_eq a b false is = tt
deck_eq a b true is = (same.0) (sym is)
  where
    same : Decides (nat_eq a.length b.length && (nat_eq a.width b.width && (nat_eq a.end b.end && (nat_eq a.gap b.gap && (nat_eq a.side b.side && pointwise alike a.ships b.ships))))) (a ≡ b)
    same =
        Decides-like _ (λ h i. record { length = h.0 i; width = h.1.0 i; end = h.1.1.0 i; gap = h.1.1.1.0 i; side = h.1.1.1.1.0 i; ships = h.1.1.1.1.1 i })
        (λ e. (ap (λ d. d.length) e, (ap (λ d. d.width) e, (ap (λ d. d.end) e, (ap (λ d. d.gap) e, (ap (λ d. d.side) e, ap (λ d. d.ships) e))))))
        (Decides-and (nat_eq a.length b.length) _ (Decides-eqb a.length b.length)
        (Decides-and (nat_eq a.width b.width) _ (Decides-eqb a.width b.width)
        (Decides-and (nat_eq a.end b.end) _ (Decides-eqb a.end b.end)
        (Decides-and (nat_eq a.gap b.gap) _ (Decides-eqb a.gap b.gap)
        (Decides-and (nat_eq a.side b.side) (pointwise alike a.ships b.ships) (Decides-eqb a.side b.side) (slice_eq-Decides alike-decides a.ships b.ships (pointwise alike a.ships b.ships) refl))))))
