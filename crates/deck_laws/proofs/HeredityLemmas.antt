-- Heredity: what is left of a deck that fits fits, and so does a roomier deck.
use Rattle.std.proofs.Common.{◌≡◌, ℕ, suc, ◌-◌, ◌<◌, List, [], ◌∷◌, ◌++◌, length, cond, inl, inr, refl, sym, ap, ◌∙◌, subst, arith}
use Rattle.std.specs.List.{remove}
use Rattle.std.proofs.lemmas.List.Edits.{length-remove, remove-append_right}
use Rattle.lock_model.specs.Deck.{Deck, IsDeck, size_at, no_size}
use Rattle.lock_model.specs.Fitting.{Fits}
use Rattle.lock_model.specs.Cargo.{HasNoClash, GoTogether}
use Rattle.lock_model.specs.declared.deck.Size.{Size}
use Rattle.lock_rules.specs.Heredity.{IsHereditary}
use Rattle.deck_laws.specs.Thin.{thin_deck, thin_spots}
use Rattle.deck_laws.specs.Widen.{IsRoomier, wide_spots}
use Rattle.deck_laws.proofs.WidenLemmas.{widen-legal}
use Rattle.deck_laws.proofs.ThinLemmas.{raised, ltb_tells, raised-known, removed-at, thin-legal}

raised-rises : (b j k : ℕ) → j < k → raised b j < raised b k
raised-rises b j k less =
    elim (ltb_tells j b) [
      | inl y ↦ elim (ltb_tells k b) [
        | inl z ↦ let f = ap (λ c. cond c j (suc j)) y.0 in let g = ap (λ c. cond c k (suc k)) z.0 in omega (arith, f, g, less)
        | inr z ↦ let f = ap (λ c. cond c j (suc j)) y.0 in let g = ap (λ c. cond c k (suc k)) z.0 in omega (arith, f, g, less)
      ]
      | inr y ↦ elim (ltb_tells k b) [
        | inl z ↦ absurd (omega (arith, y.1, z.1, less))
        | inr z ↦ let f = ap (λ c. cond c j (suc j)) y.0 in let g = ap (λ c. cond c k (suc k)) z.0 in omega (arith, f, g, less)
      ]
    ]

thin-clear : (d : Deck) (b : ℕ) → b < length d.ships → HasNoClash d → HasNoClash (thin_deck d b)
thin-clear d b kb clear =
    let fewer = length-remove d.ships b kb in
    record {
      clear = λ j kj. record {
        later = λ k less kk.
            let kj' = raised-known b j (length d.ships) kb (omega (arith, kj, fewer)) in
            let kk' = raised-known b k (length d.ships) kb (omega (arith, kk, fewer)) in
            subst (λ s. GoTogether s (size_at (thin_deck d b) k)) (sym (removed-at d.ships b j no_size kb))
            (subst (λ t. GoTogether (size_at d (raised b j)) t) (sym (removed-at d.ships b k no_size kb))
            ((clear.clear (raised b j) kj').later (raised b k) (raised-rises b j k less) kk'));
      };
    }

-- a deck that fits fits without ship b
pub thin-fits : (d : Deck) (b : ℕ) → IsDeck d → b < length d.ships → Fits d → Fits (thin_deck d b)
thin-fits d b limits kb fits = record { clear = thin-clear d b kb fits.clear; placed = (thin_spots d fits.placed.0 b, thin-legal d fits.placed.0 fits.placed.1 limits b kb) }

-- and a roomier deck fits
pub widen-fits : (d e : Deck) → IsDeck d → IsRoomier d e → Fits d → Fits e
widen-fits d e limits more fits = record {
  clear = subst (λ ships. HasNoClash (record { length = e.length; width = e.width; end = e.end; gap = e.gap; side = e.side; ships = ships })) more.ships (record { clear = λ i ki. record { later = λ j less kj. (fits.clear.clear i ki).later j less kj } });
  placed = (wide_spots d e fits.placed.0, widen-legal d e fits.placed.0 limits more fits.placed.1);
}

removed : (before after : List Size) (b : Size) → remove (before ++ b ∷ after) (length before) ≡ before ++ after
removed before after b =
    let none : length before - length before ≡ 0 = omega arith in
    remove-append_right before (b ∷ after) (length before) (length before) refl (omega arith) ∙ ap (λ k. before ++ remove (b ∷ after) k) none

known : (before after : List Size) (b : Size) → length before < length (before ++ b ∷ after)
known [] after b = omega arith
known (x ∷ before) after b = let rest = known before after b in omega (arith, rest)

-- HEREDITY holds.
pub hereditary : IsHereditary
hereditary = record {
  thin = λ d before after b limits is some fits.
      let kb : length before < length d.ships = subst (λ ships. length before < length ships) (sym is) (known before after b) in
      let left : remove d.ships (length before) ≡ before ++ after = ap (λ ships. remove ships (length before)) is ∙ removed before after b in
      subst (λ ships. Fits (record { length = d.length; width = d.width; end = d.end; gap = d.gap; side = d.side; ships = ships })) left (thin-fits d (length before) limits kb fits);
  widen = λ d e limits more end gap side ships long wide fits. widen-fits d e limits (record { end = end; gap = gap; side = side; ships = ships; long = long; wide = wide }) fits;
}
