-- Cases that decide all berths, and what one order more leaves as it is.
use Rattle.std.proofs.Common.{◌≡◌, ◌≢◌, ℕ, zero, suc, ◌+◌, ◌<◌, ◌≤◌, ℤ, pos, negsuc, List, [], ◌∷◌, ◌++◌, length, Contains, cond, nat_eq, inl, inr, refl, sym, ap, ◌∙◌, subst, arith, Some, None, option_map}
use Rattle.std.proofs.lemmas.Option.{none-some}
use Rattle.std.specs.declared.option.Option.{Option}
use Rattle.std.proofs.lemmas.Int.{ints}
use Rattle.std.proofs.lemmas.Bool.Decides.{leb_tells}
use Rattle.std.proofs.lemmas.List.Elements.{Contains-append_left, Contains-append_right}
use Rattle.lock_model.specs.Deck.{Deck}
use Rattle.lock_model.specs.declared.placement.Moor.{Moor}
use Rattle.lock_model.specs.declared.placement.Moor.TheVariants.{Quay, Ship}
use Rattle.refute_rules.specs.Reasons.{width_at}
use Rattle.refute_rules.specs.declared.choices.Berth.{Berth}
use Rattle.refute_rules.specs.declared.choices.Choice.{Choice}
use Rattle.refute_rules.specs.declared.choices.Choice.TheVariants.{Lies, Before, Below, LiesAt}
use Rattle.refute_rules.specs.Decided.{berth_in}
use Rattle.refute_rules.specs.Known.{host_of, host_and_more, hosts_within, guest_y, moored_y, berth_y, y_within, y_in, HasKnownHosts}
use Rattle.refute_rules.proofs.KnownLemmas as chain
use Rattle.refute_rules.specs.BerthCases.{host_in, HasOrder, DoOverlap}
use Rattle.berth_check.specs.Raises.{AreKnown}
use Rattle.berth_check.proofs.RaiseLemmas.{host-known, y-known}
use Rattle.berth_place.specs.Known.{AreDecided, AreSoundShips, HasAllBerths}

berth-same : (a b : ℕ) (case : List Choice) (i : ℕ) → berth_in (case ++ Before a b ∷ []) i ≡ berth_in case i
berth-same a b [] i = refl
berth-same a b (Lies j c ∷ cs) i = ap (λ o. cond (nat_eq j i) (Some c) o) (berth-same a b cs i)
berth-same a b (Before j k ∷ cs) i = berth-same a b cs i
berth-same a b (Below j k ∷ cs) i = berth-same a b cs i
berth-same a b (LiesAt j v ∷ cs) i = berth-same a b cs i

module _ (d : Deck) (case more : List Choice) (same : (i : ℕ) → berth_in more i ≡ berth_in case i) where
  y-same : (steps i : ℕ) → y_within d more steps i ≡ y_within d case steps i
  y-same zero i = refl
  y-same (suc steps) i = ap (λ o. berth_y d i o (y_within d more steps)) (same i) ∙ by-berth (berth_in case i) (y-same steps)
    where
      by-moor : (b : Berth) (m : Moor) → ((k : ℕ) → y_within d more steps k ≡ y_within d case steps k) → moored_y d i b.rank m (y_within d more steps) ≡ moored_y d i b.rank m (y_within d case steps)
      by-moor b Quay f = refl
      by-moor b (Ship k) f = ap (option_map (guest_y d i k b.rank)) (f k)

      by-berth : (o : Option Berth) → ((k : ℕ) → y_within d more steps k ≡ y_within d case steps k) → berth_y d i o (y_within d more steps) ≡ berth_y d i o (y_within d case steps)
      by-berth None f = refl
      by-berth (Some b) f = by-moor b b.moor f

  known-same : (i : ℕ) → y_in d more i ≡ y_in d case i
  known-same i = y-same (length d.ships) i

  overlap-back : (i j : ℕ) → DoOverlap d more i j → DoOverlap d case i j
  overlap-back i j o = record { yi = o.yi; yj = o.yj; known_i = sym (known-same i) ∙ o.known_i; known_j = sym (known-same j) ∙ o.known_j; not_below = o.not_below; not_above = o.not_above }

  overlap-on : (i j : ℕ) → DoOverlap d case i j → DoOverlap d more i j
  overlap-on i j o = record { yi = o.yi; yj = o.yj; known_i = known-same i ∙ o.known_i; known_j = known-same j ∙ o.known_j; not_below = o.not_below; not_above = o.not_above }

  whole-on : HasAllBerths d case → HasAllBerths d more
  whole-on w = record {
    decided = record { each = λ i h. let own = w.decided.each i h in record { berth = own.berth; is = same i ∙ own.is } };
    ranks = λ i h. w.ranks i (record { host = h.host; own = h.own; berth = h.berth; lies = sym (same i) ∙ h.lies; decided = sym (same h.host) ∙ h.decided; differ = h.differ });
    ys = λ i h. let own = w.ys i h in (own.0, known-same i ∙ own.1);
    across = λ i h. w.across i (record { y = h.y; known = sym (known-same i) ∙ h.known; outside = h.outside });
    other = λ i k e. w.other i k (ap host_of (sym (same i)) ∙ e);
  }

module _ (d : Deck) (case : List Choice) (a b : ℕ) where
  abbrev ordered : List Choice
  ordered = case ++ Before a b ∷ []

  pub whole_more : HasAllBerths d case → HasAllBerths d ordered
  whole_more w = whole-on d case ordered (berth-same a b case) w

  pub overlap_more : (i j : ℕ) → DoOverlap d case i j → DoOverlap d ordered i j
  overlap_more i j o = overlap-on d case ordered (berth-same a b case) i j o

  pub overlap_less : (i j : ℕ) → DoOverlap d ordered i j → DoOverlap d case i j
  overlap_less i j o = overlap-back d case ordered (berth-same a b case) i j o

  pub host_same : (i : ℕ) → host_in ordered i ≡ host_in case i
  host_same i = ap host_of (berth-same a b case i)

  pub order_more : (i j : ℕ) → HasOrder case i j → HasOrder ordered i j
  order_more i j h = Contains-append_left case (Before a b ∷ []) (Before i j) h

  pub order_last : HasOrder ordered a b
  order_last = Contains-append_right case (Before a b ∷ []) (Before a b) (0, omega arith, refl)

-- ---- a case without faults across

module _ (d : Deck) (case : List Choice) (known : AreKnown d case) (decided : AreDecided case (length d.ships)) (sound : AreSoundShips d case (length d.ships)) where
  no-hosts : (steps i : ℕ) → host_in case i ≡ None → hosts_within case steps i ≡ []
  no-hosts zero i e = refl
  no-hosts (suc steps) i e = ap (λ o. host_and_more o (hosts_within case steps)) e

  free : (i : ℕ) → Contains (hosts_within case (length d.ships) i) i → ⊥
  free i h = by-host (host_in case i) refl
    where
      nothing : Contains [] i → ⊥
      nothing o = let short : o.0 < 0 = o.1 in omega (arith, short)

      by-host : (o : Option ℕ) → host_in case i ≡ o → ⊥
      by-host None e = nothing (subst (λ hs. Contains hs i) (no-hosts (length d.ships) i e) h)
      by-host (Some k) e = (sound.each i (host-known d case known i k e).0).free h

  not-own : (i k : ℕ) → host_in case i ≡ Some k → k ≢ i
  not-own i k e same =
      let ship = (host-known d case known i k e).0 in
      let n = chain.positive (length d.ships) i ship in
      free i (subst (λ steps. Contains (hosts_within case steps i) i) (sym n.1) (subst (λ o. Contains (host_and_more o (hosts_within case n.0)) i) (sym e) (0, omega arith, same)))

  hosts : HasKnownHosts d case
  hosts = record { each = λ i k h e. (host-known d case known i k e).1 }

  pub sound_whole : HasAllBerths d case
  sound_whole = record {
    decided = decided;
    ranks = λ i h. let host : host_in case i ≡ Some h.host = ap host_of h.lies in (sound.each i (host-known d case known i h.host host).0).rank h;
    ys = λ i h. chain.y-known d case hosts free (λ k less. let own = decided.each k less in (own.berth, own.is)) i h;
    across = λ i h. (sound.each i (y-known d case known (length d.ships) i h.y h.known)).across h;
    other = not-own;
  }

-- ---- what a whole case says of a ship

module _ (d : Deck) (case : List Choice) (whole : HasAllBerths d case) (i : ℕ) (h : i < length d.ships) where
  pub berth_decided : None ≡ berth_in case i → ⊥
  berth_decided e = none-some _ (e ∙ (whole.decided.each i h).is)

  pub y_decided : None ≡ y_in d case i → ⊥
  y_decided e = none-some _ (e ∙ (whole.ys i h).1)

  -- a y that is known is a place inside across the chamber
  pub y_inside : (y : ℤ) → Some y ≡ y_in d case i → (m : ℕ) × (y ≡ pos m) × (m ≤ d.width)
  y_inside (negsuc m) e = absurd (whole.across i (record { y = negsuc m; known = sym e; outside = λ in'. let low = in'.0 in omega (arith, ints, low) }))
  y_inside (pos m) e =
      elim (leb_tells (m + width_at d i) d.width) [
        | inl y ↦ let far = y.1 in (m, refl, omega (arith, far))
        | inr n ↦ absurd (whole.across i (record { y = pos m; known = sym e; outside = λ in'. let far = in'.1 in let out = n.1 in omega (arith, ints, far, out) }))
      ]
