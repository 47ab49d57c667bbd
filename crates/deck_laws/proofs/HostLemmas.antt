-- Ships of one rank and their hosts, with the depth of a ship: how far it lies from the quay of the rank.
use Rattle.std.proofs.Common.{◌≡◌, ◌≢◌, ℕ, zero, suc, ◌+◌, ◌-◌, ◌<◌, ◌≤◌, cond, Bool, true, false, ◌⊎◌, inl, inr, refl, sym, ap, ◌∙◌, subst, arith, true≢false}
use Rattle.std.proofs.lemmas.Bool.Decides.{eqb_tells, leb_tells}
use Rattle.lock_model.specs.declared.placement.Rank.{Rank}
use Rattle.lock_model.specs.declared.placement.Moor.{Moor}
use Rattle.lock_model.specs.declared.placement.Moor.TheVariants.{Quay, Ship}

-- what is known of n ships of which those of rank `own` are looked at
module _ (n : ℕ) (length_of width_of x h : ℕ → ℕ) (rank : ℕ → Rank) (own : Rank) (moor : ℕ → Moor) (gap side : ℕ)
    (wide : (i : ℕ) → i < n → 1 ≤ width_of i)
    (apart : (i j : ℕ) → i < n → j < n → i ≢ j → (x i + length_of i + gap ≤ x j) ⊎ ((x j + length_of j + gap ≤ x i) ⊎ ((h i + width_of i + side ≤ h j) ⊎ (h j + width_of j + side ≤ h i))))
    (quay : (i : ℕ) → i < n → rank i ≡ own → moor i ≡ Quay → h i ≡ 0)
    (host : (i k : ℕ) → i < n → rank i ≡ own → moor i ≡ Ship k → (k < n) × (rank k ≡ own) × (x k ≤ x i) × (x i + length_of i ≤ x k + length_of k) × (h i ≡ h k + width_of k + side))
  where
    -- u is a host of i, k hosts between
    abbrev pub IsHostIn : ℕ → ℕ → ℕ → Type 0
    IsHostIn zero i u = moor i ≡ Ship u
    IsHostIn (suc k) i u = (j : ℕ) × (moor i ≡ Ship j) × IsHostIn k j u

    abbrev pub IsHost : ℕ → ℕ → Type 0
    IsHost i u = (k : ℕ) × IsHostIn k i u

    -- ship u is below i, and neither wholly before it nor wholly behind it
    pub record IsUnder (i u : ℕ) : Type 0 where
      pub below : h u + width_of u + side ≤ h i
      pub before : x u + length_of u + gap ≤ x i → ⊥
      pub behind : x i + length_of i + gap ≤ x u → ⊥

    abbrev Unders : ℕ → Type 0
    Unders m = (i u : ℕ) → h i < m → i < n → rank i ≡ own → u < n → IsUnder i u → IsHost i u

    -- u is not the host k of i, so it is under k too
    under-more : (i k u : ℕ) → i < n → rank i ≡ own → u < n → k ≢ u → moor i ≡ Ship k → IsUnder i u → IsUnder k u
    under-more i k u ki mine ku differ e under =
        let at = host i k ki mine e in
        elim (apart k u at.0 ku differ) [
          | inl a ↦ absurd (under.behind (omega (arith, a, at.3)))
          | inr s ↦ elim s [
            | inl a ↦ absurd (under.before (omega (arith, a, at.2)))
            | inr t ↦ elim t [
              | inl a ↦ absurd (omega (arith, a, at.4, under.below, wide u ku))
              | inr a ↦ record { below = a; before = λ c. under.before (omega (arith, c, at.2)); behind = λ c. under.behind (omega (arith, c, at.3)) }
            ]
          ]
        ]

    under-step : (m : ℕ) → Unders m → Unders (suc m)
    under-step m less i u low ki mine ku under = go (moor i) refl
      where
        go : (at : Moor) → moor i ≡ at → IsHost i u
        go Quay e = absurd (omega (arith, quay i ki mine e, under.below, wide u ku))
        go (Ship k) e =
            let at = host i k ki mine e in
            elim (eqb_tells k u) [
              | inl y ↦ (0, e ∙ ap Ship y.1)
              | inr d ↦
                  let rest = less k u (omega (arith, at.4, low, wide k at.0)) at.0 at.1 ku (under-more i k u ki mine ku d.1 e under) in
                  (suc rest.0, (k, e, rest.1))
            ]

    unders : (m : ℕ) → Unders m
    unders zero i u low ki mine ku under = absurd (omega (arith, low))
    unders (suc m) i u low ki mine ku under = under-step m (unders m) i u low ki mine ku under

    -- THE LEMMA OF HOSTS: what is under a ship of the rank is its host through hosts
    pub under-host : (i u : ℕ) → i < n → rank i ≡ own → u < n → IsUnder i u → IsHost i u
    under-host i u ki mine ku under = unders (suc (h i)) i u (omega arith) ki mine ku under

    -- a host through hosts is a ship of the rank, and is below
    pub host-below : (k i u : ℕ) → i < n → rank i ≡ own → IsHostIn k i u → (u < n) × (rank u ≡ own) × (h u + width_of u + side ≤ h i)
    host-below zero i u ki mine e = let at = host i u ki mine e in (at.0, at.1, omega (arith, at.4))
    host-below (suc k) i u ki mine e =
        let at = host i e.0 ki mine e.1 in
        let rest = host-below k e.0 u at.0 at.1 e.2 in
        (rest.0, rest.1, omega (arith, rest.2, at.4))

    -- ---- ship b is left out, and the ships that rest on it move towards the quay
    module _ (b : ℕ) (kb : b < n) (bare : rank b ≡ own) (moves : ℕ → Bool)
        (moved : (i : ℕ) → i < n → moves i ≡ true → (rank i ≡ own) × ((k : ℕ) × (moor i ≡ Ship k) × ((k ≡ b) ⊎ (moves k ≡ true))))
        (stays : (i k : ℕ) → i < n → moves i ≡ false → moor i ≡ Ship k → (k ≢ b) × (moves k ≡ false))
      where
        abbrev pub depth : ℕ → ℕ
        depth i = h i - cond (moves i) (width_of b + side) 0

        -- a ship that moves lies above b
        above-in : (m i : ℕ) → h i < m → i < n → moves i ≡ true → h b + width_of b + side ≤ h i
        above-in zero i low ki goes = absurd (omega (arith, low))
        above-in (suc m) i low ki goes =
            let own' = moved i ki goes in
            let k = own'.1.0 in
            let at = host i k ki own'.0 own'.1.1 in
            elim own'.1.2 [
              | inl e ↦ let hh = ap h e in let ww = ap width_of e in omega (arith, at.4, hh, ww)
              | inr g ↦ let rest = above-in m k (omega (arith, at.4, low, wide k at.0)) at.0 g in omega (arith, rest, at.4)
            ]

        pub above : (i : ℕ) → i < n → moves i ≡ true → h b + width_of b + side ≤ h i
        above i ki goes = above-in (suc (h i)) i (omega arith) ki goes

        pub depth-moved : (i : ℕ) → i < n → moves i ≡ true → depth i + width_of b + side ≡ h i
        depth-moved i ki goes =
            let e = ap (λ c. h i - cond c (width_of b + side) 0) goes in
            let up = above i ki goes in
            omega (arith, e, up)

        pub depth-still : (i : ℕ) → moves i ≡ false → depth i ≡ h i
        depth-still i goes =
            let e = ap (λ c. h i - cond c (width_of b + side) 0) goes in
            omega (arith, e)

        -- a host that stays, of a ship that moves, is b or lies below it
        resting : (k i u : ℕ) → i < n → moves i ≡ true → moves u ≡ false → IsHostIn k i u → (u ≡ b) ⊎ (h u + width_of u + side ≤ h b)
        resting zero i u ki goes still e =
            let own' = moved i ki goes in
            let same : own'.1.0 ≡ u = ship-same own'.1.0 u (sym own'.1.1 ∙ e) in
            elim own'.1.2 [
              | inl at ↦ inl (sym same ∙ at)
              | inr g ↦ absurd (true≢false (sym g ∙ ap moves same ∙ still))
            ]
          where
            ship-same : (j k : ℕ) → Ship j ≡ Ship k → j ≡ k
            ship-same j k e = cc
        resting (suc k) i u ki goes still e =
            let own' = moved i ki goes in
            let same : own'.1.0 ≡ e.0 = ship-same own'.1.0 e.0 (sym own'.1.1 ∙ e.1) in
            let at = host i e.0 ki own'.0 e.1 in
            elim own'.1.2 [
              | inl is ↦ inr ((host-below k b u kb bare (subst (λ j. IsHostIn k j u) (sym same ∙ is) e.2)).2)
              | inr g ↦ resting k e.0 u at.0 (sym (ap moves same) ∙ g) still e.2
            ]
          where
            ship-same : (j k : ℕ) → Ship j ≡ Ship k → j ≡ k
            ship-same j k e = cc

        abbrev pub IsApart : ℕ → ℕ → Type 0
        IsApart i j = (x i + length_of i + gap ≤ x j) ⊎ ((x j + length_of j + gap ≤ x i) ⊎ ((depth i + width_of i + side ≤ depth j) ⊎ (depth j + width_of j + side ≤ depth i)))

        turned : (i j : ℕ) → IsApart i j → IsApart j i
        turned i j (inl a) = inr (inl a)
        turned i j (inr (inl a)) = inl a
        turned i j (inr (inr (inl a))) = inr (inr (inr a))
        turned i j (inr (inr (inr a))) = inr (inr (inl a))

        -- i moves, and j, which lies below it, stays
        lower : (i j : ℕ) → i < n → j < n → j ≢ b → moves i ≡ true → moves j ≡ false → h j + width_of j + side ≤ h i → IsApart i j
        lower i j ki kj other goes still below =
            let up = depth-moved i ki goes in
            let at = depth-still j still in
            let high = above i ki goes in
            elim (leb_tells (x i + length_of i + gap) (x j)) [
              | inl y ↦ inl y.1
              | inr behind ↦ elim (leb_tells (x j + length_of j + gap) (x i)) [
                | inl y ↦ inr (inl y.1)
                | inr before ↦
                    let found = under-host i j ki (moved i ki goes).0 kj (record { below = below; before = λ c. omega (arith, c, before.1); behind = λ c. omega (arith, c, behind.1) }) in
                    elim (resting found.0 i j ki goes still found.1) [
                      | inl e ↦ absurd (other e)
                      | inr low ↦ inr (inr (inr (omega (arith, low, up, at, high))))
                    ]
              ]
            ]

        mixed : (i j : ℕ) → i < n → j < n → i ≢ j → j ≢ b → moves i ≡ true → moves j ≡ false → IsApart i j
        mixed i j ki kj differ other goes still =
            let up = depth-moved i ki goes in
            let at = depth-still j still in
            elim (apart i j ki kj differ) [
              | inl a ↦ inl a
              | inr s ↦ elim s [
                | inl a ↦ inr (inl a)
                | inr t ↦ elim t [
                  | inl a ↦ inr (inr (inl (omega (arith, a, up, at))))
                  | inr a ↦ lower i j ki kj other goes still a
                ]
              ]
            ]

        same-way : (i j e : ℕ) → depth i + e ≡ h i → depth j + e ≡ h j → i < n → j < n → i ≢ j → IsApart i j
        same-way i j e ei ej ki kj differ =
            elim (apart i j ki kj differ) [
              | inl a ↦ inl a
              | inr s ↦ elim s [
                | inl a ↦ inr (inl a)
                | inr t ↦ elim t [
                  | inl a ↦ inr (inr (inl (omega (arith, a, ei, ej))))
                  | inr a ↦ inr (inr (inr (omega (arith, a, ei, ej))))
                ]
              ]
            ]

        -- after the move each two ships but b are apart
        pub thin-apart : (i j : ℕ) → i < n → j < n → i ≢ j → i ≢ b → j ≢ b → IsApart i j
        thin-apart i j ki kj differ ib jb = go (moves i) (moves j) refl refl
          where
            go : (c e : Bool) → moves i ≡ c → moves j ≡ e → IsApart i j
            go true true mi mj = let ei = depth-moved i ki mi in let ej = depth-moved j kj mj in same-way i j (width_of b + side) (omega (arith, ei)) (omega (arith, ej)) ki kj differ
            go true false mi mj = mixed i j ki kj differ jb mi mj
            go false true mi mj = turned j i (mixed j i kj ki (λ s. differ (sym s)) ib mj mi)
            go false false mi mj = let ei = depth-still i mi in let ej = depth-still j mj in same-way i j 0 (omega (arith, ei)) (omega (arith, ej)) ki kj differ

        -- after the move a ship of the rank lies at its quay
        pub thin-quay : (i : ℕ) → i < n → rank i ≡ own → moor i ≡ Quay → depth i ≡ 0
        thin-quay i ki mine e = let at = quay i ki mine e in omega (arith, at)

        -- and at its host, if that isn't b
        pub thin-host : (i k : ℕ) → i < n → rank i ≡ own → moor i ≡ Ship k → k ≢ b → depth i ≡ depth k + width_of k + side
        thin-host i k ki mine e other = go (moves i) refl
          where
            ship-same : (j k : ℕ) → Ship j ≡ Ship k → j ≡ k
            ship-same j k e = cc

            go : (c : Bool) → moves i ≡ c → depth i ≡ depth k + width_of k + side
            go true mi =
                let at = host i k ki mine e in
                let own' = moved i ki mi in
                let same : own'.1.0 ≡ k = ship-same own'.1.0 k (sym own'.1.1 ∙ e) in
                elim own'.1.2 [
                  | inl is ↦ absurd (other (sym same ∙ is))
                  | inr g ↦ let ek = depth-moved k at.0 (sym (ap moves same) ∙ g) in let ei = depth-moved i ki mi in omega (arith, ei, ek, at.4)
                ]
            go false mi =
                let at = host i k ki mine e in
                let s = stays i k ki mi e in
                let ek = depth-still k s.1 in
                let ei = depth-still i mi in
                omega (arith, ei, ek, at.4)

        -- b itself and its hosts stay
        pub b-stays : moves b ≡ false
        b-stays = go (moves b) refl
          where
            go : (c : Bool) → moves b ≡ c → c ≡ false
            go true e = absurd (omega (arith, above b kb e, wide b kb))
            go false e = refl

        -- a guest of b comes to rest at the depth of b
        pub thin-guest : (i : ℕ) → i < n → rank i ≡ own → moor i ≡ Ship b → (depth i ≡ h b) × (moves i ≡ true)
        thin-guest i ki mine e = go (moves i) refl
          where
            go : (c : Bool) → moves i ≡ c → (depth i ≡ h b) × (moves i ≡ true)
            go true mi =
                let at = host i b ki mine e in
                let ei = depth-moved i ki mi in
                (omega (arith, ei, at.4), mi)
            go false mi = absurd ((stays i b ki mi e).0 refl)

        -- the host of b stays
        pub host-stays : (k : ℕ) → moor b ≡ Ship k → (k ≢ b) × (depth k + width_of k + side ≡ h b)
        host-stays k e =
            let s = stays b k kb b-stays e in
            let at = host b k kb bare e in
            let ek = depth-still k s.1 in
            (s.0, omega (arith, ek, at.4))
