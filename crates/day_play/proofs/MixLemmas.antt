-- The beats of each chamber stand in the day as they do in the chamber.
use Rattle.std.proofs.Common.{◌≡◌, ◌≢◌, ℕ, zero, suc, ◌+◌, ◌<◌, ◌≤◌, List, [], ◌∷◌, ◌++◌, cond, true, false, nat_eq, nat_le, Bool, ◌⊎◌, inl, inr, refl, ap, sym, subst, ◌∙◌, arith}
use Rattle.std.proofs.lemmas.Bool.Decides.{eqb_tells, leb_tells}
use Rattle.std.proofs.lemmas.List.{append_assoc, append-nil}
use Rattle.lock_rules.specs.Arrival.{numbers_from}
use Rattle.day_play.specs.Order.{put_by, put_each, minute_of, IsOrdered}
use Rattle.list_laws.specs.Among.{IsAmong}
use Rattle.day_play.specs.Playing.{beats_by}
use Rattle.day_play.specs.declared.beat.Beat.{Beat}
use Rattle.day_play.proofs.OrderLemmas.{ordered-above, put_by-ordered, put_each-ordered, put_by-from, put_each-append}
use Rattle.day_play.proofs.RunLemmas.{beats_at}

module _ (c : ℕ) where
  pub hit : (b : Beat) (bs : List Beat) → b.chamber ≡ c → beats_at c (b ∷ bs) ≡ b ∷ beats_at c bs
  hit b bs own =
      elim (eqb_tells b.chamber c) [
        | inl same ↦ ap (λ t. cond t (b ∷ beats_at c bs) (beats_at c bs)) same.0
        | inr other ↦ absurd (other.1 own)
      ]

  pub skip : (b : Beat) (bs : List Beat) → b.chamber ≢ c → beats_at c (b ∷ bs) ≡ beats_at c bs
  skip b bs other =
      elim (eqb_tells b.chamber c) [
        | inl same ↦ absurd (other same.1)
        | inr miss ↦ ap (λ t. cond t (b ∷ beats_at c bs) (beats_at c bs)) miss.0
      ]

  none : (bs : List Beat) → ((b : Beat) → IsAmong bs b → b.chamber ≢ c) → beats_at c bs ≡ []
  none [] others = refl
  none (b ∷ bs) others = skip b bs (others b (inl refl)) ∙ none bs (λ x among. others x (inr among))

  own-among : (bs : List Beat) (b : Beat) → b.chamber ≡ c → IsAmong bs b → IsAmong (beats_at c bs) b
  own-among [] b own h = absurd h
  own-among (x ∷ bs) b own (inl e) = subst (λ xs. IsAmong xs b) (sym (hit x bs (ap (λ (b : Beat). b.chamber) e ∙ own))) (inl e)
  own-among (x ∷ bs) b own (inr h) =
      let rest = own-among bs b own h in
      elim (nat_eq x.chamber c) as (λ t. IsAmong (cond t (x ∷ beats_at c bs) (beats_at c bs)) b) [
        | true ↦ inr rest
        | false ↦ rest
      ]

  put_by-other : (b : Beat) (bs : List Beat) → b.chamber ≢ c → beats_at c (put_by minute_of b bs) ≡ beats_at c bs
  put_by-other b [] other = skip b [] other
  put_by-other b (x ∷ bs) other =
      elim (nat_le x.minute b.minute) as (λ t. beats_at c (cond t (x ∷ put_by minute_of b bs) (b ∷ x ∷ bs)) ≡ beats_at c (x ∷ bs)) [
        | true ↦ ap (λ rest. cond (nat_eq x.chamber c) (x ∷ rest) rest) (put_by-other b bs other)
        | false ↦ skip b (x ∷ bs) other
      ]

  -- a beat of the chamber that is no earlier than its others comes behind them
  put_by-own : (low : ℕ) (b : Beat) (bs : List Beat) → IsOrdered minute_of low bs → b.chamber ≡ c → ((x : Beat) → IsAmong bs x → x.chamber ≡ c → x.minute ≤ b.minute)
      → beats_at c (put_by minute_of b bs) ≡ beats_at c bs ++ b ∷ []
  put_by-own low b [] order own before = hit b [] own
  put_by-own low b (x ∷ bs) order own before =
      elim (leb_tells x.minute b.minute) [
        | inl less ↦
            ap (λ t. beats_at c (cond t (x ∷ put_by minute_of b bs) (b ∷ x ∷ bs))) less.0
            ∙ ap (λ rest. cond (nat_eq x.chamber c) (x ∷ rest) rest) (put_by-own x.minute b bs order.1 own (λ y among. before y (inr among)))
            ∙ more (nat_eq x.chamber c) x (beats_at c bs)
        | inr late ↦
            let empty = none (x ∷ bs) (λ y among same. absurd (omega (arith, late.1, before y among same, ordered-above minute_of x.minute (x ∷ bs) y (omega arith, order.1) among))) in
            ap (λ t. beats_at c (cond t (x ∷ put_by minute_of b bs) (b ∷ x ∷ bs))) late.0
            ∙ hit b (x ∷ bs) own ∙ ap (λ rest. b ∷ rest) empty ∙ sym (ap (λ rest. rest ++ b ∷ []) empty)
      ]
    where
      more : (t : Bool) (x : Beat) (rest : List Beat) → cond t (x ∷ (rest ++ b ∷ [])) (rest ++ b ∷ []) ≡ cond t (x ∷ rest) rest ++ b ∷ []
      more true x rest = refl
      more false x rest = refl

  put_each-other : (bs xs : List Beat) → ((x : Beat) → IsAmong xs x → x.chamber ≢ c) → beats_at c (put_each minute_of bs xs) ≡ beats_at c bs
  put_each-other bs [] others = refl
  put_each-other bs (x ∷ xs) others = put_each-other (put_by minute_of x bs) xs (λ y among. others y (inr among)) ∙ put_by-other x bs (others x (inl refl))

  put_each-own : (low : ℕ) (bs xs : List Beat) → IsOrdered minute_of 0 bs → ((x : Beat) → IsAmong xs x → x.chamber ≡ c) → IsOrdered minute_of low xs
      → ((x : Beat) → IsAmong bs x → x.chamber ≡ c → x.minute ≤ low) → beats_at c (put_each minute_of bs xs) ≡ beats_at c bs ++ xs
  put_each-own low bs [] order own rising before = sym (append-nil (beats_at c bs))
  put_each-own low bs (x ∷ xs) order own rising before =
      put_each-own x.minute (put_by minute_of x bs) xs (put_by-ordered minute_of 0 x bs (omega arith) order) (λ y among. own y (inr among)) rising.1
      (λ y among same. earlier y same (put_by-from minute_of x bs y among))
      ∙ ap (λ rest. rest ++ xs) (put_by-own 0 x bs order (own x (inl refl)) (λ y among same. omega (arith, before y among same, rising.0)))
      ∙ append_assoc (beats_at c bs) (x ∷ []) xs
    where
      earlier : (y : Beat) → y.chamber ≡ c → IsAmong (x ∷ bs) y → y.minute ≤ x.minute
      earlier y same (inl here) = omega (arith, ap (λ (b : Beat). b.minute) here)
      earlier y same (inr old) = omega (arith, before y old same, rising.0)

  module _ (own : ℕ → List Beat) (m : ℕ)
      (owns : (d : ℕ) (x : Beat) → IsAmong (own d) x → x.chamber ≡ d)
      (rises : c < m → IsOrdered minute_of 0 (own c)) where
    -- chambers past c, or before it
    pub others-after : (low n : ℕ) (bs : List Beat) → (c < low) ⊎ (low + n ≤ c) → beats_at c (put_each minute_of bs (beats_by own (numbers_from low n))) ≡ beats_at c bs
    others-after low zero bs apart = refl
    others-after low (suc n) bs apart =
        ap (beats_at c) (put_each-append minute_of bs (own low) (beats_by own (numbers_from (suc low) n)))
        ∙ others-after (suc low) n (put_each minute_of bs (own low)) (elim apart [ inl before ↦ inl (omega (arith, before)) | inr after ↦ inr (omega (arith, after)) ])
        ∙ put_each-other bs (own low) (λ x among same. absurd (elim apart [ inl before ↦ omega (arith, before, owns low x among, same) | inr after ↦ omega (arith, after, owns low x among, same) ]))

    pub own-once : (low n : ℕ) (bs : List Beat) → IsOrdered minute_of 0 bs → beats_at c bs ≡ [] → low ≤ c → c < low + n → c < m
        → beats_at c (put_each minute_of bs (beats_by own (numbers_from low n))) ≡ own c
    own-once low zero bs order empty above below known = absurd (omega (arith, above, below))
    own-once low (suc n) bs order empty above below known =
        ap (beats_at c) (put_each-append minute_of bs (own low) (beats_by own (numbers_from (suc low) n)))
        ∙ elim (eqb_tells low c) [
          | inl same ↦
              others-after (suc low) n (put_each minute_of bs (own low)) (inl (omega (arith, same.1)))
              ∙ ap (λ d. beats_at c (put_each minute_of bs (own d))) same.1
              ∙ put_each-own 0 bs (own c) order (owns c) (rises known) (λ x among same. absurd (subst (λ xs. IsAmong xs x) empty (own-among bs x same among)))
              ∙ ap (λ rest. rest ++ own c) empty
          | inr other ↦
              own-once (suc low) n (put_each minute_of bs (own low)) (put_each-ordered minute_of bs (own low) order)
              (put_each-other bs (own low) (λ x among same. other.1 (sym (owns low x among) ∙ same)) ∙ empty)
              (past low c above other.1) (omega (arith, below)) known
        ]
      where
        past : (low c : ℕ) → low ≤ c → low ≢ c → suc low ≤ c
        past low c above other = elim (leb_tells (suc low) c) [ inl y ↦ y.1 | inr n ↦ absurd (other (omega (arith, n.1, above))) ]
