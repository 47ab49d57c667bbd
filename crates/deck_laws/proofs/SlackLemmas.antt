-- What the code of `normalise` needs.
use Rattle.std.proofs.Common.{◌≡◌, ℕ, zero, suc, ◌+◌, ◌-◌, ◌<◌, ◌≤◌, List, [], ◌∷◌, ◌++◌, length, take, Bool, true, false, ◌⊎◌, inl, inr, sym, ap, ◌∙◌, subst, arith, true≢false}
use Rattle.std.proofs.lemmas.Bool.Decides.{eqb_tells}
use Rattle.std.proofs.lemmas.Grind.{common_steps}
use Rattle.lock_model.specs.Deck.{Deck}
use Rattle.lock_model.specs.Placement.{spot_at}
use Rattle.lock_model.specs.declared.placement.Spot.{Spot}
use Rattle.deck_laws.proofs.NormalLemmas.{shift-length}
use Rattle.deck_laws.specs.Slack.{Keeps, HasRoom, IsTightBy, IsTight, IsLeastSlack, IsLeastTo, IsSlackTo}
use Rattle.deck_laws.specs.Shift.{shifted, shift_from}

keeps-less : (d : Deck) (spots : List Spot) (i j s t : ℕ) → t ≤ s → Keeps d spots i j s → Keeps d spots i j t
keeps-less d spots i j s t less k = record {
  behind = λ h. let r = k.behind h in omega (arith, r, less);
  host = λ h. let r = k.host h in omega (arith, r, less);
  guest = λ h. let r = k.guest h in omega (arith, r, less);
}

room-less : (d : Deck) (spots : List Spot) (done : ℕ → Bool) (i s t : ℕ) → t ≤ s → HasRoom d spots done i s → HasRoom d spots done i t
room-less d spots done i s t less r = let e = r.end in record { end = omega (arith, e, less); others = λ j kj dj. keeps-less d spots i j s t less (r.others j kj dj) }

-- the slack at the near end
pub slack_begun : (d : Deck) (spots : List Spot) (done : ℕ → Bool) (i s : ℕ) → d.end ≤ (spot_at spots i).x → s ≡ (spot_at spots i).x - d.end → IsSlackTo d spots done i 0 s
slack_begun d spots done i s near is = record { end = omega (arith, near, is); tight = inl (omega (arith, near, is)); others = λ j h. absurd (omega (arith, h)) }

-- one ship more
pub slack_more : (d : Deck) (spots : List Spot) (done : ℕ → Bool) (i j s t : ℕ) → IsSlackTo d spots done i j s → j < length d.ships → t ≤ s → (done j ≡ true → Keeps d spots i j t) → (t ≡ s) ⊎ ((done j ≡ true) × IsTightBy d spots i j t) → IsSlackTo d spots done i (j + 1) t
slack_more d spots done i j s t old kj less keeps tight =
    let e = old.end in
    record {
      end = omega (arith, e, less);
      tight = elim tight [ inl same ↦ subst (IsTight d spots done i) (sym same) old.tight | inr by ↦ inr (j, kj, by.0, by.1) ];
      others = λ k h dk. elim (eqb_tells k j) [
        | inl y ↦ subst (λ u. Keeps d spots i u t) (sym y.1) (keeps (sym (ap done y.1) ∙ dk))
        | inr n ↦ keeps-less d spots i k s t less (old.others k (omega (arith, h, n.1)) dk)
      ];
    }

pub slack_whole : (d : Deck) (spots : List Spot) (done : ℕ → Bool) (i n s : ℕ) → IsSlackTo d spots done i n s → length d.ships ≤ n → HasRoom d spots done i s
slack_whole d spots done i n s old all = record { end = old.end; others = λ j kj dj. old.others j (omega (arith, kj, all)) dj }

pub least_skip : (d : Deck) (spots : List Spot) (done : ℕ → Bool) (i ship s : ℕ) → IsLeastTo d spots done i ship s → done i ≡ true → IsLeastTo d spots done (i + 1) ship s
least_skip d spots done i ship s old di = record {
  room = λ k h fk. elim (eqb_tells k i) [
    | inl y ↦ absurd (true≢false (sym (ap done y.1 ∙ di) ∙ fk))
    | inr n ↦ old.room k (omega (arith, h, n.1)) fk
  ];
  known = old.known;
  free = old.free;
  tight = old.tight;
}

pub least_keep : (d : Deck) (spots : List Spot) (done : ℕ → Bool) (i ship s t : ℕ) → IsLeastTo d spots done i ship s → HasRoom d spots done i t → s ≤ t → IsLeastTo d spots done (i + 1) ship s
least_keep d spots done i ship s t old room less = record {
  room = λ k h fk. elim (eqb_tells k i) [
    | inl y ↦ subst (λ u. HasRoom d spots done u s) (sym y.1) (room-less d spots done i t s less room)
    | inr n ↦ old.room k (omega (arith, h, n.1)) fk
  ];
  known = old.known;
  free = old.free;
  tight = old.tight;
}

pub least_take : (d : Deck) (spots : List Spot) (done : ℕ → Bool) (i ship s t : ℕ) → IsLeastTo d spots done i ship s → i < length d.ships → done i ≡ false → HasRoom d spots done i t → IsTight d spots done i t → t ≤ s → IsLeastTo d spots done (i + 1) i t
least_take d spots done i ship s t old ki free room tight less = record {
  room = λ k h fk. elim (eqb_tells k i) [
    | inl y ↦ subst (λ u. HasRoom d spots done u t) (sym y.1) room
    | inr n ↦ room-less d spots done k s t less (old.room k (omega (arith, h, n.1)) fk)
  ];
  known = ki;
  free = free;
  tight = tight;
}

pub least_begun : (d : Deck) (spots : List Spot) (done : ℕ → Bool) (ship s : ℕ) → ship < length d.ships → done ship ≡ false → IsTight d spots done ship s → IsLeastTo d spots done 0 ship s
least_begun d spots done ship s known free tight = record { room = λ i h. absurd (omega (arith, h)); known = known; free = free; tight = tight }

pub least_whole : (d : Deck) (spots : List Spot) (done : ℕ → Bool) (n ship s : ℕ) → IsLeastTo d spots done n ship s → length d.ships ≤ n → IsLeastSlack d spots done ship s
least_whole d spots done n ship s old all = record { room = λ i ki fi. old.room i (omega (arith, ki, all)) fi; known = old.known; free = old.free; tight = old.tight }

-- one spot more
pub shift_take : (done : ℕ → Bool) (s k i : ℕ) (spots : List Spot) → i < length spots → shift_from done s k (take (suc i) spots) ≡ shift_from done s k (take i spots) ++ shifted (done (k + i)) s (spot_at spots i) ∷ []
shift_take done s k i [] h = absurd (omega (arith, h))
shift_take done s k zero (p ∷ ps) h = let e : k ≡ k + 0 = omega arith in ap (λ j. shifted (done j) s p ∷ []) e
shift_take done s k (suc i) (p ∷ ps) h =
    let e : suc k + i ≡ k + suc i = omega arith in
    ap (λ rest. shifted (done k) s p ∷ rest) (shift_take done s (suc k) i ps (omega (arith, h)) ∙ ap (λ j. shift_from done s (suc k) (take i ps) ++ shifted (done j) s (spot_at ps i) ∷ []) e)

pub shift_step : (done : ℕ → Bool) (s i : ℕ) (spots : List Spot) → i < length spots → shift_from done s 0 (take i spots) ++ shifted (done i) s (spot_at spots i) ∷ [] ≡ shift_from done s 0 (take (i + 1) spots)
shift_step done s i spots h =
    let e : suc i ≡ i + 1 = omega arith in
    let f : 0 + i ≡ i = omega arith in
    ap (λ j. shift_from done s 0 (take i spots) ++ shifted (done j) s (spot_at spots i) ∷ []) (sym f) ∙ sym (shift_take done s 0 i spots h) ∙ ap (λ j. shift_from done s 0 (take j spots)) e

pub shift_few : (done : ℕ → Bool) (s i : ℕ) (spots moved : List Spot) → moved ≡ shift_from done s 0 (take i spots) → i < length spots → length moved ≤ i
shift_few done s i spots moved is h =
    let size : length moved ≡ length (take i spots) = ap length is ∙ shift-length done s 0 (take i spots) in
    let few : length (take i spots) ≤ i = grind (arith, common_steps) in
    omega (arith, size, few)

pub shift_next : (done : ℕ → Bool) (s i : ℕ) (spots moved longer : List Spot) (p : Spot) → moved ≡ shift_from done s 0 (take i spots) → i < length spots → longer ≡ moved ++ p ∷ [] → p ≡ shifted (done i) s (spot_at spots i) → longer ≡ shift_from done s 0 (take (i + 1) spots)
shift_next done s i spots moved longer p is h more at =
    more ∙ ap (λ xs. xs ++ p ∷ []) is ∙ ap (λ q. shift_from done s 0 (take i spots) ++ q ∷ []) at ∙ shift_step done s i spots h
