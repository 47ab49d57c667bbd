-- The rounds of `normalise`.
use Rattle.std.proofs.Common.{◌≡◌, ℕ, zero, suc, ◌+◌, ◌<◌, ◌≤◌, List, [], ◌∷◌, length, cond, Bool, true, false, ◌||◌, inl, inr, refl, sym, ap, ◌∙◌, subst, arith, slice_set, true≢false}
use Rattle.std.proofs.lemmas.Bool.Decides.{eqb_tells}
use Rattle.std.proofs.lemmas.List.{get_or-set_same, get_or-set_other, length-set}
use Rattle.lock_model.specs.Deck.{Deck, IsDeck}
use Rattle.lock_model.specs.Placement.{IsLegalPlacement, spot_at}
use Rattle.lock_model.specs.Normal.{IsNormal}
use Rattle.lock_model.specs.declared.placement.Spot.{Spot}
use Rattle.deck_laws.specs.Rounds.{AreRooted, IsRound, with_done, free_count}
use Rattle.deck_laws.specs.Slack.{IsLeastSlack, done_in}
use Rattle.deck_laws.specs.Shift.{shift_from}
use Rattle.deck_laws.proofs.NormalLemmas.{move-legal, move-back, move-rooted, free-less, are-no-farther, same-no-farther, all-done}

few-free : (f : ℕ → Bool) (n : ℕ) → free_count f n ≤ n
few-free f zero = omega arith
few-free f (suc n) = one (f n) (few-free f n)
  where
    one : (c : Bool) → free_count f n ≤ n → cond c 0 1 + free_count f n ≤ suc n
    one true h = omega (arith, h)
    one false h = omega (arith, h)

none-free : (f : ℕ → Bool) (n : ℕ) → free_count f n ≤ 0 → (i : ℕ) → i < n → f i ≡ true
none-free f zero h i k = absurd (omega (arith, k))
none-free f (suc n) h i k =
    elim (eqb_tells i n) [
      | inl y ↦ ap f y.1 ∙ last (f n) h
      | inr m ↦ none-free f n (less (f n) h) i (omega (arith, k, m.1))
    ]
  where
    last : (c : Bool) → cond c 0 1 + free_count f n ≤ 0 → c ≡ true
    last true g = refl
    last false g = absurd (omega (arith, g))

    less : (c : Bool) → cond c 0 1 + free_count f n ≤ 0 → free_count f n ≤ 0
    less c g = omega (arith, g)

pub round_begun : (d : Deck) (spots : List Spot) (done : List Bool) → IsLegalPlacement d spots → done ≡ false ∷ false ∷ false ∷ false ∷ false ∷ false ∷ false ∷ false ∷ [] → IsRound d spots spots done 0
round_begun d spots done legal is = record {
  legal = legal;
  rooted = record { rooted = λ i ki e. absurd (true≢false (sym e ∙ ap (λ xs. done_in xs i) is ∙ all-false i)) };
  back = same-no-farther spots;
  few = (let few = few-free (done_in done) (length d.ships) in omega (arith, few));
  flags = ap length is;
}
  where
    all-false : (i : ℕ) → done_in (false ∷ false ∷ false ∷ false ∷ false ∷ false ∷ false ∷ false ∷ []) i ≡ false
    all-false zero = refl
    all-false (suc zero) = refl
    all-false (suc (suc zero)) = refl
    all-false (suc (suc (suc zero))) = refl
    all-false (suc (suc (suc (suc zero)))) = refl
    all-false (suc (suc (suc (suc (suc zero))))) = refl
    all-false (suc (suc (suc (suc (suc (suc zero)))))) = refl
    all-false (suc (suc (suc (suc (suc (suc (suc zero))))))) = refl
    all-false (suc (suc (suc (suc (suc (suc (suc (suc i)))))))) = refl

set-done : (done : List Bool) (ship i : ℕ) → ship < length done → done_in (slice_set done ship true) i ≡ with_done ship (done_in done) i
set-done done ship i h =
    elim (eqb_tells i ship) [
      | inl y ↦ ap (λ k. done_in (slice_set done ship true) k) y.1 ∙ get_or-set_same done ship true false h ∙ sym (ap (λ c. c || done_in done i) y.0)
      | inr n ↦ get_or-set_other done ship i true false n.1 ∙ sym (ap (λ c. c || done_in done i) n.0)
    ]

pub round_more : (d : Deck) (before spots after : List Spot) (done marked : List Bool) (k ship s : ℕ) → IsDeck d → IsRound d before spots done k → IsLeastSlack d spots (done_in done) ship s → after ≡ shift_from (done_in done) s 0 spots → marked ≡ slice_set done ship true → IsRound d before after marked (k + 1)
round_more d before spots after done marked k ship s limits old least is mark =
    let most = limits.count.1 in
    let known = least.known in
    let flags = old.flags in
    let here : ship < length done = omega (arith, most, known, flags) in
    let same : with_done ship (done_in done) ≡ done_in marked = λ t i. (sym (set-done done ship i here) ∙ sym (ap (λ xs. done_in xs i) mark)) t in
    let fewer = free-less (done_in done) ship (length d.ships) least.known least.free in
    let count : free_count (with_done ship (done_in done)) (length d.ships) ≡ free_count (done_in marked) (length d.ships) = ap (λ f. free_count f (length d.ships)) same in
    let few = old.few in
    subst (λ spots. IsRound d before spots marked (k + 1)) (sym is) (record {
      legal = move-legal d spots old.legal limits (done_in done) ship s least;
      rooted = subst (AreRooted d (shift_from (done_in done) s 0 spots)) same (move-rooted d spots old.legal limits (done_in done) ship s least old.rooted);
      back = are-no-farther before spots (shift_from (done_in done) s 0 spots) old.back (move-back d spots old.legal limits (done_in done) ship s least);
      few = omega (arith, few, fewer, count);
      flags = ap length mark ∙ length-set done ship true ∙ old.flags;
    })

-- no ship that isn't done moves past the near end
pub round_room : (d : Deck) (spots : List Spot) (done : List Bool) (ship s : ℕ) → IsLegalPlacement d spots → IsLeastSlack d spots (done_in done) ship s → (i : ℕ) → i < length spots → done_in done i ≡ false → s ≤ (spot_at spots i).x
round_room d spots done ship s legal least i here free =
    let counts = legal.count in
    let room = (least.room i (omega (arith, here, counts)) free).end in
    omega (arith, room)

pub round_stop : (d : Deck) (before spots : List Spot) (done : List Bool) (k : ℕ) → IsRound d before spots done k → ((i : ℕ) → i < length d.ships → done_in done i ≡ true) → IsNormal d spots
round_stop d before spots done k round all = all-done d spots (done_in done) round.legal round.rooted all

pub round_end : (d : Deck) (before spots : List Spot) (done : List Bool) (k : ℕ) → IsRound d before spots done k → length d.ships ≤ k → IsNormal d spots
round_end d before spots done k round whole =
    let few = round.few in
    round_stop d before spots done k round (none-free (done_in done) (length d.ships) (omega (arith, few, whole)))

-- the same over lists that were lent
pub round_next : (d : Deck) (before spots lent lent' after : List Spot) (done marked : List Bool) (k ship s : ℕ) → IsDeck d → IsRound d before spots done k → lent ≡ spots → lent' ≡ spots → IsLeastSlack d lent (done_in done) ship s → after ≡ shift_from (done_in done) s 0 lent' → marked ≡ slice_set done ship true → IsRound d before after marked (k + 1)
round_next d before spots lent lent' after done marked k ship s limits old same same' least is mark =
    round_more d before spots after done marked k ship s limits old (subst (λ xs. IsLeastSlack d xs (done_in done) ship s) same least) (is ∙ ap (shift_from (done_in done) s 0) same') mark
