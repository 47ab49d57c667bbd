-- What passages name is in the instance and in the plan.
use Rattle.std.proofs.Common.{ℕ, ◌≡◌, ◌+◌, ◌<◌, List, [], ◌∷◌, ◌++◌, ◌∙◌, ap, sym, subst, length, All, Bool, true, false, cond, refl}
use Rattle.std.proofs.lemmas.List.{length-map}
use Rattle.std.proofs.lemmas.List.Elements.{All-nil, All-cons, All-head, All-tail, All-get_or}
use Rattle.lock_model.specs.declared.instance.Instance.{Instance}
use Rattle.lock_model.specs.declared.plan.Plan.{Plan}
use Rattle.lock_model.specs.Fitting.{size_of}
use Rattle.lock_model.specs.Fleet.{ship_at}
use Rattle.lock_rules.specs.Lines.{lockage_at, no_lockage}
use Rattle.lock_rules.specs.Plan.{IsLegal, IsLegalLockage}
use Rattle.day_play.specs.Lawful.{IsWholeLockage}
use Rattle.day_play.specs.declared.beat.Beat.{Beat}
use Rattle.picture_page.specs.declared.passage.Passage.{Passage}
use Rattle.picture_page.specs.Passages.{is_go, passage_in, passages_from, IsKnownGo}
use Rattle.picture_page.specs.KnownPassages.{HasChamber, HasShips, IsKnown, AreKnown}

module _ (I : Instance) (P : Plan) (legal : IsLegal I P) (day : List Beat) where
  own : (place : ℕ) → place < length P.lockages → IsLegalLockage I (lockage_at P place)
  own place within = All-get_or (IsLegalLockage I) P.lockages place no_lockage within legal.lockage

  whole : (place : ℕ) → place < length P.lockages → IsWholeLockage I (lockage_at P place)
  whole place within =
      let l = lockage_at P place in
      let legal = own place within in
      record { chamber = legal.chamber; ships = legal.known; spots = legal.placed.count ∙ length-map l.ships (λ s. size_of (ship_at I s)) }

  -- what holds of the passage of each lockage of the plan holds of all passages
  all : (Q : Passage → Type 0) → ((number place : ℕ) → place < length P.lockages → Q (passage_in I day number place (lockage_at P place)))
      → (number : ℕ) (bs : List Beat) → All (IsKnownGo P) bs → All Q (passages_from I P day number bs)
  all Q each number [] known = All-nil Q
  all Q each number (b ∷ bs) known =
      let go = (All-head (IsKnownGo P) b bs known).known in
      let later = All-tail (IsKnownGo P) b bs known in
      step (is_go b.act) go (all Q each (number + 1) bs later) (all Q each number bs later)
    where
      step : (begins : Bool) → (begins ≡ true → b.lockage < length P.lockages) → All Q (passages_from I P day (number + 1) bs) → All Q (passages_from I P day number bs)
          → All Q (cond begins (passage_in I day number b.lockage (lockage_at P b.lockage) ∷ passages_from I P day (number + 1) bs) (passages_from I P day number bs))
      step true within more less = All-cons Q _ _ (each number b.lockage (within refl)) more
      step false within more less = less

  pub known-passages : (number : ℕ) (bs : List Beat) → All (IsKnownGo P) bs → AreKnown I P (passages_from I P day number bs)
  known-passages number bs known = record {
    chambers = all (HasChamber I) (λ n place within. record { chamber = (own place within).chamber }) number bs known;
    ships = all (HasShips I) (λ n place within. record { ships = (own place within).known }) number bs known;
    known = all (IsKnown I P) (λ n place within. record { chamber = (own place within).chamber; place = within; whole = whole place within }) number bs known;
  }

  -- so it is of passages that were appended to none
  pub known-after : (old new : List Passage) (number : ℕ) (bs : List Beat) → old ≡ [] → new ≡ old ++ passages_from I P day number bs → All (IsKnownGo P) bs → AreKnown I P new
  known-after old new number bs none made known =
      subst (λ (ps : List Passage). AreKnown I P ps) (sym (made ∙ ap (λ (ps : List Passage). ps ++ passages_from I P day number bs) none)) (known-passages number bs known)
