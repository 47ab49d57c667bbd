-- Where there is a legal plan, each ship fits some chamber.
use Rattle.std.proofs.Common.{ℕ, suc, ◌≡◌, ◌≤◌, ◌<◌, List, [], ◌∷◌, length, All, slice_index_or, subst, refl, inl, inr, arith}
use Rattle.std.proofs.lemmas.Bool.Decides.{eqb_tells, leb_tells}
use Rattle.std.proofs.lemmas.List.Elements.{All-head, All-tail}
use Rattle.lock_model.specs.Fleet.{ship_at, chamber_at}
use Rattle.lock_model.specs.Fitting.{FitsAlone}
use Rattle.lock_model.specs.declared.instance.Instance.{Instance}
use Rattle.lock_model.specs.declared.plan.Lockage.{Lockage}
use Rattle.lock_model.specs.declared.plan.Plan.{Plan}
use Rattle.lock_rules.specs.Plan.{times_in, served_in, IsLegalLockage, IsLegal}
use Rattle.lock_rules.specs.Unfit.{FitsSome, HasNoUnfit}
use Rattle.lock_rules.proofs.TreeLemmas.{times_in-miss}
use Rattle.lock_rules.proofs.BoundLemmas.{fits_alone-placed}
use Rattle.lock_rules.proofs.CutLemmas.{fits_alone-tells}

-- a place of a number that stands in a list
place_of : (xs : List ℕ) (s : ℕ) → 1 ≤ times_in xs s → (k : ℕ) × (k < length xs) × (slice_index_or xs k 0 ≡ s)
place_of [] s some = absurd (omega (arith, some))
place_of (x ∷ xs) s some = elim (eqb_tells x s) [
  | inl same ↦ (0, omega arith, same.1)
  | inr other ↦
      let rest = place_of xs s (omega (arith, some, times_in-miss s x xs other.0)) in
      (suc rest.0, omega (arith, rest.1), rest.2)
]

fits_served : (I : Instance) (ls : List Lockage) (s : ℕ) → All (IsLegalLockage I) ls → 1 ≤ served_in ls s → FitsSome I s
fits_served I [] s legal some = absurd (omega (arith, some))
fits_served I (l ∷ ls) s legal some =
    let own : IsLegalLockage I l = All-head (IsLegalLockage I) l ls legal in
    elim (leb_tells 1 (times_in l.ships s)) [
      | inl here ↦
          let place = place_of l.ships s here.1 in
          let fits = (fits_alone-tells I (slice_index_or l.ships place.0 0) l.chamber).0 (fits_alone-placed I l.chamber l refl own place.0 0 place.1) in
          record { chamber = l.chamber; known = own.chamber; fits = subst (λ t. FitsAlone (chamber_at I l.chamber) (ship_at I t)) place.2 fits }
      | inr later ↦ fits_served I ls s (All-tail (IsLegalLockage I) l ls legal) (omega (arith, some, later.1))
    ]

pub legal_fits : (I : Instance) (P : Plan) → IsLegal I P → HasNoUnfit I
legal_fits I P legal = record {
  fit = λ s known.
      let once = legal.once s known in
      fits_served I P.lockages s legal.lockage (omega (arith, once));
}
