-- What the open certificate of a search that ended well and open keeps.
use Rattle.std.proofs.Common.{ℕ, Bool, true, false, ◌≡◌, ◌≢◌, ◌<◌, ◌≤◌, ◌⊎◌, refl, List, length, sym, subst, ◌∙◌, inl, inr, arith, Some, None, cond, ◌||◌, min, true≢false}
use Rattle.std.specs.declared.option.Option.{Option}
use Rattle.std.proofs.lemmas.List.Folds.{Any-from_list_any}
use Rattle.std.proofs.lemmas.List.{get_or_default}
use Rattle.lock_model.specs.declared.instance.Instance.{Instance}
use Rattle.lock_model.specs.declared.verdict.Verdict.{Verdict}
use Rattle.lock_model.specs.declared.verdict.Verdict.TheVariants.{Optimal, OpenNodes, OpenTurns}
use Rattle.book_rules.specs.declared.book.SlotState.{SlotState}
use Rattle.book_rules.specs.declared.book.SlotState.TheVariants as slot
use Rattle.book_rules.specs.Book.{Book, Slot, no_slot, slot_at, best_cost, is_fresh, is_back, is_held, is_parked, has_slot, first_slot}
use Rattle.lock_rules.specs.Node.{Node}
use Rattle.book_rules.specs.Verdict.{low_of, parked_verdict, turns_verdict, verdict_of}
use Rattle.book_rules.specs.Ends.{HasNothingOpen, HoldsNothing, EndsWell, IsOpenLow, IsSpentBelow, IsEnd}
use Rattle.certificate_rules.specs.Certificates.{Certificate, Stands}
use Rattle.certificate_rules.specs.WellFormed.{IsWellFormed}
use Rattle.book_core.specs.Keeps.{IsSound}
use Rattle.book_certificate.specs.Certified.{IsCertificateOf, ProvesLow, certified_low, ProvesVerdict, HasMoreMarks}
use Rattle.cert_text.specs.Dossier.{dossier, Reads}
use Rattle.cert_text.specs.declared.heading.Form.TheVariants as form
use Rattle.solve_commands.specs.Searching.{search_in}
use Rattle.solve_commands.specs.Keeping.{SpendsNodes, SpendsTurns, IsKeptCertificate, PrintsKept}
use Rattle.solve_commands.proofs.EndLemmas.{book_ends, book_ended}

-- ---- a book with nothing open isn't left for want of nodes

no_three : (r s t : Bool) → (r || s || t) ≡ true → (r || s) ≡ false → t ≡ false → ⊥
no_three true s t some shut free = true≢false shut
no_three false true t some shut free = true≢false shut
no_three false false true some shut free = true≢false free
no_three false false false some shut free = true≢false (sym some)

parked_other : (b : Book) (node : Node) (s : SlotState) (used low : ℕ) → parked_verdict b node s ≡ OpenNodes used low → ⊥
parked_other b node (slot.Parked c p) used low e = cc
parked_other b node slot.Fresh used low e = cc
parked_other b node slot.Back used low e = cc
parked_other b node (slot.Held w) used low e = cc
parked_other b node (slot.Split first) used low e = cc
parked_other b node (slot.Closed why) used low e = cc

turns_other : (b : Book) (o : Option ℕ) (used low : ℕ) → turns_verdict b o ≡ OpenNodes used low → ⊥
turns_other b None used low e = cc
turns_other b (Some id) used low e = parked_other b (slot_at b id).node (slot_at b id).state used low e

shut_other : (b : Book) (used low : ℕ) → HasNothingOpen b → HoldsNothing b → verdict_of b ≡ OpenNodes used low → ⊥
shut_other b used low shut free is = by_test (has_slot b (λ state. is_fresh state || is_back state || is_held state)) refl is
  where
    by_test : (t : Bool) → has_slot b (λ state. is_fresh state || is_back state || is_held state) ≡ t → cond t (OpenNodes b.used (low_of b)) (turns_verdict b (first_slot b is_parked)) ≡ OpenNodes used low → ⊥
    by_test false none e = turns_other b (first_slot b is_parked) used low e
    by_test true some e =
        let any = Any-from_list_any (λ (s : Slot). is_fresh s.state || is_back s.state || is_held s.state) b.slots some in
        let at : slot_at b any.0 ≡ any.1 = get_or_default b.slots any.0 no_slot any.1 any.2 ∙ any.3 in
        let passes = subst (λ (s : Slot). (is_fresh s.state || is_back s.state || is_held s.state) ≡ true) (sym at) any.4 in
        no_three (is_fresh (slot_at b any.0).state) (is_back (slot_at b any.0).state) (is_held (slot_at b any.0).state) passes (shut.none any.0 any.2) (free.none any.0 any.2)

-- ---- the certificate of a book

module _ (b : Book) (limit : ℕ) (C : Certificate) (own : IsCertificateOf b C) (stands : Stands b.case.instance C) (formed : IsWellFormed b.case.instance C) where
  abbrev I : Instance
  I = b.case.instance

  -- it shows the low of the verdict, which is below the cost
  kept_low : (low : ℕ) → best_cost b ≤ limit → IsOpenLow I b.best low → ProvesLow I C (min low (best_cost b)) → SpendsNodes (search_in b limit) C ⊎ SpendsTurns (search_in b limit) C → IsKeptCertificate (search_in b limit) C
  kept_low low cost lower proves cause =
      let is = own.cost in
      let same : min low (best_cost b) ≡ low = let below = lower.below in omega (arith, below) in
      record {
        formed = formed;
        stands = stands;
        cost = omega (arith, cost, is);
        low = low;
        lower = subst (λ P. IsOpenLow I P low) (sym own.plan) lower;
        proves = subst (ProvesLow I C) same proves;
        cause = cause;
      }

  -- by the verdict
  by_verdict : (V : Verdict) → V ≢ Optimal → ((used low : ℕ) → V ≡ OpenNodes used low → b.case.nodes < length C.tree) → IsEnd I b.case.nodes b.case.turns limit b.best V → ProvesLow I C (certified_low (best_cost b) V) → IsKeptCertificate (search_in b limit) C
  by_verdict Optimal left marks end proves = absurd (left refl)
  by_verdict (OpenNodes used low) left marks end proves = kept_low low end.cost end.lower proves (inl (record { more = end.more; marks = marks used low refl }))
  by_verdict (OpenTurns chamber ships given low) left marks end proves =
      kept_low low end.cost end.lower proves (inr (record {
        chamber = chamber;
        ships = ships;
        named = subst (λ cost. IsSpentBelow I b.case.turns cost chamber ships) (sym own.cost) end.named;
        cheaper = λ Q legal cheaper. let is = own.cost in end.cheaper Q legal (omega (arith, cheaper, is));
      }))

  pub certificate_kept : IsSound b → EndsWell limit b → verdict_of b ≢ Optimal → ProvesVerdict b C → HasMoreMarks b C → IsKeptCertificate (search_in b limit) C
  certificate_kept sound well left proves more =
      by_verdict (verdict_of b) left marks (book_ends b limit (verdict_of b) refl sound well) proves
    where
      marks : (used low : ℕ) → verdict_of b ≡ OpenNodes used low → b.case.nodes < length C.tree
      marks used low is = elim well.left [
        | inl shut ↦ absurd (shut_other b used low shut well.free is)
        | inr spent ↦ let some = more.more spent.id spent.known spent.fresh in let used_up = spent.used in omega (arith, some, used_up)
      ]

-- the open dossier of that certificate
pub kept_prints : (b : Book) (limit : ℕ) (C : Certificate) (text : List ℕ) → IsSound b → EndsWell limit b → IsCertificateOf b C → IsKeptCertificate (search_in b limit) C
    → text ≡ dossier form.Open b.case.instance C → Reads form.Open text b.case.instance C → PrintsKept (search_in b limit) text
kept_prints b limit C text sound well own kept shown reads = record { ended = book_ended b limit sound well; certificate = C; own = own; kept = kept; shown = shown; reads = reads }
