-- What the certificate of a book is, and its low; which books have one that leaves no node open.
use Rattle.std.specs.Prelude.{ℕ, ◌≡◌, ◌<◌, ◌≤◌, true, false, length, map, min}
use Rattle.lock_model.specs.declared.instance.Instance.{Instance}
use Rattle.lock_model.specs.declared.verdict.Verdict.{Verdict}
use Rattle.lock_model.specs.declared.verdict.Verdict.TheVariants as verdict
use Rattle.book_rules.specs.declared.book.SlotState.TheVariants as slot
use Rattle.refute_rules.specs.Cuts.{Cut}
use Rattle.book_rules.specs.Book.{Book, slot_at, best_cost, is_live}
use Rattle.book_rules.specs.Verdict.{verdict_of}
use Rattle.closing_rules.specs.ProvedCuts.{CertCut}
use Rattle.certificate_rules.specs.Certificates.{Certificate}
use Rattle.certificate_rules.specs.Low.{IsTreeShowing}
use Rattle.book_certificate.specs.Preorder.{mark_at, slots_in_order}

-- slot `id` is open, held or parked
pub record IsLive (b : Book) (id : ℕ) : Type 0 where
  pub known : id < length b.slots
  pub live : is_live (slot_at b id).state ≡ true

-- some slot is open, held or parked
pub record HasLive (b : Book) : Type 0 where
  pub id : ℕ
  pub is : IsLive b id

-- each slot is split or closed
pub record HasNoLive (b : Book) : Type 0 where
  pub none : (id : ℕ) → id < length b.slots → is_live (slot_at b id).state ≡ false

-- a cut of a book as one of a certificate, which names no deck
abbrev pub cert_cut : Cut → CertCut
cert_cut cut = record { chamber = cut.chamber; ships = cut.ships; refutation = cut.refutation }

-- The certificate has the best plan with its cost, all cuts and prices in order, and the marks of all slots in preorder.
pub record IsCertificateOf (b : Book) (C : Certificate) : Type 0 where
  pub cost : C.cost ≡ best_cost b
  pub cuts : C.cuts ≡ map cert_cut b.cuts
  pub plan : C.plan ≡ b.best
  pub prices : C.prices ≡ b.prices
  pub marks : C.tree ≡ map (mark_at b) (slots_in_order b)

-- the best cost, or a low of the verdict that is less
abbrev pub certified_low : ℕ → Verdict → ℕ
certified_low cost verdict.Optimal = cost
certified_low cost (verdict.OpenNodes used low) = min low cost
certified_low cost (verdict.OpenTurns chamber ships turns low) = min low cost

-- The certificate shows this number: it is no more than its cost, and each open leaf shows it, so the low of the certificate is no less.
pub record ProvesLow (I : Instance) (C : Certificate) (low : ℕ) : Type 0 where
  pub most : low ≤ C.cost
  pub shown : IsTreeShowing I C low

-- it shows the best cost, or a low of the verdict that is less
abbrev pub ProvesVerdict : Book → Certificate → Type 0
ProvesVerdict b C = ProvesLow b.case.instance C (certified_low (best_cost b) (verdict_of b))

-- Where a slot is Fresh, there are more marks than the book has used nodes.
pub record HasMoreMarks (b : Book) (C : Certificate) : Type 0 where
  pub more : (id : ℕ) → id < length b.slots → (slot_at b id).state ≡ slot.Fresh → b.used < length C.tree
