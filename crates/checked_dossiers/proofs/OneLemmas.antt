-- Bytes are one dossier of a form at most, and then have no fault.
use Rattle.std.proofs.Common.{ℕ, List, subst}
use Rattle.list_laws.proofs.Variants.{not-ok_and_err}
use Rattle.lock_model.specs.declared.instance.Instance.{Instance}
use Rattle.certificate_rules.specs.Certificates.{Certificate}
use Rattle.instance_text.specs.Draft.{draft_of}
use Rattle.cert_text.specs.declared.heading.Form.{Form}
use Rattle.cert_text.specs.Dossier.{Reads, DossierFault, dossier_in}
use Rattle.cert_text.specs.declared.bad.BadDossier.{BadDossier as AnyFault}
use Rattle.cert_text.proofs.PairLemmas.{one-meaning}

module _ (form : Form) (bytes : List ℕ) (I : Instance) (C : Certificate) where
  -- what is said of a dossier of the bytes, is said of any
  pub own_said : Reads form bytes I C → (P : Instance → Certificate → Type 0) (J : Instance) (D : Certificate) → Reads form bytes J D → P J D → P I C
  unfolding Reads
  own_said reads P J D other said =
      let same = one-meaning (dossier_in form bytes) J I D C other reads in
      subst (λ K. P K C) same.0 (subst (λ E. P J E) same.1 said)

  pub no_fault : Reads form bytes I C → (fault : AnyFault) → DossierFault form bytes fault → ⊥
  unfolding Reads DossierFault
  no_fault reads fault first = not-ok_and_err (dossier_in form bytes) (draft_of I, C) fault reads first
