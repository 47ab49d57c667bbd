-- Cuts are read back.
use Rattle.std.proofs.Common.{◌≡◌, ℕ, List, Some, refl, subst}
use Rattle.serde_json.proofs.OnLiterals.{serde_json_on_literals}
use Rattle.refute_rules.specs.Why.{why_of}
use Rattle.refute_rules.specs.declared.refutation.Refutation.{Refutation}
use Rattle.closing_rules.specs.ProvedCuts.{CertCut}
use Rattle.cert_text.specs.Fields.{number_data, numbers_data, byte_in}
use Rattle.cert_text.specs.Ships.{ships_in}
use Rattle.cert_text.specs.Cuts.{cut_data, cut_in, why_in}

record_back : (c : CertCut) → byte_in (number_data c.chamber) ≡ Some c.chamber → ships_in (numbers_data c.ships) ≡ Some c.ships → why_in (numbers_data (why_of c.refutation)) ≡ Some c.refutation → cut_in (cut_data c) ≡ Some c
unfolding cut_in serde_json_on_literals
record_back c chamber ships why = rw (chamber, ships, why) refl

pub cut_back : (c : CertCut) (chamber : ℕ) (ships : List ℕ) (refutation : Refutation) → (let made : CertCut = record { chamber = chamber; ships = ships; refutation = refutation } in made ≡ c) → byte_in (number_data chamber) ≡ Some chamber → ships_in (numbers_data ships) ≡ Some ships → why_in (numbers_data (why_of refutation)) ≡ Some refutation → cut_in (cut_data c) ≡ Some c
cut_back c chamber ships refutation is chamber_back ships_back why_back =
    subst (λ k. cut_in (cut_data k) ≡ Some k) is (record_back (record { chamber = chamber; ships = ships; refutation = refutation }) chamber_back ships_back why_back)
