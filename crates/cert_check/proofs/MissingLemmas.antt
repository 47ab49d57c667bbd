-- The ships that a node lacks, as a list and one by one.
use Rattle.std.proofs.Common.{ℕ, List, ◌∙◌, arith, Contains}
use Rattle.std.proofs.lemmas.List.{get_or_default}
use Rattle.lock_model.specs.declared.instance.Instance.{Instance}
use Rattle.lock_model.specs.declared.group.Group.{Group}
use Rattle.lock_rules.specs.Node.{IsNode}
use Rattle.lock_rules.specs.Arrival.{missing_ships}
use Rattle.lock_rules.proofs.AmongLemmas.{times-contains}
use Rattle.flow_bounds.specs.Missing.{IsMissing}
use Rattle.flow_bounds.proofs.ProbeLemmas.{missing-once, among-missing}

pub missing-contains : (I : Instance) (k : ℕ) (lines : List (List Group)) (s : ℕ) → IsNode I k lines → IsMissing I lines s → Contains (missing_ships I k) s
missing-contains I k lines s node missing =
    let once = missing-once I k lines node s missing.known missing.absent in
    times-contains (missing_ships I k) s (omega (arith, once))

pub contains-missing : (I : Instance) (k : ℕ) (lines : List (List Group)) (s : ℕ) → IsNode I k lines → Contains (missing_ships I k) s → IsMissing I lines s
contains-missing I k lines s node among = among-missing I k lines node among.0 s among.1 (get_or_default (missing_ships I k) among.0 0 s among.1 ∙ among.2)
