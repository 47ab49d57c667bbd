-- The work that an open certificate holds.
use Rattle.std.specs.Prelude.{ℕ, Bool, true, false, List, length, filter}
use Rattle.certificate_rules.specs.declared.certificate.Mark.{Mark}
use Rattle.certificate_rules.specs.declared.certificate.Mark.TheVariants as mark
use Rattle.closing_rules.specs.declared.grounds.Ground.TheVariants as by

-- neither a bound mark nor an open leaf
abbrev pub is_prior : Mark → Bool
is_prior mark.Open = false
is_prior (mark.OpenPriced number) = false
is_prior (mark.Leaf by.Bound) = false
is_prior m = true

-- how many marks are neither
abbrev pub prior_of : List Mark → ℕ
prior_of marks = length (filter is_prior marks)
