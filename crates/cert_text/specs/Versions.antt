-- The version that a certificate is written in: the first that has its parts.
use Rattle.std.specs.Prelude.{◌||◌, not, ◌==◌, Bool, true, false, List, length, if◌then◌else◌}
use Rattle.std.specs.List.{list_any}
use Rattle.refute_rules.specs.declared.refutation.Refutation.{Refutation}
use Rattle.refute_rules.specs.declared.refutation.Refutation.TheVariants as refutation
use Rattle.price_rules.specs.Prices.{PriceList}
use Rattle.closing_rules.specs.ProvedCuts.{CertCut}
use Rattle.certificate_rules.specs.Certificates.{Certificate}
use Rattle.cert_text.specs.declared.heading.Form.{Form}
use Rattle.cert_text.specs.declared.heading.Form.TheVariants as form
use Rattle.cert_text.specs.declared.heading.Version.{Version}
use Rattle.cert_text.specs.declared.heading.Version.TheVariants.{First, Second, Third, Fourth}
use Rattle.certificate_rules.specs.declared.certificate.Mark.{Mark}
use Rattle.cert_text.specs.Marks.{is_later}

abbrev pub has_prices : Version → Bool
has_prices First = false
has_prices Second = false
has_prices Third = true
has_prices Fourth = true

abbrev pub has_triples : Version → Bool
has_triples First = false
has_triples Second = false
has_triples Third = false
has_triples Fourth = true

-- its `why` begins with 5
abbrev pub is_by_clash : Refutation → Bool
is_by_clash (refutation.Quick q) = false
is_by_clash (refutation.Cases marks) = false
is_by_clash (refutation.Spots marks) = false
is_by_clash (refutation.Clash i j) = true
is_by_clash (refutation.Berths marks) = false

-- its `why` begins with 6
abbrev pub is_by_berths : Refutation → Bool
is_by_berths (refutation.Quick q) = false
is_by_berths (refutation.Cases marks) = false
is_by_berths (refutation.Spots marks) = false
is_by_berths (refutation.Clash i j) = false
is_by_berths (refutation.Berths marks) = true

-- a refutation of a later version
abbrev pub is_outside : Version → Refutation → Bool
is_outside First r = is_by_clash r || is_by_berths r
is_outside Second r = is_by_berths r
is_outside Third r = false
is_outside Fourth r = false

abbrev pub has_outside : Version → List CertCut → Bool
has_outside version = list_any (λ c. is_outside version c.refutation)

abbrev pub has_later : Version → List Mark → Bool
has_later version = list_any (is_later version)

-- some prices are of triples
abbrev pub name_triples : List PriceList → Bool
name_triples = list_any (λ p. not (length p.triples == 0))

-- a part that no version before the fourth has: a mark of a sweep or of an open leaf by prices, or triples
abbrev pub needs_fourth : List PriceList → List Mark → Bool
needs_fourth prices tree = has_later Third tree || name_triples prices

-- a part that no version before the third has: prices, a mark for them, or a berth tree
abbrev pub needs_third : List CertCut → List PriceList → Bool → Bool
needs_third cuts prices marked = not (length prices == 0) || (marked || has_outside Second cuts)

-- an open certificate is of the second version at least
abbrev pub needs_second : Form → List CertCut → Bool
needs_second form.Whole cuts = has_outside First cuts
needs_second form.Open cuts = true

unfoldable pub version_of : Form → Certificate → Version
version_of own C =
    if needs_fourth C.prices C.tree then Fourth
    else (if needs_third C.cuts C.prices (has_later Second C.tree) then Third
    else (if needs_second own C.cuts then Second else First))
