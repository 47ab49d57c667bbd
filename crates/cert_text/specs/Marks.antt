-- Marks as numbers.
use Rattle.std.specs.Prelude.{ℕ, ◌+◌, ◌-◌, ◌==◌, ◌&&◌, not, Bool, true, false, List, [], ◌∷◌, Option, None, Some, option_map, if◌then◌else◌, ⊤}
use Rattle.lock_model.specs.Limits.{is_between}
use Rattle.closing_rules.specs.declared.grounds.Ground.{Ground}
use Rattle.closing_rules.specs.declared.grounds.Ground.TheVariants.{Bound, Throughput, Probe, Cut, Price, Swept}
use Rattle.certificate_rules.specs.declared.certificate.Mark.{Mark}
use Rattle.certificate_rules.specs.declared.certificate.Mark.TheVariants.{Split, Leaf, Open, OpenPriced}
use Rattle.certificate_rules.specs.declared.numbering.Numbering.{Numbering}
use Rattle.certificate_rules.specs.declared.numbering.Numbering.TheVariants.{Few, Many}
use Rattle.certificate_rules.specs.Certificates.{IsNoOpenLeaf, HasNoOpenLeaf}
use Rattle.certificate_rules.specs.WellFormed.{probed_ships}
use Rattle.serde_json.specs.Data.{Data}
use Rattle.cert_text.specs.declared.heading.Form.{Form}
use Rattle.cert_text.specs.declared.heading.Form.TheVariants as form
use Rattle.cert_text.specs.declared.heading.Version.{Version}
use Rattle.cert_text.specs.declared.heading.Version.TheVariants.{First, Second, Third, Fourth}
use Rattle.cert_text.specs.declared.marks.PriceMark.{PriceMark}
use Rattle.cert_text.specs.declared.marks.PriceMark.TheVariants as pair
use Rattle.cert_text.specs.declared.marks.Told.{Told}
use Rattle.cert_text.specs.declared.marks.Told.TheVariants.{Ended, Begun}
use Rattle.cert_text.specs.Steps.{◌>>=◌}
use Rattle.cert_text.specs.Fields.{number_in, number_below}

-- the number of the first cut, above those of all probes
abbrev pub first_cut_mark : Numbering → ℕ
first_cut_mark Few = 100
first_cut_mark Many = 1000

-- the first of the two numbers of a mark that names prices
abbrev pub first_number : PriceMark → ℕ
first_number pair.Reached = 4
first_number pair.Swept = 5
first_number pair.Shown = 6

-- the version has marks of this kind
abbrev pub has_mark : Version → PriceMark → Bool
has_mark First kind = false
has_mark Second kind = false
has_mark Third pair.Reached = true
has_mark Third pair.Swept = false
has_mark Third pair.Shown = false
has_mark Fourth kind = true

-- marks of this kind are in certificates of this form: an open leaf is a mark of an open one alone
abbrev pub is_in_form : PriceMark → Form → Bool
is_in_form pair.Reached own = true
is_in_form pair.Swept own = true
is_in_form pair.Shown form.Whole = false
is_in_form pair.Shown form.Open = true

abbrev pub ground_numbers : Numbering → Ground → List ℕ
ground_numbers numbering Bound = 1 ∷ []
ground_numbers numbering Throughput = 2 ∷ []
ground_numbers numbering (Probe s) = (10 + s) ∷ []
ground_numbers numbering (Cut c) = (first_cut_mark numbering + c) ∷ []
ground_numbers numbering (Price v) = first_number pair.Reached ∷ v ∷ []
ground_numbers numbering (Swept v) = first_number pair.Swept ∷ v ∷ []

unfoldable pub mark_numbers : Numbering → Mark → List ℕ
mark_numbers numbering Split = 0 ∷ []
mark_numbers numbering (Leaf why) = ground_numbers numbering why
mark_numbers numbering Open = 3 ∷ []
mark_numbers numbering (OpenPriced v) = first_number pair.Shown ∷ v ∷ []

-- an open leaf that names no prices is a mark of an open certificate alone
abbrev pub open_leaf : Form → Option Mark
open_leaf form.Whole = None
open_leaf form.Open = Some Open

abbrev pub IsOf : Form → Mark → Type 0
IsOf form.Whole m = IsNoOpenLeaf m
IsOf form.Open m = ⊤

abbrev pub AreOf : Form → List Mark → Type 0
AreOf form.Whole marks = HasNoOpenLeaf marks
AreOf form.Open marks = ⊤

-- The mark of a probe or a cut: the numbers between that of the last ship and that of the first cut are none, nor are those 2^63 and
-- more above the first cut.
unfoldable pub naming_mark : Numbering → ℕ → Option Mark
naming_mark numbering n =
    if is_between 10 (9 + probed_ships numbering) n then Some (Leaf (Probe (n - 10)))
    else (if is_between (first_cut_mark numbering) (9223372036854775807 + first_cut_mark numbering) n then Some (Leaf (Cut (n - first_cut_mark numbering))) else None)

-- The mark that is one number, in a certificate of this form: 4 to 9 are none, and 3 is one in an open one.
unfoldable pub mark_of : Form → Numbering → ℕ → Option Mark
mark_of own numbering n =
    if n == 0 then Some Split
    else (if n == 1 then Some (Leaf Bound)
    else (if n == 2 then Some (Leaf Throughput)
    else (if n == 3 then open_leaf own else naming_mark numbering n)))

-- this number begins a mark of this kind in certificates of this form and version
abbrev pub begins : Form → Version → PriceMark → ℕ → Bool
begins own version kind n = n == first_number kind && (has_mark version kind && is_in_form kind own)

-- the mark of two numbers that this number begins
abbrev pub begun_by : Form → Version → ℕ → Option PriceMark
begun_by own version n =
    if begins own version pair.Reached n then Some pair.Reached
    else (if begins own version pair.Swept n then Some pair.Swept
    else (if begins own version pair.Shown n then Some pair.Shown else None))

abbrev pub naming_prices : PriceMark → ℕ → Mark
naming_prices pair.Reached v = Leaf (Price v)
naming_prices pair.Swept v = Leaf (Swept v)
naming_prices pair.Shown v = OpenPriced v

-- the mark of the second number of two
abbrev pub second_in : PriceMark → Data → Option Mark
second_in kind d = do
  number ← number_below 9223372036854775808 d
  Some (naming_prices kind number)

-- a number that begins a mark of two ends none
abbrev pub told_first : Option PriceMark → Option Mark → Option Told
told_first (Some kind) mark = Some (Begun kind)
told_first None mark = option_map Ended mark

-- What a number of a tree says: the mark that it ends, or the one of two numbers that it begins. `begun` says which stands before it.
unfoldable pub mark_in : Form → Numbering → Version → Option PriceMark → Data → Option Told
mark_in own numbering version (Some kind) d = option_map Ended (second_in kind d)
mark_in own numbering version None d = do
  n ← number_in d
  told_first (begun_by own version n) (mark_of own numbering n)

-- a mark that the version doesn't have, but a later one
abbrev pub is_later_ground : Version → Ground → Bool
is_later_ground version Bound = false
is_later_ground version Throughput = false
is_later_ground version (Probe s) = false
is_later_ground version (Cut number) = false
is_later_ground version (Price number) = not (has_mark version pair.Reached)
is_later_ground version (Swept number) = not (has_mark version pair.Swept)

unfoldable pub is_later : Version → Mark → Bool
is_later version Split = false
is_later version (Leaf why) = is_later_ground version why
is_later version Open = false
is_later version (OpenPriced number) = not (has_mark version pair.Shown)
