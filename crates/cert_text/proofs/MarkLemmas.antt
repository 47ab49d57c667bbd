-- Marks are read back, and a whole certificate is read without open leaves.
use Rattle.std.proofs.Common.{◌≡◌, ◌∙◌, ◌+◌, ◌-◌, ◌<◌, ◌^◌, ◌++◌, ℕ, Bool, true, false, cond, List, [], ◌∷◌, Option, Some, None, refl, ap, subst, arith, option_map, ◌⊎◌, inl, inr, All}
use Rattle.std.proofs.lemmas.List.Elements.{All-head, All-tail, All-cons, All-nil}
use Rattle.std.proofs.lemmas.Option.{none-some, same_Some}
use Rattle.std.specs.Prelude.{◌==◌, ◌&&◌, not, ⊤}
use Rattle.std.proofs.lemmas.Bool.Decides.{nat_tests}
use Rattle.std.proofs.lemmas.Bool.{lt-ltb}
use Rattle.lock_model.specs.Limits.{is_between}
use Rattle.closing_rules.specs.declared.grounds.Ground.TheVariants.{Bound, Throughput, Probe, Cut, Price, Swept}
use Rattle.certificate_rules.specs.declared.certificate.Mark.{Mark}
use Rattle.certificate_rules.specs.declared.certificate.Mark.TheVariants.{Split, Leaf, Open, OpenPriced}
use Rattle.certificate_rules.specs.Certificates.{IsNoOpenLeaf, HasNoOpenLeaf}
use Rattle.certificate_rules.specs.declared.numbering.Numbering.{Numbering}
use Rattle.certificate_rules.specs.declared.numbering.Numbering.TheVariants.{Few, Many}
use Rattle.certificate_rules.specs.WellFormed.{probed_ships, IsFormedMark}
use Rattle.serde_json.specs.Data.{Data, Items, no_items, item}
use Rattle.cert_text.specs.Steps.{◌>>=◌}
use Rattle.cert_text.specs.Fields.{number_data, number_in, number_below}
use Rattle.serde_json.specs.Find.{as_array}
use Rattle.cert_text.specs.Trees.{listed, begun_behind, marks_in, tree_in}
use Rattle.cert_text.specs.declared.heading.Form.{Form}
use Rattle.cert_text.specs.declared.heading.Form.TheVariants as form
use Rattle.cert_text.specs.declared.heading.Version.{Version}
use Rattle.cert_text.specs.declared.heading.Version.TheVariants.{First, Second, Third, Fourth}
use Rattle.cert_text.specs.declared.marks.PriceMark.{PriceMark}
use Rattle.cert_text.specs.declared.marks.PriceMark.TheVariants as pair
use Rattle.cert_text.specs.declared.marks.Told.{Told}
use Rattle.cert_text.specs.declared.marks.Told.TheVariants.{Ended, Begun}
use Rattle.cert_text.specs.Marks.{first_cut_mark, first_number, has_mark, is_in_form, mark_numbers, IsOf, AreOf, naming_mark, mark_of, begins, begun_by, naming_prices, told_first, mark_in, is_later}
use Rattle.cert_text.proofs.TreeLemmas.{ReadsFirst, ReadsMarks, one_number, two_numbers}

-- the mark is one number, or the first one of a kind and that of prices
abbrev Numbers : Form → Numbering → Version → Mark → Type 0
Numbers own numbering version m =
    ((n : ℕ) × (mark_numbers numbering m ≡ n ∷ []) × (mark_in own numbering version None (number_data n) ≡ Some (Ended m)))
    ⊎ ((kind : PriceMark) × (v : ℕ) × (mark_numbers numbering m ≡ first_number kind ∷ v ∷ [])
    × (mark_in own numbering version None (number_data (first_number kind)) ≡ Some (Begun kind))
    × (mark_in own numbering version (Some kind) (number_data v) ≡ Some (Ended m)))

above : (n m : ℕ) → m < n → (n == m) ≡ false
above n m less = grind (arith, nat_tests)

module _ (own : Form) (numbering : Numbering) (version : Version) where
  -- what a number says that isn't the second of two
  abbrev told : ℕ → Option Told
  told n = mark_in own numbering version None (number_data n)

  split_told : told 0 ≡ Some (Ended Split)
  unfolding mark_in mark_of
  split_told = refl

  bound_told : told 1 ≡ Some (Ended (Leaf Bound))
  unfolding mark_in mark_of
  bound_told = refl

  throughput_told : told 2 ≡ Some (Ended (Leaf Throughput))
  unfolding mark_in mark_of
  throughput_told = refl

  -- a number above 9
  told_above : (n : ℕ) → 9 < n → told n ≡ option_map Ended (naming_mark numbering n)
  unfolding mark_in mark_of
  told_above n high =
      rw (above n 4 (omega (arith, high)), above n 5 (omega (arith, high)), above n 6 (omega (arith, high)), above n 0 (omega (arith, high)), above n 1 (omega (arith, high)), above n 2 (omega (arith, high)), above n 3 (omega (arith, high))) refl

  priced_told : (kind : PriceMark) (v : ℕ) → v < 2 ^ 63 → mark_in own numbering version (Some kind) (number_data v) ≡ Some (Ended (naming_prices kind v))
  unfolding mark_in
  priced_told kind v low =
      let small : v < 9223372036854775808 = omega (arith, low) in
      rw (lt-ltb v 9223372036854775808 small) refl

open_told : (numbering : Numbering) (version : Version) → mark_in form.Open numbering version None (number_data 3) ≡ Some (Ended Open)
unfolding mark_in mark_of
open_told numbering version = refl

-- a kind of marks that the version and the form have
kind_begun : (own : Form) (numbering : Numbering) (version : Version) (kind : PriceMark) → not (has_mark version kind) ≡ false → is_in_form kind own ≡ true → mark_in own numbering version None (number_data (first_number kind)) ≡ Some (Begun kind)
unfolding mark_in
kind_begun own numbering First kind has suits = absurd cc
kind_begun own numbering Second kind has suits = absurd cc
kind_begun own numbering Third pair.Reached has suits = refl
kind_begun own numbering Third pair.Swept has suits = absurd cc
kind_begun own numbering Third pair.Shown has suits = absurd cc
kind_begun own numbering Fourth pair.Reached has suits = refl
kind_begun own numbering Fourth pair.Swept has suits = refl
kind_begun form.Whole numbering Fourth pair.Shown has suits = absurd cc
kind_begun form.Open numbering Fourth pair.Shown has suits = refl

probe_named : (numbering : Numbering) (s : ℕ) → s < probed_ships numbering → naming_mark numbering (10 + s) ≡ Some (Leaf (Probe s))
unfolding naming_mark
probe_named numbering s low =
    let in_range : is_between 10 (9 + probed_ships numbering) (10 + s) ≡ true = grind (arith, nat_tests) in
    let back : (10 + s) - 10 ≡ s = omega arith in
    rw (in_range, back) refl

-- the last probe is below the first cut
probes_low : (numbering : Numbering) → 9 + probed_ships numbering < first_cut_mark numbering
probes_low Few = omega arith
probes_low Many = omega arith

cut_named : (numbering : Numbering) (c : ℕ) → c < 2 ^ 63 → naming_mark numbering (first_cut_mark numbering + c) ≡ Some (Leaf (Cut c))
unfolding naming_mark
cut_named numbering c low =
    let first = first_cut_mark numbering in
    let probed = probed_ships numbering in
    let past : 9 + probed < first = probes_low numbering in
    let out : is_between 10 (9 + probed) (first + c) ≡ false = grind (arith, nat_tests) in
    let in_range : is_between first (9223372036854775807 + first) (first + c) ≡ true = grind (arith, nat_tests) in
    let back : (first + c) - first ≡ c = omega arith in
    rw (out, in_range, back) refl

module _ (own : Form) (numbering : Numbering) (version : Version) where
  probe_told : (s : ℕ) → s < probed_ships numbering → told own numbering version (10 + s) ≡ Some (Ended (Leaf (Probe s)))
  probe_told s low = told_above own numbering version (10 + s) (omega arith) ∙ ap (option_map Ended) (probe_named numbering s low)

  cut_told : (c : ℕ) → c < 2 ^ 63 → told own numbering version (first_cut_mark numbering + c) ≡ Some (Ended (Leaf (Cut c)))
  cut_told c low =
      let past = probes_low numbering in
      told_above own numbering version (first_cut_mark numbering + c) (omega (arith, past)) ∙ ap (option_map Ended) (cut_named numbering c low)

-- one of this form that may be written down, in a version that has it
mark_told : (own : Form) (numbering : Numbering) (version : Version) (m : Mark) → IsFormedMark numbering m → IsOf own m → is_later version m ≡ false → Numbers own numbering version m
unfolding mark_numbers is_later
mark_told own numbering version Split formed kind has = inl (0, refl, split_told own numbering version)
mark_told own numbering version (Leaf Bound) formed kind has = inl (1, refl, bound_told own numbering version)
mark_told own numbering version (Leaf Throughput) formed kind has = inl (2, refl, throughput_told own numbering version)
mark_told own numbering version (Leaf (Probe s)) formed kind has = inl (10 + s, refl, probe_told own numbering version s formed)
mark_told own numbering version (Leaf (Cut c)) formed kind has = inl (first_cut_mark numbering + c, refl, cut_told own numbering version c formed)
mark_told own numbering version (Leaf (Price v)) formed kind has = inr (pair.Reached, v, refl, kind_begun own numbering version pair.Reached has refl, priced_told own numbering version pair.Reached v formed)
mark_told own numbering version (Leaf (Swept v)) formed kind has = inr (pair.Swept, v, refl, kind_begun own numbering version pair.Swept has refl, priced_told own numbering version pair.Swept v formed)
mark_told form.Whole numbering version Open formed kind has = absurd kind
mark_told form.Open numbering version Open formed kind has = inl (3, refl, open_told numbering version)
mark_told form.Whole numbering version (OpenPriced v) formed kind has = absurd kind
mark_told form.Open numbering version (OpenPriced v) formed kind has = inr (pair.Shown, v, refl, kind_begun form.Open numbering version pair.Shown has refl, priced_told form.Open numbering version pair.Shown v formed)

mark_back : (own : Form) (numbering : Numbering) (version : Version) (m : Mark) → Numbers own numbering version m → ReadsFirst (mark_in own numbering version) (mark_numbers numbering) m
mark_back own numbering version m (inl one) = one_number (mark_in own numbering version) (mark_numbers numbering) m one.0 one.1 one.2
mark_back own numbering version m (inr two) = two_numbers (mark_in own numbering version) (mark_numbers numbering) m two.0 (first_number two.0) two.1 two.2 two.3 two.4

module _ (numbering : Numbering) where
  abbrev pub IsFormedOf : Form → Mark → Type 0
  IsFormedOf own m = IsFormedMark numbering m × IsOf own m

  pub marks_back : (own : Form) → ReadsMarks (IsFormedOf own) (mark_numbers numbering) (mark_in own numbering)
  marks_back own = record { each = λ version m formed has. mark_back own numbering version m (mark_told own numbering version m formed.0 formed.1 has) }

  pub formed_of : (own : Form) (marks : List Mark) → All (IsFormedMark numbering) marks → AreOf own marks → All (IsFormedOf own) marks
  formed_of own [] formed kind = All-nil (IsFormedOf own)
  formed_of form.Whole (m ∷ ms) formed kind =
      All-cons (IsFormedOf form.Whole) m ms (All-head (IsFormedMark numbering) m ms formed, kind.0)
      (formed_of form.Whole ms (All-tail (IsFormedMark numbering) m ms formed) kind.1)
  formed_of form.Open (m ∷ ms) formed kind =
      All-cons (IsFormedOf form.Open) m ms (All-head (IsFormedMark numbering) m ms formed, tt)
      (formed_of form.Open ms (All-tail (IsFormedMark numbering) m ms formed) tt)

-- ---- no whole certificate has an open leaf

abbrev NamesNone : Option Mark → Type 0
NamesNone None = ⊤
NamesNone (Some m) = IsNoOpenLeaf m

-- no open leaf is begun
abbrev BeginsNone : Option PriceMark → Type 0
BeginsNone None = ⊤
BeginsNone (Some kind) = is_in_form kind form.Whole ≡ true

abbrev TellsNone : Option Told → Type 0
TellsNone None = ⊤
TellsNone (Some (Ended m)) = IsNoOpenLeaf m
TellsNone (Some (Begun kind)) = is_in_form kind form.Whole ≡ true

either : {X : Type 0} (P : X → Type 0) (t : Bool) (x y : X) → P x → P y → P (cond t x y)
either P true x y h k = h
either P false x y h k = k

outside : (is has : Bool) → (is && (has && false)) ≡ false
outside false has = refl
outside true false = refl
outside true true = refl

first_none : (begun : Option PriceMark) (o : Option Mark) → BeginsNone begun → NamesNone o → TellsNone (told_first begun o)
first_none (Some kind) o whole h = whole
first_none None None whole h = tt
first_none None (Some m) whole h = h

begun_none : (version : Version) (n : ℕ) → BeginsNone (begun_by form.Whole version n)
begun_none version n =
    either BeginsNone (begins form.Whole version pair.Reached n) (Some pair.Reached) _ refl
    (either BeginsNone (begins form.Whole version pair.Swept n) (Some pair.Swept) _ refl (shown_none version (n == 6)))
  where
    shown_none : (version : Version) (is : Bool) → BeginsNone (cond (is && (has_mark version pair.Shown && false)) (Some pair.Shown) None)
    shown_none version is = rw (outside is (has_mark version pair.Shown)) tt

module _ (numbering : Numbering) where
  naming_none : (n : ℕ) → NamesNone (naming_mark numbering n)
  unfolding naming_mark
  naming_none n =
      either NamesNone (is_between 10 (9 + probed_ships numbering) n) (Some (Leaf (Probe (n - 10)))) _ tt
      (either NamesNone (is_between (first_cut_mark numbering) (9223372036854775807 + first_cut_mark numbering) n) (Some (Leaf (Cut (n - first_cut_mark numbering)))) None tt tt)

  number_none : (n : ℕ) → NamesNone (mark_of form.Whole numbering n)
  unfolding mark_of
  number_none n =
      either NamesNone (n == 0) (Some Split) _ tt
      (either NamesNone (n == 1) (Some (Leaf Bound)) _ tt
      (either NamesNone (n == 2) (Some (Leaf Throughput)) _ tt
      (either NamesNone (n == 3) None _ tt (naming_none n))))

  told_none : (version : Version) (begun : Option PriceMark) (d : Data) → BeginsNone begun → TellsNone (mark_in form.Whole numbering version begun d)
  unfolding mark_in
  told_none version (Some kind) d whole = priced kind (number_below 9223372036854775808 d) whole
    where
      priced : (kind : PriceMark) (o : Option ℕ) → is_in_form kind form.Whole ≡ true → TellsNone (option_map Ended (o >>= λ number. Some (naming_prices kind number)))
      priced kind None whole = tt
      priced pair.Reached (Some v) whole = tt
      priced pair.Swept (Some v) whole = tt
      priced pair.Shown (Some v) whole = absurd cc
  told_none version None d whole = first (number_in d)
    where
      first : (o : Option ℕ) → TellsNone (o >>= λ n. told_first (begun_by form.Whole version n) (mark_of form.Whole numbering n))
      first None = tt
      first (Some n) = first_none (begun_by form.Whole version n) (mark_of form.Whole numbering n) (begun_none version n) (number_none n)

  marks_whole : (version : Version) (begun : Option PriceMark) (items : Items) (marks : List Mark) → BeginsNone begun → marks_in (mark_in form.Whole numbering version) begun items ≡ Some marks → HasNoOpenLeaf marks
  marks_whole version (Some kind) no_items marks whole e = absurd (none-some marks e)
  marks_whole version None no_items marks whole e = subst HasNoOpenLeaf (same_Some [] marks e) tt
  marks_whole version begun (item d more) marks whole e = by_first (λ b ms w g. marks_whole version b more ms w g) (mark_in form.Whole numbering version begun d) (told_none version begun d whole) e
    where
      by_rest : (told : Told) (rest : Option (List Mark)) → TellsNone (Some told) → ((ms : List Mark) → rest ≡ Some ms → HasNoOpenLeaf ms) → (rest >>= λ ms. Some (listed told ++ ms)) ≡ Some marks → HasNoOpenLeaf marks
      by_rest told None h later f = absurd (none-some marks f)
      by_rest (Begun kind) (Some ms) h later f = subst HasNoOpenLeaf (same_Some ms marks f) (later ms refl)
      by_rest (Ended m) (Some ms) h later f = subst HasNoOpenLeaf (same_Some (m ∷ ms) marks f) (h, later ms refl)

      behind : (told : Told) → TellsNone (Some told) → BeginsNone (begun_behind told)
      behind (Ended m) h = tt
      behind (Begun kind) h = h

      by_first : ((b : Option PriceMark) (ms : List Mark) → BeginsNone b → marks_in (mark_in form.Whole numbering version) b more ≡ Some ms → HasNoOpenLeaf ms) → (o : Option Told) → TellsNone o → (o >>= λ told. marks_in (mark_in form.Whole numbering version) (begun_behind told) more >>= λ ms. Some (listed told ++ ms)) ≡ Some marks → HasNoOpenLeaf marks
      by_first again None h f = absurd (none-some marks f)
      by_first again (Some told) h f = by_rest told (marks_in (mark_in form.Whole numbering version) (begun_behind told) more) h (λ ms g. again (begun_behind told) ms (behind told h) g) f

  pub tree_whole : (version : Version) (d : Data) (marks : List Mark) → tree_in (mark_in form.Whole numbering version) d ≡ Some marks → HasNoOpenLeaf marks
  tree_whole version d marks e = by_items (as_array d) e
    where
      by_items : (items : Option Items) → (items >>= λ them. marks_in (mark_in form.Whole numbering version) None them) ≡ Some marks → HasNoOpenLeaf marks
      by_items None f = absurd (none-some marks f)
      by_items (Some them) f = marks_whole version None them marks tt f
