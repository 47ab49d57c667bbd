-- Trees of marks are read back, and read from numbers one after the other.
use Rattle.std.proofs.Common.{◌≡◌, ◌∙◌, ◌++◌, ◌+◌, ◌<◌, ℕ, false, List, [], ◌∷◌, Option, Some, None, refl, sym, ap, append_assoc, append-nil, drop, get_or, length, map, take, option_map, All}
use Rattle.std.proofs.lemmas.List.{drop_more, map-append, take_more}
use Rattle.std.proofs.lemmas.Grind.{flat_map-append}
use Rattle.std.specs.List.{flat_map}
use Rattle.std.proofs.lemmas.List.Elements.{All-head, All-tail}
use Rattle.list_laws.proofs.Lists.{none-passes}
use Rattle.serde_json.specs.Data.{Data}
use Rattle.serde_json.specs.View.{view, items_of, items_view}
use Rattle.serde_json.specs.declared.value.Value.{Value}
use Rattle.certificate_rules.specs.declared.certificate.Mark.{Mark}
use Rattle.cert_text.specs.declared.heading.Version.{Version}
use Rattle.cert_text.specs.declared.marks.PriceMark.{PriceMark}
use Rattle.cert_text.specs.declared.marks.Told.{Told}
use Rattle.cert_text.specs.declared.marks.Told.TheVariants.{Ended, Begun}
use Rattle.cert_text.specs.Steps.{◌>>=◌}
use Rattle.cert_text.specs.Fields.{number_data}
use Rattle.cert_text.specs.Marks.{is_later}
use Rattle.cert_text.specs.Versions.{has_later}
use Rattle.cert_text.specs.Trees.{listed, begun_behind, marks_in, tree_data, tree_in}

module _ (told : Option PriceMark → Data → Option Told) where
  -- the marks that were found, and then those of the rest
  abbrev pub rest_told : List Mark → Option PriceMark → List Value → Option (List Mark)
  rest_told found begun more = option_map (λ ms. found ++ ms) (marks_in told begun (items_view more))

  -- the numbers of a mark are read as this mark, whatever follows
  pub record ReadsFirst (numbers : Mark → List ℕ) (m : Mark) : Type 0 where
    pub first : (more : List ℕ) → marks_in told None (items_of (map number_data (numbers m ++ more))) ≡ (marks_in told None (items_of (map number_data more)) >>= λ ms. Some (m ∷ ms))

  numbers_back : (numbers : Mark → List ℕ) (ms : List Mark) → All (ReadsFirst numbers) ms → marks_in told None (items_of (map number_data (flat_map numbers ms))) ≡ Some ms
  numbers_back numbers [] each = refl
  numbers_back numbers (m ∷ ms) each =
      (All-head (ReadsFirst numbers) m ms each).first (flat_map numbers ms) ∙ ap (λ o. o >>= λ ns. Some (m ∷ ns)) (numbers_back numbers ms (All-tail (ReadsFirst numbers) m ms each))

  -- a mark that is one number
  pub one_number : (numbers : Mark → List ℕ) (m : Mark) (n : ℕ) → numbers m ≡ n ∷ [] → told None (number_data n) ≡ Some (Ended m) → ReadsFirst numbers m
  one_number numbers m n one is = record { first = λ more. rw (one, is) refl }

  -- a mark that is two
  pub two_numbers : (numbers : Mark → List ℕ) (m : Mark) (kind : PriceMark) (n v : ℕ) → numbers m ≡ n ∷ v ∷ [] → told None (number_data n) ≡ Some (Begun kind) → told (Some kind) (number_data v) ≡ Some (Ended m) → ReadsFirst numbers m
  two_numbers numbers m kind n v two sign is = record { first = λ more. rw (two, sign) (rw is (joined (marks_in told None (items_of (map number_data more))))) }
    where
      joined : (o : Option (List Mark)) → ((o >>= λ ms. Some (m ∷ ms)) >>= λ ms. Some ms) ≡ (o >>= λ ms. Some (m ∷ ms))
      joined None = refl
      joined (Some ms) = refl

-- Marks are read back in a version that has them: each that is formed is.
pub record ReadsMarks (IsFormed : Mark → Type 0) (numbers : Mark → List ℕ) (told : Version → Option PriceMark → Data → Option Told) : Type 0 where
  pub each : (version : Version) (m : Mark) → IsFormed m → is_later version m ≡ false → ReadsFirst (told version) numbers m

pub tree_back : {IsFormed : Mark → Type 0} {numbers : Mark → List ℕ} {told : Version → Option PriceMark → Data → Option Told} → ReadsMarks IsFormed numbers told
    → (version : Version) (ms : List Mark) → All IsFormed ms → has_later version ms ≡ false → tree_in (told version) (tree_data numbers ms) ≡ Some ms
tree_back {numbers = numbers} {told = told} reads version ms formed plain =
    numbers_back (told version) numbers ms (λ k d low. reads.each version _ (formed k d low) (none-passes (is_later version) ms plain k d low))

-- one mark more is written behind others
pub marks_more : (numbers : Mark → List ℕ) (ms : List Mark) (i : ℕ) (m : Mark) → i < length ms
    → map number_data (flat_map numbers (take i ms)) ++ map number_data (numbers (get_or ms i m)) ≡ map number_data (flat_map numbers (take (i + 1) ms))
marks_more numbers ms i m low =
    let one : flat_map numbers (take (i + 1) ms) ≡ flat_map numbers (take i ms) ++ numbers (get_or ms i m) =
    ap (flat_map numbers) (take_more ms i m low) ∙ flat_map-append numbers (take i ms) (get_or ms i m ∷ []) ∙ ap (λ ns. flat_map numbers (take i ms) ++ ns) (append-nil (numbers (get_or ms i m))) in
    sym (map-append number_data (flat_map numbers (take i ms)) (numbers (get_or ms i m))) ∙ ap (map number_data) (sym one)

-- what was found stands before what a number lists
joined : (found more : List Mark) (o : Option (List Mark)) → option_map (λ ms. found ++ ms) (o >>= λ ms. Some (more ++ ms)) ≡ option_map (λ ms. (found ++ more) ++ ms) o
joined found more None = refl
joined found more (Some ms) = ap Some (sym (append_assoc found more ms))

-- of all numbers, the marks found of the first i, and then those of the rest
module _ (told : Option PriceMark → Data → Option Told) (vs : List Value) (found : List Mark) (begun : Option PriceMark) (i : ℕ) (whole : marks_in told None (items_view vs) ≡ rest_told told found begun (drop i vs)) where
  -- what the next number says, and then the rest
  abbrev from_next : Option Told → Option (List Mark)
  from_next o = option_map (λ ms. found ++ ms) (o >>= λ t. marks_in told (begun_behind t) (items_view (drop (i + 1) vs)) >>= λ ms. Some (listed t ++ ms))

  next_is : (o : Option PriceMark) (v : Value) → rest_told told found o (v ∷ drop (i + 1) vs) ≡ from_next (told o (view v))
  next_is None v = refl
  next_is (Some kind) v = refl

  with_next : (v : Value) → i < length vs → v ≡ get_or vs i v → marks_in told None (items_view vs) ≡ from_next (told begun (view v))
  with_next v low is = whole ∙ ap (rest_told told found begun) (drop_more vs i v low) ∙ next_is begun (get_or vs i v) ∙ ap (λ w. from_next (told begun (view w))) (sym is)

  pub told_more : (v : Value) (t : Told) (next : Option PriceMark) (new : List Mark) → i < length vs → v ≡ get_or vs i v → Some t ≡ told begun (view v) → next ≡ begun_behind t → new ≡ found ++ listed t
      → marks_in told None (items_view vs) ≡ rest_told told new next (drop (i + 1) vs)
  told_more v t next new low is said behind appended =
      with_next v low is ∙ ap from_next (sym said) ∙ joined found (listed t) (marks_in told (begun_behind t) (items_view (drop (i + 1) vs)))
      ∙ ap (λ ms. rest_told told ms (begun_behind t) (drop (i + 1) vs)) (sym appended) ∙ ap (λ o. rest_told told new o (drop (i + 1) vs)) (sym behind)

  pub told_none : (v : Value) → i < length vs → v ≡ get_or vs i v → None ≡ told begun (view v) → None ≡ marks_in told None (items_view vs)
  told_none v low is none = ap from_next none ∙ sym (with_next v low is)
