-- A row of groups cut into lines: what a line is, and what an edit of the row does to the lines.
use Rattle.std.proofs.Common.{◌≡◌, ℕ, zero, suc, ◌+◌, ◌-◌, ◌<◌, ◌≤◌, List, [], ◌∷◌, length, map, take, drop, All, refl, sym, ap, ◌∙◌, subst, arith, slice_index_or, slice_set}
use Rattle.std.specs.List.{insert}
use Rattle.std.proofs.lemmas.List.{length-map, length-set, length-drop, drop-set-lt, drop-set-add, take-set-le}
use Rattle.std.proofs.lemmas.List.Edits.{length-insert}
use Rattle.std.proofs.lemmas.List.Elements.{All-head, All-tail}
use Rattle.std.proofs.Math.Seq.{take-set-lt}
use Rattle.lock_model.specs.declared.limits.TheConstants.{CHAMBERS}
use Rattle.lock_model.specs.declared.group.Group.{Group}
use Rattle.lock_rules.specs.Node.{line_at, size_held}
use Rattle.lock_rules.proofs.SizeLemmas.{groups-few}
use Rattle.master_branch.specs.Row.{part, cut_from, IsCutFrom, IsCutRow, start_from, raised, groups_held}
use Rattle.master_branch.specs.RowBack.{begins-within, length-part}

-- what an insertion does to the parts of a list
module _ {X : Type 0} where
  drop-insert : (n : ℕ) (xs : List X) (i j : ℕ) (y : X) → n ≤ length xs → j ≡ n + i → drop n (insert xs j y) ≡ insert (drop n xs) i y
  drop-insert zero xs i j y fits at = let same : j ≡ i = omega (arith, at) in ap (λ k. insert xs k y) same
  drop-insert (suc n) [] i j y fits at = absurd (omega arith)
  drop-insert (suc n) (x ∷ xs) i zero y fits at = absurd (omega (arith, at))
  drop-insert (suc n) (x ∷ xs) i (suc j) y fits at = drop-insert n xs i j y (omega (arith, fits)) (omega (arith, at))

  take-before-insert : (n : ℕ) (xs : List X) (i : ℕ) (y : X) → n ≤ i → i ≤ length xs → take n (insert xs i y) ≡ take n xs
  take-before-insert zero xs i y le within = refl
  take-before-insert (suc n) [] i y le within = absurd (omega (arith, le, within))
  take-before-insert (suc n) (x ∷ xs) zero y le within = absurd (omega arith)
  take-before-insert (suc n) (x ∷ xs) (suc i) y le within = ap (λ zs. x ∷ zs) (take-before-insert n xs i y (omega (arith, le)) (omega (arith, within)))

  take-insert : (n : ℕ) (xs : List X) (i : ℕ) (y : X) → i ≤ n → i ≤ length xs → take (suc n) (insert xs i y) ≡ insert (take n xs) i y
  take-insert n xs zero y le within = refl
  take-insert zero xs (suc i) y le within = absurd (omega arith)
  take-insert (suc n) [] (suc i) y le within = absurd (omega arith)
  take-insert (suc n) (x ∷ xs) (suc i) y le within = ap (λ zs. x ∷ zs) (take-insert n xs i y (omega (arith, le)) (omega (arith, within)))

  drop-behind-insert : (n : ℕ) (xs : List X) (i : ℕ) (y : X) → i ≤ n → i ≤ length xs → drop (suc n) (insert xs i y) ≡ drop n xs
  drop-behind-insert n xs zero y le within = refl
  drop-behind-insert zero xs (suc i) y le within = absurd (omega arith)
  drop-behind-insert (suc n) [] (suc i) y le within = absurd (omega arith)
  drop-behind-insert (suc n) (x ∷ xs) (suc i) y le within = drop-behind-insert n xs i y (omega (arith, le)) (omega (arith, within))

-- where line c of a row stands
pub record StandsAt (s : ℕ) (row : List Group) (ends : List ℕ) (c : ℕ) : Type 0 where
  pub behind : s ≤ start_from s ends c
  pub rises : start_from s ends c ≤ slice_index_or ends c 0
  pub within : slice_index_or ends c 0 ≤ length row
  pub is : line_at (cut_from s row ends) c ≡ part (start_from s ends c) (slice_index_or ends c 0) row

pub stands-at : (s : ℕ) (row : List Group) (ends : List ℕ) (c : ℕ) → IsCutFrom s ends (length row) → c < length ends → StandsAt s row ends c
stands-at s row [] c cut less = absurd (omega arith)
stands-at s row (e ∷ es) zero cut less = record { behind = omega arith; rises = cut.0; within = begins-within e es (length row) cut.1; is = refl }
stands-at s row (e ∷ es) (suc c) cut less =
    let rest = stands-at e row es c cut.1 (omega (arith, less)) in
    record { behind = omega (arith, cut.0, rest.behind); rises = rest.rises; within = rest.within; is = rest.is }

-- how many groups a line has
pub length-line : (s : ℕ) (row : List Group) (ends : List ℕ) (c : ℕ) → IsCutFrom s ends (length row) → c < length ends
    → start_from s ends c + length (line_at (cut_from s row ends) c) ≡ slice_index_or ends c 0
length-line s row ends c cut less =
    let at = stands-at s row ends c cut less in
    omega (arith, ap length at.is, length-part (start_from s ends c) (slice_index_or ends c 0) row at.within, at.rises)

-- ANOTHER GROUP AT A PLACE: it changes no other line
cut-behind-set : (s : ℕ) (row : List Group) (ends : List ℕ) (i : ℕ) (g : Group) → i < s → IsCutFrom s ends (length row) → cut_from s (slice_set row i g) ends ≡ cut_from s row ends
cut-behind-set s row [] i g less cut = refl
cut-behind-set s row (e ∷ es) i g less cut =
    let first : part s e (slice_set row i g) ≡ part s e row = ap (take (e - s)) (drop-set-lt s row i g less) in
    let rest = cut-behind-set e row es i g (omega (arith, less, cut.0)) cut.1 in
    λ j. first j ∷ rest j

pub cut-set : (s : ℕ) (row : List Group) (ends : List ℕ) (c p : ℕ) (g : Group) → IsCutFrom s ends (length row) → c < length ends → p < length (line_at (cut_from s row ends) c)
    → cut_from s (slice_set row (start_from s ends c + p) g) ends ≡ slice_set (cut_from s row ends) c (slice_set (line_at (cut_from s row ends) c) p g)
cut-set s row [] c p g cut less here = absurd (omega arith)
cut-set s row (e ∷ es) zero p g cut less here =
    let long = length-part s e row (begins-within e es (length row) cut.1) in
    let first : part s e (slice_set row (s + p) g) ≡ slice_set (part s e row) p g =
    ap (take (e - s)) (drop-set-add s row p g) ∙ take-set-lt (e - s) (drop s row) p g (omega (arith, long, here)) in
    let rest = cut-behind-set e row es (s + p) g (omega (arith, long, here)) cut.1 in
    λ j. first j ∷ rest j
cut-set s row (e ∷ es) (suc c) p g cut less here =
    let at = stands-at e row es c cut.1 (omega (arith, less)) in
    let i = start_from e es c + p in
    let past : i ≡ s + (i - s) = omega (arith, at.behind, cut.0) in
    let first : part s e (slice_set row i g) ≡ part s e row =
    ap (λ k. part s e (slice_set row k g)) past
    ∙ ap (take (e - s)) (drop-set-add s row (i - s) g)
    ∙ take-set-le (e - s) (drop s row) (i - s) g (omega (arith, at.behind, cut.0)) in
    let rest = cut-set e row es c p g cut.1 (omega (arith, less)) here in
    λ j. first j ∷ rest j

-- A GROUP MORE: the ends behind it rise by one, and it changes no other line
cut-behind-insert : (s : ℕ) (row : List Group) (ends : List ℕ) (i : ℕ) (g : Group) → i ≤ s → i ≤ length row → IsCutFrom s ends (length row)
    → cut_from (s + 1) (insert row i g) (map (λ e. e + 1) ends) ≡ cut_from s row ends
cut-behind-insert s row [] i g le within cut = refl
cut-behind-insert s row (e ∷ es) i g le within cut =
    let long : (e + 1) - (s + 1) ≡ e - s = omega arith in
    let up : s + 1 ≡ suc s = omega arith in
    let first : part (s + 1) (e + 1) (insert row i g) ≡ part s e row =
    ap (λ n. take n (drop (s + 1) (insert row i g))) long
    ∙ ap (λ n. take (e - s) (drop n (insert row i g))) up
    ∙ ap (take (e - s)) (drop-behind-insert s row i g le within) in
    let rest = cut-behind-insert e row es i g (omega (arith, le, cut.0)) within cut.1 in
    λ j. first j ∷ rest j

pub cut-insert : (s : ℕ) (row : List Group) (ends : List ℕ) (c p : ℕ) (g : Group) → IsCutFrom s ends (length row) → c < length ends → p ≤ length (line_at (cut_from s row ends) c)
    → cut_from s (insert row (start_from s ends c + p) g) (raised ends c) ≡ slice_set (cut_from s row ends) c (insert (line_at (cut_from s row ends) c) p g)
cut-insert s row [] c p g cut less here = absurd (omega arith)
cut-insert s row (e ∷ es) zero p g cut less here =
    let fits = begins-within e es (length row) cut.1 in
    let long = length-part s e row fits in
    let more : (e + 1) - s ≡ suc (e - s) = omega (arith, cut.0) in
    let first : part s (e + 1) (insert row (s + p) g) ≡ insert (part s e row) p g =
    ap (λ n. take n (drop s (insert row (s + p) g))) more
    ∙ ap (take (suc (e - s))) (drop-insert s row p (s + p) g (omega (arith, cut.0, fits)) refl)
    ∙ take-insert (e - s) (drop s row) p g (omega (arith, long, here)) (omega (arith, long, here, fits, length-drop s row)) in
    let rest = cut-behind-insert e row es (s + p) g (omega (arith, long, here, cut.0)) (omega (arith, long, here, cut.0, fits)) cut.1 in
    λ j. first j ∷ rest j
cut-insert s row (e ∷ es) (suc c) p g cut less here =
    let at = stands-at e row es c cut.1 (omega (arith, less)) in
    let long = length-line e row es c cut.1 (omega (arith, less)) in
    let i = start_from e es c + p in
    let past : i ≡ s + (i - s) = omega (arith, at.behind, cut.0) in
    let first : part s e (insert row i g) ≡ part s e row =
    ap (take (e - s)) (drop-insert s row (i - s) i g (omega (arith, cut.0, begins-within e es (length row) cut.1)) past)
    ∙ take-before-insert (e - s) (drop s row) (i - s) g (omega (arith, at.behind, cut.0)) (omega (arith, length-drop s row, long, at.within, here)) in
    let rest = cut-insert e row es c p g cut.1 (omega (arith, less)) here in
    λ j. first j ∷ rest j

-- the raised ends are ends of the longer row
raised-behind : (s : ℕ) (ends : List ℕ) (n : ℕ) → IsCutFrom s ends n → IsCutFrom (s + 1) (map (λ e. e + 1) ends) (n + 1)
raised-behind s [] n cut = ap (λ k. k + 1) cut
raised-behind s (e ∷ es) n cut = (omega (arith, cut.0), raised-behind e es n cut.1)

pub raised-cuts : (s : ℕ) (ends : List ℕ) (c n : ℕ) → IsCutFrom s ends n → c < length ends → IsCutFrom s (raised ends c) (n + 1)
raised-cuts s [] c n cut less = absurd (omega arith)
raised-cuts s (e ∷ es) zero n cut less = (omega (arith, cut.0), raised-behind e es n cut.1)
raised-cuts s (e ∷ es) (suc c) n cut less = (cut.0, raised-cuts e es c n cut.1 (omega (arith, less)))

length-raised : (ends : List ℕ) (c : ℕ) → length (raised ends c) ≡ length ends
length-raised [] c = refl
length-raised (e ∷ es) zero = omega (arith, length-map es (λ e. e + 1))
length-raised (e ∷ es) (suc c) = omega (arith, length-raised es c)

-- no line ends behind the row
pub ends-within : (s : ℕ) (ends : List ℕ) (n : ℕ) → IsCutFrom s ends n → (k d : ℕ) → k < length ends → slice_index_or ends k d ≤ n
ends-within s [] n cut k d less = absurd (omega arith)
ends-within s (e ∷ es) n cut zero d less = begins-within e es n cut.1
ends-within s (e ∷ es) n cut (suc k) d less = ends-within e es n cut.1 k d (omega (arith, less))

-- how many groups the lines of a row hold
pub held-all : (s : ℕ) (row : List Group) (ends : List ℕ) → IsCutFrom s ends (length row) → s + groups_held (cut_from s row ends) ≡ length row
held-all s row [] cut = omega (arith, cut)
held-all s row (e ∷ es) cut = omega (arith, cut.0, length-part s e row (begins-within e es (length row) cut.1), held-all e row es cut.1)

-- of groups that aren't empty there are no more than ships
pub groups-held-few : (lines : List (List Group)) → All (All (λ g. 1 ≤ length g.ships)) lines → groups_held lines ≤ size_held lines
groups-held-few [] some = omega arith
groups-held-few (line ∷ lines) some =
    let P : List Group → Type 0 = All (λ g. 1 ≤ length g.ships) in
    omega (arith, groups-few line (All-head P line lines some), groups-held-few lines (All-tail P line lines some))

-- four lines in a row: where line c begins, how far it goes, and what it is
module _ (row : List Group) (ends : List ℕ) (lines : List (List Group)) (c start : ℕ) (kept : IsCutRow row ends) (view : cut_from 0 row ends ≡ lines) (chamber : c < CHAMBERS) (begins : start ≡ start_from 0 ends c) where
  here : c < length ends
  here = omega (arith, kept.four, chamber)

  stands : StandsAt 0 row ends c
  stands = stands-at 0 row ends c kept.cut here

  pub line-rises : start ≤ slice_index_or ends c 0
  line-rises = omega (arith, begins, stands.rises)

  pub line-within : slice_index_or ends c 0 ≤ length row
  line-within = stands.within

  pub line-is : part start (slice_index_or ends c 0) row ≡ line_at lines c
  line-is = ap (λ s. part s (slice_index_or ends c 0) row) begins ∙ sym stands.is ∙ ap (λ ls. line_at ls c) view

  pub line-fits : start + length (line_at lines c) ≤ length row
  line-fits = omega (arith, begins, length-line 0 row ends c kept.cut here, ap (λ ls. length (line_at ls c)) view, stands.within)

  pub set-in : (p : ℕ) (g : Group) → p < length (line_at lines c) → cut_from 0 (slice_set row (start + p) g) ends ≡ slice_set lines c (slice_set (line_at lines c) p g)
  set-in p g less =
      ap (λ s. cut_from 0 (slice_set row (s + p) g) ends) begins
      ∙ cut-set 0 row ends c p g kept.cut here (subst (λ ls. p < length (line_at ls c)) (sym view) less)
      ∙ ap (λ ls. slice_set ls c (slice_set (line_at ls c) p g)) view

  pub insert-in : (p : ℕ) (g : Group) → p ≤ length (line_at lines c) → cut_from 0 (insert row (start + p) g) (raised ends c) ≡ slice_set lines c (insert (line_at lines c) p g)
  insert-in p g le =
      ap (λ s. cut_from 0 (insert row (s + p) g) (raised ends c)) begins
      ∙ cut-insert 0 row ends c p g kept.cut here (subst (λ ls. p ≤ length (line_at ls c)) (sym view) le)
      ∙ ap (λ ls. slice_set ls c (insert (line_at ls c) p g)) view

-- what an edit of the row keeps
pub row-set : (row : List Group) (ends : List ℕ) (i : ℕ) (g : Group) → IsCutRow row ends → IsCutRow (slice_set row i g) ends
row-set row ends i g kept = record { four = kept.four; cut = subst (IsCutFrom 0 ends) (sym (length-set row i g)) kept.cut }

pub row-insert : (row : List Group) (ends : List ℕ) (c i : ℕ) (g : Group) → IsCutRow row ends → c < CHAMBERS → i ≤ length row → IsCutRow (insert row i g) (raised ends c)
row-insert row ends c i g kept chamber within = record {
  four = length-raised ends c ∙ kept.four;
  cut = subst (IsCutFrom 0 (raised ends c)) (sym (length-insert row i g within)) (raised-cuts 0 ends c (length row) kept.cut (omega (arith, kept.four, chamber)));
}

-- the row of some lines holds as many groups as they
pub row-held : (row : List Group) (ends : List ℕ) (lines : List (List Group)) → IsCutRow row ends → cut_from 0 row ends ≡ lines → length row ≡ groups_held lines
row-held row ends lines kept view = omega (arith, held-all 0 row ends kept.cut, ap groups_held view)
