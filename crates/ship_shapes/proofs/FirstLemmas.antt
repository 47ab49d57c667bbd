-- The first jam of a lane is the first row or the first column; the first of all is the first reason.
use Rattle.std.proofs.Common.{◌≡◌, ℕ, ◌+◌, ◌^◌, ◌<◌, List, [], ◌∷◌, ◌++◌, length, inl, inr, refl, sym, ap, ◌∙◌, subst, arith, rules, sum_by, ◌↔◌, Some, None, IfSome, IfNone, IsNone, Bool, IsTrue}
use Rattle.std.specs.declared.option.Option.{Option}
use Rattle.std.proofs.lemmas.List.{append-nil}
use Rattle.lock_model.specs.Deck.{Deck, IsDeck}
use Rattle.lock_model.specs.Fitting.{Fits}
use Rattle.refute_rules.specs.declared.refutation.Quick.{Quick}
use Rattle.refute_rules.specs.declared.refutation.Quick.TheVariants.{Area, Row, Column}
use Rattle.refute_rules.specs.Reasons.{IsArea, IsRow, IsColumn, Holds, HasNoReason, IsTriedBefore, IsFirstReason}
use Rattle.refute_rules.proofs.AreaLemmas.{no_reason}
use Rattle.refute_rules.proofs.Packing.{total}
use Rattle.refute_rules.proofs.ReasonLemmas.{total-sum}
use Rattle.ship_shapes.specs.Lanes.{Passage, row_lane, column_lane, IsJam}
use Rattle.ship_shapes.specs.Jams.{number_of, AreBefore, HasNoJam, IsFirstJam}
use Rattle.ship_shapes.specs.Firsts.{HasNoRow, HasNoColumn, IsFirstRow, IsFirstColumn}
use Rattle.ship_shapes.proofs.LaneLemmas.{row_jam, jam_row, column_jam, jam_column}

same-total : (S : List ℕ) → number_of S ≡ total (λ i. 2 ^ i) S
same-total [] = refl
same-total (i ∷ S) = ap (λ n. 2 ^ i + n) (same-total S)

same-number : (S : List ℕ) → number_of S ≡ sum_by (λ i. 2 ^ i) S
same-number S = same-total S ∙ sym (total-sum (λ i. 2 ^ i) S)

-- a jam of a lane is one of ships before its count, and nothing else
own-set : (lane : Passage) (S : List ℕ) → IsJam lane S → AreBefore (length lane.needs) S
own-set lane S jam = record { rising = jam.rising; below = jam.known }

whole : (lane : Passage) (S : List ℕ) → IsJam lane S → IsJam lane (S ++ [])
whole lane S jam = subst (IsJam lane) (sym (append-nil S)) jam

no-jam : (lane : Passage) → HasNoJam lane (length lane.needs) [] → (S : List ℕ) → IsJam lane S → ⊥
no-jam lane none S jam = none.none S (own-set lane S jam) (whole lane S jam)

first-jam : (lane : Passage) (S : List ℕ) → IsFirstJam lane (length lane.needs) [] S → (T : List ℕ) → sum_by (λ i. 2 ^ i) T < sum_by (λ i. 2 ^ i) S → IsJam lane T → ⊥
first-jam lane S found T less jam =
    let same : found.lower ≡ S = sym (append-nil found.lower) ∙ sym found.joined in
    found.first T (own-set lane T jam) (omega (arith, less, same-number T, same-number S, ap number_of same)) (whole lane T jam)

pub no_row : (d : Deck) → HasNoJam (row_lane d) (length (row_lane d).needs) [] → HasNoRow d
no_row d none = record { none = λ S row. no-jam (row_lane d) none S (row_jam d S row) }

pub no_column : (d : Deck) → HasNoJam (column_lane d) (length (column_lane d).needs) [] → HasNoColumn d
no_column d none = record { none = λ S column. no-jam (column_lane d) none S (column_jam d S column) }

pub first_row : (d : Deck) (S : List ℕ) → IsFirstJam (row_lane d) (length (row_lane d).needs) [] S → IsFirstRow d S
first_row d S found = record { row = jam_row d S found.is; first = λ T less row. first-jam (row_lane d) S found T less (row_jam d T row) }

pub first_column : (d : Deck) (S : List ℕ) → IsFirstJam (column_lane d) (length (column_lane d).needs) [] S → IsFirstColumn d S
first_column d S found = record { column = jam_column d S found.is; first = λ T less column. first-jam (column_lane d) S found T less (column_jam d T column) }

-- in order: Area, rows, columns
pub area_first : (d : Deck) → IsArea d → IsFirstReason d Area
area_first d area = record { holds = area; first = before }
  where
    before : (r : Quick) → IsTriedBefore r Area → Holds d r → ⊥
    before r (inl h) g = omega (arith, h)
    before r (inr h) g = let less = h.1 in omega (arith, less)

pub row_first : (d : Deck) (S : List ℕ) → (IsArea d → ⊥) → IsFirstRow d S → IsFirstReason d (Row S)
row_first d S area found = record { holds = found.row; first = before }
  where
    before : (r : Quick) → IsTriedBefore r (Row S) → Holds d r → ⊥
    before Area h g = area g
    before (Row T) (inl h) g = omega (arith, h)
    before (Row T) (inr h) g = found.first T h.1 g
    before (Column T) (inl h) g = omega (arith, h)
    before (Column T) (inr h) g = let same = h.0 in omega (arith, same)

pub column_first : (d : Deck) (S : List ℕ) → (IsArea d → ⊥) → HasNoRow d → IsFirstColumn d S → IsFirstReason d (Column S)
column_first d S area rows found = record { holds = found.column; first = before }
  where
    before : (r : Quick) → IsTriedBefore r (Column S) → Holds d r → ⊥
    before Area h g = area g
    before (Row T) h g = rows.none T g
    before (Column T) (inl h) g = omega (arith, h)
    before (Column T) (inr h) g = found.first T h.1 g

pub no_first : (d : Deck) → (IsArea d → ⊥) → HasNoRow d → HasNoColumn d → HasNoReason d
no_first d area rows columns Area h = area h
no_first d area rows columns (Row S) h = rows.none S h
no_first d area rows columns (Column S) h = columns.none S h

-- a reason that holds leaves no placement
pub reason_unfit : (d : Deck) (q : Quick) → IsDeck d → Holds d q → Fits d → ⊥
reason_unfit d q good h fits = no_reason d fits.placed.0 fits.placed.1 good.count.0 q h

pub reason_none : (d : Deck) (r : Option Quick) → IfNone r (HasNoReason d) → IfSome r (IsFirstReason d) → IsNone r ↔ HasNoReason d
reason_none d None none some = (λ is. none, λ none. search rules)
reason_none d (Some q) none some = (λ is. search rules, λ none. absurd (none q some.holds))

pub reasons_unfit : (d : Deck) (r : Option Quick) → IsDeck d → IfSome r (IsFirstReason d) → IfSome r (λ q. Fits d → ⊥)
reasons_unfit d None good some = some
reasons_unfit d (Some q) good some = reason_unfit d q good some.holds

pub row_tells : (d : Deck) (S : List ℕ) (b : Bool) → IsTrue b ↔ IsJam (row_lane d) S → IsTrue b ↔ IsRow d S
row_tells d S b h = (λ yes. jam_row d S (h.0 yes), λ row. h.1 (row_jam d S row))

pub column_tells : (d : Deck) (S : List ℕ) (b : Bool) → IsTrue b ↔ IsJam (column_lane d) S → IsTrue b ↔ IsColumn d S
column_tells d S b h = (λ yes. jam_column d S (h.0 yes), λ column. h.1 (column_jam d S column))

-- what `first_reason` goes by
pub ruleset of_reasons = (area_first, row_first, column_first, no_first)
