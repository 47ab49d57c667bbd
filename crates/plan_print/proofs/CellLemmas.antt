-- Lengths in cells.
use Rattle.std.proofs.Common.{◌≡◌, ℕ, suc, ◌+◌, ◌-◌, ◌*◌, ◌<◌, ◌≤◌, cond, true, false, Bool, ◌&&◌, nat_le, nat_lt, ◌⊎◌, List, length, map, take, get_or, Option, Some, None, refl, ap, sym, ◌∙◌, inl, inr, arith}
use Rattle.std.proofs.Math.Nat.{mul-le-mul_right, mul_comm}
use Rattle.std.proofs.lemmas.Bool.{cases_lt}
use Rattle.std.proofs.lemmas.Bool.Decides.{leb_tells, nat_tests}
use Rattle.std.proofs.lemmas.Grind.{div_ceil_times}
use Rattle.std.specs.Int.{div_ceil}
use Rattle.lock_model.specs.declared.deck.Size.{Size}
use Rattle.lock_model.specs.declared.placement.Spot.{Spot}
use Rattle.std.specs.List.{find, range_with_len}
use Rattle.std.proofs.lemmas.List.{length-take-le, get_or-take}
use Rattle.std.proofs.lemmas.List.FromFn.{fill_by_all}
use Rattle.lock_model.specs.Deck.{Deck}
use Rattle.plan_print.specs.Words.{letter}
use Rattle.plan_print.specs.Drawing.{cell_length, cell_width, columns_of, covers, covers_at, ship_over, mark_of, cell_at}

-- c cells of length d are long enough for a length exactly where they are no fewer than its cells
pub div_ceil-le : (a d c : ℕ) → 0 < d → a ≤ c * d → div_ceil a d ≤ c
div_ceil-le a d c positive long =
    elim (cases_lt c (div_ceil a d)) [
      | inl more ↦
          let wide : suc c * d ≤ div_ceil a d * d = mul-le-mul_right d more in
          let spread : suc c * d ≡ c * d + d = omega arith in
          absurd (omega (arith, (div_ceil_times a d positive).1))
      | inr enough ↦ enough
    ]

pub le-div_ceil : (a d c : ℕ) → 0 < d → div_ceil a d ≤ c → a ≤ c * d
le-div_ceil a d c positive short =
    let wide : div_ceil a d * d ≤ c * d = mul-le-mul_right d short in
    omega (arith, (div_ceil_times a d positive).0)

-- a length in cells is at most as many cells as it is divided into, where each cell is that long
pub div_ceil-most : (a d n : ℕ) → 0 < n → 0 < d → div_ceil a n ≤ d → div_ceil a d ≤ n
div_ceil-most a d n some positive long = div_ceil-le a d n positive (rw mul_comm (le-div_ceil a n d some long))

-- A point at the near end of cell k is past a length exactly where the cell is past the length's cells.
pub near-cell : (a d k : ℕ) → 0 < d → nat_le a (k * d) ≡ nat_le (div_ceil a d) k
near-cell a d k positive =
    elim (leb_tells a (k * d)) [
      | inl past ↦ elim (leb_tells (div_ceil a d) k) [
        | inl also ↦ past.0 ∙ sym also.0
        | inr not_yet ↦ let most = div_ceil-le a d k positive past.1 in absurd (omega (arith, not_yet.1))
      ]
      | inr short ↦ elim (leb_tells (div_ceil a d) k) [
        | inl past ↦ let long = le-div_ceil a d k positive past.1 in absurd (omega (arith, short.1))
        | inr also ↦ short.0 ∙ sym also.0
      ]
    ]

pub far-cell : (b d k : ℕ) → 0 < d → nat_lt (k * d) b ≡ nat_lt k (div_ceil b d)
far-cell b d k positive =
    elim (leb_tells (suc (k * d)) b) [
      | inl within ↦ elim (leb_tells (suc k) (div_ceil b d)) [
        | inl also ↦ within.0 ∙ sym also.0
        | inr past ↦ let long = le-div_ceil b d k positive (omega (arith, past.1)) in absurd (omega (arith, within.1))
      ]
      | inr past ↦ elim (leb_tells (suc k) (div_ceil b d)) [
        | inl within ↦ let most = div_ceil-le b d k positive (omega (arith, past.1)) in absurd (omega (arith, within.1))
        | inr also ↦ past.0 ∙ sym also.0
      ]
    ]

-- which cells of a row a ship covers
pub covers-cell : (s : Size) (p : Spot) (d k y from to : ℕ) → 0 < d → from ≡ div_ceil p.x d → to ≡ div_ceil (p.x + s.length) d
    → covers s p (k * d) y ≡ ((nat_le from k && nat_lt k to) && (nat_le p.y y && nat_lt y (p.y + s.width)))
covers-cell s p d k y from to positive near far =
    simp (near-cell p.x d k positive, far-cell (p.x + s.length) d k positive, near, far)

-- the cells of a row once those that a ship covers have its letter
pub cells-painted : (s : Size) (p : Spot) (d y letter : ℕ) (old new : List ℕ) (from to : ℕ) → 0 < d → p.y ≤ y → y < p.y + s.width
    → from ≡ div_ceil p.x d → to ≡ div_ceil (p.x + s.length) d
    → ((k : ℕ) → from ≤ k → k < to → k < length old → get_or new k 0 ≡ letter)
    → ((k : ℕ) → (k < from) ⊎ (to ≤ k) → get_or new k 0 ≡ get_or old k 0)
    → (k : ℕ) → k < length old → get_or new k 0 ≡ cond (covers s p (k * d) y) letter (get_or old k 0)
cells-painted s p d y letter old new from to positive low high near far inside outside k less =
    let across : (nat_le p.y y && nat_lt y (p.y + s.width)) ≡ true = grind (arith, nat_tests) in
    let test = covers-cell s p d k y from to positive near far in
    elim (leb_tells from k) [
      | inl behind ↦ elim (leb_tells (suc k) to) [
        | inl before ↦
            let on : covers s p (k * d) y ≡ true = test ∙ simp (behind.0, before.0, across) in
            inside k behind.1 before.1 less ∙ sym (ap (λ b. cond b letter (get_or old k 0)) on)
        | inr past ↦
            let off : covers s p (k * d) y ≡ false = test ∙ simp (behind.0, past.0) in
            outside k (inr (omega (arith, past.1))) ∙ sym (ap (λ b. cond b letter (get_or old k 0)) off)
      ]
      | inr before ↦
          let off : covers s p (k * d) y ≡ false = test ∙ simp (before.0) in
          outside k (inl before.1) ∙ sym (ap (λ b. cond b letter (get_or old k 0)) off)
    ]

-- no ship is left past the last one
pub find-past : (test : ℕ → Bool) (n : ℕ) → find test (range_with_len n (n - n)) ≡ None
find-past test n = let none : n - n ≡ 0 = omega arith in ap (λ m. find test (range_with_len n m)) none

-- the first ship from i on is ship i or the first one behind it
pub find-more : (test : ℕ → Bool) (n i next : ℕ) → next ≡ i + 1 → i < n → find test (range_with_len i (n - i)) ≡ cond (test i) (Some i) (find test (range_with_len next (n - next)))
find-more test n i next up less =
    let long : n - i ≡ suc (n - next) = omega arith in
    ap (λ m. find test (range_with_len i m)) long ∙ ap (λ from. cond (test i) (Some i) (find test (range_with_len from (n - next)))) (sym up)

mark_of-cond : (b : Bool) (i : ℕ) (o : Option ℕ) → mark_of (cond b (Some i) o) ≡ cond b (letter i) (mark_of o)
mark_of-cond true i o = refl
mark_of-cond false i o = refl

-- a cell where ship i is painted over the ships behind it
pub cell-more : (sizes : List Size) (spots : List Spot) (i next x y mark old new : ℕ) → next ≡ i + 1 → i < length sizes → mark ≡ letter i
    → old ≡ mark_of (find (covers_at sizes spots x y) (range_with_len next (length sizes - next)))
    → new ≡ cond (covers_at sizes spots x y i) mark old
    → new ≡ mark_of (find (covers_at sizes spots x y) (range_with_len i (length sizes - i)))
cell-more sizes spots i next x y mark old new up less own behind painted =
    painted
    ∙ (λ j. cond (covers_at sizes spots x y i) (own j) (behind j))
    ∙ sym (mark_of-cond (covers_at sizes spots x y i) i (find (covers_at sizes spots x y) (range_with_len next (length sizes - next))))
    ∙ ap mark_of (sym (find-more (covers_at sizes spots x y) (length sizes) i next up less))

-- the first cells of a row are those that the drawing has
pub cells-of_row : (d : Deck) (spots : List Spot) (row : ℕ) (sizes : List Size) (seen : List Spot) (long y : ℕ) (cells : List ℕ) (n : ℕ)
    → sizes ≡ d.ships → seen ≡ spots → long ≡ cell_length d → y ≡ row * cell_width d → n ≡ columns_of d → n ≤ 200 → 200 ≤ length cells
    → ((k : ℕ) → k < 200 → get_or cells k 0 ≡ mark_of (ship_over sizes seen (k * long) y))
    → take n cells ≡ map (cell_at d spots row) (range_with_len 0 (columns_of d))
cells-of_row d spots row sizes seen long y cells n own_sizes own_spots own_length own_row all few enough each =
    fill_by_all (cell_at d spots row) (take n cells) n 0 (length-take-le n cells (omega arith))
    (λ k less. get_or-take n cells k 0 less ∙ each k (omega arith) ∙ (λ i. mark_of (ship_over (own_sizes i) (own_spots i) (k * own_length i) (own_row i))))
    ∙ ap (λ m. map (cell_at d spots row) (range_with_len 0 m)) all

pub ruleset of_cells = (div_ceil-most)
