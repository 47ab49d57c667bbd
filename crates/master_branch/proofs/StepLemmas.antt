-- The steps of a ship make the children, and how many there are.
use Rattle.std.proofs.Common.{◌≡◌, ℕ, zero, suc, ◌+◌, ◌*◌, ◌<◌, ◌≤◌, List, [], ◌∷◌, ◌++◌, length, map, filter, All, cond, Bool, true, false, inl, inr, refl, sym, ap, ◌∙◌, arith, slice_set, slice_index_or}
use Rattle.std.specs.List.{flat_map, insert}
use Rattle.std.proofs.lemmas.Bool.Decides.{eqb_tells}
use Rattle.std.proofs.lemmas.Simd.{map-map}
use Rattle.std.proofs.lemmas.Grind.{flat_map-append}
use Rattle.std.proofs.lemmas.List.{get_or_default, length-append, length-map, map-append, map_push, append-nil}
use Rattle.std.proofs.lemmas.List.Elements.{All-append, All-map, All-filter, filter-append, filter_passes}
use Rattle.lock_model.specs.Fleet.{ship_at, chamber_at}
use Rattle.lock_model.specs.declared.instance.Instance.{Instance}
use Rattle.lock_model.specs.declared.group.Group.{Group}
use Rattle.lock_model.specs.declared.way.Way.{Way}
use Rattle.lock_rules.specs.Arrival.{numbers_from}
use Rattle.lock_rules.specs.Node.{line_at, IsNode}
use Rattle.lock_rules.specs.Children.{with_ship, single, joined, added, children_at, children_by}
use Rattle.lock_rules.proofs.LineLemmas.{length-numbers, numbers_more, numbers-below}
use Rattle.lock_rules.proofs.ChildLemmas.{All-flat_map}
use Rattle.lock_rules.proofs.SizeLemmas.{children-few}
use Rattle.master_branch.specs.declared.step.Step.{Step}
use Rattle.master_branch.specs.declared.step.Step.TheVariants.{Join, Open}
use Rattle.master_branch.specs.Steps.{group_in, may_join, places_to_join, joins_at, opens_at, steps_at, steps_by, lines_after, IsStep}

-- what stands at a place of a list stands there in an equal one
pub read_as : {X : Type 0} (xs ys : List X) (i : ℕ) (d e : X) → xs ≡ ys → i < length ys → slice_index_or xs i d ≡ slice_index_or ys i e
read_as xs ys i d e same less = ap (λ zs. slice_index_or zs i d) same ∙ get_or_default ys i d e less

-- what grows by w at each number is no less later
grows : (f w : ℕ → ℕ) → ((n : ℕ) → f (n + 1) ≡ f n + w n) → (n m : ℕ) → n < m → f n + w n ≤ f m
grows f w more n zero less = absurd (omega arith)
grows f w more n (suc m) less =
    let up : suc m ≡ m + 1 = omega arith in
    elim (eqb_tells n m) [
      | inl same ↦ omega (arith, ap f up, more m, ap f same.1, ap w same.1)
      | inr other ↦ omega (arith, ap f up, more m, grows f w more n m (below n m less other.1))
    ]
  where
    below : (n m : ℕ) → n < suc m → (n ≡ m → ⊥) → n < m
    below n m less other = omega (arith, other)

-- one place more
pub places-more : (most : ℕ) (way : Way) (line : List Group) (n : ℕ) → places_to_join most way line (n + 1) ≡ places_to_join most way line n ++ cond (may_join most way (group_in line n)) (n ∷ []) []
places-more most way line n =
    let q : ℕ → Bool = λ place. may_join most way (group_in line place) in
    let here : 0 + n ≡ n = omega arith in
    ap (filter q) (numbers_more 0 n) ∙ filter-append q (numbers_from 0 n) ((0 + n) ∷ []) ∙ ap (λ k. filter q (numbers_from 0 n) ++ filter q (k ∷ [])) here

pub joins-hit : (most : ℕ) (way : Way) (c : ℕ) (line : List Group) (n : ℕ) → may_join most way (group_in line n) ≡ true
    → map (λ place. Join c place) (places_to_join most way line (n + 1)) ≡ map (λ place. Join c place) (places_to_join most way line n) ++ Join c n ∷ []
joins-hit most way c line n yes_join =
    ap (map (λ place. Join c place)) (places-more most way line n ∙ ap (λ b. places_to_join most way line n ++ cond b (n ∷ []) []) yes_join)
    ∙ map_push (λ place. Join c place) (places_to_join most way line n) n

pub joins-miss : (most : ℕ) (way : Way) (c : ℕ) (line : List Group) (n : ℕ) → may_join most way (group_in line n) ≡ false
    → map (λ place. Join c place) (places_to_join most way line (n + 1)) ≡ map (λ place. Join c place) (places_to_join most way line n)
joins-miss most way c line n no_join =
    ap (map (λ place. Join c place)) (places-more most way line n ∙ ap (λ b. places_to_join most way line n ++ cond b (n ∷ []) []) no_join ∙ append-nil (places_to_join most way line n))

-- one more of the groups that a ship may join has room among all of them
pub joins-room : (most : ℕ) (way : Way) (c : ℕ) (line : List Group) (n : ℕ) → may_join most way (group_in line n) ≡ true → n < length line
    → length (map (λ place. Join c place) (places_to_join most way line n)) + 1 ≤ length (joins_at most way c line)
joins-room most way c line n yes_join less =
    let w : ℕ → ℕ = λ k. length (cond (may_join most way (group_in line k)) (k ∷ []) []) in
    let one : w n ≡ 1 = ap (λ b. length (cond b (n ∷ []) [])) yes_join in
    omega (
      arith,
      one,
      length-map (places_to_join most way line n) (λ place. Join c place),
      length-map (places_to_join most way line (length line)) (λ place. Join c place),
      grows (λ k. length (places_to_join most way line k)) w
          (λ k. ap length (places-more most way line k) ∙ length-append (places_to_join most way line k) (cond (may_join most way (group_in line k)) (k ∷ []) []))
          n (length line) less,
    )

pub opens-more : (c n : ℕ) → opens_at c (n + 1) ≡ opens_at c n ++ Open c n ∷ []
opens-more c n =
    let here : 0 + n ≡ n = omega arith in
    ap (map (λ place. Open c place)) (numbers_more 0 n) ∙ map_push (λ place. Open c place) (numbers_from 0 n) (0 + n) ∙ ap (λ k. opens_at c n ++ Open c k ∷ []) here

pub length-opens : (c n : ℕ) → length (opens_at c n) ≡ n
length-opens c n = length-map (numbers_from 0 n) (λ place. Open c place) ∙ length-numbers 0 n

-- the steps of one chamber more
pub steps-more : (f : ℕ → List Step) (n : ℕ) → flat_map f (numbers_from 0 (n + 1)) ≡ flat_map f (numbers_from 0 n) ++ f n
steps-more f n =
    let here : 0 + n ≡ n = omega arith in
    ap (flat_map f) (numbers_more 0 n)
    ∙ flat_map-append f (numbers_from 0 n) ((0 + n) ∷ [])
    ∙ ap (λ k. flat_map f (numbers_from 0 n) ++ (f k ++ [])) here
    ∙ ap (λ xs. flat_map f (numbers_from 0 n) ++ xs) (append-nil (f n))

pub steps-room : (f : ℕ → List Step) (n m : ℕ) → n < m → length (flat_map f (numbers_from 0 n)) + length (f n) ≤ length (flat_map f (numbers_from 0 m))
steps-room f =
    grows (λ k. length (flat_map f (numbers_from 0 k))) (λ k. length (f k))
    (λ k. ap length (steps-more f k) ∙ length-append (flat_map f (numbers_from 0 k)) (f k))

-- numbers from one on are those from zero on, each one higher
numbers-up : (low n : ℕ) → numbers_from (suc low) n ≡ map suc (numbers_from low n)
numbers-up low zero = refl
numbers-up low (suc n) = ap (λ ks. suc low ∷ ks) (numbers-up (suc low) n)

filter-up : (q : ℕ → Bool) (xs : List ℕ) → filter q (map suc xs) ≡ map suc (filter (λ k. q (suc k)) xs)
filter-up q [] = refl
filter-up q (x ∷ xs) =
    elim (q (suc x)) as (λ b. cond b (suc x ∷ filter q (map suc xs)) (filter q (map suc xs)) ≡ map suc (cond b (x ∷ filter (λ k. q (suc k)) xs) (filter (λ k. q (suc k)) xs))) [
      | true ↦ ap (λ ks. suc x ∷ ks) (filter-up q xs)
      | false ↦ filter-up q xs
    ]

-- joining at each place gives the lines with a ship more in a group
joined-places : (most : ℕ) (way : Way) (s : ℕ) (gs : List Group) → map (λ place. slice_set gs place (with_ship s (group_in gs place))) (places_to_join most way gs (length gs)) ≡ joined most way s gs
joined-places most way s [] = refl
joined-places most way s (g ∷ gs) =
    let q : ℕ → Bool = λ place. may_join most way (group_in (g ∷ gs) place) in
    let make : ℕ → List Group = λ place. slice_set (g ∷ gs) place (with_ship s (group_in (g ∷ gs) place)) in
    let later : ℕ → List Group = λ place. slice_set gs place (with_ship s (group_in gs place)) in
    let places = places_to_join most way gs (length gs) in
    let rest : map make (filter q (numbers_from 1 (length gs))) ≡ map (λ rest. g ∷ rest) (joined most way s gs) =
    ap (λ ks. map make (filter q ks)) (numbers-up 0 (length gs))
    ∙ ap (map make) (filter-up q (numbers_from 0 (length gs)))
    ∙ map-map make suc places
    ∙ sym (map-map (λ rest. g ∷ rest) later places)
    ∙ ap (map (λ rest. g ∷ rest)) (joined-places most way s gs) in
    elim (may_join most way g) as (λ b. map make (cond b (0 ∷ filter q (numbers_from 1 (length gs))) (filter q (numbers_from 1 (length gs)))) ≡ cond b ((with_ship s g ∷ gs) ∷ []) [] ++ map (λ rest. g ∷ rest) (joined most way s gs)) [
      | true ↦ ap (λ lines. (with_ship s g ∷ gs) ∷ lines) rest
      | false ↦ rest
    ]

-- standing alone at each place gives the lines with a group more
added-places : (way : Way) (s : ℕ) (gs : List Group) → map (λ place. insert gs place (single way s)) (numbers_from 0 (suc (length gs))) ≡ added way s gs
added-places way s [] = refl
added-places way s (g ∷ gs) =
    let make : ℕ → List Group = λ place. insert (g ∷ gs) place (single way s) in
    let later : ℕ → List Group = λ place. insert gs place (single way s) in
    ap (λ lines. (single way s ∷ g ∷ gs) ∷ lines) (
    ap (map make) (numbers-up 0 (suc (length gs)))
    ∙ map-map make suc (numbers_from 0 (suc (length gs)))
    ∙ sym (map-map (λ rest. g ∷ rest) later (numbers_from 0 (suc (length gs))))
    ∙ ap (map (λ rest. g ∷ rest)) (added-places way s gs)
    )

module _ (I : Instance) (s : ℕ) (lines : List (List Group)) where
  steps_at-children : (c : ℕ) → map (lines_after I s lines) (steps_at I s lines c) ≡ children_at I s lines c
  steps_at-children c =
      let gs = line_at lines c in
      let most = (chamber_at I c).most in
      let way = (ship_at I s).way in
      let put : List Group → List (List Group) = λ line. slice_set lines c line in
      let join : ℕ → List Group = λ place. slice_set gs place (with_ship s (group_in gs place)) in
      let open_at : ℕ → List Group = λ place. insert gs place (single way s) in
      let places = places_to_join most way gs (length gs) in
      let numbers = numbers_from 0 (suc (length gs)) in
      let joins : map (lines_after I s lines) (joins_at most way c gs) ≡ map put (joined most way s gs) =
      map-map (lines_after I s lines) (λ place. Join c place) places ∙ sym (map-map put join places) ∙ ap (map put) (joined-places most way s gs) in
      let opens : map (lines_after I s lines) (opens_at c (suc (length gs))) ≡ map put (added way s gs) =
      map-map (lines_after I s lines) (λ place. Open c place) numbers ∙ sym (map-map put open_at numbers) ∙ ap (map put) (added-places way s gs) in
      map-append (lines_after I s lines) (joins_at most way c gs) (opens_at c (suc (length gs)))
      ∙ (λ i. joins i ++ opens i)
      ∙ sym (map-append put (joined most way s gs) (added way s gs))

  -- THE STEPS MAKE THE CHILDREN, in their order.
  pub steps-children : map (lines_after I s lines) (steps_by I s lines) ≡ children_by I s lines
  steps-children = each (numbers_from 0 (length I.chambers))
    where
      each : (cs : List ℕ) → map (lines_after I s lines) (flat_map (steps_at I s lines) cs) ≡ flat_map (children_at I s lines) cs
      each [] = refl
      each (c ∷ cs) = map-append (lines_after I s lines) (steps_at I s lines c) (flat_map (steps_at I s lines) cs) ∙ (λ i. steps_at-children c i ++ each cs i)

  steps_at-each : (c : ℕ) → c < length I.chambers → All (IsStep I s lines) (steps_at I s lines c)
  steps_at-each c known =
      let gs = line_at lines c in
      let most = (chamber_at I c).most in
      let way = (ship_at I s).way in
      let q : ℕ → Bool = λ place. may_join most way (group_in gs place) in
      let passes : All (λ place. q place ≡ true) (filter q (numbers_from 0 (length gs))) = filter_passes q (numbers_from 0 (length gs)) in
      let below : All (λ place. place < 0 + length gs) (filter q (numbers_from 0 (length gs))) = All-filter q (λ place. place < 0 + length gs) (numbers_from 0 (length gs)) (numbers-below 0 (length gs)) in
      All-append (IsStep I s lines) (joins_at most way c gs) (opens_at c (suc (length gs)))
      (All-map (IsStep I s lines) (λ place. Join c place) (filter q (numbers_from 0 (length gs))) (λ j d here. (known, omega (arith, below j d here), passes j d here)))
      (All-map (IsStep I s lines) (λ place. Open c place) (numbers_from 0 (suc (length gs))) (λ j d here. (known, omega (arith, numbers-below 0 (suc (length gs)) j d here))))

  -- each of them may be taken
  pub steps-each : All (IsStep I s lines) (steps_by I s lines)
  steps-each =
      All-flat_map (IsStep I s lines) (steps_at I s lines) (numbers_from 0 (length I.chambers))
      (λ j d here. steps_at-each _ (omega (arith, numbers-below 0 (length I.chambers) j d here)))

-- a ship has at most 2 k + m steps into a node of depth k
pub steps-few : (I : Instance) (s k : ℕ) (lines : List (List Group)) → IsNode I k lines → length (steps_by I s lines) ≤ 2 * k + length I.chambers
steps-few I s k lines node = omega (arith, length-map (steps_by I s lines) (lines_after I s lines), ap length (steps-children I s lines), children-few I s k lines node)

-- what a chamber's joins and new groups make together
pub steps_at-is : (I : Instance) (s : ℕ) (lines : List (List Group)) (c most : ℕ) (way : Way) (line : List Group) → most ≡ (chamber_at I c).most → way ≡ (ship_at I s).way → line ≡ line_at lines c
    → joins_at most way c line ++ opens_at c (length line + 1) ≡ steps_at I s lines c
steps_at-is I s lines c most way line same_most same_way same_line =
    let up : length line + 1 ≡ suc (length line) = omega arith in
    ap (λ n. joins_at most way c line ++ opens_at c n) up
    ∙ (λ i. joins_at (same_most i) (same_way i) c (same_line i) ++ opens_at c (suc (length (same_line i))))

pub steps_at-parts : (I : Instance) (s : ℕ) (lines : List (List Group)) (c most : ℕ) (way : Way) (line : List Group) → most ≡ (chamber_at I c).most → way ≡ (ship_at I s).way → line ≡ line_at lines c
    → length (joins_at most way c line) + (length line + 1) ≡ length (steps_at I s lines c)
steps_at-parts I s lines c most way line same_most same_way same_line =
    omega (
      arith,
      ap length (steps_at-is I s lines c most way line same_most same_way same_line),
      length-append (joins_at most way c line) (opens_at c (length line + 1)),
      length-opens c (length line + 1),
    )
