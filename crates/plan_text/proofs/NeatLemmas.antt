-- A plan that differs from a legal one in x alone, and whose placements are normal, is legal.
use Rattle.std.proofs.Common.{◌≡◌, ℕ, suc, ◌+◌, ◌<◌, ◌∙◌, List, [], ◌∷◌, length, map, filter, get_or, All, cond, true, false, nat_eq, nat_le, refl, sym, ap, subst, arith, ◌++◌, below_more}
use Rattle.std.specs.List.Sorted.{IsStrictlyIncreasing}
use Rattle.std.proofs.lemmas.List.{get_or_default, get_or_append_left, get_or_at}
use Rattle.lock_model.specs.Limits.{Within}
use Rattle.lock_model.specs.Fleet.{ship_at, chamber_at}
use Rattle.lock_model.specs.Fitting.{deck_of}
use Rattle.lock_model.specs.Cargo.{HasNoClash}
use Rattle.lock_model.specs.declared.instance.Instance.{Instance}
use Rattle.lock_model.specs.declared.plan.Lockage.{Lockage}
use Rattle.lock_model.specs.declared.plan.Plan.{Plan}
use Rattle.lock_rules.specs.Lawful.{AreLawful}
use Rattle.lock_rules.specs.Lines.{no_lockage, lockage_at, group_of, insert_by_start, sorted_by_start, line_of, groups_of}
use Rattle.lock_rules.specs.Plan.{IsLegal, IsLegalLockage, served_in, times_in}
use Rattle.plan_text.specs.Neat.{IsNearer, DiffersInX, IsNeat, AreNeat}

-- a lockage without its spots
abbrev bare : Lockage → Lockage
bare l = record { chamber = l.chamber; way = l.way; ships = l.ships; start = l.start; spots = [] }

bare-insert : (l : Lockage) (ls : List Lockage) → map bare (insert_by_start l ls) ≡ insert_by_start (bare l) (map bare ls)
bare-insert l [] = refl
bare-insert l (m ∷ ms) =
    elim (nat_le l.start m.start) as (λ b. map bare (cond b (l ∷ m ∷ ms) (m ∷ insert_by_start l ms)) ≡ cond b (bare l ∷ bare m ∷ map bare ms) (bare m ∷ insert_by_start (bare l) (map bare ms))) [
      | true ↦ refl
      | false ↦ ap (λ xs. bare m ∷ xs) (bare-insert l ms)
    ]

bare-sorted : (ls : List Lockage) → map bare (sorted_by_start ls) ≡ sorted_by_start (map bare ls)
bare-sorted [] = refl
bare-sorted (l ∷ ls) = bare-insert l (sorted_by_start ls) ∙ ap (insert_by_start (bare l)) (bare-sorted ls)

bare-filter : (c : ℕ) (ls : List Lockage) → map bare (filter (λ l. nat_eq l.chamber c) ls) ≡ filter (λ l. nat_eq l.chamber c) (map bare ls)
bare-filter c [] = refl
bare-filter c (l ∷ ls) =
    elim (nat_eq l.chamber c) as (λ b. map bare (cond b (l ∷ filter (λ l. nat_eq l.chamber c) ls) (filter (λ l. nat_eq l.chamber c) ls)) ≡ cond b (bare l ∷ filter (λ l. nat_eq l.chamber c) (map bare ls)) (filter (λ l. nat_eq l.chamber c) (map bare ls))) [
      | true ↦ ap (λ xs. bare l ∷ xs) (bare-filter c ls)
      | false ↦ bare-filter c ls
    ]

bare-line : (P : Plan) (c : ℕ) → map bare (line_of P c) ≡ sorted_by_start (filter (λ l. nat_eq l.chamber c) (map bare P.lockages))
bare-line P c = bare-sorted (filter (λ l. nat_eq l.chamber c) P.lockages) ∙ ap sorted_by_start (bare-filter c P.lockages)

bare-groups : (ls : List Lockage) → map group_of (map bare ls) ≡ map group_of ls
bare-groups [] = refl
bare-groups (l ∷ ls) = ap (λ gs. group_of l ∷ gs) (bare-groups ls)

bare-starts : (ls : List Lockage) → map (λ l. l.start) (map bare ls) ≡ map (λ l. l.start) ls
bare-starts [] = refl
bare-starts (l ∷ ls) = ap (λ ss. l.start ∷ ss) (bare-starts ls)

bare-served : (ls : List Lockage) (s : ℕ) → served_in (map bare ls) s ≡ served_in ls s
bare-served [] s = refl
bare-served (l ∷ ls) s = ap (λ n. times_in l.ships s + n) (bare-served ls s)

bare-same : (l m : Lockage) → IsNearer l m → bare m ≡ bare l
bare-same l m near = λ i. record { chamber = near.chamber i; way = near.way i; ships = near.ships i; start = near.start i; spots = [] }

bare-all : (ls ms : List Lockage) → length ms ≡ length ls → ((p : ℕ) → p < length ls → IsNearer (get_or ls p no_lockage) (get_or ms p no_lockage)) → map bare ms ≡ map bare ls
bare-all [] [] count each = refl
bare-all [] (m ∷ ms) count each = absurd (omega (arith, count))
bare-all (l ∷ ls) [] count each = absurd (omega (arith, count))
bare-all (l ∷ ls) (m ∷ ms) count each =
    ap (λ x. x ∷ map bare ms) (bare-same l m (each 0 (omega arith))) ∙ ap (λ xs. bare l ∷ xs) (bare-all ls ms (omega (arith, count)) (λ p within. each (suc p) (omega (arith, within))))

legal-lockage : (I : Instance) (l m : Lockage) → IsLegalLockage I l → IsNearer l m → IsNeat I m → IsLegalLockage I m
legal-lockage I l m legal near neat = record {
  chamber = subst (λ c. c < length I.chambers) (sym near.chamber) legal.chamber;
  known = subst (All (λ s. s < length I.ships)) (sym near.ships) legal.known;
  rising = subst IsStrictlyIncreasing (sym near.ships) legal.rising;
  count = subst (λ c. Within 1 (chamber_at I c).most (length m.ships)) (sym near.chamber) (subst (λ (ss : List ℕ). Within 1 (chamber_at I l.chamber).most (length ss)) (sym near.ships) legal.count);
  way = subst (λ w. All (λ s. (ship_at I s).way ≡ w) m.ships) (sym near.way) (subst (All (λ s. (ship_at I s).way ≡ l.way)) (sym near.ships) legal.way);
  placed = neat.normal.legal;
  clear = subst (λ c. HasNoClash (deck_of I c m.ships)) (sym near.chamber) (subst (λ ss. HasNoClash (deck_of I l.chamber ss)) (sym near.ships) legal.clear);
}

pub legal-neat : (I : Instance) (P Q : Plan) → IsLegal I P → DiffersInX P Q → AreNeat I Q → IsLegal I Q
legal-neat I P Q legal near neat =
    let same : map bare Q.lockages ≡ map bare P.lockages = bare-all P.lockages Q.lockages near.count near.each in
    let count = near.count in
    record {
      once = λ s known. sym (bare-served Q.lockages s) ∙ ap (λ ls. served_in ls s) same ∙ bare-served P.lockages s ∙ legal.once s known;
      lockage = λ p d within.
          subst (IsLegalLockage I) (get_or_default Q.lockages p no_lockage d within)
          (legal-lockage I (lockage_at P p) (lockage_at Q p) (legal.lockage p no_lockage (omega (arith, within, count))) (near.each p (omega (arith, within, count))) (neat.each p within));
      timely = λ c known. record { lawful = lawful c same (legal.timely c known).lawful };
    }
  where
    lines : (c : ℕ) → map bare Q.lockages ≡ map bare P.lockages → map bare (line_of P c) ≡ map bare (line_of Q c)
    lines c same = bare-line P c ∙ ap (λ ls. sorted_by_start (filter (λ l. nat_eq l.chamber c) ls)) (sym same) ∙ sym (bare-line Q c)

    lawful : (c : ℕ) → map bare Q.lockages ≡ map bare P.lockages → AreLawful I c (groups_of P c) (map (λ l. l.start) (line_of P c)) → AreLawful I c (groups_of Q c) (map (λ l. l.start) (line_of Q c))
    lawful c same h =
        let line = lines c same in
        let groups : groups_of P c ≡ groups_of Q c = sym (bare-groups (line_of P c)) ∙ ap (map group_of) line ∙ bare-groups (line_of Q c) in
        let starts : map (λ l. l.start) (line_of P c) ≡ map (λ l. l.start) (line_of Q c) = sym (bare-starts (line_of P c)) ∙ ap (map (λ (l : Lockage). l.start)) line ∙ bare-starts (line_of Q c) in
        subst (λ gs. AreLawful I c gs (map (λ l. l.start) (line_of Q c))) groups (subst (AreLawful I c (groups_of P c)) starts h)

-- one lockage more
pub nearer_more : (ls ms new : List Lockage) (n : ℕ) (l m : Lockage) → length ms ≡ n → new ≡ ms ++ m ∷ [] → l ≡ get_or ls n no_lockage → ((k : ℕ) → k < n → IsNearer (get_or ls k no_lockage) (get_or ms k no_lockage)) → IsNearer l m → (k : ℕ) → k < n + 1 → IsNearer (get_or ls k no_lockage) (get_or new k no_lockage)
nearer_more ls ms new n l m count is read before here =
    below_more (λ k. IsNearer (get_or ls k no_lockage) (get_or new k no_lockage)) n
    (λ k less. subst (IsNearer (get_or ls k no_lockage)) (sym (ap (λ xs. get_or xs k no_lockage) is ∙ get_or_append_left ms (m ∷ []) no_lockage k (omega (arith, less, count)))) (before k less))
    (subst (IsNearer (get_or ls n no_lockage)) (sym (ap (λ xs. get_or xs n no_lockage) is ∙ get_or_at ms m [] no_lockage n count)) (subst (λ x. IsNearer x m) read here))

pub neat_more : (I : Instance) (ms new : List Lockage) (n : ℕ) (m : Lockage) → length ms ≡ n → new ≡ ms ++ m ∷ [] → ((k : ℕ) → k < n → IsNeat I (get_or ms k no_lockage)) → IsNeat I m → (k : ℕ) → k < n + 1 → IsNeat I (get_or new k no_lockage)
neat_more I ms new n m count is before here =
    below_more (λ k. IsNeat I (get_or new k no_lockage)) n
    (λ k less. subst (IsNeat I) (sym (ap (λ xs. get_or xs k no_lockage) is ∙ get_or_append_left ms (m ∷ []) no_lockage k (omega (arith, less, count)))) (before k less))
    (subst (IsNeat I) (sym (ap (λ xs. get_or xs n no_lockage) is ∙ get_or_at ms m [] no_lockage n count)) here)
