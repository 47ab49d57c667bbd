-- A chamber's last lockage by start, walked from the last place on, and how it leaves the chamber.
use Rattle.std.proofs.Common.{◌≡◌, ℕ, suc, ◌+◌, ◌<◌, ◌≤◌, List, [], ◌∷◌, ◌++◌, length, drop, All, filter, cond, Bool, true, false, nat_eq, nat_le, get_or, Some, refl, sym, ap, ◌∙◌, arith}
use Rattle.std.proofs.lemmas.Bool.{le-leb, lt-leb, eq-eqb}
use Rattle.std.proofs.lemmas.List.Elements.{All-head, All-tail, All-nil, All-cons, All-append, All-weaker}
use Rattle.std.proofs.Math.Seq.{drop-cons}
use Rattle.lock_model.specs.Fleet.{chamber_at}
use Rattle.lock_model.specs.declared.way.Stand.{Stand}
use Rattle.lock_model.specs.declared.instance.Instance.{Instance}
use Rattle.lock_model.specs.declared.plan.Lockage.{Lockage}
use Rattle.lock_model.specs.declared.plan.Plan.{Plan}
use Rattle.lock_rules.specs.Lawful.{duration_of, stand_after}
use Rattle.lock_rules.specs.Lines.{insert_by_start, sorted_by_start, line_of, no_lockage, lockage_at, end_of}
use Rattle.lock_rules.proofs.LineLemmas.{All-insert_by_start, lockage_at-read}
use Rattle.chamber_times.specs.FirstBreak.{stand_after_all, done_after_all}
use Rattle.replan.specs.Last.{line_from, EndsWith, IsLastFrom, left_by}
use Rattle.replan.specs.Rest.{chamber_after}

-- before a last lockage that starts no earlier
insert-before : (l b : Lockage) (ls : List Lockage) → l.start ≤ b.start → insert_by_start l (ls ++ b ∷ []) ≡ insert_by_start l ls ++ b ∷ []
insert-before l b [] before = ap (λ t. cond t (l ∷ b ∷ []) (b ∷ l ∷ [])) (le-leb l.start b.start before)
insert-before l b (m ∷ ms) before =
    elim (nat_le l.start m.start) as (λ t. cond t (l ∷ m ∷ (ms ++ b ∷ [])) (m ∷ insert_by_start l (ms ++ b ∷ [])) ≡ cond t (l ∷ m ∷ ms) (m ∷ insert_by_start l ms) ++ b ∷ []) [
      | true ↦ refl
      | false ↦ ap (λ rest. m ∷ rest) (insert-before l b ms before)
    ]

-- behind lockages that start earlier
insert-behind : (l : Lockage) (ls : List Lockage) → All (λ m. m.start < l.start) ls → insert_by_start l ls ≡ ls ++ l ∷ []
insert-behind l [] early = refl
insert-behind l (m ∷ ms) early =
    let here : m.start < l.start = All-head (λ (m : Lockage). m.start < l.start) m ms early in
    ap (λ t. cond t (l ∷ m ∷ ms) (m ∷ insert_by_start l ms)) (lt-leb l.start m.start here)
    ∙ ap (λ rest. m ∷ rest) (insert-behind l ms (All-tail (λ (m : Lockage). m.start < l.start) m ms early))

module _ (P : Plan) (c place : ℕ) (within : place < length P.lockages) where
  one_more : line_from P c place ≡ cond (nat_eq (lockage_at P place).chamber c) (insert_by_start (lockage_at P place) (line_from P c (place + 1))) (line_from P c (place + 1))
  one_more =
      let l = lockage_at P place in
      let next : suc place ≡ place + 1 = omega arith in
      ap (λ ls. sorted_by_start (filter (λ l. nat_eq l.chamber c) ls)) (drop-cons P.lockages place no_lockage within ∙ ap (λ n. l ∷ drop n P.lockages) next)
      ∙ pushed (nat_eq l.chamber c) l (filter (λ l. nat_eq l.chamber c) (drop (place + 1) P.lockages))
    where
      pushed : (b : Bool) (l : Lockage) (ls : List Lockage) → sorted_by_start (cond b (l ∷ ls) ls) ≡ cond b (insert_by_start l (sorted_by_start ls)) (sorted_by_start ls)
      pushed true l ls = refl
      pushed false l ls = refl

  hit : (lockage_at P place).chamber ≡ c → line_from P c place ≡ insert_by_start (lockage_at P place) (line_from P c (place + 1))
  hit own = one_more ∙ ap (λ b. cond b (insert_by_start (lockage_at P place) (line_from P c (place + 1))) (line_from P c (place + 1))) (eq-eqb (lockage_at P place).chamber c own)

  -- a lockage that starts no later than the last
  pub last_kept : (p : ℕ) → (lockage_at P place).chamber ≡ c → (lockage_at P place).start ≤ (lockage_at P p).start → IsLastFrom P c (place + 1) (Some p) → IsLastFrom P c place (Some p)
  last_kept p own before ends = record {
    within = ends.within;
    own = ends.own;
    before = insert_by_start (lockage_at P place) ends.before;
    line = hit own ∙ ap (insert_by_start (lockage_at P place)) ends.line ∙ insert-before (lockage_at P place) (lockage_at P p) ends.before before;
    rising = All-insert_by_start (λ l. l.start ≤ (lockage_at P p).start) (lockage_at P place) ends.before before ends.rising;
  }

  -- a lockage that starts after all
  pub last_behind : (p : ℕ) → (lockage_at P place).chamber ≡ c → (lockage_at P p).start < (lockage_at P place).start → IsLastFrom P c (place + 1) (Some p) → IsLastFrom P c place (Some place)
  last_behind p own after ends =
      let l = lockage_at P place in
      let q = lockage_at P p in
      let early : All (λ m. m.start < l.start) (ends.before ++ q ∷ []) =
      All-append (λ (m : Lockage). m.start < l.start) ends.before (q ∷ [])
      (All-weaker (λ (m : Lockage). m.start ≤ q.start) (λ m. m.start < l.start) (λ m h. omega (arith, h, after)) ends.before ends.rising)
      (All-cons (λ (m : Lockage). m.start < l.start) q [] after (All-nil (λ (m : Lockage). m.start < l.start))) in
      record {
        within = within;
        own = own;
        before = ends.before ++ q ∷ [];
        line = hit own ∙ ap (insert_by_start l) ends.line ∙ insert-behind l (ends.before ++ q ∷ []) early;
        rising = All-weaker (λ (m : Lockage). m.start < l.start) (λ m. m.start ≤ l.start) (λ m h. omega (arith, h)) (ends.before ++ q ∷ []) early;
      }

-- the state of a chamber after its last lockage
stand-last : (stand : Stand) (ls : List Lockage) (l : Lockage) → stand_after_all stand (ls ++ l ∷ []) ≡ stand_after l.way
stand-last stand [] l = refl
stand-last stand (k ∷ ls) l = stand-last (stand_after k.way) ls l

done-last : (I : Instance) (c from : ℕ) (ls : List Lockage) (l : Lockage) → done_after_all I c from (ls ++ l ∷ []) ≡ l.start + duration_of I c l.ships
done-last I c from [] l = refl
done-last I c from (k ∷ ls) l = done-last I c (k.start + duration_of I c k.ships) ls l

module _ (I : Instance) (K : Plan) (c : ℕ) where
  pub after_last : (l : Lockage) (before : List Lockage) → line_of K c ≡ before ++ l ∷ [] → l.chamber ≡ c → left_by I c l ≡ chamber_after I K c
  after_last l before line own =
      let stands : stand_after l.way ≡ stand_after_all (chamber_at I c).stands (line_of K c) = sym (ap (stand_after_all (chamber_at I c).stands) line ∙ stand-last (chamber_at I c).stands before l) in
      let opens : end_of I l ≡ done_after_all I c (chamber_at I c).opens (line_of K c) =
      ap (λ c. l.start + duration_of I c l.ships) own ∙ sym (ap (done_after_all I c (chamber_at I c).opens) line ∙ done-last I c (chamber_at I c).opens before l) in
      λ i. record (chamber_at I c) { stands = stands i; opens = opens i }

  -- and of a lockage that is read from the part
  pub after_read : (p : ℕ) (l : Lockage) (ls : List Lockage) → ls ≡ K.lockages → p < length ls → l ≡ get_or ls p l → EndsWith K c 0 p → left_by I c l ≡ chamber_after I K c
  after_read p l ls same within read ends = ap (left_by I c) (lockage_at-read K p l ls same within read) ∙ after_last (lockage_at K p) ends.before ends.line ends.own
