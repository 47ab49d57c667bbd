-- How the beats of a chamber leave it, and what that says of the lockage that goes next.
use Rattle.std.proofs.Common.{◌≡◌, ℕ, suc, ◌+◌, ◌<◌, ◌≤◌, List, [], ◌∷◌, ◌++◌, map, filter, cond, not, Bool, true, false, nat_eq, nat_lt, get_or, All, ◌⊎◌, inl, inr, refl, ap, sym, subst, ◌∙◌, arith}
use Rattle.std.specs.Prelude.{◌&&◌}
use Rattle.std.proofs.lemmas.Bool.{le-ltb, eq-eqb}
use Rattle.std.proofs.lemmas.Bool.Decides.{eqb_tells, leb_tells}
use Rattle.std.proofs.lemmas.List.Elements.{All-head, All-tail, All-cons, All-nil}
use Rattle.lock_model.specs.Fleet.{chamber_at}
use Rattle.lock_model.specs.declared.instance.Instance.{Instance}
use Rattle.lock_model.specs.declared.plan.Lockage.{Lockage}
use Rattle.lock_model.specs.declared.plan.Plan.{Plan}
use Rattle.lock_model.specs.declared.way.Stand.{Stand}
use Rattle.lock_rules.specs.Lawful.{HasTurn, HasTurned, duration_of, stand_after}
use Rattle.lock_rules.specs.Lines.{lockage_at}
use Rattle.chamber_times.specs.Walk.{lockages_at}
use Rattle.day_play.specs.GoingOn.{unnumbered, beats_before}
use Rattle.day_play.specs.Order.{minute_of, IsOrdered}
use Rattle.day_play.specs.State.{Going, Idle, Under, ChamberState, State, other_side, chamber_after, after, after_all}
use Rattle.day_play.specs.Lawful.{MayDo, AreLawfulBeats}
use Rattle.day_play.specs.declared.beat.Act.{Act}
use Rattle.day_play.specs.declared.beat.Act.TheVariants.{Turn, Moor, Go, Done}
use Rattle.day_play.specs.declared.beat.Beat.{Beat}
use Rattle.day_play.proofs.ChamberLemmas.{other_before}
use Rattle.day_play.proofs.MixLemmas.{hit, skip}
use Rattle.day_play.proofs.RunLemmas.{beats_at}
use Rattle.day_play.proofs.WentLemmas.{go_first, went, turned-by}

lt_tells : (a b : ℕ) → ((nat_lt a b ≡ true) × (a < b)) ⊎ ((nat_lt a b ≡ false) × (b ≤ a))
lt_tells a b =
    elim (leb_tells (suc a) b) [
      | inl less ↦ inl (less.0, omega (arith, less.1))
      | inr more ↦ inr (more.0, omega (arith, more.1))
    ]

-- ---- the beats before a minute, and those from it on

-- the beat is before minute M
abbrev pub is_early : ℕ → Beat → Bool
is_early M b = nat_lt b.minute M

abbrev pub early : ℕ → List Beat → List Beat
early M bs = filter (is_early M) bs

abbrev pub late : ℕ → List Beat → List Beat
late M bs = filter (λ b. not (is_early M b)) bs

module _ (M : ℕ) where
  pub late-all : (low : ℕ) (bs : List Beat) → M ≤ low → IsOrdered minute_of low bs → (early M bs ≡ []) × (late M bs ≡ bs)
  late-all low [] above order = (refl, refl)
  late-all low (b ∷ bs) above order =
      let miss : is_early M b ≡ false = le-ltb b.minute M (omega (arith, above, order.0)) in
      let rest = late-all b.minute bs (omega (arith, above, order.0)) order.1 in (
        ap (λ t. cond t (b ∷ early M bs) (early M bs)) miss ∙ rest.0,
        ap (λ t. cond (not t) (b ∷ late M bs) (late M bs)) miss ∙ ap (λ xs. b ∷ xs) rest.1,
      )

  -- an ordered list is those before the minute, and then the others
  pub early-late : (low : ℕ) (bs : List Beat) → IsOrdered minute_of low bs → bs ≡ early M bs ++ late M bs
  early-late low [] order = refl
  early-late low (b ∷ bs) order =
      elim (lt_tells b.minute M) [
        | inl hit ↦
            ap (λ xs. b ∷ xs) (early-late b.minute bs order.1)
            ∙ sym (ap (λ t. cond t (b ∷ early M bs) (early M bs) ++ cond (not t) (b ∷ late M bs) (late M bs)) hit.0)
        | inr miss ↦
            let all = late-all b.minute (b ∷ bs) miss.1 (omega arith, order.1) in
            sym (ap (λ xs. xs ++ late M (b ∷ bs)) all.0 ∙ all.1)
      ]

  pub early-early : (bs : List Beat) → All (λ b. b.minute < M) (early M bs)
  early-early [] = All-nil (λ (b : Beat). b.minute < M)
  early-early (b ∷ bs) =
      elim (lt_tells b.minute M) [
        | inl hit ↦ subst (λ t. All (λ (b : Beat). b.minute < M) (cond t (b ∷ early M bs) (early M bs))) (sym hit.0) (All-cons (λ (b : Beat). b.minute < M) b (early M bs) hit.1 (early-early bs))
        | inr miss ↦ subst (λ t. All (λ (b : Beat). b.minute < M) (cond t (b ∷ early M bs) (early M bs))) (sym miss.0) (early-early bs)
      ]

  pub late-late : (bs : List Beat) → All (λ b. M ≤ b.minute) (late M bs)
  late-late [] = All-nil (λ (b : Beat). M ≤ b.minute)
  late-late (b ∷ bs) =
      elim (lt_tells b.minute M) [
        | inl hit ↦ subst (λ t. All (λ (b : Beat). M ≤ b.minute) (cond (not t) (b ∷ late M bs) (late M bs))) (sym hit.0) (late-late bs)
        | inr miss ↦ subst (λ t. All (λ (b : Beat). M ≤ b.minute) (cond (not t) (b ∷ late M bs) (late M bs))) (sym miss.0) (All-cons (λ (b : Beat). M ≤ b.minute) b (late M bs) miss.1 (late-late bs))
      ]

  -- the beats of a chamber before the minute are the early ones of the chamber
  pub before-early : (c : ℕ) (bs : List Beat) → beats_before M c bs ≡ map unnumbered (beats_at c (early M bs))
  before-early c [] = refl
  before-early c (b ∷ bs) = by (nat_eq b.chamber c) (nat_lt b.minute M) refl (before-early c bs)
    where
      by : (own soon : Bool) → nat_eq b.chamber c ≡ own → beats_before M c bs ≡ map unnumbered (beats_at c (early M bs))
          → cond (own && soon) (unnumbered b ∷ beats_before M c bs) (beats_before M c bs) ≡ map unnumbered (beats_at c (cond soon (b ∷ early M bs) (early M bs)))
      by true true own rest = ap (λ xs. unnumbered b ∷ xs) rest ∙ sym (ap (λ t. map unnumbered (cond t (b ∷ beats_at c (early M bs)) (beats_at c (early M bs)))) own)
      by true false own rest = rest
      by false true own rest = rest ∙ sym (ap (λ t. map unnumbered (cond t (b ∷ beats_at c (early M bs)) (beats_at c (early M bs)))) own)
      by false false own rest = rest

  -- in which order the two are asked doesn't matter
  pub early-at : (c : ℕ) (bs : List Beat) → beats_at c (early M bs) ≡ early M (beats_at c bs)
  early-at c [] = refl
  early-at c (b ∷ bs) = by (nat_eq b.chamber c) (nat_lt b.minute M) refl refl (early-at c bs)
    where
      by : (own soon : Bool) → nat_eq b.chamber c ≡ own → nat_lt b.minute M ≡ soon → beats_at c (early M bs) ≡ early M (beats_at c bs)
          → beats_at c (cond soon (b ∷ early M bs) (early M bs)) ≡ early M (cond own (b ∷ beats_at c bs) (beats_at c bs))
      by true true own soon rest =
          ap (λ t. cond t (b ∷ beats_at c (early M bs)) (beats_at c (early M bs))) own ∙ ap (λ xs. b ∷ xs) rest
          ∙ sym (ap (λ t. cond t (b ∷ early M (beats_at c bs)) (early M (beats_at c bs))) soon)
      by true false own soon rest = rest ∙ sym (ap (λ t. cond t (b ∷ early M (beats_at c bs)) (early M (beats_at c bs))) soon)
      by false true own soon rest = ap (λ t. cond t (b ∷ beats_at c (early M bs)) (beats_at c (early M bs))) own ∙ rest
      by false false own soon rest = rest

-- ---- lawful beats in two parts

module _ (I : Instance) (P : Plan) where
  pub lawful-parts : (xs ys : List Beat) (s : State) → AreLawfulBeats I P (xs ++ ys) s → AreLawfulBeats I P xs s × AreLawfulBeats I P ys (after_all I P xs s)
  lawful-parts [] ys s lawful = (tt, lawful)
  lawful-parts (x ∷ xs) ys s lawful =
      let rest = lawful-parts xs ys (after I P x s) lawful.1 in
      ((lawful.0, rest.0), rest.1)

module _ (c : ℕ) where
  pub went-append : (xs ys : List Beat) → went c (xs ++ ys) ≡ went c xs ++ went c ys
  went-append [] ys = refl
  went-append (x ∷ xs) ys = ap (go_first c x.chamber x.lockage x.act) (went-append xs ys) ∙ by x.act
    where
      more : (t : Bool) (p : ℕ) (ps qs : List ℕ) → cond t (p ∷ (ps ++ qs)) (ps ++ qs) ≡ cond t (p ∷ ps) ps ++ qs
      more true p ps qs = refl
      more false p ps qs = refl

      by : (a : Act) → go_first c x.chamber x.lockage a (went c xs ++ went c ys) ≡ go_first c x.chamber x.lockage a (went c xs) ++ went c ys
      by Turn = refl
      by (Moor i) = refl
      by Go = more (nat_eq c x.chamber) x.lockage (went c xs) (went c ys)
      by Done = refl

module _ (I : Instance) (P : Plan) (c : ℕ) where
  -- what holds of the minutes of the beats holds of the starts of the lockages that go
  pub went-minutes : (Q : ℕ → Type 0) (bs : List Beat) (s : State) → AreLawfulBeats I P bs s → All (λ b. Q b.minute) bs → All (λ l. Q l.start) (lockages_at P (went c bs))
  went-minutes Q [] s lawful all = All-nil (λ (l : Lockage). Q l.start)
  went-minutes Q (b ∷ bs) s lawful all =
      by b.act lawful.0.here (went-minutes Q bs (after I P b s) lawful.1 (All-tail (λ (b : Beat). Q b.minute) b bs all))
    where
      by : (a : Act) → MayDo I P b.minute b.chamber b.lockage a (s.chamber b.chamber) → All (λ l. Q l.start) (lockages_at P (went c bs)) → All (λ l. Q l.start) (lockages_at P (go_first c b.chamber b.lockage a (went c bs)))
      by Turn may rest = rest
      by (Moor i) may rest = rest
      by Go may rest =
          elim (nat_eq c b.chamber) as (λ t. All (λ (l : Lockage). Q l.start) (lockages_at P (cond t (b.lockage ∷ went c bs) (went c bs)))) [
            | true ↦ All-cons (λ (l : Lockage). Q l.start) (lockage_at P b.lockage) (lockages_at P (went c bs)) (subst Q (sym may.start) (All-head (λ (b : Beat). Q b.minute) b bs all)) rest
            | false ↦ rest
          ]
      by Done may rest = rest

-- ---- how a chamber is left: its side, and the minute since which it is free

module _ (I : Instance) (c : ℕ) where
  -- one act takes the first of these lockages if it is one that goes
  abbrev pub with_act : ℕ → Act → List Lockage → Stand × ℕ → List Lockage × (Stand × ℕ)
  with_act t Turn ls x = (ls, (other_side x.0, t + (chamber_at I c).turn))
  with_act t (Moor i) ls x = (ls, x)
  with_act t Go [] x = ([], x)
  with_act t Go (l ∷ ls) x = (ls, (stand_after l.way, t + duration_of I c l.ships))
  with_act t Done ls x = (ls, x)

  -- as some beats leave it, in which these lockages go
  abbrev pub left_with : List Beat → List Lockage → Stand × ℕ → Stand × ℕ
  left_with [] ls x = x
  left_with (b ∷ bs) ls x = left_with bs (with_act b.minute b.act ls x).0 (with_act b.minute b.act ls x).1

  -- numbers of lockages play no part
  pub left-unnumbered : (bs : List Beat) (ls : List Lockage) (x : Stand × ℕ) → left_with (map unnumbered bs) ls x ≡ left_with bs ls x
  left-unnumbered [] ls x = refl
  left-unnumbered (b ∷ bs) ls x = left-unnumbered bs (with_act b.minute b.act ls x).0 (with_act b.minute b.act ls x).1

  -- the chamber's side and its free minute are these, or will be when the lockage is over that is under way
  abbrev pub IsLeftBy : Going → Stand → ℕ → Stand × ℕ → Type 0
  IsLeftBy Idle side free x = (side ≡ x.0) × (free ≡ x.1)
  IsLeftBy (Under p) side free x = (other_side side ≡ x.0) × (free ≡ x.1)

  abbrev pub IsLeftSo : ChamberState → Stand × ℕ → Type 0
  IsLeftSo s x = IsLeftBy s.going s.side s.free x

  module _ (P : Plan) where
    act-left : (t p : ℕ) (a : Act) (s : ChamberState) (ps : List ℕ) (x : Stand × ℕ) → MayDo I P t c p a s → IsLeftSo s x
        → IsLeftSo (chamber_after I P t c p a s) (with_act t a (lockages_at P (go_first c c p a ps)) x).1
    act-left t p Turn s ps x may left =
        let was : IsLeftBy Idle s.side s.free x = subst (λ g. IsLeftBy g s.side s.free x) may.still.idle left in
        subst (λ g. IsLeftBy g (other_side s.side) (t + (chamber_at I c).turn) (other_side x.0, t + (chamber_at I c).turn)) (sym may.still.idle) (ap other_side was.0, refl)
    act-left t p (Moor i) s ps x may left = left
    act-left t p Go s ps x may left =
        subst (λ b. IsLeftBy (Under p) s.side (t + duration_of I c (lockage_at P p).ships) (with_act t Go (lockages_at P (cond b (p ∷ ps) ps)) x).1) (sym (eq-eqb c c refl))
        (ap other_side may.side ∙ other_before (lockage_at P p).way, refl)
    act-left t p Done s ps x may left =
        let was : IsLeftBy (Under p) s.side s.free x = subst (λ g. IsLeftBy g s.side s.free x) may.going left in was

    act-rest : (t p : ℕ) (a : Act) (ps : List ℕ) (x : Stand × ℕ) → (with_act t a (lockages_at P (go_first c c p a ps)) x).0 ≡ lockages_at P ps
    act-rest t p Turn ps x = refl
    act-rest t p (Moor i) ps x = refl
    act-rest t p Go ps x = ap (λ b. (with_act t Go (lockages_at P (cond b (p ∷ ps) ps)) x).0) (eq-eqb c c refl)
    act-rest t p Done ps x = refl

    other-go : (d p : ℕ) (a : Act) (ps : List ℕ) → nat_eq c d ≡ false → go_first c d p a ps ≡ ps
    other-go d p Turn ps miss = refl
    other-go d p (Moor i) ps miss = refl
    other-go d p Go ps miss = ap (λ b. cond b (p ∷ ps) ps) miss
    other-go d p Done ps miss = refl

    -- LAWFUL BEATS LEAVE THE CHAMBER SO.
    pub beats-left : (bs : List Beat) (s : State) (x : Stand × ℕ) → AreLawfulBeats I P bs s → IsLeftSo (s.chamber c) x
        → IsLeftSo ((after_all I P bs s).chamber c) (left_with (beats_at c bs) (lockages_at P (went c bs)) x)
    beats-left [] s x lawful left = left
    beats-left (b ∷ bs) s x lawful left =
        elim (eqb_tells c b.chamber) [
          | inl same ↦
              let ls = lockages_at P (go_first c c b.lockage b.act (went c bs)) in
              let may : MayDo I P b.minute c b.lockage b.act (s.chamber c) = subst (λ d. MayDo I P b.minute d b.lockage b.act (s.chamber d)) (sym same.1) lawful.0.here in
              let here : IsLeftSo ((after I P b s).chamber c) (with_act b.minute b.act ls x).1 =
              subst (λ t. IsLeftSo (cond t (chamber_after I P b.minute b.chamber b.lockage b.act (s.chamber c)) (s.chamber c)) (with_act b.minute b.act ls x).1) (sym same.0)
              (subst (λ d. IsLeftSo (chamber_after I P b.minute d b.lockage b.act (s.chamber c)) (with_act b.minute b.act ls x).1) same.1 (act-left b.minute b.lockage b.act (s.chamber c) (went c bs) x may left)) in
              let rest = beats-left bs (after I P b s) (with_act b.minute b.act ls x).1 lawful.1 here in
              let again : IsLeftSo ((after_all I P bs (after I P b s)).chamber c) (left_with (b ∷ beats_at c bs) ls x) =
              subst (λ ms. IsLeftSo ((after_all I P bs (after I P b s)).chamber c) (left_with (beats_at c bs) ms (with_act b.minute b.act ls x).1)) (sym (act-rest b.minute b.lockage b.act (went c bs) x)) rest in
              subst (λ xs. IsLeftSo ((after_all I P bs (after I P b s)).chamber c) (left_with xs (lockages_at P (go_first c b.chamber b.lockage b.act (went c bs))) x)) (sym (hit c b bs (sym same.1)))
              (subst (λ d. IsLeftSo ((after_all I P bs (after I P b s)).chamber c) (left_with (b ∷ beats_at c bs) (lockages_at P (go_first c d b.lockage b.act (went c bs))) x)) same.1 again)
          | inr other ↦
              let here : IsLeftSo ((after I P b s).chamber c) x = subst (λ t. IsLeftSo (cond t (chamber_after I P b.minute b.chamber b.lockage b.act (s.chamber c)) (s.chamber c)) x) (sym other.0) left in
              let rest = beats-left bs (after I P b s) x lawful.1 here in
              subst (λ xs. IsLeftSo ((after_all I P bs (after I P b s)).chamber c) (left_with xs (lockages_at P (go_first c b.chamber b.lockage b.act (went c bs))) x)) (sym (skip c b bs (λ same. other.1 (sym same))))
              (subst (λ ps. IsLeftSo ((after_all I P bs (after I P b s)).chamber c) (left_with (beats_at c bs) (lockages_at P ps) x)) (sym (other-go b.chamber b.lockage b.act (went c bs) other.0)) rest)
        ]

-- ---- the lockage that goes next in a chamber, where no beat is before minute M

module _ (I : Instance) (P : Plan) (c M : ℕ) (stand : Stand) (from : ℕ) where
  -- since `from`, which no beat at M or later precedes, the chamber was left standing so: it still does, or has turned since; or it will when the lockage is over that is under way
  abbrev pub IsWaitingBy : Going → Stand → ℕ → Type 0
  IsWaitingBy Idle side free = ((t : ℕ) → free ≤ t → M ≤ t → from ≤ t) × ((side ≡ stand) ⊎ HasTurn (chamber_at I c) from free)
  IsWaitingBy (Under p) side free = ((t : ℕ) → free ≤ t → M ≤ t → from ≤ t) × (other_side side ≡ stand)

  abbrev pub IsWaitingSo : ChamberState → Type 0
  IsWaitingSo s = IsWaitingBy s.going s.side s.free

  -- the lockage starts in time, after a turn where it needs one
  pub record StartsNext (q : ℕ) : Type 0 where
    pub later : from ≤ (lockage_at P q).start
    pub turned : HasTurned (chamber_at I c) stand (lockage_at P q).way from (lockage_at P q).start

  act-waits : (t p : ℕ) (a : Act) (s : ChamberState) → M ≤ t → MayDo I P t c p a s → IsWaitingSo s → (ps : List ℕ)
      → (IsWaitingSo (chamber_after I P t c p a s) → (q : ℕ) (qs : List ℕ) → ps ≡ q ∷ qs → StartsNext q) → (q : ℕ) (qs : List ℕ) → go_first c c p a ps ≡ q ∷ qs → StartsNext q
  act-waits t p Turn s above may waits ps next q qs is =
      let was : IsWaitingBy Idle s.side s.free = subst (λ g. IsWaitingBy g s.side s.free) may.still.idle waits in
      let reached : from ≤ t = was.0 t may.later above in
      next (subst (λ g. IsWaitingBy g (other_side s.side) (t + (chamber_at I c).turn)) (sym may.still.idle) (
        λ u free up. omega (arith, reached, free),
        inr (record { at = t; after = reached; before = omega arith; free = may.free }),
      )) q qs is
  act-waits t p (Moor i) s above may waits ps next q qs is = next waits q qs is
  act-waits t p Go s above may waits ps next q qs is =
      let was : IsWaitingBy Idle s.side s.free = subst (λ g. IsWaitingBy g s.side s.free) may.idle waits in
      let first : p ∷ ps ≡ q ∷ qs = subst (λ b. cond b (p ∷ ps) ps ≡ q ∷ qs) (eq-eqb c c refl) is in
      subst StartsNext (ap (λ xs. get_or xs 0 0) first) (record {
        later = let reached : from ≤ t = was.0 t may.later above in omega (arith, reached, may.start);
        turned = turned-by (chamber_at I c) stand s.side (lockage_at P p).way from s.free (lockage_at P p).start may.side was.1 (omega (arith, may.later, may.start));
      })
  act-waits t p Done s above may waits ps next q qs is =
      let was : IsWaitingBy (Under p) s.side s.free = subst (λ g. IsWaitingBy g s.side s.free) may.going waits in
      next (was.0, inl was.1) q qs is

  -- THE NEXT LOCKAGE STARTS SO.
  pub next-starts : (bs : List Beat) (s : State) → AreLawfulBeats I P bs s → All (λ b. M ≤ b.minute) bs → IsWaitingSo (s.chamber c) → (q : ℕ) (qs : List ℕ) → went c bs ≡ q ∷ qs → StartsNext q
  next-starts [] s lawful above waits q qs is = absurd (no_more is)
    where
      no_more : [] ≡ q ∷ qs → ⊥
      no_more e = cc
  next-starts (b ∷ bs) s lawful above waits q qs is =
      let rest = next-starts bs (after I P b s) lawful.1 (All-tail (λ (b : Beat). M ≤ b.minute) b bs above) in
      elim (eqb_tells c b.chamber) [
        | inl same ↦
            let may : MayDo I P b.minute c b.lockage b.act (s.chamber c) = subst (λ d. MayDo I P b.minute d b.lockage b.act (s.chamber d)) (sym same.1) lawful.0.here in
            act-waits b.minute b.lockage b.act (s.chamber c) (All-head (λ (b : Beat). M ≤ b.minute) b bs above) may waits (went c bs)
            (λ left. rest (subst (λ t. IsWaitingSo (cond t (chamber_after I P b.minute b.chamber b.lockage b.act (s.chamber c)) (s.chamber c))) (sym same.0)
            (subst (λ d. IsWaitingSo (chamber_after I P b.minute d b.lockage b.act (s.chamber c))) same.1 left)))
            q qs (subst (λ d. go_first c d b.lockage b.act (went c bs) ≡ q ∷ qs) (sym same.1) is)
        | inr other ↦
            rest (subst (λ t. IsWaitingSo (cond t (chamber_after I P b.minute b.chamber b.lockage b.act (s.chamber c)) (s.chamber c))) (sym other.0) waits) q qs
            (sym (other-go I c P b.chamber b.lockage b.act (went c bs) other.0) ∙ is)
      ]
