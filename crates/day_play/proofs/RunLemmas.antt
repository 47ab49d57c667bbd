-- Beats that each chamber may do in its own order are lawful, however the chambers are mixed.
use Rattle.std.proofs.Common.{◌≡◌, ◌≢◌, ℕ, suc, ◌+◌, ◌<◌, ◌≤◌, List, [], ◌∷◌, length, filter, cond, nat_eq, eq-eqb, inl, inr, refl, ap, sym, subst, arith, slice_index_or}
use Rattle.std.proofs.lemmas.Bool.Decides.{eqb_tells}
use Rattle.lock_model.specs.declared.instance.Instance.{Instance}
use Rattle.lock_model.specs.declared.plan.Lockage.{Lockage}
use Rattle.lock_model.specs.declared.plan.Plan.{Plan}
use Rattle.lock_rules.proofs.AmongLemmas.{among-append}
use Rattle.lock_rules.specs.Lines.{lockage_at}
use Rattle.list_laws.specs.Among.{IsAmong}
use Rattle.lock_rules.proofs.TreeLemmas.{IsAmong-left, IsAmong-right}
use Rattle.day_play.specs.State.{Moored, Going, Idle, Under, ChamberState, State, chamber_after, state_after, gone_after, served_after, after, after_all}
use Rattle.day_play.specs.Lawful.{ship_of, IsStill, MayDo, MayEnter, AreLawfulBeats}
use Rattle.day_play.specs.Playing.{done_beat}
use Rattle.day_play.specs.declared.beat.Act.{Act}
use Rattle.day_play.specs.declared.beat.Act.TheVariants.{Turn, Moor, Go, Done}
use Rattle.day_play.specs.declared.beat.Beat.{Beat}

-- a number of a list stands at some place
pub IsAmong-place : (xs : List ℕ) (x : ℕ) → IsAmong xs x → (k : ℕ) × (k < length xs) × (slice_index_or xs k 0 ≡ x)
IsAmong-place [] x h = absurd h
IsAmong-place (y ∷ ys) x (inl e) = (0, omega arith, e)
IsAmong-place (y ∷ ys) x (inr h) = let rest = IsAmong-place ys x h in (suc rest.0, omega (arith, rest.1), rest.2)

-- the beats of chamber c
abbrev pub beats_at : ℕ → List Beat → List Beat
beats_at c bs = filter (λ b. nat_eq b.chamber c) bs

-- whether the act moors ship i, and how many of some beats do
abbrev pub moor_count : Act → ℕ → ℕ
moor_count Turn i = 0
moor_count (Moor j) i = cond (nat_eq j i) 1 0
moor_count Go i = 0
moor_count Done i = 0

abbrev pub moors_in : List Beat → ℕ → ℕ
moors_in [] i = 0
moors_in (b ∷ bs) i = moor_count b.act i + moors_in bs i

rest_zero : (a b : ℕ) → a + b ≡ 0 → b ≡ 0
rest_zero a b e = omega arith

rest_few : (a b : ℕ) → a + b ≤ 1 → b ≤ 1
rest_few a b e = omega arith

rest_none : (i m : ℕ) → cond (nat_eq i i) 1 0 + m ≤ 1 → m ≡ 0
rest_none i m h = let one : 1 + m ≤ 1 = subst (λ t. cond t 1 0 + m ≤ 1) (eq-eqb i i refl) h in omega (arith, one)

not_none : (i m : ℕ) → cond (nat_eq i i) 1 0 + m ≡ 0 → ⊥
not_none i m e = let one : 1 + m ≡ 0 = subst (λ t. cond t 1 0 + m ≡ 0) (eq-eqb i i refl) e in absurd (omega (arith, one))

abbrev pub going_or_zero : Going → ℕ
going_or_zero Idle = 0
going_or_zero (Under p) = p

abbrev pub IsIdle : Going → Type 0
IsIdle Idle = Unit {0}
IsIdle (Under p) = ⊥

pub idle_not_under : (p : ℕ) → Idle ≡ Under p → ⊥
idle_not_under p e = subst IsIdle e tt

-- what holds of the changed chamber and of the others holds of all
pub pick : (Q : ChamberState → Type 0) (d c : ℕ) (x y : ChamberState) → (d ≡ c → Q x) → (d ≢ c → Q y) → Q (cond (nat_eq d c) x y)
pick Q d c x y hit miss =
    elim (eqb_tells d c) [
      | inl same ↦ subst (λ t. Q (cond t x y)) (sym same.0) (hit same.1)
      | inr other ↦ subst (λ t. Q (cond t x y)) (sym other.0) (miss other.1)
    ]

module _ (I : Instance) (P : Plan) where
  -- its chamber may do each of these beats, as those before it leave it, and is still in the end
  abbrev pub RunsHere : ChamberState → List Beat → Type 0
  RunsHere s [] = IsStill s
  RunsHere s (b ∷ bs) = MayDo I P b.minute b.chamber b.lockage b.act s × RunsHere (chamber_after I P b.minute b.chamber b.lockage b.act s) bs

  -- n tells how often each ship is yet to be moored: once at most, and never where it is moored or served
  pub record IsFresh (s : State) (n : ℕ → ℕ) : Type 0 where
    pub few : (i : ℕ) → n i ≤ 1
    pub served : (i : ℕ) → IsAmong s.served i → n i ≡ 0
    pub moored : (c : ℕ) (m : Moored) → IsAmong (s.chamber c).moored m → n m.ship ≡ 0
    pub going : (c p : ℕ) → (s.chamber c).going ≡ Under p → (k : ℕ) → k < length (lockage_at P p).ships → n (ship_of (lockage_at P p) k) ≡ 0
    pub gone : (p : ℕ) → IsAmong s.gone p → (k : ℕ) → k < length (lockage_at P p).ships → n (ship_of (lockage_at P p) k) ≡ 0

  -- none of the ships of lockage p is yet to be moored
  abbrev AreIn : (ℕ → ℕ) → ℕ → Type 0
  AreIn n p = (k : ℕ) → k < length (lockage_at P p).ships → n (ship_of (lockage_at P p) k) ≡ 0

  module _ (t c p : ℕ) where
    fresh-next : (a : Act) (s : State) (n : ℕ → ℕ) → MayDo I P t c p a (s.chamber c) → IsFresh s (λ i. moor_count a i + n i) → IsFresh (state_after I P t c p a s) n
    fresh-next Turn s n may fresh = record {
      few = λ i. rest_few 0 (n i) (fresh.few i);
      served = λ i h. rest_zero 0 (n i) (fresh.served i h);
      moored = λ d m. pick (λ x. IsAmong x.moored m → n m.ship ≡ 0) d c (chamber_after I P t c p Turn (s.chamber d)) (s.chamber d)
          (λ same h. rest_zero 0 (n m.ship) (fresh.moored d m h))
          (λ other h. rest_zero 0 (n m.ship) (fresh.moored d m h));
      going = λ d q. pick (λ x. x.going ≡ Under q → AreIn n q) d c (chamber_after I P t c p Turn (s.chamber d)) (s.chamber d)
          (λ same e k within. rest_zero 0 (n (ship_of (lockage_at P q) k)) (fresh.going d q e k within))
          (λ other e k within. rest_zero 0 (n (ship_of (lockage_at P q) k)) (fresh.going d q e k within));
      gone = λ q h k within. rest_zero 0 (n (ship_of (lockage_at P q) k)) (fresh.gone q h k within);
    }
    fresh-next (Moor j) s n may fresh = record {
      few = λ i. rest_few (moor_count (Moor j) i) (n i) (fresh.few i);
      served = λ i h. rest_zero (moor_count (Moor j) i) (n i) (fresh.served i h);
      moored = λ d m. pick (λ x. IsAmong x.moored m → n m.ship ≡ 0) d c (chamber_after I P t c p (Moor j) (s.chamber d)) (s.chamber d)
          (λ same h. elim h [
            | inl e ↦ subst (λ i. n i ≡ 0) (ap (λ (m : Moored). m.ship) e) (rest_none j (n j) (fresh.few j))
            | inr old ↦ rest_zero (moor_count (Moor j) m.ship) (n m.ship) (fresh.moored d m old)
          ])
          (λ other h. rest_zero (moor_count (Moor j) m.ship) (n m.ship) (fresh.moored d m h));
      going = λ d q. pick (λ x. x.going ≡ Under q → AreIn n q) d c (chamber_after I P t c p (Moor j) (s.chamber d)) (s.chamber d)
          (λ same e k within. rest_zero (moor_count (Moor j) (ship_of (lockage_at P q) k)) (n (ship_of (lockage_at P q) k)) (fresh.going d q e k within))
          (λ other e k within. rest_zero (moor_count (Moor j) (ship_of (lockage_at P q) k)) (n (ship_of (lockage_at P q) k)) (fresh.going d q e k within));
      gone = λ q h k within. rest_zero (moor_count (Moor j) (ship_of (lockage_at P q) k)) (n (ship_of (lockage_at P q) k)) (fresh.gone q h k within);
    }
    fresh-next Go s n may fresh = record {
      few = λ i. rest_few 0 (n i) (fresh.few i);
      served = λ i h. rest_zero 0 (n i) (fresh.served i h);
      moored = λ d m. pick (λ x. IsAmong x.moored m → n m.ship ≡ 0) d c (chamber_after I P t c p Go (s.chamber d)) (s.chamber d)
          (λ same h. rest_zero 0 (n m.ship) (fresh.moored d m h))
          (λ other h. rest_zero 0 (n m.ship) (fresh.moored d m h));
      going = λ d q. pick (λ x. x.going ≡ Under q → AreIn n q) d c (chamber_after I P t c p Go (s.chamber d)) (s.chamber d)
          (λ same e. subst (AreIn n) (ap going_or_zero e) (λ k within. rest_zero 0 (n (ship_of (lockage_at P p) k)) (fresh.moored c (record { ship = ship_of (lockage_at P p) k; lockage = p }) (may.all k within))))
          (λ other e k within. rest_zero 0 (n (ship_of (lockage_at P q) k)) (fresh.going d q e k within));
      gone = λ q h k within. rest_zero 0 (n (ship_of (lockage_at P q) k)) (fresh.gone q h k within);
    }
    fresh-next Done s n may fresh = record {
      few = λ i. rest_few 0 (n i) (fresh.few i);
      served = λ i h. elim (among-append (lockage_at P p).ships s.served i h) [
        | inl own ↦
            let at = IsAmong-place (lockage_at P p).ships i own in
            subst (λ i. n i ≡ 0) at.2 (rest_zero 0 (n (ship_of (lockage_at P p) at.0)) (fresh.going c p may.going at.0 at.1))
        | inr old ↦ rest_zero 0 (n i) (fresh.served i old)
      ];
      moored = λ d m. pick (λ x. IsAmong x.moored m → n m.ship ≡ 0) d c (chamber_after I P t c p Done (s.chamber d)) (s.chamber d)
          (λ same h. absurd h)
          (λ other h. rest_zero 0 (n m.ship) (fresh.moored d m h));
      going = λ d q. pick (λ x. x.going ≡ Under q → AreIn n q) d c (chamber_after I P t c p Done (s.chamber d)) (s.chamber d)
          (λ same e. absurd (idle_not_under q e))
          (λ other e k within. rest_zero 0 (n (ship_of (lockage_at P q) k)) (fresh.going d q e k within));
      gone = λ q h. elim h [
        | inl e ↦ subst (AreIn n) e (λ k within. rest_zero 0 (n (ship_of (lockage_at P p) k)) (fresh.going c p may.going k within))
        | inr old ↦ λ k within. rest_zero 0 (n (ship_of (lockage_at P q) k)) (fresh.gone q old k within)
      ];
    }

    -- a ship that is yet to be moored waits
    enter : (a : Act) (s : State) (n : ℕ → ℕ) → MayDo I P t c p a (s.chamber c) → IsFresh s (λ i. moor_count a i + n i) → MayEnter p a s
    enter Turn s n may fresh = tt
    enter (Moor i) s n may fresh = record {
      waits = λ h. not_none i (n i) (subst (λ j. cond (nat_eq i j) 1 0 + n j ≡ 0) may.ship (fresh.gone p h may.place may.within));
      unserved = λ h. not_none i (n i) (fresh.served i h);
      unmoored = λ d q h. not_none i (n i) (fresh.moored d (record { ship = i; lockage = q }) h);
    }
    enter Go s n may fresh = tt
    enter Done s n may fresh = tt

  -- the first beat is its chamber's first
  first : (b : Beat) (bs : List Beat) (s : State) → RunsHere (s.chamber b.chamber) (beats_at b.chamber (b ∷ bs)) → RunsHere (s.chamber b.chamber) (b ∷ beats_at b.chamber bs)
  first b bs s runs = subst (λ t. RunsHere (s.chamber b.chamber) (cond t (b ∷ beats_at b.chamber bs) (beats_at b.chamber bs))) (eq-eqb b.chamber b.chamber refl) runs

  -- after it each chamber may do what is left
  next : (b : Beat) (bs : List Beat) (s : State) → ((c : ℕ) → RunsHere (s.chamber c) (beats_at c (b ∷ bs))) → (d : ℕ) → RunsHere ((after I P b s).chamber d) (beats_at d bs)
  next b bs s each d =
      pick (λ x. RunsHere x (beats_at d bs)) d b.chamber (chamber_after I P b.minute b.chamber b.lockage b.act (s.chamber d)) (s.chamber d)
      (λ same. subst (λ e. RunsHere (chamber_after I P b.minute b.chamber b.lockage b.act (s.chamber e)) (beats_at e bs)) (sym same) (first b bs s (each b.chamber)).1)
      (λ other. elim (eqb_tells b.chamber d) [
        | inl same ↦ absurd (other (sym same.1))
        | inr miss ↦ subst (λ t. RunsHere (s.chamber d) (cond t (b ∷ beats_at d bs) (beats_at d bs))) miss.0 (each d)
      ])

  pub runs-lawful : (bs : List Beat) (s : State) → ((c : ℕ) → RunsHere (s.chamber c) (beats_at c bs)) → IsFresh s (moors_in bs) → AreLawfulBeats I P bs s
  runs-lawful [] s each fresh = tt
  runs-lawful (b ∷ bs) s each fresh =
      let here = (first b bs s (each b.chamber)).0 in (
        record { here = here; elsewhere = enter b.minute b.chamber b.lockage b.act s (moors_in bs) here fresh },
        runs-lawful bs (after I P b s) (next b bs s each) (fresh-next b.minute b.chamber b.lockage b.act s (moors_in bs) here fresh),
      )

  -- and every chamber is still in the end
  pub runs-still : (bs : List Beat) (s : State) → ((c : ℕ) → RunsHere (s.chamber c) (beats_at c bs)) → (c : ℕ) → IsStill ((after_all I P bs s).chamber c)
  runs-still [] s each c = each c
  runs-still (b ∷ bs) s each c = runs-still bs (after I P b s) (next b bs s each) c

  pub gone-kept : (p q : ℕ) (a : Act) (gone : List ℕ) → IsAmong gone q → IsAmong (gone_after p a gone) q
  gone-kept p q Turn gone h = h
  gone-kept p q (Moor i) gone h = h
  gone-kept p q Go gone h = h
  gone-kept p q Done gone h = inr h

  served-kept : (p i : ℕ) (a : Act) (served : List ℕ) → IsAmong served i → IsAmong (served_after P p a served) i
  served-kept p i Turn served h = h
  served-kept p i (Moor j) served h = h
  served-kept p i Go served h = h
  served-kept p i Done served h = IsAmong-right (lockage_at P p).ships served i h

  all-gone-kept : (bs : List Beat) (s : State) (q : ℕ) → IsAmong s.gone q → IsAmong (after_all I P bs s).gone q
  all-gone-kept [] s q h = h
  all-gone-kept (b ∷ bs) s q h = all-gone-kept bs (after I P b s) q (gone-kept b.lockage q b.act s.gone h)

  all-served-kept : (bs : List Beat) (s : State) (i : ℕ) → IsAmong s.served i → IsAmong (after_all I P bs s).served i
  all-served-kept [] s i h = h
  all-served-kept (b ∷ bs) s i h = all-served-kept bs (after I P b s) i (served-kept b.lockage i b.act s.served h)

  -- a lockage that ends on the day is gone in the end, and its ships are served
  pub done-gone : (bs : List Beat) (s : State) (p : ℕ) (l : Lockage) → IsAmong bs (done_beat I p l) → IsAmong (after_all I P bs s).gone p
  done-gone [] s p l h = absurd h
  done-gone (b ∷ bs) s p l (inl e) = subst (λ b. IsAmong (after_all I P bs (after I P b s)).gone p) (sym e) (all-gone-kept bs (after I P (done_beat I p l) s) p (inl refl))
  done-gone (b ∷ bs) s p l (inr h) = done-gone bs (after I P b s) p l h

  pub done-served : (bs : List Beat) (s : State) (p : ℕ) (l : Lockage) (i : ℕ) → IsAmong bs (done_beat I p l) → IsAmong (lockage_at P p).ships i → IsAmong (after_all I P bs s).served i
  done-served [] s p l i h own = absurd h
  done-served (b ∷ bs) s p l i (inl e) own =
      subst (λ b. IsAmong (after_all I P bs (after I P b s)).served i) (sym e) (all-served-kept bs (after I P (done_beat I p l) s) i (IsAmong-left (lockage_at P p).ships s.served i own))
  done-served (b ∷ bs) s p l i (inr h) own = done-served bs (after I P b s) p l i h own
