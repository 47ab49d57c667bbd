-- The beats of what has begun in a chamber, and how they leave it.
use Rattle.std.proofs.Common.{◌≡◌, ℕ, ◌+◌, ◌<◌, ◌≤◌, List, [], ◌∷◌, ◌++◌, length, map, cond, Bool, true, false, nat_lt, All, Option, Some, None, inl, inr, refl, sym, ap, ◌∙◌, subst, arith}
use Rattle.std.specs.Prelude.{◌&&◌}
use Rattle.std.proofs.lemmas.Bool.{lt-ltb, ltb-true}
use Rattle.std.proofs.lemmas.List.{append_assoc, append-nil}
use Rattle.std.proofs.lemmas.List.Elements.{All-head, All-tail}
use Rattle.lock_model.specs.Fleet.{chamber_at}
use Rattle.lock_model.specs.declared.chamber.Chamber.{Chamber}
use Rattle.lock_model.specs.declared.instance.Instance.{Instance}
use Rattle.lock_model.specs.declared.plan.Lockage.{Lockage}
use Rattle.lock_model.specs.declared.plan.Plan.{Plan}
use Rattle.lock_model.specs.declared.way.Stand.{Stand}
use Rattle.lock_model.specs.declared.way.Stand.TheVariants.{Low, High}
use Rattle.lock_model.specs.declared.way.Way.{Way}
use Rattle.lock_model.specs.declared.way.Way.TheVariants.{Up, Down}
use Rattle.lock_rules.specs.Lawful.{AreLawfulFrom, duration_of, stand_after}
use Rattle.lock_rules.specs.Lines.{lockage_at, group_of, line_of}
use Rattle.lock_rules.specs.Plan.{IsLegalPart}
use Rattle.lock_rules.proofs.AmongLemmas.{among-append}
use Rattle.lock_rules.proofs.FreeLemmas.{first_free-from}
use Rattle.lock_rules.proofs.LineLemmas.{All-line}
use Rattle.chamber_times.specs.FirstBreak.{stand_after_all, done_after_all}
use Rattle.chamber_times.specs.Walk.{lockages_at, line_places}
use Rattle.chamber_times.proofs.WalkLemmas.{lockages_at-line}
use Rattle.list_laws.specs.Among.{IsAmong}
use Rattle.day_play.specs.Order.{minute_of, IsOrdered}
use Rattle.day_play.specs.State.{other_side}
use Rattle.day_play.specs.Playing.{moor_order, moor_beats, turn_beats, go_beat, done_beat, lockage_beats, line_beats, chamber_beats}
use Rattle.day_play.specs.declared.beat.Act.{Act}
use Rattle.day_play.specs.declared.beat.Act.TheVariants.{Turn, Moor, Go, Done}
use Rattle.day_play.specs.declared.beat.Beat.{Beat}
use Rattle.day_play.proofs.CourseLemmas.{line-order}
use Rattle.day_play.proofs.DayLemmas.{chamber-own}
use Rattle.day_play.proofs.OrderLemmas.{ordered-lower}
use Rattle.day_play.proofs.PlaceLemmas.{line_places-from}
use Rattle.day_play.proofs.TrackLemmas.{early, left_with}
use Rattle.replan.specs.Begun.{needs_turn, turn_minute, turn_for, begun_turn, turned_where, chamber_begun}
use Rattle.replan.specs.GoingOn.{turn_beats_for, begun_beats}
use Rattle.replan.specs.Kept.{kept_of, CanBeKept}
use Rattle.replan.specs.Rest.{chamber_after}
use Rattle.replan.proofs.JoinLemmas.{kept-early}

-- ---- the begun turn

-- it has begun before the minute
turn-early : (P : Plan) (M : ℕ) (k : Chamber) (o : Option ℕ) (p : ℕ) → turn_for P M k o ≡ Some p → turn_minute k < M
turn-early P M k None p e = absurd (none_some e)
  where
    none_some : None ≡ Some p → ⊥
    none_some e = cc
turn-early P M k (Some q) p e = by (needs_turn k.stands (lockage_at P q).way) (nat_lt (turn_minute k) M) refl e
  where
    by : (needs soon : Bool) → nat_lt (turn_minute k) M ≡ soon → cond (needs && soon) (Some q) None ≡ Some p → turn_minute k < M
    by true true soon e = ltb-true (turn_minute k) M soon
    by true false soon e = cc
    by false true soon e = cc
    by false false soon e = cc

pub begun-early : (I : Instance) (P : Plan) (M c p : ℕ) → begun_turn I P M c ≡ Some p → turn_minute (chamber_after I (kept_of P M) c) < M
begun-early I P M c p e = turn-early P M (chamber_after I (kept_of P M) c) _ p e

pub turn-own : (c t : ℕ) (o : Option ℕ) (x : Beat) → IsAmong (turn_beats_for c t o) x → x.chamber ≡ c
turn-own c t None x h = absurd h
turn-own c t (Some p) x (inl e) = sym (ap (λ (b : Beat). b.chamber) e)
turn-own c t (Some p) x (inr none) = absurd none

pub turn-order : (c t low : ℕ) (o : Option ℕ) (rest : List Beat) → low ≤ t → IsOrdered minute_of t rest → IsOrdered minute_of low (turn_beats_for c t o ++ rest)
turn-order c t low None rest after next = ordered-lower minute_of t low rest after next
turn-order c t low (Some p) rest after next = (after, next)

-- ---- how some beats leave a chamber

-- acts that begin no lockage
abbrev IsNoGo : Act → Type 0
IsNoGo Turn = Unit {0}
IsNoGo (Moor i) = Unit {0}
IsNoGo Go = ⊥
IsNoGo Done = Unit {0}

abbrev AreNoGo : List Beat → Type 0
AreNoGo [] = Unit {0}
AreNoGo (b ∷ bs) = IsNoGo b.act × AreNoGo bs

module _ (I : Instance) (c M : ℕ) where
  -- such beats leave it somehow
  skip-left : (xs ys : List Beat) (ls : List Lockage) (x : Stand × ℕ) → AreNoGo xs → (y : Stand × ℕ) × (left_with I c (early M (xs ++ ys)) ls x ≡ left_with I c (early M ys) ls y)
  skip-left [] ys ls x none = (x, refl)
  skip-left (b ∷ xs) ys ls x none = by (nat_lt b.minute M) b.act none.0 (λ z. skip-left xs ys ls z none.1)
    where
      by : (soon : Bool) (a : Act) → IsNoGo a → ((z : Stand × ℕ) → (y : Stand × ℕ) × (left_with I c (early M (xs ++ ys)) ls z ≡ left_with I c (early M ys) ls y))
          → (y : Stand × ℕ) × (left_with I c (cond soon (record { minute = b.minute; chamber = b.chamber; lockage = b.lockage; act = a } ∷ early M (xs ++ ys)) (early M (xs ++ ys))) ls x ≡ left_with I c (early M ys) ls y)
      by false a none rest = rest x
      by true Turn none rest = rest (other_side x.0, b.minute + (chamber_at I c).turn)
      by true (Moor i) none rest = rest x
      by true Go none rest = absurd none
      by true Done none rest = rest x

  turns-no_go : (p : ℕ) (l : Lockage) (from : ℕ) (stand : Stand) (way : Way) → AreNoGo (turn_beats I p l from stand way)
  turns-no_go p l from Low Up = tt
  turns-no_go p l from Low Down = (tt, tt)
  turns-no_go p l from High Up = (tt, tt)
  turns-no_go p l from High Down = tt

  moors-no_go : (p : ℕ) (l : Lockage) (ks : List ℕ) → AreNoGo (moor_beats p l ks)
  moors-no_go p l [] = tt
  moors-no_go p l (k ∷ ks) = (tt, moors-no_go p l ks)

  -- a beginning and an end, of which the beginning is before the minute
  ends-left : (p : ℕ) (l : Lockage) (ys : List Beat) (ls : List Lockage) (x : Stand × ℕ) → l.start < M
      → left_with I c (early M (go_beat p l ∷ done_beat I p l ∷ ys)) (l ∷ ls) x ≡ left_with I c (early M ys) ls (stand_after l.way, l.start + duration_of I c l.ships)
  ends-left p l ys ls x soon =
      ap (λ t. left_with I c (cond t (go_beat p l ∷ early M (done_beat I p l ∷ ys)) (early M (done_beat I p l ∷ ys))) (l ∷ ls) x) (lt-ltb l.start M soon)
      ∙ over (nat_lt (done_beat I p l).minute M)
    where
      over : (t : Bool) → left_with I c (cond t (done_beat I p l ∷ early M ys) (early M ys)) ls (stand_after l.way, l.start + duration_of I c l.ships) ≡ left_with I c (early M ys) ls (stand_after l.way, l.start + duration_of I c l.ships)
      over true = refl
      over false = refl

  lockage-left : (p : ℕ) (l : Lockage) (stand : Stand) (from : ℕ) (ys : List Beat) (ls : List Lockage) (x : Stand × ℕ) → l.start < M
      → left_with I c (early M (lockage_beats I p l stand from ++ ys)) (l ∷ ls) x ≡ left_with I c (early M ys) ls (stand_after l.way, l.start + duration_of I c l.ships)
  lockage-left p l stand from ys ls x soon =
      let ts = turn_beats I p l from stand l.way in
      let ms = moor_beats p l (moor_order I l) in
      let ends = go_beat p l ∷ done_beat I p l ∷ [] in
      let all : (ts ++ (ms ++ ends)) ++ ys ≡ ts ++ (ms ++ (ends ++ ys)) = append_assoc ts (ms ++ ends) ys ∙ ap (λ xs. ts ++ xs) (append_assoc ms ends ys) in
      let first = skip-left ts (ms ++ (ends ++ ys)) (l ∷ ls) x (turns-no_go p l from stand l.way) in
      let second = skip-left ms (ends ++ ys) (l ∷ ls) first.0 (moors-no_go p l (moor_order I l)) in
      ap (λ xs. left_with I c (early M xs) (l ∷ ls) x) all ∙ first.1 ∙ second.1 ∙ ends-left p l ys ls second.0 soon

  -- a line whose lockages start before the minute, and what comes then
  line-left : (P : Plan) (stand : Stand) (from : ℕ) (ps : List ℕ) (ys : List Beat) (x : Stand × ℕ) → All (λ l. l.start < M) (lockages_at P ps)
      → left_with I c (early M (line_beats I P stand from ps ++ ys)) (lockages_at P ps) x ≡ left_with I c (early M ys) [] (stand_after_all x.0 (lockages_at P ps), done_after_all I c x.1 (lockages_at P ps))
  line-left P stand from [] ys x soon = refl
  line-left P stand from (q ∷ ps) ys x soon =
      let l = lockage_at P q in
      let rest = line_beats I P (stand_after l.way) (l.start + duration_of I l.chamber l.ships) ps in
      ap (λ xs. left_with I c (early M xs) (l ∷ lockages_at P ps) x) (append_assoc (lockage_beats I q l stand from) rest ys)
      ∙ lockage-left q l stand from (rest ++ ys) (lockages_at P ps) x (All-head (λ (l : Lockage). l.start < M) l (lockages_at P ps) soon)
      ∙ line-left P (stand_after l.way) (l.start + duration_of I l.chamber l.ships) ps ys (stand_after l.way, l.start + duration_of I c l.ships) (All-tail (λ (l : Lockage). l.start < M) l (lockages_at P ps) soon)

-- ---- what has begun

module _ (I : Instance) (P : Plan) (M c : ℕ) where
  abbrev pub K : Plan
  K = kept_of P M

  line-early : All (λ l. l.start < M) (lockages_at K (line_places K c))
  line-early = subst (All (λ (l : Lockage). l.start < M)) (sym (lockages_at-line K c)) (All-line (λ l. l.start < M) K c (kept-early P M))

  turn-left : (o : Option ℕ) → ((p : ℕ) → o ≡ Some p → turn_minute (chamber_after I K c) < M)
      → left_with I c (early M (turn_beats_for c (turn_minute (chamber_after I K c)) o)) [] ((chamber_after I K c).stands, (chamber_after I K c).opens)
      ≡ ((turned_where o (chamber_after I K c)).stands, (turned_where o (chamber_after I K c)).opens)
  turn-left None soon = refl
  turn-left (Some p) soon =
      let t = turn_minute (chamber_after I K c) in
      let turn : Beat = record { minute = t; chamber = c; lockage = p; act = Turn } in
      ap (λ b. left_with I c (cond b (turn ∷ []) []) [] ((chamber_after I K c).stands, (chamber_after I K c).opens)) (lt-ltb t M (soon p refl))

  -- WHAT HAS BEGUN LEAVES THE CHAMBER SO.
  pub begun-left : left_with I c (early M (begun_beats I P M c)) (line_of K c) ((chamber_at I c).stands, (chamber_at I c).opens) ≡ ((chamber_begun I P M c).stands, (chamber_begun I P M c).opens)
  begun-left =
      let k = chamber_after I K c in
      let turn = turn_beats_for c (turn_minute k) (begun_turn I P M c) in
      let x : Stand × ℕ = ((chamber_at I c).stands, (chamber_at I c).opens) in
      ap (λ ls. left_with I c (early M (chamber_beats I K c ++ turn)) ls x) (sym (lockages_at-line K c))
      ∙ line-left I c M K (chamber_at I c).stands (chamber_at I c).opens (line_places K c) turn x line-early
      ∙ ap (λ ls. left_with I c (early M turn) [] (stand_after_all (chamber_at I c).stands ls, done_after_all I c (chamber_at I c).opens ls)) (lockages_at-line K c)
      ∙ turn-left (begun_turn I P M c) (begun-early I P M c)

  pub begun-own : (x : Beat) → IsAmong (begun_beats I P M c) x → x.chamber ≡ c
  begun-own x h = elim (among-append (chamber_beats I K c) (turn_beats_for c (turn_minute (chamber_after I K c)) (begun_turn I P M c)) x h) [
    | inl first ↦ chamber-own I K c x first
    | inr turn ↦ turn-own c (turn_minute (chamber_after I K c)) (begun_turn I P M c) x turn
  ]

  -- the begun lockages have lawful starts
  pub kept-lawful : IsLegalPart I K → c < length I.chambers
      → AreLawfulFrom I c (chamber_at I c).stands (chamber_at I c).opens (map group_of (lockages_at K (line_places K c))) (map (λ l. l.start) (lockages_at K (line_places K c)))
  kept-lawful part known =
      subst (λ ls. AreLawfulFrom I c (chamber_at I c).stands (chamber_at I c).opens (map group_of ls) (map (λ l. l.start) ls)) (sym (lockages_at-line K c)) (part.timely c known).lawful

  pub begun-rises : CanBeKept I K → c < length I.chambers → IsOrdered minute_of 0 (begun_beats I P M c)
  begun-rises can known =
      let k = chamber_after I K c in
      let t = turn_minute k in
      let done : done_after_all I c (chamber_at I c).opens (lockages_at K (line_places K c)) ≡ k.opens = ap (done_after_all I c (chamber_at I c).opens) (lockages_at-line K c) in
      let turn : IsOrdered minute_of k.opens (turn_beats_for c t (begun_turn I P M c)) =
      subst (IsOrdered minute_of k.opens) (append-nil (turn_beats_for c t (begun_turn I P M c))) (turn-order c t k.opens (begun_turn I P M c) [] (first_free-from k.closures k.turn k.opens) tt) in
      ordered-lower minute_of (chamber_at I c).opens 0 (begun_beats I P M c) (omega arith)
      (line-order I K c (chamber_at I c).stands (chamber_at I c).opens (line_places K c) (turn_beats_for c t (begun_turn I P M c)) (λ q among. (line_places-from K c q among).1) (kept-lawful can.legal known)
      (subst (λ n. IsOrdered minute_of n (turn_beats_for c t (begun_turn I P M c))) (sym done) turn))
