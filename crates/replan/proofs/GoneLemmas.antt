-- Every legal plan that can still be carried out comes from a legal plan of the rest as lived.
use Rattle.std.proofs.Common.{◌≡◌, ℕ, ◌+◌, ◌<◌, ◌≤◌, List, [], ◌∷◌, ◌++◌, length, map, filter, max, get_or, Option, Some, None, inl, refl, sym, ap, ◌∙◌, subst, arith}
use Rattle.std.proofs.lemmas.List.{map-append, append_cancel_left, append-nil}
use Rattle.std.proofs.lemmas.List.Elements.{filter-append}
use Rattle.lock_model.specs.Fleet.{chamber_at}
use Rattle.lock_model.specs.declared.chamber.Chamber.{Chamber}
use Rattle.lock_model.specs.declared.way.Stand.{Stand}
use Rattle.lock_model.specs.declared.way.Stand.TheVariants.{Low, High}
use Rattle.lock_model.specs.declared.way.Way.{Way}
use Rattle.lock_model.specs.declared.way.Way.TheVariants.{Up, Down}
use Rattle.lock_model.specs.declared.instance.Instance.{Instance}
use Rattle.lock_model.specs.declared.plan.Lockage.{Lockage}
use Rattle.lock_model.specs.declared.plan.Plan.{Plan}
use Rattle.lock_rules.specs.Lawful.{HasTurned, IsFree, AreLawfulFrom}
use Rattle.lock_rules.specs.Lines.{no_lockage, lockage_at, group_of, line_of, groups_of}
use Rattle.lock_rules.specs.Plan.{IsLegal, cost_of}
use Rattle.lock_rules.proofs.LegalLemmas.{legal-chambers}
use Rattle.chamber_times.specs.Walk.{lockages_at}
use Rattle.chamber_times.proofs.WalkLemmas.{lockages_at-line}
use Rattle.day_play.specs.Rising.{AreRising}
use Rattle.day_play.specs.State.{Going, Idle, Under, opening, after_all}
use Rattle.day_play.specs.Lawful.{AreLawfulBeats}
use Rattle.day_play.specs.declared.beat.Beat.{Beat}
use Rattle.day_play.proofs.LegalDayLemmas.{went-line}
use Rattle.day_play.proofs.MixLemmas.{own-once}
use Rattle.day_play.proofs.RunLemmas.{beats_at}
use Rattle.day_play.proofs.TrackLemmas.{early, late, early-late, early-early, late-late, before-early, early-at, lawful-parts, went-append, went-minutes, left_with, left-unnumbered, IsLeftBy, IsLeftSo, beats-left, IsWaitingBy, StartsNext, next-starts}
use Rattle.day_play.proofs.WentLemmas.{went}
use Rattle.replan.specs.Begun.{turned_where, begun_turn, chamber_begun}
use Rattle.replan.specs.GoingOn.{begun_beats, day_begun, CanGoOn}
use Rattle.replan.specs.Kept.{starts_before, kept_of}
use Rattle.replan.specs.Lived.{opened_from, IsLivedRest, CanBeLived}
use Rattle.replan.specs.Rest.{chamber_after, ships_left, added_of, IsRest}
use Rattle.replan.specs.Together.{renumbered, ComesFrom}
use Rattle.replan.proofs.AlikeLemmas.{legal-alike, lawful-alike, cost-alike}
use Rattle.replan.proofs.BackLemmas.{back, back-legal, back-lines, back-cost, back-late}
use Rattle.replan.proofs.BegunLemmas.{begun-left, begun-own, begun-rises}
use Rattle.replan.proofs.JoinLemmas.{all-before, none-before, line-joined, kept-early}
use Rattle.replan.proofs.LeftLemmas.{count-after}
use Rattle.replan.proofs.LivedLemmas.{chamber-lived, known_rest, is-known_rest, known-ships, known-count, known-lived}

-- ---- what the day says of a chamber

module _ (I : Instance) (P : Plan) (M : ℕ) (can : CanBeLived I P M) (W : Plan) (legal : IsLegal I W) (go : CanGoOn I P M W) where
  rising : AreRising W
  rising = record { each = λ p known. (legal.lockage p no_lockage known).rising }

  abbrev first : List Beat
  first = early M go.day

  abbrev rest : List Beat
  rest = late M go.day

  split : go.day ≡ first ++ rest
  split = early-late M 0 go.day go.lawful.rising

  parts : AreLawfulBeats I W first (opening I) × AreLawfulBeats I W rest (after_all I W first (opening I))
  parts = lawful-parts I W first rest (opening I) (subst (λ bs. AreLawfulBeats I W bs (opening I)) split go.lawful.lawful)

  module _ (c : ℕ) (known : c < length I.chambers) where
    whole-line : lockages_at W (went c first) ++ lockages_at W (went c rest) ≡ line_of W c
    whole-line =
        sym (map-append (lockage_at W) (went c first) (went c rest))
        ∙ ap (lockages_at W) (sym (went-append c first rest) ∙ sym (ap (went c) split) ∙ sym (went-line I W rising go.day go.lawful c known))
        ∙ lockages_at-line W c

    first-line : lockages_at W (went c first) ≡ line_of (kept_of P M) c
    first-line =
        let A = lockages_at W (went c first) in
        let B = lockages_at W (went c rest) in
        sym (append-nil A)
        ∙ sym (λ i. all-before M A (went-minutes I W c (λ t. t < M) first (opening I) parts.0 (early-early M go.day)) i ++ none-before M B (went-minutes I W c (λ t. M ≤ t) rest (after_all I W first (opening I)) parts.1 (late-late M go.day)) i)
        ∙ sym (filter-append (starts_before M) A B)
        ∙ ap (filter (starts_before M)) whole-line
        ∙ go.keeps.lines c

    -- the lockages that haven't begun
    rest-line : (ls : List Lockage) → line_of W c ≡ line_of (kept_of P M) c ++ ls → lockages_at W (went c rest) ≡ ls
    rest-line ls is =
        append_cancel_left (lockages_at W (went c first)) (lockages_at W (went c rest)) ls (whole-line ∙ is ∙ ap (λ xs. xs ++ ls) (sym first-line))

    -- the beats before the minute are those of what has begun
    begun-at : beats_at c (day_begun I P M) ≡ begun_beats I P M c
    begun-at = own-once c (begun_beats I P M) (length I.chambers) (begun-own I P M) (begun-rises I P M c can.kept) 0 (length I.chambers) [] tt refl (omega arith) (omega (arith, known)) known

    abbrev opened : Stand × ℕ
    opened = ((chamber_at I c).stands, (chamber_at I c).opens)

    first-left : left_with I c (beats_at c first) (lockages_at W (went c first)) opened ≡ ((chamber_begun I P M c).stands, (chamber_begun I P M c).opens)
    first-left =
        let ls = line_of (kept_of P M) c in
        ap (λ xs. left_with I c (beats_at c first) xs opened) first-line
        ∙ sym (left-unnumbered I c (beats_at c first) ls opened)
        ∙ ap (λ bs. left_with I c bs ls opened) (sym (before-early M c go.day) ∙ go.goes_on.before c ∙ before-early M c (day_begun I P M))
        ∙ left-unnumbered I c (beats_at c (early M (day_begun I P M))) ls opened
        ∙ ap (λ bs. left_with I c bs ls opened) (early-at M c (day_begun I P M) ∙ ap (early M) begun-at)
        ∙ begun-left I P M c

    left-so : IsLeftSo I c ((after_all I W first (opening I)).chamber c) ((chamber_begun I P M c).stands, (chamber_begun I P M c).opens)
    left-so = subst (IsLeftSo I c ((after_all I W first (opening I)).chamber c)) first-left (beats-left I c W first (opening I) opened parts.0 (refl, refl))

    abbrev stand : Stand
    stand = (chamber_begun I P M c).stands

    abbrev from : ℕ
    from = max (chamber_begun I P M c).opens M

    waits : (g : Going) (side : Stand) (free : ℕ) → IsLeftBy I c g side free (stand, (chamber_begun I P M c).opens) → IsWaitingBy I W c M stand from g side free
    waits Idle side free left = (λ t later above. omega (arith, left.1, later, above), inl left.0)
    waits (Under p) side free left = (λ t later above. omega (arith, left.1, later, above), left.0)

    starts : (q : ℕ) (qs : List ℕ) → went c rest ≡ q ∷ qs → StartsNext I W c M stand from q
    starts q qs is =
        let s = (after_all I W first (opening I)).chamber c in
        next-starts I W c M stand from rest (after_all I W first (opening I)) parts.1 (late-late M go.day) (waits s.going s.side s.free left-so) q qs is

    -- THE FIRST LOCKAGE THAT HASN'T BEGUN starts when the chamber as lived allows it.
    pub first-starts : (l : Lockage) (ls : List Lockage) → line_of W c ≡ line_of (kept_of P M) c ++ l ∷ ls → (from ≤ l.start) × HasTurned (chamber_at I c) stand l.way from l.start
    first-starts l ls is = by (went c rest) refl (rest-line (l ∷ ls) is)
      where
        by : (ps : List ℕ) → went c rest ≡ ps → lockages_at W ps ≡ l ∷ ls → (from ≤ l.start) × HasTurned (chamber_at I c) stand l.way from l.start
        by [] went_is e = cc
        by (q ∷ qs) went_is e =
            let same : lockage_at W q ≡ l = ap (λ xs. get_or xs 0 no_lockage) e in
            let own = starts q qs went_is in
            subst (λ (l : Lockage). (from ≤ l.start) × HasTurned (chamber_at I c) stand l.way from l.start) same (own.later, own.turned)

-- ---- from the rest of a day that is known beforehand to the rest as lived

turned-like : (a b : Chamber) (stand : Stand) (way : Way) (start to : ℕ) → a.closures ≡ b.closures → a.turn ≡ b.turn → HasTurned a stand way start to → HasTurned b stand way start to
turned-like a b Low Up start to closures turn h = h
turned-like a b Low Down start to closures turn h = record {
  at = h.at;
  after = h.after;
  before = omega (arith, h.before, turn);
  free = subst (λ n. IsFree b.closures h.at (h.at + n)) turn (subst (λ ks. IsFree ks h.at (h.at + a.turn)) closures h.free);
}
turned-like a b High Up start to closures turn h = record {
  at = h.at;
  after = h.after;
  before = omega (arith, h.before, turn);
  free = subst (λ n. IsFree b.closures h.at (h.at + n)) turn (subst (λ ks. IsFree ks h.at (h.at + a.turn)) closures h.free);
}
turned-like a b High Down start to closures turn h = h

-- a line may start later in the chamber if its first lockage does
restarted : (J : Instance) (c : ℕ) (old now : Stand) (sooner later : ℕ) (ls : List Lockage)
    → ((l : Lockage) (ms : List Lockage) → ls ≡ l ∷ ms → (later ≤ l.start) × HasTurned (chamber_at J c) now l.way later l.start)
    → AreLawfulFrom J c old sooner (map group_of ls) (map (λ l. l.start) ls) → AreLawfulFrom J c now later (map group_of ls) (map (λ l. l.start) ls)
restarted J c old now sooner later [] starts_so lawful = tt
restarted J c old now sooner later (l ∷ ls) starts_so lawful =
    let own = starts_so l ls refl in
    (record { arrived = lawful.0.arrived; later = own.0; turned = own.1; free = lawful.0.free }, lawful.1)

closures-where : (M : ℕ) (o : Option ℕ) (k : Chamber) → (opened_from M (turned_where o k)).closures ≡ k.closures
closures-where M None k = refl
closures-where M (Some p) k = refl

turn-where : (M : ℕ) (o : Option ℕ) (k : Chamber) → (opened_from M (turned_where o k)).turn ≡ k.turn
turn-where M None k = refl
turn-where M (Some p) k = refl

module _ (I R : Instance) (P : Plan) (M : ℕ) (can : CanBeLived I P M) (left : IsLivedRest I P M R) (W : Plan) (legal : IsLegal I W) (go : CanGoOn I P M W) where
  abbrev K : Plan
  K = kept_of P M

  abbrev J : Instance
  J = known_rest I R P M can left

  pub is_rest : IsRest I K M J
  is_rest = is-known_rest I R P M can left

  -- the plan of the rest
  abbrev pub gone_back : Plan
  gone_back = back I J K M is_rest can.kept.legal W legal go.keeps

  gone-known : IsLegal J gone_back
  gone-known = back-legal I J K M is_rest can.kept.legal W legal go.keeps

  gone-timely : (c : ℕ) → c < length R.chambers → AreLawfulFrom R c (chamber_at R c).stands (chamber_at R c).opens (groups_of gone_back c) (map (λ l. l.start) (line_of gone_back c))
  gone-timely c within =
      let there : c < length J.chambers = subst (λ n. c < n) (known-count I R P M can left) within in
      let own : c < length I.chambers = subst (λ n. c < n) (count-after I K) there in
      let lived = chamber-lived I R P M can left c own in
      let o = begun_turn I P M c in
      let k = chamber_after I K c in
      let like : (chamber_at I c).closures ≡ (chamber_at R c).closures = sym (ap (λ (x : Chamber). x.closures) lived ∙ closures-where M o k) in
      let turn : (chamber_at I c).turn ≡ (chamber_at R c).turn = sym (ap (λ (x : Chamber). x.turn) lived ∙ turn-where M o k) in
      let known = lawful-alike J R (sym (known-ships I R P M can left)) (sym (known-count I R P M can left)) (known-lived I R P M can left) c (chamber_at J c).stands (chamber_at J c).opens
      (groups_of gone_back c) (map (λ l. l.start) (line_of gone_back c)) there (gone-known.timely c there).lawful in
      restarted R c (chamber_at J c).stands (chamber_at R c).stands (chamber_at J c).opens (chamber_at R c).opens (line_of gone_back c)
      (λ l ls is.
      let own_starts = first-starts I P M can W legal go c own (renumbered (ships_left I K) l) (map (renumbered (ships_left I K)) ls)
      (back-lines I J K M is_rest can.kept.legal W legal go.keeps c ∙ ap (λ ms. line_of K c ++ map (renumbered (ships_left I K)) ms) is) in
      subst (λ (x : Chamber). (x.opens ≤ l.start) × HasTurned (chamber_at R c) x.stands l.way x.opens l.start) (sym lived)
      (own_starts.0, turned-like (chamber_at I c) (chamber_at R c) (chamber_begun I P M c).stands l.way (max (chamber_begun I P M c).opens M) l.start like turn own_starts.1))
      known

  pub gone-legal : IsLegal R gone_back
  gone-legal = record {
    once = λ s within. gone-known.once s (subst (λ ss. s < length ss) (known-ships I R P M can left) within);
    lockage = λ k d within. legal-alike J R (sym (known-ships I R P M can left)) (sym (known-count I R P M can left)) (known-lived I R P M can left) (get_or gone_back.lockages k d) (gone-known.lockage k d within);
    timely = λ c within. record { lawful = gone-timely c within };
  }

  pub gone-cost : cost_of I W ≡ cost_of R gone_back + added_of I K M
  gone-cost =
      back-cost I J K M is_rest can.kept.legal W legal go.keeps
      ∙ ap (λ n. n + added_of I K M) (cost-alike J R (sym (known-ships I R P M can left)) (sym (known-count I R P M can left)) (known-lived I R P M can left) gone_back (legal-chambers J gone_back gone-known))

  pub gone-comes : ComesFrom I R K M W gone_back
  gone-comes = record {
    legal = gone-legal;
    lines = λ c.
        line-joined K gone_back M (ships_left I K) c (kept-early P M) (back-late I J K M is_rest can.kept.legal W legal go.keeps)
        ∙ sym (back-lines I J K M is_rest can.kept.legal W legal go.keeps c);
    cost = gone-cost;
  }
