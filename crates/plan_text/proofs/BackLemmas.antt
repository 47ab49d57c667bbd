-- Lines that were printed read back, and so does the whole text.
use Rattle.std.proofs.Common.{◌≡◌, ℕ, suc, ◌+◌, ◌<◌, ◌≤◌, ◌==◌, ◌||◌, ◌∙◌, Bool, true, false, nat_lt, List, [], ◌∷◌, ◌++◌, length, None, Some, All, Result, Ok, codes, refl, sym, ap, subst, arith, append-nil, append_assoc}
use Rattle.std.specs.List.{flat_map}
use Rattle.std.proofs.lemmas.Bool.{ne_eqb}
use Rattle.std.proofs.lemmas.Bool.Decides.{nat_tests}
use Rattle.std.proofs.lemmas.List.{length_push}
use Rattle.std.proofs.lemmas.List.Elements.{All-head, All-tail}
use Rattle.lock_model.specs.declared.limits.TheConstants.{MOST}
use Rattle.lock_model.specs.Ships.{RisesFrom}
use Rattle.lock_model.specs.Fleet.{ship_at, chamber_at, most_lockages}
use Rattle.lock_model.specs.declared.instance.Instance.{Instance}
use Rattle.lock_model.specs.declared.placement.Spot.{Spot}
use Rattle.lock_model.specs.declared.plan.Lockage.{Lockage}
use Rattle.lock_model.specs.declared.plan.Plan.{Plan}
use Rattle.lock_rules.proofs.SplitLemmas.{RisesFrom-increasing}
use Rattle.plan_text.specs.declared.berth.Berth.{Berth}
use Rattle.plan_text.specs.declared.berth.Head.{Head}
use Rattle.plan_text.specs.declared.kinds.BadPlan.{BadPlan}
use Rattle.line_text.specs.declared.progress.Progress.TheVariants.{More, Ended}
use Rattle.plan_text.specs.Berths.{has_berth}
use Rattle.plan_text.specs.Draft.{Draft, no_draft, close}
use Rattle.plan_text.specs.Lines.{read_head, new_ship, read_berth, add_berth, add_lockage, read_end, read_other, read_line}
use Rattle.plan_text.specs.Reading.{read_body, read_lines, reading, IsPlanText}
use Rattle.plan_text.specs.Printing.{head_words, berth_words, berths_of, lockage_lines, plan_lines, plan_text}
use Rattle.plan_text.specs.Writable.{IsWritableSpot, IsWritable, AreWritable}
use Rattle.line_text.proofs.LayoutLemmas.{ArePlain, AreLines, AreLines-append, words_of_text, is_utf8-text}
use Rattle.plan_text.proofs.MadeLemmas.{made_berth, made, head_of, made-hosts, made-lockage}
use Rattle.instance_text.proofs.PlainLemmas.{way_plain}
use Rattle.line_text.proofs.PlainLemmas.{decimal_plain, name_plain, literal_plain}
use Rattle.line_text.specs.Lines.{is_only}
use Rattle.plan_text.proofs.WordLemmas.{rank_plain, ship_name, chamber_name, host_plain, number_back, way_back, rank_back, chamber_back, ship_back, host_back}

-- ---- the lines are plain

head_plain : (I : Instance) (l : Lockage) → IsWritable I l → (0 < length (head_words I l)) × ArePlain (head_words I l)
unfolding head_words
head_plain I l good =
    let start = good.start in
    (omega arith, (literal_plain (codes "lockage") (omega arith) refl, (name_plain (chamber_at I l.chamber).name (chamber_name I l.chamber good.chamber), (way_plain l.way, (decimal_plain l.start (omega (arith, start)), tt)))))

berth_plain : (I : Instance) (ships : List ℕ) (s : ℕ) (p : Spot) → s < length I.ships → All (λ s. s < length I.ships) ships → IsWritableSpot (length ships) p → (0 < length (berth_words I ships s p)) × ArePlain (berth_words I ships s p)
unfolding berth_words
berth_plain I ships s p ship known good =
    let x = good.x in let y = good.y in
    (omega arith, (literal_plain (codes "berth") (omega arith) refl, (name_plain (ship_at I s).name (ship_name I s ship), (decimal_plain p.x (omega (arith, x)), (decimal_plain p.y (omega (arith, y)), (rank_plain p.rank, (host_plain I ships p.moor known good.moor, tt)))))))

berths_plain : (I : Instance) (ships ss : List ℕ) (ps : List Spot) → All (λ s. s < length I.ships) ss → All (λ s. s < length I.ships) ships → All (IsWritableSpot (length ships)) ps → AreLines (berths_of I ships ss ps)
berths_plain I ships [] ps these known good = tt
berths_plain I ships (s ∷ ss) [] these known good = tt
berths_plain I ships (s ∷ ss) (p ∷ ps) these known good =
    let first = berth_plain I ships s p (All-head (λ s. s < length I.ships) s ss these) known (All-head (IsWritableSpot (length ships)) p ps good) in
    (first.0, first.1, berths_plain I ships ss ps (All-tail (λ s. s < length I.ships) s ss these) known (All-tail (IsWritableSpot (length ships)) p ps good))

lockage_plain : (I : Instance) (l : Lockage) → IsWritable I l → AreLines (lockage_lines I l)
unfolding lockage_lines
lockage_plain I l good = let head = head_plain I l good in (head.0, head.1, berths_plain I l.ships l.ships l.spots good.known good.known good.spots)

lockages_plain : (I : Instance) (ls : List Lockage) → All (IsWritable I) ls → AreLines (flat_map (lockage_lines I) ls)
lockages_plain I [] good = tt
lockages_plain I (l ∷ ls) good = AreLines-append (lockage_lines I l) (flat_map (lockage_lines I) ls) (lockage_plain I l (All-head (IsWritable I) l ls good)) (lockages_plain I ls (All-tail (IsWritable I) l ls good))

lines_plain : (I : Instance) (ls : List Lockage) → All (IsWritable I) ls → AreLines (plan_lines I ls)
unfolding plan_lines
lines_plain I ls good =
    (omega arith, (literal_plain (codes "plan") (omega arith) refl, tt), AreLines-append (flat_map (lockage_lines I) ls) ((codes "end" ∷ []) ∷ []) (lockages_plain I ls good) (omega arith, (literal_plain (codes "end") (omega arith) refl, tt), tt))

-- ---- single lines

read_head_back : (I : Instance) (count : ℕ) (l : Lockage) → count < most_lockages I.ships → IsWritable I l → read_head I count (head_words I l) ≡ Ok (head_of l)
unfolding read_head head_words
read_head_back I count l room good =
    let free : nat_lt count (most_lockages I.ships) ≡ true = grind (arith, nat_tests) in
    let start = good.start in
    rw (free, chamber_back I l.chamber good.chamber, way_back l.way, number_back 1000000000 l.start start (omega (arith, start))) refl

read_berth_back : (I : Instance) (n : ℕ) (bs : List Berth) (ships : List ℕ) (s : ℕ) (p : Spot) → length bs < MOST → has_berth s bs ≡ false → s < length I.ships → All (λ s. s < length I.ships) ships → IsWritableSpot (length ships) p → read_berth I n bs (berth_words I ships s p) ≡ Ok (made_berth ships n s p)
unfolding read_berth new_ship berth_words
read_berth_back I n bs ships s p room new ship known good =
    let free : nat_lt (length bs) MOST ≡ true = grind (arith, nat_tests) in
    let x = good.x in
    let y = good.y in
    rw (free, ship_back I s ship, new, number_back 100000 p.x x (omega (arith, x)), number_back 100000 p.y y (omega (arith, y)), rank_back p.rank, host_back I ships p.moor known good.moor) refl

berth_line_back : (I : Instance) (n : ℕ) (ls : List Lockage) (h : Head) (bs : List Berth) (ships : List ℕ) (s : ℕ) (p : Spot) → length bs < MOST → has_berth s bs ≡ false → s < length I.ships → All (λ s. s < length I.ships) ships → IsWritableSpot (length ships) p
    → read_line I n (record { lockages = ls; head = Some h; berths = bs }) (berth_words I ships s p) ≡ Ok (More, record { lockages = ls; head = Some h; berths = bs ++ made_berth ships n s p ∷ [] })
unfolding read_line add_berth berth_words
berth_line_back I n ls h bs ships s p room new ship known good = rw (read_berth_back I n bs ships s p room new ship known good) refl

head_line_back : (I : Instance) (n : ℕ) (d : Draft) (done : List Lockage) (l : Lockage) → close I d ≡ Ok (record { lockages = done; head = None; berths = [] }) → length done < most_lockages I.ships → IsWritable I l
    → read_line I n d (head_words I l) ≡ Ok (More, record { lockages = done; head = Some (head_of l); berths = [] })
unfolding read_line read_other add_lockage head_words
head_line_back I n d done l whole room good = rw (whole, read_head_back I (length done) l room good) refl

end_line_back : (I : Instance) (n : ℕ) (d : Draft) (done : List Lockage) → close I d ≡ Ok (record { lockages = done; head = None; berths = [] }) → read_line I n d (codes "end" ∷ []) ≡ Ok (Ended, record { lockages = done; head = None; berths = [] })
unfolding read_line read_other read_end
end_line_back I n d done whole = rw whole refl

-- ---- the whole text

goes_on : (I : Instance) (n : ℕ) (d next : Draft) (ws : List (List ℕ)) (more : List (List (List ℕ))) (r : Result (List Lockage) BadPlan) → read_line I (n + 1) d ws ≡ Ok (More, next) → read_body I (n + 1) next more ≡ r → read_body I n d (ws ∷ more) ≡ r
goes_on I n d next ws more r step rest = rw step rest

-- none of these berths is of a ship from s on, also with a berth of s, but of s itself
still_new : (low : ℕ) (bs : List Berth) (b : Berth) → ((t : ℕ) → low ≤ t → has_berth t bs ≡ false) → low ≤ b.ship → (t : ℕ) → suc b.ship ≤ t → has_berth t (bs ++ b ∷ []) ≡ false
still_new low bs b new from t later = pushed bs (new t (omega (arith, from, later)))
  where
    other : (b.ship == t) ≡ false
    other = ne_eqb b.ship t (λ same. absurd (omega (arith, same, later)))

    pushed : (xs : List Berth) → has_berth t xs ≡ false → has_berth t (xs ++ b ∷ []) ≡ false
    pushed [] none = ap (λ e. e || false) other
    pushed (x ∷ xs) none = by_test (x.ship == t) (pushed xs) none
      where
        by_test : (e : Bool) → (has_berth t xs ≡ false → has_berth t (xs ++ b ∷ []) ≡ false) → (e || has_berth t xs) ≡ false → (e || has_berth t (xs ++ b ∷ [])) ≡ false
        by_test true rest h = cc
        by_test false rest h = rest h

berths_back : (I : Instance) (n : ℕ) (ls : List Lockage) (h : Head) (bs : List Berth) (ships : List ℕ) (low : ℕ) (ss : List ℕ) (ps : List Spot) (more : List (List (List ℕ))) (r : Result (List Lockage) BadPlan)
    → length ps ≡ length ss → length bs + length ss ≤ MOST → RisesFrom low ss → ((t : ℕ) → low ≤ t → has_berth t bs ≡ false) → All (λ s. s < length I.ships) ss → All (λ s. s < length I.ships) ships → All (IsWritableSpot (length ships)) ps
    → ((m : ℕ) → read_body I m (record { lockages = ls; head = Some h; berths = bs ++ made ships (n + 1) ss ps }) more ≡ r)
    → read_body I n (record { lockages = ls; head = Some h; berths = bs }) (berths_of I ships ss ps ++ more) ≡ r
berths_back I n ls h bs ships low [] [] more r count few rises new these known good rest = subst (λ xs. read_body I n (record { lockages = ls; head = Some h; berths = xs }) more ≡ r) (append-nil bs) (rest n)
berths_back I n ls h bs ships low [] (p ∷ ps) more r count few rises new these known good rest = absurd (omega (arith, count))
berths_back I n ls h bs ships low (s ∷ ss) [] more r count few rises new these known good rest = absurd (omega (arith, count))
berths_back I n ls h bs ships low (s ∷ ss) (p ∷ ps) more r count few rises new these known good rest =
    let b : Berth = made_berth ships (n + 1) s p in
    let room : length bs < MOST = omega (arith, few) in
    goes_on I n (record { lockages = ls; head = Some h; berths = bs }) (record { lockages = ls; head = Some h; berths = bs ++ b ∷ [] }) (berth_words I ships s p) (berths_of I ships ss ps ++ more) r
    (berth_line_back I (n + 1) ls h bs ships s p room (new s rises.0) (All-head (λ s. s < length I.ships) s ss these) known (All-head (IsWritableSpot (length ships)) p ps good))
    (berths_back I (n + 1) ls h (bs ++ b ∷ []) ships (suc s) ss ps more r (omega (arith, count)) (let longer = length_push bs b in omega (arith, few, longer)) rises.1 (still_new low bs b new rises.0)
    (All-tail (λ s. s < length I.ships) s ss these) known (All-tail (IsWritableSpot (length ships)) p ps good)
    (λ m. subst (λ xs. read_body I m (record { lockages = ls; head = Some h; berths = xs }) more ≡ r) (sym (append_assoc bs (b ∷ []) (made ships (n + 1 + 1) ss ps))) (rest m)))

-- a lockage whose berths were read is whole
close_back : (I : Instance) (ls : List Lockage) (l : Lockage) (n : ℕ) → IsWritable I l → close I (record { lockages = ls; head = Some (head_of l); berths = made l.ships n l.ships l.spots }) ≡ Ok (record { lockages = ls ++ l ∷ []; head = None; berths = [] })
unfolding close
close_back I ls l n good = rw (made-hosts I l n good) (ap (λ m. Ok (record { lockages = ls ++ m ∷ []; head = None; berths = [] })) (made-lockage I l n good))

next_lines : (I : Instance) (l : Lockage) (ls : List Lockage) → flat_map (lockage_lines I) (l ∷ ls) ++ (codes "end" ∷ []) ∷ [] ∷ [] ≡ head_words I l ∷ (berths_of I l.ships l.ships l.spots ++ (flat_map (lockage_lines I) ls ++ (codes "end" ∷ []) ∷ [] ∷ []))
unfolding lockage_lines
next_lines I l ls = append_assoc (lockage_lines I l) (flat_map (lockage_lines I) ls) ((codes "end" ∷ []) ∷ [] ∷ [])

lockages_back : (I : Instance) (n : ℕ) (d : Draft) (done ls : List Lockage) → close I d ≡ Ok (record { lockages = done; head = None; berths = [] }) → length done + length ls ≤ most_lockages I.ships → All (IsWritable I) ls
    → read_body I n d (flat_map (lockage_lines I) ls ++ (codes "end" ∷ []) ∷ [] ∷ []) ≡ Ok (done ++ ls)
lockages_back I n d done [] whole few good = rw (end_line_back I (n + 1) d done whole) (ap Ok (sym (append-nil done)))
lockages_back I n d done (l ∷ ls) whole few good =
    let own = All-head (IsWritable I) l ls good in
    let end : List (List (List ℕ)) = (codes "end" ∷ []) ∷ [] ∷ [] in
    let more : List (List (List ℕ)) = flat_map (lockage_lines I) ls ++ end in
    let room : length done < most_lockages I.ships = omega (arith, few) in
    let small = own.few in
    subst (λ xs. read_body I n d xs ≡ Ok (done ++ l ∷ ls)) (sym (next_lines I l ls))
    (goes_on I n d (record { lockages = done; head = Some (head_of l); berths = [] }) (head_words I l) (berths_of I l.ships l.ships l.spots ++ more) (Ok (done ++ l ∷ ls))
    (head_line_back I (n + 1) d done l whole room own)
    (berths_back I (n + 1) done (head_of l) [] l.ships 0 l.ships l.spots more (Ok (done ++ l ∷ ls)) own.count (omega (arith, small)) (RisesFrom-increasing l.ships own.rising) (λ t low. refl) own.known own.known own.spots
    (λ m. subst (λ xs. read_body I m (record { lockages = done; head = Some (head_of l); berths = made l.ships (n + 1 + 1) l.ships l.spots }) more ≡ Ok xs) (append_assoc done (l ∷ []) ls)
    (lockages_back I m (record { lockages = done; head = Some (head_of l); berths = made l.ships (n + 1 + 1) l.ships l.spots }) (done ++ l ∷ []) ls (close_back I done l (n + 1 + 1) own) (let longer = length_push done l in omega (arith, few, longer)) (All-tail (IsWritable I) l ls good)))))

lines_back : (I : Instance) (ls : List Lockage) → length ls ≤ most_lockages I.ships → All (IsWritable I) ls → read_lines I 0 (plan_lines I ls ++ [] ∷ []) ≡ Ok ls
unfolding plan_lines is_only close
lines_back I ls few good =
    ap (λ xs. read_body I 1 no_draft xs) (append_assoc (flat_map (lockage_lines I) ls) ((codes "end" ∷ []) ∷ []) ([] ∷ []))
    ∙ lockages_back I 1 no_draft [] ls refl (omega (arith, few)) good

-- the printed text of a plan names that plan
pub text_back : (I : Instance) (P : Plan) → AreWritable I P → IsPlanText I (plan_text I P) P
unfolding IsPlanText reading plan_text
text_back I P good = rw (is_utf8-text (plan_lines I P.lockages) (lines_plain I P.lockages good.each), words_of_text (plan_lines I P.lockages) (lines_plain I P.lockages good.each)) (lines_back I P.lockages good.few good.each)
