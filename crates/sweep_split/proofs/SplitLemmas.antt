-- Labels split in two.
use Rattle.std.proofs.Common.{◌≡◌, ℕ, ◌+◌, ◌-◌, ◌<◌, ◌≤◌, ◌||◌, not, Bool, true, false, cond, List, [], ◌∷◌, length, All, inl, inr, refl, sym, ap, ◌∙◌, arith}
use Rattle.std.proofs.lemmas.Bool.Decides.{leb_tells}
use Rattle.std.proofs.lemmas.List.Elements.{All-weaker}
use Rattle.lock_model.specs.Fleet.{ship_at, chamber_at}
use Rattle.lock_model.specs.declared.instance.Instance.{Instance}
use Rattle.lock_model.specs.declared.group.Group.{Group}
use Rattle.lock_model.specs.declared.way.Way.{Way}
use Rattle.lock_model.specs.declared.way.Way.TheVariants.{Up, Down}
use Rattle.lock_rules.specs.Lawful.{stand_before}
use Rattle.lock_rules.specs.Arrival.{numbers_from}
use Rattle.lock_rules.specs.Timetable.{starts_of}
use Rattle.lock_rules.specs.Bound.{flow_of}
use Rattle.lock_rules.proofs.LineLemmas.{sum_by-each, sum_by-plus, numbers-below}
use Rattle.lock_rules.proofs.TraceLemmas.{kept_flow}
use Rattle.price_rules.specs.Prices.{PlainCut}
use Rattle.sweep_rules.specs.Uncut.{times_over}
use Rattle.sweep_rules.specs.Label.{Label, IsWanted}
use Rattle.sweep_rules.specs.Completion.{IsCompletion, EndsBelow, flow_starting, flow_completed}
use Rattle.sweep_rules.specs.Gain.{timetable_after}
use Rattle.sweep_rules.proofs.FirstLemmas.{flow-starts}
use Rattle.sweep_rules.proofs.OverLemmas.{completion-on}
use Rattle.sweep_split.specs.Split.{early_label, late_label, IsSteady, IsNoSooner, MissesAll, HasLateCost}
use Rattle.sweep_split.proofs.KeptLemmas.{kept_lines, line-uncut, over-kept, over-lost, starts_after, after-lawful, kept-parts, AreSoon, kept-after}

module _ (I : Instance) (cuts : List PlainCut) where
  -- a steady label is ready for both ways behind a lockage by one of them
  steady-behind : (label : Label) → IsSteady I cuts label → (c : ℕ) → c < length I.chambers → (first way : Way) (s t : ℕ) → IsWanted I cuts label.served c way s → (ship_at I s).arrival ≤ t
      → label.ready c first + (chamber_at I c).pass ≤ t → label.ready c way ≤ t
  steady-behind label steady c known Up Up s t wanted arrived late = omega arith
  steady-behind label steady c known Up Down s t wanted arrived late = omega (arith, steady.soon c known Down s wanted)
  steady-behind label steady c known Down Up s t wanted arrived late = omega (arith, steady.soon c known Up s wanted)
  steady-behind label steady c known Down Down s t wanted arrived late = omega arith

  -- an earliest timetable behind a label's minutes has its own flow time
  after-flow : (c : ℕ) (ready : Way → ℕ) (gs : List Group) → flow_starting I c gs (starts_of (timetable_after I c ready gs)) ≡ flow_of I gs (timetable_after I c ready gs)
  after-flow c ready [] = refl
  after-flow c ready (g ∷ gs) = flow-starts I c (stand_before g.way) (ready g.way) (g ∷ gs)

  module _ (label : Label) (lines : ℕ → List Group) (starts : ℕ → List ℕ) (completion : IsCompletion I cuts label lines starts) where
    -- THE KEPT SHIPS OF A COMPLETION are a completion of a label that misses them alone,
    part-completion : (kept : ℕ → Bool) (part : Label) → ((s : ℕ) → s < length I.ships → times_over I s (kept_lines kept lines) ≡ cond (part.served s) 0 1)
        → IsCompletion I cuts part (kept_lines kept lines) (starts_after I part.ready (kept_lines kept lines))
    part-completion kept part once = record {
      uncut = λ c known. line-uncut I c cuts kept (lines c) (completion.uncut c known);
      lawful = λ c known. after-lawful I c known (part.ready c) (kept_lines kept lines c);
      once = once;
    }

    -- in which a chamber's line has no more flow time than they have there.
    part-flow : (kept : ℕ → Bool) (ready : ℕ → Way → ℕ) (c : ℕ) (known : c < length I.chambers) → AreSoon I cuts label.served kept c (label.ready c) (ready c)
        → flow_starting I c (kept_lines kept lines c) (starts_after I ready (kept_lines kept lines) c) ≤ kept_flow I c known kept (lines c) (starts c)
    part-flow kept ready c known soon =
        omega (
          arith,
          after-flow c (ready c) (kept_lines kept lines c),
          kept-after I cuts label.served kept c known (ready c) (label.ready c) (lines c) (starts c) soon (completion-on I cuts label lines starts completion c known) (completion.lawful c known),
        )

    module _ (late : ℕ → Bool) (ready : ℕ → Way → ℕ) where
      abbrev early : ℕ → Bool
      early s = not (late s)

      abbrev early_lines : ℕ → List Group
      early_lines = kept_lines early lines

      abbrev late_lines : ℕ → List Group
      late_lines = kept_lines late lines

      -- ---- each part has its missing ships once
      early-once : (s : ℕ) → s < length I.ships → times_over I s early_lines ≡ cond ((early_label label late).served s) 0 1
      early-once s known = by (late s) refl
        where
          served : (b : Bool) → ◌≡◌ {A = ℕ} (cond (b || true) 0 1) 0
          served true = refl
          served false = refl

          missed : (b : Bool) → ◌≡◌ {A = ℕ} (cond (b || false) 0 1) (cond b 0 1)
          missed true = refl
          missed false = refl

          by : (l : Bool) → late s ≡ l → times_over I s early_lines ≡ cond (label.served s || late s) 0 1
          by true is = over-lost early I lines s (ap not is) ∙ sym (ap {B = ℕ} (λ l. cond (label.served s || l) 0 1) is ∙ served (label.served s))
          by false is = over-kept early I lines s (ap not is) ∙ completion.once s known ∙ sym (ap {B = ℕ} (λ l. cond (label.served s || l) 0 1) is ∙ missed (label.served s))

      late-once : MissesAll I late label → (s : ℕ) → s < length I.ships → times_over I s late_lines ≡ cond (not (late s)) 0 1
      late-once misses s known = by (late s) refl
        where
          by : (l : Bool) → late s ≡ l → times_over I s late_lines ≡ cond (not (late s)) 0 1
          by true is = over-kept late I lines s is ∙ completion.once s known ∙ ap {B = ℕ} (λ b. cond b 0 1) (misses.missing s known is) ∙ sym (ap {B = ℕ} (λ l. cond (not l) 0 1) is)
          by false is = over-lost late I lines s is ∙ sym (ap {B = ℕ} (λ l. cond (not l) 0 1) is)

      -- ---- both have no more flow time together than the whole
      module _ (steady : IsSteady I cuts label) (sooner : IsNoSooner I cuts ready label) where
        early-soon : (c : ℕ) → c < length I.chambers → AreSoon I cuts label.served early c (label.ready c) (label.ready c)
        early-soon c known = record {
          own = λ way s wanted is. omega arith;
          behind = λ first way s t wanted is arrived passed. steady-behind label steady c known first way s t wanted arrived passed;
        }

        late-soon : (c : ℕ) → c < length I.chambers → AreSoon I cuts label.served late c (label.ready c) (ready c)
        late-soon c known = record {
          own = λ way s wanted is. sooner.later c known way s wanted;
          behind = λ first way s t wanted is arrived passed. omega (arith, sooner.later c known way s wanted, steady-behind label steady c known first way s t wanted arrived passed);
        }

        parts-flow : flow_completed I early_lines (starts_after I label.ready early_lines) + flow_completed I late_lines (starts_after I ready late_lines) ≤ flow_completed I lines starts
        parts-flow =
            let m = length I.chambers in
            let first : ℕ → ℕ = λ c. flow_starting I c (early_lines c) (starts_after I label.ready early_lines c) in
            let second : ℕ → ℕ = λ c. flow_starting I c (late_lines c) (starts_after I ready late_lines c) in
            let whole : ℕ → ℕ = λ c. flow_starting I c (lines c) (starts c) in
            let each : All (λ c. first c + second c ≤ whole c) (numbers_from 0 m) =
            All-weaker (λ c. c < 0 + m) (λ c. first c + second c ≤ whole c) (λ c less.
            let known : c < m = omega arith in
            omega (arith, part-flow early label.ready c known (early-soon c known), part-flow late ready c known (late-soon c known), kept-parts I c known late (lines c) (starts c)))
            (numbers_from 0 m) (numbers-below 0 m) in
            omega (arith, sum_by-each (λ c. first c + second c) whole (numbers_from 0 m) each, sum_by-plus first second (numbers_from 0 m))

  -- A LABEL THAT MISSES ALL LATE SHIPS SPLITS: where it has a completion of a total below the goal, its early label has one below the goal less the late cost.
  pub split-ends : (label : Label) (late : ℕ → Bool) (ready : ℕ → Way → ℕ) (goal cost : ℕ) → IsSteady I cuts label → IsNoSooner I cuts ready label → MissesAll I late label
      → HasLateCost I cuts late ready cost → EndsBelow I cuts goal label → EndsBelow I cuts (goal - cost) (early_label label late)
  split-ends label late ready goal cost steady sooner misses low ends =
      let early_lines : ℕ → List Group = kept_lines (λ s. not (late s)) ends.lines in
      let late_lines : ℕ → List Group = kept_lines late ends.lines in
      let early_flow : ℕ = flow_completed I early_lines (starts_after I label.ready early_lines) in
      let late_flow : ℕ = flow_completed I late_lines (starts_after I ready late_lines) in
      let high : cost ≤ late_flow = elim (leb_tells cost late_flow) [
        | inl enough ↦ enough.1
        | inr less ↦ absurd (low.low (record {
          lines = late_lines;
          starts = starts_after I ready late_lines;
          is = part-completion label ends.lines ends.starts ends.is late (late_label late ready) (late-once label ends.lines ends.starts ends.is late ready misses);
          below = omega (arith, less.1);
        }))
      ] in
      record {
        lines = early_lines;
        starts = starts_after I label.ready early_lines;
        is = part-completion label ends.lines ends.starts ends.is (λ s. not (late s)) (early_label label late) (early-once label ends.lines ends.starts ends.is late ready);
        below = omega (arith, high, ends.below, parts-flow label ends.lines ends.starts ends.is late ready steady sooner);
      }
