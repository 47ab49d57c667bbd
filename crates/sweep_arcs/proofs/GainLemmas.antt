-- Gains from the least worth of ways to go on, and behind labels.
use Rattle.std.proofs.Common.{◌≡◌, ℕ, ◌<◌, ◌≤◌, ℤ, pos, ◌+ℤ◌, ◌≤ℤ◌, Some, [], length, false, refl, sym, subst, arith}
use Rattle.lock_model.specs.declared.way.Way.{Way}
use Rattle.lock_model.specs.declared.way.Way.TheVariants.{Up, Down}
use Rattle.lock_rules.specs.Lawful.{stand_before}
use Rattle.price_groups.specs.Asks.{LineAsk}
use Rattle.price_groups.specs.Worth.{IsLeastWorth}
use Rattle.price_table.specs.Ends.{IsLeastBehind}
use Rattle.sweep_rules.specs.Gain.{IsGainFrom}
use Rattle.sweep_rules.specs.Label.{Label}
use Rattle.sweep_rules.proofs.GainLemmas.{gain-ways, gain_from-later, gain_from-least}
use Rattle.sweep_labels.specs.declared.ready_times.ReadyTimes.{ReadyTimes}
use Rattle.sweep_labels.specs.Labels.{ready_by}
use Rattle.sweep_arcs.specs.Lanes.{IsGainAt, HasGain}

module _ (ask : LineAsk) where
  -- where the least worth of ways to go on is no less than minus the gain
  pub gain-least : ask.depth ≡ 0 → (way : Way) (minute gain : ℕ) (least : ℤ) → IsLeastBehind ask (stand_before way) minute least → pos 0 ≤ℤ (least +ℤ pos gain) → IsGainAt ask way minute gain
  gain-least root way minute gain least is high =
      let at_root = subst (λ k. IsLeastWorth ask.instance ask.chamber ask.cuts k ask.prices (stand_before way) minute [] (Some least)) root is in
      record { from = gain_from-least ask.instance ask.chamber ask.cuts ask.prices (stand_before way) minute gain least at_root.below high }

  module _ (known : ask.chamber < length ask.instance.chambers) where
    -- a gain stays one from later minutes
    pub gain-later : (way : Way) (from later gain : ℕ) → from ≤ later → IsGainAt ask way from gain → IsGainAt ask way later gain
    gain-later way from later gain early is = record {
      from = gain_from-later ask.instance ask.chamber known ask.cuts (λ s. false) (λ s. false) ask.prices (stand_before way) from later gain gain (λ s less missing. missing) early (omega arith) is.from;
    }

    -- THE GREATER of the gains from both minutes is the gain behind a label
    pub gain-behind : (times : ReadyTimes) (up down gain : ℕ) → IsGainAt ask Up times.up up → IsGainAt ask Down times.down down → up ≤ gain → down ≤ gain → HasGain ask times gain
    gain-behind times up down gain is_up is_down over_up over_down = record {
      is = record { is = λ label same. gain-ways ask.instance ask.chamber ask.cuts label ask.prices gain (λ way. from label way (label.ready ask.chamber way) (same way)) };
    }
      where
        one : (label : Label) (way : Way) (minute own : ℕ) → own ≤ gain → IsGainAt ask way minute own → IsGainFrom ask.instance ask.chamber ask.cuts label.served ask.prices (stand_before way) minute gain
        one label way minute own over is =
            gain_from-later ask.instance ask.chamber known ask.cuts (λ s. false) label.served ask.prices (stand_before way) minute minute own gain (λ s less missing. refl) (omega arith) over is.from

        from : (label : Label) (way : Way) (minute : ℕ) → minute ≡ ready_by times way → IsGainFrom ask.instance ask.chamber ask.cuts label.served ask.prices (stand_before way) minute gain
        from label Up minute same = one label Up minute up over_up (subst (λ minute. IsGainAt ask Up minute up) (sym same) is_up)
        from label Down minute same = one label Down minute down over_down (subst (λ minute. IsGainAt ask Down minute down) (sym same) is_down)
