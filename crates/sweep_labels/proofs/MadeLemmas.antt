-- A label is kept.
use Rattle.std.proofs.Common.{◌≡◌, ℕ, ◌≤◌, Bool, false, Some, None, List, [], ◌∷◌, ◌++◌, length, sym, ap, ◌∙◌, subst, arith, slice_set, append-nil}
use Rattle.std.proofs.lemmas.List.{length-set}
use Rattle.lock_model.specs.declared.instance.Instance.{Instance}
use Rattle.price_rules.specs.Prices.{PlainCut}
use Rattle.sweep_rules.specs.Label.{Label}
use Rattle.sweep_rules.specs.Treated.{IsMet, label_at}
use Rattle.sweep_rules.proofs.TreatedLemmas.{met-lower, met-longer, treated-costly}
use Rattle.sweep_labels.specs.declared.label.KeptLabel.{KeptLabel}
use Rattle.sweep_labels.specs.Labels.{label_of}
use Rattle.sweep_labels.specs.Putting.{IsPut}
use Rattle.sweep_labels.specs.Sweeping.{labels_of}
use Rattle.sweep_labels.specs.Made.{HasGrown, IsKept}
use Rattle.sweep_labels.proofs.SweepingLemmas.{labels-append, last-label, put-met, put-treated, closed-treated, lower-treated}

module _ (l : KeptLabel) (items more : List KeptLabel) (was after : List Bool) (level : length was ≡ length items) (goal : ℕ) where
  -- one that was left out,
  pub kept_out : IsPut l items was more after None → IsKept l items was goal more after goal
  kept_out put = record {
    grown = record { more = []; appended = put.same ∙ sym (append-nil items); low = omega arith };
    level = ap length put.flags ∙ level ∙ sym (ap length put.same);
    met = λ I cuts. put-met I cuts goal l items more was after None put;
    treated = λ I cuts are. put-treated I cuts goal l items more was after None put are;
  }

  -- one that was appended,
  pub kept_in : (n : ℕ) → IsPut l items was more after (Some n) → IsKept l items was goal more after goal
  kept_in n put = record {
    grown = record { more = l ∷ []; appended = put.1.longer; low = omega arith };
    level = put.1.level;
    met = λ I cuts. put-met I cuts goal l items more was after (Some n) put;
    treated = λ I cuts are. put-treated I cuts goal l items more was after (Some n) put are;
  }

  -- and one of all ships, whose flow time no goal from now on is above: it is closed at once.
  pub kept_whole : (n less : ℕ) → IsPut l items was more after (Some n) → less ≤ goal → less ≤ l.label.flow → IsKept l items was goal more (slice_set after n false) less
  kept_whole n less put low costly = record {
    grown = record { more = l ∷ []; appended = put.1.longer; low = low };
    level = length-set after n false ∙ put.1.level;
    met = λ I cuts. met-lower I cuts goal (labels_of more) (label_of l.label) less low (put-met I cuts goal l items more was after (Some n) put);
    treated = λ I cuts are.
        closed-treated I cuts less more after n
        (treated-costly I cuts less (labels_of more) n (subst (λ (label : Label). less ≤ label.flow) (sym (own I cuts)) costly))
        (lower-treated I cuts goal more after less low (put-treated I cuts goal l items more was after (Some n) put are));
  }
    where
      own : (I : Instance) (cuts : List PlainCut) → label_at (labels_of more) n ≡ label_of l.label
      own I cuts = subst (λ longer. label_at (labels_of longer) n ≡ label_of l.label) (sym put.1.longer) (ap (label_at (labels_of (items ++ l ∷ []))) put.0 ∙ last-label I cuts goal items l)

-- what was met stays so as labels are appended and the goal falls
pub met_grown : (I : Instance) (cuts : List PlainCut) (items longer : List KeptLabel) (goal lower : ℕ) (label : Label) → HasGrown items goal longer lower → IsMet I cuts goal (labels_of items) label → IsMet I cuts lower (labels_of longer) label
met_grown I cuts items longer goal lower label grown met =
    subst (λ ls. IsMet I cuts lower ls label) (sym (ap labels_of grown.appended ∙ labels-append items grown.more))
    (met-lower I cuts goal (labels_of items ++ labels_of grown.more) label lower grown.low (met-longer I cuts goal (labels_of items) (labels_of grown.more) label met))
