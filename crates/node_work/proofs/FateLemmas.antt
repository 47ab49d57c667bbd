-- What becomes of a node, by a group of it.
use Rattle.std.proofs.Common.{◌≡◌, ℕ, zero, suc, ◌<◌, ◌≤◌, List, [], ◌∷◌, length, refl, sym, ap, ◌∙◌, subst, arith, All, slice_index_or, slice_get, Some}
use Rattle.std.proofs.lemmas.List.Elements.{Contains-get_or}
use Rattle.lock_model.specs.Fitting.{deck_of}
use Rattle.lock_model.specs.Cargo.{HasNoClash}
use Rattle.lock_model.specs.declared.instance.Instance.{Instance}
use Rattle.lock_model.specs.declared.group.Group.{Group}
use Rattle.lock_rules.specs.Node.{Node, line_at, IsNode}
use Rattle.lock_rules.proofs.NodeLemmas.{line-known}
use Rattle.refute_rules.specs.Cuts.{Cut}
use Rattle.refute_rules.specs.Spots.{IsSpent}
use Rattle.deck_cuts.specs.Tried.{Tried}
use Rattle.closing_rules.specs.declared.grounds.Ground.TheVariants as by
use Rattle.node_work.specs.declared.fate.Fate.{Fate}
use Rattle.node_work.specs.declared.fate.Fate.TheVariants as fate
use Rattle.node_work.specs.Settling.{IsCutOf, IsTooHard}
use Rattle.node_work.specs.Fates.{IsNodeCut, IsSpentAt, IsAnyway, IsRefutedBy, IsSpentBy}

there-at : (gs : List Group) (p : ℕ) (g : Group) → p < length gs → slice_get gs p ≡ Some (slice_index_or gs p g)
there-at [] p g here = absurd (omega (arith, here))
there-at (x ∷ xs) zero g here = refl
there-at (x ∷ xs) (suc p) g here = there-at xs p g (omega (arith, here))

module _ (I : Instance) (turns : ℕ) (lines : List (List Group)) (c p : ℕ) (g : Group) (here : p < length (line_at lines c)) where
  abbrev group : Group
  group = slice_index_or (line_at lines c) p g

  pub cut-at : (cut : Cut) → c < length I.chambers → IsCutOf I c group.ships cut → IsNodeCut I lines cut
  cut-at cut inside is = record {
    proved = is.proved;
    own = is.own;
    hits = record { chamber = c; group = group; known = inside; held = Contains-get_or (line_at lines c) p g here; hits = is.hits };
  }

  pub hard-at : (hard spots : Tried) → IsTooHard (deck_of I c group.ships) turns hard spots → IsSpentAt I turns lines c p hard
  hard-at hard spots is = record {
    group = group;
    there = there-at (line_at lines c) p g here;
    deck = ap (λ (t : Tried). t.deck) is.hard_is;
    turns_are = ap (λ (t : Tried). t.turns) is.hard_is;
    spent = subst (λ (t : Tried). IsSpent t.deck t.turns) (sym is.hard_is) is.spent;
    clear = subst (λ (t : Tried). HasNoClash t.deck) (sym is.hard_is) is.clear;
  }

module _ (I : Instance) (node : Node) (is : IsNode I node.depth node.lines) (c : ℕ) (inside : c < length I.chambers) (p : ℕ) (gs : List Group) (line : gs ≡ line_at node.lines c) (here : p < length (line_at node.lines c)) (g : Group) (S : List ℕ) (ships : S ≡ (slice_index_or gs p g).ships) where
  own : S ≡ (slice_index_or (line_at node.lines c) p g).ships
  own = ships ∙ ap (λ l. (slice_index_or l p g).ships) line

  pub group_known : All (λ s. s < length I.ships) S
  group_known = subst (All (λ s. s < length I.ships)) (sym own) (line-known I node.depth node.lines is c p g here)

  pub group_some : 1 ≤ length S
  group_some = let count = (is.groups c inside p g here).count.0 in omega (arith, count, ap length own)

  -- a known cut hits the group
  pub known_fate : (tells : ℕ → List ℕ → ℕ → Type 0) (turns number : ℕ) → tells c S number → IsAnyway tells I turns node (fate.Closed (by.Cut number))
  known_fate tells turns number hit = record {
    fate_is = λ best. record {
      chamber = c;
      group = slice_index_or (line_at node.lines c) p g;
      known = inside;
      held = Contains-get_or (line_at node.lines c) p g here;
      hits = subst (λ T. tells c T number) own hit;
    };
  }

  -- it is refuted, or spent
  pub refuted_fate : (tells : ℕ → List ℕ → ℕ → Type 0) (turns : ℕ) (cut : Cut) (f : Fate) → IsCutOf I c S cut → IsRefutedBy cut f → IsAnyway tells I turns node f
  refuted_fate tells turns cut (fate.Refuted held) is same = record { fate_is = λ best. subst (IsNodeCut I node.lines) (sym same) (cut-at I 0 node.lines c p g here cut inside (subst (λ T. IsCutOf I c T cut) own is)) }
  refuted_fate tells turns cut (fate.Closed why) is same = absurd same
  refuted_fate tells turns cut fate.Split is same = absurd same
  refuted_fate tells turns cut (fate.Plan plan) is same = absurd same
  refuted_fate tells turns cut (fate.Spent d q held) is same = absurd same

  pub spent_fate : (tells : ℕ → List ℕ → ℕ → Type 0) (turns : ℕ) (hard spots : Tried) (f : Fate) → IsTooHard (deck_of I c S) turns hard spots → IsSpentBy c p hard f → IsAnyway tells I turns node f
  spent_fate tells turns hard spots (fate.Spent d q held) is same = record {
    fate_is = λ best.
        subst (λ (t : Tried). IsSpentAt I turns node.lines d q t) (sym same.2) (subst (λ d. IsSpentAt I turns node.lines d q hard) (sym same.0) (subst (λ q. IsSpentAt I turns node.lines c q hard) (sym same.1)
        (hard-at I turns node.lines c p g here hard spots (subst (λ T. IsTooHard (deck_of I c T) turns hard spots) own is))));
  }
  spent_fate tells turns hard spots (fate.Closed why) is same = absurd same
  spent_fate tells turns hard spots fate.Split is same = absurd same
  spent_fate tells turns hard spots (fate.Plan plan) is same = absurd same
  spent_fate tells turns hard spots (fate.Refuted cut) is same = absurd same
