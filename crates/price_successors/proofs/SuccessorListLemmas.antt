-- What may come next, place by place.
use Rattle.std.proofs.Common.{◌≡◌, ℕ, suc, Bool, true, false, ◌⊎◌, ℤ, ◌+◌, ◌<◌, ◌≤◌, cond, nat_lt, inl, inr, List, [], ◌∷◌, ◌++◌, length, All, Contains, sym, ap, ◌∙◌, subst, arith, slice_index_or}
use Rattle.std.proofs.Math.Seq.{get_or-append_seam}
use Rattle.std.proofs.lemmas.Bool.Decides.{leb_tells}
use Rattle.std.proofs.lemmas.List.{get_or_append_left, get_or_default, length-append}
use Rattle.std.proofs.lemmas.List.Elements.{All-contains, All-push, All-weaker, Contains-append_left, Contains-push}
use Rattle.list_laws.proofs.Lists.{Contains-before_push}
use Rattle.lock_model.specs.declared.way.Stand.{Stand}
use Rattle.price_successors.specs.declared.successor.Successor.{Successor}
use Rattle.price_successors.specs.declared.late_list.LateList.{LateList}
use Rattle.price_successors.specs.declared.successor_list.SuccessorList.{SuccessorList}
use Rattle.price_groups.specs.Asks.{LineAsk}
use Rattle.price_successors.specs.Successors.{IsSuccessor, Leads}
use Rattle.price_successors.specs.Counted.{IsCounted}
use Rattle.price_successors.specs.LateLists.{list_at}
use Rattle.price_successors.specs.SuccessorLists.{AreFor, IsPutFor, IsLateListFor, AreLateListsFor, IsSuccessorList, AreMade, list_of, AreSuccessorLists}
use Rattle.price_successors.proofs.LateLemmas.{counted-listed, listed-each}

-- an element of a list with one item more is that item or one of the others
last-or : (xs : List Successor) (x y : Successor) → Contains (xs ++ x ∷ []) y → (Contains xs y) ⊎ (x ≡ y)
last-or xs x y at = elim (leb_tells (suc at.0) (length xs)) [
  | inl here ↦ inl (at.0, here.1, sym (get_or_append_left xs (x ∷ []) y at.0 here.1) ∙ at.2)
  | inr past ↦
      let seam : at.0 ≡ length xs = omega (arith, at.1, length-append xs (x ∷ []), past.1) in
      inr (sym (get_or-append_seam xs x [] y) ∙ ap (λ i. slice_index_or (xs ++ x ∷ []) i y) (sym seam) ∙ at.2)
]

pub for-next : (p : ℕ) (seen : List Successor) (h : Successor) (old new : List Successor) → IsPutFor p h old new → AreFor p seen old → AreFor p (seen ++ h ∷ []) new
for-next p seen h old new put are = elim put [
  | inl same ↦ subst (AreFor p (seen ++ h ∷ [])) (sym same) (record {
    each = All-push (Contains (seen ++ h ∷ [])) old h more (Contains-push seen h);
    whole = λ g held q leads. elim (last-or seen h g held) [
      | inl before ↦ Contains-before_push old h g (are.whole g before q leads)
      | inr last ↦ subst (Contains (old ++ h ∷ [])) last (Contains-push old h)
    ];
  })
  | inr never ↦ subst (AreFor p (seen ++ h ∷ [])) (sym never.1) (record {
    each = more;
    whole = λ g held q leads. elim (last-or seen h g held) [
      | inl before ↦ are.whole g before q leads
      | inr last ↦ absurd (never.0 q (subst (λ g. Leads g.joins p q) (sym last) leads))
    ];
  })
]
  where
    more : All (Contains (seen ++ h ∷ [])) old
    more = All-weaker (Contains seen) (Contains (seen ++ h ∷ [])) (λ g held. Contains-append_left seen (h ∷ []) g held) old are.each

pub late_lists-next : (p : ℕ) (late_lists : List LateList) (n : ℕ) (fors : List LateList) (late_list for : LateList) → n < length late_lists → slice_index_or late_lists n late_list ≡ late_list → IsLateListFor p late_list for → AreLateListsFor p late_lists n fors → AreLateListsFor p late_lists (n + 1) (fors ++ for ∷ [])
late_lists-next p late_lists n fors late_list for here at is are = record {
  count = omega (arith, are.count, length-append fors (for ∷ []));
  each = λ j d e less. elim (leb_tells (suc j) n) [
    | inl y ↦ subst (IsLateListFor p (slice_index_or late_lists j d)) (sym (get_or_append_left fors (for ∷ []) e j (omega (arith, y.1, are.count)))) (are.each j d e y.1)
    | inr q ↦
        let same : n ≡ j = omega (arith, less, q.1) in
        let last : slice_index_or (fors ++ for ∷ []) n e ≡ for = (λ i. slice_index_or (fors ++ for ∷ []) (sym are.count i) e) ∙ get_or-append_seam fors for [] e in
        subst (λ j. IsLateListFor p (slice_index_or late_lists j d) (slice_index_or (fors ++ for ∷ []) j e)) same
        (subst (λ l. IsLateListFor p l (slice_index_or (fors ++ for ∷ []) n e)) (sym at ∙ get_or_default late_lists n late_list d here) (subst (IsLateListFor p late_list) (sym last) is))
  ];
}

pub made-next : (successors : List Successor) (late_lists : List LateList) (n : ℕ) (successor_lists : List SuccessorList) (successor_list : SuccessorList) → IsSuccessorList successors late_lists n successor_list → AreMade successors late_lists n successor_lists → AreMade successors late_lists (n + 1) (successor_lists ++ successor_list ∷ [])
made-next successors late_lists n successor_lists successor_list is are = record {
  count = omega (arith, are.count, length-append successor_lists (successor_list ∷ []));
  each = λ p e less. elim (leb_tells (suc p) n) [
    | inl y ↦ subst (IsSuccessorList successors late_lists p) (sym (get_or_append_left successor_lists (successor_list ∷ []) e p (omega (arith, y.1, are.count)))) (are.each p e y.1)
    | inr q ↦
        let same : n ≡ p = omega (arith, less, q.1) in
        let last : slice_index_or (successor_lists ++ successor_list ∷ []) n e ≡ successor_list = (λ i. slice_index_or (successor_lists ++ successor_list ∷ []) (sym are.count i) e) ∙ get_or-append_seam successor_lists successor_list [] e in
        subst (λ p. IsSuccessorList successors late_lists p (slice_index_or (successor_lists ++ successor_list ∷ []) p e)) same (subst (IsSuccessorList successors late_lists n) (sym last) is)
  ];
}

-- the successors that are looked at in a minute are those that may come next at its place
list-for : (p minute : ℕ) (late_lists fors : List LateList) (successors own : List Successor) → length fors ≡ length late_lists → ((j : ℕ) (d e : LateList) → j < length late_lists → IsLateListFor p (slice_index_or late_lists j d) (slice_index_or fors j e))
    → AreFor p successors own → AreFor p (list_at successors late_lists minute) (list_at own fors minute)
list-for p minute [] [] successors own count each are = are
list-for p minute [] (for ∷ fors) successors own count each are = absurd (omega (arith, count))
list-for p minute (late_list ∷ late_lists) [] successors own count each are = absurd (omega (arith, count))
list-for p minute (late_list ∷ late_lists) (for ∷ fors) successors own count each are =
    let first = each 0 late_list for (omega arith) in
    list-for p minute late_lists fors (cond (nat_lt minute late_list.from) successors late_list.successors.items) (cond (nat_lt minute for.from) own for.successors.items) (omega (arith, count)) (λ j d e less. each (suc j) d e (omega (arith, less)))
    (subst (λ from. AreFor p (cond (nat_lt minute late_list.from) successors late_list.successors.items) (cond (nat_lt minute from) own for.successors.items)) (sym first.from) (either (nat_lt minute late_list.from) first.successors))
  where
    either : (b : Bool) → AreFor p late_list.successors.items for.successors.items → AreFor p (cond b successors late_list.successors.items) (cond b own for.successors.items)
    either true begun = are
    either false begun = begun

-- the successor lists of some place of a line
pub some-successor_list : (L : LineAsk) (successor_lists : List SuccessorList) → AreSuccessorLists L successor_lists → SuccessorList
some-successor_list L successor_lists are = first successor_lists (omega (arith, are.made.count))
  where
    first : (ms : List SuccessorList) → 1 ≤ length ms → SuccessorList
    first [] some = absurd (omega (arith, some))
    first (m ∷ ms) some = m

module _ (L : LineAsk) (known : L.chamber < length L.instance.chambers) (successor_lists : List SuccessorList) (are : AreSuccessorLists L successor_lists) (p minute : ℕ) (within : p ≤ length L.line) (e : SuccessorList) where
  listed-for : AreFor p (list_at are.successors are.late_lists minute) (list_of successor_lists e p minute)
  listed-for =
      let is = are.made.each p e (omega (arith, within)) in
      list-for p minute are.late_lists (slice_index_or successor_lists p e).late_lists.items are.successors (slice_index_or successor_lists p e).successors.items is.late_lists_for.count is.late_lists_for.each is.successors_for

  -- what is looked at are successors
  pub successor_list-each : All (IsSuccessor L) (list_of successor_lists e p minute)
  successor_list-each =
      All-weaker (Contains (list_at are.successors are.late_lists minute)) (IsSuccessor L)
      (λ h held. All-contains (IsSuccessor L) (list_at are.successors are.late_lists minute) h (listed-each L known are.successors are.late_lists are.listed minute) held) (list_of successor_lists e p minute) listed-for.each

  -- ALL CHOICES ARE COUNTED where those are that are looked at.
  pub counted-successor_list : (stand : Stand) (best : ℤ) → ((h : Successor) → Contains (list_of successor_lists e p minute) h → IsCounted L stand minute p best h) → (h : Successor) → Contains are.listed.successors h → IsCounted L stand minute p best h
  counted-successor_list stand best counted =
      counted-listed L known are.successors are.late_lists are.listed stand minute p best
      (λ h held q leads. counted h (listed-for.whole h held q leads) q leads)
