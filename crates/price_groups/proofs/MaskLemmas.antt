-- Sets of ships as the bits of numbers.
use Rattle.std.proofs.Common.{◌≡◌, ◌≢◌, ℕ, suc, ◌+◌, ◌*◌, ◌^◌, ◌/◌, ◌%◌, ◌<◌, ◌≤◌, min, cond, true, inl, inr, List, [], ◌∷◌, ◌++◌, length, All, Contains, refl, sym, ap, ◌∙◌, subst, arith, slice_index_or, bit_and, bit_or}
use Rattle.std.specs.Int.{bit_at, w128}
use Rattle.std.proofs.Math.Seq.{get_or-append_seam}
use Rattle.std.proofs.lemmas.Bool.Decides.{eqb_tells, leb_tells}
use Rattle.std.proofs.lemmas.Nat.{or_lt, pow_pos, le-div}
use Rattle.std.proofs.lemmas.Nat.Bits.{bit_at_and, bit_at-lt, bit_at_above, bit_at_set_same, bit_at_set_other, same_from_bits}
use Rattle.std.proofs.lemmas.List.{get_or_append_left, get_or_default, length-append}
use Rattle.std.proofs.lemmas.List.Elements.{All-cons, All-nil, All-weaker, All-contains, All-push, Contains-get_or, Contains-push}
use Rattle.list_laws.proofs.Lists.{Contains-before_push}
use Rattle.lock_model.specs.declared.limits.TheConstants.{SHIPS}
use Rattle.lock_model.specs.declared.instance.Instance.{Instance}
use Rattle.lock_rules.specs.Plan.{times_in}
use Rattle.lock_rules.specs.Children.{insert_number}
use Rattle.lock_rules.proofs.ChildLemmas.{times_in-insert_number}
use Rattle.lock_rules.proofs.NodeLemmas.{All-insert_number}
use Rattle.lock_rules.proofs.AmongLemmas.{contains-times, times-contains}
use Rattle.price_rules.specs.Prices.{is_missing}
use Rattle.price_groups.specs.Growing.{IsAllowed}
use Rattle.price_groups.specs.Masks.{IsMask, IsSetMask, HasMask, AreCompletable, AreAllowed, AreMarks, IsNoted, IsBetween, AreHaving, IsPutBetween, AreAllCompletable}
use Rattle.price_groups.specs.Sparing.{AreIn, LacksSome}
use Rattle.price_groups.specs.declared.completable_sets.CompletableSets.{CompletableSets}

one-of : (xs : List ℕ) (x y : ℕ) → Contains (xs ++ x ∷ []) y → y ≢ x → Contains xs y
one-of xs x y at apart = elim (leb_tells (suc at.0) (length xs)) [
  | inl here ↦ (at.0, here.1, sym (get_or_append_left xs (x ∷ []) y at.0 here.1) ∙ at.2)
  | inr past ↦
      let seam : at.0 ≡ length xs = omega (arith, at.1, length-append xs (x ∷ []), past.1) in
      absurd (apart (sym at.2 ∙ ap (λ i. slice_index_or (xs ++ x ∷ []) i y) seam ∙ get_or-append_seam xs x [] y))
]

-- one ship more
pub mask-next : (mask s : ℕ) (xs : List ℕ) → s < 128 → IsMask mask xs → IsMask (bit_or mask (1 * 2 ^ s % 2 ^ 128)) (xs ++ s ∷ [])
mask-next mask s xs within is = record {
  small = or_lt 128 mask (1 * 2 ^ s % 2 ^ 128) is.small (omega arith);
  has = λ t at. elim (eqb_tells t s) [
    | inl y ↦ ap (bit_at (bit_or mask (1 * 2 ^ s % 2 ^ 128))) y.1 ∙ bit_at_set_same w128 mask s within
    | inr m ↦ bit_at_set_other w128 mask s within t m.1 ∙ is.has t (one-of xs s t at m.1)
  ];
  only = λ t few bit. elim (eqb_tells t s) [
    | inl y ↦ subst (Contains (xs ++ s ∷ [])) (sym y.1) (Contains-push xs s)
    | inr m ↦ Contains-before_push xs s t (is.only t few (sym (bit_at_set_other w128 mask s within t m.1) ∙ bit))
  ];
}

-- one ship more, wherever it is put
pub mask-insert : (mask s : ℕ) (xs : List ℕ) → s < 128 → IsMask mask xs → IsMask (bit_or mask (1 * 2 ^ s % 2 ^ 128)) (insert_number s xs)
mask-insert mask s xs within is = record {
  small = or_lt 128 mask (1 * 2 ^ s % 2 ^ 128) is.small (omega arith);
  has = λ t at. elim (eqb_tells s t) [
    | inl y ↦ ap (bit_at (bit_or mask (1 * 2 ^ s % 2 ^ 128))) (sym y.1) ∙ bit_at_set_same w128 mask s within
    | inr m ↦
        let held : Contains xs t = times-contains xs t (omega (arith, times_in-insert_number s t xs, ap {B = ℕ} (λ b. cond b 1 0) m.0, contains-times (insert_number s xs) t at)) in
        bit_at_set_other w128 mask s within t (λ e. m.1 (sym e)) ∙ is.has t held
  ];
  only = λ t few bit. elim (eqb_tells s t) [
    | inl y ↦ times-contains (insert_number s xs) t (omega (arith, times_in-insert_number s t xs, ap {B = ℕ} (λ b. cond b 1 0) y.0))
    | inr m ↦
        let held = is.only t few (sym (bit_at_set_other w128 mask s within t (λ e. m.1 (sym e))) ∙ bit) in
        times-contains (insert_number s xs) t (omega (arith, times_in-insert_number s t xs, contains-times xs t held))
  ];
}

-- where a number has no bit from a ship on, all its ships are before that one
pub before-mask : (mask s : ℕ) (xs : List ℕ) → IsMask mask xs → mask / 2 ^ s ≡ 0 → All (λ t. t < s) xs
before-mask mask s xs is none = λ j d here.
    let t = slice_index_or xs j d in
    let low : mask < 2 ^ s = elim (leb_tells (suc mask) (2 ^ s)) [ inl y ↦ y.1 | inr q ↦ absurd (omega (arith, none, le-div 1 mask (2 ^ s) (pow_pos s) (omega (arith, q.1)))) ] in
    elim (leb_tells (suc t) s) [
      | inl less ↦ less.1
      | inr past ↦ absurd (omega (arith, is.has t (Contains-get_or xs j d here), bit_at_above mask s t low (omega (arith, past.1))))
    ]

-- a set is among ships where its bits are
pub mask-in : (m mask : ℕ) (set ships : List ℕ) → All (λ s. s < 128) set → IsMask m set → IsMask mask ships → bit_and m mask ≡ m → AreIn ships set
mask-in m mask set ships known is all same = record {
  among = λ j d here.
      let s = slice_index_or set j d in
      let own : bit_at m s ≡ 1 = is.has s (Contains-get_or set j d here) in
      all.only s (known j d here) (omega (arith, own, ap (λ n. bit_at n s) same, bit_at_and m mask s, bit_at-lt mask s));
}

pub in-mask : (m mask : ℕ) (set ships : List ℕ) → IsMask m set → IsMask mask ships → AreIn ships set → bit_and m mask ≡ m
in-mask m mask set ships is all within = same_from_bits (bit_and m mask) m (λ s. bit_at_and m mask s ∙ each s)
  where
    each : (s : ℕ) → min (bit_at m s) (bit_at mask s) ≡ bit_at m s
    each s = elim (leb_tells (suc s) 128) [
      | inl few ↦ elim (leb_tells 1 (bit_at m s)) [
        | inl some ↦
            let own : bit_at m s ≡ 1 = omega (arith, some.1, bit_at-lt m s) in
            let other = all.has s (All-contains (Contains ships) set s within.among (is.only s few.1 own)) in
            omega (arith, own, other)
        | inr none ↦ omega (arith, none.1)
      ]
      | inr past ↦ omega (arith, bit_at_above m 128 s is.small (omega (arith, past.1)))
    ]

pub earlier : (i j : ℕ) → j ≢ i → j < i + 1 → j < i
earlier i j apart less = elim (leb_tells (suc j) i) [ inl y ↦ y.1 | inr q ↦ absurd (apart (omega (arith, less, q.1))) ]

module _ (I : Instance) (sets : List (List ℕ)) where
  pub marks-first : AreMarks I sets 0 []
  marks-first = record { each = λ j d here. absurd (omega (arith, here)); whole = λ j d none here. absurd (omega (arith, none)) }

  pub marks-next : (i : ℕ) (set : List ℕ) (old new : List ℕ) → i < length sets → set ≡ slice_index_or sets i set → IsNoted I set old new → AreMarks I sets i old → AreMarks I sets (i + 1) new
  marks-next i set old new here is (inl noted) marks = record {
    each = subst (All (IsSetMask I sets)) (sym noted.3) (All-push (IsSetMask I sets) old noted.0 marks.each (record { set = set; held = (i, here, sym is); known = noted.2; is = noted.1 }));
    whole = λ j d less inside known. elim (eqb_tells j i) [
      | inl y ↦
          let same : set ≡ slice_index_or sets j d = is ∙ get_or_default sets i set d here ∙ ap (λ i. slice_index_or sets i d) (sym y.1) in
          subst (HasMask new) same (record { mask = noted.0; held = subst (λ xs. Contains xs noted.0) (sym noted.3) (Contains-push old noted.0); is = noted.1 })
      | inr m ↦
          let was = marks.whole j d (earlier i j m.1 less) inside known in
          record { mask = was.mask; held = subst (λ xs. Contains xs was.mask) (sym noted.3) (Contains-before_push old noted.0 was.mask was.held); is = was.is }
    ];
  }
  marks-next i set old new here is (inr left) marks = record {
    each = subst (All (IsSetMask I sets)) (sym left.1) marks.each;
    whole = λ j d less inside known. elim (eqb_tells j i) [
      | inl y ↦
          let same : set ≡ slice_index_or sets j d = is ∙ get_or_default sets i set d here ∙ ap (λ i. slice_index_or sets i d) (sym y.1) in
          absurd (left.0 (subst (All (λ s. s < length I.ships)) (sym same) known))
      | inr m ↦ subst (λ xs. HasMask xs (slice_index_or sets j d)) (sym left.1) (marks.whole j d (earlier i j m.1 less) inside known)
    ];
  }

-- those of the masks that lie between two numbers
module _ (own early : ℕ) (marks : List ℕ) where
  pub having-first : AreHaving own early marks 0 []
  having-first = record { each = λ j d here. absurd (omega (arith, here)); whole = λ j d none here. absurd (omega (arith, none)) }

  pub having-next : (i mask : ℕ) (old new : List ℕ) → i < length marks → mask ≡ slice_index_or marks i mask → IsPutBetween own early mask old new → AreHaving own early marks i old → AreHaving own early marks (i + 1) new
  having-next i mask old new here is put have = record {
    each = elim put [
      | inl more ↦ subst (All (Contains marks)) (sym more.1) (All-push (Contains marks) old mask have.each (i, here, sym is))
      | inr left ↦ subst (All (Contains marks)) (sym left.1) have.each
    ];
    whole = λ j d less inside bits. elim (eqb_tells j i) [
      | inl y ↦
          let same : mask ≡ slice_index_or marks j d = is ∙ get_or_default marks i mask d here ∙ ap (λ i. slice_index_or marks i d) (sym y.1) in
          subst (Contains new) same (last put (subst (IsBetween own early) (sym same) bits))
      | inr m ↦ kept put (slice_index_or marks j d) (have.whole j d (earlier i j m.1 less) inside bits)
    ];
  }
    where
      last : IsPutBetween own early mask old new → IsBetween own early mask → Contains new mask
      last (inl more) bits = subst (λ xs. Contains xs mask) (sym more.1) (Contains-push old mask)
      last (inr left) bits = absurd (left.0 bits)

      kept : IsPutBetween own early mask old new → (m : ℕ) → Contains old m → Contains new m
      kept (inl more) m held = subst (λ xs. Contains xs m) (sym more.1) (Contains-before_push old mask m held)
      kept (inr left) m held = subst (λ xs. Contains xs m) (sym left.1) held

  -- of the sets' masks they are those of the sets that the ship may complete
  pub having-done : (I : Instance) (k : ℕ) (sets : List (List ℕ)) (ship : ℕ) (ships : List ℕ) (masks : List ℕ) → IsMask own (ship ∷ []) → IsMask early ships → AreAllowed I k ship (length I.ships) ships
      → AreMarks I sets (length sets) marks → AreHaving own early marks (length marks) masks → AreCompletable I k sets (length sets) ship masks
  having-done I k sets ship ships masks is early_is allowed are have = record {
    each = All-weaker (Contains marks) (IsSetMask I sets) (λ m held. All-contains (IsSetMask I sets) marks m are.each held) masks have.each;
    whole = λ j d less inside has late known.
        let set = slice_index_or sets j d in
        let mine = are.whole j d less inside known in
        let bits : bit_and own mine.mask ≡ own = in-mask own mine.mask (ship ∷ []) set is mine.is (record { among = All-cons (Contains set) ship [] has (All-nil (Contains set)) }) in
        let within : All (Contains ships) set = λ i e here. allowed.whole (slice_index_or set i e) (known i e here) (late i e here) in
        let before : bit_and mine.mask early ≡ mine.mask = in-mask mine.mask early set ships mine.is early_is (record { among = within }) in
        let held : Contains masks (slice_index_or marks mine.held.0 mine.mask) = have.whole mine.held.0 mine.mask mine.held.1 mine.held.1 (subst (IsBetween own early) (sym mine.held.2) (bits, before)) in
        record { mask = mine.mask; held = subst (Contains masks) mine.held.2 held; is = mine.is };
  }

-- ships that are allowed, listed one after another
module _ (I : Instance) (k ship : ℕ) where
  pub allowed-first : AreAllowed I k ship 0 []
  allowed-first = record { small = All-nil (λ s. s < SHIPS); whole = λ s none is. absurd (omega (arith, none)) }

  pub allowed-more : (n : ℕ) (old : List ℕ) → n < SHIPS → AreAllowed I k ship n old → AreAllowed I k ship (n + 1) (old ++ n ∷ [])
  allowed-more n old few are = record {
    small = All-push (λ s. s < SHIPS) old n are.small few;
    whole = λ s less is. elim (eqb_tells s n) [
      | inl y ↦ subst (Contains (old ++ n ∷ [])) (sym y.1) (Contains-push old n)
      | inr m ↦ Contains-before_push old n s (are.whole s (earlier n s m.1 less) is)
    ];
  }

-- the masks completable one ship more
pub completable-next : (I : Instance) (k : ℕ) (sets : List (List ℕ)) (n : ℕ) (old : List CompletableSets) (completable : CompletableSets) → (is_missing I k n ≡ true → AreCompletable I k sets (length sets) n completable.masks.items) → AreAllCompletable I k sets n old → AreAllCompletable I k sets (n + 1) (old ++ completable ∷ [])
completable-next I k sets n old completable is are = record {
  count = omega (arith, are.count, length-append old (completable ∷ []));
  each = λ s d less missing. elim (eqb_tells s n) [
    | inl y ↦
        let at : completable ≡ slice_index_or (old ++ completable ∷ []) n d = sym (get_or-append_seam old completable [] d) ∙ ap (λ i. slice_index_or (old ++ completable ∷ []) i d) are.count in
        subst (λ s. AreCompletable I k sets (length sets) s (slice_index_or (old ++ completable ∷ []) s d).masks.items) (sym y.1) (subst (λ (completable : CompletableSets). AreCompletable I k sets (length sets) n completable.masks.items) at (is (subst (λ s. is_missing I k s ≡ true) y.1 missing)))
    | inr m ↦
        let before = earlier n s m.1 less in
        subst (λ (completable : CompletableSets). AreCompletable I k sets (length sets) s completable.masks.items) (sym (get_or_append_left old (completable ∷ []) d s (omega (arith, are.count, before)))) (are.each s d before missing)
  ];
}

pub completable-first : (I : Instance) (k : ℕ) (sets : List (List ℕ)) → AreAllCompletable I k sets 0 []
completable-first I k sets = record { count = refl; each = λ s d none. absurd (omega (arith, none)) }

module _ (I : Instance) (k : ℕ) (sets : List (List ℕ)) (ship : ℕ) where
  module _ (masks : List ℕ) (completable : AreCompletable I k sets (length sets) ship masks) (ships : List ℕ) (mask : ℕ) (is : IsMask mask (insert_number ship ships))
      (known : All (λ s. s < length I.ships) (insert_number ship ships)) (few : length I.ships ≤ SHIPS) where
    -- NO OTHER SET can be among ships that held none before the ship.
    pub completable-missed : All (IsAllowed I k ship) ships → All (LacksSome ships) sets → All (λ m. ¬ (bit_and m mask ≡ m)) masks → All (LacksSome (insert_number ship ships)) sets
    completable-missed allowed before apart = λ j d here within.
        let set = slice_index_or sets j d in
        elim (leb_tells 1 (times_in set ship)) [
          | inl some ↦
              let mine = All-weaker (Contains (insert_number ship ships)) (λ s. s < length I.ships) (λ s h. All-contains (λ s. s < length I.ships) (insert_number ship ships) s known h) set within.among in
              let ends = All-weaker (Contains (insert_number ship ships)) (IsAllowed I k (suc ship)) (λ s h. All-contains (IsAllowed I k (suc ship)) (insert_number ship ships) s completed h) set within.among in
              let own = completable.whole j d here here (times-contains set ship some.1) ends mine in
              All-contains (λ m. ¬ (bit_and m mask ≡ m)) masks own.mask apart own.held (in-mask own.mask mask set (insert_number ship ships) own.is is within)
          | inr none ↦ before j d here (record { among = λ i e inside. old set i e inside (omega (arith, none.1)) (within.among i e inside) })
        ]
      where
        completed : All (IsAllowed I k (suc ship)) (insert_number ship ships)
        completed = All-insert_number (IsAllowed I k (suc ship)) ship ships (inr (omega arith)) (All-weaker (IsAllowed I k ship) (IsAllowed I k (suc ship)) (λ s is. elim is [ inl held ↦ inl held | inr less ↦ inr (omega (arith, less)) ]) ships allowed)

        old : (set : List ℕ) (i e : ℕ) → i < length set → times_in set ship ≡ 0 → Contains (insert_number ship ships) (slice_index_or set i e) → Contains ships (slice_index_or set i e)
        old set i e inside none held =
            let s = slice_index_or set i e in
            times-contains ships s (elim (eqb_tells ship s) [
              | inl y ↦ absurd (omega (arith, none, subst (λ s. 1 ≤ times_in set s) (sym y.1) (contains-times set s (Contains-get_or set i e inside))))
              | inr m ↦ omega (arith, times_in-insert_number ship s ships, ap {B = ℕ} (λ b. cond b 1 0) m.0, contains-times (insert_number ship ships) s held)
            ])

    pub missed-completable : All (LacksSome (insert_number ship ships)) sets → All (λ m. ¬ (bit_and m mask ≡ m)) masks
    missed-completable missed = λ j d here same.
        let own = completable.each j d here in
        All-contains (LacksSome (insert_number ship ships)) sets own.set missed own.held
        (mask-in (slice_index_or masks j d) mask own.set (insert_number ship ships) (All-weaker (λ s. s < length I.ships) (λ s. s < 128) (λ s h. omega (arith, h, few)) own.set own.known) own.is is same)
