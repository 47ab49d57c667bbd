-- The line that starts first, by start and chamber.
use Rattle.std.proofs.Common.{◌≡◌, ◌≢◌, ℕ, zero, suc, ◌<◌, ◌≤◌, List, [], ◌∷◌, ◌⊎◌, inl, inr, refl, sym, ap, ◌∙◌, arith}
use Rattle.std.proofs.lemmas.Bool.Decides.{eqb_tells, leb_tells}
use Rattle.lock_model.specs.declared.instance.Instance.{Instance}
use Rattle.lock_model.specs.declared.group.Group.{Group}
use Rattle.lock_model.specs.declared.way.Way.{Way}
use Rattle.sweep_rules.specs.Completion.{AreLawfulAfter}

-- Of the first n chambers the one whose line starts first, by start and chamber.
pub record IsSoonest (lines : ℕ → List Group) (starts : ℕ → List ℕ) (n : ℕ) : Type 0 where
  pub chamber : ℕ
  pub below : chamber < n
  pub group : Group
  pub others : List Group
  pub start : ℕ
  pub times : List ℕ
  pub line : lines chamber ≡ group ∷ others
  pub at : starts chamber ≡ start ∷ times
  pub first : (d : ℕ) → d < n → (h : Group) (hs : List Group) (u : ℕ) (us : List ℕ) → lines d ≡ h ∷ hs → starts d ≡ u ∷ us → (chamber < d → start ≤ u) × (d < chamber → start < u)

module _ (lines : ℕ → List Group) (starts : ℕ → List ℕ) where
  abbrev pub IsNone : ℕ → Type 0
  IsNone n = (d : ℕ) → d < n → lines d ≡ []

  not_both : (d : ℕ) (h : Group) (hs : List Group) → lines d ≡ [] → lines d ≡ h ∷ hs → ⊥
  not_both d h hs e f = cc

  same-start : (c d u t : ℕ) (us ts : List ℕ) → d ≡ c → starts d ≡ u ∷ us → starts c ≡ t ∷ ts → u ≡ t
  same-start c d u t us ts e f g = cc

  below-other : (d n : ℕ) → d < suc n → d ≢ n → d < n
  below-other d n less other = elim (leb_tells (suc d) n) [ inl y ↦ y.1 | inr m ↦ absurd (other (omega (arith, m.1))) ]

  -- the chamber that is first stays so, where the next one's line is empty or starts no sooner
  soonest-kept : (n : ℕ) (f : IsSoonest lines starts n) → ((h : Group) (hs : List Group) (u : ℕ) (us : List ℕ) → lines n ≡ h ∷ hs → starts n ≡ u ∷ us → f.start ≤ u) → IsSoonest lines starts (suc n)
  soonest-kept n f later = record {
    chamber = f.chamber;
    below = omega (arith, f.below);
    group = f.group;
    others = f.others;
    start = f.start;
    times = f.times;
    line = f.line;
    at = f.at;
    first = λ d less h hs u us line at. elim (eqb_tells d n) [
      | inl same ↦
          let own : f.start ≤ u = later h hs u us (ap lines (sym same.1) ∙ line) (ap starts (sym same.1) ∙ at) in
          (λ before. own, λ before. absurd (omega (arith, before, same.1, f.below)))
      | inr other ↦ f.first d (below-other d n less other.1) h hs u us line at
    ];
  }

  -- the next chamber is first, where all lines before are empty, or it starts sooner than the one that was
  soonest-next : (n : ℕ) (g : Group) (gs : List Group) (t : ℕ) (ts : List ℕ) → lines n ≡ g ∷ gs → starts n ≡ t ∷ ts
      → ((d : ℕ) → d < n → (h : Group) (hs : List Group) (u : ℕ) (us : List ℕ) → lines d ≡ h ∷ hs → starts d ≡ u ∷ us → t < u) → IsSoonest lines starts (suc n)
  soonest-next n g gs t ts line at sooner = record {
    chamber = n;
    below = omega arith;
    group = g;
    others = gs;
    start = t;
    times = ts;
    line = line;
    at = at;
    first = λ d less h hs u us line at. (λ before. absurd (omega (arith, before, less)), λ before. sooner d before h hs u us line at);
  }

  -- no line of the first ones starts before the first of them
  pub soonest-least : (n : ℕ) (f : IsSoonest lines starts n) (d : ℕ) → d < n → (h : Group) (hs : List Group) (u : ℕ) (us : List ℕ) → lines d ≡ h ∷ hs → starts d ≡ u ∷ us → f.start ≤ u
  soonest-least n f d less h hs u us line at =
      elim (eqb_tells d f.chamber) [
        | inl same ↦ omega (arith, same-start f.chamber d u f.start us f.times same.1 at f.at)
        | inr other ↦ elim (leb_tells (suc d) f.chamber) [
          | inl before ↦ (let strict = (f.first d less h hs u us line at).1 before.1 in omega (arith, strict))
          | inr behind ↦ (f.first d less h hs u us line at).0 (above d f.chamber other.1 behind.1)
        ]
      ]
    where
      above : (d c : ℕ) → d ≢ c → c < suc d → c < d
      above d c other less = elim (leb_tells (suc c) d) [ inl y ↦ y.1 | inr m ↦ absurd (other (omega (arith, m.1))) ]

  soonest-more : (I : Instance) (n : ℕ) (ready : Way → ℕ) → IsNone n ⊎ IsSoonest lines starts n → (gs : List Group) (ts : List ℕ) → lines n ≡ gs → starts n ≡ ts → AreLawfulAfter I n ready gs ts
      → IsNone (suc n) ⊎ IsSoonest lines starts (suc n)
  soonest-more I n ready so_far [] [] line at lawful =
      elim so_far [
        | inl none ↦ inl (λ d less. elim (eqb_tells d n) [ inl same ↦ ap lines same.1 ∙ line | inr other ↦ none d (below-other d n less other.1) ])
        | inr f ↦ inr (soonest-kept n f (λ h hs u us own times. absurd (not_both n h hs line own)))
      ]
  soonest-more I n ready so_far [] (t ∷ ts) line at lawful = absurd lawful
  soonest-more I n ready so_far (g ∷ gs) [] line at lawful = absurd lawful
  soonest-more I n ready so_far (g ∷ gs) (t ∷ ts) line at lawful =
      elim so_far [
        | inl none ↦ inr (soonest-next n g gs t ts line at (λ d less h hs u us own times. absurd (not_both d h hs (none d less) own)))
        | inr f ↦ elim (leb_tells f.start t) [
          | inl kept ↦ inr (soonest-kept n f (λ h hs u us own times. let same = same-start n n u t us ts refl times at in omega (arith, kept.1, same)))
          | inr sooner ↦ inr (soonest-next n g gs t ts line at (λ d less h hs u us own times. omega (arith, sooner.1, soonest-least n f d less h hs u us own times)))
        ]
      ]

  pub soonest-of : (I : Instance) (ready : ℕ → Way → ℕ) (n : ℕ) → ((c : ℕ) → c < n → AreLawfulAfter I c (ready c) (lines c) (starts c)) → IsNone n ⊎ IsSoonest lines starts n
  soonest-of I ready zero lawful = inl (λ d less. absurd (omega (arith, less)))
  soonest-of I ready (suc n) lawful = soonest-more I n (ready n) (soonest-of I ready n (λ c less. lawful c (omega arith))) (lines n) (starts n) refl refl (lawful n (omega arith))
