-- The words of printed lines are plain, and mean what was printed.
use Rattle.std.proofs.Common.{◌≡◌, ◌≢◌, ℕ, ◌<◌, ◌≤◌, ◌^◌, Bool, true, false, List, [], length, get_or, All, Ok, decimal, codes, refl, sym, subst, arith}
use Rattle.std.specs.Str.{bytes_eq}
use Rattle.std.proofs.lemmas.List.Elements.{All-head}
use Rattle.std.proofs.lemmas.Slice.Eq.{bytes_eq-Decides}
use Rattle.lock_model.specs.Limits.{IsName, is_name_byte}
use Rattle.lock_model.specs.Fleet.{no_chamber, no_ship, ship_at, chamber_at}
use Rattle.lock_model.specs.declared.instance.Instance.{Instance}
use Rattle.lock_model.specs.declared.placement.Moor.{Moor}
use Rattle.lock_model.specs.declared.placement.Moor.TheVariants.{Quay, Ship}
use Rattle.lock_model.specs.declared.placement.Rank.{Rank}
use Rattle.lock_model.specs.declared.placement.Rank.TheVariants.{Left, Right}
use Rattle.lock_model.specs.declared.way.Way.{Way}
use Rattle.instance_text.specs.Canonical.{way_word}
use Rattle.instance_text.proofs.WordBackLemmas.{way_of_back}
use Rattle.plan_text.specs.Words.{number, way, rank, chamber_named, ship_named, host}
use Rattle.plan_text.specs.Printing.{host_word}
use Rattle.plan_print.specs.Words.{rank_word}
use Rattle.plan_text.specs.Writable.{IsWritableMoor}
use Rattle.line_text.proofs.LayoutLemmas.{IsPlain}
use Rattle.line_text.proofs.NumberLemmas.{number_back as number_within_back}
use Rattle.line_text.proofs.PlainLemmas.{name_plain, literal_plain}
use Rattle.plan_text.specs.declared.kinds.PlanKind.TheVariants.{Number, Range}
use Rattle.plan_text.proofs.MadeLemmas.{host_at}
use Rattle.plan_text.proofs.NamedLemmas.{chamber_at_name, ship_at_name}

-- ---- plain words

pub rank_plain : (r : Rank) → IsPlain (rank_word r)
rank_plain Left = literal_plain (codes "left") (omega arith) refl
rank_plain Right = literal_plain (codes "right") (omega arith) refl

pub ship_name : (I : Instance) (s : ℕ) → s < length I.ships → IsName (ship_at I s).name
ship_name I s known = (I.limits.ship s no_ship known).name

pub chamber_name : (I : Instance) (c : ℕ) → c < length I.chambers → IsName (chamber_at I c).name
chamber_name I c known = (I.limits.chamber c no_chamber known).name

pub host_plain : (I : Instance) (ships : List ℕ) (m : Moor) → All (λ s. s < length I.ships) ships → IsWritableMoor (length ships) m → IsPlain (host_word I ships m)
host_plain I ships Quay known within = literal_plain (codes "*") (omega arith) refl
host_plain I ships (Ship k) known within = name_plain (ship_at I (get_or ships k 0)).name (ship_name I (get_or ships k 0) (known k 0 within))

-- ---- what they mean

pub number_back : (high n : ℕ) → n ≤ high → n < 2 ^ 64 → number high (decimal n) ≡ Ok n
number_back high n below small = number_within_back Number Range 0 high n (omega arith) below small

pub way_back : (w : Way) → way (way_word w) ≡ Ok w
way_back w = rw (way_of_back w) refl

pub rank_back : (r : Rank) → rank (rank_word r) ≡ Ok r
unfolding rank
rank_back Left = refl
rank_back Right = refl

differs : (word other : List ℕ) → other ≢ word → bytes_eq word other ≡ false
differs word other new = by_test (bytes_eq word other) (bytes_eq-Decides word other).0
  where
    by_test : (b : Bool) → (b ≡ true → word ≡ other) → b ≡ false
    by_test true same = absurd (new (sym (same refl)))
    by_test false same = refl

same_word : (word : List ℕ) → bytes_eq word word ≡ true
same_word word = (bytes_eq-Decides word word).1 refl

pub chamber_back : (I : Instance) (c : ℕ) → c < length I.chambers → chamber_named I.chambers (chamber_at I c).name ≡ Ok c
chamber_back I c known = chamber_at_name I.chambers (chamber_at I c).name c known (λ k less. differs (chamber_at I c).name (chamber_at I k).name (I.limits.chamber_names k c no_chamber less known)) (same_word (chamber_at I c).name)

pub ship_back : (I : Instance) (s : ℕ) → s < length I.ships → ship_named I.ships (ship_at I s).name ≡ Ok s
ship_back I s known = ship_at_name I.ships (ship_at I s).name s known (λ k less. differs (ship_at I s).name (ship_at I k).name (I.limits.ship_names k s no_ship less known)) (same_word (ship_at I s).name)

-- no ship has the name `*`
no_star : (name : List ℕ) → IsName name → bytes_eq name (codes "*") ≡ false
no_star name good = differs name (codes "*") (λ same. let first : is_name_byte 42 ≡ true = All-head (λ b. is_name_byte b ≡ true) 42 [] (subst (All (λ b. is_name_byte b ≡ true)) (sym same) good.allowed) in cc)

pub host_back : (I : Instance) (ships : List ℕ) (m : Moor) → All (λ s. s < length I.ships) ships → IsWritableMoor (length ships) m → host I.ships (host_word I ships m) ≡ Ok (host_at ships m)
unfolding host
host_back I ships Quay known within = refl
host_back I ships (Ship k) known within =
    let s = get_or ships k 0 in
    let ship : s < length I.ships = known k 0 within in
    rw (no_star (ship_at I s).name (ship_name I s ship), ship_back I s ship) refl
