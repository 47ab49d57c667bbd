-- When a day goes on from another one at a minute.
use Rattle.std.specs.Prelude.{ℕ, ◌≡◌, ◌&&◌, Bool, List, map, filter, nat_eq, nat_lt}
use Rattle.day_play.specs.declared.beat.Beat.{Beat}

-- a beat of chamber c before minute M
abbrev pub is_before : ℕ → ℕ → Beat → Bool
is_before M c b = nat_eq b.chamber c && nat_lt b.minute M

-- a beat whose lockage is left out, since another plan may number it otherwise
abbrev pub unnumbered : Beat → Beat
unnumbered b = record b { lockage = 0 }

-- the beats of chamber c before minute M, their lockages left out
abbrev pub beats_before : ℕ → ℕ → List Beat → List Beat
beats_before M c bs = filter (is_before M c) (map unnumbered bs)

-- A DAY THAT GOES ON from another at minute M: in each chamber its beats before M are those of the other one, the number of a lockage apart. So all its other beats are at M or later.
pub record GoesOn (M : ℕ) (others bs : List Beat) : Type 0 where
  pub before : (c : ℕ) → beats_before M c bs ≡ beats_before M c others
