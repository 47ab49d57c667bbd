-- What a seat knows of the word, and what each step makes of it.
use Rattle.std.specs.Prelude.{ℕ, ◌+◌, ◌-◌, min, List, [], ◌∷◌, ◌++◌}
use Rattle.bound_word.specs.declared.view.View.{View}
use Rattle.bound_word.specs.declared.view.Opening.{Opening}

-- the least of n and the numbers of a list
abbrev pub least : ℕ → List ℕ → ℕ
least n [] = n
least n (x ∷ xs) = min x (least n xs)

-- the first view, which holds all parts
abbrev pub first_view : Opening → View
first_view o = record { seen = o.number; posted = []; parts = o.parts; opening = o.number; whole = o.parts }

-- the view of a seat that was joined into another: it has seen and posted nothing, and has no part
abbrev pub spent_view : View
spent_view = record { seen = 0; posted = []; parts = 0; opening = 0; whole = 0 }

-- a load: n is then the least number seen
abbrev pub with_seen : View → ℕ → View
with_seen v n = record { seen = n; posted = v.posted; parts = v.parts; opening = v.opening; whole = v.whole }

-- a lower: the cost was posted, and n is then the least number seen
abbrev pub with_post : View → ℕ → ℕ → View
with_post v n cost = record { seen = n; posted = v.posted ++ cost ∷ []; parts = v.parts; opening = v.opening; whole = v.whole }

-- a split, of the seat that gives up a part
abbrev pub after_split : View → View
after_split v = record { seen = v.seen; posted = v.posted; parts = v.parts - 1; opening = v.opening; whole = v.whole }

-- a split, of the new seat
abbrev pub split_off : View → View
split_off v = record { seen = v.seen; posted = []; parts = 1; opening = v.opening; whole = v.whole }

-- a join, of the seat that gets what the other had
abbrev pub joined : View → View → View
joined v w = record { seen = min v.seen w.seen; posted = v.posted ++ w.posted; parts = v.parts + w.parts; opening = v.opening; whole = v.whole }
