-- How the ships of a deck are tied: to bollards of the quay, or to their hosts.
use Rattle.std.specs.Prelude.{ℕ, ◌+◌, ◌-◌, ◌/◌, List, [], ◌∷◌, ◌++◌, length, nat_lt, codes, if◌then◌else◌}
use Rattle.std.specs.List.{flat_map, range_with_len}
use Rattle.lock_model.specs.declared.instance.Instance.{Instance}
use Rattle.lock_model.specs.declared.placement.Moor.{Moor}
use Rattle.lock_model.specs.declared.placement.Moor.TheVariants.{Quay, Ship as AtShip}
use Rattle.lock_model.specs.declared.placement.Rank.{Rank}
use Rattle.lock_model.specs.declared.placement.Rank.TheVariants.{Left, Right}
use Rattle.lock_model.specs.declared.placement.Spot.{Spot}
use Rattle.lock_model.specs.declared.plan.Lockage.{Lockage}
use Rattle.lock_model.specs.declared.way.Way.{Way}
use Rattle.lock_model.specs.declared.way.Way.TheVariants.{Up, Down}
use Rattle.picture_page.specs.Forms.{filled}
use Rattle.picture_page.specs.Berths.{spot_of}
use Rattle.picture_page.specs.Hulls.{hull_of, bow_of}
use Rattle.picture_page.specs.declared.hulls.Hull.{Hull}
use Rattle.picture_page.specs.declared.scales.DeckScale.{DeckScale}

-- a bollard on the quay of a rank, with its line to a hull
unfoldable pub bollard : Rank → Hull → ℕ → List ℕ
bollard Left h x =
    filled (codes "<rect class=\"bo\" x=\"%\" y=\"%\" width=\"32\" height=\"10\"/><path class=\"ti\" d=\"M% %V%\"/>")
    ((x - 16) ∷ (h.top - 24) ∷ x ∷ (h.top - 19) ∷ (h.top + 5) ∷ [])
bollard Right h x =
    filled (codes "<rect class=\"bo\" x=\"%\" y=\"%\" width=\"32\" height=\"10\"/><path class=\"ti\" d=\"M% %V%\"/>")
    ((x - 16) ∷ (h.bottom + 14) ∷ x ∷ (h.bottom + 19) ∷ (h.bottom - 5) ∷ [])

-- a line with a dot at either end, between two heights
unfoldable pub dotted_line : ℕ → ℕ → ℕ → List ℕ
dotted_line x from to =
    filled (codes "<path class=\"ti\" d=\"M% %V%\"/><circle class=\"bo\" cx=\"%\" cy=\"%\" r=\"7\"/><circle class=\"bo\" cx=\"%\" cy=\"%\" r=\"7\"/>")
    (x ∷ from ∷ to ∷ x ∷ from ∷ x ∷ to ∷ [])

-- the line from a host to a guest of a rank
abbrev pub rope : Rank → Hull → Hull → ℕ → List ℕ
rope Left h host x = dotted_line x (host.bottom - 8) (h.top + 8)
rope Right h host x = dotted_line x (host.top + 8) (h.bottom - 8)

-- the place of the host, if any
abbrev pub host_place : Moor → ℕ
host_place Quay = 0
host_place (AtShip k) = k

-- a tie of a ship that is moored so
abbrev pub tie : Rank → Moor → Hull → Hull → ℕ → List ℕ
tie rank Quay h host x = bollard rank h x
tie rank (AtShip k) h host x = rope rank h host x

-- where the ties of a hull are along the chamber: not at its bow
abbrev pub near_tie : Way → Hull → ℕ
near_tie Up h = h.near + 20
near_tie Down h = h.near + 20 + bow_of h

abbrev pub far_tie : Way → Hull → ℕ
far_tie Up h = h.far - 20 - bow_of h
far_tie Down h = h.far - 20

-- two ties, or one in the middle where they would be close
unfoldable pub ties_between : Spot → Hull → Hull → ℕ → ℕ → List ℕ
ties_between p h host near far =
    if nat_lt far (near + 40) then (tie p.rank p.moor h host ((near + far) / 2)) else (tie p.rank p.moor h host near ++ tie p.rank p.moor h host far)

-- the ties of a ship at a spot, which goes this way and covers h
abbrev pub ties_of : Way → Spot → Hull → Hull → List ℕ
ties_of way p h host = ties_between p h host (near_tie way h) (far_tie way h)

-- the ties of the ship at place k
unfoldable pub ties_at : DeckScale → Instance → Lockage → ℕ → List ℕ
ties_at scale I l k = ties_of l.way (spot_of l k) (hull_of scale I l k) (hull_of scale I l (host_place (spot_of l k).moor))

unfoldable pub ties : DeckScale → Instance → Lockage → List ℕ
ties scale I l = flat_map (ties_at scale I l) (range_with_len 0 (length l.ships))
