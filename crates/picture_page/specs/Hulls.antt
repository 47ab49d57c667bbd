-- The hulls of a deck. x rises to the right from the near end, y downwards from the left quay.
use Rattle.std.specs.Prelude.{ℕ, ◌+◌, ◌-◌, ◌/◌, List, [], ◌∷◌, ◌++◌, length, min, codes}
use Rattle.std.specs.List.{flat_map, range_with_len}
use Rattle.lock_model.specs.declared.instance.Instance.{Instance}
use Rattle.lock_model.specs.declared.placement.Spot.{Spot}
use Rattle.lock_model.specs.declared.plan.Lockage.{Lockage}
use Rattle.lock_model.specs.declared.ship.Ship.{Ship}
use Rattle.lock_model.specs.declared.way.Way.{Way}
use Rattle.lock_model.specs.declared.way.Way.TheVariants.{Up, Down}
use Rattle.picture_page.specs.Forms.{filled}
use Rattle.picture_page.specs.Words.{measures}
use Rattle.picture_page.specs.Scales.{units_of}
use Rattle.picture_page.specs.Berths.{ship_of, spot_of, berth_text}
use Rattle.picture_page.specs.declared.hulls.Hull.{Hull}
use Rattle.picture_page.specs.declared.scales.DeckScale.{DeckScale}

-- what a ship covers at a spot
abbrev pub covers : DeckScale → Ship → Spot → Hull
covers scale s p = record {
  near = 96 + units_of scale p.x;
  far = 96 + units_of scale (p.x + s.length);
  top = 32 + units_of scale p.y;
  bottom = 32 + units_of scale (p.y + s.width);
}

-- what the ship at place k of a lockage covers
unfoldable pub hull_of : DeckScale → Instance → Lockage → ℕ → Hull
hull_of scale I l k = covers scale (ship_of I l k) (spot_of l k)

abbrev pub hull_width : Hull → ℕ
hull_width h = h.bottom - h.top

abbrev pub hull_length : Hull → ℕ
hull_length h = h.far - h.near

-- the length of its bow, and where it narrows
abbrev pub bow_of : Hull → ℕ
bow_of h = min (hull_width h / 2) (hull_length h / 5)

abbrev pub hull_middle : Hull → ℕ
hull_middle h = (h.top + h.bottom) / 2

-- its outline, 3 units inside, with the bow to the right for up and to the left for down
unfoldable pub outline : Way → Hull → List ℕ
outline Up h =
    filled (codes "<path class=\"hu\" d=\"M% %H%L% %V%L% %H%Z\"/></g>")
    ((h.near + 3) ∷ (h.top + 3) ∷ (h.far - 3 - bow_of h) ∷ (h.far - 3) ∷ (h.top + 3 + hull_width h / 3) ∷ (h.bottom - 3 - hull_width h / 3)
    ∷ (h.far - 3 - bow_of h) ∷ (h.bottom - 3) ∷ (h.near + 3) ∷ [])
outline Down h =
    filled (codes "<path class=\"hd\" d=\"M% %H%L% %V%L% %H%Z\"/></g>")
    ((h.far - 3) ∷ (h.top + 3) ∷ (h.near + 3 + bow_of h) ∷ (h.near + 3) ∷ (h.top + 3 + hull_width h / 3) ∷ (h.bottom - 3 - hull_width h / 3)
    ∷ (h.near + 3 + bow_of h) ∷ (h.bottom - 3) ∷ (h.far - 3) ∷ [])

-- the hull of the ship at place k, with what it is in a sentence
unfoldable pub hull_text : DeckScale → Instance → Lockage → ℕ → List ℕ
hull_text scale I l k =
    filled (codes "<g><title>") [] ++ (ship_of I l k).name ++ filled (codes ", ") [] ++ measures (ship_of I l k).length (ship_of I l k).width
    ++ filled (codes ", ") [] ++ berth_text I l k
    ++ filled (codes "</title>") [] ++ outline l.way (hull_of scale I l k)

unfoldable pub hulls : DeckScale → Instance → Lockage → List ℕ
hulls scale I l = flat_map (hull_text scale I l) (range_with_len 0 (length l.ships))
