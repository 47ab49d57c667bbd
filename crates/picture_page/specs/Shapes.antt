-- Small shapes: arrows, marks of cargo, and passages.
use Rattle.std.specs.Prelude.{ℕ, List, [], ◌∷◌, ◌+◌, ◌-◌, nat_eq, codes, if◌then◌else◌}
use Rattle.lock_model.specs.declared.way.Way.{Way}
use Rattle.lock_model.specs.declared.way.Way.TheVariants.{Up, Down}
use Rattle.picture_page.specs.Forms.{filled}

-- an arrow as a picture of its own
unfoldable pub arrow : Way → List ℕ
arrow Up = codes "<svg class=\"a\" width=\"9\" height=\"11\" aria-hidden=\"true\"><use href=\"#u\"/></svg>"
arrow Down = codes "<svg class=\"a\" width=\"9\" height=\"11\" aria-hidden=\"true\"><use href=\"#d\"/></svg>"

-- an arrow at a point of a picture
unfoldable pub arrow_at : Way → ℕ → ℕ → List ℕ
arrow_at Up x y = filled (codes "<use href=\"#u\" x=\"%\" y=\"%\"/>") (x ∷ y ∷ [])
arrow_at Down x y = filled (codes "<use href=\"#d\" x=\"%\" y=\"%\"/>") (x ∷ y ∷ [])

-- the mark of a cargo class as a picture of its own; of class 0 there is none
unfoldable pub cargo_mark : ℕ → List ℕ
cargo_mark cargo =
    if nat_eq cargo 0 then [] else
    filled (codes "<svg class=\"k\" width=\"15\" height=\"15\"><title>cargo class %</title><use href=\"#k\"/><text x=\"7\" y=\"11\">%</text></svg>")
    (cargo ∷ cargo ∷ [])

-- A passage from x on, so wide, between two heights: its ground, the water in it, which rises or falls, and its outline.
unfoldable pub passage_box : Way → ℕ → ℕ → ℕ → ℕ → List ℕ
passage_box Up x width top bottom =
    filled (codes "<rect class=\"b0\" x=\"%\" y=\"%\" width=\"%\" height=\"%\"/><path class=\"w0\" d=\"M% %H%L% %Z\"/><rect class=\"e0\" x=\"%\" y=\"%\" width=\"%\" height=\"%\"/>")
    (x ∷ top ∷ width ∷ (bottom - top) ∷ x ∷ bottom ∷ (x + width) ∷ (x + width) ∷ top ∷ x ∷ top ∷ width ∷ (bottom - top) ∷ [])
passage_box Down x width top bottom =
    filled (codes "<rect class=\"b1\" x=\"%\" y=\"%\" width=\"%\" height=\"%\"/><path class=\"w1\" d=\"M% %H%L% %Z\"/><rect class=\"e1\" x=\"%\" y=\"%\" width=\"%\" height=\"%\"/>")
    (x ∷ top ∷ width ∷ (bottom - top) ∷ x ∷ bottom ∷ (x + width) ∷ x ∷ top ∷ x ∷ top ∷ width ∷ (bottom - top) ∷ [])

-- a second outline, 3 pixels inside a box
unfoldable pub frame : ℕ → ℕ → ℕ → ℕ → List ℕ
frame x width top bottom =
    filled (codes "<rect class=\"f0\" x=\"%\" y=\"%\" width=\"%\" height=\"%\"/>") ((x + 3) ∷ (top + 3) ∷ (width - 6) ∷ (bottom - (top + 6)) ∷ [])
