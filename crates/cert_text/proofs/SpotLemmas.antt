-- Spots are read back.
use Rattle.std.proofs.Common.{◌≡◌, ◌≢◌, List, [], ◌∷◌, None, refl, length}
use Rattle.serde_json.specs.View.{items_view}
use Rattle.serde_json.specs.declared.value.Value.{Value}
use Rattle.cert_text.specs.Plans.{spot_items}

-- a list of another length
pub no_spot : (vs : List Value) → length vs ≢ 4 → None ≡ spot_items (items_view vs)
no_spot [] other = refl
no_spot (a ∷ []) other = refl
no_spot (a ∷ b ∷ []) other = refl
no_spot (a ∷ b ∷ c ∷ []) other = refl
no_spot (a ∷ b ∷ c ∷ d ∷ []) other = absurd (other refl)
no_spot (a ∷ b ∷ c ∷ d ∷ e ∷ vs) other = refl
