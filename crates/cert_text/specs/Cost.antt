-- The cost as a JSON value.
use Rattle.std.specs.Prelude.{ℕ, Option}
use Rattle.serde_json.specs.Data.{Data}
use Rattle.cert_text.specs.Fields.{number_data, number_in}

abbrev pub cost_data : ℕ → Data
cost_data = number_data

abbrev pub cost_in : Data → Option ℕ
cost_in = number_in
