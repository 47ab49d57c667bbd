-- What follows an instance part: a dossier's certificate, or else a plan text.
use Rattle.std.specs.Prelude.{ℕ, List, option_map}
use Rattle.std.specs.declared.option.Option.{Option}
use Rattle.cert_text.specs.Heading.{headed}
use Rattle.cert_text.specs.declared.heading.Heading.{Heading}
use Rattle.instance_text.specs.Reading.{after_instance}

-- the heading of a certificate that the first line with words behind the instance part is
abbrev pub heading_in : List ℕ → Option Heading
heading_in bytes = option_map (λ found. found.0) (headed (after_instance bytes))
