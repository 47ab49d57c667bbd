-- The rows that texts in arguments make, and what one more use adds to them.
use Rattle.std.proofs.Common.{◌≡◌, ◌∙◌, ◌++◌, true, false, List, [], ◌∷◌, refl, sym, ap, codes}
use Rattle.std.proofs.lemmas.Bool.{or_parts}
use Rattle.std.specs.Prelude.{◌||◌}
use Rattle.std.specs.Str.{bytes_eq}
use Rattle.std.proofs.lemmas.List.{append-nil}
use Rattle.clap.specs.Walk.{Row, has_row, at_row, without, with_values, used, more_values, most_values}
use Rattle.clap.specs.Takes.{use_passes}
use Rattle.clap.specs.declared.parser.matches.ValueSource.TheVariants.{CommandLine}
use Rattle.clap.specs.declared.builder.value_parser.Reading.TheVariants as reading
use Rattle.command_words.specs.Names.{Text, name_of, is_flag}
use Rattle.command_words.specs.Given.{Given, is_given, is_in}
use Rattle.command_words.specs.declared.arguments.Argument.{Argument}
use Rattle.command_words.specs.declared.arguments.Argument.TheVariants.{Command, Nodes, Turns, Workers, Dossier, Keep, Number, Ships, Chambers, From, Now}
use Rattle.command_words.specs.Parser.{value_of, row_for, rows_for}
use Rattle.command_words.proofs.Built.{built_rule}

pub has_rows : (s : Argument) (given : Given) → has_row (name_of s) (rows_for given) ≡ is_given s given
has_rows s [] = refl
has_rows s (g ∷ gs) = ap (λ b. is_in s g || b) (has_rows s gs)

pub at_none : (id : Text) (change : Row → List Row) (missing rows : List Row) → has_row id rows ≡ false → at_row id change missing rows ≡ rows ++ missing
at_none id change missing [] e = refl
at_none id change missing (r ∷ rs) e =
    let both = or_parts (bytes_eq r.id id) (has_row id rs) e in
    let here : bytes_eq r.id id ≡ false = both.0 in
    rw here (ap (λ l. r ∷ l) (at_none id change missing rs both.1))

pub map_append : (xs ys : Given) → rows_for (xs ++ ys) ≡ rows_for xs ++ rows_for ys
map_append [] ys = refl
map_append (x ∷ xs) ys = ap (λ l. row_for x ∷ l) (map_append xs ys)

-- a first use adds a row
new_row : (s : Argument) (v t : Text) (given : Given) → v ≡ value_of (s, t) → is_given s given ≡ false
    → with_values (name_of s) reading.AsWritten CommandLine (v ∷ []) (without (name_of s) (rows_for given)) ≡ rows_for (given ++ (s, t) ∷ [])
new_row s v t given is fresh =
    let free = has_rows s given ∙ fresh in
    let same = at_none (name_of s) (λ _. []) [] (rows_for given) free ∙ append-nil (rows_for given) in
    rw (is, same) (at_none (name_of s) (more_values CommandLine (value_of (s, t) ∷ [])) (rows_for ((s, t) ∷ [])) (rows_for given) free ∙ sym (map_append given ((s, t) ∷ [])))

used_set : (s : Argument) (t : Text) (rows : List Row) → is_flag s ≡ false
    → used (built_rule s) (t ∷ []) rows ≡ with_values (name_of s) reading.AsWritten CommandLine (t ∷ []) (without (name_of s) rows)
used_set Command t rows e = refl
used_set Nodes t rows e = refl
used_set Turns t rows e = refl
used_set Workers t rows e = refl
used_set Dossier t rows e = cc
used_set Keep t rows e = cc
used_set Number t rows e = refl
used_set Ships t rows e = refl
used_set Chambers t rows e = refl
used_set From t rows e = refl
used_set Now t rows e = refl

pub used_option : (s : Argument) (t : Text) (given : Given) → is_flag s ≡ false → is_given s given ≡ false
    → used (built_rule s) (t ∷ []) (rows_for given) ≡ rows_for (given ++ (s, t) ∷ [])
used_option s t given e fresh = used_set s t (rows_for given) e ∙ new_row s t t given (rw e refl) fresh

pub used_flag : (s : Argument) (given : Given) → is_flag s ≡ true → is_given s given ≡ false
    → used (built_rule s) [] (rows_for given) ≡ rows_for (given ++ (s, codes "true") ∷ [])
used_flag Dossier given e fresh = new_row Dossier (codes "true") (codes "true") given refl fresh
used_flag Keep given e fresh = new_row Keep (codes "true") (codes "true") given refl fresh
used_flag Command given e fresh = cc
used_flag Nodes given e fresh = cc
used_flag Turns given e fresh = cc
used_flag Workers given e fresh = cc
used_flag Number given e fresh = cc
used_flag Ships given e fresh = cc
used_flag Chambers given e fresh = cc
used_flag From given e fresh = cc
used_flag Now given e fresh = cc

passes_set : (s : Argument) (t : Text) (rows : List Row) → is_flag s ≡ false → has_row (name_of s) rows ≡ false → use_passes false (built_rule s) (t ∷ []) rows ≡ true
passes_set Command t rows e free = rw free refl
passes_set Nodes t rows e free = rw free refl
passes_set Turns t rows e free = rw free refl
passes_set Workers t rows e free = rw free refl
passes_set Dossier t rows e free = cc
passes_set Keep t rows e free = cc
passes_set Number t rows e free = rw free refl
passes_set Ships t rows e free = rw free refl
passes_set Chambers t rows e free = rw free refl
passes_set From t rows e free = rw free refl
passes_set Now t rows e free = rw free refl

pub passes_option : (s : Argument) (t : Text) (given : Given) → is_flag s ≡ false → is_given s given ≡ false → use_passes false (built_rule s) (t ∷ []) (rows_for given) ≡ true
passes_option s t given e fresh = passes_set s t (rows_for given) e (has_rows s given ∙ fresh)

pub passes_flag : (s : Argument) (given : Given) → is_flag s ≡ true → is_given s given ≡ false → use_passes false (built_rule s) [] (rows_for given) ≡ true
passes_flag Dossier given e fresh = let free = has_rows Dossier given ∙ fresh in rw free refl
passes_flag Keep given e fresh = let free = has_rows Keep given ∙ fresh in rw free refl
passes_flag Command given e fresh = cc
passes_flag Nodes given e fresh = cc
passes_flag Turns given e fresh = cc
passes_flag Workers given e fresh = cc
passes_flag Number given e fresh = cc
passes_flag Ships given e fresh = cc
passes_flag Chambers given e fresh = cc
passes_flag From given e fresh = cc
passes_flag Now given e fresh = cc

pub takes_one : (s : Argument) → is_flag s ≡ false → most_values (built_rule s) ≡ 1
takes_one Command e = refl
takes_one Nodes e = refl
takes_one Turns e = refl
takes_one Workers e = refl
takes_one Dossier e = cc
takes_one Keep e = cc
takes_one Number e = refl
takes_one Ships e = refl
takes_one Chambers e = refl
takes_one From e = refl
takes_one Now e = refl

pub takes_none : (s : Argument) → is_flag s ≡ true → most_values (built_rule s) ≡ 0
takes_none Dossier e = refl
takes_none Keep e = refl
takes_none Command e = cc
takes_none Nodes e = cc
takes_none Turns e = cc
takes_none Workers e = cc
takes_none Number e = cc
takes_none Ships e = cc
takes_none Chambers e = cc
takes_none From e = cc
takes_none Now e = cc

pub id_is : (s : Argument) → (built_rule s).id ≡ name_of s
id_is Command = refl
id_is Nodes = refl
id_is Turns = refl
id_is Workers = refl
id_is Dossier = refl
id_is Keep = refl
id_is Number = refl
id_is Ships = refl
id_is Chambers = refl
id_is From = refl
id_is Now = refl
