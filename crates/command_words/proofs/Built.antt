-- What building makes of the parser, and which argument a name finds in it.
use Rattle.std.proofs.Common.{◌≡◌, Bool, true, false, List, [], ◌∷◌, Option, Some, map, refl, codes, option_map}
use Rattle.std.specs.Prelude.{◌||◌, if◌then◌else◌}
use Rattle.clap.specs.Walk.{Rule, arg_by_long, arg_by_id}
use Rattle.clap.specs.Simple.{Shape, built, is_simple}
use Rattle.clap.specs.declared.builder.action.ArgAction.TheVariants.{Set}
use Rattle.clap.specs.declared.builder.value_parser.ValueParser.TheVariants as vp
use Rattle.command_words.specs.Names.{Text, name_of, option_named}
use Rattle.command_words.specs.Parser.{parser, rule_for, arguments}
use Rattle.command_words.specs.declared.arguments.Argument.{Argument}
use Rattle.command_words.specs.declared.arguments.Argument.TheVariants.{Command, Nodes, Turns, Workers, Dossier, Keep, Number, Ships, Chambers, From, Now}

abbrev pub flag : Rule → Rule
flag r = record r { parser = Some vp.Bool; defaults = codes "false" ∷ []; missing = codes "true" ∷ []; range = Some (record { start_inclusive = 0; end_inclusive = 0 }) }

abbrev pub option : Rule → Rule
option r = record r { action = Some Set; parser = Some vp.String; range = Some (record { start_inclusive = 1; end_inclusive = 1 }) }

abbrev pub built_rule : Argument → Rule
built_rule Command = record (option (rule_for Command)) { index = Some 1 }
built_rule Dossier = flag (rule_for Dossier)
built_rule Keep = flag (rule_for Keep)
built_rule s = option (rule_for s)

abbrev pub rules : List Rule
rules = map built_rule arguments

abbrev pub top : Shape
top = (built parser).top

pub simple : is_simple parser ≡ true
unfolding parser
simple = refl

pub by_id : (s : Argument) → arg_by_id rules (name_of s) ≡ Some (built_rule s)
unfolding name_of
by_id Command = refl
by_id Nodes = refl
by_id Turns = refl
by_id Workers = refl
by_id Dossier = refl
by_id Keep = refl
by_id Number = refl
by_id Ships = refl
by_id Chambers = refl
by_id From = refl
by_id Now = refl

next : (b : Bool) (s : Argument) (r : Rule) (x : Option Rule) (y : Option Argument) → r ≡ built_rule s → x ≡ option_map built_rule y → (if b || false then Some r else x) ≡ option_map built_rule (if b then Some s else y)
next true s r x y e h = rw e refl
next false s r x y e h = h

pub by_long : (t : Text) → arg_by_long rules t ≡ option_map built_rule (option_named t)
unfolding option_named
by_long t =
    next _ Nodes _ _ _ refl (next _ Turns _ _ _ refl (next _ Workers _ _ _ refl (next _ Dossier _ _ _ refl (next _ Keep _ _ _ refl
    (next _ Number _ _ _ refl (next _ Ships _ _ _ refl (next _ Chambers _ _ _ refl (next _ From _ _ _ refl (next _ Now _ _ _ refl refl)))))))))
