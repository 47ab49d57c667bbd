-- The parser takes good words, and finds what they say.
use Rattle.std.proofs.Common.{◌≡◌, ◌∙◌, ◌++◌, Bool, true, false, not, List, [], ◌∷◌, map, Option, Some, None, refl, sym, ap, subst, codes}
use Rattle.std.proofs.Math.Bool.{or-false}
use Rattle.std.specs.Prelude.{◌||◌, if◌then◌else◌, option_and_then, option_map, is_some, fold, find, slice_get}
use Rattle.std.specs.Option.{option_map_or}
use Rattle.std.specs.Str.{bytes_eq}
use Rattle.std.proofs.lemmas.Slice.Eq.{bytes_eq-Decides}
use Rattle.std.proofs.lemmas.List.{append_assoc, append-nil}
use Rattle.clap.specs.Facts.{explicit_source}
use Rattle.clap.specs.Walk.{Row, Held, nothing_held, has_row, more_values, with_default, with_values, finished, first_of, one_of, row_text}
use Rattle.clap.specs.Takes.{takes, is_given as is_row_given}
use Rattle.clap.specs.Simple.{matches_of, is_simple}
use Rattle.clap.specs.declared.parser.matches.ValueSource.TheVariants.{DefaultValue}
use Rattle.clap.specs.declared.builder.value_parser.Reading.TheVariants as reading
use Rattle.command_words.specs.Names.{Text, name_of, is_flag, command_named}
use Rattle.command_words.specs.Given.{Given, is_given, is_in, text_in}
use Rattle.command_words.specs.WordByWord.{PartialLine, start, read_words, is_good, is_whole, is_whole_for, given_of}
use Rattle.command_words.specs.Parser.{parser, row_for, rows_for, default_row, default_for, all_rows}
use Rattle.command_words.specs.declared.arguments.Argument.{Argument}
use Rattle.command_words.specs.declared.arguments.Argument.TheVariants.{Command, Nodes, Turns, Workers, Dossier, Keep, Number, Ships, Chambers, From, Now}
use Rattle.command_words.proofs.Built.{built_rule, rules, top, simple}
use Rattle.command_words.proofs.Rows.{has_rows, at_none}
use Rattle.command_words.proofs.Turns.{walk_at, Holds, Rests}
use Rattle.command_words.proofs.Follows.{Walks, walks, and_left, and_right}

-- ---- the defaults

same_either : (b : Bool) (x : List Row) → (if b then x else x) ≡ x
same_either true x = refl
same_either false x = refl

has_append : (id : Text) (xs ys : List Row) → has_row id (xs ++ ys) ≡ (has_row id xs || has_row id ys)
has_append id [] ys = refl
has_append id (x ∷ xs) ys = go (bytes_eq x.id id) (has_append id xs ys)
  where
    go : (b : Bool) → has_row id (xs ++ ys) ≡ (has_row id xs || has_row id ys) → (b || has_row id (xs ++ ys)) ≡ ((b || has_row id xs) || has_row id ys)
    go true e = refl
    go false e = e

-- one default after others
default_after : (s : Argument) (given : Given) (extra : List Row) → has_row (name_of s) extra ≡ false
    → (if has_row (name_of s) (rows_for given ++ extra) then rows_for given ++ extra else with_values (name_of s) reading.AsWritten DefaultValue (codes "false" ∷ []) (rows_for given ++ extra))
    ≡ rows_for given ++ (extra ++ default_for s given)
default_after s given extra none = go (is_given s given) refl
  where
    has : (b : Bool) → is_given s given ≡ b → has_row (name_of s) (rows_for given ++ extra) ≡ b
    has b e = has_append (name_of s) (rows_for given) extra ∙ (ap (λ c. c || has_row (name_of s) extra) (has_rows s given ∙ e) ∙ (ap (λ c. b || c) none ∙ or-false b))

    go : (b : Bool) → is_given s given ≡ b
        → (if has_row (name_of s) (rows_for given ++ extra) then rows_for given ++ extra else with_values (name_of s) reading.AsWritten DefaultValue (codes "false" ∷ []) (rows_for given ++ extra))
        ≡ rows_for given ++ (extra ++ (if b then [] else default_row s ∷ []))
    go true e = rw (has true e) (ap (λ l. rows_for given ++ l) (sym (append-nil extra)))
    go false e = rw (has false e) (at_none (name_of s) (more_values DefaultValue (codes "false" ∷ [])) (default_row s ∷ []) (rows_for given ++ extra) (has false e) ∙ append_assoc (rows_for given) extra (default_row s ∷ []))

no_keep : (given : Given) → has_row (name_of Keep) (default_for Dossier given) ≡ false
unfolding name_of
no_keep given = go (is_given Dossier given)
  where
    go : (b : Bool) → has_row (name_of Keep) (if b then [] else default_row Dossier ∷ []) ≡ false
    go true = refl
    go false = refl

plain_default : (s : Argument) (rows : List Row) → is_flag s ≡ false → with_default rows (built_rule s) ≡ rows
plain_default Command rows e = same_either _ rows
plain_default Nodes rows e = same_either _ rows
plain_default Turns rows e = same_either _ rows
plain_default Workers rows e = same_either _ rows
plain_default Dossier rows e = cc
plain_default Keep rows e = cc
plain_default Number rows e = same_either _ rows
plain_default Ships rows e = same_either _ rows
plain_default Chambers rows e = same_either _ rows
plain_default From rows e = same_either _ rows
plain_default Now rows e = same_either _ rows

finished_rows : (h : Held) (given : Given) → Rests given h → finished rules h ≡ all_rows given
finished_rows h given rests =
    let first : finished rules h ≡ fold with_default (rows_for given) rules = ap (λ rows. fold with_default rows rules) rests.rows in
    let dossier : with_default (rows_for given) (built_rule Dossier) ≡ rows_for given ++ default_for Dossier given =
    ap (λ rows. with_default rows (built_rule Dossier)) (sym (append-nil (rows_for given))) ∙ default_after Dossier given [] refl in
    let keep : with_default (rows_for given ++ default_for Dossier given) (built_rule Keep) ≡ all_rows given = default_after Keep given (default_for Dossier given) (no_keep given) in
    let same : (s : Argument) (rows : List Row) → is_flag s ≡ false → with_default rows (built_rule s) ≡ rows = plain_default in
    let a : fold with_default (rows_for given) rules ≡ fold with_default (with_default (rows_for given) (built_rule Dossier)) (map built_rule (Keep ∷ Number ∷ Ships ∷ Chambers ∷ From ∷ Now ∷ [])) =
    rw (same Command (rows_for given) refl, same Nodes (rows_for given) refl, same Turns (rows_for given) refl, same Workers (rows_for given) refl) refl in
    let b : fold with_default (with_default (rows_for given) (built_rule Dossier)) (map built_rule (Keep ∷ Number ∷ Ships ∷ Chambers ∷ From ∷ Now ∷ [])) ≡ fold with_default (all_rows given) (map built_rule (Number ∷ Ships ∷ Chambers ∷ From ∷ Now ∷ [])) =
    rw (dossier, keep) refl in
    let c : fold with_default (all_rows given) (map built_rule (Number ∷ Ships ∷ Chambers ∷ From ∷ Now ∷ [])) ≡ all_rows given =
    rw (same Number (all_rows given) refl, same Ships (all_rows given) refl, same Chambers (all_rows given) refl, same From (all_rows given) refl, same Now (all_rows given) refl) refl in
    first ∙ (a ∙ (b ∙ c))

-- ---- look-ups

abbrev flag_name : Text → Bool
flag_name t = bytes_eq (codes "dossier") t || bytes_eq (codes "keep") t

flag_is : (s : Argument) → is_flag s ≡ flag_name (name_of s)
unfolding name_of
flag_is Command = refl
flag_is Nodes = refl
flag_is Turns = refl
flag_is Workers = refl
flag_is Dossier = refl
flag_is Keep = refl
flag_is Number = refl
flag_is Ships = refl
flag_is Chambers = refl
flag_is From = refl
flag_is Now = refl

flags_same : (a b : Argument) → bytes_eq (name_of a) (name_of b) ≡ true → is_flag a ≡ is_flag b
flags_same a b e = flag_is a ∙ (ap flag_name ((bytes_eq-Decides (name_of a) (name_of b)).0 e) ∙ sym (flag_is b))

other_kind : (a b : Argument) → is_flag a ≡ true → is_flag b ≡ false → bytes_eq (name_of a) (name_of b) ≡ false
other_kind a b e f = go (bytes_eq (name_of a) (name_of b)) refl
  where
    go : (c : Bool) → bytes_eq (name_of a) (name_of b) ≡ c → c ≡ false
    go false g = refl
    go true g =
        let same = flags_same a b g in
        let bad : true ≡ false = sym e ∙ (same ∙ f) in
        cc

first_in : (s : Argument) (given : Given) (extra : List Row) → is_flag s ≡ false → first_of (name_of s) extra ≡ None
    → first_of (name_of s) (rows_for given ++ extra) ≡ text_in s given
first_in s [] extra e none = none
first_in s (g ∷ gs) extra e none = go (bytes_eq (name_of g.0) (name_of s)) refl (first_in s gs extra e none)
  where
    go : (b : Bool) → bytes_eq (name_of g.0) (name_of s) ≡ b → first_of (name_of s) (rows_for gs ++ extra) ≡ text_in s gs
        → option_and_then (λ r. slice_get r.values 0) (if b then Some (row_for g) else find (λ r. bytes_eq r.id (name_of s)) (rows_for gs ++ extra)) ≡ option_map (λ h. h.1) (if b then Some g else find (is_in s) gs)
    go true is rest = rw (flags_same g.0 s is ∙ e) refl
    go false is rest = rest

no_default : (s f : Argument) (given : Given) (extra : List Row) → is_flag f ≡ true → is_flag s ≡ false → first_of (name_of s) extra ≡ None → first_of (name_of s) (default_for f given ++ extra) ≡ None
no_default s f given extra flag plain none = go (is_given f given)
  where
    go : (b : Bool) → first_of (name_of s) ((if b then [] else default_row f ∷ []) ++ extra) ≡ None
    go true = none
    go false = rw (other_kind f s flag plain) none

-- an option's text, and the command
pub text_found : (s : Argument) (given : Given) → is_flag s ≡ false → first_of (name_of s) (all_rows given) ≡ text_in s given
text_found s given e = first_in s given _ e
    (no_default s Dossier given (default_for Keep given) refl e (ap (first_of (name_of s)) (sym (append-nil (default_for Keep given))) ∙ no_default s Keep given [] refl e refl))

flag_in : (f : Argument) (given : Given) (extra : List Row) → is_flag f ≡ true
    → one_of (name_of f) (rows_for given ++ extra) ≡ (if is_given f given then Some (codes "true") else one_of (name_of f) extra)
flag_in f [] extra e = refl
flag_in f (g ∷ gs) extra e = go (bytes_eq (name_of g.0) (name_of f)) refl (flag_in f gs extra e)
  where
    go : (b : Bool) → bytes_eq (name_of g.0) (name_of f) ≡ b → one_of (name_of f) (rows_for gs ++ extra) ≡ (if is_given f gs then Some (codes "true") else one_of (name_of f) extra)
        → option_and_then row_text (if b then Some (row_for g) else find (λ r. bytes_eq r.id (name_of f)) (rows_for gs ++ extra)) ≡ (if (b || is_given f gs) then Some (codes "true") else one_of (name_of f) extra)
    go true is rest = rw (flags_same g.0 f is ∙ e) refl
    go false is rest = rest

abbrev pub flag_text : Bool → Text
flag_text b = if b then codes "true" else codes "false"

pub dossier_found : (given : Given) → one_of (name_of Dossier) (all_rows given) ≡ Some (flag_text (is_given Dossier given))
unfolding name_of
dossier_found given = flag_in Dossier given (default_for Dossier given ++ default_for Keep given) refl ∙ go (is_given Dossier given)
  where
    go : (b : Bool) → (if b then Some (codes "true") else one_of (name_of Dossier) ((if b then [] else default_row Dossier ∷ []) ++ default_for Keep given)) ≡ Some (flag_text b)
    go true = refl
    go false = refl

pub keep_found : (given : Given) → one_of (name_of Keep) (all_rows given) ≡ Some (flag_text (is_given Keep given))
unfolding name_of
keep_found given = flag_in Keep given (default_for Dossier given ++ default_for Keep given) refl ∙ go (is_given Keep given) (is_given Dossier given)
  where
    go : (b c : Bool) → (if b then Some (codes "true") else one_of (name_of Keep) ((if c then [] else default_row Dossier ∷ []) ++ (if b then [] else default_row Keep ∷ []))) ≡ Some (flag_text b)
    go true c = refl
    go false true = refl
    go false false = refl

-- the command's row is there, and the words gave it
command_given : (given : Given) (extra : List Row) → is_given Command given ≡ true → is_row_given (name_of Command) (rows_for given ++ extra) ≡ true
command_given [] extra e = cc
command_given (g ∷ gs) extra e = go (bytes_eq (name_of g.0) (name_of Command)) e (command_given gs extra)
  where
    go : (b : Bool) → (b || is_given Command gs) ≡ true → (is_given Command gs ≡ true → is_row_given (name_of Command) (rows_for gs ++ extra) ≡ true)
        → option_map_or (λ r. explicit_source r.source) (if b then Some (row_for g) else find (λ r. bytes_eq r.id (name_of Command)) (rows_for gs ++ extra)) false ≡ true
    go true e rest = refl
    go false e rest = rest e

-- ---- the theorem

-- words that are read as a line with a command, and with no option that waits, are taken
pub taken : (words : List Text) (end : PartialLine) → read_words words start ≡ Some end → end.due ≡ None → is_given Command end.given ≡ true
    → (takes parser words ≡ true) × (matches_of parser words ≡ all_rows end.given)
unfolding parser
taken words end read due command =
    let all : Walks end (walk_at start nothing_held) words = walks words start end nothing_held (record { passes = refl; rows = refl }) (λ e. refl) read in
    let rests : Rests end.given all.held = subst (λ d. Holds d end.given all.held) due all.holds in
    let rows : finished top.rules all.held ≡ all_rows end.given = finished_rows all.held end.given rests in
    let given : is_row_given (name_of Command) (all_rows end.given) ≡ true = command_given end.given _ command in
    (rw (all.passes, all.walked_to, rests.passes, rows, given) refl, rw (all.walked_to) rows)

pub flag_found : (s : Argument) (given : Given) → is_flag s ≡ true → one_of (name_of s) (all_rows given) ≡ Some (flag_text (is_given s given))
flag_found Dossier given e = dossier_found given
flag_found Keep given e = keep_found given
flag_found Command given e = cc
flag_found Nodes given e = cc
flag_found Turns given e = cc
flag_found Workers given e = cc
flag_found Number given e = cc
flag_found Ships given e = cc
flag_found Chambers given e = cc
flag_found From given e = cc
flag_found Now given e = cc

pub flag_reads : (r b : Bool) (one : Option Text) → (one ≡ Some (codes "true") → r ≡ true) → (one ≡ Some (codes "false") → r ≡ false) → one ≡ Some (flag_text b) → r ≡ b
flag_reads r true one when other e = when e
flag_reads r false one when other e = other e

-- ---- good words

is_some_since : (o : Option Text) (t : Text) → o ≡ Some t → is_some o ≡ true
is_some_since o t e = rw e refl

pub text_given : (s : Argument) (given : Given) → is_some (text_in s given) ≡ is_given s given
text_given s [] = refl
text_given s (g ∷ gs) = go (is_in s g) (text_given s gs)
  where
    go : (b : Bool) → is_some (text_in s gs) ≡ is_given s gs → is_some (option_map (λ h. h.1) (if b then Some g else find (is_in s) gs)) ≡ (b || is_given s gs)
    go true e = refl
    go false e = e

-- good words are read as a line with a command, and with no option that waits
pub record IsRead (words : List Text) : Type 0 where
  pub end : PartialLine
  pub read : read_words words start ≡ Some end
  pub due : end.due ≡ None
  pub command : is_given Command end.given ≡ true

whole_is : (end : PartialLine) → is_whole end ≡ true → (end.due ≡ None) × (is_given Command end.given ≡ true)
unfolding is_whole
whole_is end e = (no_wait end.due (and_left _ _ e), by_text (text_in Command end.given) refl (and_right (not (is_some end.due)) _ e))
  where
    no_wait : (o : Option Argument) → not (is_some o) ≡ true → o ≡ None
    no_wait None e = refl
    no_wait (Some s) e = cc

    by_text : (o : Option Text) → text_in Command end.given ≡ o → option_map_or (is_whole_for end.given) (option_and_then command_named o) false ≡ true → is_given Command end.given ≡ true
    by_text None is e = cc
    by_text (Some t) is e = sym (text_given Command end.given) ∙ is_some_since (text_in Command end.given) t is

pub good_is_read : (words : List Text) → is_good words ≡ true → IsRead words
unfolding is_good
good_is_read words e = go (read_words words start) refl e
  where
    go : (o : Option PartialLine) → read_words words start ≡ o → option_map_or is_whole o false ≡ true → IsRead words
    go None r e = cc
    go (Some end) r e =
        let whole = whole_is end e in
        record { end = end; read = r; due = whole.0; command = whole.1 }

-- they are taken, and the parser finds what they gave
pub good_words_taken : (words : List Text) → is_good words ≡ true → (takes parser words ≡ true) × (is_simple parser ≡ true) × (matches_of parser words ≡ all_rows (given_of words))
unfolding given_of
good_words_taken words e =
    let r = good_is_read words e in
    let t = taken words r.end r.read r.due r.command in
    (t.0, simple, rw (r.read) t.1)
