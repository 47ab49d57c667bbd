-- What each kind of word does to the parser's walk.
use Rattle.std.proofs.Common.{◌≡◌, ◌∙◌, ◌++◌, ℕ, Bool, true, false, not, List, [], ◌∷◌, Option, Some, None, refl, ap, codes}
use Rattle.std.proofs.Math.Bool.{and-false, or-true, or-false}
use Rattle.std.proofs.lemmas.Bool.{and_from}
use Rattle.std.specs.Prelude.{◌||◌, ◌&&◌, ◌==◌, if◌then◌else◌, option_map}
use Rattle.std.specs.Str.{bytes_eq}
use Rattle.std.proofs.lemmas.Slice.Eq.{bytes_eq-Decides}
use Rattle.std.proofs.lemmas.List.Folds.{list_any-append}
use Rattle.clap.specs.Lexer.{long_of, short_of}
use Rattle.clap.specs.Walk.{Row, Held, Walk, Waiting, idle, option, settled_rows, walked, arg_by_long, is_pending}
use Rattle.clap.specs.Takes.{use_passes, settle_passes, turn_passes, long_passes, react_passes}
use Rattle.clap.proofs.OnLiterals.{clap_on_literals}
use Rattle.command_words.specs.Names.{Text, name_of, is_flag, option_named, is_command}
use Rattle.command_words.specs.Given.{Given, is_given, is_in}
use Rattle.command_words.specs.WordByWord.{PartialLine, behind, name_part, text_part}
use Rattle.command_words.specs.Parser.{parser, rows_for}
use Rattle.command_words.specs.declared.arguments.Argument.{Argument}
use Rattle.command_words.specs.declared.arguments.Argument.TheVariants.{Command, Nodes, Turns, Workers, Dossier, Keep, Number, Ships, Chambers, From, Now}
use Rattle.command_words.proofs.Built.{built_rule, rules, top, by_id, by_long}
use Rattle.command_words.proofs.Rows.{used_option, used_flag, passes_option, passes_flag, takes_one, takes_none, id_is}

-- ---- where the walk stands after words that were read as a line

abbrev pub waiting_for : Option Argument → Waiting
waiting_for None = idle
waiting_for (Some s) = option (name_of s)

abbrev pub position_for : Given → ℕ
position_for given = if is_given Command given then 2 else 1

abbrev pub walk_at : PartialLine → Held → Walk
walk_at line h = record {
  held = h;
  waiting = waiting_for line.due;
  position = position_for line.given;
  is_trailing = not line.is_open;
  stopped = None;
}

-- an option waits for its text
pub record Waits (s : Argument) (given : Given) (h : Held) : Type 0 where
  pub pending : h.pending ≡ Some (name_of s, [])
  pub rows : h.rows ≡ rows_for given
  pub takes : is_flag s ≡ false
  pub other : is_command s ≡ false

-- what is pending can be settled, and then there are these rows
pub record Rests (given : Given) (h : Held) : Type 0 where
  pub passes : settle_passes rules false h ≡ true
  pub rows : settled_rows rules h.pending h.rows ≡ rows_for given

abbrev pub Holds : Option Argument → Given → Held → Type 0
Holds None given h = Rests given h
Holds (Some s) given h = Waits s given h

pub record TurnsTo (line : PartialLine) (w : Walk) (word : Text) : Type 0 where
  pub held : Held
  pub passes : turn_passes top [] w word ≡ true
  pub walked_to : walked top.rules [] w word ≡ walk_at line held
  pub holds : Holds line.due line.given held

-- ---- words

abbrev pub is_plain : Text → Type 0
is_plain w = (bytes_eq w (45 ∷ 45 ∷ []) ≡ false) × (long_of w ≡ None) × (short_of w ≡ None)

pub plain_word_is : (w : Text) → behind 45 w ≡ None → is_plain w
plain_word_is [] e = (refl, refl, refl)
plain_word_is (x ∷ xs) e = go (x == 45) refl
  where
    go : (b : Bool) → (x == 45) ≡ b → is_plain (x ∷ xs)
    go true t =
        let bad : (if (x == 45) then Some xs else None) ≡ None = e in
        let none : Some xs ≡ None = rw t at bad in
        cc
    go false t = rw t (refl, refl, refl)

-- ---- arguments

pub same_ids : (xs : Text) → bytes_eq xs xs ≡ true
same_ids xs = (bytes_eq-Decides xs xs).1 refl

pub other_name : (s : Argument) → is_command s ≡ false → bytes_eq (name_of s) (name_of Command) ≡ false
unfolding name_of
other_name Command e = cc
other_name Nodes e = refl
other_name Turns e = refl
other_name Workers e = refl
other_name Dossier e = refl
other_name Keep e = refl
other_name Number e = refl
other_name Ships e = refl
other_name Chambers e = refl
other_name From e = refl
other_name Now e = refl

pub given_more : (s r : Argument) (t : Text) (given : Given) → is_given s (given ++ (r, t) ∷ []) ≡ (is_given s given || bytes_eq (name_of r) (name_of s))
given_more s r t given = list_any-append (is_in s) given ((r, t) ∷ []) ∙ ap (λ b. is_given s given || b) (or-false (bytes_eq (name_of r) (name_of s)))

position_other : (s : Argument) (t : Text) (given : Given) → is_command s ≡ false → position_for (given ++ (s, t) ∷ []) ≡ position_for given
position_other s t given e =
    let same : is_given Command (given ++ (s, t) ∷ []) ≡ is_given Command given =
    given_more Command s t given ∙ (ap (λ b. is_given Command given || b) (other_name s e) ∙ or-false (is_given Command given)) in
    rw same refl

position_command : (t : Text) (given : Given) → position_for (given ++ (Command, t) ∷ []) ≡ 2
position_command t given = go (is_given Command given) refl
  where
    go : (b : Bool) → is_given Command given ≡ b → position_for (given ++ (Command, t) ∷ []) ≡ 2
    go b e =
        let same : is_given Command (given ++ (Command, t) ∷ []) ≡ true =
        given_more Command Command t given ∙ (ap (λ x. is_given Command given || x) (same_ids (name_of Command)) ∙ or-true (is_given Command given)) in
        rw same refl

-- a text that is pending for its argument rests
pending_rests : (s : Argument) (t : Text) (given : Given) (skip : ℕ) → is_flag s ≡ false → is_given s given ≡ false
    → Rests (given ++ (s, t) ∷ []) (record { rows = rows_for given; pending = Some (name_of s, t ∷ []); skip = skip })
pending_rests s t given skip e fresh = record {
  passes = rw (by_id s) (passes_option s t given e fresh);
  rows = rw (by_id s) (used_option s t given e fresh);
}

-- ---- turns

-- a word behind `--` goes to the command's argument
pub trailing_turn : (w : Text) (given : Given) (h : Held) → is_given Command given ≡ false → Rests given h
    → TurnsTo (record { given = given ++ (Command, w) ∷ []; due = None; is_open = false }) (walk_at (record { given = given; due = None; is_open = false }) h) w
unfolding clap_on_literals parser
trailing_turn w given h fresh rests = record {
  held = record { rows = settled_rows rules h.pending h.rows; pending = Some (name_of Command, w ∷ []); skip = h.skip };
  passes = rw (fresh, and-false (is_pending (built_rule Command) h.pending), rests.passes) refl;
  walked_to = rw (fresh, position_command w given, and-false (is_pending (built_rule Command) h.pending)) refl;
  holds = rw (rests.rows) (pending_rests Command w given h.skip refl fresh);
}

-- and so does a plain word before it
pub plain_turn : (w : Text) (given : Given) (h : Held) → is_plain w → is_given Command given ≡ false → Rests given h
    → TurnsTo (record { given = given ++ (Command, w) ∷ []; due = None; is_open = true }) (walk_at (record { given = given; due = None; is_open = true }) h) w
unfolding clap_on_literals parser
plain_turn w given h plain fresh rests = record {
  held = record { rows = settled_rows rules h.pending h.rows; pending = Some (name_of Command, w ∷ []); skip = h.skip };
  passes = rw (plain.0, plain.1, plain.2, fresh, and-false (is_pending (built_rule Command) h.pending), rests.passes) refl;
  walked_to = rw (plain.0, plain.1, plain.2, fresh, position_command w given, and-false (is_pending (built_rule Command) h.pending)) refl;
  holds = rw (rests.rows) (pending_rests Command w given h.skip refl fresh);
}

-- `--`
pub dashes_turn : (given : Given) (h : Held) → Rests given h
    → TurnsTo (record { given = given; due = None; is_open = false }) (walk_at (record { given = given; due = None; is_open = true }) h) (45 ∷ 45 ∷ [])
unfolding clap_on_literals parser
dashes_turn given h rests = record { held = h; passes = refl; walked_to = refl; holds = rests }

-- the text of an option that waits
pub due_turn : (s : Argument) (w : Text) (given : Given) (h : Held) → is_plain w → is_given s given ≡ false → Waits s given h
    → TurnsTo (record { given = given ++ (s, w) ∷ []; due = None; is_open = true }) (walk_at (record { given = given; due = Some s; is_open = true }) h) w
unfolding clap_on_literals parser
due_turn s w given h plain fresh waits = record {
  held = record { rows = h.rows; pending = Some (name_of s, w ∷ []); skip = h.skip };
  passes = rw (plain.0, plain.1, plain.2) refl;
  walked_to = rw (plain.0, plain.1, plain.2, by_id s, waits.pending, id_is s, same_ids (name_of s), takes_one s waits.takes, position_other s w given waits.other) refl;
  holds = rw (waits.rows) (pending_rests s w given h.skip waits.takes fresh);
}

-- a name of the table
abbrev pub dashed : ℕ → Text → Text
dashed x xs = 45 ∷ 45 ∷ x ∷ xs

rests_now : (given : Given) (rows : List Row) (skip : ℕ) → rows ≡ rows_for given → Rests given (record { rows = rows; pending = None; skip = skip })
rests_now given rows skip e = record { passes = refl; rows = e }

found : (t : Text) (s : Argument) → option_named t ≡ Some s → arg_by_long rules t ≡ Some (built_rule s)
found t s e = by_long t ∙ ap (option_map built_rule) e

joined_passes : (s : Argument) (t : Text) (given : Given) (h : Held) → is_flag s ≡ false → is_given s given ≡ false → Rests given h
    → long_passes rules false (Some (built_rule s)) (Some t) h ≡ true
joined_passes s t given h takes fresh rests =
    let first : long_passes rules false (Some (built_rule s)) (Some t) h ≡ react_passes rules false (built_rule s) (t ∷ []) h =
    ap (λ n. if not (n == 0) then react_passes rules false (built_rule s) (t ∷ []) h else (not true && react_passes rules false (built_rule s) [] h)) (takes_one s takes) in
    let second : react_passes rules false (built_rule s) (t ∷ []) h ≡ use_passes false (built_rule s) (t ∷ []) (settled_rows rules h.pending h.rows) = rw rests.passes refl in
    first ∙ (second ∙ (ap (use_passes false (built_rule s) (t ∷ [])) rests.rows ∙ passes_option s t given takes fresh))

flag_passes : (s : Argument) (given : Given) (h : Held) → is_flag s ≡ true → is_given s given ≡ false → Rests given h
    → long_passes rules false (Some (built_rule s)) None h ≡ true
flag_passes s given h takes fresh rests =
    let first : long_passes rules false (Some (built_rule s)) None h ≡ react_passes rules false (built_rule s) [] h =
    ap (λ n. if not (n == 0) then settle_passes rules false h else (not false && react_passes rules false (built_rule s) [] h)) (takes_none s takes) in
    let second : react_passes rules false (built_rule s) [] h ≡ use_passes false (built_rule s) [] (settled_rows rules h.pending h.rows) = rw rests.passes refl in
    first ∙ (second ∙ (ap (use_passes false (built_rule s) []) rests.rows ∙ passes_flag s given takes fresh))

-- an option with its text in one word
pub joined_turn : (s : Argument) (x : ℕ) (xs t : Text) (given : Given) (h : Held) → option_named (name_part (x ∷ xs)) ≡ Some s → text_part (x ∷ xs) ≡ Some t
    → is_flag s ≡ false → is_command s ≡ false → is_given s given ≡ false → Rests given h
    → TurnsTo (record { given = given ++ (s, t) ∷ []; due = None; is_open = true }) (walk_at (record { given = given; due = None; is_open = true }) h) (dashed x xs)
unfolding clap_on_literals parser
joined_turn s x xs t given h name text takes other fresh rests = record {
  held = record { rows = rows_for (given ++ (s, t) ∷ []); pending = None; skip = h.skip };
  passes = rw (found (name_part (x ∷ xs)) s name, text) (and_from _ _ (joined_passes s t given h takes fresh rests) (rw (takes_one s takes) refl));
  walked_to = rw (found (name_part (x ∷ xs)) s name, text, takes_one s takes, rests.rows, used_option s t given takes fresh, position_other s t given other) refl;
  holds = rests_now (given ++ (s, t) ∷ []) (rows_for (given ++ (s, t) ∷ [])) h.skip refl;
}

-- an option whose text is the next word
pub due_from_turn : (s : Argument) (x : ℕ) (xs : Text) (given : Given) (h : Held) → option_named (name_part (x ∷ xs)) ≡ Some s → text_part (x ∷ xs) ≡ None
    → is_flag s ≡ false → is_command s ≡ false → Rests given h
    → TurnsTo (record { given = given; due = Some s; is_open = true }) (walk_at (record { given = given; due = None; is_open = true }) h) (dashed x xs)
unfolding clap_on_literals parser
due_from_turn s x xs given h name text takes other rests = record {
  held = record { rows = rows_for given; pending = Some (name_of s, []); skip = h.skip };
  passes = rw (found (name_part (x ∷ xs)) s name, text, takes_one s takes, rests.passes) refl;
  walked_to = rw (found (name_part (x ∷ xs)) s name, text, takes_one s takes, rests.rows, id_is s) refl;
  holds = record { pending = refl; rows = refl; takes = takes; other = other };
}

-- a flag
pub flag_turn : (s : Argument) (x : ℕ) (xs : Text) (given : Given) (h : Held) → option_named (name_part (x ∷ xs)) ≡ Some s → text_part (x ∷ xs) ≡ None
    → is_flag s ≡ true → is_command s ≡ false → is_given s given ≡ false → Rests given h
    → TurnsTo (record { given = given ++ (s, codes "true") ∷ []; due = None; is_open = true }) (walk_at (record { given = given; due = None; is_open = true }) h) (dashed x xs)
unfolding clap_on_literals parser
flag_turn s x xs given h name text takes other fresh rests = record {
  held = record { rows = rows_for (given ++ (s, codes "true") ∷ []); pending = None; skip = h.skip };
  passes = rw (found (name_part (x ∷ xs)) s name, text) (and_from _ _ (flag_passes s given h takes fresh rests) (rw (takes_none s takes) refl));
  walked_to = rw (found (name_part (x ∷ xs)) s name, text, takes_none s takes, rests.rows, used_flag s given takes fresh, position_other s (codes "true") given other) refl;
  holds = rests_now (given ++ (s, codes "true") ∷ []) (rows_for (given ++ (s, codes "true") ∷ [])) h.skip refl;
}
