-- The parser's walk follows the words that are read one after the other.
use Rattle.std.proofs.Common.{◌≡◌, ◌++◌, ℕ, Bool, true, false, List, [], ◌∷◌, Option, Some, None, length, arith, refl, sym, ap, subst, codes}
use Rattle.std.proofs.lemmas.Option.{same_Some}
use Rattle.std.specs.Prelude.{◌&&◌, ◌==◌, if◌then◌else◌, option_and_then, ◌≤◌, fold, nat_lt, nat_le}
use Rattle.std.specs.List.{list_all}
use Rattle.std.proofs.lemmas.Bool.{eqb-true, leb-true}
use Rattle.clap.specs.Walk.{Held, Walk, walked}
use Rattle.clap.specs.Takes.{walk_passes}
use Rattle.command_words.specs.Names.{Text, is_flag, option_named, is_command}
use Rattle.command_words.specs.Given.{Given, is_given}
use Rattle.command_words.specs.Numbers.{is_number, is_digit}
use Rattle.command_words.specs.WordByWord.{PartialLine, filled, with_text, behind, named, option_word as read_option, read_word, read_words, name_part, text_part, one_hyphen, two_hyphens, plain_or_hyphen}
use Rattle.command_words.specs.declared.arguments.Argument.{Argument}
use Rattle.command_words.specs.declared.arguments.Argument.TheVariants.{Command, Nodes, Turns, Workers, Dossier, Keep, Number, Ships, Chambers, From, Now}
use Rattle.command_words.proofs.Built.{top}
use Rattle.command_words.proofs.Turns.{walk_at, Rests, Holds, TurnsTo, is_plain, plain_word_is, trailing_turn, plain_turn, dashes_turn, due_turn, dashed, joined_turn, due_from_turn, flag_turn}

pub and_right : (a b : Bool) → (a && b) ≡ true → b ≡ true
and_right true b e = e
and_right false b e = cc

pub and_left : (a b : Bool) → (a && b) ≡ true → a ≡ true
and_left true b e = refl
and_left false b e = cc

pub is_45 : (x : ℕ) → (x == 45) ≡ true → x ≡ 45
is_45 x e = eqb-true x 45 e

digit_no_hyphen : (x : ℕ) (rest : Bool) {A : Type 0} → (x == 45) ≡ true → (is_digit x && rest) ≡ true → A
digit_no_hyphen x rest e d =
    let low : nat_le 48 x ≡ true = and_left (nat_le 48 x) (nat_le x 57) (and_left (is_digit x) rest d) in
    let below : 48 ≤ x = leb-true 48 x low in
    let is : x ≡ 45 = eqb-true x 45 e in
    absurd (omega arith)

pub filled_some : (s : Argument) (t : Text) (line end : PartialLine) → filled s t line ≡ Some end
    → (is_given s line.given ≡ false) × (record line { given = line.given ++ (s, t) ∷ []; due = None } ≡ end)
unfolding filled
filled_some s t line end e = go (is_given s line.given) refl e
  where
    go : (b : Bool) → is_given s line.given ≡ b → (if b then None else Some (record line { given = line.given ++ (s, t) ∷ []; due = None })) ≡ Some end
        → (is_given s line.given ≡ false) × (record line { given = line.given ++ (s, t) ∷ []; due = None } ≡ end)
    go true g e = cc
    go false g e = (g, same_Some _ _ e)

pub if_some : (b : Bool) (o : Option PartialLine) (end : PartialLine) → (if b then o else None) ≡ Some end → (b ≡ true) × (o ≡ Some end)
if_some true o end e = (refl, e)
if_some false o end e = cc

pub if_none : (b : Bool) (o : Option PartialLine) (end : PartialLine) → (if b then None else o) ≡ Some end → (b ≡ false) × (o ≡ Some end)
if_none true o end e = cc
if_none false o end e = (refl, e)

-- a number is a plain word
number_plain : (t : Text) → is_number t ≡ true → is_plain t
unfolding is_number
number_plain [] e = cc
number_plain (x ∷ xs) e = plain_word_is (x ∷ xs) (go (x == 45) refl)
  where
    go : (b : Bool) → (x == 45) ≡ b → (if b then Some xs else None) ≡ None
    go false t = refl
    go true t = digit_no_hyphen x (list_all is_digit xs) t (and_right (nat_le (length (x ∷ xs)) 10) _ (and_right (nat_lt 0 (length (x ∷ xs))) _ e))

named_step : (b : Bool) (s r : Argument) (y : Option Argument) → is_command s ≡ false → (y ≡ Some r → is_command r ≡ false) → (if b then Some s else y) ≡ Some r → is_command r ≡ false
named_step true s r y e next same = subst (λ z. is_command z ≡ false) (same_Some _ _ same) e
named_step false s r y e next same = next same

none_some : (s : Argument) → None ≡ Some s → is_command s ≡ false
none_some s e = cc

pub named_other : (t : Text) (s : Argument) → option_named t ≡ Some s → is_command s ≡ false
unfolding option_named
named_other t s = named_step _ Nodes s _ refl (named_step _ Turns s _ refl (named_step _ Workers s _ refl (named_step _ Dossier s _ refl (named_step _ Keep s _ refl
    (named_step _ Number s _ refl (named_step _ Ships s _ refl (named_step _ Chambers s _ refl (named_step _ From s _ refl (named_step _ Now s _ refl (none_some s))))))))))

-- the words stay calm: no option waits behind `--`
abbrev Calm : PartialLine → Type 0
Calm line = line.is_open ≡ false → line.due ≡ None

abbrev pub open_at : Given → PartialLine
open_at given = record { given = given; due = None; is_open = true }

pub record StepsOn (line : PartialLine) (w : Walk) (word : Text) : Type 0 where
  pub turn : TurnsTo line w word
  pub calm : Calm line

ends_at : (l end : PartialLine) (w : Walk) (word : Text) → l ≡ end → StepsOn l w word → StepsOn end w word
ends_at l end w word e s = subst (λ z. StepsOn z w word) e s

no_due : (given : Given) (b : Bool) → Calm (record { given = given; due = None; is_open = b })
no_due given b e = refl

open_calm : (given : Given) (s : Argument) → Calm (record { given = given; due = Some s; is_open = true })
open_calm given s e = cc

name_step : (s : Argument) (x : ℕ) (xs : Text) (o : Option Text) (given : Given) (h : Held) (end : PartialLine) → option_named (name_part (x ∷ xs)) ≡ Some s → text_part (x ∷ xs) ≡ o
    → Rests given h → named s o (open_at given) ≡ Some end → StepsOn end (walk_at (open_at given) h) (dashed x xs)
unfolding named with_text
name_step s x xs (Some t) given h end name text rests e =
    let option_is = if_none (is_flag s) _ end e in
    let number = if_some (is_number t) _ end option_is.1 in
    let fresh = filled_some s t _ end number.1 in
    ends_at (open_at (given ++ (s, t) ∷ [])) end (walk_at (open_at given) h) (dashed x xs) fresh.1 (record { turn = joined_turn s x xs t given h name text option_is.0 (named_other (name_part (x ∷ xs)) s name) fresh.0 rests; calm = no_due (given ++ (s, t) ∷ []) true })
name_step s x xs None given h end name text rests e = go (is_flag s) refl e
  where
    go : (b : Bool) → is_flag s ≡ b → (if b then filled s (codes "true") (open_at given) else Some (record { given = given; due = Some s; is_open = true })) ≡ Some end
        → StepsOn end (walk_at (open_at given) h) (dashed x xs)
    go true flag e =
        let fresh = filled_some s (codes "true") (open_at given) end e in
        ends_at (open_at (given ++ (s, codes "true") ∷ [])) end (walk_at (open_at given) h) (dashed x xs) fresh.1 (record { turn = flag_turn s x xs given h name text flag (named_other (name_part (x ∷ xs)) s name) fresh.0 rests; calm = no_due (given ++ (s, codes "true") ∷ []) true })
    go false flag e = ends_at (record { given = given; due = Some s; is_open = true }) end (walk_at (open_at given) h) (dashed x xs) (same_Some (record { given = given; due = Some s; is_open = true }) end e)
        (record { turn = due_from_turn s x xs given h name text flag (named_other (name_part (x ∷ xs)) s name) rests; calm = open_calm given s })

named_word : (x : ℕ) (xs : Text) (given : Given) (h : Held) (end : PartialLine) → Rests given h → read_option (x ∷ xs) (open_at given) ≡ Some end
    → StepsOn end (walk_at (open_at given) h) (dashed x xs)
unfolding read_option
named_word x xs given h end rests e = go (option_named (name_part (x ∷ xs))) refl e
  where
    go : (o : Option Argument) → option_named (name_part (x ∷ xs)) ≡ o → option_and_then (λ s. named s (text_part (x ∷ xs)) (open_at given)) o ≡ Some end
        → StepsOn end (walk_at (open_at given) h) (dashed x xs)
    go None name e = cc
    go (Some s) name e = name_step s x xs (text_part (x ∷ xs)) given h end name refl rests e

hyphen_step : (t : Text) (given : Given) (h : Held) (end : PartialLine) → Rests given h → one_hyphen (behind 45 t) (open_at given) ≡ Some end
    → StepsOn end (walk_at (open_at given) h) (45 ∷ t)
hyphen_step [] given h end rests e = cc
hyphen_step (y ∷ rest) given h end rests e = go (y == 45) refl e
  where
    behind_two : (rest : Text) → (y == 45) ≡ true → two_hyphens rest (open_at given) ≡ Some end
        → StepsOn end (walk_at (open_at given) h) (45 ∷ 45 ∷ rest)
    behind_two [] is e = ends_at (record { given = given; due = None; is_open = false }) end (walk_at (open_at given) h) (45 ∷ 45 ∷ []) (same_Some (record { given = given; due = None; is_open = false }) end e) (record { turn = dashes_turn given h rests; calm = no_due given false })
    behind_two (x ∷ xs) is e = named_word x xs given h end rests e

    go : (b : Bool) → (y == 45) ≡ b → one_hyphen (if b then Some rest else None) (open_at given) ≡ Some end
        → StepsOn end (walk_at (open_at given) h) (45 ∷ y ∷ rest)
    go true is e = subst (λ z. StepsOn end (walk_at (open_at given) h) (45 ∷ z ∷ rest)) (sym (is_45 y is)) (behind_two rest is e)
    go false is e = cc

-- any word
step : (given : Given) (due : Option Argument) (is_open : Bool) (h : Held) (w : Text) (end : PartialLine) → Holds due given h → Calm (record { given = given; due = due; is_open = is_open })
    → read_word w (record { given = given; due = due; is_open = is_open }) ≡ Some end → StepsOn end (walk_at (record { given = given; due = due; is_open = is_open }) h) w
unfolding read_word with_text
step given (Some s) false h w end holds calm e =
    let none : Some s ≡ None = calm refl in
    cc
step given None false h w end rests calm e =
    let fresh = filled_some Command w _ end e in
    ends_at (record { given = given ++ (Command, w) ∷ []; due = None; is_open = false }) end (walk_at (record { given = given; due = None; is_open = false }) h) w fresh.1 (record { turn = trailing_turn w given h fresh.0 rests; calm = no_due (given ++ (Command, w) ∷ []) false })
step given (Some s) true h w end waits calm e =
    let number = if_some (is_number w) _ end e in
    let fresh = filled_some s w _ end number.1 in
    ends_at (open_at (given ++ (s, w) ∷ [])) end (walk_at (record { given = given; due = Some s; is_open = true }) h) w fresh.1 (record { turn = due_turn s w given h (number_plain w number.0) fresh.0 waits; calm = no_due (given ++ (s, w) ∷ []) true })
step given None true h w end rests calm e = go w refl e
  where
    plain : (w : Text) → behind 45 w ≡ None → filled Command w (open_at given) ≡ Some end → StepsOn end (walk_at (open_at given) h) w
    plain w is e =
        let fresh = filled_some Command w (open_at given) end e in
        ends_at (open_at (given ++ (Command, w) ∷ [])) end (walk_at (open_at given) h) w fresh.1 (record { turn = plain_turn w given h (plain_word_is w is) fresh.0 rests; calm = no_due (given ++ (Command, w) ∷ []) true })

    go : (v : Text) → w ≡ v → plain_or_hyphen v (behind 45 v) (open_at given) ≡ Some end → StepsOn end (walk_at (open_at given) h) v
    go [] same e = plain [] refl e
    go (x ∷ xs) same e = by_first (x == 45) refl e
      where
        by_first : (b : Bool) → (x == 45) ≡ b → plain_or_hyphen (x ∷ xs) (if b then Some xs else None) (open_at given) ≡ Some end
            → StepsOn end (walk_at (open_at given) h) (x ∷ xs)
        by_first true is e = subst (λ z. StepsOn end (walk_at (open_at given) h) (z ∷ xs)) (sym (is_45 x is)) (hyphen_step xs given h end rests e)
        by_first false is e = plain (x ∷ xs) (ap (λ b. if b then Some xs else None) is) e

-- all the words
pub record Walks (end : PartialLine) (w : Walk) (words : List Text) : Type 0 where
  pub held : Held
  pub passes : walk_passes top [] w words ≡ true
  pub walked_to : fold (walked top.rules []) w words ≡ walk_at end held
  pub holds : Holds end.due end.given held

pub walks : (words : List Text) (line end : PartialLine) (h : Held) → Holds line.due line.given h → Calm line → read_words words line ≡ Some end → Walks end (walk_at line h) words
unfolding read_words walk_passes
walks [] line end h holds calm e = subst (λ l. Walks l (walk_at line h) []) (same_Some _ _ e) (record { held = h; passes = refl; walked_to = refl; holds = holds })
walks (w ∷ ws) line end h holds calm e = go (read_word w line) refl e (λ l h2 holds2 calm2 e2. walks ws l end h2 holds2 calm2 e2)
  where
    go : (o : Option PartialLine) → read_word w line ≡ o → option_and_then (read_words ws) o ≡ Some end
        → ((l : PartialLine) (h2 : Held) → Holds l.due l.given h2 → Calm l → read_words ws l ≡ Some end → Walks end (walk_at l h2) ws) → Walks end (walk_at line h) (w ∷ ws)
    go None r e rest = cc
    go (Some l) r e rest =
        let one = step line.given line.due line.is_open h w l holds calm r in
        let more = rest l one.turn.held one.turn.holds one.calm e in
        record {
          held = more.held;
          passes = rw (one.turn.passes, one.turn.walked_to, more.passes) refl;
          walked_to = rw (one.turn.walked_to) more.walked_to;
          holds = more.holds;
        }
