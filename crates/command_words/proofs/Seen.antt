-- The line in the program after one more text.
use Rattle.std.proofs.Common.{◌≡◌, ◌∙◌, ◌++◌, ◌<◌, ℕ, Bool, true, false, not, List, [], ◌∷◌, Option, Some, None, length, take, drop, ◌+◌, ◌≤◌, suc, arith, refl, sym, ap, subst, slice_index_or, slice_set}
use Rattle.std.proofs.Math.Bool.{or-true, or-false}
use Rattle.std.specs.Prelude.{◌||◌, ◌==◌, if◌then◌else◌, option_and_then, option_map, find, unwrap_or, nat_lt, cond}
use Rattle.std.specs.List.{list_any, position, position_or_len, after_first}
use Rattle.std.specs.Str.{bytes_eq}
use Rattle.std.proofs.lemmas.Slice.Eq.{bytes_eq-Decides}
use Rattle.std.proofs.lemmas.Bool.{eqb-true, eqb-false, eq-eqb, lt-ltb, ltb-true, ltb-false, le-ltb}
use Rattle.std.proofs.lemmas.List.{get_or-set_same, get_or-set_other, length-set, take_all}
use Rattle.command_words.specs.Names.{Text, name_of, command_named, option_named, is_command}
use Rattle.command_words.specs.Given.{Given, is_given, is_in, text_in}
use Rattle.command_words.specs.WordByWord.{PartialLine, filled, is_equals, name_part, text_part, named, option_word}
use Rattle.command_words.specs.Stands.{place_of, Stands, StepsTo}
use Rattle.command_words.specs.Parser.{arguments}
use Rattle.command_words.specs.declared.arguments.Argument.{Argument}
use Rattle.command_words.specs.declared.arguments.Argument.TheVariants.{Command, Nodes, Turns, Workers, Dossier, Keep, Number, Ships, Chambers, From, Now}
use Rattle.command_words.specs.declared.command_names.CommandName.{CommandName}
use Rattle.command_words.specs.declared.partial_line.PartialLine.{PartialLine as TheLine}
use Rattle.command_words.proofs.Turns.{given_more, other_name, same_ids}

abbrev place_by_name : Text → ℕ
place_by_name t = position_or_len (λ s. bytes_eq (name_of s) t) arguments

place_from_name : (s : Argument) → place_by_name (name_of s) ≡ place_of s
unfolding name_of
place_from_name Command = refl
place_from_name Nodes = refl
place_from_name Turns = refl
place_from_name Workers = refl
place_from_name Dossier = refl
place_from_name Keep = refl
place_from_name Number = refl
place_from_name Ships = refl
place_from_name Chambers = refl
place_from_name From = refl
place_from_name Now = refl

argument_from_place : (s : Argument) → slice_index_or arguments (place_of s) Command ≡ s
argument_from_place Command = refl
argument_from_place Nodes = refl
argument_from_place Turns = refl
argument_from_place Workers = refl
argument_from_place Dossier = refl
argument_from_place Keep = refl
argument_from_place Number = refl
argument_from_place Ships = refl
argument_from_place Chambers = refl
argument_from_place From = refl
argument_from_place Now = refl

-- names are the same where places are
same_places : (s r : Argument) → bytes_eq (name_of s) (name_of r) ≡ (place_of s == place_of r)
same_places s r = go (bytes_eq (name_of s) (name_of r)) (place_of s == place_of r) refl refl
  where
    go : (b p : Bool) → bytes_eq (name_of s) (name_of r) ≡ b → (place_of s == place_of r) ≡ p → b ≡ p
    go true true e f = refl
    go false false e f = refl
    go true false e f =
        let names : name_of s ≡ name_of r = (bytes_eq-Decides (name_of s) (name_of r)).0 e in
        let places : place_of s ≡ place_of r = sym (place_from_name s) ∙ (ap place_by_name names ∙ place_from_name r) in
        let bad : (place_of s == place_of r) ≡ true = eq-eqb (place_of s) (place_of r) places in
        cc
    go false true e f =
        let places : place_of s ≡ place_of r = eqb-true (place_of s) (place_of r) f in
        let same : s ≡ r = sym (argument_from_place s) ∙ (ap (λ n. slice_index_or arguments n Command) places ∙ argument_from_place r) in
        let bad : bytes_eq (name_of s) (name_of r) ≡ true = subst (λ z. bytes_eq (name_of s) (name_of z) ≡ true) same (same_ids (name_of s)) in
        cc

set_other : (xs : List Bool) (i j : ℕ) → (i == j) ≡ false → slice_index_or (slice_set xs i true) j false ≡ slice_index_or xs j false
set_other xs i j e = get_or-set_other xs i j true false (λ same. eqb-false i j e (sym same))

set_same : (xs : List Bool) (i : ℕ) → i < length xs → slice_index_or (slice_set xs i true) i false ≡ true
set_same xs i lt = get_or-set_same xs i true false lt

place_low : (s : Argument) → place_of s < 11
place_low Command = omega arith
place_low Nodes = omega arith
place_low Turns = omega arith
place_low Workers = omega arith
place_low Dossier = omega arith
place_low Keep = omega arith
place_low Number = omega arith
place_low Ships = omega arith
place_low Chambers = omega arith
place_low From = omega arith
place_low Now = omega arith

pub seen_after : (seen : List Bool) (given : Given) (s : Argument) (t : Text) → length seen ≡ 11 → ((r : Argument) → slice_index_or seen (place_of r) false ≡ is_given r given)
    → (r : Argument) → slice_index_or (slice_set seen (place_of s) true) (place_of r) false ≡ is_given r (given ++ (s, t) ∷ [])
seen_after seen given s t size before r = go (place_of s == place_of r) refl ∙ sym (given_more r s t given)
  where
    go : (p : Bool) → (place_of s == place_of r) ≡ p → slice_index_or (slice_set seen (place_of s) true) (place_of r) false ≡ (is_given r given || bytes_eq (name_of s) (name_of r))
    go false p = set_other seen (place_of s) (place_of r) p ∙ (before r ∙ sym (ap (λ b. is_given r given || b) (same_places s r ∙ p) ∙ or-false (is_given r given)))
    go true p =
        let places : place_of s ≡ place_of r = eqb-true (place_of s) (place_of r) p in
        let at : slice_index_or (slice_set seen (place_of s) true) (place_of s) false ≡ true = set_same seen (place_of s) (let low = place_low s in omega arith) in
        subst (λ n. slice_index_or (slice_set seen (place_of s) true) n false ≡ true) places at ∙ sym (ap (λ b. is_given r given || b) (same_places s r ∙ p) ∙ or-true (is_given r given))

-- the command's text after one more
text_after : (given : Given) (s : Argument) (t : Text) → is_command s ≡ false → text_in Command (given ++ (s, t) ∷ []) ≡ text_in Command given
text_after [] s t e = rw (other_name s e) refl
text_after (g ∷ gs) s t e = go (is_in Command g) (text_after gs s t e)
  where
    go : (b : Bool) → text_in Command (gs ++ (s, t) ∷ []) ≡ text_in Command gs
        → option_map (λ h. h.1) (if b then Some g else find (is_in Command) (gs ++ (s, t) ∷ [])) ≡ option_map (λ h. h.1) (if b then Some g else find (is_in Command) gs)
    go true rest = refl
    go false rest = rest

command_after : (given : Given) (t : Text) → is_given Command given ≡ false → text_in Command (given ++ (Command, t) ∷ []) ≡ Some t
command_after [] t e = rw (same_ids (name_of Command)) refl
command_after (g ∷ gs) t e = go (is_in Command g) e (command_after gs t)
  where
    go : (b : Bool) → (b || is_given Command gs) ≡ false → (is_given Command gs ≡ false → text_in Command (gs ++ (Command, t) ∷ []) ≡ Some t)
        → option_map (λ h. h.1) (if b then Some g else find (is_in Command) (gs ++ (Command, t) ∷ [])) ≡ Some t
    go true e rest = cc
    go false e rest = rest e

size_after : (seen : List Bool) (i : ℕ) → length seen ≡ 11 → length (slice_set seen i true) ≡ 11
size_after seen i e = length-set seen i true ∙ e

-- ---- the argument gets a text

pub refuses : (s : Argument) (t : Text) (line : TheLine) (l : PartialLine) → Stands line l → slice_index_or line.seen (place_of s) false ≡ true → StepsTo None (filled s t l)
unfolding filled
refuses s t line l stands e = rw (sym (stands.seen s) ∙ e) tt

fills : (s : Argument) (t : Text) (line : TheLine) (l : PartialLine) → Stands line l → slice_index_or line.seen (place_of s) false ≡ false → is_command s ≡ false
    → StepsTo (Some (record { seen = slice_set line.seen (place_of s) true; command = line.command; due = None; is_open = line.is_open })) (filled s t l)
unfolding filled
fills s t line l stands e other = rw (sym (stands.seen s) ∙ e) (record {
  size = size_after line.seen (place_of s) stands.size;
  seen = seen_after line.seen l.given s t stands.size stands.seen;
  command = stands.command ∙ sym (ap (option_and_then command_named) (text_after l.given s t other));
  due = refl;
  is_open = stands.is_open;
  option = λ s e. cc;
})

fills_command : (t : Text) (line : TheLine) (l : PartialLine) (command : Option CommandName) → Stands line l → slice_index_or line.seen 0 false ≡ false → command ≡ command_named t
    → StepsTo (Some (record { seen = slice_set line.seen 0 true; command = command; due = None; is_open = line.is_open })) (filled Command t l)
unfolding filled
fills_command t line l command stands e is =
    let fresh = sym (stands.seen Command) ∙ e in
    rw fresh (record {
      size = size_after line.seen 0 stands.size;
      seen = seen_after line.seen l.given Command t stands.size stands.seen;
      command = is ∙ sym (ap (option_and_then command_named) (command_after l.given t fresh));
      due = refl;
      is_open = stands.is_open;
      option = λ s e. cc;
    })

pub fills_command_at : (i : ℕ) (t : Text) (line : TheLine) (l : PartialLine) (command : Option CommandName) → Stands line l → i ≡ 0 → slice_index_or line.seen i false ≡ false → command ≡ command_named t
    → StepsTo (Some (record { seen = slice_set line.seen i true; command = command; due = None; is_open = line.is_open })) (filled Command t l)
fills_command_at i t line l command stands at e is = rw at (fills_command t line l command stands (subst (λ n. slice_index_or line.seen n false ≡ false) at e) is)

pub fills_at : (s : Argument) (i : ℕ) (t : Text) (line : TheLine) (l : PartialLine) → Stands line l → i ≡ place_of s → slice_index_or line.seen i false ≡ false → is_command s ≡ false
    → StepsTo (Some (record { seen = slice_set line.seen i true; command = line.command; due = None; is_open = line.is_open })) (filled s t l)
fills_at s i t line l stands at e other = rw at (fills s t line l stands (subst (λ n. slice_index_or line.seen n false ≡ false) at e) other)

-- ---- the text behind `=`

lt_suc : (a b : ℕ) → nat_lt a b ≡ nat_lt (1 + a) (suc b)
lt_suc a b = go (nat_lt a b) refl
  where
    go : (c : Bool) → nat_lt a b ≡ c → c ≡ nat_lt (1 + a) (suc b)
    go true e = let low : a < b = ltb-true a b e in sym (lt-ltb (1 + a) (suc b) (omega arith))
    go false e = let high : b ≤ a = ltb-false a b e in sym (le-ltb (1 + a) (suc b) (omega arith))

pub any_by_place : {X : Type 0} (p : X → Bool) (xs : List X) → list_any p xs ≡ nat_lt (position_or_len p xs) (length xs)
any_by_place p [] = refl
any_by_place p (x ∷ xs) = go (p x) (any_by_place p xs)
  where
    go : (b : Bool) → list_any p xs ≡ nat_lt (position_or_len p xs) (length xs) → (b || list_any p xs) ≡ nat_lt (cond (not b) (1 + position_or_len p xs) 0) (suc (length xs))
    go true e = sym (lt-ltb 0 (suc (length xs)) (omega arith))
    go false e = e ∙ lt_suc (position_or_len p xs) (length xs)

after : (t : Text) (i : ℕ) → i ≡ position_or_len is_equals t → after_first is_equals t ≡ drop (i + 1) t
after t i at = ap (λ n. drop (n + 1) t) (sym at)

pub text_found : (t : Text) (i : ℕ) → Some i ≡ position is_equals t → (text_part t ≡ Some (drop (i + 1) t)) × (name_part t ≡ take i t)
text_found t i e = go (nat_lt (position_or_len is_equals t) (length t)) refl e
  where
    go : (b : Bool) → nat_lt (position_or_len is_equals t) (length t) ≡ b → Some i ≡ cond b (Some (position_or_len is_equals t)) None → (text_part t ≡ Some (drop (i + 1) t)) × (name_part t ≡ take i t)
    go false lt e = cc
    go true lt e =
        let at : i ≡ position_or_len is_equals t = ap (λ o. unwrap_or o i) e in
        let any : list_any is_equals t ≡ true = any_by_place is_equals t ∙ lt in
        (rw any (ap Some (after t i at)), ap (λ n. take n t) (sym at))

pub text_missing : (t : Text) → None ≡ position is_equals t → (text_part t ≡ None) × (name_part t ≡ t)
text_missing t e = go (nat_lt (position_or_len is_equals t) (length t)) refl e
  where
    go : (b : Bool) → nat_lt (position_or_len is_equals t) (length t) ≡ b → None ≡ cond b (Some (position_or_len is_equals t)) None → (text_part t ≡ None) × (name_part t ≡ t)
    go true lt e = cc
    go false lt e =
        let any : list_any is_equals t ≡ false = any_by_place is_equals t ∙ lt in
        let high : length t ≤ position_or_len is_equals t = ltb-false (position_or_len is_equals t) (length t) lt in
        (rw any refl, take_all (position_or_len is_equals t) t high)

pub joined_steps : (t : Text) (i : ℕ) (piece : Text) (l : PartialLine) (r : Option TheLine) → Some i ≡ position is_equals t → piece ≡ drop (i + 1) t
    → StepsTo r (option_and_then (λ s. named s (Some piece) l) (option_named (take i t))) → StepsTo r (option_word t l)
unfolding option_word
joined_steps t i piece l r e is steps =
    let found = text_found t i e in
    rw (found.0, found.1, ← is) steps

pub alone_steps : (t : Text) (l : PartialLine) (r : Option TheLine) → None ≡ position is_equals t
    → StepsTo r (option_and_then (λ s. named s None l) (option_named t)) → StepsTo r (option_word t l)
unfolding option_word
alone_steps t l r e steps =
    let missing = text_missing t e in
    rw (missing.0, missing.1) steps
