-- A JSON text with a line feed after it.
use Rattle.std.proofs.Common.{◌≡◌, ◌∙◌, ◌++◌, ◌≤◌, ℕ, suc, Bool, true, false, cond, ◌&&◌, List, [], ◌∷◌, Option, Some, refl, sym, ap, ap₂, subst, append_assoc, append-nil, arith, option_and_then}
use Rattle.std.specs.Prelude.{max}
use Rattle.json.specs.Token.{Token, begin_object, end_object, begin_array, end_array, key, string, number, boolean, null, bad}
use Rattle.json.specs.Word.{ends_word, word}
use Rattle.json.specs.Lex.{Lexeme, token, comma, colon, string_token, lex, between, fresh, punctuate, tokens}
use Rattle.json.specs.Print.{escape, quoted, token_text, begins, ends, print_from, print, IsPrintable, ArePrintable}
use Rattle.json.specs.Json as json
use Rattle.json.specs.Tree as tree
use Rattle.json.proofs.Printed.Strings.{content-escape, lex-escape}
use Rattle.json.proofs.Printed.Numbers.{lex-number, in_word-ended}
use Rattle.json.proofs.Printed.Trees.{ArePrintable-json_tokens, value-json_tokens}
use Rattle.json.proofs.Numbered.{document-HasNumbers}
use Rattle.serde_json.specs.Data as data_of
use Rattle.serde_json.specs.Read.{read, max_depth, of_json}
use Rattle.serde_json.specs.Written.{outline, items_outline, members_outline, has_float, IsInOrder}
use Rattle.serde_json.proofs.Texts.{tokens_from_order}

abbrev token_lexemes : Token → List Lexeme
token_lexemes begin_object = token begin_object ∷ []
token_lexemes end_object = token end_object ∷ []
token_lexemes begin_array = token begin_array ∷ []
token_lexemes end_array = token end_array ∷ []
token_lexemes (key s) = token (string s) ∷ colon ∷ []
token_lexemes (string s) = token (string s) ∷ []
token_lexemes (number s) = token (number s) ∷ []
token_lexemes (boolean b) = token (boolean b) ∷ []
token_lexemes null = token null ∷ []
token_lexemes bad = []

lex-quoted : (s r : List ℕ) → lex between (quoted s ++ r) ≡ token (string s) ∷ lex between r
unfolding lex
lex-quoted s r =
    ap (λ l. lex between (34 ∷ l)) (append_assoc (escape s) (34 ∷ []) r) ∙ ap₂ (λ o l. token (string_token o) ∷ l) (content-escape s r) (lex-escape s r)

-- a token and what follows it are read one after the other
lex-token : (t : Token) (r : List ℕ) → IsPrintable t → (ends t ≡ true → ends_word r ≡ true) → lex between (token_text t ++ r) ≡ token_lexemes t ++ lex between r
unfolding lex word
lex-token begin_object r h ended = refl
lex-token end_object r h ended = refl
lex-token begin_array r h ended = refl
lex-token end_array r h ended = refl
lex-token (key s) r h ended = ap (lex between) (append_assoc (quoted s) (58 ∷ []) r) ∙ lex-quoted s (58 ∷ r)
lex-token (string s) r h ended = lex-quoted s r
lex-token (number s) r h ended = lex-number s r h (ended refl)
lex-token (boolean true) r h ended = ap₂ (λ b l. token (cond b (boolean true) bad) ∷ l) (ended refl) (in_word-ended r (ended refl))
lex-token (boolean false) r h ended = ap₂ (λ b l. token (cond b (boolean false) bad) ∷ l) (ended refl) (in_word-ended r (ended refl))
lex-token null r h ended = ap₂ (λ b l. token (cond b null bad) ∷ l) (ended refl) (in_word-ended r (ended refl))
lex-token bad r h ended = absurd h

lex-separator : (b : Bool) (r : List ℕ) → lex between (cond b (44 ∷ []) [] ++ r) ≡ cond b (comma ∷ []) [] ++ lex between r
unfolding lex
lex-separator true r = refl
lex-separator false r = refl

-- what follows a value ends its word, with the line feed and without it
value_ends : (ts : List Token) → ends_word (print_from true ts) ≡ true
unfolding print_from
value_ends [] = refl
value_ends (begin_object ∷ ts) = refl
value_ends (end_object ∷ ts) = refl
value_ends (begin_array ∷ ts) = refl
value_ends (end_array ∷ ts) = refl
value_ends (key s ∷ ts) = refl
value_ends (string s ∷ ts) = refl
value_ends (number s ∷ ts) = refl
value_ends (boolean b ∷ ts) = refl
value_ends (null ∷ ts) = refl
value_ends (bad ∷ ts) = refl

line_ends : (ts : List Token) → ends_word (print_from true ts ++ 10 ∷ []) ≡ true
unfolding print_from
line_ends [] = refl
line_ends (begin_object ∷ ts) = refl
line_ends (end_object ∷ ts) = refl
line_ends (begin_array ∷ ts) = refl
line_ends (end_array ∷ ts) = refl
line_ends (key s ∷ ts) = refl
line_ends (string s ∷ ts) = refl
line_ends (number s ∷ ts) = refl
line_ends (boolean b ∷ ts) = refl
line_ends (null ∷ ts) = refl
line_ends (bad ∷ ts) = refl

-- the line feed adds nothing
lex-line : (c : Bool) (ts : List Token) → ArePrintable ts → lex between (print_from c ts ++ 10 ∷ []) ≡ lex between (print_from c ts)
unfolding lex print_from ArePrintable
lex-line c [] h = refl
lex-line c (t ∷ ts) h =
    let more = print_from (ends t) ts in
    let gap = cond (c && begins t) (44 ∷ []) [] in
    let comma_of = cond (c && begins t) (comma ∷ []) [] in
    ap (lex between) (append_assoc gap (token_text t ++ more) (10 ∷ []) ∙ ap (λ l. gap ++ l) (append_assoc (token_text t) more (10 ∷ [])))
    ∙ lex-separator (c && begins t) _
    ∙ ap (λ l. comma_of ++ l)
    (lex-token t (more ++ 10 ∷ []) h.0 (λ e. ap (λ b. ends_word (print_from b ts ++ 10 ∷ [])) e ∙ line_ends ts)
    ∙ ap (λ l. token_lexemes t ++ l) (lex-line (ends t) ts h.1)
    ∙ sym (lex-token t more h.0 (λ e. ap (λ b. ends_word (print_from b ts)) e ∙ value_ends ts)))
    ∙ sym (lex-separator (c && begins t) _)

-- an outline nests as deep as its value
mutual
  outline_depth : (d : data_of.Data) → tree.depth (outline d) ≡ data_of.depth d
  outline_depth data_of.null = refl
  outline_depth (data_of.boolean b) = refl
  outline_depth (data_of.number n) = refl
  outline_depth (data_of.string s) = refl
  outline_depth (data_of.array ds) = ap suc (items_outline_depth ds)
  outline_depth (data_of.object ms) = ap suc (members_outline_depth ms)

  items_outline_depth : (ds : data_of.Items) → tree.items_depth (items_outline ds) ≡ data_of.items_depth ds
  items_outline_depth data_of.no_items = refl
  items_outline_depth (data_of.item d ds) = ap₂ max (outline_depth d) (items_outline_depth ds)

  members_outline_depth : (ms : data_of.Members) → tree.members_depth (members_outline ms) ≡ data_of.members_depth ms
  members_outline_depth data_of.no_members = refl
  members_outline_depth (data_of.member k d ms) = ap₂ max (outline_depth d) (members_outline_depth ms)

abbrev whole : Option (json.Json × List Token) → Option json.Json
whole o = option_and_then (λ p. json.if_last p.0 p.1) o

-- the text of a value with a line feed after it is read as the value
pub read_line : (text : List ℕ) (d : data_of.Data) → text ≡ print (tokens text) → IsInOrder text d → has_float d ≡ false → data_of.depth d ≤ max_depth → read text ≡ Some d → read (text ++ 10 ∷ []) ≡ Some d
read_line text d compact order no_float shallow is =
    let ts : tokens text ≡ tree.json_tokens (outline d) = tokens_from_order text d order no_float in
    let deep : tree.depth (outline d) ≤ json.max_depth = let same = outline_depth d in omega arith in
    let found : json.document text ≡ Some (outline d) = ap (λ l. whole (json.value json.max_depth l)) (ts ∙ sym (append-nil (tree.json_tokens (outline d)))) ∙ ap whole (value-json_tokens (outline d) json.max_depth [] deep) in
    let printable : ArePrintable (tokens text) = subst ArePrintable (sym ts) (ArePrintable-json_tokens (outline d) (document-HasNumbers text (outline d) found)) in
    let same : tokens (text ++ 10 ∷ []) ≡ tokens text =
    ap (λ l. punctuate fresh (lex between (l ++ 10 ∷ []))) compact ∙ ap (punctuate fresh) (lex-line false (tokens text) printable) ∙ ap (λ l. punctuate fresh (lex between l)) (sym compact) in
    ap (λ l. option_and_then of_json (whole (json.value max_depth l))) same ∙ is
