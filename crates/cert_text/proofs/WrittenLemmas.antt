-- The JSON text of a value.
use Rattle.std.proofs.Common.{◌≡◌, ◌∙◌, ◌++◌, ◌≤◌, ℕ, Bool, true, false, cond, List, [], ◌∷◌, Some, None, refl, sym, ap}
use Rattle.std.specs.Str.{IsUtf8, is_utf8}
use Rattle.std.proofs.lemmas.Str.{IsUtf8-append, is_utf8-from_IsUtf8, IsUtf8-from_is_utf8}
use Rattle.json.proofs.Printed.Utf8.{IsUtf8-are_ascii}
use Rattle.json.specs.Lex.{tokens}
use Rattle.json.specs.Print.{print}
use Rattle.serde_json.specs.Data.{Data, depth}
use Rattle.serde_json.specs.Read.{read, max_depth}
use Rattle.serde_json.specs.Written.{has_float, compact_text, IsInOrder}
use Rattle.cert_text.specs.Dossier.{json_line, json_of}
use Rattle.cert_text.proofs.JsonLemmas.{read_line}

pub written : (d : Data) (text : List ℕ) → has_float d ≡ false → (has_float d ≡ false → text ≡ compact_text d) → text ++ 10 ∷ [] ≡ json_line d
unfolding json_line
written d text whole text_is = ap (λ t. t ++ 10 ∷ []) (text_is whole)

feed : IsUtf8 (10 ∷ [])
feed = IsUtf8-are_ascii (10 ∷ []) refl

-- a compact text of a value and a line feed are read as the value
data_back : (d : Data) (text : List ℕ) → has_float d ≡ false → depth d ≤ max_depth → text ≡ print (tokens text) → IsUtf8 text → IsInOrder text d → (depth d ≤ max_depth → read text ≡ Some d) → json_of (text ++ 10 ∷ []) ≡ Some d
unfolding json_of
data_back d text whole flat compact utf8 order reads =
    let line = read_line text d compact order whole flat (reads flat) in
    let valid = is_utf8-from_IsUtf8 (text ++ 10 ∷ []) (IsUtf8-append text (10 ∷ []) utf8 feed) in
    ap (λ b. cond b (read (text ++ 10 ∷ [])) None) valid ∙ line

pub written_back : (d : Data) (text : List ℕ) → has_float d ≡ false → depth d ≤ max_depth → text ++ 10 ∷ [] ≡ json_line d → text ≡ print (tokens text) → IsUtf8 text → IsInOrder text d → (depth d ≤ max_depth → read text ≡ Some d) → json_of (json_line d) ≡ Some d
written_back d text whole flat line compact utf8 order reads = ap json_of (sym line) ∙ data_back d text whole flat compact utf8 order reads

pub json_found : (bytes : List ℕ) (d : Data) → IsUtf8 bytes → read bytes ≡ Some d → json_of bytes ≡ Some d
unfolding json_of
json_found bytes d utf8 is = ap (λ b. cond b (read bytes) None) (is_utf8-from_IsUtf8 bytes utf8) ∙ is

pub json_none : (bytes : List ℕ) → (IsUtf8 bytes → read bytes ≡ None) → json_of bytes ≡ None
unfolding json_of
json_none bytes none = go (is_utf8 bytes) refl
  where
    go : (b : Bool) → is_utf8 bytes ≡ b → cond (is_utf8 bytes) (read bytes) None ≡ None
    go true is = ap (λ b. cond b (read bytes) None) is ∙ none (IsUtf8-from_is_utf8 bytes is)
    go false is = ap (λ b. cond b (read bytes) None) is
