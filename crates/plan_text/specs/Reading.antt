-- Plan texts: the plan that they name, and their first fault.
use Rattle.std.specs.Prelude.{ℕ, ◌≡◌, ◌+◌, Bool, List, [], ◌∷◌, map, Result, Ok, Err, codes, if◌then◌else◌}
use Rattle.std.specs.Str.{is_utf8}
use Rattle.lock_model.specs.declared.instance.Instance.{Instance}
use Rattle.lock_model.specs.declared.plan.Lockage.{Lockage}
use Rattle.lock_model.specs.declared.plan.Plan.{Plan}
use Rattle.line_text.specs.Filled.{Filled, first_words}
use Rattle.line_text.specs.Left.{Left, words_left}
use Rattle.line_text.specs.Lines.{lines, words, is_only, line_of_fault}
use Rattle.line_text.specs.Steps.{◌>>=◌, proceed}
use Rattle.plan_text.specs.declared.kinds.BadPlan.{BadPlan}
use Rattle.plan_text.specs.declared.kinds.PlanKind.{PlanKind}
use Rattle.plan_text.specs.declared.kinds.PlanKind.TheVariants.{NotUtf8, NoMark, Word, NoEnd}
use Rattle.plan_text.specs.Faults.{bad}
use Rattle.plan_text.specs.Draft.{Draft, no_draft, close}
use Rattle.plan_text.specs.Lines.{read_line}

abbrev pub ended : List Lockage → Result (Filled (List (List ℕ))) ℕ → Result (List Lockage) BadPlan
ended lockages (Ok filled) = Err (bad filled.number Word)
ended lockages (Err n) = Ok lockages

-- after the line `end` no line has words; n lines stand before these
abbrev pub read_rest : ℕ → List Lockage → List (List (List ℕ)) → Result (List Lockage) BadPlan
read_rest n lockages lines = ended lockages (first_words n lines)

-- where no line `end` comes, the hosts of the last lockage are judged before that
unfoldable pub without_end : Instance → ℕ → Draft → Result (List Lockage) BadPlan
without_end I n draft = close I draft >>= λ whole. Err (bad n NoEnd)

-- the lines after `plan` up to `end`, and those after it; n lines stand before these
abbrev pub read_body : Instance → ℕ → Draft → List (List (List ℕ)) → Result (List Lockage) BadPlan
read_body I n draft [] = without_end I n draft
read_body I n draft (words ∷ more) = do
  read ← read_line I (n + 1) draft words
  proceed read.0 (read_body I (n + 1) read.1 more) (read_rest (n + 1) read.1.lockages more)

-- the lines after the first line with words, which is line n
abbrev pub read_after : Instance → Bool → ℕ → List (List (List ℕ)) → Result (List Lockage) BadPlan
read_after I marked n lines = if marked then read_body I n no_draft lines else Err (bad n NoMark)

abbrev pub read_from : Instance → Result (Filled (List (List ℕ))) ℕ → Result (List Lockage) BadPlan
read_from I (Ok mark) = read_after I (is_only (codes "plan") mark.line) mark.number mark.more
read_from I (Err n) = Err (bad n NoMark)

-- the first line with words is `plan`; n lines stand before these
abbrev pub read_lines : Instance → ℕ → List (List (List ℕ)) → Result (List Lockage) BadPlan
read_lines I n lines = read_from I (first_words n lines)

-- the same of the lines that are still to come of a text
abbrev pub read_rest_left : List Lockage → Left → Result (List Lockage) BadPlan
read_rest_left lockages l = read_rest l.number lockages (words_left l)

abbrev pub read_body_left : Instance → Draft → Left → Result (List Lockage) BadPlan
read_body_left I draft l = read_body I l.number draft (words_left l)

abbrev pub read_lines_left : Instance → Left → Result (List Lockage) BadPlan
read_lines_left I l = read_lines I l.number (words_left l)

-- the lockages of a text, or its first fault
unfoldable pub reading : Instance → List ℕ → Result (List Lockage) BadPlan
reading I text = if is_utf8 text then read_lines I 0 (map words (lines text)) else Err (bad (line_of_fault text) NotUtf8)

-- the text is a plan text of this plan of the instance
unfoldable pub IsPlanText : Instance → List ℕ → Plan → Type 0
IsPlanText I text P = reading I text ≡ Ok P.lockages

-- the text's first fault has this line and this kind
unfoldable pub IsPlanFault : Instance → List ℕ → ℕ → PlanKind → Type 0
IsPlanFault I text line kind = reading I text ≡ Err (bad line kind)

-- some text is a plan text of this plan
pub record HasPlanText (I : Instance) (P : Plan) : Type 0 where
  pub text : List ℕ
  pub is : IsPlanText I text P
