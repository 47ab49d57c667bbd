-- What is answered at the end of a search: a status and what is written.
use Rattle.std.specs.Prelude.{ℕ, ◌≡◌, ◌⊎◌, Bool, true, false, List}
use Rattle.lock_model.specs.declared.instance.Instance.{Instance}
use Rattle.lock_model.specs.declared.plan.Plan.{Plan}
use Rattle.lock_model.specs.declared.verdict.Verdict.{Verdict}
use Rattle.lock_model.specs.declared.verdict.Verdict.TheVariants.{Optimal, OpenNodes, OpenTurns}
use Rattle.lock_rules.specs.Plan.{IsCheapest}
use Rattle.book_rules.specs.Book.{Book}
use Rattle.book_rules.specs.Ends.{IsOpenNodes, IsOpenTurns, EndsWell}
use Rattle.book_rules.specs.Verdict.{verdict_of}
use Rattle.book_core.specs.Keeps.{IsSound}
use Rattle.certificate_rules.specs.Certificates.{Certificate, Accepts}
use Rattle.certificate_rules.specs.WellFormed.{IsWellFormed}
use Rattle.cert_text.specs.Dossier.{dossier, Reads}
use Rattle.plan_print.specs.Report.{report}
use Rattle.run_answers.specs.Texts.{no_memory_text}
use Rattle.run_answers.specs.declared.status.Status.{Status}
use Rattle.run_answers.specs.declared.status.Status.TheVariants.{Good, Open, Words, Refused, ReadFault, WriteFault, NoMemory, BadDossier, Unfit, PlanRefused}
use Rattle.cert_text.specs.declared.heading.Form.TheVariants as form

-- a search: its instance, how many nodes and turns it may use, and what its opening plan costs at most
pub record Search : Type 0 where
  pub instance : Instance
  pub nodes : ℕ
  pub turns : ℕ
  pub limit : ℕ

-- the search of a book
abbrev pub search_in : Book → ℕ → Search
search_in b limit = record { instance = b.case.instance; nodes = b.case.nodes; turns = b.case.turns; limit = limit }

-- A SEARCH THAT ENDED. Its book is the replay of the events that it accepted (`IsSound`), and it ended well from a plan that costs at most the limit.
pub record Ended (k : Search) : Type 0 where
  pub book : Book
  pub sound : IsSound book
  pub well : EndsWell k.limit book
  pub of : search_in book k.limit ≡ k

-- the status of a run that ends with this verdict
abbrev pub status_of : Verdict → Status
status_of Optimal = Good
status_of (OpenNodes used low) = Open
status_of (OpenTurns chamber ships turns low) = Open

-- what is printed of an instance, a plan of it, and what was shown of the plan: the report, or its first line
abbrev pub Print : Type 0
Print = Instance → Plan → Verdict → List ℕ

-- a cheapest plan is printed as optimal
pub record PrintsOptimal (print : Print) (I : Instance) (text : List ℕ) : Type 0 where
  pub plan : Plan
  pub cheapest : IsCheapest I plan
  pub shown : text ≡ print I plan Optimal

-- The dossier of an accepted certificate is printed, so its plan is cheapest and has its cost. It is read back as the same two.
pub record PrintsDossier (I : Instance) (text : List ℕ) : Type 0 where
  pub certificate : Certificate
  pub formed : IsWellFormed I certificate
  pub accepts : Accepts I certificate
  pub cheapest : IsCheapest I certificate.plan
  pub shown : text ≡ dossier form.Whole I certificate
  pub reads : Reads form.Whole text I certificate

-- what is printed of a cheapest plan: a dossier where one is asked for, else the report
abbrev pub PrintsBest : Bool → Instance → List ℕ → Type 0
PrintsBest true I text = PrintsDossier I text
PrintsBest false I text = PrintsOptimal report I text

-- a search ended with this verdict, and its best plan is printed as open, for all its nodes were used
pub record PrintsOpenNodes (print : Print) (k : Search) (text : List ℕ) : Type 0 where
  pub ended : Ended k
  pub used : ℕ
  pub low : ℕ
  pub verdict : verdict_of ended.book ≡ OpenNodes used low
  pub left : IsOpenNodes k.instance k.nodes k.limit ended.book.best used low
  pub shown : text ≡ print k.instance ended.book.best (OpenNodes used low)

-- a search ended with this verdict, and its best plan is printed as open, for its turns were spent on the named ships
pub record PrintsOpenTurns (print : Print) (k : Search) (text : List ℕ) : Type 0 where
  pub ended : Ended k
  pub chamber : ℕ
  pub ships : List ℕ
  pub spent : ℕ
  pub low : ℕ
  pub verdict : verdict_of ended.book ≡ OpenTurns chamber ships spent low
  pub left : IsOpenTurns k.instance k.turns k.limit ended.book.best chamber ships spent low
  pub shown : text ≡ print k.instance ended.book.best (OpenTurns chamber ships spent low)

abbrev pub PrintsOpen : Print → Search → List ℕ → Type 0
PrintsOpen print k text = PrintsOpenNodes print k text ⊎ PrintsOpenTurns print k text

-- nothing is printed of a cheapest plan, where a search ended open, and nothing of an open one, where it ended optimal
abbrev pub NoBest : Instance → List ℕ → Type 0
NoBest I text = ⊥

abbrev pub NoLeft : Search → List ℕ → Type 0
NoLeft k text = ⊥

-- What is answered at the end of a search, where `Best` is what is printed of a cheapest plan, and `Left` what is printed of an open one.
abbrev pub AnswersSearch : (Instance → List ℕ → Type 0) → (Search → List ℕ → Type 0) → Search → Status → List ℕ → Type 0
AnswersSearch Best Left k Good text = Best k.instance text
AnswersSearch Best Left k Open text = Left k text
AnswersSearch Best Left k Words text = ⊥
AnswersSearch Best Left k Refused text = ⊥
AnswersSearch Best Left k ReadFault text = ⊥
AnswersSearch Best Left k WriteFault text = ⊥
AnswersSearch Best Left k NoMemory text = text ≡ no_memory_text
AnswersSearch Best Left k BadDossier text = ⊥
AnswersSearch Best Left k Unfit text = ⊥
AnswersSearch Best Left k PlanRefused text = ⊥

-- the same where one print is of both: a cheapest plan as optimal, and one left open with its verdict
abbrev pub AnswersPrinted : Print → Search → Status → List ℕ → Type 0
AnswersPrinted print k status text = AnswersSearch (PrintsOptimal print) (PrintsOpen print) k status text
