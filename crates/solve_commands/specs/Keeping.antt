-- What is printed of a search that ended open: its open dossier, where one is to be kept, else its report.
use Rattle.std.specs.Prelude.{ℕ, ◌≡◌, ◌<◌, ◌≤◌, ◌⊎◌, Bool, true, false, List, length}
use Rattle.lock_model.specs.declared.plan.Plan.{Plan}
use Rattle.lock_rules.specs.Plan.{IsLegal, cost_of}
use Rattle.lock_rules.specs.Node.{root_lines}
use Rattle.lock_rules.specs.Cheap.{cheap_nodes}
use Rattle.book_rules.specs.Ends.{IsOpenLow, IsSpentBelow, IsUnderSpent}
use Rattle.book_certificate.specs.Certified.{IsCertificateOf, ProvesLow}
use Rattle.certificate_rules.specs.Certificates.{Certificate, Stands}
use Rattle.certificate_rules.specs.WellFormed.{IsWellFormed}
use Rattle.cert_text.specs.Dossier.{dossier, Reads}
use Rattle.plan_print.specs.Report.{report}
use Rattle.command_words.specs.declared.commands.SolveOptions.{SolveOptions}
use Rattle.run_answers.specs.declared.status.Status.{Status}
use Rattle.solve_commands.specs.Searching.{Search, Ended, PrintsBest, PrintsOpen, AnswersSearch}
use Rattle.cert_text.specs.declared.heading.Form.TheVariants as form

-- More nodes than the search may use have a bound below its limit, and the certificate has more marks than these.
pub record SpendsNodes (k : Search) (C : Certificate) : Type 0 where
  pub more : k.nodes < cheap_nodes k.instance k.limit 0 root_lines
  pub marks : k.nodes < length C.tree

-- The turns of the search were spent on the named ships, a group of a node whose bound is below the certificate's cost, and every cheaper plan lies under a node with a spent group.
pub record SpendsTurns (k : Search) (C : Certificate) : Type 0 where
  pub chamber : ℕ
  pub ships : List ℕ
  pub named : IsSpentBelow k.instance k.turns C.cost chamber ships
  pub cheaper : (Q : Plan) → IsLegal k.instance Q → cost_of k.instance Q < C.cost → IsUnderSpent k.instance k.turns Q

-- The certificate stands and costs at most the search's limit, no legal plan costs less than a low below its cost, which it shows itself, and the nodes or the turns of the search were spent. Its leaves may show more, up to its cost.
pub record IsKeptCertificate (k : Search) (C : Certificate) : Type 0 where
  pub formed : IsWellFormed k.instance C
  pub stands : Stands k.instance C
  pub cost : C.cost ≤ k.limit
  pub low : ℕ
  pub lower : IsOpenLow k.instance C.plan low
  pub proves : ProvesLow k.instance C low
  pub cause : SpendsNodes k C ⊎ SpendsTurns k C

-- A search ended, and the open dossier of its own certificate is printed: its best plan, all its cuts and prices, and the marks of all slots. It is read back as the same two.
pub record PrintsKept (k : Search) (text : List ℕ) : Type 0 where
  pub ended : Ended k
  pub certificate : Certificate
  pub own : IsCertificateOf ended.book certificate
  pub kept : IsKeptCertificate k certificate
  pub shown : text ≡ dossier form.Open k.instance certificate
  pub reads : Reads form.Open text k.instance certificate

-- what is printed of an open search: the open dossier where it is to be kept, else the report
abbrev pub PrintsLeft : Bool → Search → List ℕ → Type 0
PrintsLeft true k text = PrintsKept k text
PrintsLeft false k text = PrintsOpen report k text

-- What is answered at the end of a search to the options: the dossier or the report of a cheapest plan, the open dossier or the report of one left open.
abbrev pub AnswersOptions : SolveOptions → Search → Status → List ℕ → Type 0
AnswersOptions options k status text = AnswersSearch (PrintsBest options.dossier) (PrintsLeft options.keep) k status text
