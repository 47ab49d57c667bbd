-- What a search that ended well shows, and what is answered to it.
use Rattle.std.proofs.Common.{ℕ, Bool, true, false, ◌≡◌, ◌≢◌, ◌<◌, refl, List, length, sym, subst, inl, inr, All, Result, Ok, Err, IfOk}
use Rattle.std.proofs.lemmas.List.Elements.{All-contains}
use Rattle.lock_model.specs.declared.instance.Instance.{Instance}
use Rattle.lock_model.specs.declared.group.Group.{Group}
use Rattle.lock_model.specs.declared.plan.Plan.{Plan}
use Rattle.lock_model.specs.declared.verdict.Verdict.{Verdict}
use Rattle.lock_model.specs.declared.verdict.Verdict.TheVariants.{Optimal, OpenNodes, OpenTurns}
use Rattle.lock_rules.specs.Node.{line_at}
use Rattle.lock_rules.proofs.NodeLemmas.{line-known}
use Rattle.book_rules.specs.Book.{Book}
use Rattle.book_rules.specs.Verdict.{verdict_of}
use Rattle.book_rules.specs.Ends.{EndsWell, IsEnd}
use Rattle.certificate_rules.specs.Certificates.{Certificate, Accepts}
use Rattle.certificate_rules.specs.WellFormed.{IsWellFormed}
use Rattle.certificate_rules.proofs.AcceptLemmas.{accepted-cheapest}
use Rattle.book_rules.proofs.EndLemmas.{ends}
use Rattle.cert_text.specs.Dossier.{dossier, Reads}
use Rattle.book_core.specs.Keeps.{IsSound}
use Rattle.book_core.proofs.SoundLemmas.{laws}
use Rattle.plan_print.specs.Report.{IsOfInstance, report}
use Rattle.run_answers.specs.declared.status.Status.{Status}
use Rattle.run_answers.specs.declared.status.Status.TheVariants.{Good, Open, Words, Refused, ReadFault, WriteFault, NoMemory, BadDossier, Unfit, PlanRefused}
use Rattle.solve_commands.specs.Searching.{Search, Print, PrintsOptimal, PrintsDossier, PrintsBest, PrintsOpen, NoBest, NoLeft, AnswersSearch, Ended, search_in, status_of}
use Rattle.solve_commands.specs.Keeping.{PrintsKept, PrintsLeft}
use Rattle.cert_text.specs.declared.heading.Form.TheVariants as form

-- what the book of a search that ended well shows
pub book_ends : (b : Book) (limit : ℕ) (V : Verdict) → V ≡ verdict_of b → IsSound b → EndsWell limit b → IsEnd b.case.instance b.case.nodes b.case.turns limit b.best V
book_ends b limit V is sound well =
    subst (IsEnd b.case.instance b.case.nodes b.case.turns limit b.best) (sym is) (ends b (laws b.case.instance) sound.keeps sound.parts limit well)

-- the chamber and the ships that it names are in the instance
pub end_known : (I : Instance) (nodes turns limit : ℕ) (P : Plan) (V : Verdict) → IsEnd I nodes turns limit P V → IsOfInstance I V
end_known I nodes turns limit P Optimal end = tt
end_known I nodes turns limit P (OpenNodes used low) end = tt
end_known I nodes turns limit P (OpenTurns chamber ships given low) end =
    let named = end.named in
    let known = All-contains (λ (g : Group). All (λ s. s < length I.ships) g.ships) (line_at named.lines chamber) named.group.group (line-known I named.depth named.lines named.node chamber) named.group.held in
    (named.group.known, subst (All (λ s. s < length I.ships)) named.group.same known)

-- the search of a book that ended well
abbrev pub book_ended : (b : Book) (limit : ℕ) → IsSound b → EndsWell limit b → Ended (search_in b limit)
book_ended b limit sound well = record { book = b; sound = sound; well = well; of = refl }

-- the answer that prints its best plan and its verdict
ended_answers : (print : Print) (k : Search) (e : Ended k) (V : Verdict) (status : Status) (text : List ℕ) → verdict_of e.book ≡ V
    → IsEnd k.instance k.nodes k.turns k.limit e.book.best V → status ≡ status_of V → text ≡ print k.instance e.book.best V → AnswersSearch (PrintsOptimal print) (PrintsOpen print) k status text
ended_answers print k e Optimal status text told end is shown =
    subst (λ s. AnswersSearch (PrintsOptimal print) (PrintsOpen print) k s text) (sym is) (record { plan = e.book.best; cheapest = end.cheapest; shown = shown })
ended_answers print k e (OpenNodes used low) status text told end is shown =
    subst (λ s. AnswersSearch (PrintsOptimal print) (PrintsOpen print) k s text) (sym is) (inl (record { ended = e; used = used; low = low; verdict = told; left = end; shown = shown }))
ended_answers print k e (OpenTurns chamber ships given low) status text told end is shown =
    subst (λ s. AnswersSearch (PrintsOptimal print) (PrintsOpen print) k s text) (sym is) (inr (record { ended = e; chamber = chamber; ships = ships; spent = given; low = low; verdict = told; left = end; shown = shown }))

pub book_answers : (print : Print) (b : Book) (limit : ℕ) (V : Verdict) (status : Status) (text : List ℕ)
    → IsSound b → EndsWell limit b → V ≡ verdict_of b → status ≡ status_of V → text ≡ print b.case.instance b.best V → AnswersSearch (PrintsOptimal print) (PrintsOpen print) (search_in b limit) status text
book_answers print b limit V status text sound well is shows shown =
    ended_answers print (search_in b limit) (book_ended b limit sound well) V status text (sym is) (book_ends b limit V is sound well) shows shown

-- the dossier of an accepted certificate
dossier_printed : (I : Instance) (C : Certificate) (text : List ℕ) → Accepts I C → IsWellFormed I C → text ≡ dossier form.Whole I C → Reads form.Whole text I C → PrintsDossier I text
dossier_printed I C text accepts formed shown reads =
    record { certificate = C; formed = formed; accepts = accepts; cheapest = accepted-cheapest I C (laws I) accepts; shown = shown; reads = reads }

-- the same of a text that may be wanting, of an equal instance
pub dossier_printed_ok : {T E : Type 0} (I J : Instance) (C : Certificate) (items : T → List ℕ) (r : Result T E) → J ≡ I → Accepts I C → IsWellFormed I C
    → IfOk r (λ t. items t ≡ dossier form.Whole J C) → IfOk r (λ t. Reads form.Whole (items t) J C) → IfOk r (λ t. PrintsDossier I (items t))
dossier_printed_ok I J C items (Ok t) same accepts formed shown reads =
    dossier_printed I C (items t) accepts formed (subst (λ J. items t ≡ dossier form.Whole J C) same shown) (subst (λ J. Reads form.Whole (items t) J C) same reads)
dossier_printed_ok I J C items (Err e) same accepts formed shown reads = tt

-- ---- one answer for another

-- what is printed of a cheapest plan, and of an open one, is told otherwise
pub answers_as : (Best Other : Instance → List ℕ → Type 0) (Left Rest : Search → List ℕ → Type 0) (k : Search) (status : Status) (text : List ℕ)
    → (status ≡ Good → Best k.instance text → Other k.instance text) → (status ≡ Open → Left k text → Rest k text)
    → AnswersSearch Best Left k status text → AnswersSearch Other Rest k status text
answers_as Best Other Left Rest k Good text best left answer = best refl answer
answers_as Best Other Left Rest k Open text best left answer = left refl answer
answers_as Best Other Left Rest k Words text best left answer = answer
answers_as Best Other Left Rest k Refused text best left answer = answer
answers_as Best Other Left Rest k ReadFault text best left answer = answer
answers_as Best Other Left Rest k WriteFault text best left answer = answer
answers_as Best Other Left Rest k NoMemory text best left answer = answer
answers_as Best Other Left Rest k BadDossier text best left answer = answer
answers_as Best Other Left Rest k Unfit text best left answer = answer
answers_as Best Other Left Rest k PlanRefused text best left answer = answer

-- ---- by what is asked for

pub dossier_asked : (asked : Bool) (k : Search) (status : Status) (text : List ℕ) → true ≡ asked → AnswersSearch PrintsDossier NoLeft k status text → AnswersSearch (PrintsBest asked) NoLeft k status text
dossier_asked asked k status text is answer = subst (λ a. AnswersSearch (PrintsBest a) NoLeft k status text) is answer

pub report_asked : (asked : Bool) (k : Search) (status : Status) (text : List ℕ) → false ≡ asked → status ≢ Open → AnswersSearch (PrintsOptimal report) (PrintsOpen report) k status text → AnswersSearch (PrintsBest asked) NoLeft k status text
report_asked asked k status text is best answer =
    subst (λ a. AnswersSearch (PrintsBest a) NoLeft k status text) is (answers_as (PrintsOptimal report) (PrintsOptimal report) (PrintsOpen report) NoLeft k status text (λ _ shown. shown) (λ left _. absurd (best left)) answer)

pub kept_asked : (asked : Bool) (k : Search) (status : Status) (text : List ℕ) → true ≡ asked → AnswersSearch NoBest PrintsKept k status text → AnswersSearch NoBest (PrintsLeft asked) k status text
kept_asked asked k status text is answer = subst (λ a. AnswersSearch NoBest (PrintsLeft a) k status text) is answer

pub open_asked : (asked : Bool) (k : Search) (status : Status) (text : List ℕ) → false ≡ asked → status ≢ Good → AnswersSearch (PrintsOptimal report) (PrintsOpen report) k status text → AnswersSearch NoBest (PrintsLeft asked) k status text
open_asked asked k status text is left answer =
    subst (λ a. AnswersSearch NoBest (PrintsLeft a) k status text) is (answers_as (PrintsOptimal report) NoBest (PrintsOpen report) (PrintsOpen report) k status text (λ good _. absurd (left good)) (λ _ shown. shown) answer)
