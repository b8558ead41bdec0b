-- Answers to requests.
use Rattle.std.proofs.Common.{◌≡◌, ◌∙◌, ℕ, List, [], ap, subst, sym}
use Rattle.refspec_io.specs.declared.call.Form.{Form}
use Rattle.refspec_io.specs.declared.report.Report.{Report as DeclaredReport}
use Rattle.refspec_fetch.specs.Report.{Report, report_of}
use Rattle.refspec_request.specs.declared.arguments.Request.{Request}
use Rattle.refspec_request.specs.declared.choice.Choice.{Choice}
use Rattle.refspec_request.specs.declared.choice.Repository.{Repository}
use Rattle.refspec_git.specs.declared.answer.Answer.{Answer}
use Rattle.refspec_git.specs.declared.answer.Answer.TheVariants as answer
use Rattle.refspec_git.specs.declared.plan.Fetch.{Fetch}
use Rattle.refspec_git.specs.Answers.{IsReport}
use Rattle.refspec_git.specs.Fetch.{AnswersFetch, ReportsFetch, limit_of, subject_of}
use Rattle.refspec_git.specs.Wanted.{MapsBy}

-- a report with this form, these results and these messages
abbrev pub filled : Form → List ℕ → List ℕ → Report
filled form results messages = record { form = form; results = results; messages = messages }

-- a new report is empty
pub empty_report : (p : DeclaredReport) (form : Form) → p.form ≡ form → p.results.items ≡ [] → p.messages.items ≡ []
    → report_of p ≡ filled form [] []
empty_report p form same none silent = ap (λ f. filled f p.results.items p.messages.items) same
    ∙ (ap (λ r. filled form r p.messages.items) none ∙ ap (filled form []) silent)

-- a report answers a request, if it is that on a fetch by the specs of the request
pub fetch_reported : (r : Repository) (request : Request) (choice : Choice) (f : Fetch) (old new : DeclaredReport)
    (status : ℕ) (a : Answer) → MapsBy r request choice f.specs
    → f.subject ≡ subject_of request.command request.prune → f.style.long ≡ request.long
    → f.style.limit ≡ limit_of request.all
    → report_of old ≡ filled request.form [] [] → ReportsFetch f status (report_of old) (report_of new)
    → IsReport new status a → AnswersFetch r request choice a
fetch_reported r request choice f old new status (answer.Asks lines) maps asked long limit empty reports is = absurd is
fetch_reported r request choice f old new status (answer.Reports output) maps asked long limit empty reports is =
    record {
      fetch = f;
      report = report_of new;
      specs = maps;
      subject = asked;
      long = long;
      limit = limit;
      reports = subst (λ s. ReportsFetch f s (filled request.form [] []) (report_of new)) (sym is.2)
          (subst (λ p. ReportsFetch f status p (report_of new)) empty reports);
      results = ap (λ v. v.items) is.0;
      messages = ap (λ v. v.items) is.1;
    }
