-- What a task asks, and what is reported of a list of refs with a bad record.
use Rattle.std.proofs.Common.{◌≡◌, ℕ, true, false, List, [], ◌∷◌, None, inr, codes, drop, length, refl, ap, arith, take}
use Rattle.gix_refspec.specs.Specs.Grammar.{fetched}
use Rattle.gix_refspec.specs.Specs.Reading.{Normal, Reading}
use Rattle.refspec_io.specs.declared.call.Command.TheVariants as command
use Rattle.refspec_io.specs.declared.call.Form.{Form}
use Rattle.refspec_io.specs.declared.call.Form.TheVariants as form
use Rattle.refspec_io.specs.declared.call.Task.{Task}
use Rattle.refspec_io.specs.Input.{end_byte}
use Rattle.refspec_fetch.specs.declared.question.Subject.TheVariants as subject
use Rattle.refspec_fetch.specs.Fetch.{AddsFetch, ReportsBad, local_if, subject_by, wish_of_task}
use Rattle.refspec_fetch.specs.Report.{Report}

abbrev a_spec : Reading
a_spec = fetched Normal (codes "a") None

abbrev b_spec : Reading
b_spec = fetched Normal (codes "b") None

-- the first specs are given, and the others configured; also if all are given, or none
pub wishes : (task : Task)
    → ((task.given ≡ 1) → ((wish_of_task task (a_spec ∷ b_spec ∷ [])).given ≡ a_spec ∷ [])
    × ((wish_of_task task (a_spec ∷ b_spec ∷ [])).configured ≡ b_spec ∷ []))
    × ((task.given ≡ 2) → ((wish_of_task task (a_spec ∷ b_spec ∷ [])).given ≡ a_spec ∷ b_spec ∷ [])
    × ((wish_of_task task (a_spec ∷ b_spec ∷ [])).configured ≡ []))
    × ((task.given ≡ 0) → ((wish_of_task task (a_spec ∷ b_spec ∷ [])).given ≡ [])
    × ((wish_of_task task (a_spec ∷ b_spec ∷ [])).configured ≡ a_spec ∷ b_spec ∷ []))
wishes task = (
  (λ is. (ap (λ (n : ℕ). take n (a_spec ∷ b_spec ∷ [])) is, ap (λ (n : ℕ). drop n (a_spec ∷ b_spec ∷ [])) is)),
  (λ is. (ap (λ (n : ℕ). take n (a_spec ∷ b_spec ∷ [])) is, ap (λ (n : ℕ). drop n (a_spec ∷ b_spec ∷ [])) is)),
  λ is. (ap (λ (n : ℕ). take n (a_spec ∷ b_spec ∷ [])) is, ap (λ (n : ℕ). drop n (a_spec ∷ b_spec ∷ [])) is),
)

-- `stale` asks about the refs here alone, and `plan` about them beside the updates if it prunes
pub subjects : (subject_by command.Stale true ≡ subject.Stale) × (subject_by command.Stale false ≡ subject.Stale)
    × (subject_by command.Plan true ≡ subject.Both) × (subject_by command.Plan false ≡ subject.Updates)
subjects = (refl, refl, refl, refl)

-- the list of refs here is read if they are asked about
pub local : (task : Task) → (local_if true task ≡ task.local.now) × (local_if false task ≡ [])
local task = (refl, refl)

-- what was reported so far
abbrev pub so_far : Form → List ℕ → Report
so_far f results = record { form = f; results = results; messages = [] }

-- of a list with a bad record nothing becomes a result in lines or records, and the call is refused
pub no_results : (end : ℕ) (input : List ℕ)
    → ¬ (ReportsBad end input (so_far form.Lines []) (so_far form.Lines (codes "a")))
    × ¬ (ReportsBad end input (so_far form.Zeros []) (so_far form.Zeros (codes "a")))
no_results end input = ((λ is. omega (arith, ap length is.malformed)), λ is. omega (arith, ap length is.malformed))

pub is_refused : (task : Task) (g : List Reading) (old new : Report)
    → ReportsBad (end_byte task.call.now.ends) task.input.now old new → AddsFetch task g true old new
is_refused task g old new is = inr (is, refl)
