-- How the jobs of a workload are run.
use Rattle.std.specs.Prelude.{◌≢◌, ℕ, ◌==◌, Bool, if◌then◌else◌, All}
use Rattle.dstm_model.specs.declared.layout.Layout.{Layout}
use Rattle.dstm_model.specs.Layout.{IsValid, FitsLayout}
use Rattle.dstm_model.specs.Store.{IsPlain}
use Rattle.dstm_workload.specs.declared.workload.Job.{Job}
use Rattle.dstm_jobs.specs.declared.style.Style.{Style}
use Rattle.dstm_jobs.specs.declared.style.Style.TheVariants.{Plain, Loose, Branches}

-- a workload of version 3 has branches; in the others reads may be let go
abbrev pub style_of : (version : ℕ) (release : Bool) → Style
style_of version release = if version == 3 then Branches else if release then Loose else Plain

-- the job can be run so: its operations fit the layout, and without branches there are no conditions among them
pub record CanTry (style : Style) (layout : Layout) (job : Job) : Type 0 where
  pub valid : IsValid layout
  pub fits : All (FitsLayout layout) job.ops
  pub plain : style ≢ Branches → All IsPlain job.ops
