-- What a job leaves is lawful for the table that it runs on.
use Rattle.std.proofs.Common.{◌≡◌, ◌∙◌, ap, sym, subst, List}
use Rattle.dstm_model.specs.declared.layout.Layout.{Layout}
use Rattle.dstm_model.specs.declared.value.Val.{Val}
use Rattle.dstm_words.specs.Seats.{Home}
use Rattle.dstm_engine.specs.Callers.{Called, law_of}
use Rattle.dstm_store.specs.declared.job.JobTask.{JobTask}
use Rattle.dstm_store.specs.declared.law.StoreLaw.{StoreLaw}
use Rattle.dstm_store.specs.Whole.{IsLawful}

pub lawful_there : {layout : Layout} {home : Home StoreLaw} (k : Called StoreLaw) → k.home ≡ home →
    home.terms.law.value.layout ≡ layout → {made ran : JobTask} → made.layout ≡ layout → ran ≡ made →
    {values : List Val} → IsLawful ran.layout values → IsLawful (law_of k).layout values
lawful_there {layout} {home} k there law {made} {ran} fits same {values} lawful =
    subst (λ (l : Layout). IsLawful l values)
    (ap (λ (t : JobTask). t.layout) same ∙ fits ∙ sym law
    ∙ sym (ap (λ (h : Home StoreLaw). h.terms.law.value.layout) there))
    lawful
