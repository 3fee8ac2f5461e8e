-- DSTM keeps the laws that sharing its words stands on.
use Rattle.std.specs.Prelude.{List}
use Rattle.std.proofs.Common.{refl, arith}
use Rattle.dstm_model.specs.declared.value.Val.{Val}
use Rattle.dstm_machines.specs.Sharing.{Enrolling}
use Rattle.dstm_core.proofs.Counts.{add_fits}
use Rattle.dstm_core.proofs.Enrolment.{enrols}
use Rattle.dstm_core.proofs.Sharing.{inside, later, named}
use Rattle.dstm_words.specs.Seats.{shared}

pub enrolling : {L : Type 0} (holds : L → List Val → Type 0) → Enrolling (shared holds)
enrolling holds = record {
  follows = λ terms log r. r.run.core;
  goes_on = λ terms log e r fits keeps. record {
    valid = r.valid;
    lawful = r.lawful;
    run = record { values = r.run.values; core = (r.run.core, fits); law = (r.run.law, keeps) };
  };
  first = λ s e a. enrols s e e.kind a;
  later = λ s l e n q a. later s l e e.kind n q a;
  inside = λ s l e a. inside s l e e.kind a;
  named = named;
  has_count = λ s. omega arith;
  none = λ s. refl;
  adds = λ terms log e r fits acts. add_fits terms.shape log e r.valid r.run.core fits (acts terms.shape _ _);
}
