-- What events count: attempts begun and locators installed by a caller, and numbers drawn.
use Rattle.std.specs.Prelude.{ℕ, ◌==◌, ◌&&◌, Bool, true, false, List, [], ◌∷◌, count_by}
use Rattle.dstm_core.specs.Events.{Event}
use Rattle.dstm_core.specs.Histories.{is_draw}
use Rattle.dstm_core.specs.Kinds.{is_one_of}
use Rattle.dstm_core.specs.Traces.{events_of}
use Rattle.dstm_core.specs.declared.event.Kind.{Kind}
use Rattle.dstm_core.specs.declared.event.Kind.TheVariants.{Begin, Install}

abbrev pub is_begin : Kind → Bool
is_begin Begin = true
is_begin kind = false

-- how many attempts caller c began in a trace
abbrev pub begin_count : ℕ → List Event → ℕ
begin_count c trace = count_by (λ (event : Event). is_begin event.kind) (events_of c trace)

-- how many of its Installs succeeded
abbrev pub install_count : ℕ → List Event → ℕ
install_count c trace =
    count_by (λ (event : Event). is_one_of (Install ∷ []) event.kind && (event.found == event.expected)) (events_of c trace)

-- how many numbers were drawn in a trace
abbrev pub draw_count : List Event → ℕ
draw_count trace = count_by (λ (event : Event). is_draw event.kind) trace
