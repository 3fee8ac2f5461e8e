-- Laws of histories, whatever the machine.
use Rattle.std.specs.Prelude.{◌≡◌, Bool, List, ◌++◌, map, reverse}
use Rattle.dstm_machines.specs.declared.event.Event.{Event}
use Rattle.dstm_machines.specs.Traces.{IsPastOf}
use Rattle.dstm_model.specs.Answers.{Committed}
use Rattle.dstm_model.specs.Map.{Entry}
use Rattle.dstm_machines.specs.Histories.{committed, history_of}

module _ (K : Type 0) where
  -- the history of a part of a trace that has its oldest events is a prefix of the whole history
  abbrev pub PlacesHavePrefixes : Type 0
  PlacesHavePrefixes =
      (commits : Event K → List (Event K) → Bool) (entry : Event K → List (Event K) → Entry)
      (later before : List (Event K)) →
      (rest : List Entry)
      × (history_of commits entry (later ++ before) ≡ history_of commits entry before ++ rest)

  -- the history of such a part
  pub record HasPlace (commits : Event K → List (Event K) → Bool) (entry : Event K → List (Event K) → Entry)
      (trace : List (Event K)) (prefix : List Entry) : Type 0 where
    pub before : List (Event K)
    pub is_past : IsPastOf before trace
    pub is : history_of commits entry before ≡ prefix

  -- each prefix of a history is one
  abbrev pub PrefixesHavePlaces : Type 0
  PrefixesHavePlaces =
      (commits : Event K → List (Event K) → Bool) (entry : Event K → List (Event K) → Entry)
      (trace : List (Event K)) (prefix rest : List Entry) → history_of commits entry trace ≡ prefix ++ rest →
      HasPlace commits entry trace prefix

  -- the entries of the committed attempts are the history
  abbrev pub EntriesAreHistory : Type 0
  EntriesAreHistory =
      (commits : Event K → List (Event K) → Bool) (entry : Event K → List (Event K) → Entry)
      (trace : List (Event K)) →
      history_of commits entry trace
      ≡ reverse (map (λ (attempt : Committed). attempt.entry) (committed commits entry trace))
