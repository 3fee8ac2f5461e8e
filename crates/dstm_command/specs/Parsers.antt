-- Private: the parser of options, as clap sees it.
use Rattle.std.specs.Prelude.{◌≡◌, Bool, true, false, Some, codes, map}
use Rattle.std.specs.List.{list_any}
use Rattle.std.specs.Str.{bytes_eq}
use Rattle.clap.specs.Walk.{Rule, Text}
use Rattle.clap.specs.Simple.{App, new_app, new_rule, on_top}
use Rattle.clap.specs.Matches.{first_value, one_text}
use Rattle.clap.specs.Values.{bool_text}
use Rattle.clap.specs.declared.builder.action.ArgAction.{ArgAction}
use Rattle.clap.specs.declared.builder.action.ArgAction.TheVariants.{Set, SetTrue}
use Rattle.clap.specs.declared.parser.matches.Found.{Found}
use Rattle.dstm_command.specs.Options.{Choice, Given, Table, flag, is_given, name_of, option_named, valued, value_of}

-- no program's name among the words, and no help
abbrev pub bare_app : Text → App
bare_app name =
    on_top (λ s. record s { disable_help_flag = true })
    (on_top (λ s. record s { no_binary_name = true }) (new_app name))

abbrev pub action_of : Choice → ArgAction
action_of (valued name) = Set
action_of (flag name) = SetTrue

abbrev pub rule_named : Text → ArgAction → Rule
rule_named name action = record (new_rule name) { long = Some name; action = Some action }

abbrev pub option_rule : Choice → Rule
option_rule c = rule_named (name_of c) (action_of c)

-- `run` with the options of a table
abbrev pub options_app : Table → App
options_app table = on_top (λ s. record s { rules = map option_rule table }) (bare_app (codes "run"))

abbrev pub is_flag : Text → Choice → Bool
is_flag name (valued n) = false
is_flag name (flag n) = bytes_eq n name

-- what was found is what was given: the values, and of each flag whether it was
pub record Holds (table : Table) (f : Found) (given : Given) : Type 0 where
  pub value : (name : Text) → list_any (is_flag name) table ≡ false → first_value f name ≡ value_of name given
  pub flags : (name : Text) → option_named table name ≡ Some (flag name) →
      one_text f name ≡ Some (bool_text (is_given name given))
