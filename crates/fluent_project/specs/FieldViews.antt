-- What the code's values of keys stand for.
use Rattle.std.specs.Prelude.{List, String, Option, Result, option_map}
use Rattle.std.specs.BTreeMap.{BTreeMap}
use Rattle.std.specs.declared.alloc.Global.{Global}
use denote.Ref.{Bor}
use Rattle.toml.specs.Data.{Data, Members}
use Rattle.toml.specs.View.{table_view, view}
use Rattle.toml.specs.declared.value.Value.{Value}
use Rattle.fluent_project.specs.declared.faults.FaultKind.TheVariants.{NoText, NoTexts, NoLanguages, NoList, NoAction}
use Rattle.fluent_project.specs.declared.file.Action.{Action}
use Rattle.fluent_project.specs.declared.places.Place.{Place}
use Rattle.fluent_project.specs.FileValues.{languages_of, list_of, text_of, texts_of}
use Rattle.fluent_project.specs.Files.{Fault, action_of, needed, optional}
use Rattle.fluent_project.specs.Patterns.{Text}
use Rattle.fluent_project.specs.PlaceViews.{place_view}

abbrev pub maybe_value : Option (Bor Value) → Option Data
maybe_value = option_map (λ value. view value.now)

abbrev pub maybe_table : Option (Bor (BTreeMap (String Global) Value)) → Option Members
maybe_table = option_map (λ table. table_view table.now)

-- what the value of a key is read as, if the key is there
abbrev pub maybe_text_at : Place → Option (Bor Value) → Result (Option Text) Fault
maybe_text_at place value = optional (place_view place) NoText text_of (maybe_value value)

abbrev pub maybe_texts_at : Place → Option (Bor Value) → Result (Option (List Text)) Fault
maybe_texts_at place value = optional (place_view place) NoTexts texts_of (maybe_value value)

abbrev pub languages_at : Place → Option (Bor Value) → Result (Option (List Text)) Fault
languages_at place value = optional (place_view place) NoLanguages languages_of (maybe_value value)

abbrev pub list_at : Place → Option (Bor Value) → Result (Option (List Text)) Fault
list_at place value = optional (place_view place) NoList list_of (maybe_value value)

-- and of a key that has to be there
abbrev pub text_at : Place → Option (Bor Value) → Result Text Fault
text_at place value = needed (place_view place) NoText text_of (maybe_value value)

abbrev pub texts_at : Place → Option (Bor Value) → Result (List Text) Fault
texts_at place value = needed (place_view place) NoTexts texts_of (maybe_value value)

abbrev pub action_at : Place → Option (Bor Value) → Result Action Fault
action_at place value = needed (place_view place) NoAction action_of (maybe_value value)
