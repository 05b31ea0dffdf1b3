-- What the code's project stands for.
use Rattle.std.specs.Prelude.{◌≡◌, List, Option, Result, Err, map, option_map}
use Rattle.std.specs.Global.{Vec}
use denote.Ref.{Bor}
use Rattle.fluent_project.specs.declared.faults.Fault as code_fault
use Rattle.fluent_project.specs.declared.faults.FileError.{FileError}
use Rattle.fluent_project.specs.declared.faults.FileError.TheVariants as file_error
use Rattle.fluent_project.specs.declared.file.Filter as code_filter
use Rattle.fluent_project.specs.declared.file.Head as code_head
use Rattle.fluent_project.specs.declared.file.Links as code_links
use Rattle.fluent_project.specs.declared.file.PathRule as code_rule
use Rattle.fluent_project.specs.declared.file.ProjectFile as code
use Rattle.fluent_project.specs.declared.file.Setting as code_setting
use Rattle.fluent_project.specs.declared.file.Settings as code_settings
use Rattle.fluent_project.specs.Files.{Fault, File, Filter, Head, Links, PathRule, Settings, fault}
use Rattle.fluent_project.specs.Patterns.{Text}
use Rattle.fluent_project.specs.PlaceViews.{place_view, texts}

abbrev pub maybe_text : Option (Bor Text) → Option Text
maybe_text = option_map (λ text. text.now)

abbrev pub maybe_texts : Option (Vec (Bor Text)) → Option (List Text)
maybe_texts = option_map (λ list. texts list.items)

abbrev pub fault_view : code_fault.Fault → Fault
fault_view f = fault (place_view f.place) f.kind

-- the file is wrong, and this is what is wrong first
abbrev pub IsRefusedBy : {A : Type 0} → Result A Fault → FileError → Type 0
IsRefusedBy result file_error.Memory = Unit {0}
IsRefusedBy result (file_error.Fault f) = result ≡ Err (fault_view f)

abbrev pub rule_view : code_rule.PathRule → PathRule
rule_view r = record { reference = maybe_text r.reference; l10n = r.l10n.now; locales = maybe_texts r.locales }

abbrev pub filter_view : code_filter.Filter → Filter
filter_view f = record { paths = texts f.paths.items; keys = maybe_texts f.keys; action = f.action }

abbrev pub setting_view : code_setting.Setting → Text × Text
setting_view s = (s.name.now, s.value.now)

abbrev pub settings_view : code_settings.Settings → Settings
settings_view s = record { functions = maybe_texts s.functions; ignored = maybe_texts s.ignored; catalog = maybe_text s.catalog }

abbrev pub head_view : code_head.Head → Head
head_view h = record { basepath = maybe_text h.basepath; locales = maybe_texts h.locales; variables = map setting_view h.variables.items }

abbrev pub links_view : code_links.Links → Links
links_view l = record { includes = texts l.includes.items; excludes = texts l.excludes.items }

abbrev pub file_view : code.ProjectFile → File
file_view f = record {
  head = head_view f.head;
  paths = map rule_view f.paths.items;
  filters = map filter_view f.filters.items;
  links = links_view f.links;
  settings = settings_view f.settings;
}
