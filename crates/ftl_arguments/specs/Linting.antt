-- What `lint` is asked for.
use Rattle.std.specs.Prelude.{Bool, true, false, not, ◌&&◌, ◌||◌, ◌==◌, ◌++◌, if◌then◌else◌, List, [], ◌∷◌, Option, Some, None, is_some, option_map, option_and_then, codes}
use Rattle.std.specs.List.{filter, flat_map, list_all, list_any, slice_split}
use Rattle.std.specs.Option.{option_map_or}
use Rattle.std.specs.Str.{bytes_eq}
use Rattle.clap.specs.Words.{Row, Text, first_of}
use Rattle.fluent_grammar.specs.Words.{begins, is_callee_byte, is_capital}
use Rattle.ftl_arguments.specs.Found.{is_given, values_in, locale_in}
use Rattle.lint_findings.specs.Report.{text_codes}
use Rattle.lint_findings.specs.Output.{Format, text, terminal, lines, json, github, sarif, gitlab}

-- report what is found in the catalog that the sources in these files, and below these folders, are
pub record Lint : Type 0 where
  -- the files of the catalog that is translated from, and folders with such files
  pub references : List Text
  -- the names of the functions that are known beside `NUMBER`
  pub functions : List Text
  -- the codes of findings that are left out
  pub ignored : List Text
  -- the tag of the locale whose plural categories are looked for, if one is given
  pub locale : Option Text
  -- notes are reported, too: with `--notes`, and where codes are selected
  pub notes : Bool
  -- each file has its counts, also if nothing is missing
  pub counts : Bool
  -- warnings count for the status
  pub strict : Bool
  -- how findings are written
  pub format : Format
  -- the files of the catalog, and folders with such files
  pub files : List Text

-- the codes that findings have
unfoldable pub finding_codes : List Text
finding_codes =
    codes "syntax" ∷ codes "byte-order-mark" ∷ codes "duplicate-id" ∷ codes "unknown-message" ∷ codes "unknown-term"
    ∷ codes "unknown-attribute" ∷ codes "no-value" ∷ codes "no-default" ∷ codes "cyclic-reference" ∷ codes "unknown-function" ∷ codes "duplicate-attribute"
    ∷ codes "duplicate-variant" ∷ codes "invalid-escape" ∷ codes "unknown-option" ∷ codes "missing-category"
    ∷ codes "placeable-in-literal" ∷ codes "unknown-term-argument" ∷ codes "unknown-term-variant" ∷ codes "unknown-category"
    ∷ codes "unused-category" ∷ codes "replacement-character" ∷ codes "control-character" ∷ codes "zero-width" ∷ codes "unbalanced-direction" ∷ codes "mixed-scripts" ∷ codes "wrong-encoding"
    ∷ codes "unused-term" ∷ codes "missing-message" ∷ codes "missing-value" ∷ codes "missing-attribute" ∷ codes "obsolete-value"
    ∷ codes "obsolete-attribute" ∷ codes "unknown-variable" ∷ codes "missing-variable" ∷ codes "unused-variable" ∷ codes "obsolete-message"
    ∷ codes "untranslated" ∷ codes "variant-lacks-variable" ∷ codes "plural-dropped" ∷ codes "term-as-text"
    ∷ codes "broken-tag" ∷ codes "unbalanced-element" ∷ codes "unknown-element" ∷ codes "missing-element" ∷ codes "missing-l10n-name"
    ∷ codes "unknown-l10n-name" ∷ codes "broken-entity" ∷ codes "long-access-key" ∷ codes "long-key" ∷ codes "changed-style"
    ∷ codes "access-key-not-in-label" ∷ codes "changed-url" ∷ codes "changed-placeholder" ∷ codes "changed-number" ∷ codes "edge-space"
    ∷ codes "double-space" ∷ codes "doubled-word" ∷ codes "final-punctuation" ∷ codes "three-dots" ∷ codes "unpaired-quote" ∷ codes "straight-quote"
    ∷ codes "empty-text" ∷ codes "long-text"
    ∷ codes "missing-file" ∷ codes "missing-locale" ∷ codes "obsolete-file" ∷ codes "unused-ignore" ∷ []

abbrev pub is_finding_code : Text → Bool
is_finding_code name = list_any (λ code. bytes_eq code name) finding_codes

-- a code, or the name of the group of notes on texts
abbrev pub is_code : Text → Bool
is_code name = bytes_eq name (codes "texts") || is_finding_code name

-- the codes that a name stands for
abbrev pub codes_named : Text → List Text
codes_named name = if bytes_eq name (codes "texts") then text_codes else name ∷ []

-- the codes of a value, between its commas
abbrev pub code_list : Text → List Text
code_list value = slice_split (λ byte. byte == 44) value

-- the names in all values of an option
abbrev pub codes_in : Text → List Row → List Text
codes_in name rows = flat_map code_list (values_in name rows)

-- the codes of all values of an option
abbrev pub named_in : Text → List Row → List Text
named_in name rows = flat_map codes_named (codes_in name rows)

abbrev pub is_any : List Text → Bool
is_any [] = false
is_any (path ∷ paths) = true

abbrev pub is_among : List Text → Text → Bool
is_among texts name = list_any (λ text. bytes_eq text name) texts

abbrev pub others_of : List Text → List Text → List Text
others_of selected names = filter (λ name. not (is_among selected name)) names

-- If codes are selected, all others are left out, and otherwise the notes on texts.
abbrev pub unselected : List Text → List Text
unselected selected = if is_any selected then others_of selected finding_codes else text_codes

-- by `--ignore` and `--select`
abbrev pub ignored_in : List Row → List Text
ignored_in rows = named_in (codes "ignore") rows ++ unselected (named_in (codes "select") rows)

-- both name codes of findings
abbrev pub are_known : List Row → Bool
are_known rows = list_all is_code (codes_in (codes "ignore") rows) && list_all is_code (codes_in (codes "select") rows)

-- A name that messages can call a function by. It begins with a capital letter.
abbrev pub is_function_name : Text → Bool
is_function_name name = begins is_capital name && list_all is_callee_byte name

-- the values of `--function`
abbrev pub functions_in : List Row → List Text
functions_in rows = values_in (codes "function") rows

-- The functions that are known beside `NUMBER`. Bundles of the packages have `DATETIME`, and so has `format`.
abbrev pub known_functions : List Row → List Text
known_functions rows = functions_in rows ++ codes "DATETIME" ∷ []

-- the values of `--reference`
abbrev pub references_in : List Row → List Text
references_in rows = values_in (codes "reference") rows

-- codes are selected
abbrev pub is_selecting : List Row → Bool
is_selecting rows = is_any (values_in (codes "select") rows)

-- counts are of what a reference has
abbrev pub has_what_it_counts : List Row → Bool
has_what_it_counts rows = not (is_given (codes "counts") rows) || is_any (references_in rows)

abbrev pub format_named : Text → Option Format
format_named name =
    if bytes_eq name (codes "text") then Some text
    else if bytes_eq name (codes "line") then Some lines
    else if bytes_eq name (codes "json") then Some json
    else if bytes_eq name (codes "github") then Some github
    else if bytes_eq name (codes "sarif") then Some sarif
    else if bytes_eq name (codes "gitlab") then Some gitlab
    else None

-- the value of `--format`
abbrev pub format_in : List Row → Option Format
format_in rows = option_and_then format_named (first_of (codes "format") rows)

-- Whether the value of `--color` asks for colours. `auto` leaves that to the screen.
abbrev pub colours_named : Text → Option Bool
colours_named name =
    if bytes_eq name (codes "auto") then Some false
    else if bytes_eq name (codes "always") then Some true
    else if bytes_eq name (codes "never") then Some false
    else None

abbrev pub colours_in : List Row → Option Bool
colours_in rows = option_and_then colours_named (first_of (codes "color") rows)

-- text has colours, and no other format
abbrev pub on_terminal : Format → Format
on_terminal text = terminal
on_terminal terminal = terminal
on_terminal lines = lines
on_terminal json = json
on_terminal github = github
on_terminal sarif = sarif
on_terminal gitlab = gitlab

abbrev pub format_by : Format → Bool → Format
format_by format colours = if colours then on_terminal format else format

-- by `--format` and `--color`
abbrev pub report_format_in : List Row → Option Format
report_format_in rows = option_and_then (λ format. option_map (format_by format) (colours_in rows)) (format_in rows)

-- with what else was found
abbrev pub lint_with : List Row → Format → Lint
lint_with rows report_format = record {
  references = references_in rows;
  functions = known_functions rows;
  ignored = ignored_in rows;
  locale = locale_in rows;
  notes = is_given (codes "notes") rows || is_selecting rows;
  counts = is_given (codes "counts") rows;
  strict = is_given (codes "strict") rows;
  format = report_format;
  files = values_in (codes "PATH") rows;
}

-- the code that is to be explained
abbrev pub code_of : Text → Option Text
code_of name = if is_finding_code name then Some name else None

abbrev pub explained_in : List Row → Option Text
explained_in rows = option_and_then code_of (first_of (codes "explain") rows)

-- an explanation is asked for, of a code or of anything else
abbrev pub asks_explanation : List Row → Bool
asks_explanation rows = is_some (first_of (codes "explain") rows)

-- the codes are those of findings, messages can call the functions, and there is what is counted
abbrev pub are_sound_names : List Row → Bool
are_sound_names rows = are_known rows && (list_all is_function_name (functions_in rows) && has_what_it_counts rows)

-- and no explanation is asked for
abbrev pub is_sound : List Row → Bool
is_sound rows = not (asks_explanation rows) && are_sound_names rows

-- With anything else nothing is asked for, nor with another format or choice of colours.
abbrev pub lint_in : List Row → Option Lint
lint_in rows = if is_sound rows then option_map (lint_with rows) (report_format_in rows) else None

-- the value of `--color` leaves colours to the screen
abbrev pub is_left_open : List Row → Bool
is_left_open rows = option_map_or (λ s. bytes_eq s (codes "auto")) (first_of (codes "color") rows) false

-- the same for a report in colours or not
abbrev pub in_format : Format → Lint → Lint
in_format report_format l = record {
  references = l.references;
  functions = l.functions;
  ignored = l.ignored;
  locale = l.locale;
  notes = l.notes;
  counts = l.counts;
  strict = l.strict;
  format = report_format;
  files = l.files;
}

-- by what a screen shows, if the words leave that open
abbrev pub shown_by : Bool → Lint → Lint
shown_by colours l = in_format (format_by l.format colours) l

abbrev pub lint_on : Bool → List Row → Option Lint
lint_on colours rows = option_map (shown_by (colours && is_left_open rows)) (lint_in rows)
