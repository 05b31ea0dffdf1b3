-- What some words ask for, by computing. How `clap` reads options, and what it refuses, is in `tests/rows`, too.
use Rattle.std.proofs.Common.{◌≡◌, List, [], ◌∷◌, true, false, Option, Some, None, refl, codes}
use Rattle.clap.specs.Words.{Text, subcommand_of}
use Rattle.clap.specs.declared.error.kind.ErrorKind.TheVariants.{MissingRequiredArgument, UnknownArgument}
use Rattle.clap.proofs.OnLiterals.{clap_on_literals}
use Rattle.lint_findings.specs.Output.{json, terminal, text}
use Rattle.lint_findings.specs.Report.{text_codes}
use Rattle.ftl_arguments.specs.Meaning.{AskForHelpAlone, AskForVersionAlone, check, clean, command_of, explained_of, faults_of, format, join, lint, lint_input, lint_project, run, status, tidy, tidy_files, tidy_input}
use Rattle.ftl_arguments.specs.Commands.{program_app}
use Rattle.ftl_arguments.specs.Linting.{finding_codes}
use Rattle.ftl_arguments.specs.Projects.{markdown}

no_file : faults_of (codes "run" ∷ codes "--overriding" ∷ []) ≡ MissingRequiredArgument ∷ []
unfolding clap_on_literals program_app
no_file = refl

an_unknown_option : faults_of (codes "run" ∷ codes "-x" ∷ codes "a" ∷ []) ≡ UnknownArgument ∷ []
unfolding clap_on_literals program_app
an_unknown_option = refl

help : AskForHelpAlone (codes "join" ∷ codes "--help" ∷ [])
unfolding clap_on_literals program_app
help = refl

the_version : AskForVersionAlone (codes "--version" ∷ [])
unfolding clap_on_literals program_app
the_version = refl

two_files : command_of false (codes "run" ∷ codes "a" ∷ codes "b-" ∷ [])
    ≡ Some (run (record { isolating = true; overriding = false; locale = None; plain_numbers = false; files = codes "a" ∷ codes "b-" ∷ [] }))
unfolding clap_on_literals program_app
two_files = refl

options_between_files : command_of false (codes "run" ∷ codes "a" ∷ codes "--no-isolating" ∷ codes "--overriding" ∷ codes "b" ∷ [])
    ≡ Some (run (record { isolating = false; overriding = true; locale = None; plain_numbers = false; files = codes "a" ∷ codes "b" ∷ [] }))
unfolding clap_on_literals program_app
options_between_files = refl

a_locale : command_of false (codes "run" ∷ codes "--locale" ∷ codes "pl_PL.UTF-8" ∷ codes "a" ∷ [])
    ≡ Some (run (record { isolating = true; overriding = false; locale = Some (codes "pl_PL.UTF-8"); plain_numbers = false; files = codes "a" ∷ [] }))
unfolding clap_on_literals program_app
a_locale = refl

plain_numbers : command_of false (codes "run" ∷ codes "--plain-numbers" ∷ codes "--locale" ∷ codes "de" ∷ codes "a" ∷ [])
    ≡ Some (run (record { isolating = true; overriding = false; locale = Some (codes "de"); plain_numbers = true; files = codes "a" ∷ [] }))
unfolding clap_on_literals program_app
plain_numbers = refl

files_behind_two_hyphens : command_of false (codes "check" ∷ codes "--" ∷ codes "-a" ∷ codes "--b" ∷ []) ≡ Some (check (codes "-a" ∷ codes "--b" ∷ []))
unfolding clap_on_literals program_app
files_behind_two_hyphens = refl

one_to_clean : command_of false (codes "clean" ∷ codes "a" ∷ []) ≡ Some (tidy (clean (codes "a")))
unfolding clap_on_literals program_app
one_to_clean = refl

two_to_join : command_of false (codes "join" ∷ codes "a" ∷ codes "b" ∷ []) ≡ Some (tidy (join (codes "a" ∷ codes "b" ∷ [])))
unfolding clap_on_literals program_app
two_to_join = refl

one_message : command_of false (codes "format" ∷ codes "login.title" ∷ codes "a" ∷ codes "--argument" ∷ codes "n=-1" ∷ codes "b" ∷ codes "--argument=n=x=y" ∷ [])
    ≡ Some (format (record {
      isolating = true;
      overriding = false;
      locale = None;
      plain_numbers = false;
      request = record { id = codes "login"; attribute = Some (codes "title"); arguments = (codes "n", codes "-1") ∷ (codes "n", codes "x=y") ∷ [] };
      files = codes "a" ∷ codes "b" ∷ [];
    }))
unfolding clap_on_literals program_app
one_message = refl

a_message_with_options : command_of false (codes "format" ∷ codes "--overriding" ∷ codes "hi" ∷ codes "--locale" ∷ codes "pl" ∷ codes "--no-isolating" ∷ codes "a" ∷ [])
    ≡ Some (format (record {
      isolating = false;
      overriding = true;
      locale = Some (codes "pl");
      plain_numbers = false;
      request = record { id = codes "hi"; attribute = None; arguments = [] };
      files = codes "a" ∷ [];
    }))
unfolding clap_on_literals program_app
a_message_with_options = refl

no_value : command_of false (codes "format" ∷ codes "hi" ∷ codes "a" ∷ codes "--argument" ∷ codes "name" ∷ []) ≡ None
unfolding clap_on_literals program_app
no_value = refl

a_lint : command_of false (codes "lint" ∷ codes "a" ∷ [])
    ≡ Some (lint (record { references = []; functions = codes "DATETIME" ∷ []; ignored = text_codes; locale = None; notes = false; counts = false; strict = false; format = text; files = codes "a" ∷ [] }))
unfolding clap_on_literals program_app
a_lint = refl

a_lint_of_the_input : command_of false (codes "lint" ∷ codes "--strict" ∷ codes "-" ∷ [])
    ≡ Some (lint_input (record { references = []; functions = codes "DATETIME" ∷ []; ignored = text_codes; locale = None; notes = false; counts = false; strict = true; format = text; files = codes "-" ∷ [] }))
unfolding clap_on_literals program_app
a_lint_of_the_input = refl

a_lint_with_options : command_of false (codes "lint" ∷ codes "--reference" ∷ codes "r1" ∷ codes "a" ∷ codes "--notes" ∷ codes "--function=F" ∷ codes "--reference=r2" ∷ codes "--strict" ∷ codes "--locale" ∷ codes "pl_PL.UTF-8" ∷ codes "--function" ∷ codes "G" ∷ codes "--format" ∷ codes "json" ∷ codes "b" ∷ [])
    ≡ Some (lint (record {
      references = codes "r1" ∷ codes "r2" ∷ [];
      functions = codes "F" ∷ codes "G" ∷ codes "DATETIME" ∷ [];
      ignored = text_codes;
      locale = Some (codes "pl_PL.UTF-8");
      notes = true;
      counts = false;
      strict = true;
      format = json;
      files = codes "a" ∷ codes "b" ∷ [];
    }))
unfolding clap_on_literals program_app
a_lint_with_options = refl

in_colours : command_of false (codes "lint" ∷ codes "--color=always" ∷ codes "a" ∷ [])
    ≡ Some (lint (record { references = []; functions = codes "DATETIME" ∷ []; ignored = text_codes; locale = None; notes = false; counts = false; strict = false; format = terminal; files = codes "a" ∷ [] }))
unfolding clap_on_literals program_app
in_colours = refl

on_a_screen : command_of true (codes "lint" ∷ codes "a" ∷ [])
    ≡ Some (lint (record { references = []; functions = codes "DATETIME" ∷ []; ignored = text_codes; locale = None; notes = false; counts = false; strict = false; format = terminal; files = codes "a" ∷ [] }))
unfolding clap_on_literals program_app
on_a_screen = refl

never_on_a_screen : command_of true (codes "lint" ∷ codes "--color=never" ∷ codes "a" ∷ [])
    ≡ Some (lint (record { references = []; functions = codes "DATETIME" ∷ []; ignored = text_codes; locale = None; notes = false; counts = false; strict = false; format = text; files = codes "a" ∷ [] }))
unfolding clap_on_literals program_app
never_on_a_screen = refl

no_colours_in_json : command_of false (codes "lint" ∷ codes "--color" ∷ codes "always" ∷ codes "--format" ∷ codes "json" ∷ codes "a" ∷ [])
    ≡ Some (lint (record { references = []; functions = codes "DATETIME" ∷ []; ignored = text_codes; locale = None; notes = false; counts = false; strict = false; format = json; files = codes "a" ∷ [] }))
unfolding clap_on_literals program_app
no_colours_in_json = refl

no_such_colours : command_of false (codes "lint" ∷ codes "--color" ∷ codes "yes" ∷ codes "a" ∷ []) ≡ None
unfolding clap_on_literals program_app
no_such_colours = refl

no_such_format : command_of false (codes "lint" ∷ codes "--format" ∷ codes "xml" ∷ codes "a" ∷ []) ≡ None
unfolding clap_on_literals program_app
no_such_format = refl

codes_to_ignore : command_of false (codes "lint" ∷ codes "--ignore" ∷ codes "untranslated" ∷ codes "a" ∷ codes "--ignore=no-value" ∷ [])
    ≡ Some (lint (record {
      references = [];
      functions = codes "DATETIME" ∷ [];
      ignored = codes "untranslated" ∷ codes "no-value" ∷ text_codes;
      locale = None;
      notes = false;
      counts = false;
      strict = false;
      format = text;
      files = codes "a" ∷ [];
    }))
unfolding clap_on_literals program_app finding_codes
codes_to_ignore = refl

codes_with_commas : command_of false (codes "lint" ∷ codes "--ignore" ∷ codes "untranslated,no-value" ∷ codes "a" ∷ codes "--ignore=syntax" ∷ [])
    ≡ Some (lint (record {
      references = [];
      functions = codes "DATETIME" ∷ [];
      ignored = codes "untranslated" ∷ codes "no-value" ∷ codes "syntax" ∷ text_codes;
      locale = None;
      notes = false;
      counts = false;
      strict = false;
      format = text;
      files = codes "a" ∷ [];
    }))
unfolding clap_on_literals program_app finding_codes
codes_with_commas = refl

-- the others are left out, and notes are reported
codes_to_select : command_of false (codes "lint" ∷ codes "--select" ∷ codes "untranslated,no-value" ∷ codes "--select" ∷ codes "syntax" ∷ codes "a" ∷ [])
    ≡ Some (lint (record {
      references = [];
      functions = codes "DATETIME" ∷ [];
      ignored = codes "byte-order-mark" ∷ codes "duplicate-id" ∷ codes "unknown-message" ∷ codes "unknown-term" ∷ codes "unknown-attribute" ∷ codes "no-default"
          ∷ codes "cyclic-reference" ∷ codes "unknown-function" ∷ codes "duplicate-attribute" ∷ codes "duplicate-variant" ∷ codes "invalid-escape"
          ∷ codes "unknown-option" ∷ codes "missing-category" ∷ codes "placeable-in-literal" ∷ codes "unknown-term-argument"
          ∷ codes "unknown-term-variant" ∷ codes "unknown-category" ∷ codes "unused-category" ∷ codes "replacement-character"
          ∷ codes "control-character" ∷ codes "zero-width" ∷ codes "unbalanced-direction" ∷ codes "mixed-scripts" ∷ codes "wrong-encoding"
          ∷ codes "unused-term" ∷ codes "missing-message" ∷ codes "missing-value" ∷ codes "missing-attribute" ∷ codes "obsolete-value"
          ∷ codes "obsolete-attribute" ∷ codes "unknown-variable" ∷ codes "missing-variable" ∷ codes "unused-variable" ∷ codes "obsolete-message"
          ∷ codes "variant-lacks-variable" ∷ codes "plural-dropped" ∷ codes "term-as-text" ∷ codes "broken-tag" ∷ codes "unbalanced-element"
          ∷ codes "unknown-element" ∷ codes "missing-element" ∷ codes "missing-l10n-name" ∷ codes "unknown-l10n-name" ∷ codes "broken-entity"
          ∷ codes "long-access-key" ∷ codes "long-key" ∷ codes "changed-style" ∷ codes "access-key-not-in-label" ∷ codes "changed-url"
          ∷ codes "changed-placeholder" ∷ codes "changed-number" ∷ codes "edge-space" ∷ codes "double-space" ∷ codes "doubled-word" ∷ codes "final-punctuation"
          ∷ codes "three-dots" ∷ codes "unpaired-quote" ∷ codes "straight-quote" ∷ codes "empty-text" ∷ codes "long-text" ∷ codes "missing-file"
          ∷ codes "missing-locale" ∷ codes "obsolete-file" ∷ codes "unused-ignore" ∷ [];
      locale = None;
      notes = true;
      counts = false;
      strict = false;
      format = text;
      files = codes "a" ∷ [];
    }))
unfolding clap_on_literals program_app finding_codes
codes_to_select = refl

-- the notes on texts are asked for by the name of their group
the_group_to_select : command_of false (codes "lint" ∷ codes "--select=texts" ∷ codes "a" ∷ [])
    ≡ Some (lint (record {
      references = [];
      functions = codes "DATETIME" ∷ [];
      ignored = codes "syntax" ∷ codes "byte-order-mark" ∷ codes "duplicate-id" ∷ codes "unknown-message" ∷ codes "unknown-term" ∷ codes "unknown-attribute"
          ∷ codes "no-value" ∷ codes "no-default" ∷ codes "cyclic-reference" ∷ codes "unknown-function" ∷ codes "duplicate-attribute"
          ∷ codes "duplicate-variant" ∷ codes "invalid-escape" ∷ codes "unknown-option" ∷ codes "missing-category" ∷ codes "placeable-in-literal"
          ∷ codes "unknown-term-argument" ∷ codes "unknown-term-variant" ∷ codes "unknown-category" ∷ codes "unused-category"
          ∷ codes "replacement-character" ∷ codes "control-character" ∷ codes "zero-width" ∷ codes "unbalanced-direction" ∷ codes "mixed-scripts"
          ∷ codes "wrong-encoding" ∷ codes "unused-term" ∷ codes "missing-message" ∷ codes "missing-value" ∷ codes "missing-attribute"
          ∷ codes "obsolete-value" ∷ codes "obsolete-attribute" ∷ codes "unknown-variable" ∷ codes "missing-variable" ∷ codes "unused-variable"
          ∷ codes "obsolete-message" ∷ codes "untranslated" ∷ codes "variant-lacks-variable" ∷ codes "plural-dropped" ∷ codes "term-as-text"
          ∷ codes "broken-tag" ∷ codes "unbalanced-element" ∷ codes "unknown-element" ∷ codes "missing-element" ∷ codes "missing-l10n-name"
          ∷ codes "unknown-l10n-name" ∷ codes "broken-entity" ∷ codes "long-access-key" ∷ codes "long-key" ∷ codes "changed-style"
          ∷ codes "access-key-not-in-label" ∷ codes "missing-file" ∷ codes "missing-locale" ∷ codes "obsolete-file" ∷ codes "unused-ignore" ∷ [];
      locale = None;
      notes = true;
      counts = false;
      strict = false;
      format = text;
      files = codes "a" ∷ [];
    }))
unfolding clap_on_literals program_app finding_codes
the_group_to_select = refl

abbrev explains : List Text → Option Text
explains words = explained_of (subcommand_of program_app words)

-- what a code means is no command
explained_code : explains (codes "lint" ∷ codes "--explain" ∷ codes "no-value" ∷ []) ≡ Some (codes "no-value")
unfolding clap_on_literals program_app finding_codes
explained_code = refl

no_command : command_of false (codes "lint" ∷ codes "--explain" ∷ codes "no-value" ∷ []) ≡ None
unfolding clap_on_literals program_app
no_command = refl

no_code_to_explain : explains (codes "lint" ∷ codes "--explain" ∷ codes "value" ∷ []) ≡ None
unfolding clap_on_literals program_app finding_codes
no_code_to_explain = refl

no_such_code_among_these : command_of false (codes "lint" ∷ codes "--select" ∷ codes "syntax,value" ∷ codes "a" ∷ []) ≡ None
unfolding clap_on_literals program_app finding_codes
no_such_code_among_these = refl

no_code_behind_a_comma : command_of false (codes "lint" ∷ codes "--ignore" ∷ codes "syntax," ∷ codes "a" ∷ []) ≡ None
unfolding clap_on_literals program_app finding_codes
no_code_behind_a_comma = refl

no_such_code : command_of false (codes "lint" ∷ codes "--ignore" ∷ codes "untranslated" ∷ codes "--ignore" ∷ codes "value" ∷ codes "a" ∷ []) ≡ None
unfolding clap_on_literals program_app finding_codes
no_such_code = refl

counts_of_a_reference : command_of false (codes "lint" ∷ codes "--counts" ∷ codes "--reference" ∷ codes "r" ∷ codes "a" ∷ [])
    ≡ Some (lint (record { references = codes "r" ∷ []; functions = codes "DATETIME" ∷ []; ignored = text_codes; locale = None; notes = false; counts = true; strict = false; format = text; files = codes "a" ∷ [] }))
unfolding clap_on_literals program_app
counts_of_a_reference = refl

counts_of_nothing : command_of false (codes "lint" ∷ codes "--counts" ∷ codes "a" ∷ []) ≡ None
unfolding clap_on_literals program_app
counts_of_nothing = refl

a_name_with_signs : command_of false (codes "lint" ∷ codes "--function" ∷ codes "A_1-B" ∷ codes "a" ∷ [])
    ≡ Some (lint (record { references = []; functions = codes "A_1-B" ∷ codes "DATETIME" ∷ []; ignored = text_codes; locale = None; notes = false; counts = false; strict = false; format = text; files = codes "a" ∷ [] }))
unfolding clap_on_literals program_app
a_name_with_signs = refl

small_letters : command_of false (codes "lint" ∷ codes "--function" ∷ codes "DATETIMe" ∷ codes "a" ∷ []) ≡ None
unfolding clap_on_literals program_app
small_letters = refl

a_digit_first : command_of false (codes "lint" ∷ codes "--function" ∷ codes "F" ∷ codes "--function" ∷ codes "1F" ∷ codes "a" ∷ []) ≡ None
unfolding clap_on_literals program_app
a_digit_first = refl

no_name : command_of false (codes "lint" ∷ codes "--function=" ∷ codes "a" ∷ []) ≡ None
unfolding clap_on_literals program_app
no_name = refl

files_to_check : command_of false (codes "tidy" ∷ codes "--check" ∷ codes "." ∷ []) ≡ Some (tidy_files (record { check = true; paths = codes "." ∷ [] }))
unfolding clap_on_literals program_app
files_to_check = refl

input_to_tidy : command_of false (codes "tidy" ∷ codes "-" ∷ []) ≡ Some (tidy_input false)
unfolding clap_on_literals program_app
input_to_tidy = refl

input_to_check : command_of false (codes "tidy" ∷ codes "-" ∷ codes "--check" ∷ []) ≡ Some (tidy_input true)
unfolding clap_on_literals program_app
input_to_check = refl

a_hyphen_among_files : command_of false (codes "tidy" ∷ codes "a" ∷ codes "-" ∷ [])
    ≡ Some (tidy_files (record { check = false; paths = codes "a" ∷ codes "-" ∷ [] }))
unfolding clap_on_literals program_app
a_hyphen_among_files = refl

the_project_of_the_folder : command_of false (codes "lint" ∷ [])
    ≡ Some (lint_project (record {
      project = record { references = []; files = []; locales = []; variables = [] };
      only = [];
      functions = codes "DATETIME" ∷ [];
      ignored = text_codes;
      baseline = None;
      written = None;
      notes = false;
      strict = false;
      format = text;
    }))
unfolding clap_on_literals program_app
the_project_of_the_folder = refl

a_project_with_options : command_of false (codes "lint" ∷ codes "l10n.toml" ∷ codes "--locale" ∷ codes "de,pl" ∷ codes "--only=de" ∷ codes "--define" ∷ codes "a=b" ∷ [])
    ≡ Some (lint_project (record {
      project = record { references = []; files = codes "l10n.toml" ∷ []; locales = codes "de" ∷ codes "pl" ∷ []; variables = (codes "a", codes "b") ∷ [] };
      only = codes "de" ∷ [];
      functions = codes "DATETIME" ∷ [];
      ignored = text_codes;
      baseline = None;
      written = None;
      notes = false;
      strict = false;
      format = text;
    }))
unfolding clap_on_literals program_app
a_project_with_options = refl

a_project_with_a_baseline : command_of false (codes "lint" ∷ codes "--baseline" ∷ codes "old.jsonl" ∷ codes "--write-baseline=new.jsonl" ∷ [])
    ≡ Some (lint_project (record {
      project = record { references = []; files = []; locales = []; variables = [] };
      only = [];
      functions = codes "DATETIME" ∷ [];
      ignored = text_codes;
      baseline = Some (codes "old.jsonl");
      written = Some (codes "new.jsonl");
      notes = false;
      strict = false;
      format = text;
    }))
unfolding clap_on_literals program_app
a_project_with_a_baseline = refl

patterns_of_a_project : command_of false (codes "status" ∷ codes "--reference" ∷ codes "en/**" ∷ codes "{locale}/**" ∷ codes "--files" ∷ codes "--format=markdown" ∷ [])
    ≡ Some (status (record {
      project = record { references = codes "en/**" ∷ []; files = codes "{locale}/**" ∷ []; locales = []; variables = [] };
      files = true;
      format = markdown;
    }))
unfolding clap_on_literals program_app
patterns_of_a_project = refl

a_reference_of_a_file_of_a_project : command_of false (codes "status" ∷ codes "--reference" ∷ codes "en" ∷ codes "l10n.toml" ∷ []) ≡ None
unfolding clap_on_literals program_app
a_reference_of_a_file_of_a_project = refl

an_option_of_projects : command_of false (codes "lint" ∷ codes "--only" ∷ codes "a" ∷ codes "b" ∷ []) ≡ None
unfolding clap_on_literals program_app
an_option_of_projects = refl

a_baseline_of_files : command_of false (codes "lint" ∷ codes "--baseline" ∷ codes "old.jsonl" ∷ codes "b" ∷ []) ≡ None
unfolding clap_on_literals program_app
a_baseline_of_files = refl

files_are_no_project : command_of false (codes "status" ∷ codes "a.ftl" ∷ []) ≡ None
unfolding clap_on_literals program_app
files_are_no_project = refl
