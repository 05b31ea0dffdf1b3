-- Named arguments that a function of the library makes nothing of, or not what was meant: by the row of the function.
use Rattle.std.specs.Prelude.{if◌then◌else◌, List, [], ◌++◌, Option, Some, None, codes}
use Rattle.std.specs.Option.{option_to_list}
use Rattle.fluent_grammar.specs.Escapes.{unescaped}
use Rattle.fluent_grammar.specs.Words.{Text, is_among}
use Rattle.fluent_grammar.specs.Tree as t
use Rattle.fluent_grammar.specs.Tree.{Inline, Nameds}
use Rattle.lint_findings.specs.Builtins.{Builtin, Takes, a_number, any_text, one_of, builtin_named, has_option, taken_by}
use Rattle.lint_findings.specs.Finding.{Remark, remark, warning}
use Rattle.lint_findings.specs.NearNames.{nearest_hint}

-- what is wrong with a named argument
pub data Misuse : Type 0 where
  -- the function of this row has no option of this name
  unknown_option : Builtin → Text → Misuse
  -- the option of this name takes a number, and one takes a text
  takes_number : Text → Misuse
  takes_text : Text → Misuse
  -- the option of this name takes one of these texts, and not the one that is written so and read so
  unknown_value : Text → List Text → Text → Text → Misuse
  -- the option of this name doesn't count next to the other, which the call has, too
  overruled : Text → Text → Misuse

-- of an argument with a text, as it is written and as it is read, whose option takes one of these
abbrev pub value_misuse : Text → List Text → Text → Text → Option Misuse
value_misuse name values raw s = if is_among s values then None else Some (unknown_value name values raw s)

-- of an argument with a text, as it is written and as it is read
abbrev pub text_misuse : Text → Takes → Text → Text → Option Misuse
text_misuse name a_number raw s = Some (takes_number name)
text_misuse name any_text raw s = None
text_misuse name (one_of values) raw s = value_misuse name values raw s

-- of an argument with a number
abbrev pub number_misuse : Text → Takes → Option Misuse
number_misuse name a_number = None
number_misuse name any_text = Some (takes_text name)
number_misuse name (one_of values) = Some (takes_text name)

-- of an argument with an option's name, which a source gives a literal
abbrev pub literal_misuse : Text → Takes → Inline → Option Misuse
literal_misuse name takes (t.string_literal raw) = text_misuse name takes raw (unescaped raw)
literal_misuse name takes (t.number_literal x) = number_misuse name takes
literal_misuse name takes _ = None

-- of an argument, by what the option of its name takes
abbrev pub option_misuse : Builtin → Text → Inline → Option Takes → Option Misuse
option_misuse row name e None = Some (unknown_option row name)
option_misuse row name e (Some takes) = literal_misuse name takes e

abbrev pub argument_misuse : Builtin → Text → Inline → Option Misuse
argument_misuse row name e = option_misuse row name e (taken_by row.options name)

-- what is wrong with each of these arguments by itself
abbrev pub misuses_of : (Text → Inline → Option Misuse) → Nameds → List Misuse
misuses_of misuse t.no_nameds = []
misuses_of misuse (t.named name e ns) = option_to_list (misuse name e) ++ misuses_of misuse ns

abbrev pub named_misuses : Builtin → Nameds → List Misuse
named_misuses row ns = misuses_of (argument_misuse row) ns

-- the first argument that has one of these names
abbrev pub first_named : Nameds → List Text → Option Text
first_named t.no_nameds names = None
first_named (t.named name e ns) names = if is_among name names then Some name else first_named ns names

-- of an argument in a call with this style
abbrev pub overruled_by : Builtin → Text → Text → Inline → Option Misuse
overruled_by row style name e = if is_among name row.components then Some (overruled name style) else None

-- of the arguments of a call with this style, if it has one
abbrev pub misuses_beside : Builtin → Option Text → Nameds → List Misuse
misuses_beside row None ns = []
misuses_beside row (Some style) ns = misuses_of (overruled_by row style) ns

abbrev pub overruled_misuses : Builtin → Nameds → List Misuse
overruled_misuses row ns = misuses_beside row (first_named ns row.styles) ns

abbrev pub misuses_by : Option Builtin → Nameds → List Misuse
misuses_by None ns = []
misuses_by (Some row) ns = named_misuses row ns ++ overruled_misuses row ns

-- of a call of the function of this name
abbrev pub call_misuses : Text → Nameds → List Misuse
call_misuses id ns = misuses_by (builtin_named id) ns

-- ---- what is said

abbrev pub misuse_text : Misuse → Text
misuse_text (unknown_option row name) = codes "`" ++ (row.name ++ (codes "` has no option `" ++ (name ++ codes "`")))
misuse_text (takes_number name) = codes "the option `" ++ (name ++ codes "` takes a number, without quotes")
misuse_text (takes_text name) = codes "the option `" ++ (name ++ codes "` takes a text, in quotes")
misuse_text (unknown_value name values raw s) =
    codes "the option `" ++ (name ++ (codes "` has no value `" ++ (raw ++ codes "`")))
misuse_text (overruled name style) =
    codes "the option `" ++ (name ++ (codes "` doesn't count next to `" ++ (style ++ codes "`")))

-- the option or the text that may be meant
abbrev pub misuse_hint : Misuse → Option Text
misuse_hint (unknown_option row name) = nearest_hint [] (has_option row) name
misuse_hint (takes_number name) = None
misuse_hint (takes_text name) = None
misuse_hint (unknown_value name values raw s) = nearest_hint [] (λ value. is_among value values) s
misuse_hint (overruled name style) = None

abbrev pub misuse_remark : Misuse → Remark
misuse_remark misuse = record (remark warning (codes "unknown-option") (misuse_text misuse)) { hint = misuse_hint misuse }
