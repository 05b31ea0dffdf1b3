-- What each misuse of a function of the library means, and what its hint says, as statements.
use Rattle.std.specs.Prelude.{◌≡◌, ◌≢◌, [], All, Some}
use Rattle.std.specs.List.{Contains}
use Rattle.fluent_grammar.specs.Escapes.{unescaped}
use Rattle.fluent_grammar.specs.Words.{Text}
use Rattle.fluent_grammar.specs.Tree as t
use Rattle.fluent_grammar.specs.Tree.{Inline, Nameds}
use Rattle.lint_findings.specs.Builtins.{Builtin, FunctionOption, Takes, a_number, one_of, builtins}
use Rattle.lint_findings.specs.Misuses.{Misuse, unknown_option, takes_number, takes_text, unknown_value, overruled, call_misuses, misuse_hint}
use Rattle.lint_findings.specs.NearLaws.{AsksFor}

-- ---- calls and rows

-- Named arguments have one of this name and value.
pub data HasNamed : Nameds → Text → Inline → Type 0 where
  this : {name : Text} {e : Inline} {ns : Nameds} → HasNamed (t.named name e ns) name e
  later : {name other : Text} {e f : Inline} {ns : Nameds} → HasNamed ns name e → HasNamed (t.named other f ns) name e

-- this is the row of the function of a name
abbrev pub IsRowOf : Text → Builtin → Type 0
IsRowOf id row = Contains builtins row × (row.name ≡ id)

-- a row has an option of this name, which takes that
abbrev pub HasOption : Builtin → Text → Takes → Type 0
HasOption row name takes = (o : FunctionOption) × Contains row.options o × (o.name ≡ name) × (o.takes ≡ takes)

-- the function of a name has such an option
abbrev pub FunctionHas : Text → Text → Takes → Type 0
FunctionHas id name takes = (row : Builtin) × IsRowOf id row × HasOption row name takes

-- ---- misuses

-- What is so if a call of the function of this name, with these named arguments, has this misuse.
abbrev pub IsMisusedSo : Text → Nameds → Misuse → Type 0
IsMisusedSo id ns (unknown_option row name) =
    IsRowOf id row × (e : Inline) × HasNamed ns name e × ((takes : Takes) → HasOption row name takes → ⊥)
IsMisusedSo id ns (takes_number name) = (raw : Text) × HasNamed ns name (t.string_literal raw) × FunctionHas id name a_number
IsMisusedSo id ns (takes_text name) =
    (x : Text) × HasNamed ns name (t.number_literal x) × (takes : Takes) × FunctionHas id name takes × (takes ≢ a_number)
IsMisusedSo id ns (unknown_value name values raw s) =
    HasNamed ns name (t.string_literal raw) × (s ≡ unescaped raw) × FunctionHas id name (one_of values) × (Contains values s → ⊥)
IsMisusedSo id ns (overruled name style) =
    (row : Builtin) × IsRowOf id row × (e : Inline) × HasNamed ns name e × Contains row.components name
    × (f : Inline) × HasNamed ns style f × Contains row.styles style

-- Each misuse that a call is said to have is one.
abbrev pub MisusesAreTrue : Type 0
MisusesAreTrue = (id : Text) (ns : Nameds) → All (IsMisusedSo id ns) (call_misuses id ns)

-- ---- hints

-- A hint names an option of the function, or a text that the option takes.
abbrev pub SaysOfMisuse : Misuse → Text → Type 0
SaysOfMisuse (unknown_option row name) hint = AsksFor (λ option. (takes : Takes) × HasOption row option takes) [] name hint
SaysOfMisuse (takes_number name) hint = ⊥
SaysOfMisuse (takes_text name) hint = ⊥
SaysOfMisuse (unknown_value name values raw s) hint = AsksFor (Contains values) [] s hint
SaysOfMisuse (overruled name style) hint = ⊥

-- What the hint of each misuse says is so.
abbrev pub MisuseHintsAreSo : Type 0
MisuseHintsAreSo = (misuse : Misuse) (hint : Text) → misuse_hint misuse ≡ Some hint → SaysOfMisuse misuse hint
