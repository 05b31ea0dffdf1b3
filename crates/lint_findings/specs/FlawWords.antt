-- The words for what is wrong with a pattern.
use Rattle.std.specs.Prelude.{[], ◌∷◌, ◌++◌, Some, None, codes}
use Rattle.fluent_grammar.specs.Words.{Text, hyphen, dot, dollar}
use Rattle.fluent_grammar.specs.Tree as t
use Rattle.fluent_errors.specs.Errors.{unknown, no_value, missing_default, cyclic, too_many_placeables, Reference, to_function, to_message, to_term, to_variable}
use Rattle.lint_findings.specs.SyntaxErrors.{in_backticks}
use Rattle.lint_findings.specs.Flaws.{Flaw, unresolved, duplicate_key}
use Rattle.lint_findings.specs.Finding.{error, warning, Remark, remark}

-- an attribute that an entry with this sign and id lacks
abbrev pub attribute_text : Text → Text → Text → Text
attribute_text sign id name = codes "there is no attribute " ++ in_backticks (sign ++ (id ++ dot ∷ name))

abbrev pub attribute_words : Text → Text → Text → Remark
attribute_words sign id name = remark error (codes "unknown-attribute") (attribute_text sign id name)

-- a reference to something that is missing
abbrev pub unknown_words : Reference → Remark
-- only the program knows its functions
unknown_words (to_function id) = remark warning (codes "unknown-function") (codes "there is no function " ++ in_backticks id)
unknown_words (to_message id None) = remark error (codes "unknown-message") (codes "there is no message " ++ in_backticks id)
unknown_words (to_message id (Some a)) = attribute_words [] id a
unknown_words (to_term id None) = remark error (codes "unknown-term") (codes "there is no term " ++ in_backticks (hyphen ∷ id))
unknown_words (to_term id (Some a)) = attribute_words (hyphen ∷ []) id a
unknown_words (to_variable id) =
    remark error (codes "unknown-variable") (codes "there is no variable " ++ in_backticks (dollar ∷ id))

abbrev pub key_text : t.VariantKey → Text
key_text (t.identifier_key s) = s
key_text (t.number_key s) = s

-- a flaw, without its hint
abbrev pub flaw_words : Flaw → Remark
flaw_words (unresolved (unknown reference)) = unknown_words reference
flaw_words (unresolved (no_value id)) =
    remark error (codes "no-value") (codes "the message `" ++ (id ++ codes "` has no value"))
flaw_words (unresolved missing_default) =
    remark error (codes "no-default") (codes "no variant is the default, since a `*` has no variant after it")
flaw_words (unresolved cyclic) = remark error (codes "cyclic-reference") (codes "the references never end")
flaw_words (unresolved too_many_placeables) = remark error (codes "too-many-placeables") (codes "too many placeables")
flaw_words (duplicate_key k) =
    remark warning (codes "duplicate-variant") (codes "an earlier variant has the key " ++ in_backticks (key_text k))
