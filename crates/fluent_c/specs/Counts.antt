-- How many entries of each kind a tree has.
use Rattle.std.specs.Prelude.{◌≡◌, ℕ, Bool, true, false, List, length, map, Result, IfOk}
use Rattle.std.specs.List.{count_by}
use denote.Ref.{Bor}
use Rattle.fluent_syntax.specs.ErrorView.{ErrorView, error_told}
use Rattle.fluent_syntax.specs.Tree as t
use Rattle.fluent_syntax.specs.Tiling.{ParserError}
use Rattle.fluent_syntax.specs.View.{resource_view}
use Rattle.fluent_ast.specs.declared.Resource.{Resource}
use Rattle.fluent_c.specs.declared.counts.FluentCounts.{FluentCounts}

-- a borrowed text, and its bytes
abbrev pub Text : Type 0
Text = Bor (List ℕ)

abbrev pub text_of : Text → List ℕ
text_of s = s.now

-- the entries of a tree over borrowed texts
abbrev pub plain : Resource Text → List t.Entry
plain = resource_view Text text_of

abbrev pub is_message : t.Entry → Bool
is_message (t.message m) = true
is_message (t.term m) = false
is_message (t.comment c) = false
is_message (t.group_comment c) = false
is_message (t.resource_comment c) = false
is_message (t.junk s) = false

abbrev pub is_term : t.Entry → Bool
is_term (t.message m) = false
is_term (t.term m) = true
is_term (t.comment c) = false
is_term (t.group_comment c) = false
is_term (t.resource_comment c) = false
is_term (t.junk s) = false

abbrev pub is_comment : t.Entry → Bool
is_comment (t.message m) = false
is_comment (t.term m) = false
is_comment (t.comment c) = true
is_comment (t.group_comment c) = true
is_comment (t.resource_comment c) = true
is_comment (t.junk s) = false

abbrev pub is_junk : t.Entry → Bool
is_junk (t.message m) = false
is_junk (t.term m) = false
is_junk (t.comment c) = false
is_junk (t.group_comment c) = false
is_junk (t.resource_comment c) = false
is_junk (t.junk s) = true

-- the numbers of the entries
pub record HasEntries (counts : FluentCounts) (es : List t.Entry) : Type 0 where
  pub messages : counts.messages ≡ count_by is_message es
  pub terms : counts.terms ≡ count_by is_term es
  pub comments : counts.comments ≡ count_by is_comment es
  pub junk : counts.junk ≡ count_by is_junk es

-- the numbers of the entries and of the errors
abbrev pub Counted : FluentCounts → List t.Entry → List ParserError → Type 0
Counted counts es errors = HasEntries counts es × (counts.errors ≡ length errors)

-- the counts are those of the tree and the errors that were read
abbrev pub IsCountOf : {E : Type 0} → (List t.Entry → Type 0) → (List ErrorView → Type 0) → Result FluentCounts E → Type 0
IsCountOf IsTree AreErrors result =
    (es : List t.Entry) (errors : List ParserError) → IsTree es → AreErrors (map error_told errors) → IfOk result (λ counts. Counted counts es errors)
