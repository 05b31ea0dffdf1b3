-- What may be said of a text beside that of the reference, and of which piece of it.
use Rattle.std.specs.Prelude.{ℕ, Bool, true, false, if◌then◌else◌, List, [], ◌∷◌, ◌++◌, Option, Some, None, codes}
use Rattle.fluent_grammar.specs.Words.{Text, is_among}
use Rattle.lint_findings.specs.Finding.{Remark, remark, note, warning}
use Rattle.lint_findings.specs.NearNames.{nearest_hint}
use Rattle.lint_findings.specs.Runs.{piece}
use Rattle.lint_findings.specs.SyntaxErrors.{in_backticks}

-- the sign that ends a sentence
pub data Sign : Type 0 where
  ellipsis : Sign
  colon_sign : Sign
  full_stop : Sign

-- a space at the beginning or the end of a text: of the reference, or of the text alone
pub data Edge : Type 0 where
  lost_first : Edge
  new_first : Edge
  lost_last : Edge
  new_last : Edge

pub data Doubt : Type 0 where
  -- of tags: none has an end; an element that is none of these; one that is opened more often than closed, or less often
  broken_tag : Doubt
  unknown_element : List Text → Text → Doubt
  unclosed : Text → Doubt
  unopened : Text → Doubt
  missing_element : Text → Doubt
  -- of names of elements: one that is none of these, and one that is missing
  unknown_name : List Text → Text → Doubt
  missing_name : Text → Doubt
  -- an entity without its end; the reference has these
  broken_entity : List Text → Text → Doubt
  -- of attributes: texts of more than one character, the style of the reference, and an access key that the label hasn't
  long_access_key : Text → Doubt
  long_key : Text → Doubt
  changed_style : Text → Doubt
  lost_key : ℕ → Doubt
  -- what the reference has: the end of a host, a placeholder, and a number; and a placeholder that it hasn't
  changed_url : Text → Doubt
  lost_placeholder : Text → Doubt
  new_placeholder : Text → Doubt
  changed_number : Text → Doubt
  -- how it is typed
  edge_space : Edge → Doubt
  double_space : Doubt
  doubled_word : Doubt
  three_dots : Doubt
  straight_quote : Doubt
  unpaired_quote : Text → Doubt
  lost_sign : Sign → Doubt
  -- the text is empty, or a variant is; and it is much longer
  empty_text : Doubt
  empty_variant : Doubt
  long_text : Doubt

-- A doubt, and the piece that it is at. If that is empty, it is at the text.
pub record Spotted : Type 0 where
  pub doubt : Doubt
  pub piece : Text

-- at the front of an end of a text
abbrev pub spotted_at : Text → Doubt → Spotted
spotted_at s d = record { doubt = d; piece = piece s }

-- at the whole text
abbrev pub on_text : Doubt → Spotted
on_text d = record { doubt = d; piece = [] }

-- ---- in words

abbrev pub entity_hint : List Text → Text → Option Text
entity_hint known name = if is_among name known then Some (codes "did you mean `&" ++ (name ++ codes ";`?")) else None

abbrev pub edge_words : Edge → Text
edge_words lost_first = codes "the reference begins with a space"
edge_words new_first = codes "the text begins with a space"
edge_words lost_last = codes "the reference ends with a space"
edge_words new_last = codes "the text ends with a space"

abbrev pub sign_words : Sign → Text
sign_words ellipsis = codes "the reference ends with an ellipsis"
sign_words colon_sign = codes "the reference ends with a colon"
sign_words full_stop = codes "the reference ends with a full stop"

abbrev pub naming_text : Text → Text
naming_text n = codes "`data-l10n-name=\"" ++ (n ++ codes "\"`")

abbrev pub the_reference_has : Text → Text
the_reference_has s = codes "the reference has " ++ in_backticks s

abbrev pub doubt_remark : Doubt → Remark
doubt_remark broken_tag = remark warning (codes "broken-tag") (codes "this tag has no end")
doubt_remark (unknown_element known x) =
    record (remark warning (codes "unknown-element") (codes "the reference has no element " ++ in_backticks x))
    { hint = nearest_hint [] (λ name. is_among name known) x }
doubt_remark (unclosed x) = remark warning (codes "unbalanced-element") (codes "`<" ++ (x ++ codes ">` isn't closed"))
doubt_remark (unopened x) = remark warning (codes "unbalanced-element") (codes "`</" ++ (x ++ codes ">` closes nothing"))
doubt_remark (missing_element x) = remark note (codes "missing-element") (codes "the reference has an element " ++ in_backticks x)
doubt_remark (unknown_name known n) =
    record (remark warning (codes "unknown-l10n-name") (codes "the reference has no " ++ naming_text n))
    { hint = nearest_hint [] (λ name. is_among name known) n }
doubt_remark (missing_name n) = remark warning (codes "missing-l10n-name") (codes "the reference has " ++ naming_text n)
doubt_remark (broken_entity known name) =
    record (remark warning (codes "broken-entity") (codes "`&" ++ (name ++ codes "` has no `;`")))
    { hint = entity_hint known name }
doubt_remark (long_access_key s) =
    remark warning (codes "long-access-key") (in_backticks s ++ codes " has more than one character")
doubt_remark (long_key s) = remark warning (codes "long-key") (in_backticks s ++ codes " has more than one character")
doubt_remark (changed_style s) = remark warning (codes "changed-style") (the_reference_has s)
doubt_remark (lost_key k) =
    remark note (codes "access-key-not-in-label") (in_backticks (k ∷ []) ++ codes " isn't in the label")
doubt_remark (changed_url host) =
    remark note (codes "changed-url") (codes "the reference has an address of " ++ in_backticks host)
doubt_remark (lost_placeholder s) = remark note (codes "changed-placeholder") (the_reference_has s)
doubt_remark (new_placeholder s) = remark note (codes "changed-placeholder") (codes "the reference has no " ++ in_backticks s)
doubt_remark (changed_number s) = remark note (codes "changed-number") (the_reference_has s)
doubt_remark (edge_space e) = remark note (codes "edge-space") (edge_words e)
doubt_remark double_space = remark note (codes "double-space") (codes "two spaces")
doubt_remark doubled_word = remark note (codes "doubled-word") (codes "a word stands here twice")
doubt_remark three_dots = remark note (codes "three-dots") (codes "the reference has `" ++ (0xE2 ∷ 0x80 ∷ 0xA6 ∷ codes "`"))
doubt_remark straight_quote = remark note (codes "straight-quote") (codes "the reference has `" ++ (0xE2 ∷ 0x80 ∷ 0x9C ∷ codes "`"))
doubt_remark (unpaired_quote s) = remark note (codes "unpaired-quote") (in_backticks s ++ codes " has no partner")
doubt_remark (lost_sign s) = remark note (codes "final-punctuation") (sign_words s)
doubt_remark empty_text = remark note (codes "empty-text") (codes "the text is empty")
doubt_remark empty_variant = remark note (codes "empty-text") (codes "a variant is empty")
doubt_remark long_text = remark note (codes "long-text") (codes "five times as long as the reference")
