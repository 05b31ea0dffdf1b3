-- Laws of spelling and reading, as statements: reading gives a node and a rest exactly if the node is spelled up to
-- that rest; so a text begins with at most one node of a kind.
use Rattle.std.specs.Prelude.{◌≡◌, ◌↔◌, ◌<◌, ◌≤◌, ℕ, Bool, true, List, length, Some}
use Rattle.fluent_grammar.specs.Words.{Text, begins, begins_with, is_letter, hyphen, number_sign, open_brace, dot, skip_spaces, after_line_end, skip_blank, rest_of_line}
use Rattle.fluent_grammar.specs.Lexical.{SpellsBlankInline, SpellsLineEnd, SpellsBlank, SpellsRestOfLine, SpellsName, SpellsNumber, SpellsString, SpellsAccessor, SpellsKey, SpellsLiteral, SpellsText}
use Rattle.fluent_grammar.specs.Refusal.{Reading, got}
use Rattle.fluent_grammar.specs.Reading.{identifier_at, number_at, string_content, accessor_at, key_at, literal_at, text_run, readers, placeable_at, pattern_at, attribute_at, attributes_at, message_at, term_entry_at, comment_at, entry_at}
use Rattle.fluent_grammar.specs.Spelling.{SpellsInline, SpellsArguments, SpellsPlaceable, SpellsVariants, SpellsPattern, SpellsPieces, SpellsLine, SpellsAttribute, SpellsAttributes, SpellsEntry}
use Rattle.fluent_grammar.specs.Tree as t

-- On the texts that meet a condition, a reader gives a node and a rest exactly if the node is spelled up to the rest.
abbrev pub AgreeWhere : {A : Type 0} → (Text → Type 0) → (Text → Reading A) → (A → Text → Text → Type 0) → Type 0
AgreeWhere {A} Holds read Spells = (s : Text) (node : A) (rest : Text) → Holds s → ((read s ≡ got node rest) ↔ Spells node s rest)

-- on every text
abbrev pub Agree : {A : Type 0} → (Text → Reading A) → (A → Text → Text → Type 0) → Type 0
Agree {A} read Spells = (s : Text) (node : A) (rest : Text) → (read s ≡ got node rest) ↔ Spells node s rest

-- A text begins with at most one node, and one rest follows it.
abbrev pub Unique : {A : Type 0} → (A → Text → Text → Type 0) → Type 0
Unique {A} Spells = (s : Text) (one other : A) (rest end : Text) → Spells one s rest → Spells other s end → (one ≡ other) × (rest ≡ end)

-- ---- words

-- what is skipped as blank inline, as a line end or as blank is spelled so, and the other way round
abbrev pub BlankInlineAgrees : Type 0
BlankInlineAgrees = (s rest : Text) → (skip_spaces s ≡ rest) ↔ ((blank : Text) × SpellsBlankInline blank s rest)

abbrev pub LineEndsAgree : Type 0
LineEndsAgree = (s rest : Text) → (after_line_end s ≡ Some rest) ↔ SpellsLineEnd s rest

abbrev pub BlankAgrees : Type 0
BlankAgrees = (s rest : Text) → (skip_blank s ≡ rest) ↔ ((blank : Text) × SpellsBlank blank s rest)

abbrev pub RestsOfLinesAgree : Type 0
RestsOfLinesAgree = (s line rest : Text) → (rest_of_line s ≡ (line, rest)) ↔ SpellsRestOfLine line s rest

abbrev pub NamesAgree : Type 0
NamesAgree = Agree identifier_at SpellsName

abbrev pub NumbersAgree : Type 0
NumbersAgree = Agree number_at SpellsNumber

-- after the opening quote
abbrev pub StringsAgree : Type 0
StringsAgree = Agree string_content SpellsString

abbrev pub AccessorsAgree : Type 0
AccessorsAgree = Agree accessor_at SpellsAccessor

abbrev pub KeysAgree : Type 0
KeysAgree = Agree key_at SpellsKey

abbrev pub LiteralsAgree : Type 0
LiteralsAgree = Agree literal_at SpellsLiteral

abbrev pub TextPiecesAgree : Type 0
TextPiecesAgree = Agree text_run SpellsText

-- ---- expressions and patterns, read by more levels than the text has bytes

abbrev pub ExpressionsAgree : Type 0
ExpressionsAgree = (n : ℕ) → AgreeWhere (λ s. length s < n) (readers n).inline SpellsInline

-- one level of its own and those of what stands inside; the opening brace is seen before
abbrev pub PlaceablesAgree : Type 0
PlaceablesAgree = (n : ℕ) → AgreeWhere (λ s. (length s ≤ n) × (begins_with open_brace s ≡ true)) (placeable_at (readers n)) SpellsPlaceable

-- after the opening parenthesis and blank, and after named arguments of these names
abbrev pub ArgumentsAgree : Type 0
ArgumentsAgree = (n : ℕ) (names : List Text) → AgreeWhere (λ s. length s < n) ((readers n).arguments names) (SpellsArguments names)

-- after the line end of a select and blank, if the default was marked before, or not yet
abbrev pub VariantsAgree : Type 0
VariantsAgree = (n : ℕ) (marked : Bool) → AgreeWhere (λ s. length s < n) ((readers n).variants marked) (SpellsVariants marked)

abbrev pub PatternsAgree : Type 0
PatternsAgree = (n : ℕ) → AgreeWhere (λ s. length s ≤ n) (pattern_at (readers n)) SpellsPattern

-- pieces from a line start on, and from within a line on
abbrev pub LinesAgree : Type 0
LinesAgree = (n : ℕ) → AgreeWhere (λ s. length s < n) (readers n).line SpellsLine

abbrev pub PiecesAgree : Type 0
PiecesAgree = (n : ℕ) → AgreeWhere (λ s. length s < n) (readers n).pieces SpellsPieces

-- ---- entries

-- the dot is seen before
abbrev pub AttributesAgree : Type 0
AttributesAgree = AgreeWhere (λ s. begins_with dot (skip_spaces s) ≡ true) attribute_at SpellsAttribute

-- as many attributes as there are, in as many steps as the text has bytes
abbrev pub RunsOfAttributesAgree : Type 0
RunsOfAttributesAgree = (n : ℕ) (s : Text) (attributes : List t.Attribute) (rest : Text) → length s ≤ n →
    ((attributes_at n s ≡ (attributes, rest)) ↔ SpellsAttributes attributes s rest)

abbrev pub MessagesAgree : Type 0
MessagesAgree = AgreeWhere (λ s. begins is_letter s ≡ true) message_at SpellsEntry

abbrev pub TermsAgree : Type 0
TermsAgree = AgreeWhere (λ s. begins_with hyphen s ≡ true) term_entry_at SpellsEntry

abbrev pub CommentsAgree : Type 0
CommentsAgree = AgreeWhere (λ s. begins_with number_sign s ≡ true) comment_at SpellsEntry

abbrev pub EntriesAgree : Type 0
EntriesAgree = Agree entry_at SpellsEntry

-- ---- at most one node and one rest

abbrev pub ExpressionsAreUnique : Type 0
ExpressionsAreUnique = Unique SpellsInline

abbrev pub PlaceablesAreUnique : Type 0
PlaceablesAreUnique = Unique SpellsPlaceable

abbrev pub ArgumentsAreUnique : Type 0
ArgumentsAreUnique = (names : List Text) → Unique (SpellsArguments names)

abbrev pub VariantsAreUnique : Type 0
VariantsAreUnique = (marked : Bool) → Unique (SpellsVariants marked)

abbrev pub PatternsAreUnique : Type 0
PatternsAreUnique = Unique SpellsPattern

abbrev pub LinesAreUnique : Type 0
LinesAreUnique = Unique SpellsLine

abbrev pub PiecesAreUnique : Type 0
PiecesAreUnique = Unique SpellsPieces

abbrev pub AttributesAreUnique : Type 0
AttributesAreUnique = Unique SpellsAttribute

abbrev pub RunsOfAttributesAreUnique : Type 0
RunsOfAttributesAreUnique = Unique SpellsAttributes

abbrev pub EntriesAreUnique : Type 0
EntriesAreUnique = Unique SpellsEntry
