-- Comments that leave findings out: `# lint-ignore: CODE, CODE` those of the next message or term, `##` those of its section, and
-- `###` those of the file.
use Rattle.std.specs.Prelude.{ℕ, ◌+◌, ◌==◌, nat_eq, nat_le, nat_lt, Bool, true, false, not, ◌&&◌, ◌||◌, if◌then◌else◌, List, [], ◌∷◌, ◌++◌, length, drop, filter, map, Option, Some, None, is_some, codes}
use Rattle.std.specs.List.{list_any, slice_split, starts_with}
use Rattle.std.specs.Str.{bytes_eq, trim}
use Rattle.fluent_grammar.specs.Words.{Text, begins, begins_entry, begins_with, is_among, number_sign}
use Rattle.lint_findings.specs.Finding.{Finding, warning}
use Rattle.fluent_lint.specs.Lone.{of_file}
use Rattle.fluent_lint.specs.Pairs.{by_place}
use Rattle.fluent_lint.specs.declared.scopes.Scope.{Scope}
use Rattle.fluent_lint.specs.declared.scopes.Scope.TheVariants as of
use Rattle.fluent_lint.specs.declared.looked.Looked.{Looked}
use Rattle.fluent_lint.specs.declared.original.Original.{Original}
use Rattle.fluent_lint.specs.declared.original.Original.TheVariants as original
use Rattle.fluent_plurals.specs.declared.plurals.LanguagePlurals.{LanguagePlurals}

-- A comment leaves out the findings of a code that are from an offset on, and before another one.
pub record Silence : Type 0 where
  -- the offset of its line
  pub at : ℕ
  pub from : ℕ
  pub to : ℕ
  pub code : Text

-- ---- the lines of a source

abbrev pub lines : Text → List Text
lines source = slice_split (λ byte. byte == 10) source

-- the offset after a line that begins at one
abbrev pub after_line : ℕ → Text → ℕ
after_line at line = (at + length line) + 1

-- a line of a group comment
abbrev pub is_group : Text → Bool
is_group line = begins_with number_sign line && (begins_with number_sign (drop 1 line) && not (begins_with number_sign (drop 2 line)))

-- a line at which a message or a term begins
abbrev pub is_start : Text → Bool
is_start line = begins begins_entry line && not (begins_with number_sign line)

-- Where the next message or term ends, of lines from an offset on: where the one after it begins, or else after all of them.
abbrev pub entry_end : Bool → ℕ → List Text → ℕ
entry_end is_met at [] = at
entry_end is_met at (l ∷ ls) =
    if is_met && is_start l then at else entry_end (is_met || is_start l) (after_line at l) ls

-- Where a section ends: where the next group comment begins, or else after all lines. The lines that come first may be those of its own.
abbrev pub section_end : Bool → ℕ → List Text → ℕ
section_end is_own at [] = at
section_end is_own at (l ∷ ls) =
    if not is_own && is_group l then at else section_end (is_own && is_group l) (after_line at l) ls

-- ---- comments

-- a text after this front, if it begins with it
abbrev pub after_front : Text → Text → Option Text
after_front front line = if starts_with nat_eq line front then Some (drop (length front) line) else None

abbrev pub or_else : {X : Type 0} → Option X → Option X → Option X
or_else None other = other
or_else (Some x) other = Some x

abbrev pub in_scope : Scope → Option Text → Option (Scope × Text)
in_scope scope None = None
in_scope scope (Some list) = Some (scope, list)

-- what a line leaves out, and the list of codes
abbrev pub silencing : Text → Option (Scope × Text)
silencing line =
    or_else (in_scope of.Entry (after_front (codes "# lint-ignore:") line))
    (or_else (in_scope of.Section (after_front (codes "## lint-ignore:") line))
    (in_scope of.File (after_front (codes "### lint-ignore:") line)))

-- the codes of a list, with commas between them
abbrev pub between_commas : Text → List Text
between_commas list = slice_split (λ byte. byte == 44) list

abbrev pub listed : Text → List Text
listed list = map trim (between_commas list)

-- by where a line begins and ends, what lines follow, and where the file ends
abbrev pub scope_start : Scope → ℕ → ℕ
scope_start of.Entry at = at
scope_start of.Section at = at
scope_start of.File at = 0

abbrev pub scope_end : Scope → ℕ → List Text → ℕ → ℕ
scope_end of.Entry next ls end = entry_end false next ls
scope_end of.Section next ls end = section_end true next ls
scope_end of.File next ls end = end

abbrev pub made_of : ℕ → ℕ → ℕ → Text → Silence
made_of at from to code = record { at = at; from = from; to = to; code = code }

abbrev pub silenced_codes : ℕ → ℕ → ℕ → Text → List Silence
silenced_codes at from to list = map (made_of at from to) (listed list)

abbrev pub of_silencing : ℕ → ℕ → ℕ → List Text → Option (Scope × Text) → List Silence
of_silencing end at next ls None = []
of_silencing end at next ls (Some (scope, list)) = silenced_codes at (scope_start scope at) (scope_end scope next ls end) list

-- those of lines from an offset on, in a file that ends at one
abbrev pub silences_from : ℕ → ℕ → List Text → List Silence
silences_from end at [] = []
silences_from end at (l ∷ ls) = of_silencing end at (after_line at l) ls (silencing l) ++ silences_from end (after_line at l) ls

-- those of a source
abbrev pub silences : Text → List Silence
silences source = silences_from (length source + 1) 0 (lines source)

-- ---- what they leave out

-- No comment leaves out what can't be read.
abbrev pub unsilenced : List Text
unsilenced = codes "syntax" ∷ codes "byte-order-mark" ∷ []

abbrev pub is_inside : Silence → ℕ → Bool
is_inside s offset = nat_le s.from offset && nat_lt offset s.to

abbrev pub silences_finding : Silence → Finding → Bool
silences_finding s f = bytes_eq f.code s.code && (is_inside s f.offset && not (is_among f.code unsilenced))

abbrev pub is_silenced : List Silence → Finding → Bool
is_silenced ss f = list_any (λ s. silences_finding s f) ss

-- ---- those that leave nothing out

-- codes that findings have only then
abbrev pub plural_codes : List Text
plural_codes = codes "missing-category" ∷ codes "unknown-category" ∷ codes "unused-category" ∷ []

abbrev pub difference_codes : List Text
difference_codes =
    codes "missing-value" ∷ codes "missing-attribute" ∷ codes "obsolete-value" ∷ codes "obsolete-attribute" ∷ codes "unknown-variable"
    ∷ codes "missing-variable" ∷ codes "unused-variable" ∷ codes "obsolete-message" ∷ codes "untranslated"
    ∷ codes "variant-lacks-variable" ∷ codes "plural-dropped" ∷ codes "term-as-text"
    ∷ codes "broken-tag" ∷ codes "unbalanced-element" ∷ codes "unknown-element" ∷ codes "missing-element" ∷ codes "missing-l10n-name"
    ∷ codes "unknown-l10n-name" ∷ codes "broken-entity" ∷ codes "long-access-key" ∷ codes "long-key" ∷ codes "changed-style"
    ∷ codes "access-key-not-in-label" ∷ codes "changed-url" ∷ codes "changed-placeholder" ∷ codes "changed-number" ∷ codes "edge-space"
    ∷ codes "double-space" ∷ codes "doubled-word" ∷ codes "final-punctuation" ∷ codes "three-dots" ∷ codes "unpaired-quote" ∷ codes "straight-quote"
    ∷ codes "empty-text" ∷ codes "long-text" ∷ []

abbrev pub gap_codes : List Text
gap_codes = codes "missing-message" ∷ codes "obsolete-file" ∷ []

abbrev pub is_looked_for : Looked → Text → Bool
is_looked_for looked code =
    (looked.plurals || not (is_among code plural_codes))
    && ((looked.differences || not (is_among code difference_codes)) && (looked.gaps || not (is_among code gap_codes)))

-- in a file of a language that may have plural rules, by what the file is translated from
abbrev pub is_compared : Original → Bool
is_compared (original.File i) = true
is_compared original.Lacking = false
is_compared original.Unasked = false

abbrev pub looked_in : Option LanguagePlurals → Original → Looked
looked_in plurals o = record { plurals = is_some plurals; differences = is_compared o; gaps = is_compared o }

abbrev pub silences_any : Silence → List Finding → Bool
silences_any s fs = list_any (λ f. silences_finding s f) fs

-- its code is looked for, and it leaves out none of these findings
abbrev pub is_unused : Looked → List Finding → Silence → Bool
is_unused looked fs s = is_looked_for looked s.code && not (silences_any s fs)

abbrev pub unused_finding : Silence → Finding
unused_finding s = of_file warning (codes "unused-ignore") s.at (codes "`" ++ (s.code ++ codes "` has nothing to ignore here"))

-- ---- what is left

-- Of findings those that no comment leaves out, and the comments that leave nothing out, by place.
abbrev pub unused_among : Looked → List Finding → List Silence → List Finding
unused_among looked fs ss = map unused_finding (filter (is_unused looked fs) ss)

abbrev pub left_by : Looked → List Silence → List Finding → List Finding
left_by looked ss fs = by_place (filter (λ f. not (is_silenced ss f)) fs ++ unused_among looked fs ss)

abbrev pub heard_by : Looked → List Silence → List Finding → List Finding
heard_by looked [] fs = fs
heard_by looked (s ∷ ss) fs = left_by looked (s ∷ ss) fs

-- of the findings of a source
abbrev pub heard : Looked → Text → List Finding → List Finding
heard looked source fs = heard_by looked (silences source) fs

-- or all, if comments don't count
abbrev pub heard_if : Option Looked → Text → List Finding → List Finding
heard_if None source fs = fs
heard_if (Some looked) source fs = heard looked source fs
