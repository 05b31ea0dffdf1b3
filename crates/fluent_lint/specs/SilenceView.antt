-- Comments that leave findings out, as the code has them.
use Rattle.std.specs.Prelude.{◌≡◌, ℕ, List, ◌++◌, Option, None, Some, Vec, filter, map, not}
use Rattle.std.specs.Global.{Global}
use Rattle.std.specs.Str.{trim}
use denote.Ref.{Bor}
use Rattle.fluent_grammar.specs.Words.{Text}
use Rattle.fluent_resource.specs.Sources.{texts}
use Rattle.fluent_lint.specs.Silence as s
use Rattle.fluent_lint.specs.Silence.{after_line, heard_if, is_silenced, left_by, made_of, of_silencing, silencing, unused_among}
use Rattle.fluent_lint.specs.declared.looked.Looked.{Looked}
use Rattle.fluent_lint.specs.declared.scopes.Scope.{Scope}
use Rattle.fluent_lint.specs.declared.silence.Silence.{Silence}
use Rattle.lint_findings.specs.View.{finding_view}
use Rattle.lint_findings.specs.declared.records.Finding.{Finding}
use Rattle.lint_findings.specs.Finding as f

abbrev pub silence_view : Silence → s.Silence
silence_view silence = record { at = silence.at; from = silence.from; to = silence.to; code = silence.code.now }

abbrev pub silences_view : List Silence → List s.Silence
silences_view silences = map silence_view silences

abbrev pub silencing_view : Option (Scope × Bor Text) → Option (Scope × Text)
silencing_view None = None
silencing_view (Some (scope, list)) = Some (scope, list.now)

-- these are added after the others
abbrev pub AddsSilences : Vec Silence Global → Vec Silence Global → List s.Silence → Type 0
AddsSilences old new added = silences_view new.items ≡ silences_view old.items ++ added

-- those of a line that begins at an offset, before others, in a file that ends at one
abbrev pub AddsLine : ℕ → ℕ → Text → List (Bor Text) → Vec Silence Global → Vec Silence Global → Type 0
AddsLine end at line rest old new = AddsSilences old new (of_silencing end at (after_line at line) (texts rest) (silencing line))

-- those of these codes, which may have spaces around them
abbrev pub AddsCodes : ℕ → ℕ → ℕ → List (Bor Text) → Vec Silence Global → Vec Silence Global → Type 0
AddsCodes at from to codes old new = AddsSilences old new (map (made_of at from to) (map trim (texts codes)))

-- ---- findings

abbrev pub found_view : List Finding → List f.Finding
found_view found = map finding_view found

-- these become what the comments of a source leave of them
abbrev pub Hears : Option Looked → Text → Vec Finding Global → Vec Finding Global → Type 0
Hears looked source old new = found_view new.items ≡ heard_if looked source (found_view old.items)

-- these become what these comments leave of them
abbrev pub LeavesOut : Looked → List Silence → Vec Finding Global → Vec Finding Global → Type 0
LeavesOut looked silences old new = found_view new.items ≡ left_by looked (silences_view silences) (found_view old.items)

-- these become those of them that none of these comments leaves out
abbrev pub AreUnsilenced : List Silence → Vec Finding Global → Vec Finding Global → Type 0
AreUnsilenced silences old new =
    found_view new.items ≡ filter (λ (f : f.Finding). not (is_silenced (silences_view silences) f)) (found_view old.items)

-- these are the findings of the comments that leave none of these out
abbrev pub AreUnused : Looked → List Silence → List Finding → Vec Finding Global → Type 0
AreUnused looked silences found unused = found_view unused.items ≡ unused_among looked (found_view found) (silences_view silences)
