-- Texts that are written one after the other.
use Rattle.std.proofs.Common.{◌≡◌, ◌∙◌, ℕ, ◌+◌, Bool, true, false, List, [], ◌∷◌, ◌++◌, length, map, replicate, refl, sym, ap, append_assoc, codes, decimal, Option, drop, ◌-◌}
use Rattle.std.specs.Str.{chars, encode_utf8_all}
use Rattle.std.specs.List.{flat_map}
use Rattle.std.proofs.lemmas.Str.{encodes-append}
use Rattle.std.proofs.lemmas.List.{replicate-append-replicate, map-append}
use Rattle.std.proofs.lemmas.List.Folds.{flat_map-map}
use Rattle.std.proofs.lemmas.List.Concat.{flat_map-append}
use lib.Utf8.{encode}
use Rattle.unicode_width.specs.Width.{char_width}
use Rattle.fluent_grammar.specs.Words.{Text, space}
use Rattle.lint_findings.specs.Position.{Position, line_at, to_line_end}
use Rattle.lint_findings.specs.ShownLine.{character_padding, characters_before, dots_if, masked_character, masked_text, padding, shown_characters, shown_line_by}
use Rattle.lint_findings.specs.View.{file_view, finding_view}
use Rattle.lint_findings.specs.declared.records.Finding.{Finding}
use Rattle.lint_findings.specs.declared.records.File.{File}
use Rattle.lint_findings.specs.PlaceView.{IsAfter}
use Rattle.lint_findings.specs.declared.places.SourcePosition.{SourcePosition}
use Rattle.lint_report.specs.Excerpts.{IsWindow}
use Rattle.lint_report.specs.declared.excerpts.Excerpt.{Excerpt}
use Rattle.lint_report.specs.declared.excerpts.Window.{Window}
use Rattle.lint_report.specs.Texts.{before_finding, caret_line, from_finding, hint_line, masked_excerpt, source_line}
use Rattle.lint_report.specs.View.{IsAt, IsOnLine, optional_text, shown_width}

-- more was written
pub then_more : (new between old first second : Text) → new ≡ between ++ second → between ≡ old ++ first → new ≡ old ++ (first ++ second)
then_more new between old first second is before = is ∙ ap (λ t. t ++ second) before ∙ append_assoc old first second

-- ---- dots

pub dots_bytes : (cut : Bool) → encode_utf8_all (dots_if cut) ≡ dots_if cut
unfolding encode
dots_bytes true = refl
dots_bytes false = refl

pub dots_padding : (cut : Bool) → padding shown_width (dots_if cut) ≡ replicate (length (dots_if cut)) space
unfolding char_width
dots_padding true = refl
dots_padding false = refl

-- ---- what is shown

pub from_is : (e : Excerpt) (shown dots : Text) → shown ≡ e.text.now → dots ≡ dots_if e.is_cut → encode_utf8_all (from_finding e) ≡ masked_text shown ++ dots
from_is e shown dots same is =
    encodes-append (masked_excerpt e) (dots_if e.is_cut)
    ∙ ap (λ t. encode_utf8_all (masked_excerpt e) ++ t) (dots_bytes e.is_cut ∙ sym is)
    ∙ ap (λ t. masked_text t ++ dots) (sym same)

pub source_line_is : (w : Window) →
    source_line w ≡ (codes " | " ++ encode_utf8_all (before_finding w.before) ++ encode_utf8_all (from_finding w.after)) ++ codes "\n"
source_line_is w =
    ap (λ t. codes " | " ++ (t ++ codes "\n")) (encodes-append (before_finding w.before) (from_finding w.after))
    ∙ simp append_assoc

pub padding_is : (e : Excerpt) → padding shown_width (before_finding e) ≡ replicate (length (dots_if e.is_cut)) space ++ padding shown_width (masked_excerpt e)
padding_is e =
    flat_map-append (character_padding shown_width) (dots_if e.is_cut) (masked_excerpt e)
    ∙ ap (λ t. t ++ padding shown_width (masked_excerpt e)) (dots_padding e.is_cut)

abbrev pub padding_piece : ℕ → Text
padding_piece c = character_padding shown_width (masked_character c)

pub padding_pieces : (cs : List ℕ) → padding shown_width (map masked_character cs) ≡ flat_map padding_piece cs
padding_pieces cs = flat_map-map (character_padding shown_width) masked_character cs

pub one_space : (n : ℕ) → replicate n space ++ space ∷ [] ≡ replicate (n + 1) space
one_space n = replicate-append-replicate n 1 space

pub caret_line_is : (digits : ℕ) (e : Excerpt) (caret dots : Text) (len : ℕ) → dots ≡ dots_if e.is_cut → len ≡ length dots →
    caret_line digits e caret
    ≡ ((((replicate digits space ++ codes " | ") ++ replicate len space) ++ padding shown_width (masked_excerpt e)) ++ caret) ++ codes "\n"
caret_line_is digits e caret dots len is count =
    ap (λ t. replicate digits space ++ (codes " | " ++ (t ++ (caret ++ codes "\n")))) (padding_is e
    ∙ ap (λ n. replicate n space ++ padding shown_width (masked_excerpt e)) (sym (count ∙ ap length is)))
    ∙ simp append_assoc

-- ---- the line of a finding

shown_text : Text → ℕ → List ℕ → List ℕ → Option Text → Text
shown_text caret number shown before hint =
    decimal number ++ (codes " | " ++ (encode_utf8_all shown ++ (codes "\n"
    ++ (replicate (length (decimal number)) space ++ (codes " | " ++ (padding shown_width before ++ (caret ++ (codes "\n"
    ++ hint_line (length (decimal number)) hint))))))))

shown_text_is : (caret : Text) (number : ℕ) (w : Window) (hint : Option Text) →
    shown_text caret number (before_finding w.before ++ from_finding w.after) (before_finding w.before) hint
    ≡ ((decimal number ++ source_line w) ++ caret_line (length (decimal number)) w.before caret) ++ hint_line (length (decimal number)) hint
unfolding shown_text
shown_text_is caret number w hint = simp append_assoc

window_characters : (w : Window) → dots_if w.before.is_cut ++ (map masked_character (chars w.before.text.now ++ chars w.after.text.now) ++ dots_if w.after.is_cut)
    ≡ before_finding w.before ++ from_finding w.after
window_characters w =
    ap (λ t. dots_if w.before.is_cut ++ (t ++ dots_if w.after.is_cut)) (map-append masked_character (chars w.before.text.now) (chars w.after.text.now))
    ∙ simp append_assoc

pub shown_line_is : (caret : Text) (file : File) (f : Finding) (place : SourcePosition) (front rest : Text) (w : Window) (number digits : ℕ) →
    IsAt file f place → IsOnLine file f place → to_line_end (drop place.line_start file.source.now) ≡ front ++ to_line_end rest →
    IsAfter front rest (place.column - 1) → IsWindow front rest w → number ≡ place.line → digits ≡ length (decimal number) →
    shown_line_by shown_width caret (file_view file) (finding_view f)
    ≡ ((decimal number ++ source_line w) ++ caret_line digits w.before caret) ++ hint_line digits (optional_text f.hint)
unfolding shown_text
shown_line_is caret file f place front rest w number digits at on line after window same count =
    let hint = optional_text f.hint in
    let characters : chars (line_at file.source.now f.offset) ≡ chars (front ++ to_line_end rest) =
    ap (λ s. chars (to_line_end s)) on.line ∙ ap chars line in
    let both = window (place.column - 1) after in
    ap (λ (p : Position). shown_text caret p.line (shown_characters (chars (line_at file.source.now f.offset)) (p.column - 1))
    (characters_before (chars (line_at file.source.now f.offset)) (p.column - 1)) hint) at
    ∙ ap (λ l. shown_text caret place.line (shown_characters l (place.column - 1)) (characters_before l (place.column - 1)) hint) characters
    ∙ ap (λ s. shown_text caret place.line s (characters_before (chars (front ++ to_line_end rest)) (place.column - 1)) hint) (both.0 ∙ window_characters w)
    ∙ ap (λ s. shown_text caret place.line (before_finding w.before ++ from_finding w.after) s hint) both.1
    ∙ ap (λ n. shown_text caret n (before_finding w.before ++ from_finding w.after) (before_finding w.before) hint) (sym same)
    ∙ shown_text_is caret number w hint
    ∙ ap (λ n. ((decimal number ++ source_line w) ++ caret_line n w.before caret) ++ hint_line n hint) (sym count)
