use Rattle.std.proofs.Common.{◌≡◌, ◌∙◌, Bool, true, false, if◌then◌else◌, [], refl, ap, map, string_bytes, subst, sym}
use Rattle.std.specs.Result.{IsOk}
use Rattle.std.specs.Str.{IsUtf8, is_utf8}
use Rattle.std.proofs.lemmas.Bool.{false≢true}
use Rattle.std.proofs.lemmas.Result.{IfOk-weaker}
use Rattle.std.proofs.lemmas.Str.{IsUtf8-from_is_utf8, IsUtf8-string_bytes, is_utf8-from_IsUtf8}
use Rattle.fluent_grammar.specs.Words.{Text}
use Rattle.fluent_project.specs.Normal.{in_folder, normal}
use Rattle.fluent_project.specs.Patterns.{filled}
use Rattle.fluent_project.specs.declared.part.Part.TheVariants.{Byte}
use Rattle.ftl_project.specs.Paths.{text_or}
use Rattle.ftl_project.proofs.config.path_in.Goals as goal

abbrev whole : Text → Text → Text
whole folder name = filled [] (normal (in_folder folder (map Byte name))) []

by_test : (path name : Text) (b : Bool) → is_utf8 path ≡ b → (IsUtf8 path → ⊥) → text_or path name ≡ name
by_test path name true is bad = absurd (bad (IsUtf8-from_is_utf8 path is))
by_test path name false is bad = ap (λ b. if b then path else name) is

pub returns-in-Ok : goal.returns-in-Ok
returns-in-Ok c =
    let folder = c.args.folder.now in
    let name = c.args.path.now in
    let made : c.in_ok-path_of.field-0.items ≡ whole folder name =
    c.in_ok-path_of.ensures
    ∙ ap (λ p. filled [] p []) (c.deref-2.ensures.value ∙ c.in_ok-parts.ensures)
    ∙ ap (λ p. filled [] (normal (in_folder c.as_bytes.result.now p)) []) (c.deref.ensures.value ∙ c.in_ok-plain_pattern.ensures)
    ∙ ap (λ f. filled [] (normal (in_folder f (map Byte c.as_bytes-2.result.now))) []) c.as_bytes.ensures.value
    ∙ ap (whole folder) c.as_bytes-2.ensures.value in
    let same : string_bytes c.in-Ok.path ≡ whole folder name = ap (λ v. v.items) c.in-Ok.ensures.ok ∙ made in
    let utf8 : is_utf8 (whole folder name) ≡ true = is_utf8-from_IsUtf8 (whole folder name) (subst IsUtf8 same (IsUtf8-string_bytes c.in-Ok.path)) in
    same ∙ sym (ap (λ b. if b then whole folder name else name) utf8)

pub returns : goal.returns
returns c =
    let folder = c.args.folder.now in
    let name = c.args.path.now in
    let made : c.in_ok-path_of.field-0.items ≡ whole folder name =
    c.in_ok-path_of.ensures
    ∙ ap (λ p. filled [] p []) (c.deref-2.ensures.value ∙ c.in_ok-parts.ensures)
    ∙ ap (λ p. filled [] (normal (in_folder c.as_bytes.result.now p)) []) (c.deref.ensures.value ∙ c.in_ok-plain_pattern.ensures)
    ∙ ap (λ f. filled [] (normal (in_folder f (map Byte c.as_bytes-2.result.now))) []) c.as_bytes.ensures.value
    ∙ ap (whole folder) c.as_bytes-2.ensures.value in
    let bad : IsUtf8 (whole folder name) → ⊥ = λ utf8. false≢true (subst IsOk c.in-Err.is (c.from_utf8.ensures.succeeds (subst IsUtf8 (sym made) utf8))) in
    IfOk-weaker c.from_str.result (λ text. string_bytes text ≡ name) (λ text. string_bytes text ≡ text_or (whole folder name) name)
    (λ text is. is ∙ sym (by_test (whole folder name) name (is_utf8 (whole folder name)) refl bad)) c.from_str.ensures.ok
