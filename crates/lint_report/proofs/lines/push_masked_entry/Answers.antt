use Rattle.std.proofs.Common.{◌∙◌, ap, sym, ◌++◌, string_bytes, option_map, codes, append-nil}
use Rattle.std.proofs.lemmas.Str.{chars-nil, IsUtf8-string_bytes}
use Rattle.std.specs.Str.{encode_utf8_all}
use Rattle.std.specs.Prelude.{map}
use Rattle.lint_findings.specs.ShownLine.{masked_character, masked_text}
use Rattle.lint_report.specs.View.{entry_label}
use Rattle.lint_report.proofs.Characters.{pushed_second, masked_entry}
use Rattle.lint_report.proofs.lines.push_masked_entry.Goals as goal

pub returns-in_ok-push_masked-in-Some : goal.returns-in_ok-push_masked-in-Some
returns-in_ok-push_masked-in-Some c =
    pushed_second c.push_str.result (string_bytes c.push_str.new.self) (string_bytes c.push_masked.new.text) (string_bytes c.args.text.now)
    (masked_text c.deref.result.now) (codes ": ") (masked_text (entry_label (option_map string_bytes c.args.entry.now)))
    c.push_str.ensures.bytes c.in_ok-push_masked-in-Some.ensures
    (ap (λ e. masked_text (entry_label (option_map string_bytes e))) c.in-Some.is
    ∙ masked_entry (string_bytes c.in-Some.entry) (IsUtf8-string_bytes c.in-Some.entry)
    ∙ ap (λ t. masked_text t ++ codes ": ") (sym c.deref.ensures))

pub returns-in-None : goal.returns-in-None
returns-in-None c =
    sym (append-nil (string_bytes c.args.text.now))
    ∙ ap (λ cs. string_bytes c.args.text.now ++ encode_utf8_all (map masked_character cs)) (sym chars-nil)
    ∙ ap (λ e. string_bytes c.args.text.now ++ masked_text (entry_label (option_map string_bytes e))) (sym c.in-None.is)
