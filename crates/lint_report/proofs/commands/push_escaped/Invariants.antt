use Rattle.std.proofs.Common.{◌≡◌, ◌++◌, string_bytes}
use Rattle.std.specs.List.{flat_map}
use Rattle.std.specs.Prelude.{encode_utf8}
use Rattle.lint_report.specs.Parts.{part_byte}
use Rattle.lint_report.proofs.commands.push_escaped.Given as goal

abbrev pub invariant-loop-c : goal.invariant-loop-c
invariant-loop-c l =
    string_bytes l.text ≡ string_bytes l.fn.text ++ flat_map (λ c. flat_map (part_byte l.part) (encode_utf8 c)) l.yielded
