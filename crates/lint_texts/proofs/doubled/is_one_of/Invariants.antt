use Rattle.std.proofs.Common.{◌≡◌, drop, map}
use Rattle.std.specs.List.{list_any}
use Rattle.std.specs.Str.{str_eq_ignore_ascii_case}
use Rattle.lint_texts.proofs.doubled.is_one_of.Given as goal

-- none so far is the word
abbrev pub invariant-loop-other : goal.invariant-loop-other
invariant-loop-other l =
    list_any (str_eq_ignore_ascii_case l.word) (map (λ s. s.now) (drop l.other-index l.others)) ≡ list_any (str_eq_ignore_ascii_case l.word) (map (λ s. s.now) l.others)
