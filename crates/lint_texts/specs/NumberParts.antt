-- How the code goes through a text to its numbers, and what it says of them.
use Rattle.std.specs.Prelude.{ℕ, ◌-◌, ◌==◌, if◌then◌else◌, List, [], ◌∷◌, length, map, max, min}
use Rattle.std.specs.List.{prefix_len}
use Rattle.fluent_grammar.specs.Words.{Text, begins, is_digit}
use Rattle.lint_findings.specs.Comparison.{without}
use Rattle.lint_findings.specs.Doubts as d
use Rattle.lint_findings.specs.Numbers as n
use Rattle.lint_markup.specs.InCode.{texts_in}
use Rattle.lint_nodes.specs.declared.name_set.Names.{Names}
use Rattle.lint_texts.specs.InCode.{number_view}
use Rattle.lint_texts.specs.declared.numbers.Number.{Number}

-- the number at the front
abbrev pub if_number : Text → List n.Number
if_number s = if begins is_digit s then n.number_at s ∷ [] else []

-- how many bytes are passed: its digits, an address, or else one byte
abbrev pub passed_len : Text → ℕ
passed_len s = if prefix_len is_digit s == 0 then max (n.address_len s) 1 else prefix_len is_digit s

-- the zeros at the front, but for the last digit
abbrev pub zeros_len : Text → ℕ
zeros_len s = min (prefix_len (λ c. c == 48) s) (length s - 1)

-- of the numbers of a text with these digits, beside those that are known
abbrev pub numbers_between : List n.Number → List Text → List Text → List d.Spotted
numbers_between mine digits known =
    let gone = without known digits in
    if n.are_changed gone (without digits known) then n.first_gone known mine gone else []

abbrev pub numbers_beside : List Number → Names → Names → List d.Spotted
numbers_beside mine digits known = numbers_between (map number_view mine) (texts_in digits) (texts_in known)

-- beside those of the reference
abbrev pub numbers_changed : List Number → List Number → List d.Spotted
numbers_changed mine theirs = numbers_between (map number_view mine) (n.digits_of (map number_view mine)) (n.digits_of (map number_view theirs))

-- the first of those that are gone
abbrev pub first_gone_in : Names → List Number → List Text → List d.Spotted
first_gone_in known mine gone = n.first_gone (texts_in known) (map number_view mine) gone
