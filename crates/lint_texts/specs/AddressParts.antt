-- How the code finds addresses, and what it says of them.
use Rattle.std.specs.Prelude.{ℕ, ◌&&◌, if◌then◌else◌, List, drop, map}
use Rattle.fluent_grammar.specs.Words.{Text, begins_with}
use Rattle.lint_findings.specs.Addresses as a
use Rattle.lint_findings.specs.Comparison.{without}
use Rattle.lint_findings.specs.Doubts as d
use Rattle.lint_markup.specs.InCode.{texts_in}
use Rattle.lint_nodes.specs.declared.name_set.Names.{Names}
use Rattle.lint_texts.specs.InCode.{address_view}
use Rattle.lint_texts.specs.declared.addresses.Address.{Address}

-- how many bytes stand before the host of the address at the front, 0 if there is none
abbrev pub beginning_len : Text → ℕ
beginning_len s = if begins_with a.at_sign s && a.has_dot (drop 1 s) then 1 else a.scheme_len s

-- of the addresses of a text with these hosts, beside those that are known
abbrev pub urls_between : List a.Address → List Text → List Text → List d.Spotted
urls_between mine hosts known = a.first_gone known mine (without known hosts)

abbrev pub urls_beside : List Address → Names → Names → List d.Spotted
urls_beside mine hosts known = urls_between (map address_view mine) (texts_in hosts) (texts_in known)

-- beside those of the reference
abbrev pub urls_changed : List Address → List Address → List d.Spotted
urls_changed mine theirs = urls_between (map address_view mine) (a.hosts (map address_view mine)) (a.hosts (map address_view theirs))
