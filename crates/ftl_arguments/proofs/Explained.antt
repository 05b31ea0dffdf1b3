-- Where an explanation is asked for, no command is.
use Rattle.std.proofs.Common.{◌≡◌, Bool, true, false, List, Option, None, Some, ap, codes, not, refl, subst, sym, ◌&&◌}
use Rattle.std.specs.Prelude.{if◌then◌else◌, is_some, option_and_then, option_map}
use Rattle.std.specs.Cmp.Lexicographic.{same_text}
use Rattle.std.specs.Str.{bytes_eq}
use Rattle.std.proofs.lemmas.Bool.{false≢true}
use Rattle.clap.specs.Words.{Row, Text, first_of}
use Rattle.ftl_arguments.specs.Linting.{are_sound_names, code_of, explained_in, is_left_open, lint_with, report_format_in, shown_by}
use Rattle.ftl_arguments.specs.Meaning.{asked_by, asked_of, explained_of, linting}

named : (o : Option Text) → is_some (option_and_then code_of o) ≡ true → is_some o ≡ true
named None h = h
named (Some name) h = refl

unlinted : (colours : Bool) (rows : List Row) → is_some (explained_in rows) ≡ true → asked_by colours (codes "lint", rows) ≡ None
unlinted colours rows h =
    ap (λ asks. option_and_then (linting rows) (option_map (shown_by (colours && is_left_open rows))
    (if not asks && are_sound_names rows then option_map (lint_with rows) (report_format_in rows) else None)))
    (named (first_of (codes "explain") rows) h)

by_name : (colours : Bool) (name : Text) (rows : List Row) (is_lint : Bool) → bytes_eq name (codes "lint") ≡ is_lint →
    is_some (if is_lint then explained_in rows else None) ≡ true → asked_by colours (name, rows) ≡ None
by_name colours name rows true e h =
    subst (λ n. asked_by colours (n, rows) ≡ None) (sym (same_text name (codes "lint") (sym e))) (unlinted colours rows h)
by_name colours name rows false e h = absurd (false≢true h)

pub unasked : (colours : Bool) (found : Option (Text × List Row)) → is_some (explained_of found) ≡ true → asked_of colours found ≡ None
unasked colours None h = absurd (false≢true h)
unasked colours (Some (name, rows)) h = by_name colours name rows (bytes_eq name (codes "lint")) refl h
