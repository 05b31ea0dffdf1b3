-- Texts of calls, computed.
use Rattle.std.proofs.Common.{◌≡◌, [], ◌∷◌, refl, codes}
use Rattle.fluent_number.specs.Number.{number_from_integer}
use Rattle.std.specs.Char.{encode_utf8}
use Rattle.std.specs.Prelude.{Some, false, pos}
use Rattle.std.specs.Fmt.{digits}
use Rattle.fluent_number.specs.Digits.{last_digits}
use Rattle.fluent_number.specs.Text.{number_text}
use Rattle.fluent_value.specs.Value.{text, number, custom, none, error}
use Rattle.fluent_date.specs.Options.{no_options}
use Rattle.fluent_date.specs.declared.date_time.FluentDateTime.{FluentDateTime}
use Rattle.serde_json.proofs.OnLiterals.{serde_json_on_literals}
use Rattle.fluent_calls.specs.Calls.{call_text}

-- 28 November 2026, a quarter past eight in the evening, an hour ahead of UTC
abbrev evening : FluentDateTime
evening = record {
  date = record { year = pos 2026; month = 11; day = 28 };
  time = Some (record { hour = 20; minute = 15; second = 0; nanosecond = 0 });
  offset = Some (record { is_negative = false; seconds = 3600 });
  options = no_options;
}

without_arguments : call_text (codes "PLATFORM") [] [] ≡ codes "[\"PLATFORM\",[],{}]"
unfolding serde_json_on_literals
without_arguments = refl

with_a_text : call_text (codes "DATETIME") (text (codes "2026-11-28") ∷ []) ((codes "dateStyle", text (codes "long")) ∷ []) ≡ codes "[\"DATETIME\",[\"2026-11-28\"],{\"dateStyle\":\"long\"}]"
unfolding serde_json_on_literals
with_a_text = refl

with_others : call_text (codes "F") (number (number_from_integer (pos 3)) ∷ none ∷ error ∷ []) [] ≡ codes "[\"F\",[{\"number\":\"3\"},null,null],{}]"
unfolding serde_json_on_literals number_text digits last_digits
with_others = refl

with_a_date : call_text (codes "F") (custom evening ∷ []) [] ≡ codes "[\"F\",[{\"date\":\"2026-11-28T20:15:00+01:00\"}],{}]"
unfolding serde_json_on_literals encode_utf8
with_a_date = refl

with_escapes : call_text (codes "F") (text (codes "a\"\\\n") ∷ []) [] ≡ codes "[\"F\",[\"a\\\"\\\\\\n\"],{}]"
unfolding serde_json_on_literals
with_escapes = refl

-- each name is there once, in the order of their bytes
with_two : call_text (codes "F") [] ((codes "a", text (codes "x")) ∷ (codes "b", text []) ∷ []) ≡ codes "[\"F\",[],{\"a\":\"x\",\"b\":\"\"}]"
unfolding serde_json_on_literals
with_two = refl
