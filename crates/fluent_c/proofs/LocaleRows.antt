-- Which locales are those of a program that has set none, by computing.
use Rattle.std.proofs.Common.{◌≡◌, refl, codes, true, false, []}
use Rattle.fluent_c.specs.Locales.{has_rules, is_posix}

alone : is_posix (codes "C") ≡ true
alone = refl

posix : is_posix (codes "POSIX") ≡ true
posix = refl

with_utf8 : is_posix (codes "C.UTF-8") ≡ true
with_utf8 = refl

as_listed : is_posix (codes "C.utf8") ≡ true
as_listed = refl

posix_with_utf8 : is_posix (codes "POSIX.UTF-8") ≡ true
posix_with_utf8 = refl

posix_as_listed : is_posix (codes "POSIX.utf8") ≡ true
posix_as_listed = refl

no_dash : is_posix (codes "C.UTF8") ≡ true
no_dash = refl

small_letters : is_posix (codes "c.utf-8") ≡ true
small_letters = refl

another_codeset : is_posix (codes "C.UTF-16") ≡ false
another_codeset = refl

more_of_a_codeset : is_posix (codes "C.UTF-8x") ≡ false
more_of_a_codeset = refl

no_codeset : is_posix (codes "C.") ≡ false
no_codeset = refl

a_language : is_posix (codes "cs.UTF-8") ≡ false
a_language = refl

no_name : is_posix [] ≡ false
no_name = refl

own_rules : has_rules (codes "pt-AO") ≡ true
own_rules = refl

rules_of_the_root : has_rules (codes "oc") ≡ false
rules_of_the_root = refl

rules_of_posix : has_rules (codes "C.UTF-8") ≡ true
rules_of_posix = refl

no_tag : has_rules (codes "pl pl") ≡ false
no_tag = refl
