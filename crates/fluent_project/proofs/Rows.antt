-- The definitions at a few values, by computing.
use Rattle.std.proofs.Common.{◌≡◌, true, false, [], ◌∷◌, refl, codes}
use Rattle.std.specs.Prelude.{Ok, Err}
use Rattle.fluent_project.specs.declared.part.Part.TheVariants.{Byte, Locale, Wildcard}
use Rattle.fluent_project.specs.declared.part.Wildcard.TheVariants.{Star, Folders, Rest}
use Rattle.fluent_project.specs.Patterns.{filled, suit}
use Rattle.fluent_project.specs.Taking.{taken, takes}
use Rattle.fluent_project.specs.Written.{pattern_parts}

-- `{ locale }/**/a` and `a**`
folders : pattern_parts [] (codes "{ locale }/**/a") ≡ Ok (Locale ∷ Byte 47 ∷ Wildcard Folders ∷ Byte 97 ∷ [])
folders = refl

two_stars : pattern_parts [] (codes "a**") ≡ Ok (Byte 97 ∷ Wildcard Star ∷ Wildcard Star ∷ [])
two_stars = refl

all_below : pattern_parts ((codes "l", Locale ∷ []) ∷ []) (codes "{l}**") ≡ Ok (Locale ∷ Wildcard Rest ∷ [])
all_below = refl

no_variable : pattern_parts [] (codes "a{l}/b") ≡ Err (codes "l}/b")
no_variable = refl

-- `{locale}/**/a` for `de`
below : takes (codes "de") (Locale ∷ Byte 47 ∷ Wildcard Folders ∷ Byte 97 ∷ []) (codes "de/x/y/a") ≡ true
below = refl

no_folder : takes (codes "de") (Locale ∷ Byte 47 ∷ Wildcard Folders ∷ Byte 97 ∷ []) (codes "de/xa") ≡ false
no_folder = refl

its_folders : taken (codes "de") (Locale ∷ Byte 47 ∷ Wildcard Folders ∷ Byte 97 ∷ []) (codes "de/x/y/a") ≡ codes "x/y/" ∷ []
its_folders = refl

put_in : filled (codes "pl") (Byte 47 ∷ Wildcard Folders ∷ Locale ∷ []) (codes "x/y/" ∷ []) ≡ codes "/x/y/pl"
put_in = refl

no_folders : suit (Wildcard Folders ∷ []) (codes "x" ∷ []) ≡ false
no_folders = refl

-- `*-*`: the first takes as much as it can
longest_first : taken [] (Wildcard Star ∷ Byte 45 ∷ Wildcard Star ∷ []) (codes "a-b-c") ≡ codes "a-b" ∷ codes "c" ∷ []
longest_first = refl
