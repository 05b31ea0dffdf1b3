-- Whether all values of an option are so, as they are lent to a test.
use Rattle.std.proofs.Common.{◌≡◌, ◌∙◌, Bool, List, [], ◌∷◌, ◌&&◌, Bor, refl, sym, ap}
use Rattle.std.specs.List.{list_all}
use Rattle.clap.specs.Words.{Text}
use Rattle.ftl_arguments.specs.Meaning.{texts}

module _ (is_so : Text → Bool) where
  of_texts : (names : List (Bor Text)) → list_all (λ (name : Bor Text). is_so name.now) names ≡ list_all is_so (texts names)
  of_texts [] = refl
  of_texts (name ∷ names) = ap (λ b. is_so name.now && b) (of_texts names)

  pub all_so : (names lent : List (Bor Text)) (given : List Text) (b : Bool) → lent ≡ names → texts names ≡ given
      → b ≡ list_all (λ (name : Bor Text). is_so name.now) lent → list_all is_so given ≡ b
  all_so names lent given b same are is =
      ap (list_all is_so) (sym are) ∙ sym (of_texts names) ∙ ap (list_all (λ (name : Bor Text). is_so name.now)) (sym same) ∙ sym is
