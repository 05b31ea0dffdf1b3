-- What the getters of matches read, in words of the rows that were found.
use Rattle.std.proofs.Common.{◌≡◌, ◌∙◌, Bool, false, List, [], Option, Some, None, Bor, IfOk, IfErr, ap, refl, sym, codes}
use Rattle.std.specs.Option.{option_map, option_map_or, option_eq, ok_or, unwrap_or}
use Rattle.std.specs.Str.{bytes_eq}
use Rattle.clap.specs.Words.{Text, all_of, first_of, first_value, matched_of, raw_values, rows_of}
use Rattle.clap.specs.declared.parser.matches.Found.{Found}
use Rattle.clap.proofs.WalkLemmas.{first_value-rows, raw_values-rows}
use Rattle.ftl_arguments.specs.Found.{file_in}
use Rattle.ftl_arguments.specs.Meaning.{texts}

-- a value that is compared with a word
pub given : (same : Bor Text → Bor Text → Bool) → ((a b : Bor Text) → same a b ≡ bytes_eq a.now b.now)
    → (o : Option (Bor Text)) (t : Bor Text) (word : Text) → t.now ≡ word → (f : Found) (name : Text)
    → option_map (λ s. s.now) o ≡ first_value f name
    → option_eq same o (Some t) ≡ option_map_or (λ s. bytes_eq s word) (first_of name (rows_of f)) false
given same is o t word is_word f name found =
    compared o ∙ ap (λ v. option_map_or (λ s. bytes_eq s word) v false) (found ∙ first_value-rows f name)
  where
    compared : (o : Option (Bor Text)) → option_eq same o (Some t) ≡ option_map_or (λ s. bytes_eq s word) (option_map (λ s. s.now) o) false
    compared None = refl
    compared (Some s) = is s t ∙ ap (bytes_eq s.now) is_word

module _ {E : Type 0} (error : E) (f : Found) where
  -- the first value of `FILE`, or the error
  pub one : (o : Option (Bor Text)) → option_map (λ s. s.now) o ≡ first_value f (codes "FILE")
      → IfOk (ok_or o error) (λ file. file_in (rows_of f) ≡ Some file.now)
  one None found = tt
  one (Some s) found = sym (found ∙ first_value-rows f (codes "FILE"))

  pub no_one : (o : Option (Bor Text)) → option_map (λ s. s.now) o ≡ first_value f (codes "FILE")
      → IfErr (ok_or o error) (λ _. file_in (rows_of f) ≡ None)
  no_one None found = sym (found ∙ first_value-rows f (codes "FILE"))
  no_one (Some s) found = tt

  pub told : (o : Option (Bor Text)) → IfErr (ok_or o error) (λ e. e ≡ error)
  told None = refl
  told (Some s) = tt

-- all values of an argument, or none
pub all : (name : Text) (o : Option (Bor (List (Bor Text)))) (none : Bor (List (Bor Text))) → none.now ≡ [] → (f : Found)
    → option_map (λ s. texts s.now) o ≡ option_map raw_values (matched_of f name)
    → texts (unwrap_or o none).now ≡ unwrap_or (all_of name (rows_of f)) []
all name o none empty f found =
    read o ∙ ap (λ (v : Option (List Text)). unwrap_or v []) (found ∙ raw_values-rows f name)
  where
    read : (o : Option (Bor (List (Bor Text)))) → texts (unwrap_or o none).now ≡ unwrap_or (option_map (λ s. texts s.now) o) []
    read None = ap texts empty
    read (Some s) = refl
