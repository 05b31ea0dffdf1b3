-- Lines that are put after one another.
use Rattle.std.proofs.Common.{◌≡◌, ◌∙◌, ℕ, ◌+◌, ◌<◌, ◌≤◌, List, ◌∷◌, ◌++◌, length, drop, get_or, map, ap, sym, append_assoc, append-nil, drop-cons, add-one}
use Rattle.std.proofs.lemmas.List.{drop_all}
use Rattle.std.proofs.lemmas.List.Folds.{flat_map-map}
use Rattle.std.specs.List.{flat_map}
use Rattle.fluent_grammar.specs.Words.{Text}
use Rattle.fluent_parsed.specs.ErrorView.{ErrorView}
use Rattle.fluent_check.specs.Report.{error_line, errors_text}

-- With the lines of what is left, the lines of all stand after the old text. `line` is what an item shows.
module _ {X : Type 0} (line : X → Text) (xs : List X) (old : Text) where
  abbrev pub LinesSoFar : ℕ → Text → Type 0
  LinesSoFar done text = text ++ flat_map line (drop done xs) ≡ old ++ flat_map line xs

  pub lines_next : (done : ℕ) (d : X) (text more : Text) → done < length xs → LinesSoFar done text → more ≡ text ++ line (get_or xs done d) →
      LinesSoFar (done + 1) more
  lines_next done d text more within so_far pushed =
      rw (add-one, pushed, append_assoc) (ap (λ rest. text ++ flat_map line rest) (sym (drop-cons xs done d within)) ∙ so_far)

  pub lines_at_last : (done : ℕ) (text : Text) → length xs ≤ done → LinesSoFar done text → text ≡ old ++ flat_map line xs
  lines_at_last done text over so_far = sym (append-nil text) ∙ ap (λ rest. text ++ flat_map line rest) (sym (drop_all done xs over)) ∙ so_far

-- what items show by what they stand for
pub by_views : {X V : Type 0} (line : V → Text) (view : X → V) (xs : List X) (old text : Text) → text ≡ old ++ flat_map (λ x. line (view x)) xs →
    text ≡ old ++ flat_map line (map view xs)
by_views line view xs old text is = is ∙ ap (λ lines. old ++ lines) (sym (flat_map-map line view xs))

-- the same, of the errors of sources
module _ {X : Type 0} (view : X → List ErrorView) (xs : List X) (old : Text) where
  abbrev pub SourcesSoFar : ℕ → Text → Type 0
  SourcesSoFar done text = text ++ errors_text (done + 1) (map view (drop done xs)) ≡ old ++ errors_text 1 (map view xs)

  pub sources_next : (done : ℕ) (d : X) (text more : Text) → done < length xs → SourcesSoFar done text →
      more ≡ text ++ flat_map (error_line (done + 1)) (view (get_or xs done d)) → SourcesSoFar (done + 1) more
  sources_next done d text more within so_far pushed =
      let left : drop done xs ≡ get_or xs done d ∷ drop (done + 1) xs = rw add-one (drop-cons xs done d within) in
      rw (pushed, append_assoc) (ap (λ rest. text ++ errors_text (done + 1) (map view rest)) (sym left) ∙ so_far)

  pub sources_at_last : (done : ℕ) (text : Text) → length xs ≤ done → SourcesSoFar done text → text ≡ old ++ errors_text 1 (map view xs)
  sources_at_last done text over so_far =
      sym (append-nil text) ∙ ap (λ rest. text ++ errors_text (done + 1) (map view rest)) (sym (drop_all done xs over)) ∙ so_far
