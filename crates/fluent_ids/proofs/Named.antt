-- The first attribute of a name, looked for from the front.
use Rattle.std.proofs.Common.{◌≡◌, ℕ, ◌+◌, ◌<◌, ◌≤◌, true, false, cond, List, length, map, drop, get_or, Option, Some, None, refl, ap, ◌∙◌, add-one, drop-cons}
use Rattle.std.specs.Str.{bytes_eq}
use Rattle.std.proofs.lemmas.List.{drop_all}
use denote.Ref.{Bor}
use Rattle.fluent_ast.specs.View.{attribute_view}
use Rattle.fluent_ast.specs.declared.Attribute.{Attribute}
use Rattle.fluent_grammar.specs.Tree as t
use Rattle.fluent_ids.specs.Attributes.{first_named}

module _ (name : List ℕ) (items : List (Attribute (Bor (List ℕ)))) (i : ℕ) where
  abbrev plain : Attribute (Bor (List ℕ)) → t.Attribute
  plain = attribute_view _ (λ s. s.now)

  abbrev left : ℕ → Option t.Attribute
  left n = first_named name (map plain (drop n items))

  next : (item : Attribute (Bor (List ℕ))) → i < length items → item ≡ get_or items i item → left i ≡ cond (bytes_eq item.id.name.now name) (Some (plain item)) (left (i + 1))
  next item inside is = ap (λ as'. first_named name (map plain as')) (drop-cons items i item inside) ∙ rw (← is, add-one) refl

  -- the first that is left has that name
  pub named_here : (item : Attribute (Bor (List ℕ))) → i < length items → item ≡ get_or items i item → bytes_eq item.id.name.now name ≡ true → left i ≡ Some (plain item)
  named_here item inside is same = next item inside is ∙ ap (λ b. cond b (Some (plain item)) (left (i + 1))) same

  -- it has another
  pub named_later : (item : Attribute (Bor (List ℕ))) → i < length items → item ≡ get_or items i item → bytes_eq item.id.name.now name ≡ false → left i ≡ left (i + 1)
  named_later item inside is other = next item inside is ∙ ap (λ b. cond b (Some (plain item)) (left (i + 1))) other

  -- none is left
  pub none_named : length items ≤ i → left i ≡ None
  none_named past = rw (drop_all i items past) refl
