-- Equality of whole trees is equality of plain trees.
use Rattle.std.proofs.Common.{◌≡◌, ℕ, Bool, List, [], ◌∷◌, Option, None, Some, option_map, map, refl, ap, sym, ◌∙◌, nat_eq, Decides}
use Rattle.std.specs.Cmp.Lexicographic.{pointwise}
use Rattle.std.proofs.lemmas.Bool.Decides.{Decides-and, same_from_decides}
use Rattle.std.specs.Cmp.{IsEquivalence}
use Rattle.fluent_ast.specs.Equality.{Compares}
use Rattle.std.specs.declared.cmp.PartialEq
use Rattle.std.specs.contracts.cmp.PartialEq.TheBound
use Rattle.std.specs.contracts.prelude.OptionPartialEq.TheImpl as option_impl
use denote.RattleType.{RattleType}
use mir.Syntax.{Dict}
use Rattle.fluent_grammar.specs.Tree as t
use Rattle.fluent_ast.specs.declared.Attribute.{Attribute}
use Rattle.fluent_ast.specs.declared.Comment.{Comment}
use Rattle.fluent_ast.specs.declared.Message.{Message}
use Rattle.fluent_ast.specs.declared.Term.{Term}
use Rattle.fluent_ast.specs.declared.Entry.{Entry}
use Rattle.fluent_ast.specs.declared.Entry.TheVariants as e
use Rattle.fluent_ast.specs.declared.Resource.{Resource}
use Rattle.fluent_ast.specs.contracts.Comment as comment_type
use Rattle.fluent_ast.specs.contracts.Pattern as pattern_type
use Rattle.fluent_ast.specs.contracts.PatternPartialEq.TheImpl as pattern_impl
use Rattle.fluent_ast.specs.contracts.AttributePartialEq.TheImpl as attribute_impl
use Rattle.fluent_ast.specs.contracts.CommentPartialEq.TheImpl as comment_impl
use Rattle.fluent_ast.specs.contracts.MessagePartialEq.TheImpl as message_impl
use Rattle.fluent_ast.specs.contracts.TermPartialEq.TheImpl as term_impl
use Rattle.fluent_ast.specs.contracts.EntryPartialEq.TheImpl as entry_impl
use Rattle.fluent_ast.specs.contracts.ResourcePartialEq.TheImpl as resource_impl
use Rattle.fluent_ast.specs.View.{attribute_view, comment_view, message_view, term_view, entry_view, resource_view, pattern_view}
use Rattle.fluent_ast.proofs.Equality.{apart, renamed, name_decides, leaf_decides, pattern_decides}

-- two lists, by what the test of two elements decides
list_decides : {A V : Type 0} (test : A → A → Bool) (view : A → V) → ((x y : A) → Decides (test x y) (view x ≡ view y)) → (xs ys : List A) → Decides (pointwise test xs ys) (map view xs ≡ map view ys)
list_decides test view each [] [] = (λ _. refl, λ _. refl)
list_decides test view each [] (y ∷ ys) = apart _ refl (λ h. cc)
list_decides test view each (x ∷ xs) [] = apart _ refl (λ h. cc)
list_decides test view each (x ∷ xs) (y ∷ ys) =
    renamed _ _ refl (λ p. let head = p.0 in let tail = p.1 in cc) (λ h. (cc, cc)) (Decides-and _ _ (each x y) (list_decides test view each xs ys))

-- two optional values, by what the test of two values decides
option_decides : {V : Type 0} (R : RattleType) (G : PartialEq.Ghosts R.Denot) (d : Dict) (view : R.Denot → V) → ((x y : R.Denot) → Decides (G.eq x y) (view x ≡ view y)) → (x y : Option R.Denot) → Decides ((option_impl.ghosts R G d).eq x y) (option_map view x ≡ option_map view y)
option_decides R G d view each None None = (λ _. refl, λ _. refl)
option_decides R G d view each None (Some y) = apart _ refl (λ h. cc)
option_decides R G d view each (Some x) None = apart _ refl (λ h. cc)
option_decides R G d view each (Some x) (Some y) = renamed _ _ refl (λ p. cc) (λ h. cc) (each x y)

-- a test that decides whether two values are seen alike is an equivalence
equivalence_from_view : {A V : Type 0} (test : A → A → Bool) (view : A → V) → ((x y : A) → Decides (test x y) (view x ≡ view y)) → IsEquivalence test
equivalence_from_view test view tells = record {
  refl = λ x. (tells x x).1 refl;
  symm = λ x y. same_from_decides (test x y) (test y x) (tells x y) (renamed _ _ refl sym sym (tells y x));
  congr = λ x y z alike. let is = (tells x y).0 alike in same_from_decides (test x z) (test y z) (tells x z) (renamed _ _ refl (λ p. is ∙ p) (λ p. sym is ∙ p) (tells y z));
}

pub compares : {A V : Type 0} (test : A → A → Bool) (view : A → V) → ((x y : A) → Decides (test x y) (view x ≡ view y)) → Compares test view
compares test view tells = record { equivalence = equivalence_from_view test view tells; plain = tells }

module _ (T : RattleType) (E : PartialEq.Ghosts T.Denot) (dict : Dict) (lawful : TheBound.Lawful T E dict) (text_of : T.Denot → List ℕ) (leaf : (x y : T.Denot) → E.eq x y ≡ pointwise nat_eq (text_of x) (text_of y)) where
  pub attribute_decides : (x y : Attribute T.Denot) → Decides ((attribute_impl.ghosts T E dict).eq x y) (attribute_view T.Denot text_of x ≡ attribute_view T.Denot text_of y)
  attribute_decides x y =
      renamed _ _ refl (λ p. λ i. record { id = p.0 i; value = p.1 i }) (λ h. (ap (λ (r : t.Attribute). r.id) h, ap (λ (r : t.Attribute). r.value) h))
      (Decides-and _ _ (name_decides T E dict lawful text_of leaf x.id y.id) (pattern_decides T E dict lawful text_of leaf x.value y.value))

  pub comment_decides : (x y : Comment T.Denot) → Decides ((comment_impl.ghosts T E dict).eq x y) (comment_view T.Denot text_of x ≡ comment_view T.Denot text_of y)
  comment_decides x y = list_decides E.eq text_of (leaf_decides T E dict lawful text_of leaf) x.content.items y.content.items

  own_comment_decides : (x y : Option (Comment T.Denot)) → Decides ((option_impl.ghosts (comment_type.the_row T) (comment_impl.ghosts T E dict) (comment_impl.dict T E dict)).eq x y) (option_map (comment_view T.Denot text_of) x ≡ option_map (comment_view T.Denot text_of) y)
  own_comment_decides = option_decides (comment_type.the_row T) (comment_impl.ghosts T E dict) (comment_impl.dict T E dict) (comment_view T.Denot text_of) comment_decides

  attributes_decide : (xs ys : List (Attribute T.Denot)) → Decides (pointwise (attribute_impl.ghosts T E dict).eq xs ys) (map (attribute_view T.Denot text_of) xs ≡ map (attribute_view T.Denot text_of) ys)
  attributes_decide = list_decides (attribute_impl.ghosts T E dict).eq (attribute_view T.Denot text_of) attribute_decides

  pub message_decides : (x y : Message T.Denot) → Decides ((message_impl.ghosts T E dict).eq x y) (message_view T.Denot text_of x ≡ message_view T.Denot text_of y)
  message_decides x y =
      renamed _ _ refl (λ p. λ i. record { id = p.0 i; value = p.1.0 i; attributes = p.1.1.0 i; comment = p.1.1.1 i })
      (λ h. (ap (λ (r : t.Message). r.id) h, (ap (λ (r : t.Message). r.value) h, (ap (λ (r : t.Message). r.attributes) h, ap (λ (r : t.Message). r.comment) h))))
      (Decides-and _ _ (name_decides T E dict lawful text_of leaf x.id y.id)
      (Decides-and _ _ (option_decides (pattern_type.the_row T) (pattern_impl.ghosts T E dict) (pattern_impl.dict T E dict) (pattern_view T.Denot text_of) (pattern_decides T E dict lawful text_of leaf) x.value y.value)
      (Decides-and _ _ (attributes_decide x.attributes.items y.attributes.items) (own_comment_decides x.comment y.comment))))

  pub term_decides : (x y : Term T.Denot) → Decides ((term_impl.ghosts T E dict).eq x y) (term_view T.Denot text_of x ≡ term_view T.Denot text_of y)
  term_decides x y =
      renamed _ _ refl (λ p. λ i. record { id = p.0 i; value = p.1.0 i; attributes = p.1.1.0 i; comment = p.1.1.1 i })
      (λ h. (ap (λ (r : t.Term). r.id) h, (ap (λ (r : t.Term). r.value) h, (ap (λ (r : t.Term). r.attributes) h, ap (λ (r : t.Term). r.comment) h))))
      (Decides-and _ _ (name_decides T E dict lawful text_of leaf x.id y.id)
      (Decides-and _ _ (pattern_decides T E dict lawful text_of leaf x.value y.value)
      (Decides-and _ _ (attributes_decide x.attributes.items y.attributes.items) (own_comment_decides x.comment y.comment))))

  pub entry_decides : (x y : Entry T.Denot) → Decides ((entry_impl.ghosts T E dict).eq x y) (entry_view T.Denot text_of x ≡ entry_view T.Denot text_of y)
  entry_decides (e.Message m) (e.Message m') = renamed _ _ refl (λ p. cc) (λ h. cc) (message_decides m m')
  entry_decides (e.Message m) (e.Term m') = apart _ refl (λ h. cc)
  entry_decides (e.Message m) (e.Comment c') = apart _ refl (λ h. cc)
  entry_decides (e.Message m) (e.GroupComment c') = apart _ refl (λ h. cc)
  entry_decides (e.Message m) (e.ResourceComment c') = apart _ refl (λ h. cc)
  entry_decides (e.Message m) (e.Junk s') = apart _ refl (λ h. cc)
  entry_decides (e.Term m) (e.Message m') = apart _ refl (λ h. cc)
  entry_decides (e.Term m) (e.Term m') = renamed _ _ refl (λ p. cc) (λ h. cc) (term_decides m m')
  entry_decides (e.Term m) (e.Comment c') = apart _ refl (λ h. cc)
  entry_decides (e.Term m) (e.GroupComment c') = apart _ refl (λ h. cc)
  entry_decides (e.Term m) (e.ResourceComment c') = apart _ refl (λ h. cc)
  entry_decides (e.Term m) (e.Junk s') = apart _ refl (λ h. cc)
  entry_decides (e.Comment c) (e.Message m') = apart _ refl (λ h. cc)
  entry_decides (e.Comment c) (e.Term m') = apart _ refl (λ h. cc)
  entry_decides (e.Comment c) (e.Comment c') = renamed _ _ refl (λ p. cc) (λ h. cc) (comment_decides c c')
  entry_decides (e.Comment c) (e.GroupComment c') = apart _ refl (λ h. cc)
  entry_decides (e.Comment c) (e.ResourceComment c') = apart _ refl (λ h. cc)
  entry_decides (e.Comment c) (e.Junk s') = apart _ refl (λ h. cc)
  entry_decides (e.GroupComment c) (e.Message m') = apart _ refl (λ h. cc)
  entry_decides (e.GroupComment c) (e.Term m') = apart _ refl (λ h. cc)
  entry_decides (e.GroupComment c) (e.Comment c') = apart _ refl (λ h. cc)
  entry_decides (e.GroupComment c) (e.GroupComment c') = renamed _ _ refl (λ p. cc) (λ h. cc) (comment_decides c c')
  entry_decides (e.GroupComment c) (e.ResourceComment c') = apart _ refl (λ h. cc)
  entry_decides (e.GroupComment c) (e.Junk s') = apart _ refl (λ h. cc)
  entry_decides (e.ResourceComment c) (e.Message m') = apart _ refl (λ h. cc)
  entry_decides (e.ResourceComment c) (e.Term m') = apart _ refl (λ h. cc)
  entry_decides (e.ResourceComment c) (e.Comment c') = apart _ refl (λ h. cc)
  entry_decides (e.ResourceComment c) (e.GroupComment c') = apart _ refl (λ h. cc)
  entry_decides (e.ResourceComment c) (e.ResourceComment c') = renamed _ _ refl (λ p. cc) (λ h. cc) (comment_decides c c')
  entry_decides (e.ResourceComment c) (e.Junk s') = apart _ refl (λ h. cc)
  entry_decides (e.Junk s) (e.Message m') = apart _ refl (λ h. cc)
  entry_decides (e.Junk s) (e.Term m') = apart _ refl (λ h. cc)
  entry_decides (e.Junk s) (e.Comment c') = apart _ refl (λ h. cc)
  entry_decides (e.Junk s) (e.GroupComment c') = apart _ refl (λ h. cc)
  entry_decides (e.Junk s) (e.ResourceComment c') = apart _ refl (λ h. cc)
  entry_decides (e.Junk s) (e.Junk s') = renamed _ _ refl (λ p. cc) (λ h. cc) (leaf_decides T E dict lawful text_of leaf s s')

  pub resource_decides : (x y : Resource T.Denot) → Decides ((resource_impl.ghosts T E dict).eq x y) (resource_view T.Denot text_of x ≡ resource_view T.Denot text_of y)
  resource_decides x y = list_decides (entry_impl.ghosts T E dict).eq (entry_view T.Denot text_of) entry_decides x.body.items y.body.items
