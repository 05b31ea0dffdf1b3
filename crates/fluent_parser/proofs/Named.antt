-- The name of a named argument is the identifier that the argument begins with.
use Rattle.std.proofs.Common.{◌≡◌, [], drop, take, sym, subst, ◌∙◌, inl, inr, None}
use Rattle.std.specs.List.{list_all}
use Rattle.fluent_grammar.specs.Words as w
use Rattle.fluent_grammar.specs.Words.{Text, skip_blank, begins_with}
use Rattle.fluent_grammar.specs.Refusal.{got, ◌>>=◌}
use Rattle.fluent_grammar.specs.Tree as t
use Rattle.fluent_grammar.specs.Reading as g
use Rattle.fluent_grammar.proofs.Got.{bind_got, mapped_got, got_node, which}
use Rattle.fluent_parser.specs.Reads.{whole}
use Rattle.fluent_parser.proofs.Whole.{whole-inline}

-- the identifier at the front of a text is the name of an expression, if it is a message's reference
abbrev BeginsIt : Text → t.Inline → Type 0
BeginsIt s (t.message_reference name attribute) = take (w.name_len s) s ≡ name
BeginsIt s _ = Unit {0}

identifier_got : (s id rest : Text) → g.identifier_at s ≡ got id rest → take (w.name_len s) s ≡ id
unfolding g.identifier_at
identifier_got s id rest h =
    elim (which (w.begins w.is_letter s) _ _ _ h) [
      | inl p ↦ (got_node p.1).0
      | inr p ↦ absurd cc
    ]

term_begins : (s u : Text) (e : t.Inline) (rest : Text) → g.term_at whole u ≡ got e rest → BeginsIt s e
unfolding g.term_at g.term_arguments_at
term_begins s u e rest h =
    let id = bind_got (g.identifier_at u) (λ id. g.accessor_at id.1 >>= (λ attribute. g.term_arguments_at whole id.0 attribute.0 (skip_blank attribute.1))) e rest h in
    let attribute = bind_got (g.accessor_at id.1) (λ attribute. g.term_arguments_at whole id.0 attribute.0 (skip_blank attribute.1)) e rest id.3 in
    elim (which (begins_with w.open_paren (skip_blank attribute.1)) _ _ _ attribute.3) [
      | inl p ↦ subst (BeginsIt s) (mapped_got _ _ e rest p.1).2 tt
      | inr p ↦ subst (BeginsIt s) (got_node p.1).0 tt
    ]

function_begins : (s id u : Text) (args : t.Arguments) (e : t.Inline) (rest : Text) → g.function_of whole id args u ≡ got e rest → BeginsIt s e
unfolding g.function_of
function_begins s id u args e rest h =
    elim (which (list_all w.is_callee_byte id) _ _ _ h) [
      | inl p ↦ subst (BeginsIt s) (got_node p.1).0 tt
      | inr p ↦ absurd cc
    ]

named_begins : (s : Text) (e : t.Inline) (rest : Text) → g.named_at whole s ≡ got e rest → BeginsIt s e
unfolding g.named_at g.called_at
named_begins s e rest h =
    let id = bind_got (g.identifier_at s) (λ id. g.called_at whole id.0 (skip_blank id.1)) e rest h in
    elim (which (begins_with w.open_paren (skip_blank id.1)) _ _ _ id.3) [
      | inl p ↦ let args = bind_got (whole.arguments [] (skip_blank (drop 1 (skip_blank id.1)))) (λ args. g.function_of whole id.0 args.0 args.1) e rest p.1 in function_begins s id.0 args.1 args.0 e rest args.3
      | inr p ↦ subst (BeginsIt s) (mapped_got _ _ e rest p.1).2 (identifier_got s id.0 id.1 id.2)
    ]

inline_begins : (s : Text) (e : t.Inline) (rest : Text) → g.inline_at whole s ≡ got e rest → BeginsIt s e
unfolding g.inline_at
inline_begins s e rest h =
    elim (which (begins_with w.quote s) _ _ _ h) [
      | inl p ↦ subst (BeginsIt s) (mapped_got _ _ e rest p.1).2 tt
      | inr p ↦ elim (which (w.begins w.is_digit s) _ _ _ p.1) [
        | inl q ↦ subst (BeginsIt s) (mapped_got _ _ e rest q.1).2 tt
        | inr q ↦ elim (which (begins_with w.hyphen s) _ _ _ q.1) [
          | inl i ↦ elim (which (w.begins w.is_letter (drop 1 s)) _ _ _ i.1) [
            | inl j ↦ term_begins s (drop 1 s) e rest j.1
            | inr j ↦ subst (BeginsIt s) (mapped_got _ _ e rest j.1).2 tt
          ]
          | inr i ↦ elim (which (begins_with w.dollar s) _ _ _ i.1) [
            | inl j ↦ subst (BeginsIt s) (mapped_got _ _ e rest j.1).2 tt
            | inr j ↦ elim (which (w.begins w.is_letter s) _ _ _ j.1) [
              | inl k ↦ named_begins s e rest k.1
              | inr k ↦ elim (which (begins_with w.open_brace s) _ _ _ k.1) [
                | inl l ↦ subst (BeginsIt s) (mapped_got _ _ e rest l.1).2 tt
                | inr l ↦ absurd cc
              ]
            ]
          ]
        ]
      ]
    ]

pub name_begins : (s name rest : Text) (e : t.Inline) → whole.inline s ≡ got e rest → e ≡ t.message_reference name None → take (w.name_len s) s ≡ name
name_begins s name rest e h k = subst (BeginsIt s) k (inline_begins s e rest (sym (whole-inline s) ∙ h))
