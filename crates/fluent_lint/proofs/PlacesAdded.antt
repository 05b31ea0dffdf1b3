-- The first places of messages, once one more was added.
use Rattle.std.proofs.Common.{◌≡◌, ◌∙◌, ℕ, Bool, true, false, cond, if◌then◌else◌, List, [], ◌∷◌, ◌++◌, Option, Some, None, refl, ap, sym, Bor}
use Rattle.std.specs.Option.{unwrap_or}
use Rattle.std.specs.Bool.{nat_eq}
use Rattle.std.specs.Str.{bytes_eq}
use Rattle.std.specs.Cmp.Lexicographic.{pointwise, same_text}
use Rattle.std.specs.HashMap.{HashMap, Updates, get, get_by}
use Rattle.fluent_grammar.specs.Words.{Text}
use Rattle.fluent_lint.specs.Pairs.{first_place}

-- names are the same, by their bytes
abbrev pub same_name : Bor Text → Bor Text → Bool
same_name x y = pointwise nat_eq x.now y.now

abbrev or_else : Option ℕ → Option ℕ → Option ℕ
or_else None o = o
or_else (Some at) o = Some at

first_more : (id : Text) (ps : List (Text × ℕ)) (p : Text × ℕ) → first_place id (ps ++ p ∷ []) ≡ or_else (first_place id ps) (if bytes_eq p.0 id then Some p.1 else None)
first_more id [] p = refl
first_more id (q ∷ ps) p = by (bytes_eq q.0 id) (first_more id ps p)
  where
    by : (b : Bool) → first_place id (ps ++ p ∷ []) ≡ or_else (first_place id ps) (if bytes_eq p.0 id then Some p.1 else None) →
        (if b then Some q.1 else first_place id (ps ++ p ∷ [])) ≡ or_else (if b then Some q.1 else first_place id ps) (if bytes_eq p.0 id then Some p.1 else None)
    by true later = refl
    by false later = later

module _ {S : Type 0} (m n : HashMap (Bor Text) ℕ S) (id : Bor Text) (at : ℕ) (ps : List (Text × ℕ))
    (first : (q : Text) → get_by (λ k. bytes_eq q k.now) m ≡ first_place q ps) where
  here : (v : Option ℕ) → Some (unwrap_or v at) ≡ or_else v (Some at)
  here None = refl
  here (Some v) = refl

  there : (o : Option ℕ) → o ≡ or_else o None
  there None = refl
  there (Some x) = refl

  kept_or : (q : Text) → (b : Bool) → bytes_eq id.now q ≡ b →
      cond b (Some (unwrap_or (get same_name m id) at)) (get_by (λ k. bytes_eq q k.now) m) ≡ or_else (first_place q ps) (if b then Some at else None)
  kept_or q true is =
      let same : id.now ≡ q = same_text id.now q (sym is) in
      here (get same_name m id) ∙ ap (λ o. or_else o (Some at)) (first id.now ∙ ap (λ x. first_place x ps) same)
  kept_or q false is = first q ∙ there (first_place q ps)

  pub added : Updates same_name m n id (Some (unwrap_or (get same_name m id) at)) → (q : Text) → get_by (λ k. bytes_eq q k.now) n ≡ first_place q (ps ++ (id.now, at) ∷ [])
  added updates q =
      updates.0 (record { ref_ptr = (0, 0); now = q })
      ∙ kept_or q (bytes_eq id.now q) refl
      ∙ sym (first_more q ps (id.now, at))
