use Rattle.std.proofs.Common.{◌≡◌, ◌∙◌, ◌++◌, ◌∷◌, [], true, false, Some, get_or, map, string_bytes, ap, sym, rules}
use Rattle.std.specs.List.{find}
use Rattle.std.proofs.lemmas.List.{drop_all}
use Rattle.fluent_grammar.specs.Words.{Text}
use Rattle.lint_findings.specs.NearNames.{name_bytes}
use Rattle.lint_flaws.proofs.NearFound.{found_first, found_later, joined_one, between_at}
use Rattle.lint_flaws.proofs.Slips.{name_bytes_ascii}
use Rattle.lint_flaws.proofs.near.has_between.Goals as goal

pub push_ascii-requires : goal.push_ascii-requires
unfolding name_bytes
push_ascii-requires g c = name_bytes_ascii c.as_bytes-byte-items.result.now c.as_bytes-byte-items.ensures.value c.loop-byte.byte-index

pub returns-then-has_name : goal.returns-then-has_name
unfolding name_bytes
returns-then-has_name g c =
    let p = g.N.KnownNames.knows c.args.names.now in
    let items = c.as_bytes-byte-items.result.now in
    let i = c.loop-byte.byte-index in
    let front = c.args.front.now in
    let back = c.args.back.now in
    let is : string_bytes c.push_str-in-loop-byte.new.self ≡ front ++ get_or items i 0 ∷ back =
    joined_one front (get_or items i 0) back
    (let a : string_bytes c.push_str.new.self ≡ front = search rules in a)
    (let b : string_bytes c.push_ascii.new.text ≡ string_bytes c.push_str.new.self ++ get_or items i 0 ∷ [] = search rules in b)
    (let d : string_bytes c.push_str-in-loop-byte.new.self ≡ string_bytes c.push_ascii.new.text ++ back = search rules in d) in
    let known : p (front ++ get_or items i 0 ∷ back) ≡ true = cc in
    let all = ap (λ (bytes : Text). find p (map (λ b. front ++ b ∷ back) bytes)) c.as_bytes-byte-items.ensures.value in
    ap Some is ∙ sym (sym all ∙ c.loop-byte.invariant ∙ found_first p _ _ (front ++ get_or items i 0 ∷ back) (between_at front back items i c.loop-byte-test.true) known)

pub loop-byte-preserved : goal.loop-byte-preserved
loop-byte-preserved g c =
    let p = g.N.KnownNames.knows c.args.names.now in
    let items = c.as_bytes-byte-items.result.now in
    let i = c.loop-byte.byte-index in
    let front = c.args.front.now in
    let back = c.args.back.now in
    let is : string_bytes c.push_str-in-loop-byte.new.self ≡ front ++ get_or items i 0 ∷ back =
    joined_one front (get_or items i 0) back
    (let a : string_bytes c.push_str.new.self ≡ front = search rules in a)
    (let b : string_bytes c.push_ascii.new.text ≡ string_bytes c.push_str.new.self ++ get_or items i 0 ∷ [] = search rules in b)
    (let d : string_bytes c.push_str-in-loop-byte.new.self ≡ string_bytes c.push_ascii.new.text ++ back = search rules in d) in
    let unknown : p (front ++ get_or items i 0 ∷ back) ≡ false = cc in
    c.loop-byte.invariant ∙ found_later p _ _ (front ++ get_or items i 0 ∷ back) (between_at front back items i c.loop-byte-test.true) unknown

pub returns : goal.returns
unfolding name_bytes
returns g c =
    let p = g.N.KnownNames.knows c.args.names.now in
    let names_with = λ (bytes : Text). find p (map (λ b. c.args.front.now ++ b ∷ c.args.back.now) bytes) in
    let items = c.as_bytes-byte-items.result.now in
    sym (sym (ap names_with c.as_bytes-byte-items.ensures.value) ∙ c.loop-byte.invariant ∙ ap names_with (drop_all c.loop-byte.byte-index items c.loop-byte-test.false))
