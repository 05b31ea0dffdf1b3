use Rattle.std.proofs.Common.{sym, subst}
use Rattle.std.specs.Str.{IsAscii}
use Rattle.fluent_languages.proofs.Ascii.{front_is_ascii, halves_are_ascii, rest_is_ascii}
use Rattle.fluent_languages.proofs.walking.VariantsIterator.next.Goals as goal

pub text_of-requires : goal.text_of-requires
text_of-requires c =
    let all : IsAscii c.as_bytes.result.now = subst IsAscii (sym c.as_bytes.ensures.value) c.args.self.now.is_ascii in
    (halves_are_ascii _ _ _ c.split_part-split.ensures.whole (front_is_ascii _ _ (rest_is_ascii 1 _ all))).1

pub invariant_of-self : goal.invariant_of-self
invariant_of-self c =
    let all : IsAscii c.as_bytes.result.now = subst IsAscii (sym c.as_bytes.ensures.value) c.args.self.now.is_ascii in
    record {
      is_ascii = subst IsAscii (sym c.text_of.ensures) (halves_are_ascii _ _ _ c.split_part-split.ensures.whole (front_is_ascii _ _ (rest_is_ascii 1 _ all))).1;
    }

pub text_of-requires-in-len1-up : goal.text_of-requires-in-len1-up
text_of-requires-in-len1-up c =
    let all : IsAscii c.as_bytes.result.now = subst IsAscii (sym c.as_bytes.ensures.value) c.args.self.now.is_ascii in
    (halves_are_ascii _ _ _ c.split_part-split.ensures.whole (front_is_ascii _ _ (rest_is_ascii 1 _ all))).0
