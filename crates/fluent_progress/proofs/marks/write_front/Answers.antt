use Rattle.std.proofs.Common.{◌++◌, [], cond, ap, sym, ◌∙◌}
use Rattle.std.specs.Prelude.{encode_utf8, string_bytes}
use Rattle.fluent_meaning.proofs.Opening.{front-bytes}
use Rattle.fluent_progress.proofs.marks.write_front.Goals as goal

pub returns-in_ok-push_str : goal.returns-in_ok-push_str
returns-in_ok-push_str c =
    c.in_ok-push_str.ensures.bytes
    ∙ ap (λ m. string_bytes c.args.out.now ++ m) front-bytes
    ∙ ap (λ b. string_bytes c.args.out.now ++ cond b (encode_utf8 0x2068) []) (sym c.if-is_isolated.true)
