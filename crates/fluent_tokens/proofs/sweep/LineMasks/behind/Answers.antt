use Rattle.std.proofs.Common.{◌+◌, arith}
use Rattle.std.proofs.lemmas.List.{length-drop}
use Rattle.fluent_tokens.specs.Bytes.{is_line_feed, is_brace}
use Rattle.fluent_tokens.proofs.Swept.{mask_behind}
use Rattle.fluent_tokens.proofs.sweep.LineMasks.behind.Goals as goal

pub returns : goal.returns
returns c = λ text h.
    let told = c.args.self.now in
    let place = c.args.place in
    record {
      within = omega (arith, h.within, c.requires.place, length-drop (place + 1) text);
      short = omega (arith, h.short);
      feeds = mask_behind is_line_feed text told.count place told.feeds c.requires.place h.feeds;
      braces = mask_behind is_brace text told.count place told.braces c.requires.place h.braces;
    }
