use Rattle.std.proofs.Common.{refl}
use Rattle.fluent_progress.proofs.Counting.{open-less}
use Rattle.fluent_progress.proofs.frames.Frames.close.Goals as goal

pub returns : goal.returns
returns c = open-less c.args.self.now _ c.args.bytes c.close.ensures.budget refl c.close.ensures.closed
