use Rattle.std.proofs.Common.{refl}
use Rattle.fluent_progress.proofs.Counting.{open-more, open-past}
use Rattle.fluent_progress.proofs.frames.Frames.open.Goals as goal

pub returns-in-Ok-clause-opened : goal.returns-in-Ok-clause-opened
returns-in-Ok-clause-opened c = open-more c.args.self.now _ c.args.bytes c.open.ensures.budget refl c.in-Ok.ensures.opened

pub returns-in-Err-clause-past : goal.returns-in-Err-clause-past
returns-in-Err-clause-past c = open-past c.args.self.now c.args.bytes c.in-Err.ensures.past
