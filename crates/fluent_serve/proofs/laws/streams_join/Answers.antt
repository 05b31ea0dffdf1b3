use Rattle.fluent_serve.proofs.Streams.{streams_join}
use Rattle.fluent_serve.proofs.laws.streams_join.Goals as goal

pub returns : goal.returns
returns c = streams_join
