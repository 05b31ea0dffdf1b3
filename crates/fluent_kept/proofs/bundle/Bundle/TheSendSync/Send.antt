-- A bundle may go to another thread.
use denote.Param.Send.{IsSend}
use Rattle.fluent_kept.proofs.Crossing.{bundle_keyless}
use Rattle.fluent_kept.specs.contracts.bundle.Bundle.{the_row}

pub send : IsSend the_row
send = record {
  owned = λ d vs. ((λ vss. (tt, (tt, (tt, (tt, tt))))), bundle_keyless d.sources d.read d.desk d.catalog);
  leaving = λ k d w. tt;
}
