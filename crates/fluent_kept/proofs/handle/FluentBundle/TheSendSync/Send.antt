-- The handle of a bundle may go to another thread.
use denote.Param.Send.{IsSend}
use Rattle.fluent_kept.proofs.Crossing.{handle_keyless}
use Rattle.fluent_kept.specs.contracts.handle.FluentBundle.{the_row}

pub send : IsSend the_row
send = record {
  owned = λ d vs. ((λ vss. (tt, (tt, (tt, (tt, (tt, tt)))))), handle_keyless d.held d.sources d.read d.desk d.catalog);
  leaving = λ k d w. tt;
}
