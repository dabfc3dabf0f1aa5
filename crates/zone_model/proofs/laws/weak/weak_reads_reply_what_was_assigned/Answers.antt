use Rattle.zone_model.proofs.WeakReads.{weak_read}
use Rattle.zone_model.proofs.laws.weak.weak_reads_reply_what_was_assigned.Goals as goal

pub returns : goal.returns
returns c = weak_read
