use Rattle.zone_escape_tests.proofs.Taken.{first, second, third}
use Rattle.zone_escape_tests.proofs.rows.is_row.Goals as goal

pub returns-in-1 : goal.returns-in-1
returns-in-1 c = first c.args.core.now c.is_answered.new.core c.args.first.now c.args.second.now c.args.third.now c.is_answered.new.local c.requires c.is_answered.ensures

pub returns-in-2 : goal.returns-in-2
returns-in-2 c = second c.args.core.now c.is_answered-in-2.new.core c.args.first.now c.args.second.now c.args.third.now c.is_answered-in-2.new.local c.requires c.is_answered-in-2.ensures

pub returns-in_default : goal.returns-in_default
returns-in_default c = third c.args.core.now c.is_answered-in_default.new.core c.args.first.now c.args.second.now c.args.third.now c.is_answered-in_default.new.local c.requires c.is_answered-in_default.ensures
