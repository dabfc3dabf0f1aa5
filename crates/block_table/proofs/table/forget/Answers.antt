use Rattle.block_table.proofs.Clearing.{cleared_began, cleared_entries, cleared_forgotten, cleared_lying, cleared_spare}
use Rattle.block_table.proofs.table.forget.Goals as goal

pub returns-clause-entries : goal.returns-clause-entries
returns-clause-entries c = λ ks. cleared_entries c.args.graph.now c.unreserve.new.self c.begin.new.self c.forget_all.new.self c.args.ids.now c.unreserve.ensures c.begin.ensures c.is_graph.ensures c.forget_all.ensures.less c.forget_all.ensures.none ks

pub returns-clause-forgotten : goal.returns-clause-forgotten
returns-clause-forgotten c = λ ks apart b h. cleared_forgotten c.args.graph.now c.unreserve.new.self c.begin.new.self c.forget_all.new.self c.args.ids.now c.unreserve.ensures c.begin.ensures c.is_graph.ensures c.forget_all.ensures.less c.forget_all.ensures.none ks apart b h

pub returns-clause-all : goal.returns-clause-all
returns-clause-all c = cleared_began c.args.graph.now c.unreserve.new.self c.begin.new.self c.forget_all.new.self c.args.ids.now c.unreserve.ensures c.begin.ensures c.is_graph.ensures c.forget_all.ensures.less c.forget_all.ensures.none

pub returns-clause-spare : goal.returns-clause-spare
returns-clause-spare c = cleared_spare c.args.graph.now c.unreserve.new.self c.begin.new.self c.forget_all.new.self c.args.ids.now c.unreserve.ensures c.begin.ensures c.is_graph.ensures c.forget_all.ensures.less c.forget_all.ensures.none

pub returns-clause-lying : goal.returns-clause-lying
returns-clause-lying c = λ ks used room h. cleared_lying c.args.graph.now c.unreserve.new.self c.begin.new.self c.forget_all.new.self c.args.ids.now c.unreserve.ensures c.begin.ensures c.is_graph.ensures c.forget_all.ensures.less c.forget_all.ensures.none ks used room h
