use Rattle.std.proofs.Common.{◌∙◌, count_by, subst, sym, ap, refl}
use Rattle.heap_cycle.specs.Phases.{IsCondemned}
use Rattle.heap_cycle.proofs.Condemned.{condemned_collects, few_in_table, is_condemned, kept_fits, reply_fits}
use Rattle.heap_cycle.proofs.open_cycle.OpenCycle.condemn.Goals as goal

pub waiting_among-left-requires : goal.waiting_among-left-requires
waiting_among-left-requires c =
    let m = c.in-Marking in
    let f = c.finish_uncounted-condemned in
    record { few = rw c.as_slice.ensures (few_in_table c.args.tables.now f.new.graph c.args.self m.marker m.reply m.kept f.result.ids.list c.requires.collects m.is f.result.ascending f.ensures.ids c.len-blocks.ensures.table) }

pub copied-reply-requires-clause-room : goal.copied-reply-requires-clause-room
copied-reply-requires-clause-room c =
    let m = c.in-Marking in
    let f = c.finish_uncounted-condemned in
    rw c.as_slice-2.ensures (reply_fits c.args.tables.now f.new.graph c.args.self m.marker m.reply m.kept f.result.ids.list c.requires.collects m.is f.result.ascending f.ensures.ids)

pub new-requires : goal.new-requires
new-requires c =
    let m = c.in-Marking in
    let f = c.finish_uncounted-condemned in
    kept_fits c.args.tables.now f.new.graph c.args.self m.marker m.reply m.kept f.result.ids.list c.requires.collects m.is f.result.ascending f.ensures.ids

pub returns-clause-condemned : goal.returns-clause-condemned
returns-clause-condemned c =
    let m = c.in-Marking in
    let f = c.finish_uncounted-condemned in
    let e = f.ensures in
    subst (IsCondemned c.args.tables.now f.new.graph c.args.self _) (sym (c.copied-reply.ensures ∙ c.as_slice-2.ensures))
    (is_condemned c.args.tables.now f.new.graph c.args.self m.marker m.reply m.kept f.result.ids.list c.requires.collects m.is f.result.ascending e.ids _ c.new.result e.only.rest e.finishes e.shut e.no_grey c.new.ensures.condemned c.new.ensures.fresh
    (c.waiting_among-left.ensures ∙ ap (count_by _) c.as_slice.ensures) refl)

pub returns-clause-collects : goal.returns-clause-collects
returns-clause-collects c = condemned_collects c.args.tables.now c.finish_uncounted-condemned.new.graph c.args.self _ c.copied-reply.result.list c.requires.marking (returns-clause-condemned c) c.requires.collects
