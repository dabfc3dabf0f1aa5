use Rattle.std.proofs.Common.{sym, ap, subst, ◌∙◌}
use Rattle.zone_model.specs.declared.entry.Reply.{Reply}
use Rattle.zone_model.specs.Bare.{bare_reply}
use Rattle.zone_escape.specs.Making.{Makes}
use Rattle.zone_escape.proofs.Stepped.{replied_plain, still_running, not_leave}
use Rattle.zone_escape.proofs.stepping.make.Goals as goal

pub twice-requires : goal.twice-requires
twice-requires c = replied_plain c.args.local.now c.make_plain.new.local c.args.heap.now c.make_plain.new.heap c.args.call.now c.in_ok-reply.reply c.requires.can c.requires.built (not_leave c.args.call.now c.in_default.not-Leave) c.in_ok-reply.ensures.ok

pub returns : goal.returns
returns c =
    let l = c.args.local.now in
    let m = c.make_plain.new.local in
    let h = c.args.heap.now in
    let k = c.make_plain.new.heap in
    let stays = not_leave c.args.call.now c.in_default.not-Leave in
    record {
      ok = subst (λ (r : Reply). Makes l m h k c.args.call.now r) (sym c.twice.ensures.reply) c.in_ok-reply.ensures.ok;
      same = ap bare_reply (c.twice.ensures.copy ∙ sym c.twice.ensures.reply);
      ended = still_running l m h k c.args.call.now c.in_ok-reply.reply c.requires.can c.requires.built stays c.in_ok-reply.ensures.ok ∙ sym stays;
      err = tt;
      cycle = c.in_ok-reply.ensures.cycle;
    }
