use Rattle.std.proofs.Common.{◌≤◌, refl, subst}
use Rattle.zone_escape.proofs.Received.{received_none, replaced_once, received_block}
use Rattle.zone_escape.proofs.receiving.receive.Goals as goal

pub returns-in_default : goal.returns-in_default
returns-in_default c = record {
  together = λ z k. received_none c.args.local.now c.args.heap.now c.args.to c.args.reply.now z (subst (λ n. n ≤ 15) c.get.ensures.value c.get.ensures.range) c.requires.out c.in_default.not-Block k;
  local = refl;
  heap = refl;
}

pub drop_hold-requires : goal.drop_hold-requires
drop_hold-requires c = record {
  counted = (c.requires.called.0, replaced_once c.args.local.now c.receive.new.self c.mark_published.new.self c.args.to (subst (λ n. n ≤ 15) c.get.ensures.value c.get.ensures.range) c.in-Block.id c.receive.ensures.part c.receive.ensures.rest c.mark_published.ensures c.args.heap.now c.args.reply.now c.register.result c.requires.called.0 c.in-Block.is c.register.ensures c.requires.called.1);
}

pub returns-clause-together : goal.returns-clause-together
returns-clause-together c = λ z k.
    received_block c.args.local.now c.receive.new.self c.mark_published.new.self c.args.to (subst (λ n. n ≤ 15) c.get.ensures.value c.get.ensures.range) c.in-Block.id c.receive.ensures.part c.receive.ensures.rest c.mark_published.ensures c.args.heap.now c.drop_hold.new.heap c.args.reply.now c.register.result z c.requires.out c.in-Block.is
    c.register.ensures c.drop_hold.ensures.agree c.drop_hold.ensures.stands c.drop_hold.ensures.rest k
