use Rattle.std.proofs.Common.{subst, arith}
use Rattle.std.proofs.lemmas.List.{take_all}
use Rattle.play_core.specs.Opening.{AreNew}
use Rattle.play_core.proofs.Opening.{new_next}
use Rattle.play_core.proofs.world.sets.Goals as goal

pub loop-thread-init : goal.loop-thread-init
loop-thread-init c = record {
  made = rw c.in_ok-locals.ensures.items tt;
  number = c.in_ok-locals.ensures.len;
  room = let most = c.in_ok-locals.ensures.capacity in omega (arith, most);
}

pub push_reserved-requires : goal.push_reserved-requires
push_reserved-requires c = let i = c.loop-thread.invariant in let number = i.number in let room = i.room in let lt = c.loop-thread-test.true in omega (arith, number, room, lt)

pub loop-thread-preserved : goal.loop-thread-preserved
loop-thread-preserved c =
    let i = c.loop-thread.invariant in
    let new = c.new.ensures in
    record {
      made = rw c.push_reserved.ensures.items (new_next c.args.options c.args.threads.now c.loop-thread.thread-index c.thread-item.result c.loop-thread.locals.items c.new.result c.loop-thread-test.true c.thread-item.is i.made
          record { thread = new.thread; unused = record { part = new.part; out = new.waiting; published = new.published } });
      number = let len = c.push_reserved.ensures.len in let number = i.number in omega (arith, len, number);
      room = let most = c.push_reserved.ensures.capacity in let room = i.room in omega (arith, most, room);
    }

pub returns : goal.returns
returns c = subst (λ ts. AreNew c.args.options ts c.loop-thread.locals.items) (take_all c.loop-thread.thread-index c.args.threads.now c.loop-thread-test.false) c.loop-thread.invariant.made
